use Rattle.world_state.proofs.Common.{◌≡◌, with_drain}
use Rattle.world_state.proofs.Listed.{HaveChanged}
use Rattle.world_state.proofs.objections.Objections.set_each_drain.Given as goal

-- each before this place has its drain time
abbrev pub invariant-loop-place : goal.invariant-loop-place
invariant-loop-place l = HaveChanged (with_drain l.node l.ticks) l.place l.initial.self.each l.self.each × (l.self.given ≡ l.initial.self.given)
