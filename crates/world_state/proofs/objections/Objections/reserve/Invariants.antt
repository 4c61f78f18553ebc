use Rattle.world_state.proofs.Common.{◌≡◌}
use Rattle.world_state.proofs.Listed.{HaveRoom}
use Rattle.world_state.proofs.objections.Objections.reserve.Given as goal

-- each before this place has room
abbrev pub invariant-loop-place : goal.invariant-loop-place
invariant-loop-place l = HaveRoom l.place l.initial.self.each l.self.each × (l.self.given ≡ l.initial.self.given)
