use Rattle.world_state.proofs.Common.{◌++◌, ◌∷◌, [], ◌≡◌, new_node}
use Rattle.world_state.proofs.Listed.{HaveChanged}
use Rattle.world_state.proofs.objections.Objections.add_to_each.Given as goal

-- each before this place has the node, and each from there on has room
abbrev pub invariant-loop-place : goal.invariant-loop-place
invariant-loop-place l = HaveChanged (λ nodes. nodes ++ new_node l.fn.node l.fn.parent ∷ []) l.place l.initial.self.each l.self.each × (l.self.given ≡ l.initial.self.given)
