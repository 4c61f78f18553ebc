use Rattle.world_state.proofs.Common.{◌≡◌, ℕ, length, nodes_at}
use Rattle.world_state.proofs.objections.Objections.part.Given as goal

-- each place has the nodes that it had, and there are as many as the counter says
abbrev pub invariant-loop : goal.invariant-loop
invariant-loop l = ((place : ℕ) → nodes_at l.self.each place ≡ nodes_at l.initial.self.each place) × (length l.self.each ≡ l.counter) × (l.self.given ≡ l.initial.self.given)
