use Rattle.world_state.proofs.Common.{◌∷◌, [], top, place_in}
use Rattle.world_state.proofs.Listed.{two-alike}
use Rattle.world_state.proofs.objections.Objections.shared.Goals as goal

pub returns-clause-nodes : goal.returns-clause-nodes
returns-clause-nodes c = λ phase. rw c.in_ok-each.ensures.items (two-alike (top ∷ []) c.new.result c.new-2.result c.new.ensures c.new-2.ensures (place_in phase))
