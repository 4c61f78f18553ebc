use Rattle.world_state.proofs.Common.{◌≡◌, ◌++◌, ◌∷◌, [], take, true, drain_given, Phase, is_task, is_known, new_node, with_drain, nodes_in}
use Rattle.std.proofs.Common.{IsTrue}
use Rattle.world_state.proofs.objections.Objections.add.Given as goal

-- the node is there, with the drain times that the rows before this one give
abbrev pub invariant-loop-row : goal.invariant-loop-row
invariant-loop-row l =
    ((phase : Phase) → is_task phase ≡ true → nodes_in l.self phase ≡ with_drain l.fn.node (drain_given (take l.row l.fn.self.given) phase l.fn.path) (nodes_in l.fn.self phase ++ new_node l.fn.node l.fn.parent ∷ []))
    × ((phase : Phase) → IsTrue (is_known l.fn.node (nodes_in l.self phase))) × (l.self.given ≡ l.fn.self.given)
