use Rattle.world_state.proofs.Common.{◌≡◌, ◌∷◌, [], take, Phase, top, nodes_in}
use Rattle.world_state.proofs.objections.Objections.new.Given as goal

-- no phase has another node, and the rows that were read are taken in
abbrev pub invariant-loop-drain : goal.invariant-loop-drain
invariant-loop-drain l = ((phase : Phase) → nodes_in l.objections phase ≡ top ∷ []) × (l.objections.given ≡ take l.drain-index l.given)
