use Rattle.uvm_tree.proofs.Common.{◌≡◌, ◌+◌, ◌∙◌, add-one, ap, arith, ◌++◌, ◌∷◌, [], range_with_len}
use Rattle.uvm_tree.proofs.Ranges.{range-more}
use Rattle.uvm_tree.proofs.trees.Tree.numbers.Goals as goal

pub loop-place-preserved : goal.loop-place-preserved
loop-place-preserved c =
    let more : range_with_len 1 (c.loop-place.place + 1) ≡ range_with_len 1 c.loop-place.place ++ (c.loop-place.place + 1) ∷ [] =
    ap (range_with_len 1) (add-one c.loop-place.place) ∙ range-more 1 c.loop-place.place ∙ ap (λ n. range_with_len 1 c.loop-place.place ++ n ∷ []) (omega arith) in
    rw (c.in_ok-push.ensures.items, c.new.ensures, c.loop-place.invariant, more)
