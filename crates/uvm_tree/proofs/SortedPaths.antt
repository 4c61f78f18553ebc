-- The path order is what a sort by paths gives.
use Rattle.uvm_tree.proofs.Common.{◌≡◌, ◌<◌, ◌≤◌, ◌+◌, ◌-◌, ℕ, zero, suc, Bool, false, List, [], ◌∷◌, length, get_or, Some, None, arith, on_total, All-nil, All-cons, ranks_by, All-permutation, sorted_far, IsTotalOrder, range_with_len, IsSortedBy, Direction, Down, order_of, down_cmp, Node, AreNodes, path_at, top, is_before, node_cmp, numbers_of, path_order, All, IsPermutation}
use Rattle.uvm_tree.proofs.Counted.{one-order}
use Rattle.uvm_tree.proofs.Ordered.{nodes_are_ordered}
use Rattle.uvm_tree.proofs.Sorted.{Behind, moved, path-order-behind}

-- there is a top
some-nodes : (nodes : List Node) → AreNodes nodes → 0 < length nodes
some-nodes [] are = absurd (let none : None ≡ Some top = are.top_first in cc)
some-nodes (n ∷ nodes) are = omega arith

range-below : (first n bound : ℕ) → first + n ≤ bound → All (λ k. k < bound) (range_with_len first n)
range-below first zero bound fits = All-nil (λ k. k < bound)
range-below first (suc n) bound fits = All-cons (λ k. k < bound) first (range_with_len (first + 1) n) (omega arith) (range-below (first + 1) n bound (omega arith))

-- none of a sorted list stands before one in front of it
behind-sorted : (lt : ℕ → ℕ → Bool) (numbers : List ℕ) → ((i j d : ℕ) → i ≤ j → j < length numbers → lt (get_or numbers j d) (get_or numbers i d) ≡ false) → Behind (λ m n. lt n m ≡ false) numbers
unfolding Behind
behind-sorted lt [] far = tt
behind-sorted lt (n ∷ numbers) far =
    (λ k d within. far 0 (suc k) d (omega arith) (omega arith), behind-sorted lt numbers (λ i j d le within. far (suc i) (suc j) d (omega arith) (omega arith)))

-- the nodes of a tree, sorted by their paths, are in path order
pub sorted-is-path-order : ((direction : Direction) → IsTotalOrder (order_of direction)) → (nodes : List Node) → AreNodes nodes → (order : List ℕ) → IsPermutation (numbers_of nodes) order → IsSortedBy (is_before down_cmp nodes) order → order ≡ path_order nodes
unfolding path_order
sorted-is-path-order total nodes are order moved_is sorted_is =
    let cmp = node_cmp down_cmp nodes in
    let first = moved (is_before down_cmp nodes) [] (numbers_of nodes) in
    let small = range-below 1 (length nodes - 1) (length nodes) (omega (arith, some-nodes nodes are)) in
    one-order nodes cmp (nodes_are_ordered total nodes are Down) (numbers_of nodes) order (path_order nodes)
    (All-permutation (λ n. n < length nodes) (numbers_of nodes) order moved_is small)
    (All-permutation (λ n. n < length nodes) (numbers_of nodes) (path_order nodes) first small)
    moved_is first
    (behind-sorted (is_before down_cmp nodes) order (λ i j d le within. sorted_far (is_before down_cmp nodes) (ranks_by (total Down) (path_at nodes)) order sorted_is i j d le within))
    (path-order-behind nodes (on_total (path_at nodes) (total Down)))
