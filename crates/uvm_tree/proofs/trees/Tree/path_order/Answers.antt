use Rattle.uvm_tree.proofs.Common.{rules, subst, List, ℕ, ranks_by, always_returns_same, Down, down_cmp, path_at, is_before, numbers_of, IsPermutation}
use Rattle.uvm_tree.proofs.SortedPaths.{sorted-is-path-order}
use Rattle.uvm_tree.proofs.trees.Tree.path_order.Goals as goal

pub returns : goal.returns
returns c =
    let nodes = c.args.self.now.nodes in
    let total = c.orders_are_total.ensures in
    let moved : IsPermutation (numbers_of nodes) c.sort_by.new.self.items = subst (λ (l : List ℕ). IsPermutation l c.sort_by.new.self.items) c.in_ok-order.ensures.numbers c.sort_by.ensures.permutation in
    sorted-is-path-order total nodes c.in_ok-order.ensures.nodes c.sort_by.new.self.items moved
    (c.in_ok-sort_by.ensures.sorted (is_before down_cmp nodes) (ranks_by (total Down) (path_at nodes)) (always_returns_same _ _ _ (λ a r f k. search rules)))
