-- The names of other crates and of this crate's specs that its proofs cite, passed on from one place. Declares nothing.
pub use Rattle.std.proofs.Common.{Bool, Err, IfNone, IfSome, IsPermutation, IsSome, List, None, Ok, OnErr, OnOk, OnSome, Option, Result, Some, [], add-one, ap, append_assoc, arith, cond, drop, eq-eqb, false, filter, get_or, if◌then◌else◌, inl, inr, is_none, is_some, length, length-append, nat_eq, nat_lt, not, option_and_then, option_copied, option_map, position, refl, rules, slice_get, subst, suc, sum_by, sym, take, take-append-drop, true, vec_capacity, zero, ℕ, ◌&&◌, ◌++◌, ◌+◌, ◌-◌, ◌<◌, ◌==◌, ◌||◌, ◌∙◌, ◌∷◌, ◌≡◌, ◌≢◌, ◌≤◌, ◌⊎◌}
pub use Rattle.std.proofs.Math.Bool.{and-true}
pub use Rattle.std.proofs.lemmas.Bool.Decides.{nat_tests}
pub use Rattle.std.proofs.lemmas.Bool.{cases_lt, eqb-false, eqb-true}
pub use Rattle.std.proofs.lemmas.Cmp.{nat_cmp_total, nat_list_cmp_total, nat_list_eq_equiv, on_total, then_total, tied_itself, upto}
pub use Rattle.std.proofs.lemmas.Fn.{always_returns_same}
pub use Rattle.std.proofs.lemmas.Grind.{common_steps}
pub use Rattle.std.proofs.lemmas.Iterator.Consumers.{YieldsList-end, YieldsList-turn}
pub use Rattle.std.proofs.lemmas.Iterator.Splits.{YieldsList-from_slice_split}
pub use Rattle.std.proofs.lemmas.List.Elements.{All-cons, All-contains, All-head, All-nil, All-push, All-tail, All-weaker, Contains-append_cases, Contains-append_left, Contains-append_right, Contains-get_or, filter_agree, filter_passes}
pub use Rattle.std.proofs.lemmas.List.Kept.{AllPairs-cons}
pub use Rattle.std.proofs.lemmas.List.MinMax.{ranks_by}
pub use Rattle.std.proofs.lemmas.List.Quantifiers.{position-Some}
pub use Rattle.std.proofs.lemmas.List.Sorted.{All-permutation, Contains-permutation, IsPartitionPoint-from_clause, IsPermutation-append_left, IsPermutation-filter_both, IsPermutation-insert, IsPermutation-middle, IsPermutation-refl, IsPermutation-sym, IsPermutation-trans, length_permutation, sorted_far, sum_by-IsPermutation}
pub use Rattle.std.proofs.lemmas.List.Sums.{sum_by-cons}
pub use Rattle.std.proofs.lemmas.List.{append-nil, length_push, same_from_push, take_all, take_more}
pub use Rattle.std.proofs.lemmas.Map.Lookups.{CmpEqualImpliesEq, exact_bytes, exact_pairs, exact_unsigned}
pub use Rattle.std.proofs.lemmas.Option.{slice_get_within}
pub use Rattle.std.proofs.lemmas.Slice.Eq.{bytes_eq-Decides, slice_eq-Decides}
pub use Rattle.std.specs.Cmp.Lexicographic.{options_total, pointwise, slice_cmp}
pub use Rattle.std.specs.Cmp.{IsTotalOrder}
pub use Rattle.std.specs.List.Sorted.{IsPartitionPoint, IsPartitionedBy, IsSortedBy}
pub use Rattle.std.specs.List.{insert, list_any, position_or_len, prefix_len, range_with_len}
pub use Rattle.std.specs.Option.{option_cmp, option_map_or, option_or}
pub use Rattle.std.specs.Ordering.{is_gt, is_lt, nat_cmp, ordering_reverse, ordering_then}
pub use Rattle.std.specs.Prelude.{All, AllPairs, Contains}
pub use Rattle.std.specs.Slice.Iter.{split_callee, split_done, split_rest}
pub use Rattle.std.specs.declared.cmp.Ordering.TheVariants.{Equal, Greater, Less}
pub use Rattle.std.specs.declared.cmp.Ordering.{Ordering}
pub use Rattle.uvm_glob.specs.Faults.{fault_if}
pub use Rattle.uvm_glob.specs.Lists.{first_given}
pub use Rattle.uvm_glob.specs.Orders.{down_cmp, order_of, up_cmp}
pub use Rattle.uvm_glob.specs.Paths.{between_dots, names_of, path_fault}
pub use Rattle.uvm_glob.specs.declared.orders.Direction.TheVariants.{Down, Up}
pub use Rattle.uvm_glob.specs.declared.orders.Direction.{Direction}
pub use Rattle.uvm_tree.specs.ChildCursors.{CursorValue, children_left, is_left, is_named_after, seen}
pub use Rattle.uvm_tree.specs.Children.{ChildrenValue, GivesNextChild, all_children, children_of, is_named_before, is_under, name_at, own_name}
pub use Rattle.uvm_tree.specs.Cursors.{AreNodesOrdered, IsLeast, LeastIsLeast, OneIsLeast, OrdersNodes, is_before, least, node_cmp, nodes_after, numbers_of, sooner}
pub use Rattle.uvm_tree.specs.Families.{AreFamilies, IsNextChild, Place, child_in, is_child_after, is_in_front, is_passed, is_upto, place_at, place_cmp}
pub use Rattle.uvm_tree.specs.Nodes.{AreNodes, AreSiblingsApart, AreSound, Node, NodesGrow, TreeValue, child, is_child, is_path, most_nodes, node_at, number_at, parent_of, path_at, top, under_at}
unfoldable pub use Rattle.uvm_tree.specs.Nodes.{add_fault}
pub use Rattle.uvm_tree.specs.Sorted.{PathOrderIsInOrder, inserted}
unfoldable pub use Rattle.uvm_tree.specs.Sorted.{path_order}
pub use Rattle.uvm_tree.specs.Walks.{IsBelow, IsBeside, IsFirstBelow}
pub use Rattle.uvm_tree.specs.declared.faults.TreeFault.TheVariants.{Full, NameTaken, NoParent, TooDeep}
pub use Rattle.uvm_tree.specs.declared.faults.TreeFault.{TreeFault}
pub use Rattle.uvm_tree.specs.declared.nodes.NodeKind.{NodeKind}
