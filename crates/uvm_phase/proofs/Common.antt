-- The names of other crates and of this crate's specs that its proofs cite, passed on from one place. Declares nothing.
pub use Rattle.std.proofs.Common.{All, AllPairs, Bool, Bor, IfSome, IsPermutation, IsSome, List, None, OnSome, Option, Some, [], ap, arith, cond, drop, eqb, false, filter, get_or, if◌then◌else◌, length, ltb, not, option_copied, option_map, refl, rules, subst, suc, sym, take, true, unwrap_or, zero, ℕ, ◌&&◌, ◌+◌, ◌<◌, ◌^◌, ◌||◌, ◌↔◌, ◌∙◌, ◌∷◌, ◌≡◌, ◌≤◌}
pub use Rattle.std.proofs.lemmas.Bool.{false≢true}
pub use Rattle.std.proofs.lemmas.Bool.Decides.{nat_tests}
pub use Rattle.std.proofs.lemmas.Fn.{filter_same}
pub use Rattle.std.proofs.lemmas.Grind.{common_steps}
pub use Rattle.std.proofs.lemmas.Iterator.Consumers.{YieldsList-from_deque, YieldsList-turn}
pub use Rattle.std.proofs.lemmas.List.{length-take-le, length_push}
pub use Rattle.std.proofs.lemmas.List.Elements.{All-cons, All-filter, All-get_or, All-head, All-nil, All-tail, All-weaker}
pub use Rattle.std.proofs.lemmas.List.Kept.{AllPairs-cons}
pub use Rattle.std.proofs.lemmas.List.Sorted.{All-permutation, IsPartitionPoint-from_clause, IsPermutation-cons, IsPermutation-map, IsPermutation-middle, IsPermutation-refl, IsPermutation-sym, IsPermutation-trans, length_permutation, sum_by-IsPermutation}
pub use Rattle.std.proofs.lemmas.List.Sums.{length-filter}
pub use Rattle.std.proofs.lemmas.Option.{gets}
pub use Rattle.std.specs.Cmp.{IsEquivalence}
pub use Rattle.std.specs.HashMap.{get}
pub use Rattle.std.specs.List.{insert, remove, slice_get}
pub use Rattle.std.specs.List.Sorted.{IsPartitionPoint, IsPartitionedBy}
pub use Rattle.std.specs.VecDeque.{deque_len}
pub use Rattle.uvm_phase.specs.Dues.{IsInOrder, IsOrderOf, in_order, insert_due, same_cause}
unfoldable pub use Rattle.uvm_phase.specs.Dues.{is_due_before}
pub use Rattle.uvm_phase.specs.Laws.{OrderKeepsAll, OrderKeepsFilters, OrderLosesFirst}
pub use Rattle.uvm_phase.specs.Owners.{CountsEach, HasAt, count_at, counted, owners_of, times}
pub use Rattle.uvm_phase.specs.declared.agendas.Due.{Due}
pub use Rattle.uvm_phase.specs.declared.owners.Owned.{Owned}
pub use Rattle.uvm_phase.specs.declared.owners.Owners.{Owners}
