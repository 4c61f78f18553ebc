-- The names of other crates and of this crate's specs that its proofs cite, passed on from one place. Declares nothing.
pub use Rattle.std.proofs.Common.{Bool, List, None, Option, Some, [], ap, append_assoc, arith, cond, drop, false, filter, find, get_or, if◌then◌else◌, inl, inr, is_some, length, map, nat_eq, nat_lt, option_map, refl, subst, suc, sym, true, vec_capacity, vec_len, zero, ℕ, ◌&&◌, ◌++◌, ◌+◌, ◌-◌, ◌<◌, ◌==◌, ◌^◌, ◌||◌, ◌∙◌, ◌∷◌, ◌≡◌, ◌≢◌, ◌≤◌, ◌⊎◌}
pub use Rattle.std.proofs.Math.ListN.{set}
pub use Rattle.std.proofs.Math.Seq.{get_or-append_seam, set-append_seam}
pub use Rattle.std.proofs.lemmas.Bool.Decides.{nat_tests}
pub use Rattle.std.proofs.lemmas.List.{map-append}
pub use Rattle.std.proofs.lemmas.List.Elements.{All-cons, All-nil}
pub use Rattle.std.proofs.lemmas.List.Sums.{sum_by-cons}
pub use Rattle.std.proofs.lemmas.Map.Entries.{entries_from_clone}
pub use Rattle.std.proofs.lemmas.Option.{same_Some}
pub use Rattle.std.specs.HashMap.{get}
pub use Rattle.std.specs.List.{list_any, sum_by}
pub use Rattle.std.specs.Map.{lookup}
pub use Rattle.std.specs.Option.{option_and_then, option_map_or, option_to_list}
pub use Rattle.std.specs.Prelude.{All, IsTrue}
pub use Rattle.uvm_objection.specs.Changes.{IsSteady, IsTimely, IsWithin, TellsOf, drain_changed, due_changed, entry_changed, held_changed, most_raised, node_changed, nodes_changed, source_changed}
pub use Rattle.uvm_objection.specs.Laws.{AreNodes, AreUnder, BegunDrainsAreHeld, GoesByTotals, GrowsBy, IsHeldUntilDue, IsNew, IsTree, NodesGrow, PlacesStay, PositiveTotalHoldsNothing, SettledGoByTotals, TotalIsSum, places}
pub use Rattle.uvm_objection.specs.Nodes.{Node, ObjectionValue, changed_at, due_of, held_of, is_known, new_node, source_of, top}
pub use Rattle.uvm_objection.specs.Places.{place_in}
pub use Rattle.uvm_objection.specs.Representation.{Fits, IsConsistent, IsObjection, node_of, shape}
pub use Rattle.uvm_objection.specs.Totals.{begins, drains_begun, drains_ended, due_after, held_after, is_child, settled, settled_node, total}
pub use Rattle.uvm_objection.specs.Walks.{CanStep, CanWalk, Walked, entry_after, entry_next, entry_settled, is_at, is_at_node, start_of, walk_after, walk_next, walked}
pub use Rattle.uvm_objection.specs.declared.nodes.Change.{Change}
pub use Rattle.uvm_objection.specs.declared.nodes.ChangeKind.{ChangeKind}
pub use Rattle.uvm_objection.specs.declared.nodes.ChangeKind.TheVariants.{Drop, Raise, Release, SetDrain}
pub use Rattle.uvm_objection.specs.declared.nodes.Entry.{Entry}
pub use Rattle.uvm_objection.specs.declared.objections.Due.{Due}
pub use Rattle.uvm_objection.specs.declared.objections.Objection.TheInside.{Inside}
pub use Rattle.uvm_objection.specs.declared.walks.Walk.{Walk}
