-- The names of other crates and of this crate's specs that its proofs cite, passed on from one place. Declares nothing.
pub use Rattle.indexmap.proofs.CallerLemmas.{Contains-list_any, insert_entry-new}
pub use Rattle.indexmap.proofs.SetLemmas.{keys_insert_entry}
pub use Rattle.indexmap.specs.IndexSet.{insert_all, insert_key}
pub use Rattle.std.proofs.Common.{All, Bool, Contains, List, None, Option, Some, [], ap, append_assoc, arith, cond, eqb, false, filter, find, get_or, if◌then◌else◌, inl, inr, is_some, length, map, nat_eq, not, option_and_then, option_map, refl, reverse, rules, subst, sym, take, true, ℕ, ◌&&◌, ◌++◌, ◌+◌, ◌-◌, ◌<◌, ◌||◌, ◌∙◌, ◌∷◌, ◌≡◌, ◌≤◌, ◌⊎◌}
pub use Rattle.std.proofs.lemmas.Bool.Decides.{nat_tests}
pub use Rattle.std.proofs.lemmas.Bool.{and_from, and_parts, eq-eqb, eqb-true, false≢true, or_cases, or_left, or_right, true≢false}
pub use Rattle.std.proofs.lemmas.Fn.{filter_same}
pub use Rattle.std.proofs.lemmas.List.Elements.{All-append, All-cons, All-contains, All-head, All-map, All-nil, All-tail, All-weaker, Contains-append_left, Contains-append_right, Contains-push, filter_more, filter_passes}
pub use Rattle.std.proofs.lemmas.List.Folds.{find-append, list_any-append, list_any_at, list_any_more, list_any_none}
pub use Rattle.std.proofs.lemmas.List.Sums.{fold_more}
pub use Rattle.std.proofs.lemmas.List.{append-nil, get_or-take, get_or_default, length-map, length-take-le, length_push, reverse-append, take-append-le, take_all, take_more}
pub use Rattle.std.proofs.lemmas.Map.Keys.{IsDistinct-cons, apart_from_distinct}
pub use Rattle.std.proofs.lemmas.Map.Steps.{length-le_from_keys}
pub use Rattle.std.proofs.lemmas.Map.Views.{any-filter_same}
pub use Rattle.std.proofs.lemmas.Option.{none-some, same_Some}
pub use Rattle.std.specs.Bool.{IsTrue}
pub use Rattle.std.specs.Cmp.{nat_eq_equiv}
pub use Rattle.std.specs.HashMap.{get, keys}
pub use Rattle.std.specs.List.{AllByRecursion, flat_map, list_any}
unfoldable pub use Rattle.std.specs.List.{IsDistinct}
pub use Rattle.std.specs.Map.{keys_of, lookup}
pub use Rattle.std.specs.Option.{ForSome, IsSome, option_map_or, option_or}
pub use Rattle.uvm_glob.specs.Faults.{fault_if}
pub use Rattle.uvm_glob.specs.Lists.{first_given}
pub use Rattle.uvm_tlm.specs.Ends.{accepts, agrees, is_port, is_target, port_kind, same_kind}
pub use Rattle.uvm_tlm.specs.Graphs.{has, is_connected}
pub use Rattle.uvm_tlm.specs.Laws.{AreTargets, IsDriver, Route, accepts_at, along, driven_from, over}
pub use Rattle.uvm_tlm.specs.NodeLists.{list_of}
pub use Rattle.uvm_tlm.specs.Representation.{connections_of, nodes_of, value_of}
pub use Rattle.uvm_tlm.specs.Wirings.{IsPathOrder, IsWiring, WiringValue, are_known, connection, connections_among, connections_from, driven_by, end_at, fault_in, is_closed, is_some_of, is_target_at, kind_at, may_connect, port_fault, with_connection, with_end}
unfoldable pub use Rattle.uvm_tlm.specs.Wirings.{connect_fault, driver_in, leads, reaches, targets_in, targets_of, wire_fault}
pub use Rattle.uvm_tlm.specs.declared.ends.End.TheVariants.{Export, Fifo, Imp, Port, Sequencer}
pub use Rattle.uvm_tlm.specs.declared.ends.End.{End}
pub use Rattle.uvm_tlm.specs.declared.ends.PortKind.TheVariants.{Analysis, Get, Put, Seq}
pub use Rattle.uvm_tlm.specs.declared.ends.PortKind.{PortKind}
pub use Rattle.uvm_tlm.specs.declared.faults.WireFault.TheVariants.{KindDiffers, Late, TooMany, Unknown}
pub use Rattle.uvm_tlm.specs.declared.wirings.Connection.{Connection}
pub use Rattle.uvm_tlm.specs.declared.wirings.Wiring.TheInside.{Inside}
