-- The names of other crates and of this crate's specs that its proofs cite, passed on from one place. Declares nothing.
pub use Rattle.bench_history.specs.History.{head_of, is_built, remaining_acts, rest_of, stage_of}
pub use Rattle.bench_history.specs.Laws.{ConnectFollowsBuild, StaysWired, has_nothing_left, is_at_check, is_connect_last, is_in_connect, runs_connect}
pub use Rattle.bench_history.specs.Next.{EachIsNext}
pub use Rattle.bench_history.specs.Passing.{Request, fifo_state_with, is_no_put, is_put, is_take, is_waiting, passage_by, passage_in, puts_now, waiting_put, waiting_take, with_last}
pub use Rattle.bench_history.specs.Ports.{if_sound}
pub use Rattle.bench_history.specs.Wires.{ends_connect, is_past_connect, unsound_port, with_both}
unfoldable pub use Rattle.bench_history.specs.Wires.{node_below}
pub use Rattle.bench_history.specs.declared.requesters.Requester.{Requester}
pub use Rattle.bench_history.specs.declared.stages.RunStage.TheVariants.{During}
pub use Rattle.bench_history.specs.declared.stages.RunStage.{RunStage}
pub use Rattle.bench_script.specs.Scripts.{ScriptValue}
pub use Rattle.std.proofs.Common.{All, Bool, Contains, IsPermutation, List, None, OnSome, Option, Some, [], add-one, ap, arith, drop, false, filter, if◌then◌else◌, inl, inr, is_none, length, length-append, map, nat_eq, not, option_and_then, option_map, refl, rules, subst, suc, sym, take, true, unwrap_or, zero, ℕ, ◌&&◌, ◌++◌, ◌+◌, ◌-◌, ◌<◌, ◌==◌, ◌||◌, ◌∙◌, ◌∷◌, ◌≡◌, ◌≤◌, ◌⊎◌}
pub use Rattle.std.proofs.Math.Seq.{drop-cons}
pub use Rattle.std.proofs.lemmas.Bool.Decides.{nat_tests}
pub use Rattle.std.proofs.lemmas.List.Elements.{All-cons, All-contains, All-filter, All-head, All-push, All-tail, All-weaker, filter-append}
pub use Rattle.std.proofs.lemmas.List.Folds.{list_any-append, list_any_none}
pub use Rattle.std.proofs.lemmas.List.FromFn.{get_or-range_with_len, length-range_with_len}
pub use Rattle.std.proofs.lemmas.List.Kept.{AllPairs-filter}
pub use Rattle.std.proofs.lemmas.List.Quantifiers.{all_pairs_push}
pub use Rattle.std.proofs.lemmas.List.Sorted.{All-permutation, IsPermutation-sym}
pub use Rattle.std.proofs.lemmas.List.{drop-append-le, drop-drop, get_or_default, length-drop, map-append}
pub use Rattle.std.proofs.lemmas.Map.Keys.{IsDistinct-IsPermutation, IsDistinct-cons, IsDistinct-head, IsDistinct-tail}
pub use Rattle.std.proofs.lemmas.Map.Made.{Contains-tail, lookup-map_values, map_same_pairs}
pub use Rattle.std.specs.HashMap.{get}
pub use Rattle.std.specs.List.{AllByRecursion, AllPairs, list_any, range_with_len}
unfoldable pub use Rattle.std.specs.List.{IsDistinct}
pub use Rattle.std.specs.Map.{lookup}
pub use Rattle.std.specs.Option.{ForSome}
pub use Rattle.uvm_acts.specs.Acts.{node_of}
pub use Rattle.uvm_acts.specs.declared.acts.Act.{Act}
pub use Rattle.uvm_acts.specs.declared.acts.Who.{Who}
pub use Rattle.uvm_glob.specs.Faults.{fault_if}
pub use Rattle.uvm_glob.specs.Lists.{first_given}
pub use Rattle.uvm_glob.specs.Paths.{path_fault}
pub use Rattle.uvm_object.specs.declared.entries.Entry.TheVariants.{Did}
pub use Rattle.uvm_object.specs.declared.entries.Entry.{Entry}
pub use Rattle.uvm_object.specs.declared.entries.Outcome.{Outcome}
pub use Rattle.uvm_object.specs.declared.entries.Passage.{Passage}
pub use Rattle.uvm_phase.specs.Phases.{same_phase}
pub use Rattle.uvm_phase.specs.declared.phases.Phase.TheVariants.{Connect}
pub use Rattle.uvm_phase.specs.declared.phases.Phase.{Phase}
pub use Rattle.uvm_tlm.specs.Fifos.{FifoValue, first_put, first_take, has_room, with_put}
unfoldable pub use Rattle.uvm_tlm.specs.Fifos.{next_move}
pub use Rattle.uvm_tlm.specs.Wirings.{IsPathOrder, WiringValue, connections_among, end_at, is_closed, is_connected, late_fault, with_end}
pub use Rattle.uvm_tlm.specs.declared.ends.End.{End}
pub use Rattle.uvm_tlm.specs.declared.faults.WireFault.TheVariants.{Late}
pub use Rattle.uvm_tlm.specs.declared.fifos.MoveKind.TheVariants.{Peek, Put, Take}
pub use Rattle.uvm_tlm.specs.declared.items.Item.{Item}
pub use Rattle.uvm_tree.specs.Cursors.{numbers_of}
pub use Rattle.uvm_tree.specs.Nodes.{number_at, path_at}
pub use Rattle.uvm_tree.specs.Sorted.{AreInPathOrder, path_order}
pub use Rattle.world_wiring.specs.FifoStates.{ChangesAt, FifoMap, StoresAll, passing_in, after_passage, stored_once, with_stored_if, with_taker, without_first_if, without_waits}
pub use Rattle.world_wiring.specs.FifosMatch.{AreAsked}
pub use Rattle.world_wiring.specs.WiringMatch.{IsAtNode, IsClosedPast, IsClosing, IsConnecting, closed_after}
