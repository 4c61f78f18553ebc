-- The names of other crates and of this crate's specs that its proofs cite, passed on from one place. Declares nothing.
pub use Rattle.bench_history.specs.Dues.{calls_caused, caused_at, delivered_causes, is_open, scheduled_events, written_to}
pub use Rattle.bench_history.specs.History.{act_phase, ended_of, in_task, nodes_of, now_of}
pub use Rattle.bench_history.specs.Laws.{HasNotEnded}
pub use Rattle.bench_history.specs.Objections.{objections_of}
pub use Rattle.bench_history.specs.Passing.{answered_at, fifo_items, fifo_state_at, fifo_state_below, fifo_state_of, fifo_state_with, is_no_put, is_put, items_entered, items_left, leads_to, passage_in, puts_asked, puts_now, puts_waiting, request_by, takes_asked, takes_now, takes_waiting, waiting_put, with_last}
pub use Rattle.bench_history.specs.Ports.{fifo_port_below, fifo_size, if_sound, is_imp, is_imp_at, is_sound_port, outlets_below, port_below, size_of}
unfoldable pub use Rattle.bench_history.specs.Ports.{fifos_below, imps_below}
unfoldable pub use Rattle.bench_history.specs.Refusals.{passing_refusal}
pub use Rattle.bench_history.specs.Sequences.{finished_of}
pub use Rattle.bench_history.specs.Wires.{closed_wiring, wiring_of}
pub use Rattle.std.proofs.Common.{Bool, Contains, IsTrue, List, None, Option, Some, [], ap, arith, drop, false, filter, if◌then◌else◌, inl, inr, is_none, is_some, length, map, nat_eq, option_and_then, option_map, refl, rules, slice_get, subst, suc, sym, true, ℕ, ◌&&◌, ◌<◌, ◌==◌, ◌∙◌, ◌∷◌, ◌≡◌, ◌⊎◌}
pub use Rattle.uvm_acts.specs.declared.acts.Act.TheVariants.{Peek, Put, Take, TryPut, TryTake, Write}
pub use Rattle.uvm_object.specs.declared.entries.Outcome.TheVariants.{Done, Stored, Taken}
pub use Rattle.uvm_tlm.specs.Ends.{accepts, same_kind}
pub use Rattle.uvm_tlm.specs.Fifos.{FifoValue, can_take, has_room, with_put}
unfoldable pub use Rattle.uvm_tlm.specs.Fifos.{can_put}
pub use Rattle.uvm_tlm.specs.Laws.{TargetsAcceptTheKind, accepts_at}
pub use Rattle.uvm_tlm.specs.Wirings.{IsWiring, WiringValue, end_at, is_target_at, kind_at, reaches, wire_fault}
unfoldable pub use Rattle.uvm_tlm.specs.Wirings.{targets_in, targets_of}
pub use Rattle.uvm_tlm.specs.declared.ends.PortKind.TheVariants.{Analysis}
pub use Rattle.world_sequencing.proofs.Common.{Node}
pub use Rattle.world_services.proofs.Common.{ArePassed, Fatal, FifoPort, IsDistinct, PortKind, Requester, ServicesMatch, fifo_port_in, port_in}
pub use Rattle.world_services.proofs.Later.{acted, refused-here}
pub use Rattle.world_services.proofs.Opened.{scene-open}
pub use Rattle.world_services.proofs.Passages.{closed-same, fifo-ordered, fifo_port-known, fifo_port-sized, fifo_states-changed, fifos_to_settle-one, node-put, node-stored, node-take, node-taken, passed-later, passing-same, port-known, refusal-known, settled-all}
pub use Rattle.world_services.proofs.Preserved.{IsKept}
pub use Rattle.world_services.specs.ActResults.{CanPerform, IsActContext}
pub use Rattle.world_services.specs.declared.services.Services.{Services}
pub use Rattle.world_state.proofs.Common.{Entry, Item, Object, Phase, ScriptValue, Who, filter_map, list_any, nat_tests, option_map_or, same_phase}
pub use Rattle.world_state.proofs.Drained.{events-told}
pub use Rattle.world_state.proofs.Scheduled.{agenda-event}
pub use Rattle.world_state.proofs.Written.{agenda-written, events-calls, written-open}
pub use Rattle.world_wiring.proofs.Common.{Act, All-contains, Did, End, FifoMap, Passage, StoresAll, length-drop, path_order, stored_once, with_stored_if, with_taker, without_first_if}
pub use Rattle.world_wiring.proofs.Passed.{blocked-is, changed_if, item-stored, item-taken, put-asked, state, take-asked}
pub use Rattle.world_wiring.proofs.Stored.{any-contained, any-filter, any-passes, filter-contains, members-kept}
pub use Rattle.world_wiring.proofs.Waiting.{waits-now}
