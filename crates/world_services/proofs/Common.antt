-- The names of other crates and of this crate's specs that its proofs cite, passed on from one place. Declares nothing.
pub use Rattle.bench_history.specs.Arbitration.{next_locked, next_served, requests_at, sequencer_at, waiters_at}
pub use Rattle.bench_history.specs.Cases.{Exactly, by_act, by_open}
pub use Rattle.bench_history.specs.Configuration.{given_setting}
pub use Rattle.bench_history.specs.Dues.{caused_at, delivered_causes, drain_from, due_events, is_of_one, is_open, scheduled_events, with_drains_of}
pub use Rattle.bench_history.specs.Effects.{Needs, creation_effect, needed_object, needed_sequence, refusal_in, starting_effect, unless_refused}
pub use Rattle.bench_history.specs.History.{calls_sort, components_called, components_of, ended_of, had_call, head_of, in_progress, in_task, nodes_of, now_of, performer_of, phase_order, remaining_acts, rest_of, running, same_sort, test_creation}
pub use Rattle.bench_history.specs.Laws.{ActsAreInPhase, ActsGoInOrder, AreComponentNodes, DriversAreThere, HasNotEnded, IsComponent, IsComponentNode, IsDrainDue, IsSettled, IsThere, IsWanted, NeedsAreWanted, PerformersAreThere}
pub use Rattle.bench_history.specs.Next.{EachIsNext, IsAct, need_in, next_of}
pub use Rattle.bench_history.specs.Objections.{objections_of, with_new}
pub use Rattle.bench_history.specs.Passing.{Request, answered_at, fifo_state_at, fifo_state_of, fifo_state_with, is_no_put, is_put, is_take, items_entered, items_left, passage_in, passing_at, puts_asked, puts_waiting, takes_asked, takes_waiting, with_last}
unfoldable pub use Rattle.bench_history.specs.Passing.{next_passed}
pub use Rattle.bench_history.specs.Ports.{fifo_port_at, fifo_size, if_fifo, size_of}
unfoldable pub use Rattle.bench_history.specs.Ports.{fifo_port_below, port_below}
pub use Rattle.bench_history.specs.Refusals.{Creation, Starting, creation_refusal, is_none_at_all, is_open_to, sequence_made, sequence_named}
unfoldable pub use Rattle.bench_history.specs.Refusals.{passing_refusal, starting_refusal}
pub use Rattle.bench_history.specs.Reports.{newest_fate, report_commands}
pub use Rattle.bench_history.specs.Sequences.{StartRecord, finished_of, is_over_phase, lives, phase_begun, starts_in, starts_of}
unfoldable pub use Rattle.bench_history.specs.Sequences.{is_live}
pub use Rattle.bench_history.specs.Wires.{end_of, node_below, wiring_of, with_both}
pub use Rattle.bench_history.specs.declared.needs.Need.{Need}
pub use Rattle.bench_history.specs.declared.requesters.FifoPort.{FifoPort}
pub use Rattle.bench_history.specs.declared.requesters.Requester.{Requester}
pub use Rattle.std.proofs.Common.{All, Bool, Contains, Err, IfErr, IfNone, IfOk, IfSome, IsOk, IsSome, List, None, Ok, OnOk, Option, Result, Some, [], add-one, ap, arith, drop, false, filter, if◌then◌else◌, inl, inr, is_none, is_some, length, map, nat_eq, not, option_and_then, option_map, refl, reverse, rules, slice_get, subst, suc, sym, take, true, unwrap_or, w64, zero, ℕ, ◌&&◌, ◌*◌, ◌++◌, ◌+◌, ◌-◌, ◌<◌, ◌==◌, ◌||◌, ◌∙◌, ◌∷◌, ◌≡◌, ◌≤◌, ◌⊎◌}
pub use Rattle.std.proofs.Math.Seq.{drop-nil}
pub use Rattle.std.proofs.lemmas.Bool.{cases_lt, eqb-true}
pub use Rattle.std.proofs.lemmas.Int.{to_z-of_z}
pub use Rattle.std.proofs.lemmas.List.Elements.{All-cons, All-contains, All-contains_itself, All-filter, All-head, All-nil, All-push, All-tail, All-weaker, Contains-append_cases, Contains-append_left, Contains-append_right, Contains-get_or, Contains-push, filter-append, filter_passes}
pub use Rattle.std.proofs.lemmas.List.{length-append, length-drop, length-reverse, reverse-append}
pub use Rattle.std.proofs.lemmas.Map.Views.{any-filter_same}
pub use Rattle.std.specs.List.{IsDistinct, flat_map, list_any, range_with_len}
pub use Rattle.std.specs.Ordering.{is_lt, ordering_reverse}
pub use Rattle.std.specs.Result.{result_err}
pub use Rattle.std.specs.declared.alloc.AllocError.{AllocError}
pub use Rattle.std.specs.declared.cmp.Ordering.TheVariants.{Equal, Greater, Less}
pub use Rattle.std.specs.declared.cmp.Ordering.{Ordering}
pub use Rattle.uvm_acts.specs.declared.acts.Act.TheVariants.{Add, Connect, Create}
pub use Rattle.uvm_config.specs.Answers.{AnswersAreGiven, NoneSetNoAnswer, Setting, answer_of, config_answer, strongest}
unfoldable pub use Rattle.uvm_config.specs.Answers.{strongest_answer}
pub use Rattle.uvm_config.specs.ChosenValue.{answer_after, precedence_of}
pub use Rattle.uvm_config.specs.Observed.{accepted, answer_at, value_at}
pub use Rattle.uvm_factory.specs.Faults.{Types}
pub use Rattle.uvm_factory.specs.Observed.{Representation, step_at, types_of}
pub use Rattle.uvm_factory.specs.Overrides.{StepsAreGiven}
pub use Rattle.uvm_factory.specs.Steps.{after_override}
pub use Rattle.uvm_factory.specs.declared.overrides.Override.{Override}
pub use Rattle.uvm_glob.specs.Orders.{PathOrder, down_cmp, order_of, up_cmp}
pub use Rattle.uvm_glob.specs.declared.orders.Direction.TheVariants.{Down, Up}
pub use Rattle.uvm_glob.specs.declared.orders.Direction.{Direction}
pub use Rattle.uvm_object.specs.declared.entries.Entry.TheVariants.{Begin, Did, Drained, End, Heard, Passed}
pub use Rattle.uvm_object.specs.declared.entries.Outcome.TheVariants.{Done, Made, Started}
pub use Rattle.uvm_object.specs.declared.fatals.Fatal.TheVariants.{InvalidType, NoPort, NoSequencer, NotOpen, OutOfRange, OutsideTask, OverrideLoop, TreeLimit}
pub use Rattle.uvm_object.specs.declared.fatals.Fatal.{Fatal}
pub use Rattle.uvm_objection.specs.Laws.{BegunDrainsAreHeld, GrowsBy, IsHeldUntilDue, NodesGrow, PlacesStay, SettledGoByTotals, places}
pub use Rattle.uvm_phase.specs.Phases.{is_runtime, is_task, is_top_down, phase_number, same_phase}
pub use Rattle.uvm_sequencer.specs.Sequencers.{SequencerValue}
pub use Rattle.uvm_tlm.specs.Fifos.{FifoValue, new_fifo, waiting_count}
pub use Rattle.uvm_tlm.specs.Wirings.{IsPathOrder, WiringValue, end_at, is_closed, targets_of, with_end}
pub use Rattle.uvm_tlm.specs.declared.ends.PortKind.{PortKind}
pub use Rattle.uvm_tree.specs.Cursors.{IsLeast, LeastIsLeast, OneIsLeast, OrdersNodes, is_after, is_before, least, node_cmp, nodes_after, numbers_of}
pub use Rattle.uvm_tree.specs.Nodes.{Node, child, path_at, top}
pub use Rattle.world_sequencing.proofs.Arbiting.{arbitrating-first}
pub use Rattle.world_sequencing.proofs.Common.{After, ArbiterValue, Before, Ended, IsArbitrating, IsSequencing, What, arbiter_of, ledger_at, live_by, lock_in, locked_in, numbered, path_text, ready_in, served_in}
pub use Rattle.world_sequencing.proofs.Contested.{arbitrating-later, locked-first, sequencer-is, served-first}
pub use Rattle.world_sequencing.proofs.Sequenced.{sequencing-first}
pub use Rattle.world_sequencing.specs.GrantIndexes.{AreKnown, IsKnown, known_at}
pub use Rattle.world_sequencing.specs.declared.grant_indexes.GrantIndex.{GrantIndex}
pub use Rattle.world_services.specs.ActResults.{ComesBy, IsActContext, IsActResult, IsActResultOfAny, IsRefusing, IsTried, PreservesMatchByAct}
pub use Rattle.world_services.specs.Creations.{IsCreationError, IsUnmade, IsUnstarted, MayRunOut, MayRunOutEarly}
pub use Rattle.world_services.specs.OpenPorts.{fifo_port_in}
pub use Rattle.world_services.specs.PhaseCursor.{ArePhaseCursor, AreSamePhaseCursor, IsFirstWaiting, IsHeardIn, IsMadeIn, IsStart, last_heard, waits}
pub use Rattle.world_services.specs.PhaseCursors.{ArePhaseCursors, AreSamePhaseCursors, HasBegunRound, IsHeardInPhaseCursors, IsMadeInPhaseCursors, going_like, phase_cursor_in}
pub use Rattle.world_services.specs.Services.{AreObjecting, IsAnswerCursor, IsFactory, IsSettings, ServicesMatch, acts_at, acts_in, unless_noted}
pub use Rattle.world_services.specs.declared.act_results.ActResult.TheVariants.{Completed, Needed}
pub use Rattle.world_services.specs.declared.act_results.ActResult.{ActResult}
pub use Rattle.world_services.specs.declared.creations.CreationError.TheVariants.{Memory}
pub use Rattle.world_services.specs.declared.creations.CreationError.{CreationError}
pub use Rattle.world_services.specs.declared.phase_cursor.PhaseCursor.{PhaseCursor}
pub use Rattle.world_services.specs.declared.phase_cursors.PhaseCursors.{PhaseCursors}
pub use Rattle.world_services.specs.declared.services.AnswerCursor.{AnswerCursor}
pub use Rattle.world_services.specs.declared.services.Services.{Services}
pub use Rattle.world_state.proofs.Common.{All-permutation, AreEvents, AreNumbered, Call, Drain, Entry, Event, EventTarget, IsAgenda, IsObjecting, Item, Object, OrderKeepsAll, Origin, Phase, PreReset, Run, ScriptValue, Sequence, Who, drains_begun, drains_ended, due_of, first_given, in_order, is_drain_of, list_any_none, nat_tests, new_node, node_of, option_map_or, option_or, option_to_list, released, same_cause, same_who, settled, total, with_drain}
pub use Rattle.world_wiring.proofs.Common.{Act, During, ForSome, IsConnecting, Outcome, Passage, RunStage, fault_if, get, get_or-range_with_len, length-range_with_len, lookup, path_fault, path_order}
pub use Rattle.std.proofs.lemmas.Fn.{filter_same}
pub use Rattle.world_wiring.proofs.Connected.{closed-is, closing-later, closing-next}
pub use Rattle.world_state.proofs.Drained.{moved, same-phase}
pub use Rattle.world_state.proofs.Lists.{filter-none, filter-one, first-holds, first-kept, first-none}
pub use Rattle.world_state.proofs.Objected.{objecting-changed, objecting-first, objecting-later, objecting-made, objecting-same}
pub use Rattle.world_wiring.proofs.Passed.{blocked, changed_if, fewer-blocked, has-passed, passing-is, phase-ended, state}
pub use Rattle.world_state.proofs.Placed.{of-each, parted}
pub use Rattle.world_state.proofs.Reported.{quiet}
pub use Rattle.world_state.proofs.ReportsGiven.{given-more}
pub use Rattle.world_state.proofs.Scheduled.{agenda-later}
pub use Rattle.world_wiring.proofs.Waiting.{asked-later, asked-more, fifo_state-ended}
pub use Rattle.world_wiring.specs.FifoStates.{AddsFifoState, ChangesAt, ChangesEach, FifoMap, passing_in, after_passage, without_waits}
pub use Rattle.world_wiring.specs.FifosMatch.{AreAsked, AreFifoStates, ArePassed, AreToSettle, IsPassed}
pub use Rattle.world_state.specs.Phased.{ObjectionsValue, OthersStay, nodes_at, nodes_in}
pub use Rattle.world_wiring.specs.Ports.{port_in}
