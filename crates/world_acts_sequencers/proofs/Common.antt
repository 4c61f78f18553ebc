-- The names of other crates and of this crate's specs that its proofs cite, passed on from one place. Declares nothing.
pub use Rattle.bench_history.specs.Arbitration.{SequencerRequest, driver_requester, driver_state, if_arbitrated, mode_at, request_priority, sequencer_at, sequencer_with}
unfoldable pub use Rattle.bench_history.specs.Arbitration.{sequencer_below}
pub use Rattle.bench_history.specs.Cases.{Exactly, by_effect, by_open}
pub use Rattle.bench_history.specs.Dues.{call_in, calls_caused, calls_of_done, calls_of_item, calls_of_send, caused_at, delivered_causes, due_events, is_of_one, is_open, lapsed_by, scheduled_events, step_call}
pub use Rattle.bench_history.specs.Effects.{Needs, asked_effect, driven_at, home_sequencer, id_in, needed_sequence, starting_effect, starting_now}
pub use Rattle.bench_history.specs.History.{act_phase, components_of, ended_of, in_task, nodes_of, now_of, overrides_of, performer_of, remaining_acts, rest_of, test_creation}
pub use Rattle.bench_history.specs.Laws.{HasNotEnded, IsComponent, IsInPhase, IsThere, number_of, place_of}
pub use Rattle.bench_history.specs.Objections.{objections_of}
pub use Rattle.bench_history.specs.Ports.{port_below}
pub use Rattle.bench_history.specs.Refusals.{Starting, ask_refusal, done_refusal, is_none_at_all, item_refusal, lock_refusal, send_refusal, starting_refusal, unlock_refusal}
unfoldable pub use Rattle.bench_history.specs.Refusals.{driving_refusal, request_refusal}
pub use Rattle.bench_history.specs.Sequences.{StartRecord, all_steps, ends_step, finished_of, is_over_phase, is_sequence, next_step, phase_begun, sequence_in, sequences_of, start_by, start_priority, starts_in, starts_of}
unfoldable pub use Rattle.bench_history.specs.Sequences.{is_live, step_of}
pub use Rattle.std.proofs.Common.{All, Bool, Contains, Err, IfOk, IfSome, IsSome, List, None, Ok, OnOk, Option, Result, Some, [], add-one, ap, arith, count_by, false, filter, if◌then◌else◌, inl, inr, is_none, is_some, length, nat_eq, nat_lt, not, option_and_then, option_map, refl, rules, slice_get, subst, suc, sym, true, ℕ, ◌&&◌, ◌++◌, ◌+◌, ◌-◌, ◌<◌, ◌==◌, ◌∙◌, ◌∷◌, ◌≡◌, ◌≤◌, ◌⊎◌}
pub use Rattle.std.proofs.lemmas.List.Sums.{length-filter}
pub use Rattle.uvm_acts.specs.declared.acts.Act.TheVariants.{Ask, EndStep, Grab, ItemDone, Lock, Request, Send, Unlock}
pub use Rattle.uvm_glob.specs.Faults.{fault_if, unless}
pub use Rattle.uvm_object.specs.declared.entries.Outcome.TheVariants.{Done, Finished, Refused, Started, Waits}
pub use Rattle.uvm_object.specs.declared.fatals.Fatal.TheVariants.{NoPort, NotGranted, NothingOut, OutOfRange, OutsideTask}
pub use Rattle.uvm_sequencer.specs.Drivers.{grant_of, hand_of, is_idle, is_try, left_by, sent}
pub use Rattle.uvm_sequencer.specs.Laws.{PassedStays}
pub use Rattle.uvm_sequencer.specs.Queues.{item_request, lock_request}
pub use Rattle.uvm_sequencer.specs.Sequencers.{after_leave, after_send, answer, candidates_at, unlocked, with_grab, with_idle, with_item, with_lock}
pub use Rattle.uvm_sequencer.specs.declared.drivers.Asked.{Asked}
pub use Rattle.uvm_sequencer.specs.declared.drivers.Driver.TheVariants.{Granted, Idle, InHand, Waiting}
pub use Rattle.uvm_sequences.specs.Sequences.{SequencesValue, Start, finished, name_at, numbered, step_after, step_at}
pub use Rattle.uvm_tlm.specs.Wirings.{WiringValue, is_closed}
unfoldable pub use Rattle.uvm_tlm.specs.Wirings.{targets_of}
pub use Rattle.uvm_tlm.specs.declared.ends.PortKind.TheVariants.{Seq}
pub use Rattle.world_acts_sequencers.specs.DriversMatch.{finished_calls, if_kept, lapsed_calls, lapsed_item, reached_at, reached_in, waiting_outcome}
pub use Rattle.world_sequencing.proofs.Arbited.{alike-is, arbiter-changed, arbitrated-before, arbitrated-behind, arbitrated-driver, arbitrated-more, arbitrated-unlocked, asked-before, asked-behind, left-is, unlocked-is}
pub use Rattle.world_sequencing.proofs.Arbiting.{arbitrating-begun}
pub use Rattle.world_sequencing.proofs.Common.{Driver, DriverPort, How, IsArbitrated, IsArbitrating, LearnsAt, Ledger, Mode, Node, SeqStep, StepsChangeAlone, arbiter_of, arbiter_with, filter-twice, known_at, ledger_at, runs_on}
pub use Rattle.world_sequencing.proofs.Contested.{IsPlaced, arbitrating-one, known-changed, known-none, learns-else, learns-here, none-locked, none-served, sequencer-is}
pub use Rattle.world_sequencing.proofs.Numbered.{numbered-holds, numbered-map}
pub use Rattle.world_sequencing.proofs.Sequenced.{sequencing-begun, sequencing-finished, sequencing-step, starter-open}
pub use Rattle.world_sequencing.proofs.Starters.{kept-at, phase-known}
pub use Rattle.world_sequencing.specs.Arbiters.{ArbiterMap, ArbiterValue, ChangesAt, asked_at, asked_in, at_sequencer, grabbed_if, locked_if, requested_if, sent_if, unlocked_if}
pub use Rattle.world_sequencing.specs.SequencesMatch.{IsSequencing, IsStart, IsStarter, enders_of, home_for, live_by, lives_by, name_started, phase_at, priority_given, start_record_at, steps_ended}
pub use Rattle.world_sequencing.specs.declared.arbiters.Reached.{Reached}
pub use Rattle.world_sequencing.specs.declared.grant_indexes.GrantIndex.{GrantIndex}
pub use Rattle.world_services.proofs.Acting.{ok-not-err}
pub use Rattle.world_services.proofs.Answered.{answer-finished}
pub use Rattle.world_services.proofs.Common.{AllocError, Fatal, Need, ServicesMatch, filter-one, newest_fate, port_in, report_commands}
pub use Rattle.world_services.proofs.Later.{acted, refused-act_result, refused-here}
pub use Rattle.world_services.proofs.Opened.{scene-open}
pub use Rattle.world_services.proofs.Participants.{itself, said}
pub use Rattle.world_services.proofs.Passages.{closed-same, port-known}
pub use Rattle.world_services.specs.ActResults.{CanPerform, IsActContext, IsActResult, IsRefusing, PreservesMatchByAct, one_done, unreported}
pub use Rattle.world_services.specs.Creations.{starting_in}
pub use Rattle.world_services.specs.declared.act_results.ActResult.TheVariants.{Completed}
pub use Rattle.world_services.specs.declared.act_results.ActResult.{ActResult}
pub use Rattle.world_services.specs.declared.services.Services.{Services}
pub use Rattle.world_state.proofs.Common.{All-cons, All-nil, All-weaker, AreEvents, DueCall, Entry, Event, IsAgenda, Item, Object, Phase, ScriptValue, Sequence, Who, in_order, is_told, length-map, list_any, list_any_none, living_numbered, nat_tests, node_of, option_map_or, same_phase, same_who}
pub use Rattle.world_state.proofs.Drained.{events-finished, events-told}
pub use Rattle.world_state.proofs.Scheduled.{agenda-event, agenda-finished, open-finished}
pub use Rattle.world_state.proofs.Written.{IsToldOpen, agenda-living, events-calls}
pub use Rattle.world_wiring.proofs.Common.{Act, All-push, AreInPathOrder, Did, Outcome, get, path_order}
pub use Rattle.world_wiring.proofs.Connected.{order-distinct, permutation-contains, range-contains}
