-- The names of other crates and of this crate's specs that its proofs cite, passed on from one place. Declares nothing.
pub use Rattle.bench_history.specs.Arbitration.{SequencerRequest, driver_requester, driver_state, ends_ask, granted_since, locking_at, mode_at, mode_in, modes_of, sequencer_request, sequencer_at, sequencer_with, serving_at, waits_by}
unfoldable pub use Rattle.bench_history.specs.Arbitration.{next_locked, next_served}
pub use Rattle.bench_history.specs.Dues.{calls_of_item, is_of_one, lapsed_at}
pub use Rattle.bench_history.specs.History.{components_of, ended_of, in_progress, is_of_phase, nodes_of, running, stage_of}
pub use Rattle.bench_history.specs.Laws.{AsksAreInPhase, IsComponent, LivingRun, PhasesInProgressAreOpen, is_going, number_of, place_of}
pub use Rattle.bench_history.specs.Next.{EachIsNext, IsNext}
pub use Rattle.bench_history.specs.Sequences.{StartRecord, all_begun, all_steps, finished_of, is_living, is_over_phase, is_sequence, leaving_of, phase_begun, sequence_in, sequences_of, starts_in, starts_of}
unfoldable pub use Rattle.bench_history.specs.Sequences.{is_live}
pub use Rattle.bench_history.specs.declared.requesters.DriverPort.{DriverPort}
pub use Rattle.bench_history.specs.declared.stages.RunStage.TheVariants.{After, Before, During, Ended}
pub use Rattle.std.proofs.Common.{All, Bool, Contains, IfSome, IsSome, IsTrue, List, None, Option, Some, [], add-one, ap, append_assoc, arith, drop, false, filter, find, get_or, if◌then◌else◌, is_some, length, length-append, map, nat_eq, nat_le, nat_lt, not, option_and_then, option_map, option_to_list, refl, rules, slice_get, subst, suc, sym, take, true, unwrap_or, zero, ℕ, ◌&&◌, ◌++◌, ◌+◌, ◌<◌, ◌==◌, ◌||◌, ◌∙◌, ◌∷◌, ◌≡◌, ◌≤◌}
pub use Rattle.std.proofs.lemmas.List.{length-map, map-append, take-append-drop, take_all, take_more}
pub use Rattle.std.proofs.lemmas.List.Elements.{All-append, All-cons, All-contains, All-contains_itself, All-filter, All-head, All-nil, All-push, All-tail, All-weaker, filter-append}
pub use Rattle.std.proofs.lemmas.List.Folds.{list_all-append, list_any-append, list_any_none}
pub use Rattle.std.proofs.lemmas.Map.Views.{Contains-from_any, list_any-from_Contains}
pub use Rattle.std.proofs.lemmas.Result.{err_from_is_err_and}
pub use Rattle.std.specs.Cmp.{nat_eq_equiv}
pub use Rattle.std.specs.List.{flat_map, list_all, list_any}
pub use Rattle.uvm_acts.specs.declared.acts.Act.TheVariants.{Add}
pub use Rattle.uvm_acts.specs.declared.acts.What.{What}
pub use Rattle.uvm_glob.specs.Faults.{fault_if, refusal}
pub use Rattle.uvm_glob.specs.Limits.{most_name_bytes}
pub use Rattle.uvm_glob.specs.Names.{is_name_byte}
unfoldable pub use Rattle.uvm_glob.specs.Paths.{path_fault}
pub use Rattle.uvm_glob.specs.Paths.{path_text}
pub use Rattle.uvm_glob.specs.declared.faults.PathFault.{PathFault}
pub use Rattle.uvm_glob.specs.declared.faults.PathFault.TheVariants.{BadByte, Empty, Memory, TooDeep, TooLong}
pub use Rattle.uvm_object.specs.declared.entries.Entry.TheVariants.{Did, End}
pub use Rattle.uvm_object.specs.declared.entries.Outcome.TheVariants.{Done}
pub use Rattle.uvm_phase.specs.Phases.{is_runtime, same_phase}
pub use Rattle.uvm_sequencer.specs.Choices.{readiness}
pub use Rattle.uvm_sequencer.specs.Drivers.{grant_of, granted_by, is_idle, kept_on, left_by, loses_try, wait_of}
pub use Rattle.uvm_sequencer.specs.Laws.{StartsChangeNothing, are_known}
pub use Rattle.uvm_sequencer.specs.Passed.{IsPassed}
pub use Rattle.uvm_sequencer.specs.Queues.{is_held, is_item, is_item_of, is_lock_of, is_of, released}
pub use Rattle.uvm_sequencer.specs.Sequencers.{after_leave, granted, is_live_at, lock_at, locked, ready_at, unlocked}
pub use Rattle.uvm_sequencer.specs.declared.drivers.Driver.{Driver}
pub use Rattle.uvm_sequencer.specs.declared.drivers.Driver.TheVariants.{Idle}
pub use Rattle.uvm_sequencer.specs.declared.drivers.How.{How}
pub use Rattle.uvm_sequencer.specs.declared.modes.Mode.{Mode}
pub use Rattle.uvm_sequencer.specs.declared.requests.Request.{Request}
pub use Rattle.uvm_sequences.specs.Laws.{StepsChangeAlone}
pub use Rattle.uvm_sequences.specs.Sequences.{SequencesValue, Start, numbered, step_after, step_at, with_step}
pub use Rattle.uvm_sequences.specs.declared.starts.SeqStep.{SeqStep}
pub use Rattle.uvm_sequences.specs.declared.starts.SeqStep.TheVariants.{Body, PostStart, PreStart}
pub use Rattle.uvm_tree.specs.Nodes.{Node}
pub use Rattle.world_sequencing.specs.Arbiters.{AddsArbiter, ArbiterMap, ArbiterValue, ChangesAt, ChangesEach, at_sequencer, ended_at, lapsed_in, lapsed_with, lock_in, locked_in, mode_of, new_arbiter, ready_in, served_in}
pub use Rattle.world_sequencing.specs.ArbitersMatch.{AreArbiters, AreContested, IsArbitrated, IsArbitrating, Ledger, arbiter_of, arbiter_with, ledger_at, queue_of, runs_on}
pub use Rattle.world_sequencing.specs.GrantIndexes.{AddsGrantIndex, ForgetsAll, IsKnown, LearnsAt, known_at}
pub use Rattle.world_sequencing.specs.SequencesMatch.{AreEnded, AreStarters, IsSequencing, IsStarter, MayFail, ends_with, finished_by, is_in_phase, kept_start_records, leaving_with, live_by, lives_by, phase_at, start_record_at, step_by, steps_ended}
pub use Rattle.world_sequencing.specs.declared.grant_indexes.GrantIndex.{GrantIndex}
pub use Rattle.world_state.proofs.Common.{DueCall, Entry, Object, Phase, Run, ScriptValue, Who, first_given, is_told, nat_tests, option_map_or, option_or, same_who, take-suc}
pub use Rattle.bench_history.specs.declared.stages.RunStage.{RunStage}
pub use Rattle.std.proofs.lemmas.Map.Made.{lookup-map_values, map_same_pairs}
pub use Rattle.std.specs.HashMap.{get}
pub use Rattle.std.specs.Map.{lookup}
pub use Rattle.uvm_tree.specs.Sorted.{path_order}
pub use Rattle.world_state.proofs.Lists.{filter-all, filter-none, filter-twice, first-kept, first-none, map-filter, one-ended}
pub use Rattle.world_state.proofs.Written.{IsToldOpen}
