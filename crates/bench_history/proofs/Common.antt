-- The names of other crates and of this crate's specs that most of its proofs cite, passed on from one place. Declares nothing.
pub use Rattle.bench_history.specs.Arbitration.{Awaits, DriverMove, ForGrab, ForItem, ForLock, IsDone, Leaves, Sends, SequencerRequest, RequestKind, all_requests, asked_in, requester_by, driver_requester, driver_by, driver_move, driver_state, ends_ask, given_back, granted_since, grants_at, holders, if_arbitrated, leads_there, locking_at, locks_at, locks_held, mode_at, mode_in, modes_of, request_priority, request_queue, sent_by, sequence_on, sequencer_at, sequencer_with, serving_at, still_waits, unlocks, sequencer_request, wish_in, with_wish}
unfoldable pub use Rattle.bench_history.specs.Arbitration.{next_locked, next_served, sequencer_below}
pub use Rattle.bench_history.specs.Cases.{Answer, Exactly, Grant, Need, Next, Nothing, by_act, by_call, by_effect, chosen_at, end_reached, event_due, finish, first_act, giving_up, locking, long_answer, origin_of, passing, phase_begin, phase_call, phase_end, phase_to_begin, port_check, serving, time_passes, turn_in}
pub use Rattle.bench_history.specs.Coming.{Comes, IsAlone, IsAsked, IsActEntry, IsNeeding, IsNow, IsPassing, NotMade}
pub use Rattle.bench_history.specs.Dues.{calls_from, calls_numbered, calls_caused, caused_at, scheduled_events, done_by, drain_from, due_after, due_at, due_events, due_from, event_in, events_from, finished_by, first_due, heard_in, delivered_causes, is_of_one, is_open, lapsed_at, lapsed_by, lapsed_with, moves_drains, step_call, call_to_performer, calls_of_done, calls_of_finish, call_in, calls_of_item, call_of_passage, calls_of_send, calls_of_step, with_drains, with_drains_of, with_events_from, written_to}
unfoldable pub use Rattle.bench_history.specs.Dues.{due_now}
pub use Rattle.bench_history.specs.Effects.{ComesTo, Needs, Effect, asked_effect, creation_now, creation_effect, driven_at, has_candidate, needed_object, needed_sequence, permitted_effect, starting_now, starting_effect, unless_refused, effect_of}
pub use Rattle.bench_history.specs.EventTargets.{Event, is_drain_of, who_of}
pub use Rattle.bench_history.specs.History.{act_phase, components_called, components_after, components_of, created_name, ended_in, ended_of, ends_build, had_call, head_of, in_progress, in_task, is_built, is_of_phase, is_over, kind_of, left_after, remaining_acts, nodes_after, nodes_of, now_of, test_creation, phase_heard, phase_order, rest_of, running, performer_of, stage_of}
unfoldable pub use Rattle.bench_history.specs.History.{next_call}
pub use Rattle.bench_history.specs.Laws.{ActsAreInPhase, ActsGoInOrder, AnswersAreSettled, AreComponentNodes, ArePhasesInOrder, AreRising, AskedAreThere, AsksAreInPhase, CallsGoInTurn, ChosenAreThere, ComponentsAreNodes, ComponentsByKind, ConnectFollowsBuild, DrainsGoInOrder, DriversAreThere, DueCallsGoInOrder, GrantsGoInOrder, HasGrown, HasMade, HasNotEnded, HomesAreNodes, IsBegun, IsComponent, IsComponentNode, IsDue, IsFirstAct, IsInPhase, IsLiving, IsLivingSequence, IsMadeBy, IsSettled, IsSomething, IsThere, IsWanted, LeaversLived, LivingLived, LivingRun, LockersAreThere, LocksGoInOrder, MachineEntriesAreSilent, MadeObjectsAreNew, NeedsAreWanted, NewNodesAreUnasked, NewSequencesAreUnasked, NodesAreATree, NodesStay, NothingAfterOver, PassagesAreInPhase, PassagesGoInOrder, PerformersAreThere, PhasesBeginBehind, PhasesGoInOrder, PhasesInProgressAreOpen, ReportsAreFew, RunningPhasesEnd, SomethingBeforeOver, TaskPhasesFollowConnect, TasksFollowConnect, TimeStaysWithin, WaitersAreComponents, WiringStays, end_number, ending_order, has_nothing_left, is_connect_last, is_going, is_in_connect, is_run, is_run_at, next_number, number_of}
pub use Rattle.bench_history.specs.LegalLogs.{FifoOrder, Grants, HasDrawnOfGreatest, HasFirst, HasFirstOfGreatest, HasGreatest, HasKept, IsAskedFor, IsAtCause, IsCaused, IsDrainTime, IsQuiet, IsTakenOut, IsWakeTime, ItemWaitsAreSingle, OlderLogsAreLegal, OnTime, OneItemOut, QuietEnd, StrictPriority, call_time, count_if, dones_at, ended_at, free_requests, gets_at, gets_lock, gives_back, hand_count, in_hand, is_free, is_get, is_one_of, is_unblocked, keeps_item, most_urgent, place_by, sends_at, takes_out, waiting_at}
pub use Rattle.bench_history.specs.Limits.{most_acts}
pub use Rattle.bench_history.specs.Next.{Allows, EachIsNext, IsAct, IsLegal, IsNext, first_next, need_in}
unfoldable pub use Rattle.bench_history.specs.Next.{next_of}
unfoldable pub use Rattle.bench_history.specs.Objections.{is_kept}
pub use Rattle.bench_history.specs.Objections.{objections_of, stands, with_new}
pub use Rattle.bench_history.specs.Passing.{answered_at, fifo_items, fifo_state_with, is_no_put, is_put, is_waiting, passage_by, passage_in, passing_at, put_in, puts_asked, puts_waiting, request_at, request_by, fifo_state_of, take_in, takes_asked, takes_waiting, waiting_put, with_last}
unfoldable pub use Rattle.bench_history.specs.Passing.{next_passed}
pub use Rattle.bench_history.specs.Ports.{fifo_size, fifo_port_below, is_imp_at, outlets_below, port_below}
unfoldable pub use Rattle.bench_history.specs.Ports.{imps_below}
pub use Rattle.bench_history.specs.Refusals.{Creation, Starting, ask_refusal, child_refusal, done_refusal, fatal_of, is_none_at_all, is_open_to, item_refusal, send_refusal, sequence_made, sequence_named, type_asked, type_made}
unfoldable pub use Rattle.bench_history.specs.Refusals.{addition_refusal, creation_refusal, driving_refusal, request_refusal, starting_refusal}
pub use Rattle.bench_history.specs.Reports.{action_command, command_in, reason_of, report_commands, script_commands, severity_command, verbosity_command}
pub use Rattle.bench_history.specs.Sequences.{StartRecord, all_begun, begun_after, starts_of, finished_in, finished_of, home_asked, if_sequencer, is_living, is_over_phase, is_sequencer, leaving_after, leaving_of, lives, next_step, phase_begun, sequence_in, sequences_of, start_by, starts_in}
unfoldable pub use Rattle.bench_history.specs.Sequences.{is_live}
pub use Rattle.bench_history.specs.Wires.{closed_wiring, end_of, ends_connect, is_past_connect, next_unsound, node_below, wiring_after, wiring_of, with_both}
pub use Rattle.bench_history.specs.declared.event_targets.DueCall.{DueCall}
pub use Rattle.bench_history.specs.declared.event_targets.EventTarget.TheVariants.{Drain, Object}
pub use Rattle.bench_history.specs.declared.event_targets.EventTarget.{EventTarget}
pub use Rattle.bench_history.specs.declared.requesters.DriverPort.{DriverPort}
pub use Rattle.bench_history.specs.declared.requesters.FifoPort.{FifoPort}
pub use Rattle.bench_history.specs.declared.stages.RunStage.TheVariants.{After, Before, During, Ended}
pub use Rattle.bench_history.specs.declared.stages.RunStage.{RunStage}
pub use Rattle.bench_script.specs.Scripts.{ScriptValue}
pub use Rattle.std.proofs.Common.{Bool, IfSome, IsSome, List, None, OnSome, Option, Some, [], ap, arith, false, filter, find, fold, if◌then◌else◌, inl, inr, is_none, is_some, length, length-append, map, nat_eq, nat_le, nat_lt, not, option_and_then, option_map, option_to_list, refl, reverse, slice_get, subst, suc, sum_by, sym, take, true, unwrap_or, zero, ℕ, ◌&&◌, ◌++◌, ◌+◌, ◌-◌, ◌<◌, ◌==◌, ◌||◌, ◌∙◌, ◌∷◌, ◌≡◌, ◌≤◌, ◌⊎◌}
pub use Rattle.std.proofs.Math.Bool.{or-false}
pub use Rattle.std.proofs.lemmas.Bool.Decides.{nat_tests}
pub use Rattle.std.proofs.lemmas.Bool.{and_from, and_parts, cases_Bool, cases_lt, not-true, or_parts, or_right}
pub use Rattle.std.proofs.lemmas.List.Elements.{All-append, All-cons, All-contains, All-contains_itself, All-filter, All-head, All-nil, All-push, All-tail, All-weaker, Contains-append_left, Contains-push, filter-append, filter_passes}
pub use Rattle.std.proofs.lemmas.List.Folds.{list_any-append}
pub use Rattle.std.proofs.lemmas.List.Sorted.{All-permutation}
pub use Rattle.std.proofs.lemmas.List.Sums.{sum_by-cons}
pub use Rattle.std.proofs.lemmas.List.{append-nil, length-map, reverse-append}
pub use Rattle.std.proofs.lemmas.Option.{slice_get_within}
pub use Rattle.std.specs.List.{All, Contains, cons_option, filter_map, flat_map, list_all, list_any}
pub use Rattle.std.specs.Option.{option_map_or}
pub use Rattle.uvm_acts.specs.Acts.{node_of}
pub use Rattle.uvm_acts.specs.declared.acts.Act.TheVariants.{Add, Ask, Create, DropObjection, EndStep, Get, Grab, ItemDone, Lock, Peek, Put, RaiseObjection, Send, SetDrain, Start, Take, TryPut, TryTake, Unlock, Wait, Write}
pub use Rattle.uvm_acts.specs.declared.acts.Act.{Act}
pub use Rattle.uvm_acts.specs.declared.acts.Call.{Call}
pub use Rattle.uvm_acts.specs.declared.acts.What.{What}
pub use Rattle.uvm_acts.specs.declared.acts.Who.TheVariants.{Sequence}
pub use Rattle.uvm_acts.specs.declared.acts.Who.{Who}
pub use Rattle.uvm_glob.specs.Faults.{fault_if}
pub use Rattle.uvm_glob.specs.Lists.{first_given}
pub use Rattle.uvm_glob.specs.Paths.{path_fault}
pub use Rattle.uvm_object.specs.Objects.{exchanged_in, same_who}
pub use Rattle.uvm_object.specs.declared.entries.Entry.TheVariants.{Begin, Did, Drained, End, Granted, Heard, Locked, Note, Over, Passed, Time}
pub use Rattle.uvm_object.specs.declared.entries.Entry.{Entry}
pub use Rattle.uvm_object.specs.declared.entries.Origin.{Origin}
pub use Rattle.uvm_object.specs.declared.entries.Outcome.TheVariants.{Done, Finished, Made, Refused, Started, Stored, Taken, Value, Waits}
pub use Rattle.uvm_object.specs.declared.entries.Outcome.{Outcome}
pub use Rattle.uvm_object.specs.declared.entries.Passage.{Passage}
pub use Rattle.uvm_object.specs.declared.entries.Reason.{Reason}
pub use Rattle.uvm_object.specs.declared.fatals.Fatal.TheVariants.{AskedTwice, CreatedAfterBuild, InvalidType, NoObject, NoPort, NoSequencer, NotGranted, NotOpen, NothingOut, OutOfRange, OutsideTask, OverrideLoop, Timeout, TooManyActs, TreeLimit}
pub use Rattle.uvm_object.specs.declared.fatals.Fatal.{Fatal}
pub use Rattle.uvm_objection.specs.Laws.{AreNodes, AreUnder, BegunDrainsAreHeld, IsHeldUntilDue, IsTree, NodesGrow, PlacesStay, SettledGoByTotals, TotalIsSum, places}
pub use Rattle.uvm_objection.specs.Nodes.{changed_at, drain_of, dropped, due_of, held_of, is_known, new_node, raised, released, source_of, top, with_drain}
pub use Rattle.uvm_objection.specs.Totals.{begins, drains_begun, drains_ended, held_after, is_child, settled, standing, total}
pub use Rattle.uvm_phase.specs.Dues.{in_order, insert_due, same_cause}
unfoldable pub use Rattle.uvm_phase.specs.Dues.{is_due_before}
pub use Rattle.uvm_phase.specs.Laws.{OrderKeepsAll}
pub use Rattle.uvm_phase.specs.Phases.{is_runtime, is_task, phase_number, same_phase}
pub use Rattle.uvm_phase.specs.declared.agendas.Cause.{Cause}
pub use Rattle.uvm_phase.specs.declared.phases.Phase.TheVariants.{Build, Check, Configure, Connect, EndOfElaboration, Extract, Final, Main, PostConfigure, PostMain, PostReset, PostShutdown, PreConfigure, PreMain, PreReset, PreShutdown, Report, Reset, Run, Shutdown, StartOfSimulation}
pub use Rattle.uvm_phase.specs.declared.phases.Phase.{Phase}
pub use Rattle.uvm_report.specs.Commands.{Command, SetQuitLimit, is_issue}
pub use Rattle.uvm_report.specs.Laws.{CommandsAreCounted}
pub use Rattle.uvm_sequencer.specs.Choices.{choice, contenders, is_drawn, is_greatest, is_random, readiness}
pub use Rattle.uvm_sequencer.specs.Drivers.{grant_of, granted_by, hand_of, is_idle, is_try, kept_on, lapsed, left_by, loses_try, sent, wait_of}
pub use Rattle.uvm_sequencer.specs.Laws.{LockExcludes, are_nested, is_as_urgent}
pub use Rattle.uvm_sequencer.specs.Queues.{is_candidate, is_held, is_item, is_item_of, item_request, lock_in, lock_request, priority_of}
pub use Rattle.uvm_sequencer.specs.Sequencers.{SequencerValue, candidates_at, choice_at, lock_at, ready_at}
pub use Rattle.uvm_sequencer.specs.declared.drivers.Driver.{Driver}
pub use Rattle.uvm_sequencer.specs.declared.drivers.How.TheVariants.{Try}
pub use Rattle.uvm_sequencer.specs.declared.drivers.How.{How}
pub use Rattle.uvm_sequencer.specs.declared.modes.Mode.TheVariants.{Fifo, StrictFifo, StrictRandom}
pub use Rattle.uvm_sequencer.specs.declared.modes.Mode.{Mode}
pub use Rattle.uvm_sequencer.specs.declared.requests.Request.{Request}
pub use Rattle.uvm_sequencer.specs.declared.requests.Want.{Want}
pub use Rattle.uvm_sequences.specs.Sequences.{is_under, numbered}
pub use Rattle.uvm_sequences.specs.declared.starts.SeqStep.TheVariants.{Body, PostStart, PreStart}
pub use Rattle.uvm_sequences.specs.declared.starts.SeqStep.{SeqStep}
pub use Rattle.uvm_tlm.specs.Fifos.{first_put, has_room}
unfoldable pub use Rattle.uvm_tlm.specs.Fifos.{next_move}
pub use Rattle.uvm_tlm.specs.Wirings.{WiringValue, targets_of}
pub use Rattle.uvm_tlm.specs.declared.ends.PortKind.TheVariants.{Seq}
pub use Rattle.uvm_tlm.specs.declared.ends.PortKind.{PortKind}
pub use Rattle.uvm_tlm.specs.declared.fifos.MoveKind.{MoveKind}
pub use Rattle.uvm_tlm.specs.declared.items.Item.{Item}
pub use Rattle.uvm_tree.specs.Cursors.{is_before, least, sooner}
pub use Rattle.uvm_tree.specs.Nodes.{Node, child, node_at, under_at}
unfoldable pub use Rattle.uvm_tree.specs.Nodes.{add_fault}
pub use Rattle.uvm_tree.specs.Sorted.{path_order}
pub use Rattle.uvm_tree.specs.declared.faults.TreeFault.TheVariants.{NameTaken, NoParent}
pub use Rattle.uvm_tree.specs.declared.faults.TreeFault.{TreeFault}
pub use Rattle.uvm_tree.specs.declared.nodes.NodeKind.TheVariants.{Component}
pub use Rattle.uvm_tree.specs.declared.nodes.NodeKind.{NodeKind}
