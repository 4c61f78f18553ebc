-- The names of other crates and of this crate's specs that its proofs cite, passed on from one place. Declares nothing.
pub use Rattle.bench_history.specs.Cases.{chosen_at}
pub use Rattle.bench_history.specs.Dues.{call_of_passage, caused_at, delivered_causes, due_events, is_open, scheduled_events}
pub use Rattle.bench_history.specs.History.{calls_sort, components_called, components_of, created_name, ended_of, ends_build, in_progress, nodes_of, now_of, performer_of, phase_heard, running, same_sort, stage_of, test_creation}
unfoldable pub use Rattle.bench_history.specs.History.{next_call}
pub use Rattle.bench_history.specs.Laws.{IsLiving, IsThere, TaskPhasesFollowConnect}
unfoldable pub use Rattle.bench_history.specs.Sequences.{is_live}
pub use Rattle.std.proofs.Common.{All, Bool, Contains, IsSome, List, None, Option, Some, [], ap, arith, false, filter, if◌then◌else◌, is_some, length, map, nat_eq, option_and_then, option_map, refl, rules, slice_get, subst, suc, sym, true, unwrap_or, ℕ, ◌++◌, ◌-◌, ◌<◌, ◌==◌, ◌^◌, ◌||◌, ◌∙◌, ◌∷◌, ◌≡◌, ◌≤◌}
pub use Rattle.uvm_object.specs.declared.entries.Entry.TheVariants.{Begin, Drained, End, Granted, Heard, Locked, Note, Over, Passed, Time}
pub use Rattle.uvm_object.specs.declared.entries.Grant.{Grant}
pub use Rattle.uvm_sequencer.specs.Sequencers.{choice_at, granted, locked}
pub use Rattle.uvm_tree.specs.declared.nodes.NodeKind.TheVariants.{Component}
pub use Rattle.bench_history.specs.Objections.{given_below}
pub use Rattle.uvm_sequencer.specs.Laws.{PassedStays}
pub use Rattle.world_sequencing.proofs.Numbered.{numbered-holds}
pub use Rattle.world_sequencing.proofs.Starters.{phase-known}
pub use Rattle.world_sequencing.specs.SequencesMatch.{enders_of}
pub use Rattle.world_services.proofs.Answered.{length-snoc}
pub use Rattle.world_state.proofs.Written.{agenda-living, events-calls}
pub use Rattle.world_sequencing.proofs.Arbited.{arbitrated-granted, arbitrated-locked, arbitrated-more, granted-is, locked-is}
pub use Rattle.world_sequencing.proofs.Arbiting.{arbitrating-grown}
pub use Rattle.world_sequencing.proofs.Common.{After, ArbiterMap, ArbiterValue, Before, ChangesAt, Ended, IsArbitrated, IsArbitrating, IsKnown, IsNext, IsSequencing, LearnsAt, Mode, Start, StartRecord, arbiter_of, arbiter_with, at_sequencer, finished_of, is_runtime, known_at, lapsed_with, leaving_with, ledger_at, live_by, lock_in, mode_at, numbered, phase_at, phase_begun, ready_in, sequences_of, starts_in, starts_of}
pub use Rattle.world_sequencing.proofs.Contested.{arbitrating-there, changed-each, known-none, learns-else, learns-here, none-locked, none-served}
pub use Rattle.world_sequencing.proofs.Ending.{leaving-known, sequencing-ended}
pub use Rattle.world_sequencing.proofs.Phased.{arbitrating-ended, lapsed-known, lapsed-told, reopened}
pub use Rattle.world_sequencing.specs.declared.grant_indexes.GrantIndex.{GrantIndex}
pub use Rattle.world_services.proofs.Common.{ArePhaseCursors, AreToSettle, Direction, IsAnswerCursor, IsHeardInPhaseCursors, LeastIsLeast, OrdersNodes, ServicesMatch, acts_in, child, next_locked, next_served, node_cmp, objections_of, order_of, passing_at, wiring_of}
pub use Rattle.world_services.proofs.Entered.{answered-last, get-last}
pub use Rattle.world_services.proofs.Later.{acted, closed-here, later}
pub use Rattle.world_services.proofs.Opened.{component-open, drain-unended, living-unended, there-open}
pub use Rattle.world_services.proofs.Participants.{itself, known-better, known-there, locked-known, said, served-known}
pub use Rattle.world_services.proofs.Passages.{fifo_states-changed, fifo_states-ended, fifos_to_settle-ended, fifos_to_settle-none, fifos_to_settle-passed, next-passes, passed-changes, passed-more, settled-all}
pub use Rattle.world_services.proofs.Rounding.{called-alike, phase_cursors-begun, phase_cursors-ended, phase_cursors-heard, phase_cursors-made, phase_cursors-over}
pub use Rattle.world_services.proofs.Settling.{drain-changes, objectings-more, settling}
pub use Rattle.world_services.specs.declared.phase_cursors.PhaseCursors.{PhaseCursors}
pub use Rattle.world_services.specs.declared.services.AnswerCursor.{AnswerCursor}
pub use Rattle.world_services.specs.declared.services.Services.{Services}
pub use Rattle.world_state.proofs.Common.{Call, Entry, Object, Origin, Phase, Run, ScriptValue, Sequence, Who, first_given, is_task, is_told, list_any, nat_tests, node_of, nodes_in, released, same_phase, settled, total, with_new}
pub use Rattle.world_wiring.proofs.Common.{Act, All-contains, AreInPathOrder, During, EachIsNext, ForSome, IsClosedPast, IsClosing, IsConnecting, RunStage, WiringValue, ends_connect, get, is_closed, numbers_of, path_order}
pub use Rattle.world_wiring.proofs.Connected.{building-open, closing-after, connecting-after, connecting-grown, ends-ordered, past-after, permutation-contains, range-contains}
pub use Rattle.world_state.proofs.Drained.{due-is-held, due-released, events-all, events-ended, events-heard, events-told, held-made, known-held}
pub use Rattle.world_state.proofs.Scheduled.{agenda-ended, agenda-event, agenda-heard}
