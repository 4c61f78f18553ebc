-- The names of other crates and of this crate's specs that its proofs cite, passed on from one place. Declares nothing.
pub use Rattle.bench_history.specs.Dues.{call_in, calls_numbered, caused_at, drain_from, due_events, event_in, is_of_one, is_open, with_drains, written_to}
pub use Rattle.bench_history.specs.EventTargets.{Event, is_drain_of, who_of}
pub use Rattle.bench_history.specs.History.{now_of}
pub use Rattle.bench_history.specs.Laws.{HasNotEnded, IsDrainDue}
pub use Rattle.bench_history.specs.Objections.{with_new}
pub use Rattle.bench_history.specs.Reports.{action_command, severity_command, verbosity_command}
pub use Rattle.bench_history.specs.declared.event_targets.DueCall.{DueCall}
pub use Rattle.bench_history.specs.declared.event_targets.EventTarget.TheVariants.{Object}
pub use Rattle.bench_history.specs.declared.event_targets.EventTarget.{EventTarget}
pub use Rattle.bench_script.specs.Scripts.{ScriptValue}
unfoldable pub use Rattle.script_tables.specs.Drains.{CanDrain}
pub use Rattle.script_tables.specs.Drains.{drain_given, is_drain_at}
pub use Rattle.script_tables.specs.declared.drains.Drain.{Drain}
pub use Rattle.std.proofs.Common.{All, Bool, Contains, Err, IfSome, List, None, Ok, OnErr, Option, Result, Some, [], add-one, ap, append_assoc, arith, drop, false, filter, find, get_or, if◌then◌else◌, inl, inr, length, length-append, map, nat_eq, nat_lt, not, option_map, refl, reverse, rules, slice_get, slice_set, subst, suc, sym, take, true, zero, ℕ, ◌&&◌, ◌++◌, ◌+◌, ◌-◌, ◌<◌, ◌==◌, ◌||◌, ◌∙◌, ◌∷◌, ◌≡◌, ◌≢◌, ◌≤◌, ◌⊎◌}
pub use Rattle.std.proofs.Math.Seq.{drop-cons, take-suc}
pub use Rattle.std.proofs.lemmas.Bool.Decides.{nat_tests}
pub use Rattle.std.proofs.lemmas.List.Elements.{All-append, All-cons, All-filter, All-get_or, All-head, All-nil, All-tail, All-weaker}
pub use Rattle.std.proofs.lemmas.List.Folds.{list_any_none}
pub use Rattle.std.proofs.lemmas.List.Kept.{AllPairs-cons, AllPairs-filter}
pub use Rattle.std.proofs.lemmas.List.Sorted.{All-permutation}
pub use Rattle.std.proofs.lemmas.List.{length-map, map-append, reverse-append, take_all, take_more}
pub use Rattle.std.proofs.lemmas.Map.Keys.{IsDistinct-head, IsDistinct-tail}
pub use Rattle.std.proofs.lemmas.Map.Made.{Contains-tail}
pub use Rattle.std.proofs.lemmas.Option.{slice_get_cases, slice_get_past, slice_get_read}
pub use Rattle.std.specs.Bool.{IsTrue}
pub use Rattle.std.specs.Cmp.Lexicographic.{pointwise}
pub use Rattle.std.specs.Fmt.{decimal}
pub use Rattle.std.specs.List.{AllByRecursion, AllPairs, cons_option, filter_map, flat_map, list_any}
unfoldable pub use Rattle.std.specs.List.{IsDistinct}
pub use Rattle.std.specs.Option.{option_map_or, option_or, option_to_list}
pub use Rattle.std.specs.Prelude.{codes}
pub use Rattle.uvm_acts.specs.Acts.{node_of}
pub use Rattle.uvm_acts.specs.declared.acts.Call.{Call}
pub use Rattle.uvm_acts.specs.declared.acts.Who.TheVariants.{Sequence}
pub use Rattle.uvm_acts.specs.declared.acts.Who.{Who}
pub use Rattle.uvm_glob.specs.Lists.{first_given}
pub use Rattle.uvm_object.specs.Objects.{same_who}
pub use Rattle.uvm_object.specs.declared.entries.Entry.{Entry}
pub use Rattle.uvm_object.specs.declared.entries.Origin.{Origin}
pub use Rattle.uvm_objection.specs.Laws.{AreNodes, GrowsBy, IsHeldUntilDue, NodesGrow, PlacesStay, SettledGoByTotals, places}
pub use Rattle.uvm_objection.specs.Nodes.{Node, ObjectionValue, changed_at, drain_of, dropped, due_of, held_of, is_known, new_node, raised, released, top, with_drain}
pub use Rattle.uvm_objection.specs.Totals.{drains_begun, drains_ended, held_after, settled, total}
pub use Rattle.uvm_phase.specs.Dues.{in_order, same_cause}
pub use Rattle.uvm_phase.specs.Laws.{OrderKeepsAll, OrderKeepsFilters, OrderLosesFirst}
pub use Rattle.uvm_phase.specs.Phases.{is_task, phase_number, phases, same_phase}
pub use Rattle.uvm_phase.specs.declared.agendas.Cause.{Cause}
pub use Rattle.uvm_phase.specs.declared.phases.Phase.TheVariants.{Build, Check, Configure, Connect, EndOfElaboration, Extract, Final, Main, PostConfigure, PostMain, PostReset, PostShutdown, PreConfigure, PreMain, PreReset, PreShutdown, Report, Reset, Run, Shutdown, StartOfSimulation}
pub use Rattle.uvm_phase.specs.declared.phases.Phase.{Phase}
pub use Rattle.uvm_report.specs.Commands.{Command, Issue, SetAction, SetQuitLimit, SetSeverity, SetVerbosity, report_fate}
pub use Rattle.uvm_report.specs.Fates.{asks_exit}
unfoldable pub use Rattle.uvm_report.specs.Lines.{report_line}
pub use Rattle.uvm_report.specs.Plain.{most-none, most-one}
pub use Rattle.uvm_report.specs.Severities.{severity_text}
pub use Rattle.uvm_report.specs.declared.messages.Fate.{Fate}
pub use Rattle.uvm_report.specs.declared.severities.Severity.{Severity}
pub use Rattle.uvm_tlm.specs.declared.items.Item.{Item}
pub use Rattle.uvm_tree.specs.Nodes.{under_at}
pub use Rattle.world_state.specs.Agendas.{IsAgenda}
pub use Rattle.world_state.specs.CallsMatch.{if_told, is_told, living_numbered}
pub use Rattle.world_state.specs.ObjectionsMatch.{AreEvents, AreNumbered, IsDrainEvent, IsEvent, IsObjecting}
pub use Rattle.world_state.specs.Phased.{HasOwnPlace, ObjectionsValue, OthersStayAt, given_by, nodes_at, nodes_in, one_at, place_in, spare_at}
pub use Rattle.world_state.specs.ReportsMatch.{IsReportState}
pub use Rattle.world_state.specs.declared.report_state.ReportState.{ReportState}
