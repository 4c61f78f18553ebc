-- The names of other crates and of this crate's specs that its proofs cite, passed on from one place. Declares nothing.
pub use Rattle.bench_run.specs.Given.{run-as}
pub use Rattle.bench_run.specs.Laws.{AllowsOneAtMost, EndsAreDetermined}
pub use Rattle.bench_run.specs.RunResults.{is_clean}
pub use Rattle.bench_kernel.specs.Cores.{CoreValue}
pub use Rattle.bench_run.specs.Running.{HasRun}
pub use Rattle.bench_run.specs.Texts.{TookSome, TookTexts, took-nothing-of}
pub use Rattle.bench_run.specs.declared.faults.RunFault.{RunFault}
pub use Rattle.bench_run.specs.declared.run_results.RunResult.{RunResult}
pub use Rattle.bench_script.specs.Documents.{tree_of_bytes}
pub use Rattle.bench_script.specs.Scripts.{ScriptValue}
pub use Rattle.script_input.specs.Scripts.{words_of_seed}
pub use Rattle.script_input.specs.Breakages.{breakage_of}
pub use Rattle.script_input.specs.declared.breakages.Breakage.{Breakage}
pub use Rattle.script_input.specs.declared.breakages.Breakage.TheVariants.{LogFull, Memory, Output, Unread}
pub use Rattle.bus_objects.specs.Laws.{ObjectsAreFunctions}
pub use Rattle.rand_core.specs.Stream.{Stream}
pub use Rattle.script_jobs.specs.Benches.{BenchValue, HasRead, IsNoBench, IsRunOf, IsUnreadBench}
pub use Rattle.script_jobs.specs.Laws.{BenchRunsAreRuns, IsDecided, RunsAreDetermined}
pub use Rattle.script_jobs.specs.Objects.{name_of, object_named, says_of, view_of}
pub use Rattle.script_jobs.specs.Runs.{GivesNamed, HasBare, HasBench, HasEnded, HasFault, HasUnknown, HasNoRun, IsRefused, HoldsAnswers, IsAnswersFault, IsBenchRun, IsNoTable, IsReadFault, IsReported, IsScriptRun, IsTreeRun, IsUnread, IsVerdictOn, RanTo, bare_types, lost_test, refusal_by, script_to_run, unknown_types}
pub use Rattle.script_jobs.specs.declared.objects.BenchObject.TheVariants.{Bus, Scripted}
pub use Rattle.script_jobs.specs.declared.objects.BenchObject.{BenchObject}
pub use Rattle.script_jobs.specs.declared.verdicts.Refusal.TheVariants.{Answers, NoObject, NoTable, Script, UnknownTest, UnknownType}
pub use Rattle.script_jobs.specs.declared.verdicts.Refusal.{Refusal}
pub use Rattle.script_jobs.specs.declared.verdicts.Verdict.TheVariants.{Broken, Clean, Faulty, Refused}
pub use Rattle.script_jobs.specs.declared.verdicts.Verdict.{Verdict}
pub use Rattle.script_objects.specs.Answers.{TypeValue}
pub use Rattle.script_objects.specs.Laws.{AnswersAreFunctions, TablesTellTypes}
pub use Rattle.script_objects.specs.Tables.{AreTypesOf}
pub use Rattle.script_values.specs.declared.faults.ScriptFault.{ScriptFault}
pub use Rattle.std.proofs.Common.{Bool, Err, IfOk, IfSome, List, None, Ok, Option, Result, Some, [], ap, drop, false, if◌then◌else◌, inl, inr, option_copied, option_map, refl, rules, slice_get, subst, sym, true, ℕ, ◌++◌, ◌∙◌, ◌∷◌, ◌≡◌, ◌≢◌, ◌⊎◌}
pub use Rattle.std.specs.Fmt.{HasWritten}
pub use Rattle.std.specs.Io.KnownBytes.{Keeps}
pub use Rattle.std.specs.Prelude.{codes}
pub use Rattle.toml.proofs.Views.{table_get}
pub use Rattle.toml.specs.Data.{Data, Members, as_table, get_member}
pub use Rattle.toml.specs.View.{table_view, view}
pub use Rattle.uvm_acts.specs.declared.acts.Call.{Call}
pub use Rattle.uvm_factory.specs.Faults.{Types}
pub use Rattle.uvm_object.specs.Objects.{View}
