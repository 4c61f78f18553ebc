-- The names of other crates and of this crate's specs that its proofs cite, passed on from one place. Declares nothing.
pub use Rattle.bench_run.specs.Given.{run-as}
pub use Rattle.bench_run.specs.Laws.{AllowsOneAtMost, EndsAreDetermined}
pub use Rattle.bench_run.specs.RunResults.{is_clean}
pub use Rattle.bench_run.specs.Texts.{took-nothing-of}
pub use Rattle.bench_run.specs.declared.faults.RunFault.{RunFault}
pub use Rattle.bench_run.specs.declared.run_results.RunResult.{RunResult}
pub use Rattle.bench_script.specs.Factories.{IsFactoryOf}
pub use Rattle.bench_script.specs.Scripts.{ScriptValue}
pub use Rattle.bus_jobs.specs.Debugging.{answer_line, made_for, probe_line}
unfoldable pub use Rattle.bus_jobs.specs.Debugging.{debug_lines}
pub use Rattle.bus_jobs.specs.Laws.{IsDecided, RunsAreDetermined}
pub use Rattle.bus_jobs.specs.Runs.{GivesNamed, IsBenchRun, IsBusRun, script_to_run}
pub use Rattle.script_input.specs.Breakages.{breakage_of}
pub use Rattle.script_input.specs.declared.breakages.Breakage.TheVariants.{LogFull, Memory, Output, Unread}
pub use Rattle.bus_jobs.specs.declared.verdicts.Verdict.TheVariants.{Broken, Clean, Faulty, Refused}
pub use Rattle.bus_jobs.specs.declared.verdicts.Verdict.{Verdict}
pub use Rattle.bus_objects.specs.Laws.{ObjectsAreFunctions}
pub use Rattle.bus_objects.specs.Objects.{name_of, object_named, says_of, view_of}
pub use Rattle.bus_objects.specs.declared.objects.BusObject.{BusObject}
pub use Rattle.rand_core.specs.Stream.{Stream}
pub use Rattle.script_values.specs.declared.faults.ScriptFault.{ScriptFault}
pub use Rattle.script_tables.specs.declared.rows.Probe.{Probe}
pub use Rattle.std.proofs.Common.{Bool, Err, List, None, Ok, Option, Result, Some, [], ap, arith, get_or, if◌then◌else◌, inl, inr, length, map, option_copied, refl, reverse, subst, sym, take, ℕ, ◌++◌, ◌+◌, ◌<◌, ◌∙◌, ◌∷◌, ◌≡◌, ◌≢◌, ◌≤◌}
pub use Rattle.std.proofs.KnownBytes.{Appends-trans}
pub use Rattle.std.proofs.lemmas.List.{append-nil, append_assoc, length-map, map-append, take-map, take_all, take_more}
pub use Rattle.std.specs.Io.KnownBytes.{Appends, Keeps}
pub use Rattle.std.specs.List.{concat}
pub use Rattle.uvm_acts.specs.declared.acts.Call.{Call}
pub use Rattle.uvm_factory.specs.Observed.{Representation, made_at, next_at, types_of}
pub use Rattle.uvm_factory.specs.Overrides.{StepsReplace}
pub use Rattle.uvm_factory.specs.Steps.{made, next_type}
pub use Rattle.uvm_glob.specs.Paths.{path_text}
pub use Rattle.uvm_object.specs.Objects.{View}
