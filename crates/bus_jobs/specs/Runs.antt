-- The command `run`.
use Rattle.std.specs.Prelude.{◌≡◌, ◌≢◌, ◌⊎◌, ℕ, Bool, true, false, List, Option, Some, Result, Ok, Err}
use Rattle.std.specs.Io.KnownBytes.{Keeps}
use Rattle.rand_core.specs.Stream.{Stream}
use Rattle.bus_objects.specs.Objects.{name_of, object_named, says_of, view_of}
use Rattle.bus_objects.specs.declared.objects.BusObject.{BusObject}
use Rattle.script_values.specs.declared.faults.ScriptFault.{ScriptFault}
use Rattle.script_values.specs.declared.faults.ScriptFault.TheVariants as faults
use Rattle.script_values.specs.Reading.{and_then}
use Rattle.bench_script.specs.Documents.{script_of_bytes}
use Rattle.bench_script.specs.Scripts.{ScriptValue}
use Rattle.script_input.specs.Scripts.{chosen}
use Rattle.bench_run.specs.RunResults.{is_clean}
use Rattle.bench_run.specs.Running.{IsRun}
use Rattle.bench_run.specs.declared.run_results.RunResult.{RunResult}
use Rattle.bench_run.specs.declared.faults.RunFault.{RunFault}
use Rattle.script_input.specs.Breakages.{breakage_of}
use Rattle.script_input.specs.declared.breakages.Breakage.TheVariants.{Memory}
use Rattle.bus_jobs.specs.declared.verdicts.Verdict.{Verdict}
use Rattle.bus_jobs.specs.declared.verdicts.Verdict.TheVariants.{Clean, Faulty, Refused, Broken}

-- the script to run, or the first error
abbrev pub script_to_run : List ℕ → Option (List ℕ) → Result ScriptValue ScriptFault
script_to_run bytes test = and_then (script_of_bytes bytes) (chosen test)

-- the bench gives, for the name of a type, the new object of that type, if it has the type
abbrev pub GivesNamed : List ℕ → Option BusObject → Type 0
GivesNamed type_name given = given ≡ object_named type_name

-- a run with the random numbers of a generator, over the objects of the bench
abbrev pub IsBusRun : Stream → ScriptValue → Bool → Option (List ℕ) → Option (List ℕ) → Result RunResult RunFault → Type 0
IsBusRun words script trace old new result = (left : Stream) × IsRun view_of name_of says_of GivesNamed words left script trace old new result

-- what each verdict states of the script, and of the bytes that the writer holds before and after
abbrev pub IsBenchRun : Result ScriptValue ScriptFault → Stream → Bool → Option (List ℕ) → Option (List ℕ) → Verdict → Type 0
IsBenchRun asked words trace old new Clean = (script : ScriptValue) × (asked ≡ Ok script) × (run_result : RunResult) × (is_clean run_result ≡ true) × IsBusRun words script trace old new (Ok run_result)
IsBenchRun asked words trace old new Faulty = (script : ScriptValue) × (asked ≡ Ok script) × (run_result : RunResult) × (is_clean run_result ≡ false) × IsBusRun words script trace old new (Ok run_result)
IsBenchRun asked words trace old new (Refused fault) = (asked ≡ Err fault) × (fault ≢ faults.Memory) × Keeps old new
IsBenchRun asked words trace old new (Broken breakage) =
    ((breakage ≡ Memory) × Keeps old new)
    ⊎ ((script : ScriptValue) × (asked ≡ Ok script) × (fault : RunFault) × (Some breakage ≡ breakage_of fault) × IsBusRun words script trace old new (Err fault))
