-- The script that is run, and the random numbers of its run.
use Rattle.std.specs.Prelude.{ℕ, List, is_some, Option, Some, None, Result, Ok, Err, if◌then◌else◌}
use Rattle.rand_core.specs.Stream.{Stream}
use Rattle.rand_core.specs.Pcg32Seed.{pcg32_seed}
use Rattle.rand_core.specs.Steps.{stream_of, steps_u64_low}
use Rattle.rand_pcg.specs.Pcg.{pcg64, pcg64_of_seed}
use Rattle.script_values.specs.declared.faults.ScriptFault.{ScriptFault}
use Rattle.script_values.specs.declared.faults.ScriptFault.TheVariants as faults
use Rattle.script_values.specs.Places.{with_fault}
use Rattle.script_values.specs.Reading.{and_then}
use Rattle.bench_script.specs.Documents.{test_among}
use Rattle.bench_script.specs.Scripts.{ScriptValue}

-- the script with the requested test, if one is given, in place of its own
abbrev pub with_test : Option (List ℕ) → ScriptValue → Result ScriptValue ScriptFault
with_test None script = Ok script
with_test (Some name) script = and_then (with_fault (test_among script.types (Some name))) (λ test. Ok (record script { test = test }))

-- the script, if it has a test; otherwise the error `Missing`
abbrev pub tested : ScriptValue → Result ScriptValue ScriptFault
tested script = if is_some script.test then Ok script else Err faults.Missing

-- the script that is run, with the requested test in place of its own; or why none is
abbrev pub chosen : Option (List ℕ) → ScriptValue → Result ScriptValue ScriptFault
chosen test script = and_then (with_test test script) tested

-- the random numbers of `Pcg64` from a seed
abbrev pub words_of_seed : ℕ → Stream
words_of_seed seed = stream_of (steps_u64_low pcg64) (pcg64_of_seed (pcg32_seed 32 seed))
