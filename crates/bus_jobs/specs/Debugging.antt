-- The output of the command `debug` for a script.
use Rattle.std.specs.Prelude.{◌≡◌, ◌≢◌, ℕ, List, [], ◌∷◌, ◌++◌, length, take, reverse, map, Option, Some, None, Result, Ok, Err, IsOk, codes}
use Rattle.std.specs.List.{concat}
use Rattle.std.specs.Io.KnownBytes.{Appends, Keeps}
use Rattle.uvm_glob.specs.Paths.{path_text}
use Rattle.uvm_factory.specs.Faults.{Types}
use Rattle.uvm_factory.specs.Overrides.{made_type}
use Rattle.script_tables.specs.declared.rows.Probe.{Probe}
use Rattle.script_values.specs.declared.faults.ScriptFault.{ScriptFault}
use Rattle.script_values.specs.declared.faults.ScriptFault.TheVariants as faults
use Rattle.bench_script.specs.Documents.{script_of_bytes}
use Rattle.bench_script.specs.Scripts.{ScriptValue}
use Rattle.bench_history.specs.History.{type_name_or}
use Rattle.script_input.specs.declared.breakages.Breakage.{Breakage}
use Rattle.script_input.specs.declared.breakages.Breakage.TheVariants.{Memory, LogFull, Output, Unread}
use Rattle.bus_jobs.specs.declared.verdicts.Verdict.{Verdict}
use Rattle.bus_jobs.specs.declared.verdicts.Verdict.TheVariants.{Clean, Faulty, Refused, Broken}

-- the end of a line of `debug`: the name of the type that is made, or that the overrides form a loop
abbrev pub answer_text : Types → Option ℕ → List ℕ
answer_text types None = codes " loops"
answer_text types (Some made) = codes " -> " ++ type_name_or types made []

-- the line of `debug` for a probe: `TYPE @ PATH -> MADE` or `TYPE @ PATH loops`, with its newline (10)
abbrev pub answer_line : Types → Probe → Option ℕ → List ℕ
answer_line types probe made = type_name_or types probe.type_id [] ++ codes " @ " ++ path_text probe.path ++ answer_text types made ++ 10 ∷ []

-- the type that the script's factory makes for a probe, unless the overrides form a loop
abbrev pub made_for : ScriptValue → Probe → Option ℕ
made_for script probe = made_type (reverse script.overrides) (length script.types) (path_text probe.path) probe.type_id

-- the line of `debug` for a probe of a script
abbrev pub probe_line : ScriptValue → Probe → List ℕ
probe_line script probe = answer_line script.types probe (made_for script probe)

-- the lines of `debug` for a script: one for each probe, in order
unfoldable pub debug_lines : ScriptValue → List (List ℕ)
debug_lines script = map (probe_line script) script.probes

-- the whole output of `debug` for a script
abbrev pub debug_text : ScriptValue → List ℕ
debug_text script = concat (debug_lines script)

-- the writer took whole lines, from the first on
abbrev pub SomeLinesWritten : List (List ℕ) → Option (List ℕ) → Option (List ℕ) → Type 0
SomeLinesWritten lines old new = (n : ℕ) × Appends old new (concat (take n lines))

-- What was written before `debug` stopped. After out of memory it is whole lines, from the first on. The output can fail only if there is a
-- line.
abbrev pub BrokeOff : List (List ℕ) → Option (List ℕ) → Option (List ℕ) → Breakage → Type 0
BrokeOff lines old new Memory = SomeLinesWritten lines old new
BrokeOff lines old new LogFull = ⊥
BrokeOff lines old new Output = lines ≢ []
BrokeOff lines old new Unread = ⊥

-- the lines of `debug` for a script that was read; none if it was rejected
abbrev pub lines_of : Result ScriptValue ScriptFault → List (List ℕ)
lines_of (Ok script) = debug_lines script
lines_of (Err fault) = []

-- what each verdict states of the bytes of a file, and of the bytes that the writer holds before and after
abbrev pub IsDebugRun : List ℕ → Option (List ℕ) → Option (List ℕ) → Verdict → Type 0
IsDebugRun bytes old new Clean = IsOk (script_of_bytes bytes) × Appends old new (concat (lines_of (script_of_bytes bytes)))
IsDebugRun bytes old new Faulty = ⊥
IsDebugRun bytes old new (Refused fault) = (script_of_bytes bytes ≡ Err fault) × (fault ≢ faults.Memory) × Keeps old new
IsDebugRun bytes old new (Broken breakage) = BrokeOff (lines_of (script_of_bytes bytes)) old new breakage
