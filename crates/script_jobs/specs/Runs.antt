-- The run of a document.
use Rattle.std.specs.Prelude.{◌≡◌, ◌≢◌, ◌⊎◌, ◌||◌, ℕ, Bool, true, false, not, List, [], ◌∷◌, map, filter, slice_get, bytes_eq, is_none, is_some, string_bytes, Option, Some, None, Result, Ok, Err, IfOk, codes, if◌then◌else◌}
use Rattle.std.specs.List.{list_any}
use Rattle.std.specs.Option.{option_or}
use Rattle.std.specs.Io.KnownBytes.{Keeps}
use Rattle.toml.specs.Data.{Data, Members, as_table, get_member}
use Rattle.rand_core.specs.Stream.{Stream}
use Rattle.script_values.specs.declared.faults.ScriptFault.{ScriptFault}
use Rattle.script_values.specs.declared.faults.ScriptFault.TheVariants as faults
use Rattle.script_values.specs.declared.reasons.Reason.{Reason}
use Rattle.script_values.specs.Keys.{optional, some_of}
use Rattle.script_values.specs.Places.{unplaced, with_fault}
use Rattle.script_values.specs.Reading.{and_then}
use Rattle.script_values.specs.Values.{name_in}
use Rattle.script_tables.specs.Tables.{types_in}
use Rattle.bench_script.specs.Documents.{script_beside, tree_of_bytes}
use Rattle.bench_script.specs.Scripts.{ScriptValue}
use Rattle.uvm_factory.specs.Faults.{Types, type_named}
use Rattle.bench_run.specs.RunResults.{is_clean}
use Rattle.bench_run.specs.Running.{HasRun, IsRun}
use Rattle.bench_run.specs.Texts.{TookSome}
use Rattle.bench_run.specs.declared.run_results.RunResult.{RunResult}
use Rattle.bench_run.specs.declared.faults.RunFault.{RunFault}
use Rattle.script_input.specs.Scripts.{chosen}
use Rattle.script_input.specs.Breakages.{breakage_of}
use Rattle.script_input.specs.declared.breakages.Breakage.{Breakage}
use Rattle.script_input.specs.declared.breakages.Breakage.TheVariants as broke
use Rattle.bus_objects.specs.Objects.{object_named as bus_object}
use Rattle.script_objects.specs.Answers.{TypeValue, rules_named}
use Rattle.script_objects.specs.FirstFaults.{FaultAt, HasFirstFault}
use Rattle.script_objects.specs.Faults.{place_text}
use Rattle.script_objects.specs.Tables.{AreTypesOf}
use Rattle.script_jobs.specs.Objects.{name_of, object_named, says_of, view_of}
use Rattle.script_jobs.specs.declared.objects.BenchObject.{BenchObject}
use Rattle.script_jobs.specs.declared.runs.EndedRun.{EndedRun}
use Rattle.script_jobs.specs.declared.verdicts.Refusal.{Refusal}
use Rattle.script_jobs.specs.declared.verdicts.Refusal.TheVariants.{Script, UnknownTest, NoTable, UnknownType, NoObject, Answers}
use Rattle.script_jobs.specs.declared.verdicts.Verdict.{Verdict}
use Rattle.script_jobs.specs.declared.verdicts.Verdict.TheVariants.{Clean, Faulty, Refused, Broken}

-- The script to run, or the first error. It is the script of the tree without the member `answers`. The requested test, if given, replaces
-- its own.
abbrev pub script_to_run : Members → Option (List ℕ) → Result ScriptValue ScriptFault
script_to_run root test = and_then (script_beside (codes "answers" ∷ []) root) (chosen test)

-- if the document has a script to run, memory ran out before the log was full (`TookSome`)
abbrev pub RanOutEarly : Result Members ScriptFault → Option (List ℕ) → Option ℕ → Option ℕ → Type 0
RanOutEarly root test before after = IfOk root (λ root. IfOk (script_to_run root test) (λ script. TookSome script before after))

-- the name of the test in a document, if it has one
abbrev pub own_test : Members → Result (Option (List ℕ)) Reason
own_test root = optional (codes "test") None (some_of name_in) root

-- a name, if no type has it
abbrev pub undeclared : Types → Option (List ℕ) → Option (List ℕ)
undeclared types None = None
undeclared types (Some name) = if is_none (type_named types name) then Some name else None

-- the name of a test that is not a declared type: the document's own, otherwise the requested one
abbrev pub lost_test : Members → Option (List ℕ) → Result (Option (List ℕ)) ScriptFault
lost_test root asked = and_then (unplaced (types_in root)) (λ types. and_then (with_fault (own_test root)) (λ own. Ok (option_or (undeclared types own) (undeclared types asked))))

-- the reason to reject a script: `UnknownTest` if the test is not a declared type, otherwise the error itself
abbrev pub refusal_by : ScriptFault → Result (Option (List ℕ)) ScriptFault → Refusal
refusal_by faults.UnknownType (Ok (Some name)) = UnknownTest name
refusal_by fault lost = Script fault

-- the value of `answers` gives the rules of these types; without the key there are none
abbrev pub HoldsAnswers : Option Data → List TypeValue → Type 0
HoldsAnswers None types = types ≡ []
HoldsAnswers (Some answers) types = (table : Members) × (as_table answers ≡ Some table) × AreTypesOf table types

-- the value of `answers` is not a table
abbrev pub IsNoTable : Option Data → Type 0
IsNoTable None = ⊥
IsNoTable (Some answers) = as_table answers ≡ None

-- the value of `answers` is a table, and the text states the place and the kind of its first error
abbrev pub TellsFirstFault : Option Data → List ℕ → Type 0
TellsFirstFault None text = ⊥
TellsFirstFault (Some answers) text = (table : Members) × (as_table answers ≡ Some table) × ((at : FaultAt) × HasFirstFault table at × (text ≡ place_text at))

-- whether the script declares a type
abbrev pub has_type : Types → List ℕ → Bool
has_type types name = list_any (λ row. bytes_eq row.0 name) types

-- the types that have answers but are not declared in the script
abbrev pub unknown_types : List TypeValue → Types → List (List ℕ)
unknown_types answers types = filter (λ name. not (has_type types name)) (map (λ rules. rules.type_name) answers)

-- the first such type has this name
abbrev pub HasUnknown : Option Data → Types → List ℕ → Type 0
HasUnknown said types name = (answers : List TypeValue) × HoldsAnswers said answers × (slice_get (unknown_types answers types) 0 ≡ Some name)

-- whether a type has answers or a built-in object of the bus bench
abbrev pub has_object : List TypeValue → List ℕ → Bool
has_object answers name = is_some (rules_named answers name) || is_some (bus_object name)

-- the declared types of the script that have no object
abbrev pub bare_types : List TypeValue → Types → List (List ℕ)
bare_types answers types = filter (λ name. not (has_object answers name)) (map (λ row. row.0) types)

-- the first such type has this name, and each type with answers is declared
abbrev pub HasBare : Option Data → Types → List ℕ → Type 0
HasBare said types name = (answers : List TypeValue) × HoldsAnswers said answers × (unknown_types answers types ≡ []) × (slice_get (bare_types answers types) 0 ≡ Some name)

-- the verdict that rejects the answers of a document, for each reason; out of memory may always occur
abbrev pub IsAnswersFault : Option Data → Types → Verdict → Type 0
IsAnswersFault answers types Clean = ⊥
IsAnswersFault answers types Faulty = ⊥
IsAnswersFault answers types (Refused (Script fault)) = ⊥
IsAnswersFault answers types (Refused (UnknownTest name)) = ⊥
IsAnswersFault answers types (Refused NoTable) = IsNoTable answers
IsAnswersFault answers types (Refused (UnknownType type_name)) = HasUnknown answers types type_name
IsAnswersFault answers types (Refused (NoObject type_name)) = HasBare answers types type_name
IsAnswersFault answers types (Refused (Answers text)) = TellsFirstFault answers (string_bytes text)
IsAnswersFault answers types (Broken broke.Memory) = Unit {0}
IsAnswersFault answers types (Broken broke.LogFull) = ⊥
IsAnswersFault answers types (Broken broke.Output) = ⊥
IsAnswersFault answers types (Broken broke.Unread) = ⊥

-- the same, but without the check that each declared type has an object
abbrev pub IsReadFault : Option Data → Types → Verdict → Type 0
IsReadFault answers types (Refused (NoObject type_name)) = ⊥
IsReadFault answers types verdict = IsAnswersFault answers types verdict

-- a document gives, for the name of a type, the new object of that type
abbrev pub GivesNamed : List TypeValue → List ℕ → Option BenchObject → Type 0
GivesNamed types type_name given = given ≡ Some (object_named types type_name)

-- a run with the random numbers of a generator, over the objects of a document
abbrev pub IsScriptRun : List TypeValue → Stream → ScriptValue → Bool → Option (List ℕ) → Option (List ℕ) → Result RunResult RunFault → Type 0
IsScriptRun types words script trace old new result = (left : Stream) × IsRun view_of name_of says_of (GivesNamed types) words left script trace old new result

-- The tree has this script and these rules. Each type with rules is declared, and each declared type has an object.
pub record HasBench (root : Members) (test : Option (List ℕ)) (script : ScriptValue) (types : List TypeValue) : Type 0 where
  pub asked : script_to_run root test ≡ Ok script
  pub answers : HoldsAnswers (get_member (codes "answers") root) types
  pub known : unknown_types types script.types ≡ []
  pub objects : bare_types types script.types ≡ []

-- the script of a tree was run, with this result
pub record RanTo (root : Members) (test : Option (List ℕ)) (words : Stream) (trace : Bool) (old new : Option (List ℕ)) (result : Result RunResult RunFault) : Type 0 where
  pub script : ScriptValue
  pub types : List TypeValue
  pub bench : HasBench root test script types
  pub run : IsScriptRun types words script trace old new result

-- the script of a tree has no error, but its answers are rejected with this verdict; nothing was written
pub record IsRefused (root : Members) (test : Option (List ℕ)) (old new : Option (List ℕ)) (verdict : Verdict) : Type 0 where
  pub script : ScriptValue
  pub asked : script_to_run root test ≡ Ok script
  pub fault : IsAnswersFault (get_member (codes "answers") root) script.types verdict
  pub keeps : Keeps old new

-- the verdict on an error of a script: rejected for that reason, or out of memory
abbrev pub IsReported : ScriptFault → Result (Option (List ℕ)) ScriptFault → Verdict → Type 0
IsReported fault lost verdict = (verdict ≡ Broken broke.Memory) ⊎ ((fault ≢ faults.Memory) × (verdict ≡ Refused (refusal_by fault lost)))

-- the script of a tree has an error, for which it is rejected with this reason; nothing was written
pub record HasFault (root : Members) (test : Option (List ℕ)) (old new : Option (List ℕ)) (refusal : Refusal) : Type 0 where
  pub fault : ScriptFault
  pub found : script_to_run root test ≡ Err fault
  pub judged : fault ≢ faults.Memory
  pub reported : refusal ≡ refusal_by fault (lost_test root test)
  pub keeps : Keeps old new

-- what each verdict states of a tree, and of the bytes that the writer holds before and after
abbrev pub IsTreeRun : Members → Option (List ℕ) → Stream → Bool → Option (List ℕ) → Option (List ℕ) → Verdict → Type 0
IsTreeRun root test words trace old new Clean = (run_result : RunResult) × (is_clean run_result ≡ true) × RanTo root test words trace old new (Ok run_result)
IsTreeRun root test words trace old new Faulty = (run_result : RunResult) × (is_clean run_result ≡ false) × RanTo root test words trace old new (Ok run_result)
IsTreeRun root test words trace old new (Refused (Script fault)) = HasFault root test old new (Script fault)
IsTreeRun root test words trace old new (Refused (UnknownTest name)) = HasFault root test old new (UnknownTest name)
IsTreeRun root test words trace old new (Refused refusal) = IsRefused root test old new (Refused refusal)
IsTreeRun root test words trace old new (Broken breakage) =
    ((breakage ≡ broke.Memory) × Keeps old new) ⊎ ((fault : RunFault) × (Some breakage ≡ breakage_of fault) × RanTo root test words trace old new (Err fault))

-- the verdict on an error of a script
abbrev pub refused_by : ScriptFault → Verdict
refused_by faults.Memory = Broken broke.Memory
refused_by fault = Refused (Script fault)

-- the bytes are not a document, or memory ran out; nothing was written
abbrev pub IsUnread : Result Members ScriptFault → Option (List ℕ) → Option (List ℕ) → Verdict → Type 0
IsUnread parsed old new verdict = (((fault : ScriptFault) × (parsed ≡ Err fault) × (verdict ≡ Refused (Script fault))) ⊎ (verdict ≡ Broken broke.Memory)) × Keeps old new

-- what each verdict states of the bytes of a document, and of the bytes that the writer holds before and after
abbrev pub IsBenchRun : List ℕ → Option (List ℕ) → Stream → Bool → Option (List ℕ) → Option (List ℕ) → Verdict → Type 0
IsBenchRun bytes test words trace old new verdict =
    ((root : Members) × (tree_of_bytes bytes ≡ Ok root) × IsTreeRun root test words trace old new verdict) ⊎ IsUnread (tree_of_bytes bytes) old new verdict

-- the verdict on the result of a run
abbrev pub IsVerdictOn : Result RunResult RunFault → Verdict → Type 0
IsVerdictOn (Ok run_result) verdict = verdict ≡ (if is_clean run_result then Clean else Faulty)
IsVerdictOn (Err fault) verdict = (breakage : Breakage) × (Some breakage ≡ breakage_of fault) × (verdict ≡ Broken breakage)

-- A run of a document that has ended or was aborted: its core has the log whose text was written, and its answers are those of the document.
pub record HasEnded (parsed : Result Members ScriptFault) (test : Option (List ℕ)) (trace : Bool) (old new : Option (List ℕ)) (verdict : Verdict) (run : EndedRun) : Type 0 where
  pub root : Members
  pub script : ScriptValue
  pub result : Result RunResult RunFault
  pub read : parsed ≡ Ok root
  pub bench : HasBench root test script run.answers
  pub ran : HasRun run.core script trace old new result
  pub judged : IsVerdictOn result verdict

-- a document without a run: it is rejected, or memory ran out
abbrev pub HasNoRun : Verdict → Type 0
HasNoRun Clean = ⊥
HasNoRun Faulty = ⊥
HasNoRun (Refused refusal) = Unit {0}
HasNoRun (Broken broke.Memory) = Unit {0}
HasNoRun (Broken broke.LogFull) = ⊥
HasNoRun (Broken broke.Output) = ⊥
HasNoRun (Broken broke.Unread) = Unit {0}
