-- The result of the run of a document over a client.
use Rattle.std.specs.Prelude.{◌≡◌, ◌≢◌, ◌⊎◌, ℕ, Bool, true, false, List, [], codes, Option, Result, Ok, Err}
use Rattle.toml.specs.Data.{Data, Members, get_member}
use Rattle.uvm_factory.specs.Faults.{Types}
use Rattle.rand_core.specs.Stream.{Stream}
use Rattle.script_values.specs.declared.faults.ScriptFault.{ScriptFault}
use Rattle.script_values.specs.declared.faults.ScriptFault.TheVariants as faults
use Rattle.bench_script.specs.Documents.{tree_of_bytes}
use Rattle.bench_script.specs.Scripts.{ScriptValue}
use Rattle.bench_run.specs.RunResults.{is_clean}
use Rattle.bench_run.specs.declared.run_results.RunResult.{RunResult}
use Rattle.script_objects.specs.Answers.{TypeValue}
use Rattle.script_jobs.specs.Runs.{HoldsAnswers, IsReadFault, lost_test, refusal_by, script_to_run, unknown_types}
use Rattle.script_jobs.specs.declared.verdicts.Refusal.{Refusal}
use Rattle.script_jobs.specs.declared.verdicts.Refusal.TheVariants.{Script}
use Rattle.script_jobs.specs.declared.verdicts.Verdict as refused_verdict
use Rattle.script_jobs.specs.declared.verdicts.Verdict.TheVariants as refused
use Rattle.serve_dialogue.specs.Served.{IsServed}
use Rattle.serve_dialogue.specs.Spoken.{Spoken, said}
use Rattle.serve_dialogue.specs.declared.errors.ServeError.{ServeError}
use Rattle.serve_dialogue.specs.declared.errors.ServeError.TheVariants.{Memory, Output, NoTest}
use Rattle.serve_jobs.specs.Lines.{head_lines, last_lines}
use Rattle.serve_jobs.specs.declared.verdicts.Verdict.{Verdict}
use Rattle.serve_jobs.specs.declared.verdicts.Verdict.TheVariants.{Clean, Faulty, Refused, Broken}

-- the script of a tree has an error, for which it is rejected with this reason
pub record HasFault (root : Members) (test : Option (List ℕ)) (refusal : Refusal) : Type 0 where
  pub fault : ScriptFault
  pub found : script_to_run root test ≡ Err fault
  pub judged : fault ≢ faults.Memory
  pub reported : refusal ≡ refusal_by fault (lost_test root test)

-- the script of a tree has no error, but its answers are rejected with this reason
pub record HasAnswersFault (root : Members) (test : Option (List ℕ)) (refusal : Refusal) : Type 0 where
  pub script : ScriptValue
  pub asked : script_to_run root test ≡ Ok script
  pub fault : IsReadFault (get_member (codes "answers") root) script.types (refused.Refused refusal)

-- the bytes are not a document, or memory ran out
abbrev pub IsUnread : Result Members ScriptFault → Verdict → Type 0
IsUnread parsed verdict = ((fault : ScriptFault) × (parsed ≡ Err fault) × (verdict ≡ Refused (Script fault))) ⊎ (verdict ≡ Broken Memory)

-- the verdict on a document that is not run: rejected for the same reason, otherwise out of memory
abbrev pub reported_as : refused_verdict.Verdict → Verdict
reported_as (refused.Refused refusal) = Refused refusal
reported_as verdict = Broken Memory

-- the verdict on the answers of a tree: they are rejected, or memory ran out
abbrev pub IsAnswersVerdict : Option Data → Types → Verdict → Type 0
IsAnswersVerdict answers types Clean = ⊥
IsAnswersVerdict answers types Faulty = ⊥
IsAnswersVerdict answers types (Refused refusal) = IsReadFault answers types (refused.Refused refusal)
IsAnswersVerdict answers types (Broken error) = error ≡ Memory

-- the verdict on the script of a tree that is not run: it is rejected, or memory ran out
abbrev pub IsRefusedBy : Members → Option (List ℕ) → Verdict → Type 0
IsRefusedBy root test Clean = ⊥
IsRefusedBy root test Faulty = ⊥
IsRefusedBy root test (Refused refusal) = HasFault root test refusal
IsRefusedBy root test (Broken error) = error ≡ Memory

module _ {C : Type 0} (spoke : C → C → List Spoken → Type 0) (ended : C → C → Type 0) (line : C → ℕ) where
  -- the script of a tree was run with this result; each type that has answers is declared
  pub record RanTo (root : Members) (test : Option (List ℕ)) (words : Stream) (trace : Bool) (old new : C) (result : Result RunResult ServeError) : Type 0 where
    pub script : ScriptValue
    pub asked : script_to_run root test ≡ Ok script
    pub answers : List TypeValue
    pub holds : HoldsAnswers (get_member (codes "answers") root) answers
    pub known : unknown_types answers script.types ≡ []
    pub run : IsServed spoke ended line answers words script trace old new result

  -- what each verdict states of the tree of a document, and of what was said
  abbrev pub IsServedTree : Members → Option (List ℕ) → Stream → Bool → C → C → Verdict → Type 0
  IsServedTree root test words trace old new Clean = (run_result : RunResult) × (is_clean run_result ≡ true) × RanTo root test words trace old new (Ok run_result)
  IsServedTree root test words trace old new Faulty = (run_result : RunResult) × (is_clean run_result ≡ false) × RanTo root test words trace old new (Ok run_result)
  IsServedTree root test words trace old new (Refused refusal) = (HasFault root test refusal ⊎ HasAnswersFault root test refusal) × (new ≡ old)
  IsServedTree root test words trace old new (Broken error) = ((error ≡ Memory) × (new ≡ old)) ⊎ ((error ≢ NoTest) × RanTo root test words trace old new (Err error))

  -- what each verdict states of the bytes of a document, and of what was said
  abbrev pub IsServedDocument : List ℕ → Option (List ℕ) → Stream → Bool → C → C → Verdict → Type 0
  IsServedDocument bytes test words trace old new verdict =
      ((root : Members) × (tree_of_bytes bytes ≡ Ok root) × IsServedTree root test words trace old new verdict) ⊎ (IsUnread (tree_of_bytes bytes) verdict × (new ≡ old))

  -- the whole talk with a client: the first lines, the run, and the last lines
  pub record IsServedWhole (bytes : List ℕ) (test : Option (List ℕ)) (seed : ℕ) (words : Stream) (trace : Bool) (old new : C) (verdict : Verdict) : Type 0 where
    pub begun : C
    pub done : C
    pub head : spoke old begun (said (head_lines seed))
    pub unread : line begun ≡ line old
    pub run : IsServedDocument bytes test words trace begun done verdict
    pub last : spoke done new (said (last_lines verdict))

  -- the same, unless the client refused a text; then nothing is stated
  abbrev pub IsServedBench : List ℕ → Option (List ℕ) → ℕ → Stream → Bool → C → C → Verdict → Type 0
  IsServedBench bytes test seed words trace old new (Broken Output) = Unit {0}
  IsServedBench bytes test seed words trace old new verdict = IsServedWhole bytes test seed words trace old new verdict
