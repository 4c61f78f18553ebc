-- Runs of benches that were read, and the verdicts on documents without a bench.
use Rattle.script_jobs.proofs.Common.{◌≡◌, ◌≢◌, ℕ, Bool, List, Option, Some, None, Result, Ok, Err, inl, inr, refl, subst, sym, codes, get_member, Keeps, Members, Stream, ScriptValue, ScriptFault, tree_of_bytes, RunFault, BenchValue, BenchRunsAreRuns, HasBench, IsAnswersFault, IsNoBench, IsReported, IsRunOf, IsTreeRun, IsUnreadBench, lost_test, script_to_run, Script, UnknownTest, NoTable, UnknownType, NoObject, Answers, Verdict, Clean, Faulty, Refused, Broken, Memory, LogFull, Output, Unread}
use Rattle.script_jobs.proofs.Ran.{fault-run, verdict-to}
use Rattle.script_jobs.proofs.Common.{ap, ◌∙◌, true, false, if◌then◌else◌, Breakage, RunResult, TookSome, TookTexts, IfOk, IsVerdictOn, breakage_of, is_clean}
use Rattle.bench_run.specs.declared.faults.RunFault.TheVariants as run
use Rattle.script_values.specs.declared.faults.ScriptFault.TheVariants as faults

keeps-same : (held : Option (List ℕ)) → Keeps held held
keeps-same None = tt
keeps-same (Some bytes) = refl

-- a run of a bench is a run of the tree that it was read from
pub run-of-tree : (root : Members) (test : Option (List ℕ)) (bench : BenchValue) (words : Stream) (trace : Bool) (old new : Option (List ℕ)) (verdict : Verdict)
    → HasBench root test bench.script bench.types → IsRunOf bench words trace old new verdict → IsTreeRun root test words trace old new verdict
run-of-tree root test bench words trace old new verdict has (inl (result, run, judged)) =
    verdict-to root test words trace old new result verdict (record { script = bench.script; types = bench.types; bench = has; run = run }) judged
run-of-tree root test bench words trace old new verdict has (inr (broke, keeps)) = subst (IsTreeRun root test words trace old new) (sym broke) (inl (refl, keeps))

pub runs_of_benches : BenchRunsAreRuns
runs_of_benches bytes test bench words trace old new verdict has run = inl (has.root, has.read, run-of-tree has.root test bench words trace old new verdict has.bench run)

-- a tree whose script has a fault has no bench
pub no-script : (root : Members) (test : Option (List ℕ)) (fault : ScriptFault) (verdict : Verdict) → (fault ≢ faults.Memory → script_to_run root test ≡ Err fault)
    → IsReported fault (lost_test root test) verdict → IsNoBench root test verdict
no-script root test fault verdict found reported words trace held = fault-run root test words trace held fault verdict (keeps-same held) found reported

-- a tree whose answers are rejected has no bench
pub no-answers : (root : Members) (test : Option (List ℕ)) (script : ScriptValue) (verdict : Verdict) → script_to_run root test ≡ Ok script
    → IsAnswersFault (get_member (codes "answers") root) script.types verdict → IsNoBench root test verdict
no-answers root test script Clean asked fault words trace held = absurd fault
no-answers root test script Faulty asked fault words trace held = absurd fault
no-answers root test script (Refused (Script why)) asked fault words trace held = absurd fault
no-answers root test script (Refused (UnknownTest name)) asked fault words trace held = absurd fault
no-answers root test script (Refused NoTable) asked fault words trace held = record { script = script; asked = asked; fault = fault; keeps = keeps-same held }
no-answers root test script (Refused (UnknownType name)) asked fault words trace held = record { script = script; asked = asked; fault = fault; keeps = keeps-same held }
no-answers root test script (Refused (NoObject name)) asked fault words trace held = record { script = script; asked = asked; fault = fault; keeps = keeps-same held }
no-answers root test script (Refused (Answers text)) asked fault words trace held = record { script = script; asked = asked; fault = fault; keeps = keeps-same held }
no-answers root test script (Broken Memory) asked fault words trace held = inl (refl, keeps-same held)
no-answers root test script (Broken LogFull) asked fault words trace held = absurd fault
no-answers root test script (Broken Output) asked fault words trace held = absurd fault
no-answers root test script (Broken Unread) asked fault words trace held = absurd fault

-- bytes whose tree has no bench have none
pub no-bench : (bytes : List ℕ) (test : Option (List ℕ)) (root : Members) (verdict : Verdict) → tree_of_bytes bytes ≡ Ok root → IsNoBench root test verdict → IsUnreadBench bytes test verdict
no-bench bytes test root verdict read none words trace held = inl (root, read, none words trace held)

not-broken : (clean : Bool) (breakage : Breakage) → (if clean then Clean else Faulty) ≡ Broken breakage → ⊥
not-broken true breakage same = cc
not-broken false breakage same = cc

-- what stopped a run with a verdict that names it
fault-of : (result : Result RunResult RunFault) (verdict : Verdict) (breakage : Breakage) → IsVerdictOn result verdict → verdict ≡ Broken breakage
    → (fault : RunFault) × (result ≡ Err fault) × (Some breakage ≡ breakage_of fault)
fault-of (Ok run_result) verdict breakage is same = absurd (not-broken (is_clean run_result) breakage (sym is ∙ same))
fault-of (Err fault) verdict breakage (other, of, is) same =
    let one : other ≡ breakage = cc in
    (fault, refl, subst (λ it. Some it ≡ breakage_of fault) one of)

output-only : (fault : RunFault) → Some Output ≡ breakage_of fault → fault ≡ run.Output
output-only run.Memory of = cc
output-only run.LogFull of = cc
output-only run.Output of = refl
output-only run.NoTest of = cc

memory-only : (fault : RunFault) → Some Memory ≡ breakage_of fault → fault ≡ run.Memory
memory-only run.Memory of = refl
memory-only run.LogFull of = cc
memory-only run.Output of = cc
memory-only run.NoTest of = cc

-- a verdict that names the output is that of a run whose output failed
pub output-of : (Refuses : Type 0) (result : Result RunResult RunFault) (verdict : Verdict) → IsVerdictOn result verdict → (result ≡ Err run.Output → Refuses) → verdict ≡ Broken Output → Refuses
output-of Refuses result verdict judged refuses same = at (fault-of result verdict Output judged same) where
  at : (fault : RunFault) × (result ≡ Err fault) × (Some Output ≡ breakage_of fault) → Refuses
  at (fault, is, of) = refuses (is ∙ ap (λ it. Err it) (output-only fault of))

-- a verdict that names the memory is that of a run whose log was not full
pub room-of : (asked : Result ScriptValue ScriptFault) (script : ScriptValue) (result : Result RunResult RunFault) (verdict : Verdict) (before after : Option ℕ) → asked ≡ Ok script
    → IsVerdictOn result verdict → TookTexts script before after result → verdict ≡ Broken Memory → IfOk asked (λ script. TookSome script before after)
room-of asked script result verdict before after is judged took same = at (fault-of result verdict Memory judged same) where
  at : (fault : RunFault) × (result ≡ Err fault) × (Some Memory ≡ breakage_of fault) → IfOk asked (λ script. TookSome script before after)
  at (fault, ended, of) =
      subst (λ asked. IfOk asked (λ script. TookSome script before after)) (sym is) (subst (TookTexts script before after) (ended ∙ ap (λ it. Err it) (memory-only fault of)) took)
