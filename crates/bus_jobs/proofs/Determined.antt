-- The runs of a script are determined.
use Rattle.bus_jobs.proofs.Common.{◌≡◌, ◌∙◌, ℕ, Bool, List, Option, Some, None, Result, Ok, Err, inl, inr, refl, sym, ap, subst, if◌then◌else◌, Keeps, Stream, View, Call, ScriptFault, ScriptValue, RunResult, RunFault, is_clean, AllowsOneAtMost, EndsAreDetermined, ObjectsAreFunctions, name_of, object_named, says_of, view_of, BusObject, IsDecided, RunsAreDetermined, IsBenchRun, IsBusRun, breakage_of, Memory, LogFull, Output, Unread, Verdict, Clean, Faulty, Refused, Broken}
use Rattle.bench_run.specs.declared.faults.RunFault.TheVariants as ran
use Rattle.bench_run.specs.Laws.{IsDecided as has_ended}

-- each object gives one answer
functions : ObjectsAreFunctions → (object : BusObject) (before : View) (call : Call) → AllowsOneAtMost (says_of object before call)
functions law object before call acts others after next allowed also =
    let one = law object before call in
    let is = one.2.1 acts after allowed in
    let are = one.2.1 others next also in
    (are.0 ∙ sym is.0, are.1 ∙ sym is.1)

kept : (held : List ℕ) (new : Option (List ℕ)) → Keeps (Some held) new → new ≡ Some held
kept held None keeps = absurd keeps
kept held (Some bytes) keeps = ap Some keeps

-- the verdict on a run that is over, or whose log is full
verdict_of : Result RunResult RunFault → Verdict
verdict_of (Ok run_result) = if is_clean run_result then Clean else Faulty
verdict_of (Err fault) = Broken LogFull

-- what became of a run: the script was refused, or it ended
data Came (asked : Result ScriptValue ScriptFault) (words : Stream) (trace : Bool) (held : List ℕ) (new : Option (List ℕ)) (verdict : Verdict) : Type 0 where
  WasRefused : (fault : ScriptFault) → asked ≡ Err fault → new ≡ Some held → verdict ≡ Refused fault → Came asked words trace held new verdict
  Ran : (script : ScriptValue) → asked ≡ Ok script → (result : Result RunResult RunFault) → has_ended result → IsBusRun words script trace (Some held) new result → verdict ≡ verdict_of result → Came asked words trace held new verdict

full-fault : (fault : RunFault) → Some LogFull ≡ breakage_of fault → fault ≡ ran.LogFull
full-fault ran.Memory is = cc
full-fault ran.LogFull is = refl
full-fault ran.Output is = cc
full-fault ran.NoTest is = cc

full-came : (asked : Result ScriptValue ScriptFault) (words : Stream) (trace : Bool) (held : List ℕ) (new : Option (List ℕ)) (script : ScriptValue) (fault : RunFault)
    → asked ≡ Ok script → fault ≡ ran.LogFull → IsBusRun words script trace (Some held) new (Err fault) → Came asked words trace held new (Broken LogFull)
unfolding verdict_of
full-came asked words trace held new script ran.Memory is bad run = cc
full-came asked words trace held new script ran.Output is bad run = cc
full-came asked words trace held new script ran.NoTest is bad run = cc
full-came asked words trace held new script ran.LogFull is full run = Ran script is (Err ran.LogFull) tt run refl

came-of : (asked : Result ScriptValue ScriptFault) (words : Stream) (trace : Bool) (held : List ℕ) (new : Option (List ℕ)) (verdict : Verdict) → IsBenchRun asked words trace (Some held) new verdict → IsDecided verdict → Came asked words trace held new verdict
unfolding verdict_of
came-of asked words trace held new Clean done decided = Ran done.0 done.1 (Ok done.2) tt done.4 (rw done.3 refl)
came-of asked words trace held new Faulty done decided = Ran done.0 done.1 (Ok done.2) tt done.4 (rw done.3 refl)
came-of asked words trace held new (Refused fault) done decided = WasRefused fault done.0 (kept held new done.2) refl
came-of asked words trace held new (Broken LogFull) (inl none) decided = let bad = none.0 in cc
came-of asked words trace held new (Broken LogFull) (inr done) decided = full-came asked words trace held new done.0 done.2 done.1 (full-fault done.2 done.3) done.4
came-of asked words trace held new (Broken Memory) done decided = absurd decided
came-of asked words trace held new (Broken Output) done decided = absurd decided
came-of asked words trace held new (Broken Unread) done decided = absurd decided

came-same : EndsAreDetermined view_of name_of says_of → ((object : BusObject) (before : View) (call : Call) → AllowsOneAtMost (says_of object before call))
    → (asked : Result ScriptValue ScriptFault) (words : Stream) (trace : Bool) (held : List ℕ) (first second : Option (List ℕ)) (one other : Verdict) → Came asked words trace held first one → Came asked words trace held second other
    → (other ≡ one) × (second ≡ first)
came-same law one_answer asked words trace held first second one other (WasRefused fault is new_is verdict_is) (WasRefused why are new_too is_too) =
    let same : why ≡ fault = cc in
    (is_too ∙ ap Refused same ∙ sym verdict_is, new_too ∙ sym new_is)
came-same law one_answer asked words trace held first second one other (WasRefused fault is new_is verdict_is) (Ran script are result ended run is_too) = cc
came-same law one_answer asked words trace held first second one other (Ran script is result ended run verdict_is) (WasRefused why are new_too is_too) = cc
came-same law one_answer asked words trace held first second one other (Ran script is result ended run verdict_is) (Ran again are later ends also is_too) =
    let scripts : again ≡ script = cc in
    let run_too : IsBusRun words script trace (Some held) second later = subst (λ (s : ScriptValue). IsBusRun words s trace (Some held) second later) scripts also in
    let same = law one_answer object_named words run.0 run_too.0 script trace held first second result later run.1 run_too.1 ended ends in
    (is_too ∙ ap verdict_of same.0 ∙ sym verdict_is, same.1)

pub runs-are-determined : ObjectsAreFunctions → EndsAreDetermined view_of name_of says_of → RunsAreDetermined
runs-are-determined objects law asked words trace held first second one other came also decided decides =
    came-same law (functions objects) asked words trace held first second one other (came-of asked words trace held first one came decided) (came-of asked words trace held second other also decides)
