-- The verdict on a run that is over, and on a script with a fault.
use Rattle.script_jobs.proofs.Common.{◌≡◌, ◌≢◌, ◌⊎◌, ℕ, Bool, true, false, List, Some, None, Result, Ok, Err, inl, inr, refl, subst, sym, if◌then◌else◌, Keeps, Members, Stream, is_clean, RunResult, ScriptFault, HasFault, IsReported, IsTreeRun, RanTo, lost_test, refusal_by, script_to_run, Refusal, Script, UnknownTest, Verdict, Clean, Faulty, Refused, Option, HasBench, HasEnded, IsVerdictOn, RunFault, ScriptValue, TypeValue, CoreValue, HasRun, IfSome, option_map}
use Rattle.script_values.specs.declared.faults.ScriptFault.TheVariants as faults

pub ran-to : (root : Members) (test : Option (List ℕ)) (words : Stream) (trace : Bool) (old new : Option (List ℕ)) (run_result : RunResult) (verdict : Verdict) → RanTo root test words trace old new (Ok run_result)
    → verdict ≡ (if is_clean run_result then Clean else Faulty) → IsTreeRun root test words trace old new verdict
ran-to root test words trace old new run_result verdict ran is = subst (IsTreeRun root test words trace old new) (sym is) (by-run_result (is_clean run_result) refl) where
  by-run_result : (clean : Bool) → is_clean run_result ≡ clean → IsTreeRun root test words trace old new (if clean then Clean else Faulty)
  by-run_result true same = (run_result, same, ran)
  by-run_result false same = (run_result, same, ran)

-- the verdict on the result of a run
pub verdict-to : (root : Members) (test : Option (List ℕ)) (words : Stream) (trace : Bool) (old new : Option (List ℕ)) (result : Result RunResult RunFault) (verdict : Verdict) → RanTo root test words trace old new result
    → IsVerdictOn result verdict → IsTreeRun root test words trace old new verdict
verdict-to root test words trace old new (Ok run_result) verdict ran is = ran-to root test words trace old new run_result verdict ran is
verdict-to root test words trace old new (Err fault) verdict ran (breakage, same, is) = subst (IsTreeRun root test words trace old new) (sym is) (inr (fault, same, ran))

-- the run with the core that it left, if there is one
pub ended-of : (root : Members) (test : Option (List ℕ)) (script : ScriptValue) (types : List TypeValue) (trace : Bool) (old new : Option (List ℕ)) (result : Result RunResult RunFault) (verdict : Verdict)
    → HasBench root test script types → IsVerdictOn result verdict → (core : Option CoreValue) → IfSome core (λ core. HasRun core script trace old new result)
    → IfSome (option_map (λ (core : CoreValue). record { core = core; answers = types }) core) (HasEnded (Ok root) test trace old new verdict)
ended-of root test script types trace old new result verdict bench judged None ran = tt
ended-of root test script types trace old new result verdict bench judged (Some core) ran = record { root = root; script = script; result = result; read = refl; bench = bench; ran = ran; judged = judged }

-- a fault is reported by its number and name, or by the name of the test
by-number-or-name : (fault : ScriptFault) (lost : Result (Option (List ℕ)) ScriptFault) → (refusal_by fault lost ≡ Script fault) ⊎ ((name : List ℕ) × (refusal_by fault lost ≡ UnknownTest name))
by-number-or-name faults.UnknownType (Ok (Some name)) = inr (name, refl)
by-number-or-name faults.UnknownType (Ok None) = inl refl
by-number-or-name faults.UnknownType (Err other) = inl refl
by-number-or-name faults.NotText lost = inl refl
by-number-or-name faults.NotToml lost = inl refl
by-number-or-name faults.UnknownKey lost = inl refl
by-number-or-name faults.Missing lost = inl refl
by-number-or-name faults.WrongKind lost = inl refl
by-number-or-name faults.OutOfRange lost = inl refl
by-number-or-name faults.BadName lost = inl refl
by-number-or-name faults.Version lost = inl refl
by-number-or-name faults.TooLong lost = inl refl
by-number-or-name faults.Memory lost = inl refl

-- where nothing was written, the fault of a script gives its verdict
pub fault-run : (root : Members) (test : Option (List ℕ)) (words : Stream) (trace : Bool) (held : Option (List ℕ)) (fault : ScriptFault) (verdict : Verdict) → Keeps held held
    → (fault ≢ faults.Memory → script_to_run root test ≡ Err fault) → IsReported fault (lost_test root test) verdict → IsTreeRun root test words trace held held verdict
fault-run root test words trace held fault verdict keeps found (inl broke) = subst (IsTreeRun root test words trace held held) (sym broke) (inl (refl, keeps))
fault-run root test words trace held fault verdict keeps found (inr (judged, reported)) = subst (IsTreeRun root test words trace held held) (sym reported) (refused (by-number-or-name fault (lost_test root test))) where
  has : (refusal : Refusal) → refusal_by fault (lost_test root test) ≡ refusal → HasFault root test held held refusal
  has refusal is = record { fault = fault; found = found judged; judged = judged; reported = sym is; keeps = keeps }

  refused : (refusal_by fault (lost_test root test) ≡ Script fault) ⊎ ((name : List ℕ) × (refusal_by fault (lost_test root test) ≡ UnknownTest name)) → IsTreeRun root test words trace held held (Refused (refusal_by fault (lost_test root test)))
  refused (inl is) = subst (λ refusal. IsTreeRun root test words trace held held (Refused refusal)) (sym is) (has (Script fault) is)
  refused (inr (name, is)) = subst (λ refusal. IsTreeRun root test words trace held held (Refused refusal)) (sym is) (has (UnknownTest name) is)
