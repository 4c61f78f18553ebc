-- How runs end is determined, and what they write.
use Rattle.bench_run.proofs.Common.{◌≡◌, ◌∙◌, ◌≤◌, ℕ, true, false, List, [], ◌∷◌, ◌++◌, length, Option, Some, None, Result, Ok, Err, inl, inr, refl, sym, ap, subst, same_Some, Appends, Stream, newest, Says, View, Entry, Over, Reason, ScriptValue, is_over, log_limit, RunResult, RunFault, Memory, LogFull, Output, NoTest, EndsAreDetermined, IsDecided, IsRunLog, IsSpent, RunsAreFunctions, IsRunResult, IsRun, summary_of, transcript, Bool}

-- what was appended
appended : (held text : List ℕ) (new : Option (List ℕ)) → Appends (Some held) new text → new ≡ Some (held ++ text)
appended held text None wrote = absurd wrote
appended held text (Some bytes) wrote = ap Some wrote

-- the end of a run is its newest entry
newest-over : (history : List Entry) (reason : Reason) → newest history ≡ Some (Over reason) → is_over history ≡ true
newest-over [] reason is = cc
newest-over (entry ∷ before) reason is = subst (λ (e : Entry). is_over (e ∷ before) ≡ true) (sym (same_Some entry (Over reason) is)) refl

-- a log says one ending
run_result-of : (reason other : Reason) (errors some fatals more : ℕ) → reason ≡ other → errors ≡ some → fatals ≡ more
    → let one : RunResult = record { reason = reason; errors = errors; fatals = fatals } in one ≡ record { reason = other; errors = some; fatals = more }
run_result-of reason other errors some fatals more reasons counted fatal = rw (reasons, counted, fatal) refl

one-run_result : (run_result other : RunResult) (script : ScriptValue) (history : List Entry) → IsRunResult run_result script history → IsRunResult other script history → other ≡ run_result
one-run_result run_result other script history is are =
    let same : Over other.reason ≡ Over run_result.reason = same_Some (Over other.reason) (Over run_result.reason) (sym are.reason ∙ is.reason) in
    let reason : other.reason ≡ run_result.reason = cc in
    run_result-of other.reason run_result.reason other.errors run_result.errors other.fatals run_result.fatals reason (are.errors ∙ sym is.errors) (are.fatals ∙ sym is.fatals)

-- what a log says of how a run ended and of what was written: it is over, with its summary, or full
data Ended (trace : Bool) (held : List ℕ) (new : Option (List ℕ)) (result : Result RunResult RunFault) (script : ScriptValue) (history : List Entry) : Type 0 where
  IsOver : (run_result : RunResult) → IsRunResult run_result script history → new ≡ Some (held ++ (transcript trace script history ++ summary_of script history)) → result ≡ Ok run_result → Ended trace held new result script history
  IsFull : log_limit script ≤ length history → is_over history ≡ false → new ≡ Some (held ++ (transcript trace script history ++ [])) → result ≡ Err LogFull → Ended trace held new result script history

has-ended : (trace : Bool) (held : List ℕ) (new : Option (List ℕ)) (result : Result RunResult RunFault) (script : ScriptValue) (history : List Entry) → Ended trace held new result script history → IsSpent script history
has-ended trace held new result script history (IsOver run_result is wrote result_is) = inl (newest-over history run_result.reason is.reason)
has-ended trace held new result script history (IsFull full going wrote result_is) = inr full

ended-same : (trace : Bool) (held : List ℕ) (first second : Option (List ℕ)) (one other : Result RunResult RunFault) (script : ScriptValue) (history : List Entry) → Ended trace held first one script history → Ended trace held second other script history
    → (other ≡ one) × (second ≡ first)
ended-same trace held first second one other script history (IsOver run_result is wrote result_is) (IsOver end are wrote_too is_too) =
    (is_too ∙ (ap Ok (one-run_result run_result end script history is are) ∙ sym result_is), wrote_too ∙ sym wrote)
ended-same trace held first second one other script history (IsOver run_result is wrote result_is) (IsFull full going wrote_too is_too) = absurd (let bad : true ≡ false = sym (newest-over history run_result.reason is.reason) ∙ going in cc)
ended-same trace held first second one other script history (IsFull full going wrote result_is) (IsOver end are wrote_too is_too) = absurd (let bad : true ≡ false = sym (newest-over history end.reason are.reason) ∙ going in cc)
ended-same trace held first second one other script history (IsFull full going wrote result_is) (IsFull full_too going_too wrote_too is_too) = (is_too ∙ sym result_is, wrote_too ∙ sym wrote)

module _ {O : Type 0} (view : O → View) (name : O → List ℕ) (says : O → Says) where
  -- a run that neither memory nor the output broke off, by its log
  record Came (given : List ℕ → Option O) (words : Stream) (script : ScriptValue) (trace : Bool) (held : List ℕ) (new : Option (List ℕ)) (result : Result RunResult RunFault) : Type 0 where
    history : List Entry
    log : IsRunLog view name says given words script history
    ended : Ended trace held new result script history

  came-of : (given : List ℕ → Option O) (words left : Stream) (script : ScriptValue) (trace : Bool) (held : List ℕ) (new : Option (List ℕ)) (result : Result RunResult RunFault)
      → IsRun view name says (λ type_name object. object ≡ given type_name) words left script trace (Some held) new result → IsDecided result → Came given words script trace held new result
  came-of given words left script trace held new (Ok run_result) run decided = record {
    history = run.history;
    log = record { legal = run.legal; drawn = run.words; objects = run.objects };
    ended = IsOver run_result run.leaves.0 (appended held (transcript trace script run.history ++ summary_of script run.history) new run.leaves.1.wrote) refl;
  }
  came-of given words left script trace held new (Err LogFull) run decided = record {
    history = run.history;
    log = record { legal = run.legal; drawn = run.words; objects = run.objects };
    ended = IsFull run.leaves.0 run.leaves.1 (appended held (transcript trace script run.history ++ []) new run.leaves.2.wrote) refl;
  }
  came-of given words left script trace held new (Err Memory) run decided = absurd decided
  came-of given words left script trace held new (Err Output) run decided = absurd decided
  came-of given words left script trace held new (Err NoTest) run decided = absurd decided

  pub ends-are-determined : RunsAreFunctions view name says → EndsAreDetermined view name says
  ends-are-determined law one_answer given words left remains script trace held first second one other run again decided decides =
      let came = came-of given words left script trace held first one run decided in
      let also = came-of given words remains script trace held second other again decides in
      let history_is : also.history ≡ came.history =
      law one_answer given words script came.history also.history came.log also.log (has-ended trace held first one script came.history came.ended) (has-ended trace held second other script also.history also.ended) in
      ended-same trace held first second one other script came.history came.ended (subst (Ended trace held second other script) history_is also.ended)
