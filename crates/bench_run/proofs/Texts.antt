-- How many texts a sink has taken of a run.
use Rattle.bench_run.proofs.Common.{◌≡◌, ◌<◌, ◌≤◌, ◌+◌, ℕ, true, false, List, length, Option, Some, None, Result, Ok, Err, ap, refl, sym, ◌∙◌, subst, arith, suc, IsErrAnd, ScriptValue, log_limit, is_over, IsLegal, CoreValue, RunResult, RunFault, Grows, IsHalted, IsUnwritten, TookMore, TookTexts, Bool}
use Rattle.bench_run.specs.declared.faults.RunFault.TheVariants as fault

-- none was taken
pub took-none : (count : Option ℕ) → TookMore 0 count count
took-none None = tt
took-none (Some before) = omega arith

-- some, and then one more
pub took-more : (count : ℕ) (first half last : Option ℕ) → TookMore count first half → TookMore 1 half last → TookMore (count + 1) first last
took-more count None half last some more = tt
took-more count (Some before) None last some more = absurd some
took-more count (Some before) (Some between) None some more = absurd more
took-more count (Some before) (Some between) (Some after) some more = omega arith

-- one for one more entry
pub took-grown : (old new : CoreValue) (first half last : Option ℕ) → Grows old new → TookMore (length old.history) first half → TookMore 1 half last → TookMore (length new.history) first last
took-grown old new first half last grown some more =
    let longer : length new.history ≡ length old.history + 1 = ap (λ (core : CoreValue). length core.history) grown.is ∙ omega arith in
    rw longer (took-more (length old.history) first half last some more)

-- one more entry, whose text was not taken
pub took-unwritten :
    (result : Result RunResult RunFault) (why : RunFault) (old new : CoreValue) (script : ScriptValue) (held holds : Option (List ℕ)) (first half last : Option ℕ)
    → IsErrAnd result (λ told. told ≡ why) → Grows old new → new.script ≡ script → IsLegal script old.history → IsLegal new.script new.history
    → IsUnwritten why held holds → TookMore (length old.history) first half → (why ≡ fault.Memory → last ≡ half)
    → TookTexts script first last result
took-unwritten (Ok run_result) why old new script held holds first half last told grown same legal more unwritten some kept = absurd told
took-unwritten (Err given) why old new script held holds first half last told grown same legal more unwritten some kept =
    go given (subst (λ fault. IsUnwritten fault held holds) (sym told) unwritten) (λ is. kept (sym told ∙ is))
  where
    one_more : length new.history ≡ suc (length old.history)
    one_more = ap (λ (core : CoreValue). length core.history) grown.is

    go : (given : RunFault) → IsUnwritten given held holds → (given ≡ fault.Memory → last ≡ half) → TookTexts script first last (Err given)
    go fault.Memory unwritten kept = record {
      history = old.history;
      legal = legal;
      room = λ going. let few = subst (λ (s : ScriptValue). length new.history ≤ log_limit s) same more.few in omega (arith, one_more, few);
      took = rw (kept refl) some;
    }
    go fault.LogFull unwritten kept = absurd unwritten
    go fault.Output unwritten kept = tt
    go fault.NoTest unwritten kept = absurd unwritten

-- no more entry
pub took-halted :
    (result : Result RunResult RunFault) (why : RunFault) (failed : Bool) (old : CoreValue) (script : ScriptValue) (first last : Option ℕ)
    → IsErrAnd result (λ told. told ≡ why) → IsHalted why failed old → (failed ≡ true → length old.history < log_limit script) → IsLegal old.script old.history → old.script ≡ script
    → TookMore (length old.history) first last
    → TookTexts script first last result
took-halted (Ok run_result) why failed old script first last told halted room legal is some = absurd told
took-halted (Err given) why failed old script first last told halted room legal is some =
    go given (subst (λ fault. IsHalted fault failed old) (sym told) halted)
  where
    has-room : (failed : Bool) → (failed ≡ false → length old.history < log_limit old.script) → (failed ≡ true → length old.history < log_limit script) → length old.history < log_limit script
    has-room true going full = full refl
    has-room false going full = subst (λ (s : ScriptValue). length old.history < log_limit s) is (going refl)

    go : (given : RunFault) → IsHalted given failed old → TookTexts script first last (Err given)
    go fault.Memory halted = record {
      history = old.history;
      legal = subst (λ (s : ScriptValue). IsLegal s old.history) is legal;
      room = λ on. has-room failed halted room;
      took = some;
    }
    go fault.LogFull halted =
        let full : length old.history ≡ log_limit old.script = omega (arith, halted.0, legal.few) in
        subst (λ (count : ℕ). TookMore count first last) (full ∙ ap log_limit is) some
    go fault.Output halted = absurd halted
    go fault.NoTest halted = absurd halted

-- the run is over, and its summary was not taken
pub took-unsummed :
    (result : Result RunResult RunFault) (why : RunFault) (old : CoreValue) (script : ScriptValue) (held holds : Option (List ℕ)) (first half last : Option ℕ)
    → IsErrAnd result (λ told. told ≡ why) → is_over old.history ≡ true → IsLegal old.script old.history → old.script ≡ script
    → IsUnwritten why held holds → TookMore (length old.history) first half → (why ≡ fault.Memory → last ≡ half)
    → TookTexts script first last result
took-unsummed (Ok run_result) why old script held holds first half last told over legal is unwritten some kept = absurd told
took-unsummed (Err given) why old script held holds first half last told over legal is unwritten some kept =
    go given (subst (λ fault. IsUnwritten fault held holds) (sym told) unwritten) (λ same. kept (sym told ∙ same))
  where
    go : (given : RunFault) → IsUnwritten given held holds → (given ≡ fault.Memory → last ≡ half) → TookTexts script first last (Err given)
    go fault.Memory unwritten kept = record {
      history = old.history;
      legal = subst (λ (s : ScriptValue). IsLegal s old.history) is legal;
      room = λ going. absurd (let bad : true ≡ false = rw over at going in cc);
      took = rw (kept refl) some;
    }
    go fault.LogFull unwritten kept = absurd unwritten
    go fault.Output unwritten kept = tt
    go fault.NoTest unwritten kept = absurd unwritten
