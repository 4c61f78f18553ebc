-- A run that is not over, and one that breaks off.
use Rattle.bench_run.proofs.Common.{◌≡◌, ◌≢◌, ◌<◌, ◌≤◌, ℕ, true, false, List, [], ◌∷◌, ◌++◌, length, Option, Some, None, Result, Ok, Err, ap, refl, sym, ◌∙◌, subst, if◌then◌else◌, append-nil, arith, suc, lit≤, IsErrAnd, append_assoc, Appends, Appends-kept, Appends-trans, ScriptValue, log_limit, is_over, IsLegal, Health, Good, CoreValue, HasFewLines, is_sound, last_text, Says, View, Who, KernelValue, IsBack, IsSameLog, RunResult, RunFault, some-room, BrokeOffRun, Grows, HasTold, HaveFewLines, IsHalted, IsUnwritten, LeavesRun, transcript, Bool}
use Rattle.bench_run.specs.declared.faults.RunFault.TheVariants as fault

-- with one more entry the script stays, and the health
pub grown-health : {old new : CoreValue} → Grows old new → old.health ≡ Good → new.health ≡ Good
grown-health {old} {new} grown good = ap (λ (core : CoreValue). core.health) grown.is ∙ good

pub grown-script : {old new : CoreValue} {script : ScriptValue} → Grows old new → old.script ≡ script → new.script ≡ script
grown-script {old} {new} grown same = ap (λ (core : CoreValue). core.script) grown.is ∙ same

-- one more entry, and its text
pub goes-on :
    (trace : Bool) (old new : CoreValue) (script : ScriptValue) (first half last : Option (List ℕ)) → Grows old new → old.health ≡ Good → old.script ≡ script
    → Appends first half (transcript trace script old.history)
    → Appends half last (if is_sound new.health then last_text trace new.script new.history else [])
    → Appends first last (transcript trace script new.history)
goes-on trace old new script first half last grown good same wrote =
    subst (λ (core : CoreValue). Appends half last (if is_sound core.health then last_text trace core.script core.history else []) → Appends first last (transcript trace script core.history)) (sym grown.is)
    (λ more. Appends-trans first half last (transcript trace script old.history) (last_text trace script (grown.entry ∷ old.history)) wrote (by-health old.health old.script good same more))
  where
    by-health : (health : Health) (other : ScriptValue) → health ≡ Good → other ≡ script
        → Appends half last (if is_sound health then last_text trace other (grown.entry ∷ old.history) else []) → Appends half last (last_text trace script (grown.entry ∷ old.history))
    by-health health other good same more = rw (good, same) at more

-- the lines of one more entry
pub lines-grown : (trace : Bool) (old new : CoreValue) (script : ScriptValue) → Grows old new → old.health ≡ Good → old.script ≡ script
    → (is_sound new.health ≡ true → HasFewLines trace new.script new.history) → HaveFewLines trace script old.history → HaveFewLines trace script new.history
lines-grown trace old new script grown good same =
    subst (λ (core : CoreValue). (is_sound core.health ≡ true → HasFewLines trace core.script core.history) → HaveFewLines trace script old.history → HaveFewLines trace script core.history) (sym grown.is)
    (λ newest older. (subst (λ (s : ScriptValue). HasFewLines trace s (grown.entry ∷ old.history)) same (newest (rw good refl)), older))

-- one more entry, whose text was not written
pub breaks-off :
    (result : Result RunResult RunFault) (why : RunFault) (trace : Bool) (old new : CoreValue) (script : ScriptValue) (first half last : Option (List ℕ))
    → IsErrAnd result (λ told. told ≡ why) → Grows old new → new.script ≡ script → IsLegal script old.history → IsLegal new.script new.history
    → HaveFewLines trace script old.history → Appends first half (transcript trace script old.history) → IsUnwritten why half last
    → (why ≡ fault.Memory → last_text trace new.script new.history ≢ [])
    → LeavesRun script trace new.history first last result
breaks-off (Ok run_result) why trace old new script first half last told grown same legal more lines wrote unwritten lost = absurd told
breaks-off (Err given) why trace old new script first half last told grown same legal more lines wrote unwritten lost =
    go given (subst (λ fault. IsUnwritten fault half last) (sym told) unwritten) (subst (λ (told_fault : RunFault). told_fault ≡ fault.Memory → last_text trace new.script new.history ≢ []) (sym told) lost)
  where
    one_more : length new.history ≡ suc (length old.history)
    one_more = ap (λ (core : CoreValue). length core.history) grown.is

    go : (given : RunFault) → IsUnwritten given half last → (given ≡ fault.Memory → last_text trace new.script new.history ≢ []) → BrokeOffRun given script trace new.history first last
    go fault.Memory kept missed = record {
      unwritten = grown.entry ∷ [];
      written = old.history;
      log = ap (λ (core : CoreValue). core.history) grown.is;
      newest_alone = lit≤ tt;
      lost = λ some. subst (λ (s : ScriptValue). last_text trace s new.history ≢ []) same (missed refl);
      room = λ going. let few = subst (λ (s : ScriptValue). length new.history ≤ log_limit s) same more.few in omega (arith, one_more, few);
      wrote = record { legal = legal; lines = lines; wrote = Appends-kept first half last _ (rw append-nil wrote) kept };
    }
    go fault.LogFull bad missed = absurd bad
    go fault.Output done missed = tt
    go fault.NoTest bad missed = absurd bad

-- no more entry
pub halts :
    (result : Result RunResult RunFault) (why : RunFault) (trace failed : Bool) (old new : CoreValue) (script : ScriptValue) (first last : Option (List ℕ))
    → IsErrAnd result (λ told. told ≡ why) → IsHalted why failed old → IsSameLog old new → (failed ≡ true → length old.history < log_limit script) → IsLegal old.script old.history → old.script ≡ script
    → HaveFewLines trace script old.history → Appends first last (transcript trace script old.history)
    → LeavesRun script trace new.history first last result
halts (Ok run_result) why trace failed old new script first last told halted same room legal is lines wrote = absurd told
halts (Err given) why trace failed old new script first last told halted same room legal is lines wrote =
    go given (subst (λ fault. IsHalted fault failed old) (sym told) halted)
  where
    has-room : (failed : Bool) → (failed ≡ false → length old.history < log_limit old.script) → (failed ≡ true → length old.history < log_limit script) → length old.history < log_limit script
    has-room true going full = full refl
    has-room false going full = subst (λ (s : ScriptValue). length old.history < log_limit s) is (going refl)

    go : (given : RunFault) → IsHalted given failed old → BrokeOffRun given script trace new.history first last
    go fault.Memory halted = record {
      unwritten = [];
      written = old.history;
      log = same.history;
      newest_alone = lit≤ tt;
      lost = λ some. absurd (some refl);
      room = λ on. has-room failed halted room;
      wrote = record { legal = subst (λ (s : ScriptValue). IsLegal s old.history) is legal; lines = lines; wrote = rw append-nil wrote };
    }
    go fault.LogFull halted = rw same.history (
      subst (λ (s : ScriptValue). log_limit s ≤ length old.history) is halted.0,
      halted.1,
      record { legal = subst (λ (s : ScriptValue). IsLegal s old.history) is legal; lines = lines; wrote = rw append-nil wrote },
    )
    go fault.Output halted = absurd halted
    go fault.NoTest halted = absurd halted

-- one more who has ended was told
pub told-more : {O : Type 0} (view : O → View) (name : O → List ℕ) (says : O → Says) (who : Who) (object : O) (first old new : KernelValue O) → HasTold first old → IsBack view name says who object old new → HasTold first new
told-more {O} view name says who object first old new told back =
    record {
      core = ap (λ (k : KernelValue O). k.core) back.is ∙ ap (λ (core : CoreValue). record core { leaving = new.core.leaving }) told.core;
      failed = ap (λ (k : KernelValue O). k.failed) back.is ∙ told.failed;
    }

-- a kernel that has told some has the log that it had
pub told-log : {O : Type 0} (old new : KernelValue O) → HasTold old new → IsSameLog old.core new.core
told-log old new told = record { script = ap (λ (core : CoreValue). core.script) told.core; history = ap (λ (core : CoreValue). core.history) told.core }

-- the run is over, and its summary was not written
pub unsummed :
    (result : Result RunResult RunFault) (why : RunFault) (trace : Bool) (old new : CoreValue) (script : ScriptValue) (first half last : Option (List ℕ))
    → IsErrAnd result (λ told. told ≡ why) → IsSameLog old new → is_over old.history ≡ true → IsLegal old.script old.history → old.script ≡ script
    → HaveFewLines trace script old.history → Appends first half (transcript trace script old.history) → IsUnwritten why half last
    → LeavesRun script trace new.history first last result
unsummed (Ok run_result) why trace old new script first half last told same over legal is lines wrote unwritten = absurd told
unsummed (Err given) why trace old new script first half last told same over legal is lines wrote unwritten =
    go given (subst (λ fault. IsUnwritten fault half last) (sym told) unwritten)
  where
    go : (given : RunFault) → IsUnwritten given half last → BrokeOffRun given script trace new.history first last
    go fault.Memory kept = record {
      unwritten = [];
      written = old.history;
      log = same.history;
      newest_alone = lit≤ tt;
      lost = λ some. absurd (some refl);
      room = λ going. absurd (let bad : true ≡ false = rw over at going in cc);
      wrote = record { legal = subst (λ (s : ScriptValue). IsLegal s old.history) is legal; lines = lines; wrote = Appends-kept first half last _ (rw append-nil wrote) kept };
    }
    go fault.LogFull bad = absurd bad
    go fault.Output done = tt
    go fault.NoTest bad = absurd bad

-- nothing is written
Appends-none : (held : Option (List ℕ)) → Appends held held []
Appends-none None = tt
Appends-none (Some bytes) = sym (append-nil bytes)

-- no machine was made
pub never-ran : (script : ScriptValue) (trace : Bool) (held : Option (List ℕ)) → LeavesRun script trace [] held held (Err fault.Memory)
never-ran script trace held = record {
  unwritten = [];
  written = [];
  log = refl;
  newest_alone = lit≤ tt;
  lost = λ some. absurd (some refl);
  room = λ going. some-room script;
  wrote = record { legal = record { each = tt; few = omega arith }; lines = tt; wrote = Appends-none held };
}

-- and its health
pub told-health : {O : Type 0} (old new : KernelValue O) → HasTold old new → old.core.health ≡ Good → new.core.health ≡ Good
told-health old new told good = ap (λ (core : CoreValue). core.health) told.core ∙ good

-- the fault that a result has is the one that was told
pub err-told : {A : Type 0} (result : Result A RunFault) (why other : RunFault) → IsErrAnd result (λ told. told ≡ why) → result ≡ Err other → why ≡ other
err-told (Ok given) why other told is = absurd told
err-told (Err given) why other told is = let same : given ≡ why = told in cc
