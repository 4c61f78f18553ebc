-- The tick of a dump, and the locks of sequencers.
use Rattle.std.proofs.Common.{◌≡◌, ◌∙◌, ◌≤◌, ◌<◌, ◌+◌, ◌-◌, ◌*◌, ℕ, Bool, true, false, List, [], ◌∷◌, Option, Some, ap, arith, cond, nat_eq, nat_lt, refl, subst, sym, unwrap_or}
use Rattle.std.proofs.lemmas.Bool.Decides.{nat_tests}
use Rattle.std.proofs.lemmas.Nat.{mul-le}
use Rattle.uvm_glob.specs.Lists.{newest}
use Rattle.uvm_object.specs.declared.entries.Entry.{Entry}
use Rattle.uvm_object.specs.declared.entries.Entry.TheVariants.{Locked, Time}
use Rattle.bench_script.specs.Scripts.{ScriptValue}
use Rattle.bench_history.specs.History.{now_of}
use Rattle.bench_history.specs.LegalLogs.{OnTime}
use Rattle.bench_history.specs.Next.{IsLegal}
use Rattle.bench_waves.specs.Dumps.{AreLocks, HasGone, IsAtTick, advanced, gone_to}
use Rattle.bench_waves.specs.Signals.{last_locked}
use Rattle.bench_waves.specs.declared.changes.Changes.{Changes}

one-more : (tick steps : ℕ) → (tick + 1) * steps ≡ tick * steps + steps
one-more tick steps = grind arith

-- at the next step of the tick, if there is one
pub advances : (tick : ℕ) (old new : Changes) → new ≡ advanced old → IsAtTick tick old → HasGone tick old new
advances tick old new is at = subst (HasGone tick old) (sym is) (by (nat_lt old.at old.last) refl) where
  by : (less : Bool) → nat_lt old.at old.last ≡ less → HasGone tick old (advanced old)
  by true less =
      let step : (advanced old).at ≡ old.at + 1 = rw less refl in
      let below : old.at < old.last = grind (arith, nat_tests, less) in
      record { there = record { from = omega (arith, step, at.from); within = omega (arith, step, below); last = at.last }; on = omega (arith, step); same = refl }
  by false less =
      let step : (advanced old).at ≡ old.at = rw less refl in
      record { there = record { from = omega (arith, step, at.from); within = omega (arith, step, at.within); last = at.last }; on = omega (arith, step); same = refl }

-- a tick that is not earlier, and whose first step is not later than the dump, is the tick of the dump
same-tick : (now tick steps at : ℕ) → now ≤ tick → tick * steps ≤ at → at < (now + 1) * steps → tick ≡ now
same-tick now tick steps at on first before = by (nat_lt now tick) refl where
  by : (less : Bool) → nat_lt now tick ≡ less → tick ≡ now
  by true less =
      let above : now + 1 ≤ tick = grind (arith, nat_tests, less) in
      let more : (now + 1) * steps ≤ tick * steps = mul-le (now + 1) steps tick steps above (omega arith) in
      absurd (omega (arith, more, first, before))
  by false less =
      let under : tick ≤ now = grind (arith, nat_tests, less) in
      omega (arith, under, on)

-- at the first step of a later tick, or still in the same tick
pub goes : (now tick : ℕ) (old new : Changes) → 0 < old.steps → new ≡ gone_to tick old → now ≤ tick → IsAtTick now old → HasGone tick old new
goes now tick old new some is on at = subst (HasGone tick old) (sym is) (by (nat_lt old.at (tick * old.steps)) refl) where
  by : (less : Bool) → nat_lt old.at (tick * old.steps) ≡ less → HasGone tick old (gone_to tick old)
  by true less =
      let below : old.at < tick * old.steps = grind (arith, nat_tests, less) in
      let end : tick * old.steps + (old.steps - 1) + 1 ≡ (tick + 1) * old.steps = sym (one-more tick old.steps ∙ omega (arith, some)) in
      rw less (record { there = record { from = omega arith; within = omega arith; last = end }; on = omega (arith, below); same = refl })
  by false less =
      let first : tick * old.steps ≤ old.at = grind (arith, nat_tests, less) in
      let before : old.at < (now + 1) * old.steps = omega (arith, at.within, at.last) in
      let same : tick ≡ now = same-tick now tick old.steps old.at on first before in
      rw less (record { there = subst (λ it. IsAtTick it old) (sym same) at; on = omega arith; same = refl })

-- the locks after one more lock was granted
pub locks-more : (before : List Entry) (at id : ℕ) (old new : ℕ → Option ℕ) → ((home : ℕ) → new home ≡ cond (nat_eq at home) (Some id) (old home)) → AreLocks old before → AreLocks new (Locked at id ∷ before)
locks-more before at id old new updates locks = λ home. updates home ∙ by home (nat_eq at home) refl where
  by : (home : ℕ) (same : Bool) → nat_eq at home ≡ same → cond (nat_eq at home) (Some id) (old home) ≡ last_locked (Locked at id ∷ before) home
  by home true same = rw same refl
  by home false same = rw same (locks home)

-- time goes on
pub time-goes : (script : ScriptValue) (history : List Entry) (entry : Entry) (before : List Entry) (time : ℕ) (old new : Changes) → OnTime → IsLegal script history → history ≡ entry ∷ before → Some (Time time) ≡ newest history
    → 0 < old.steps → new ≡ gone_to time old → IsAtTick (now_of before) old → HasGone (now_of history) old new
time-goes script history entry before time old new law legal is newest_is some gone at =
    let entry_is : entry ≡ Time time = sym (ap (λ it. unwrap_or it entry) (newest_is ∙ ap newest is)) in
    let whole : history ≡ Time time ∷ before = is ∙ ap (λ it. it ∷ before) entry_is in
    let on : now_of before ≤ time = law.forward script [] before time (subst (IsLegal script) whole legal) in
    subst (λ it. HasGone (now_of it) old new) (sym whole) (goes (now_of before) time old new some gone on at)

-- a lock was granted
pub lock-granted : (history : List Entry) (entry : Entry) (before : List Entry) (at id : ℕ) (old new : ℕ → Option ℕ) → history ≡ entry ∷ before → Some (Locked at id) ≡ newest history
    → ((home : ℕ) → new home ≡ cond (nat_eq at home) (Some id) (old home)) → AreLocks old before → AreLocks new history
lock-granted history entry before at id old new is newest_is updates locks =
    let entry_is : entry ≡ Locked at id = sym (ap (λ it. unwrap_or it entry) (newest_is ∙ ap newest is)) in
    subst (AreLocks new) (sym (is ∙ ap (λ it. it ∷ before) entry_is)) (locks-more before at id old new updates locks)
