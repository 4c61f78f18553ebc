-- What was written of a dump, and one more change.
use Rattle.std.proofs.Common.{◌≡◌, ◌∙◌, ◌≤◌, ℕ, List, [], ◌∷◌, ◌⊎◌, Option, Some, None, All, ap, arith, inl, inr, length, refl, slice_get, subst, sym}
use Rattle.std.proofs.KnownBytes.{Appends-kept, Appends-nil, Appends-trans}
use Rattle.std.proofs.lemmas.List.Elements.{All-cons, All-nil}
use Rattle.std.specs.Io.KnownBytes.{Appends, Keeps}
use Rattle.uvm_object.specs.declared.entries.Entry.{Entry}
use Rattle.bench_script.specs.Scripts.{ScriptValue}
use Rattle.bench_history.specs.History.{now_of}
use Rattle.bench_waves.specs.Changes.{Change, IsUpTo, change_text, changes_text, last_stamp}
use Rattle.bench_waves.specs.Dumps.{HasDump, HasGone, IsAtTick, IsPast, ShowsMore, ShowsOne}
use Rattle.bench_waves.specs.Signals.{value_of}
use Rattle.bench_waves.specs.Waves.{IsInTick, IsShown}
use Rattle.bench_waves.specs.declared.changes.Changes.{Changes}
use Rattle.bench_waves.specs.declared.signals.Signal.{Signal}

-- before the first change nothing was written
pub dump-none : (script : ScriptValue) (log : List Entry) (signals : List Signal) (begun : Option (List ℕ)) (changes : Changes) → changes.stamp ≡ None → HasDump script log signals begun begun changes
dump-none script log signals begun changes blank = ([], record { each = All-nil (IsShown script log signals changes.steps); rising = tt; stamp = blank; behind = tt; wrote = Appends-nil begun })

pub up-to : (last : Option ℕ) (old new : ℕ) → old ≤ new → IsUpTo last old → IsUpTo last new
up-to None old new on behind = tt
up-to (Some last) old new on behind = omega (arith, on, behind)

-- a dump that has gone on
pub dump-on : (script : ScriptValue) (log : List Entry) (signals : List Signal) (begun now : Option (List ℕ)) (tick : ℕ) (old new : Changes) → HasGone tick old new → HasDump script log signals begun now old
    → HasDump script log signals begun now new
dump-on script log signals begun now tick old new gone (made, dump) =
    let steps : new.steps ≡ old.steps = ap (λ (c : Changes). c.steps) gone.same in
    let stamp : new.stamp ≡ old.stamp = ap (λ (c : Changes). c.stamp) gone.same in (
      made,
      record {
        each = subst (λ steps. All (IsShown script log signals steps) made) (sym steps) dump.each;
        rising = dump.rising;
        stamp = stamp ∙ dump.stamp;
        behind = up-to (last_stamp made) old.at new.at gone.on dump.behind;
        wrote = dump.wrote;
      },
    )

-- a change of a variable to its value after some entries
shown : (script : ScriptValue) (log past : List Entry) (signals : List Signal) (code : ℕ) (signal : Signal) (value : List ℕ) (changes : Changes) → slice_get signals code ≡ Some signal → IsPast log past
    → IsAtTick (now_of past) changes → value ≡ value_of script past signal → IsShown script log signals changes.steps (record { stamp = changes.at; code = code; value = value })
shown script log past signals code signal value changes coded is_past at is = record {
  count = length past;
  signal = signal;
  few = is_past.0;
  coded = coded;
  value = is ∙ ap (λ it. value_of script it signal) is_past.1;
  time = subst (λ it. IsInTick changes.steps (now_of it) changes.at) is_past.1 (record { from = at.from; before = omega (arith, at.within, at.last) });
}

-- one change more, or none
pub dump-more : (script : ScriptValue) (log past : List Entry) (signals : List Signal) (begun before after : Option (List ℕ)) (code : ℕ) (signal : Signal) (old new : Changes)
    → slice_get signals code ≡ Some signal → IsPast log past → IsAtTick (now_of past) old → ShowsOne code (λ value. value ≡ value_of script past signal) old new before after
    → HasDump script log signals begun before old → HasDump script log signals begun after new
dump-more script log past signals begun before after code signal old new coded is_past at shows (made, dump) = by shows.cases where
  steps : new.steps ≡ old.steps
  steps = ap (λ (c : Changes). c.steps) shows.same

  place : new.at ≡ old.at
  place = ap (λ (c : Changes). c.at) shows.same

  by : ((new.stamp ≡ old.stamp) × Keeps before after)
      ⊎ ((value : List ℕ) × (value ≡ value_of script past signal) × (new.stamp ≡ Some old.at) × Appends before after (change_text old.stamp (record { stamp = old.at; code = code; value = value })))
      → HasDump script log signals begun after new
  by (inl (stamp, keeps)) = (
    made,
    record {
      each = subst (λ steps. All (IsShown script log signals steps) made) (sym steps) dump.each;
      rising = dump.rising;
      stamp = stamp ∙ dump.stamp;
      behind = subst (IsUpTo (last_stamp made)) (sym place) dump.behind;
      wrote = Appends-kept begun before after (changes_text made) dump.wrote keeps;
    },
  )
  by (inr (value, is, stamp, wrote)) =
      let change : Change = record { stamp = old.at; code = code; value = value } in (
        change ∷ made,
        record {
          each = subst (λ steps. All (IsShown script log signals steps) (change ∷ made)) (sym steps)
              (All-cons (IsShown script log signals old.steps) change made (shown script log past signals code signal value old coded is_past at is) dump.each);
          rising = (dump.behind, dump.rising);
          stamp = stamp;
          behind = omega (arith, place);
          wrote = Appends-trans begun before after (changes_text made) (change_text (last_stamp made) change) dump.wrote (subst (λ last. Appends before after (change_text last change)) dump.stamp wrote);
        },
      )

-- nothing was written
pub shows-none : (script : ScriptValue) (past : List Entry) (signals : List Signal) (changes : Changes) (held : Option (List ℕ)) → ShowsMore script past signals changes changes held held
shows-none script past signals changes held = record { same = refl; more = λ log begun is_past at dump. dump }

-- the value of one variable was written, or nothing
pub shows-one : (script : ScriptValue) (past : List Entry) (signals : List Signal) (code : ℕ) (signal : Signal) (old new : Changes) (before after : Option (List ℕ)) → slice_get signals code ≡ Some signal
    → ShowsOne code (λ value. value ≡ value_of script past signal) old new before after → ShowsMore script past signals old new before after
shows-one script past signals code signal old new before after coded shows = record {
  same = shows.same;
  more = λ log begun is_past at dump. dump-more script log past signals begun before after code signal old new coded is_past at shows dump;
}

same-tick-after : (tick : ℕ) (old new : Changes) → new ≡ record old { stamp = new.stamp; values = new.values; value = new.value; line = new.line } → IsAtTick tick old → IsAtTick tick new
same-tick-after tick old new same at = record {
  from = rw (ap (λ (c : Changes). c.steps) same, ap (λ (c : Changes). c.at) same) at.from;
  within = rw (ap (λ (c : Changes). c.at) same, ap (λ (c : Changes). c.last) same) at.within;
  last = rw (ap (λ (c : Changes). c.last) same, ap (λ (c : Changes). c.steps) same) at.last;
}

-- what was written, and then more
pub shows-both : (script : ScriptValue) (past : List Entry) (signals : List Signal) (old half new : Changes) (before between after : Option (List ℕ)) → ShowsMore script past signals old half before between
    → ShowsMore script past signals half new between after → ShowsMore script past signals old new before after
shows-both script past signals old half new before between after first second = record {
  same = second.same ∙ ap (λ (c : Changes). let done : Changes = record c { stamp = new.stamp; values = new.values; value = new.value; line = new.line } in done) first.same;
  more = λ log begun is_past at dump. second.more log begun is_past (same-tick-after (now_of past) old half first.same at) (first.more log begun is_past at dump);
}

-- a dump stays in its tick while values are written
pub tick-stays : (script : ScriptValue) (past : List Entry) (signals : List Signal) (tick : ℕ) (old new : Changes) (before after : Option (List ℕ)) → ShowsMore script past signals old new before after → IsAtTick tick old → IsAtTick tick new
tick-stays script past signals tick old new before after shows at = same-tick-after tick old new shows.same at
