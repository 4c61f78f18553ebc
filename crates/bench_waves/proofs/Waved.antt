-- The waves of a run, entry by entry.
use Rattle.std.proofs.Common.{◌≡◌, ◌∙◌, ◌≤◌, ◌++◌, ℕ, List, [], All, Option, None, ap, arith, length, subst, sym}
use Rattle.std.proofs.KnownBytes.{Appends-trans}
use Rattle.std.specs.Io.KnownBytes.{Appends}
use Rattle.uvm_object.specs.declared.entries.Entry.{Entry}
use Rattle.bench_script.specs.Scripts.{ScriptValue}
use Rattle.bench_history.specs.History.{now_of}
use Rattle.bench_replay.specs.Replays.{log_at}
use Rattle.bench_waves.specs.Changes.{changes_text, last_stamp, stamp_line}
use Rattle.bench_waves.specs.Dumps.{AreLocks, Ends, HasDump, HasGone, IsAtTick, IsPast, ShowsMore}
use Rattle.bench_waves.specs.Waves.{IsShown, WroteWaves}
use Rattle.bench_waves.specs.declared.changes.Changes.{Changes}
use Rattle.bench_waves.specs.declared.signals.Signal.{Signal}
use Rattle.bench_waves.proofs.Dumps.{dump-none, dump-on, tick-stays, up-to}

-- the entries of a replay are the first of the log
pub past-of : (log ended history past : List Entry) → ended ≡ log → past ≡ history → history ≡ log_at ended (length history) → length history ≤ length ended → IsPast log past
past-of log ended history past same is part few =
    subst (λ it. IsPast log it) (sym is) (subst (λ it. IsPast it history) same (few, part))

-- the state of the loop: after some entries, whose changes were written
pub record HasShown (script : ScriptValue) (log past : List Entry) (signals : List Signal) (steps : ℕ) (begun now : Option (List ℕ)) (locks : ℕ → Option ℕ) (changes : Changes) : Type 0 where
  pub steps_are : changes.steps ≡ steps
  pub at : IsAtTick (now_of past) changes
  pub locked : AreLocks locks past
  pub shown : HasDump script log signals begun now changes

-- before the first entry
pub shown-first : (script : ScriptValue) (log past : List Entry) (signals : List Signal) (begun now : Option (List ℕ)) (locks : ℕ → Option ℕ) (old new : Changes) → past ≡ [] → ((home : ℕ) → locks home ≡ None) → old.stamp ≡ None
    → IsAtTick 0 old → IsPast log past → ShowsMore script past signals old new begun now → HasShown script log past signals old.steps begun now locks new
shown-first script log past signals begun now locks old new none no_locks blank at is_past shows =
    let tick : IsAtTick (now_of past) old = subst (λ it. IsAtTick (now_of it) old) (sym none) at in
    record {
      steps_are = ap (λ (c : Changes). c.steps) shows.same;
      at = tick-stays script past signals (now_of past) old new begun now shows tick;
      locked = subst (AreLocks locks) (sym none) no_locks;
      shown = shows.more log begun is_past tick (dump-none script log signals begun old blank);
    }

-- after one more entry
pub shown-more : (script : ScriptValue) (log past : List Entry) (signals : List Signal) (steps : ℕ) (begun mid now : Option (List ℕ)) (locks : ℕ → Option ℕ) (old gone new : Changes) → old.steps ≡ steps → HasDump script log signals begun mid old
    → HasGone (now_of past) old gone → AreLocks locks past → IsPast log past → ShowsMore script past signals gone new mid now → HasShown script log past signals steps begun now locks new
shown-more script log past signals steps begun mid now locks old gone new steps_are dump on locked is_past shows = record {
  steps_are = ap (λ (c : Changes). c.steps) shows.same ∙ ap (λ (c : Changes). c.steps) on.same ∙ steps_are;
  at = tick-stays script past signals (now_of past) gone new mid now shows on.there;
  locked = locked;
  shown = shows.more log begun is_past on.there (dump-on script log signals begun mid (now_of past) old gone on dump);
}

-- a head, the changes, and the last time
pub waved : (script : ScriptValue) (log : List Entry) (signals : List Signal) (steps : ℕ) (head : List ℕ) (old headed mid new : Option (List ℕ)) (changes : Changes) → changes.steps ≡ steps → Appends old headed head
    → HasDump script log signals headed mid changes → changes.at ≤ changes.last → Ends changes.last mid new → WroteWaves script log steps old new
waved script log signals steps head old headed mid new changes steps_are begun (made, dump) within ends = record {
  head = head;
  signals = signals;
  changes = made;
  end = ends.end;
  each = subst (λ it. All (IsShown script log signals it) made) steps_are dump.each;
  rising = dump.rising;
  ends = up-to (last_stamp made) changes.at ends.end (omega (arith, within, ends.behind)) dump.behind;
  wrote = Appends-trans old headed new head (changes_text made ++ stamp_line ends.end) begun (Appends-trans headed mid new (changes_text made) (stamp_line ends.end) dump.wrote ends.wrote);
}
