-- What was written of a dump so far.
use Rattle.std.specs.Prelude.{◌≡◌, ◌≤◌, ◌+◌, ◌-◌, ◌*◌, ◌⊎◌, ℕ, List, All, length, nat_lt, Option, Some, if◌then◌else◌}
use Rattle.std.specs.Io.KnownBytes.{Appends, Keeps}
use Rattle.uvm_object.specs.declared.entries.Entry.{Entry}
use Rattle.bench_script.specs.Scripts.{ScriptValue}
use Rattle.bench_history.specs.History.{now_of}
use Rattle.bench_replay.specs.Replays.{log_at}
use Rattle.bench_waves.specs.Changes.{AreRising, Change, IsUpTo, change_text, changes_text, last_stamp, stamp_line}
use Rattle.bench_waves.specs.Signals.{last_locked}
use Rattle.bench_waves.specs.Waves.{IsShown}
use Rattle.bench_waves.specs.declared.changes.Changes.{Changes}
use Rattle.bench_waves.specs.declared.signals.Signal.{Signal}
use Rattle.bench_waves.specs.declared.signals.Signal.TheVariants.{Holder}

-- the first entries of a log
abbrev pub IsPast : List Entry → List Entry → Type 0
IsPast log past = (length past ≤ length log) × (past ≡ log_at log (length past))

-- the dump is in a tick
pub record IsAtTick (tick : ℕ) (changes : Changes) : Type 0 where
  pub from : tick * changes.steps ≤ changes.at
  pub within : changes.at ≤ changes.last
  pub last : changes.last + 1 ≡ (tick + 1) * changes.steps

-- the dump at the first step of a tick, unless it is there already
abbrev pub gone_to : ℕ → Changes → Changes
gone_to tick changes = if nat_lt changes.at (tick * changes.steps) then record changes { at = tick * changes.steps; last = tick * changes.steps + (changes.steps - 1) } else changes

-- the dump at the next step of its tick, if the tick has another
abbrev pub advanced : Changes → Changes
advanced changes = record changes { at = if nat_lt changes.at changes.last then changes.at + 1 else changes.at }

-- the dump has gone on to a tick, and nothing else has changed
pub record HasGone (tick : ℕ) (old new : Changes) : Type 0 where
  pub there : IsAtTick tick new
  pub on : old.at ≤ new.at
  pub same : new ≡ record old { at = new.at; last = new.last }

-- a time was written that is no smaller than this one
pub record Ends (last : ℕ) (old new : Option (List ℕ)) : Type 0 where
  pub end : ℕ
  pub behind : last ≤ end
  pub wrote : Appends old new (stamp_line end)

-- the numbers at the keys of a map are the sequences that locked or grabbed each sequencer last
abbrev pub AreLocks : (ℕ → Option ℕ) → List Entry → Type 0
AreLocks locks log = (home : ℕ) → locks home ≡ last_locked log home

-- these changes were written, each of a variable with its value after some entries
pub record IsDump (script : ScriptValue) (log : List Entry) (signals : List Signal) (begun now : Option (List ℕ)) (changes : Changes) (made : List Change) : Type 0 where
  pub each : All (IsShown script log signals changes.steps) made
  pub rising : AreRising made
  pub stamp : changes.stamp ≡ last_stamp made
  pub behind : IsUpTo (last_stamp made) changes.at
  pub wrote : Appends begun now (changes_text made)

-- some changes were written
abbrev pub HasDump : ScriptValue → List Entry → List Signal → Option (List ℕ) → Option (List ℕ) → Changes → Type 0
HasDump script log signals begun now changes = (made : List Change) × IsDump script log signals begun now changes made

-- nothing was written, or one change of a variable, at the time of the dump
pub record ShowsOne (code : ℕ) (IsValue : List ℕ → Type 0) (old new : Changes) (before after : Option (List ℕ)) : Type 0 where
  pub same : new ≡ record old { stamp = new.stamp; values = new.values; value = new.value; line = new.line }
  pub cases : ((new.stamp ≡ old.stamp) × Keeps before after)
      ⊎ ((value : List ℕ) × IsValue value × (new.stamp ≡ Some old.at) × Appends before after (change_text old.stamp (record { stamp = old.at; code = code; value = value })))

-- changes of variables to their values after some entries were written, or none, at the time of the dump
pub record ShowsMore (script : ScriptValue) (past : List Entry) (signals : List Signal) (old new : Changes) (before after : Option (List ℕ)) : Type 0 where
  pub same : new ≡ record old { stamp = new.stamp; values = new.values; value = new.value; line = new.line }
  pub more : (log : List Entry) (begun : Option (List ℕ)) → IsPast log past → IsAtTick (now_of past) old → HasDump script log signals begun before old → HasDump script log signals begun after new

-- the sequence that locked or grabbed the sequencer of a variable last, if the variable shows it
abbrev pub IsLastLocked : List Entry → Signal → Option ℕ → Type 0
IsLastLocked log (Holder home) locked = locked ≡ last_locked log home
IsLastLocked log signal locked = Unit {0}
