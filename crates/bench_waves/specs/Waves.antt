-- The waves of a run: what is written of its log.
use Rattle.std.specs.Prelude.{◌≡◌, ◌≤◌, ◌<◌, ◌+◌, ◌*◌, ℕ, List, ◌++◌, All, length, slice_get, Option, Some}
use Rattle.std.specs.Io.KnownBytes.{Appends}
use Rattle.uvm_object.specs.declared.entries.Entry.{Entry}
use Rattle.bench_script.specs.Scripts.{ScriptValue}
use Rattle.bench_history.specs.History.{now_of}
use Rattle.bench_replay.specs.Replays.{log_at}
use Rattle.bench_waves.specs.Changes.{AreRising, Change, IsUpTo, changes_text, last_stamp, stamp_line}
use Rattle.bench_waves.specs.Signals.{value_of}
use Rattle.bench_waves.specs.declared.signals.Signal.{Signal}

-- a time of the dump is in a tick, which has so many steps
pub record IsInTick (steps tick stamp : ℕ) : Type 0 where
  pub from : tick * steps ≤ stamp
  pub before : stamp < (tick + 1) * steps

-- a change shows the value of its variable after some entries of the log, at a step of the tick of these
pub record IsShown (script : ScriptValue) (log : List Entry) (signals : List Signal) (steps : ℕ) (change : Change) : Type 0 where
  pub count : ℕ
  pub signal : Signal
  pub few : count ≤ length log
  pub coded : slice_get signals change.code ≡ Some signal
  pub value : change.value ≡ value_of script (log_at log count) signal
  pub time : IsInTick steps (now_of (log_at log count)) change.stamp

-- after a head, the changes were written, and then a time that is no smaller: the times do not fall, and each change shows the value of its variable
pub record WroteWaves (script : ScriptValue) (log : List Entry) (steps : ℕ) (old new : Option (List ℕ)) : Type 0 where
  pub head : List ℕ
  pub signals : List Signal
  pub changes : List Change
  pub end : ℕ
  pub each : All (IsShown script log signals steps) changes
  pub rising : AreRising changes
  pub ends : IsUpTo (last_stamp changes) end
  pub wrote : Appends old new (head ++ (changes_text changes ++ stamp_line end))
