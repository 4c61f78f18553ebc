-- A core that repeats the log of another.
use Rattle.std.specs.Prelude.{◌≡◌, ◌≤◌, ◌-◌, ℕ, List, ◌∷◌, drop, length}
use Rattle.uvm_object.specs.declared.entries.Entry.{Entry}
use Rattle.bench_core.specs.Cores.{CoreValue, Nothing}

-- the value of a replay: the core whose log is repeated, and the core that repeats it
pub record ReplayValue : Type 0 where
  pub ended : CoreValue
  pub core : CoreValue

-- a log when it had so many entries; the newest entry is first
abbrev pub log_at : List Entry → ℕ → List Entry
log_at log count = drop (length log - count) log

-- the core has the script of the other and the first entries of its log, and no open request
pub record IsReplay (ended core : CoreValue) : Type 0 where
  pub same : core.script ≡ ended.script
  pub few : length core.history ≤ length ended.history
  pub part : core.history ≡ log_at ended.history (length core.history)
  pub settled : core.standing ≡ Nothing

-- the log has one more entry
abbrev pub HasNext : List Entry → List Entry → Type 0
HasNext old new = (entry : Entry) × (new ≡ entry ∷ old)
