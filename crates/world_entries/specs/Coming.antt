-- The effect on the services of entries that no action causes.
use Rattle.std.specs.Prelude.{◌≡◌, ℕ, List, ◌∷◌, length}
use Rattle.uvm_object.specs.declared.entries.Entry.{Entry}
use Rattle.bench_script.specs.Scripts.{ScriptValue}
use Rattle.bench_history.specs.Cases.{Next}
use Rattle.bench_history.specs.Next.{EachIsNext, next_of}
use Rattle.world_services.specs.declared.services.Services.{Services}
use Rattle.world_services.specs.Services.{ServicesMatch}

-- how the next step follows from a log
abbrev pub Comes : Type 0
Comes = List Entry → Next

-- this is the next step after a legal log, and its entry gets this place
pub record IsComing (script : ScriptValue) (history : List Entry) (comes : Comes) (place : ℕ) : Type 0 where
  pub each : EachIsNext script history
  pub next : next_of script history ≡ comes history
  pub place_is : length history ≡ place

-- the services stay matched: if the old services match a log after which this is the next step, the new ones match the log with the entry
abbrev pub PreservesMatch : Comes → Entry → ℕ → Services → Services → Type 0
PreservesMatch comes entry place old new =
    (script : ScriptValue) (history : List Entry) → IsComing script history comes place → ServicesMatch script history old → ServicesMatch script (entry ∷ history) new

-- the services match a legal log after which this is the next step, at this place
pub record IsEntryContext (comes : Comes) (place : ℕ) (services : Services) : Type 0 where
  pub script : ScriptValue
  pub history : List Entry
  pub coming : IsComing script history comes place
  pub known : ServicesMatch script history services
