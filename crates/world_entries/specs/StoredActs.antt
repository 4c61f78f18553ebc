-- The result of an action of the last answer.
use Rattle.std.specs.Prelude.{◌≡◌, List, ◌∷◌, length, Option, Some, None}
use Rattle.uvm_acts.specs.declared.acts.Who.{Who}
use Rattle.uvm_acts.specs.declared.acts.Act.{Act}
use Rattle.uvm_object.specs.declared.entries.Entry.TheVariants.{Did}
use Rattle.uvm_object.specs.declared.entries.Outcome.{Outcome}
use Rattle.uvm_object.specs.Fatals.{id_of, fatal_report}
use Rattle.uvm_object.specs.declared.fatals.Fatal.TheVariants.{NoObject}
use Rattle.uvm_object.specs.Logs.{LogValue}
use Rattle.bench_history.specs.Cases.{by_act}
use Rattle.bench_history.specs.Sequences.{leaving_after}
use Rattle.world_services.specs.declared.services.Services.{Services}
use Rattle.world_services.specs.ActResults.{IsInNeed, IsPerformed, one_done}
use Rattle.world_entries.specs.declared.making.PendingParts.{PendingParts}
use Rattle.world_entries.specs.Rooms.{GiveTheSame, HasRoomToMake}

-- the action was performed or refused, and its entry is in the log with its outcome; `leaving` are the sequences that it has ended
pub record IsEntered (act : Act) (leaving : List Who) (log more : LogValue) (old new : Services) : Type 0 where
  pub outcome : Outcome
  pub kept : Services
  pub performed : IsPerformed by_act act outcome (length log.entries) old kept
  pub entries : more.entries ≡ Did kept.answer.performer outcome act ∷ log.entries
  pub leaves : leaving ≡ leaving_after old.answer.performer outcome
  pub done : new ≡ one_done kept

-- the action waits for the object that it needs, with capacity reserved for its entry; nothing else has changed
pub record WaitsForObject (act : Act) (waiting : PendingParts) (log more : LogValue) (old new : Services) : Type 0 where
  pub need : IsInNeed by_act act waiting.need waiting.home (length log.entries) old old
  pub stored_act : waiting.stored_act ≡ act
  pub declined : waiting.declined ≡ fatal_report NoObject
  pub entries : more.entries ≡ log.entries
  pub same : GiveTheSame old new
  pub has_room : HasRoomToMake (id_of NoObject) more new

-- the action has its entry, or waits for its object
abbrev pub IsCarriedOut : Act → Option PendingParts → List Who → List Who → LogValue → LogValue → Services → Services → Type 0
IsCarriedOut act None before leaving log more old new = IsEntered act leaving log more old new
IsCarriedOut act (Some waiting) before leaving log more old new = WaitsForObject act waiting log more old new × (leaving ≡ before)
