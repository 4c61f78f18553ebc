-- The value of a world in contracts, and which entries may be added to it.
use Rattle.std.specs.Prelude.{◌≡◌, ◌<◌, ℕ, Bool, true, false, List, ◌∷◌, length, Option, Some, None, is_some}
use Rattle.std.specs.Option.{ForSome}
use Rattle.uvm_acts.specs.declared.acts.Who.{Who}
use Rattle.uvm_acts.specs.declared.acts.Call.{Call}
use Rattle.uvm_acts.specs.declared.acts.Act.{Act}
use Rattle.uvm_acts.specs.declared.acts.Act.TheVariants.{Create, Start}
use Rattle.uvm_object.specs.declared.entries.Origin.{Origin}
use Rattle.uvm_object.specs.declared.entries.Outcome.TheVariants.{Made, Started}
use Rattle.uvm_object.specs.declared.entries.Entry.{Entry}
use Rattle.world_services.specs.declared.services.Services.{Services}
use Rattle.uvm_object.specs.Fatals.{id_of, fatal_report}
use Rattle.uvm_object.specs.declared.fatals.Fatal.TheVariants.{NoObject}
use Rattle.uvm_object.specs.declared.entries.Entry.TheVariants.{Granted, Heard}
use Rattle.uvm_object.specs.Logs.{LogValue}
use Rattle.bench_script.specs.Scripts.{ScriptValue}
use Rattle.world_entries.specs.declared.making.PendingParts.{PendingParts}
use Rattle.bench_history.specs.Limits.{log_limit}
use Rattle.bench_history.specs.History.{remaining_acts, nodes_of, rest_of, performer_of}
use Rattle.bench_history.specs.Sequences.{leaving_of, sequences_of, start_by}
use Rattle.world_sequencing.specs.SequencesMatch.{home_for}
use Rattle.bench_history.specs.Cases.{Next, Exactly, Need, Answer, Grant, by_act, chosen_at}
use Rattle.bench_history.specs.Next.{next_of, need_in, IsAct, IsLegal}
use Rattle.bench_history.specs.Laws.{IsSettled}
use Rattle.world_services.specs.Services.{ServicesMatch}
use Rattle.world_entries.specs.Rooms.{HasRoomToMake}
use Rattle.uvm_acts.specs.declared.acts.Who.TheVariants as who
use Rattle.bench_history.specs.declared.needs.Need as needs
use Rattle.bench_world.specs.declared.pending.PendingCall.{PendingCall}
use Rattle.bench_world.specs.declared.pending.Pending.{Pending}
use Rattle.bench_world.specs.declared.pending.Pending.TheVariants as waits

-- an action makes an object: it creates a component or starts a sequence
abbrev pub IsMaking : Act → Type 0
IsMaking (Create type_name name) = Unit {0}
IsMaking (Start type_name name on priority) = Unit {0}
IsMaking act = ⊥

-- the open request of a run: none; for an object; or for the answer of a component or sequence to a call, whose origin is given if it has one
pub data Standing : Type 0 where
  Nothing : Standing
  Needed : (need : needs.Need) → Standing
  Asked : (hearer : Who) → (call : Call) → (origin : Option Origin) → Standing

-- the open request of a world that waits for this
abbrev pub standing_of : Option Pending → Standing
standing_of None = Nothing
standing_of (Some (waits.Creation creation)) = Needed creation.need
standing_of (Some (waits.Call call)) = Asked call.who call.call call.origin

-- the value of a world: the script, the log (newest entry first), whether the services agree with the log, and the open request
pub record WorldValue : Type 0 where
  pub script : ScriptValue
  pub history : List Entry
  pub sound : Bool
  pub standing : Standing

-- the object of the open request, if that is for an object
abbrev pub need_of : Standing → Option needs.Need
need_of (Needed need) = Some need
need_of standing = None

-- the call of the open request, if that is for an answer
abbrev pub call_of : Standing → Option Call
call_of Nothing = None
call_of (Needed need) = None
call_of (Asked hearer call origin) = Some call

-- the call that waits for its answer, if one does
abbrev pub pending_call_in : Standing → Option PendingCall
pending_call_in (Asked hearer call origin) = Some (record { who = hearer; call = call; origin = origin })
pending_call_in standing = None

-- the entry that answers the open request with these actions, if it is for an answer
abbrev pub answer_in : Standing → List Act → Option Entry
answer_in Nothing acts = None
answer_in (Needed need) acts = None
answer_in (Asked hearer call origin) acts = Some (Heard hearer origin call acts)

-- the world with one more entry
abbrev pub world_after : Entry → WorldValue → WorldValue
world_after entry world = record world { history = entry ∷ world.history; standing = Nothing }

-- the world after an allocation failed: it is not consistent, and no request is open
abbrev pub broken : WorldValue → WorldValue
broken world = record world { sound = false; standing = Nothing }

-- the waiting creation or start is the next action and needs this object. The log is not full, and capacity is reserved for the entry of
-- the action and for the report of a declined object
pub record IsReady (pending : PendingParts) (script : ScriptValue) (log : LogValue) (services : Services) : Type 0 where
  pub left : remaining_acts script log.entries ≡ pending.stored_act ∷ rest_of (remaining_acts script log.entries)
  pub needed : need_in (next_of script log.entries) ≡ Some pending.need
  pub home : pending.home ≡ home_for services.tree.nodes services.answer.performer pending.stored_act
  pub room : length log.entries < log_limit script
  pub declined : pending.declined ≡ fatal_report NoObject
  pub has_room : HasRoomToMake (id_of NoObject) log services

-- the data of the creation or start that waits for its object, if one does
abbrev pub parts_in : Option Pending → Option PendingParts
parts_in (Some (waits.Creation creation)) = Some creation
parts_in pending = None

-- the call that waits for its answer, if one does
abbrev pub call_in : Option Pending → Option PendingCall
call_in (Some (waits.Call call)) = Some call
call_in pending = None

-- of a creation or start that waits for its object, `IsReady`
abbrev pub IsPrepared : Pending → ScriptValue → LogValue → Services → Type 0
IsPrepared (waits.Creation creation) script log services = IsReady creation script log services
IsPrepared (waits.Call call) script log services = Unit {0}

-- the log is legal. While the world is consistent, its services agree with the log and the sequences that the newest entry ended are
-- stored; only then may a request be open
pub record IsWorld (sound : Bool) (script : ScriptValue) (log : LogValue) (services : Services) (pending : Option Pending) (leaving : List Who) : Type 0 where
  pub limit : log.limit ≡ log_limit script
  pub legal : IsLegal script log.entries
  pub services_match : sound ≡ true → ServicesMatch script log.entries services
  pub leaves : sound ≡ true → leaving ≡ leaving_of log.entries
  pub waits : ForSome pending (λ pending. sound ≡ true)
  pub ready : ForSome pending (λ pending. IsPrepared pending script log services)

-- the world is consistent, its log is not full, and this comes next
pub record MayEnter (world : WorldValue) (comes : Next) : Type 0 where
  pub sound : world.sound ≡ true
  pub room : length world.history < log_limit world.script
  pub next : next_of world.script world.history ≡ comes

-- an answer to the open request may be the next entry (`MayEnter`)
abbrev pub MayAnswer : WorldValue → Standing → Type 0
MayAnswer world (Asked hearer call origin) = MayEnter world (Answer hearer call origin)
MayAnswer world standing = ⊥

-- a grant at this sequencer may be the next entry (`MayEnter`), with a random number exactly if one decides
abbrev pub MayGrant : WorldValue → ℕ → Option ℕ → Type 0
MayGrant world sequencer word = MayEnter world (Grant sequencer (is_some word) (chosen_at world.history sequencer))

-- the world is consistent, its log is not full, and an action of the last answer comes next
pub record MayAct (world : WorldValue) : Type 0 where
  pub sound : world.sound ≡ true
  pub room : length world.history < log_limit world.script
  pub next : IsAct (next_of world.script world.history)

-- as `MayAct`, for this action: it is the first that is left, and nothing can be granted or transferred
pub record MayPerform (world : WorldValue) (act : Act) : Type 0 where
  pub sound : world.sound ≡ true
  pub room : length world.history < log_limit world.script
  pub settled : IsSettled world.history
  pub left : remaining_acts world.script world.history ≡ act ∷ rest_of (remaining_acts world.script world.history)
  pub next : next_of world.script world.history ≡ by_act world.script world.history (performer_of world.history) act

-- the new world has one more entry, the grant of an item to the chosen sequence, by this random number if one decides
abbrev pub IsGranted : ℕ → Option ℕ → WorldValue → WorldValue → Type 0
IsGranted sequencer word old new = (id : ℕ) × (chosen_at old.history sequencer word ≡ Some id) × (new ≡ world_after (Granted sequencer (record { id = id; word = word })) old)

-- the result of the next action: its entry is added; or the action waits for the object that it needs, and nothing else changes
abbrev pub IsActed : Next → WorldValue → WorldValue → Type 0
IsActed (Exactly entry) old new = new ≡ world_after entry old
IsActed (Need need made performer act) old new = new ≡ record old { standing = Needed need }
IsActed next old new = ⊥

-- the component or sequence that a needed object is once it is made: a node with the next number, or the sequence that is started
abbrev pub made_who : List Entry → Next → Option Who
made_who history (Need need (Made type_name) performer act) = Some (who.Node (length (nodes_of history)))
made_who history (Need need (Started id) performer act) = Some (who.Sequence (start_by (nodes_of history) (sequences_of history) performer act).home id)
made_who history next = None
