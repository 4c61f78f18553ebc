-- Laws of all legal logs: arbitration (IEEE 1800.2-2020, Clause 15), the times of events, and objections at the end of phases (Clauses 9 and 10.5).
-- A log is read from its newest entry back: in `later ++ entry ∷ before`, `later` came after the entry, and `before` came before it. Each law
-- holds of an entry at any place of a legal log.
use Rattle.std.specs.Prelude.{not, ◌≡◌, ◌<◌, ◌≤◌, ◌+◌, ◌%◌, ◌⊎◌, ◌==◌, ◌&&◌, ℕ, suc, nat_lt, Bool, true, false, List, [], ◌∷◌, ◌++◌, length, filter, slice_get, Option, Some, None, is_some, IsSome, All, Contains, if◌then◌else◌}
use Rattle.std.specs.Option.{option_map_or}
use Rattle.uvm_phase.specs.declared.phases.Phase.{Phase}
use Rattle.uvm_phase.specs.declared.agendas.Cause.{Cause}
use Rattle.uvm_phase.specs.Phases.{is_task, same_phase}
use Rattle.uvm_objection.specs.Nodes as objection
use Rattle.uvm_objection.specs.Nodes.{held_of, drain_of, source_of}
use Rattle.uvm_objection.specs.Totals.{total}
use Rattle.uvm_sequencer.specs.declared.modes.Mode.TheVariants.{Fifo, StrictFifo, StrictRandom}
use Rattle.uvm_sequencer.specs.declared.requests.Request.{Request}
use Rattle.uvm_sequencer.specs.declared.drivers.How.{How}
use Rattle.uvm_sequencer.specs.declared.drivers.How.TheVariants.{Next, Try, Get}
use Rattle.uvm_sequencer.specs.declared.drivers.Driver.{Driver}
use Rattle.uvm_sequencer.specs.Choices.{is_greatest}
use Rattle.uvm_sequencer.specs.Drivers.{grant_of, hand_of}
use Rattle.uvm_sequencer.specs.Laws.{IsFirst, is_as_urgent}
use Rattle.uvm_sequencer.specs.Queues.{is_blocked, is_candidate, is_item_of, lock_request, priority_of}
use Rattle.uvm_sequences.specs.Sequences.{is_under}
use Rattle.uvm_acts.specs.declared.acts.Who.{Who}
use Rattle.uvm_acts.specs.declared.acts.Call.{Call}
use Rattle.uvm_acts.specs.declared.acts.Call.TheVariants as call
use Rattle.uvm_acts.specs.declared.acts.Act.{Act}
use Rattle.uvm_acts.specs.declared.acts.Act.TheVariants.{ItemDone, Request as Requests, Send, Unlock, Wait}
use Rattle.uvm_object.specs.declared.entries.Outcome.TheVariants.{Done}
use Rattle.uvm_object.specs.declared.entries.Grant as entries
use Rattle.uvm_object.specs.declared.entries.Origin.{Origin}
use Rattle.uvm_object.specs.declared.entries.Entry.{Entry}
use Rattle.uvm_object.specs.declared.entries.Entry.TheVariants.{Time, End, Heard, Did, Locked, Granted, Drained}
use Rattle.uvm_tlm.specs.declared.items.Item.{Item}
use Rattle.bench_script.specs.Scripts.{ScriptValue}
use Rattle.bench_history.specs.EventTargets.{Event, who_of}
use Rattle.bench_history.specs.History.{now_of}
use Rattle.bench_history.specs.Objections.{objections_of}
use Rattle.bench_history.specs.Dues.{due_events, events_from}
use Rattle.bench_history.specs.Sequences.{is_live, sequences_of}
use Rattle.bench_history.specs.Arbitration.{SequencerRequest, all_requests, asked_in, driver_state, holders, leads_there, mode_at, request_priority, request_queue, sequence_on, sequencer_below, still_waits}
use Rattle.bench_history.specs.Cases.{origin_of}
use Rattle.bench_history.specs.Next.{IsLegal}

-- law: the entries before an entry of a legal log are a legal log; so a law about the newest entry holds of each entry
abbrev pub OlderLogsAreLegal : Type 0
OlderLogsAreLegal = (script : ScriptValue) (later before : List Entry) → IsLegal script (later ++ before) → IsLegal script before

-- a request is free: it is for an item, and its sequence is not blocked, as each holder of the sequencer is the sequence or its ancestor
abbrev pub is_free : List Entry → ℕ → Request → Bool
is_free history node request = is_candidate (sequences_of history) (holders history node) request

-- the free requests that wait at a sequencer, in the order of its queue
abbrev pub free_requests : List Entry → ℕ → List Request
free_requests history node = filter (is_free history node) (request_queue history node)

-- the requests that wait at a sequencer, in the order of its queue, each with the place of its action in the log: the number of entries before it
abbrev pub waiting_at : List Entry → ℕ → List SequencerRequest
waiting_at history node = filter (still_waits history node) (all_requests history node)

-- law: a sequence waits for at most one item at a sequencer, so an item that is granted to it is granted to this request
abbrev pub ItemWaitsAreSingle : Type 0
ItemWaitsAreSingle = (script : ScriptValue) (history : List Entry) (node id : ℕ) → IsLegal script history → length (filter (is_item_of id) (request_queue history node)) ≤ 1

-- the log has the action that made an item request: at its place, by a sequence of this sequencer. The request has the given priority, otherwise
-- that of its sequence
pub record IsAskedFor (history : List Entry) (node : ℕ) (wish : SequencerRequest) : Type 0 where
  pub performer : Who
  pub given : Option ℕ
  pub later : List Entry
  pub before : List Entry
  pub splits : history ≡ later ++ Did performer Done (Requests given) ∷ before
  pub place : length before ≡ wish.place
  pub sequence : sequence_on node performer ≡ Some wish.request.seq
  pub priority : priority_of wish.request ≡ request_priority (sequences_of before) wish.request.seq given

-- a request of a sequence waits at a sequencer; it is the first free request of the queue, and the earliest of the free requests
pub record HasFirst (history : List Entry) (node id : ℕ) : Type 0 where
  pub wish : SequencerRequest
  pub seq_is : wish.request.seq ≡ id
  pub waits : Contains (waiting_at history node) wish
  pub asked : IsAskedFor history node wish
  pub first : IsFirst (is_free history node) (request_queue history node) wish.request
  pub earliest : All (λ other. is_free history node other.request ≡ true → wish.place ≤ other.place) (waiting_at history node)

-- a request, for an item or for a lock, whose sequence is not blocked
abbrev pub is_unblocked : List Entry → ℕ → Request → Bool
is_unblocked history node request = not (is_blocked (sequences_of history) (holders history node) request.seq)

-- law: in mode FIFO an item is granted to a request with no free request ahead of it in the queue. In every mode a lock is granted to a request
-- with no unblocked request ahead of it
pub record FifoOrder : Type 0 where
  pub items : (script : ScriptValue) (later before : List Entry) (node : ℕ) (grant : entries.Grant) → IsLegal script (later ++ Granted node grant ∷ before) → mode_at before node ≡ Some Fifo → HasFirst before node grant.id
  pub locks : (script : ScriptValue) (later before : List Entry) (node id : ℕ) → IsLegal script (later ++ Locked node id ∷ before) → IsFirst (is_unblocked before node) (request_queue before node) (lock_request id)

-- a free request of a sequence waits at a sequencer, an action made it, and no free request has a higher priority
pub record HasGreatest (history : List Entry) (node id : ℕ) (wish : SequencerRequest) : Type 0 where
  pub seq_is : wish.request.seq ≡ id
  pub waits : Contains (waiting_at history node) wish
  pub asked : IsAskedFor history node wish
  pub free : is_free history node wish.request ≡ true
  pub greatest : All (λ other. priority_of other ≤ priority_of wish.request) (free_requests history node)

-- the first of the free requests of the highest priority is that of a sequence
pub record HasFirstOfGreatest (history : List Entry) (node id : ℕ) : Type 0 where
  pub wish : SequencerRequest
  pub greatest : HasGreatest history node id wish
  pub first : IsFirst (is_as_urgent (sequences_of history) (holders history node) (priority_of wish.request)) (request_queue history node) wish.request

-- the free requests of the highest priority, in the order of the queue
abbrev pub most_urgent : List Entry → ℕ → List Request
most_urgent history node = filter (is_greatest (free_requests history node)) (free_requests history node)

-- the place, from 0, that a random number selects among some requests: its remainder by their number; without a random number the first
abbrev pub place_by : Option ℕ → List Request → ℕ
place_by None requests = 0
place_by (Some word) requests = word % length requests

-- an item is granted to the sequence whose free request of the highest priority the random number of the grant selects. The grant has a random
-- number exactly if there are two or more such requests
pub record HasDrawnOfGreatest (history : List Entry) (node : ℕ) (grant : entries.Grant) : Type 0 where
  pub wish : SequencerRequest
  pub greatest : HasGreatest history node grant.id wish
  pub drawn : is_some grant.word ≡ nat_lt 1 (length (most_urgent history node))
  pub chosen : slice_get (most_urgent history node) (place_by grant.word (most_urgent history node)) ≡ Some wish.request

-- law: in the modes STRICT_FIFO and STRICT_RANDOM no item is granted while a free request of higher priority waits. Of those of the highest
-- priority, the first is granted its item, or the one that the random number selects
pub record StrictPriority : Type 0 where
  pub fifo : (script : ScriptValue) (later before : List Entry) (node : ℕ) (grant : entries.Grant) → IsLegal script (later ++ Granted node grant ∷ before) → mode_at before node ≡ Some StrictFifo → HasFirstOfGreatest before node grant.id
  pub random : (script : ScriptValue) (later before : List Entry) (node : ℕ) (grant : entries.Grant) → IsLegal script (later ++ Granted node grant ∷ before) → mode_at before node ≡ Some StrictRandom → HasDrawnOfGreatest before node grant

-- nothing is raised at a node or below it, and nothing is delayed there by the drain time
pub record IsQuiet (objections : List objection.Node) (node : ℕ) : Type 0 where
  pub raised : source_of node objections ≡ 0
  pub all : total objections node ≡ 0
  pub held : held_of node objections ≡ 0

-- law: when a phase that takes time ends, each node of its objection is quiet (`IsQuiet`)
abbrev pub QuietEnd : Type 0
QuietEnd = (script : ScriptValue) (later before : List Entry) (phase : Phase) (node : ℕ) → IsLegal script (later ++ End phase ∷ before) → is_task phase ≡ true → IsQuiet (objections_of script phase before) node

-- the entry that a cause names: the one at its place, which is the number of entries before it
pub record IsAtCause (history : List Entry) (cause : Cause) (entry : Entry) (before : List Entry) : Type 0 where
  pub later : List Entry
  pub splits : history ≡ later ++ entry ∷ before
  pub place : length before ≡ cause.place

-- the time at which a call is due that an entry causes: after the ticks of an accepted wait, otherwise immediately
abbrev pub call_time : Entry → ℕ → ℕ
call_time (Did performer Done (Wait ticks tag)) now = now + ticks
call_time entry now = now

-- a call was caused: the entry of its cause causes exactly this call to this receiver, in the phase of its origin, and it is due at this time
pub record IsCaused (script : ScriptValue) (history : List Entry) (hearer : Who) (call : Call) (origin : Origin) (time : ℕ) : Type 0 where
  pub entry : Entry
  pub before : List Entry
  pub at : IsAtCause history origin.cause entry before
  pub event : Event
  pub among : Contains (events_from script entry before) event
  pub origin_is : origin_of event ≡ origin
  pub hearer_is : who_of event.owner ≡ hearer
  pub call_is : event.notice ≡ Some call
  pub time_is : time ≡ call_time entry (now_of before)

-- the time at which a wait with this tag ends: the time of its action plus its ticks
pub record IsWakeTime (history : List Entry) (hearer : Who) (tag : ℕ) (cause : Cause) (time : ℕ) : Type 0 where
  pub ticks : ℕ
  pub before : List Entry
  pub at : IsAtCause history cause (Did hearer Done (Wait ticks tag)) before
  pub time_is : time ≡ now_of before + ticks

-- the time at which a drain ends: when the entry of its cause began to delay something at the node, plus the drain time of the node then
pub record IsDrainTime (script : ScriptValue) (history : List Entry) (phase : Phase) (node : ℕ) (cause : Cause) (time : ℕ) : Type 0 where
  pub entry : Entry
  pub before : List Entry
  pub at : IsAtCause history cause entry before
  pub none_held : held_of node (objections_of script phase before) ≡ 0
  pub holds : 0 < held_of node (objections_of script phase (entry ∷ before))
  pub time_is : time ≡ now_of before + drain_of node (objections_of script phase before)

-- law: a call with an origin is received, and a drain ends, at exactly the time that its cause determined. Time never goes back, and never passes
-- over an event that is due. An event is no longer due when its phase or its sequence ends
pub record OnTime : Type 0 where
  pub calls : (script : ScriptValue) (later before : List Entry) (hearer : Who) (call : Call) (origin : Origin) (acts : List Act) → IsLegal script (later ++ Heard hearer (Some origin) call acts ∷ before) → IsCaused script before hearer call origin (now_of before)
  pub wakes : (script : ScriptValue) (later before : List Entry) (hearer : Who) (tag : ℕ) (origin : Origin) (acts : List Act) → IsLegal script (later ++ Heard hearer (Some origin) (call.Wake tag) acts ∷ before) → IsWakeTime before hearer tag origin.cause (now_of before)
  pub drains : (script : ScriptValue) (later before : List Entry) (node : ℕ) (origin : Origin) → IsLegal script (later ++ Drained node origin ∷ before) → IsDrainTime script before origin.phase node origin.cause (now_of before)
  pub passes : (script : ScriptValue) (later before : List Entry) (time : ℕ) → IsLegal script (later ++ Time time ∷ before) → All (λ event. time ≤ event.time) (due_events script before)
  pub forward : (script : ScriptValue) (later before : List Entry) (time : ℕ) → IsLegal script (later ++ Time time ∷ before) → now_of before ≤ time

-- a sequence is the one that was found
abbrev pub is_one_of : ℕ → Option ℕ → Bool
is_one_of id found = option_map_or (λ other. other == id) found false

-- a sequence releases a lock of a sequencer
abbrev pub gives_back : ℕ → ℕ → Entry → Bool
gives_back node id (Did performer Done Unlock) = is_one_of id (sequence_on node performer)
gives_back node id entry = false

-- a sequence is granted a lock of a sequencer
abbrev pub gets_lock : ℕ → ℕ → Entry → Bool
gets_lock node id (Locked other seq) = (other == node) && (seq == id)
gets_lock node id entry = false

-- since it was granted a lock, a sequence is active and has released at most as many locks there as it was granted further ones. So it still holds
-- at least one of the locks from this grant on
pub record HasKept (between before : List Entry) (node id : ℕ) : Type 0 where
  pub kept : length (filter (gives_back node id) between) ≤ length (filter (gets_lock node id) between)
  pub lives : is_live (between ++ Locked node id ∷ before) id ≡ true

-- an entry grants a sequence something at a sequencer: an item, or a lock
abbrev pub Grants : ℕ → ℕ → Entry → Type 0
Grants node id (Granted other grant) = (other ≡ node) × (grant.id ≡ id)
Grants node id (Locked other seq) = (other ≡ node) × (seq ≡ id)
Grants node id entry = ⊥

-- of two sequences, one is the other or its ancestor
abbrev pub AreInLine : List Entry → ℕ → ℕ → Type 0
AreInLine history one other = (is_under (sequences_of history) one other ≡ true) ⊎ (is_under (sequences_of history) other one ≡ true)

-- law: a sequence holds a lock of a sequencer until it releases it or ends. Until then each grant there goes to each holder or its descendants,
-- and of any two holders one is the other or its ancestor
pub record LockExcludes : Type 0 where
  pub holds : (between before : List Entry) (node id : ℕ) → HasKept between before node id → Contains (holders (between ++ Locked node id ∷ before) node) id
  pub from_lock : (script : ScriptValue) (later between before : List Entry) (node id to : ℕ) (entry : Entry) → IsLegal script (later ++ entry ∷ (between ++ Locked node id ∷ before)) → Grants node to entry → HasKept between before node id
      → is_under (sequences_of (between ++ Locked node id ∷ before)) to id ≡ true
  pub grants : (script : ScriptValue) (later before : List Entry) (node to : ℕ) (entry : Entry) → IsLegal script (later ++ entry ∷ before) → Grants node to entry → All (λ holder. is_under (sequences_of before) to holder ≡ true) (holders before node)
  pub nested : (script : ScriptValue) (history : List Entry) (node one other : ℕ) → IsLegal script history → Contains (holders history node) one → Contains (holders history node) other → AreInLine history one other

-- a driver keeps an item: it asked by a `next` or a `try`, and holds the item until it completes it; an item for a `get` is completed immediately
abbrev pub keeps_item : Option How → Bool
keeps_item (Some Next) = true
keeps_item (Some Try) = true
keeps_item asked = false

-- an entry ends the driver's hold of an item: the driver completes the item, or the phase ends in which it asked
abbrev pub takes_out : List Entry → ℕ → Entry → Bool
takes_out before node (Did performer Done (ItemDone port response)) = leads_there node (sequencer_below before performer port)
takes_out before node (End phase) = option_map_or (same_phase phase) (asked_in before node) false
takes_out before node entry = false

-- between two places of a log there is such an entry, when the driver holds an item of this sequence
pub record IsTakenOut (between before : List Entry) (node id : ℕ) : Type 0 where
  pub later : List Entry
  pub entry : Entry
  pub earlier : List Entry
  pub splits : between ≡ later ++ entry ∷ earlier
  pub has : hand_of (driver_state (earlier ++ before) node) ≡ Some id
  pub takes : takes_out (earlier ++ before) node entry ≡ true

-- one more, if a test holds
abbrev pub count_if : Bool → ℕ → ℕ
count_if true n = suc n
count_if false n = n

-- how many items were sent at a sequencer
abbrev pub sends_at : List Entry → ℕ → ℕ
sends_at [] node = 0
sends_at (Did performer Done (Send item) ∷ before) node = count_if (is_some (sequence_on node performer)) (sends_at before node)
sends_at (entry ∷ before) node = sends_at before node

-- a driver asked by a `get`
abbrev pub is_get : Option How → Bool
is_get (Some Get) = true
is_get asked = false

-- how many of the items sent at a sequencer went to a `get`
abbrev pub gets_at : List Entry → ℕ → ℕ
gets_at [] node = 0
gets_at (Did performer Done (Send item) ∷ before) node = count_if (option_map_or (λ id. is_get (grant_of id (driver_state before node))) (sequence_on node performer) false) (gets_at before node)
gets_at (entry ∷ before) node = gets_at before node

-- how many items the driver of a sequencer has completed
abbrev pub dones_at : List Entry → ℕ → ℕ
dones_at [] node = 0
dones_at (Did performer Done (ItemDone port response) ∷ before) node = count_if (leads_there node (sequencer_below before performer port)) (dones_at before node)
dones_at (entry ∷ before) node = dones_at before node

-- how many items a driver holds: one or none
abbrev pub hand_count : Driver → ℕ
hand_count driver = option_map_or (λ id. 1) (hand_of driver) 0

-- how many items the driver of a sequencer holds at the end of a log: one or none
abbrev pub in_hand : List Entry → ℕ → ℕ
in_hand history node = hand_count (driver_state history node)

-- how many items the driver of a sequencer held when the phase ended in which it had asked
abbrev pub ended_at : List Entry → ℕ → ℕ
ended_at [] node = 0
ended_at (End phase ∷ before) node = (if takes_out before node (End phase) then in_hand before node else 0) + ended_at before node
ended_at (entry ∷ before) node = ended_at before node

-- law: each item that is sent was granted. If the driver keeps an item, its hold ends before the next is sent. The items sent are exactly those that
-- went to a `get`, were completed, ended with a phase, or are held now. The law does not state that the driver receives the call
pub record OneItemOut : Type 0 where
  pub granted : (script : ScriptValue) (later before : List Entry) (node id : ℕ) (performer : Who) (item : Item) → IsLegal script (later ++ Did performer Done (Send item) ∷ before) → sequence_on node performer ≡ Some id
      → IsSome (grant_of id (driver_state before node))
  pub between : (script : ScriptValue) (later between before : List Entry) (node id other : ℕ) (first second : Who) (item another : Item) → IsLegal script (later ++ Did second Done (Send another) ∷ (between ++ Did first Done (Send item) ∷ before))
      → sequence_on node first ≡ Some id → sequence_on node second ≡ Some other → keeps_item (grant_of id (driver_state before node)) ≡ true
      → IsTakenOut between (Did first Done (Send item) ∷ before) node id
  pub counts : (script : ScriptValue) (history : List Entry) (node : ℕ) → IsLegal script history → sends_at history node ≡ gets_at history node + dones_at history node + ended_at history node + in_hand history node
