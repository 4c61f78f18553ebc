-- What sequences request from their sequencers, what is granted to them, and the state of each driver (IEEE 1800.2-2020, Clause 15).
-- The definitions about drivers are used only once the wiring is closed.
use Rattle.std.specs.Prelude.{ℕ, Bool, true, false, not, ◌&&◌, ◌==◌, nat_lt, List, [], ◌∷◌, ◌++◌, length, map, filter, find, slice_get, Option, Some, None, option_map, option_and_then, option_to_list, unwrap_or, if◌then◌else◌}
use Rattle.std.specs.List.{list_any}
use Rattle.std.specs.Option.{option_map_or}
use Rattle.uvm_glob.specs.Lists.{first_given}
use Rattle.uvm_phase.specs.declared.phases.Phase.{Phase}
use Rattle.uvm_sequencer.specs.declared.modes.Mode.{Mode}
use Rattle.uvm_sequencer.specs.declared.drivers.How.{How}
use Rattle.uvm_sequencer.specs.declared.drivers.Driver.{Driver}
use Rattle.uvm_sequencer.specs.declared.drivers.Driver.TheVariants.{Idle, Waiting}
use Rattle.uvm_sequencer.specs.declared.requests.Request.{Request}
use Rattle.uvm_sequencer.specs.Drivers.{grant_of, granted_by, kept_on, left_by, sent}
use Rattle.uvm_sequencer.specs.Queues.{is_item, item_request, lock_request, released}
use Rattle.uvm_sequences.specs.Sequences.{Start}
use Rattle.uvm_sequencer.specs.Sequencers.{SequencerValue, lock_at, ready_at}
use Rattle.uvm_tlm.specs.declared.ends.PortKind.TheVariants.{Seq}
use Rattle.uvm_tlm.specs.Wirings.{targets_of}
use Rattle.uvm_tree.specs.Nodes.{Node}
use Rattle.uvm_tree.specs.Sorted.{path_order}
use Rattle.uvm_acts.specs.declared.acts.Who.{Who}
use Rattle.uvm_acts.specs.declared.acts.Who.TheVariants as who
use Rattle.uvm_acts.specs.declared.acts.What.TheVariants as what
use Rattle.uvm_acts.specs.declared.acts.Act.{Act}
use Rattle.uvm_acts.specs.declared.acts.Act.TheVariants.{Add, Ask, ItemDone, Request as Requests, Lock, Grab, Unlock, Send}
use Rattle.uvm_object.specs.declared.entries.Outcome.{Outcome}
use Rattle.uvm_object.specs.declared.entries.Outcome.TheVariants.{Done, Waits, Finished}
use Rattle.uvm_object.specs.declared.entries.Entry.{Entry}
use Rattle.uvm_object.specs.declared.entries.Entry.TheVariants.{Did, Locked, Granted, End}
use Rattle.bench_history.specs.declared.requesters.DriverPort.{DriverPort}
use Rattle.bench_history.specs.History.{act_phase, is_of_phase, nodes_of}
use Rattle.uvm_tlm.specs.Fifos.{waiting_count}
use Rattle.bench_history.specs.Passing.{fifo_state_at}
use Rattle.bench_history.specs.Ports.{port_below}
use Rattle.bench_history.specs.Sequences.{is_live, parent_priority, sequences_of}
use Rattle.bench_history.specs.Wires.{closed_wiring}

-- the node and the mode of a sequencer that an action adds
abbrev pub mode_in : List Node → Outcome → Act → Option (ℕ × Mode)
mode_in nodes Done (Add name (what.Sequencer mode)) = Some (length nodes, mode)
mode_in nodes outcome act = None

-- the node and the mode of each sequencer that was added, the newest first
abbrev pub modes_of : List Entry → List (ℕ × Mode)
modes_of [] = []
modes_of (Did performer outcome act ∷ before) = option_to_list (mode_in (nodes_of before) outcome act) ++ modes_of before
modes_of (entry ∷ before) = modes_of before

-- the mode of the sequencer at a node, if there is one
abbrev pub mode_at : List Entry → ℕ → Option Mode
mode_at history node = option_map (λ found. found.1) (find (λ found. found.0 == node) (modes_of history))

-- what a sequence requests: to send an item, to lock the sequencer, or to lock it ahead of all requests that wait
pub data RequestKind : Type 0 where
  ForItem : (given : Option ℕ) → RequestKind
  ForLock : RequestKind
  ForGrab : RequestKind

-- what a sequence requests from its sequencer by an action that is done, if anything
abbrev pub wish_in : Outcome → Act → Option RequestKind
wish_in Done (Requests given) = Some (ForItem given)
wish_in Done Lock = Some ForLock
wish_in Done Grab = Some ForGrab
wish_in outcome act = None

-- the number of the sequence that performs, if it runs on this sequencer
abbrev pub sequence_on : ℕ → Who → Option ℕ
sequence_on node (who.Node other) = None
sequence_on node (who.Sequence home id) = if home == node then Some id else None

-- a request at a sequencer, and its place in the log
pub record SequencerRequest : Type 0 where
  pub request : Request
  pub place : ℕ

-- a request that was made at this place in the log
abbrev pub sequencer_request : ℕ → Request → SequencerRequest
sequencer_request place request = record { request = request; place = place }

-- the priority of a request: the one that is given, otherwise that of its sequence
abbrev pub request_priority : List Start → ℕ → Option ℕ → ℕ
request_priority started id given = unwrap_or given (parent_priority started (Some id))

-- the requests with one more, in the order of the queue: grabs first, the latest at the front, then the others in order of arrival
abbrev pub with_wish : List Start → ℕ → Option RequestKind → Option ℕ → List SequencerRequest → List SequencerRequest
with_wish started place None id asked = asked
with_wish started place (Some wish) None asked = asked
with_wish started place (Some (ForItem given)) (Some id) asked = asked ++ sequencer_request place (item_request id (request_priority started id given)) ∷ []
with_wish started place (Some ForLock) (Some id) asked = asked ++ sequencer_request place (lock_request id) ∷ []
with_wish started place (Some ForGrab) (Some id) asked = sequencer_request place (lock_request id) ∷ asked

-- all requests that were ever made at a sequencer, in the order of its queue
abbrev pub all_requests : List Entry → ℕ → List SequencerRequest
all_requests [] node = []
all_requests (Did performer outcome act ∷ before) node = with_wish (sequences_of before) (length before) (wish_in outcome act) (sequence_on node performer) (all_requests before node)
all_requests (entry ∷ before) node = all_requests before node

-- the sequences that were granted an item at a sequencer, each with the place of the grant in the log
abbrev pub grants_at : List Entry → ℕ → List (ℕ × ℕ)
grants_at [] node = []
grants_at (Granted other grant ∷ before) node = if other == node then (grant.id, length before) ∷ grants_at before node else grants_at before node
grants_at (entry ∷ before) node = grants_at before node

-- the sequences that were granted a lock at a sequencer, each with the place of the grant in the log
abbrev pub locks_at : List Entry → ℕ → List (ℕ × ℕ)
locks_at [] node = []
locks_at (Locked other id ∷ before) node = if other == node then (id, length before) ∷ locks_at before node else locks_at before node
locks_at (entry ∷ before) node = locks_at before node

-- the sequence of a request was granted something after the place of the request
abbrev pub granted_since : List (ℕ × ℕ) → SequencerRequest → Bool
granted_since grants w = list_any (λ grant. (grant.0 == w.request.seq) && nat_lt w.place grant.1) grants

-- a request waits: its sequence is active, and was granted nothing of the requested sort since the request
abbrev pub waits_by : (ℕ → Bool) → List (ℕ × ℕ) → List (ℕ × ℕ) → SequencerRequest → Bool
waits_by live grants locks w = live w.request.seq && not (granted_since (if is_item w.request then grants else locks) w)

-- a request at a sequencer still waits at the end of a log
abbrev pub still_waits : List Entry → ℕ → SequencerRequest → Bool
still_waits history node = waits_by (is_live history) (grants_at history node) (locks_at history node)

-- the requests that wait at a sequencer, in the order of its queue
abbrev pub request_queue : List Entry → ℕ → List Request
request_queue history node = map (λ w. w.request) (filter (still_waits history node) (all_requests history node))

-- an action releases a lock
abbrev pub unlocks : Outcome → Act → Bool
unlocks Done Unlock = true
unlocks outcome act = false

-- the locks that are held after an action: without the last lock of a sequence that releases one
abbrev pub given_back : Bool → Option ℕ → List ℕ → List ℕ
given_back true (Some id) held = released id held
given_back gives id held = held

-- the locks that were granted and not released, in the order of their grants; a sequence releases the last of its own
abbrev pub locks_held : List Entry → ℕ → List ℕ
locks_held [] node = []
locks_held (Locked other id ∷ before) node = if other == node then locks_held before node ++ id ∷ [] else locks_held before node
locks_held (Did performer outcome act ∷ before) node = given_back (unlocks outcome act) (sequence_on node performer) (locks_held before node)
locks_held (entry ∷ before) node = locks_held before node

-- the locks that were granted and not released and whose sequence is active
abbrev pub holders : List Entry → ℕ → List ℕ
holders history node = filter (is_live history) (locks_held history node)

-- a node, if a sequencer was added there
abbrev pub if_arbitrated : List Entry → ℕ → Option ℕ
if_arbitrated history node = option_map (λ mode. node) (mode_at history node)

-- the sequencer that a performer reaches through its seq port of a name, if the port is correctly connected
unfoldable pub sequencer_below : List Entry → Who → List ℕ → Option ℕ
sequencer_below history performer name = option_and_then (λ port. option_and_then (if_arbitrated history) (slice_get (targets_of (closed_wiring history) port) 0)) (port_below history performer Seq name)

-- what an action means for a driver: it waits for an item, completes one, is sent one, or the sequence that may hold its grant ends
pub data DriverMove : Type 0 where
  Awaits : (port : List ℕ) (how : How) → DriverMove
  IsDone : (port : List ℕ) → DriverMove
  Sends : DriverMove
  Leaves : DriverMove

-- what an action means for a driver, if anything
abbrev pub driver_move : Outcome → Act → Option DriverMove
driver_move Done (Ask port how) = Some (Awaits port how)
driver_move (Waits true) (Ask port how) = Some (Awaits port how)
driver_move Done (ItemDone port response) = Some (IsDone port)
driver_move Done (Send item) = Some Sends
driver_move Finished act = Some Leaves
driver_move outcome act = None

-- a sequencer is reached, and it is at this node
abbrev pub leads_there : ℕ → Option ℕ → Bool
leads_there node reached = option_map_or (λ other. other == node) reached false

-- the state of a driver after a sequence has sent its item; unchanged if that sequence has no grant
abbrev pub sent_by : Driver → ℕ → Driver
sent_by driver id = option_map_or (sent id) (grant_of id driver) driver

-- the state of the driver of a sequencer after an action, by what the action means for it
abbrev pub driver_by : List Entry → ℕ → Who → Option DriverMove → Driver → Driver
driver_by before node performer None driver = driver
driver_by before node performer (Some (Awaits port how)) driver = if leads_there node (sequencer_below before performer port) then Waiting how else driver
driver_by before node performer (Some (IsDone port)) driver = if leads_there node (sequencer_below before performer port) then Idle else driver
driver_by before node performer (Some Sends) driver = option_map_or (sent_by driver) (sequence_on node performer) driver
driver_by before node performer (Some Leaves) driver = option_map_or (λ id. left_by (grant_of id driver) driver) (sequence_on node performer) driver

-- who drives a sequencer after an action: its performer, if it waits there for an item; otherwise as before
abbrev pub requester_by : List Entry → ℕ → Who → Option DriverMove → Option DriverPort → Option DriverPort
requester_by before node performer (Some (Awaits port how)) requester = if leads_there node (sequencer_below before performer port) then Some (record { who = performer; name = port; phase = act_phase before }) else requester
requester_by before node performer move requester = requester

-- who drives a sequencer, through which port, and in which phase it asked: the performer that asked last
abbrev pub driver_requester : List Entry → ℕ → Option DriverPort
driver_requester [] node = None
driver_requester (Did performer outcome act ∷ before) node = requester_by before node performer (driver_move outcome act) (driver_requester before node)
driver_requester (entry ∷ before) node = driver_requester before node

-- the phase in which the driver of a sequencer asked last
abbrev pub asked_in : List Entry → ℕ → Option Phase
asked_in history node = option_and_then (λ requester. requester.phase) (driver_requester history node)

-- the last request of a driver ends with this phase
abbrev pub ends_ask : Phase → Option DriverPort → Bool
ends_ask phase requester = option_map_or (λ requester. is_of_phase phase requester.phase) requester true

-- the state of the driver of a sequencer: the last action, grant or end of a phase that concerns it decides. With a phase ends the
-- request of a driver that asked in this phase, and the grant of a sequence that ends with it
abbrev pub driver_state : List Entry → ℕ → Driver
driver_state [] node = Idle
driver_state (Did performer outcome act ∷ before) node = driver_by before node performer (driver_move outcome act) (driver_state before node)
driver_state (Granted other grant ∷ before) node = if other == node then granted_by grant.id (driver_state before node) else driver_state before node
driver_state (End phase ∷ before) node = kept_on (ends_ask phase (driver_requester before node)) (is_live (End phase ∷ before)) (driver_state before node)
driver_state (entry ∷ before) node = driver_state before node

-- the sequencer at a node as a value of the service; it names no port, as a driver asks through the one correctly connected port to the sequencer
abbrev pub sequencer_with : List Entry → ℕ → Mode → SequencerValue
sequencer_with history node mode = record { mode = mode; port = None; driver = driver_state history node; queue = request_queue history node; holders = holders history node }

-- the sequencer at a node according to the log, if there is one
abbrev pub sequencer_at : List Entry → ℕ → Option SequencerValue
sequencer_at history node = option_map (sequencer_with history node) (mode_at history node)

-- a sequencer at which a lock can be granted, and the sequence that gets it
abbrev pub locking_at : List Entry → ℕ → Option (ℕ × ℕ)
locking_at history node = option_map (λ id. (node, id)) (option_and_then (lock_at (sequences_of history)) (sequencer_at history node))

-- the first sequencer in path order at which a lock can be granted, and the sequence that gets it
unfoldable pub next_locked : List Entry → Option (ℕ × ℕ)
next_locked history = first_given (map (locking_at history) (path_order (nodes_of history)))

-- a sequencer whose driver waits and that has a candidate, and whether a random number decides
abbrev pub serving_at : List Entry → ℕ → Option (ℕ × Bool)
serving_at history node = option_map (λ drawn. (node, drawn)) (option_and_then (ready_at (sequences_of history)) (sequencer_at history node))

-- the first sequencer in path order whose driver waits and that has a candidate, and whether a random number decides
unfoldable pub next_served : List Entry → Option (ℕ × Bool)
next_served history = first_given (map (serving_at history) (path_order (nodes_of history)))

-- how many requests wait at a sequencer
abbrev pub requests_at : List Entry → ℕ → ℕ
requests_at history node = option_map_or (λ s. length s.queue) (sequencer_at history node) 0

-- how many requests wait at a node: at its FIFO or at its sequencer; 0 if it is neither
abbrev pub waiters_at : List Entry → ℕ → ℕ
waiters_at history node = option_map_or waiting_count (fifo_state_at history node) (requests_at history node)
