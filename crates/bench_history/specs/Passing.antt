-- Transfers through FIFOs (IEEE 1800.2-2020, Clause 12): the items in each FIFO, the requests that wait at it, and the next transfer.
use Rattle.std.specs.Prelude.{ℕ, suc, Bool, true, false, not, ◌&&◌, ◌==◌, nat_eq, List, [], ◌∷◌, ◌++◌, length, map, filter, drop, slice_get, Option, Some, None, option_map, option_and_then, if◌then◌else◌}
use Rattle.std.specs.List.{list_any}
use Rattle.std.specs.Option.{option_map_or}
use Rattle.uvm_glob.specs.Lists.{first_given}
use Rattle.uvm_phase.specs.declared.phases.Phase.{Phase}
use Rattle.uvm_phase.specs.Phases.{same_phase}
use Rattle.uvm_tree.specs.Sorted.{path_order}
use Rattle.uvm_tlm.specs.declared.ends.PortKind.{PortKind}
use Rattle.uvm_tlm.specs.declared.ends.PortKind.TheVariants as through
use Rattle.uvm_tlm.specs.declared.items.Item.{Item}
use Rattle.uvm_tlm.specs.declared.fifos.Move.{Move}
use Rattle.uvm_tlm.specs.declared.fifos.MoveKind.{MoveKind}
use Rattle.uvm_tlm.specs.declared.fifos.MoveKind.TheVariants as move
use Rattle.uvm_tlm.specs.declared.fifos.WaitingPut.{WaitingPut}
use Rattle.uvm_tlm.specs.declared.fifos.WaitingTake.{WaitingTake}
use Rattle.uvm_tlm.specs.Fifos.{FifoValue, can_put, can_take, next_move}
use Rattle.uvm_acts.specs.declared.acts.Who.{Who}
use Rattle.uvm_acts.specs.declared.acts.Act.{Act}
use Rattle.uvm_acts.specs.declared.acts.Act.TheVariants.{Put, TryPut, Take, TryTake, Peek, Write}
use Rattle.uvm_object.specs.declared.entries.Outcome.{Outcome}
use Rattle.uvm_object.specs.declared.entries.Outcome.TheVariants.{Done, Stored, Taken}
use Rattle.uvm_object.specs.declared.entries.Passage.{Passage}
use Rattle.uvm_object.specs.declared.entries.Entry.{Entry}
use Rattle.uvm_object.specs.declared.entries.Entry.TheVariants.{Did, Passed}
use Rattle.bench_history.specs.declared.requesters.Requester.{Requester}
use Rattle.bench_history.specs.declared.requesters.FifoPort.{FifoPort}
use Rattle.bench_history.specs.History.{act_phase, nodes_of, ended_of}
use Rattle.bench_history.specs.Wires.{wiring_of}
use Rattle.bench_history.specs.Ports.{fifo_size, fifo_port_below, fifos_below}

-- a list with one more element at its end, if there is one
abbrev pub with_last : {A : Type 0} → List A → Option A → List A
with_last xs None = xs
with_last xs (Some x) = xs ++ x ∷ []

-- a request for a put, a take or a peek: its requester and its payload. The payload of a put is the item; that of a take or a peek is whether it
-- is a peek
pub record Request (Payload : Type 0) : Type 0 where
  pub requester : Requester
  pub wish : Payload

-- the name of the port through which an action asks for a put, and the item
abbrev pub put_in : Outcome → Act → Option (List ℕ × Item)
put_in Done (Put name item) = Some (name, item)
put_in outcome act = None

-- the name of the port through which an action asks for a take or a peek, and whether it is a peek
abbrev pub take_in : Outcome → Act → Option (List ℕ × Bool)
take_in Done (Take name) = Some (name, false)
take_in Done (Peek name) = Some (name, true)
take_in outcome act = None

-- a port is given, and this FIFO is reached through it
abbrev pub leads_to : ℕ → Option FifoPort → Bool
leads_to fifo fifo_port = option_map_or (λ fifo_port. fifo_port.fifo == fifo) fifo_port false

-- the request that is made at a FIFO in a phase, if the port leads to this FIFO
abbrev pub request_by : {Payload : Type 0} → ℕ → Who → ℕ → List ℕ × Payload → Option Phase → Option FifoPort → Option (Request Payload)
request_by fifo performer place wished (Some phase) (Some fifo_port) =
    if fifo_port.fifo == fifo then Some (record { requester = record { place = place; who = performer; port = wished.0; phase = phase }; wish = wished.1 }) else None
request_by fifo performer place wished phase fifo_port = None

-- the request that the next action makes at a FIFO, if its port leads there
abbrev pub request_at : {Payload : Type 0} → List Entry → ℕ → Who → PortKind → List ℕ × Payload → Option (Request Payload)
request_at before fifo performer kind wished = request_by fifo performer (length before) wished (act_phase before) (fifo_port_below before performer kind wished.0)

-- the puts that were requested at a FIFO, the earliest first
abbrev pub puts_asked : List Entry → ℕ → List (Request Item)
puts_asked [] fifo = []
puts_asked (Did performer outcome act ∷ before) fifo = with_last (puts_asked before fifo) (option_and_then (request_at before fifo performer through.Put) (put_in outcome act))
puts_asked (entry ∷ before) fifo = puts_asked before fifo

-- the takes and peeks that were requested at a FIFO, the earliest first
abbrev pub takes_asked : List Entry → ℕ → List (Request Bool)
takes_asked [] fifo = []
takes_asked (Did performer outcome act ∷ before) fifo = with_last (takes_asked before fifo) (option_and_then (request_at before fifo performer through.Get) (take_in outcome act))
takes_asked (entry ∷ before) fifo = takes_asked before fifo

-- a move is a put
abbrev pub is_put : MoveKind → Bool
is_put move.Put = true
is_put kind = false

-- a move is a take
abbrev pub is_take : MoveKind → Bool
is_take move.Take = true
is_take kind = false

-- a move is a take or a peek
abbrev pub is_no_put : MoveKind → Bool
is_no_put kind = not (is_put kind)

-- the places of the actions whose requests completed at a FIFO, for one sort of moves
abbrev pub answered_at : (MoveKind → Bool) → List Entry → ℕ → List ℕ
answered_at sort [] fifo = []
answered_at sort (Passed node passage ∷ before) fifo = if (node == fifo) && sort passage.kind then passage.request ∷ answered_at sort before fifo else answered_at sort before fifo
answered_at sort (entry ∷ before) fifo = answered_at sort before fifo

-- a request waits: it has not completed, and its phase has not ended
abbrev pub is_waiting : {Payload : Type 0} → List ℕ → List Phase → Request Payload → Bool
is_waiting answered ended request = not (list_any (nat_eq request.requester.place) answered) && not (list_any (same_phase request.requester.phase) ended)

-- the puts that wait at a FIFO, the earliest first
abbrev pub puts_waiting : List Entry → ℕ → List (Request Item)
puts_waiting history fifo = filter (is_waiting (answered_at is_put history fifo) (ended_of history)) (puts_asked history fifo)

-- the takes and peeks that wait at a FIFO, the earliest first
abbrev pub takes_waiting : List Entry → ℕ → List (Request Bool)
takes_waiting history fifo = filter (is_waiting (answered_at is_no_put history fifo) (ended_of history)) (takes_asked history fifo)

-- the item that an action puts into a FIFO immediately
abbrev pub stored_by : List Entry → ℕ → Who → Outcome → Act → Option Item
stored_by before fifo performer (Stored true) (TryPut name item) = if leads_to fifo (fifo_port_below before performer through.Put name) then Some item else None
stored_by before fifo performer Done (Write name item) = if list_any (nat_eq fifo) (fifos_below before performer name) then Some item else None
stored_by before fifo performer outcome act = None

-- the items that entered a FIFO, in the order of arrival
abbrev pub items_entered : List Entry → ℕ → List Item
items_entered [] fifo = []
items_entered (Did performer outcome act ∷ before) fifo = with_last (items_entered before fifo) (stored_by before fifo performer outcome act)
items_entered (Passed node passage ∷ before) fifo = if (node == fifo) && is_put passage.kind then items_entered before fifo ++ passage.item ∷ [] else items_entered before fifo
items_entered (entry ∷ before) fifo = items_entered before fifo

-- an action takes an item out of a FIFO immediately
abbrev pub taken_by : List Entry → ℕ → Who → Outcome → Act → Bool
taken_by before fifo performer (Taken (Some item)) (TryTake name) = leads_to fifo (fifo_port_below before performer through.Get name)
taken_by before fifo performer outcome act = false

-- how many items left a FIFO
abbrev pub items_left : List Entry → ℕ → ℕ
items_left [] fifo = 0
items_left (Did performer outcome act ∷ before) fifo = if taken_by before fifo performer outcome act then suc (items_left before fifo) else items_left before fifo
items_left (Passed node passage ∷ before) fifo = if (node == fifo) && is_take passage.kind then suc (items_left before fifo) else items_left before fifo
items_left (entry ∷ before) fifo = items_left before fifo

-- the items in a FIFO: those that entered, without as many from the front as left
abbrev pub fifo_items : List Entry → ℕ → List Item
fifo_items history fifo = drop (items_left history fifo) (items_entered history fifo)

-- a put that waits, as a FIFO stores it
abbrev pub waiting_put : Request Item → WaitingPut Requester
waiting_put request = record { owner = request.requester; item = request.wish }

-- a take or a peek that waits, as a FIFO stores it
abbrev pub waiting_take : Request Bool → WaitingTake Requester
waiting_take request = record { owner = request.requester; peeks = request.wish }

-- the state of a FIFO of a size with these items and these requests that wait
abbrev pub fifo_state_with : ℕ → List Item → List (Request Item) → List (Request Bool) → FifoValue Requester
fifo_state_with size items puts takes = record { size = size; items = items; puts = map waiting_put puts; takes = map waiting_take takes }

-- the state of the FIFO of a size at a node
abbrev pub fifo_state_of : List Entry → ℕ → ℕ → FifoValue Requester
fifo_state_of history node size = fifo_state_with size (fifo_items history node) (puts_waiting history node) (takes_waiting history node)

-- the state of the FIFO at a node according to the log, if there is one
abbrev pub fifo_state_at : List Entry → ℕ → Option (FifoValue Requester)
fifo_state_at history node = option_map (fifo_state_of history node) (fifo_size (wiring_of history) node)

-- a move at a FIFO as a transfer, with the data of the request that it answers
abbrev pub passage_by : Move Requester → Passage
passage_by move = record { kind = move.kind; who = move.owner.who; port = move.owner.port; item = move.item; request = move.owner.place; phase = move.owner.phase }

-- the next transfer at a FIFO
abbrev pub passage_in : FifoValue Requester → Option Passage
passage_in fifo_state = option_map passage_by (next_move fifo_state)

-- the next transfer at the FIFO of a node, with the node
abbrev pub passing_at : List Entry → ℕ → Option (ℕ × Passage)
passing_at history node = option_map (λ passage. (node, passage)) (option_and_then passage_in (fifo_state_at history node))

-- the next transfer: at the first FIFO in path order that has one
unfoldable pub next_passed : List Entry → Option (ℕ × Passage)
next_passed history = first_given (map (passing_at history) (path_order (nodes_of history)))

-- the state of the FIFO that a performer reaches through its port of a name
abbrev pub fifo_state_below : List Entry → Who → PortKind → List ℕ → Option (FifoValue Requester)
fifo_state_below history performer kind name = option_and_then (λ fifo_port. fifo_state_at history fifo_port.fifo) (fifo_port_below history performer kind name)

-- an item can be put into the FIFO immediately
abbrev pub puts_now : Option (FifoValue Requester) → Bool
puts_now fifo_state = option_map_or can_put fifo_state false

-- the item that can be taken out of the FIFO immediately, if there is one
abbrev pub takes_now : Option (FifoValue Requester) → Option Item
takes_now fifo_state = option_and_then (λ fifo_state. if can_take fifo_state then slice_get fifo_state.items 0 else None) fifo_state
