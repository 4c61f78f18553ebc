-- The events that a log has caused and that have not happened yet: calls, and the ends of drains.
use Rattle.std.specs.Prelude.{ℕ, Bool, true, false, not, ◌+◌, suc, ◌&&◌, ◌==◌, List, [], ◌∷◌, ◌++◌, length, filter, slice_get, Option, Some, None, option_map, option_and_then, option_to_list, if◌then◌else◌}
use Rattle.bench_script.specs.Scripts.{ScriptValue}
use Rattle.std.specs.List.{filter_map, flat_map, list_any}
use Rattle.std.specs.Option.{option_map_or}
use Rattle.uvm_phase.specs.declared.phases.Phase.{Phase}
use Rattle.uvm_phase.specs.declared.agendas.Cause.{Cause}
use Rattle.uvm_phase.specs.declared.agendas.Due.{Due}
use Rattle.uvm_phase.specs.Phases.{same_phase}
use Rattle.uvm_phase.specs.Dues.{same_cause, in_order}
use Rattle.uvm_objection.specs.declared.objections.Due as drain
use Rattle.uvm_objection.specs.Nodes.{Node}
use Rattle.uvm_objection.specs.Totals.{drains_begun, drains_ended}
use Rattle.uvm_sequences.specs.declared.starts.SeqStep.{SeqStep}
use Rattle.uvm_sequences.specs.declared.starts.SeqStep.TheVariants.{PreStart, Body, PostStart}
use Rattle.uvm_sequences.specs.Sequences.{numbered}
use Rattle.uvm_sequencer.specs.declared.drivers.How.{How}
use Rattle.uvm_sequencer.specs.declared.drivers.How.TheVariants.{Get as ByGet}
use Rattle.uvm_sequencer.specs.Drivers.{grant_of, hand_of, is_try, loses_try}
use Rattle.uvm_acts.specs.Acts.{node_of}
use Rattle.uvm_tree.specs.Nodes as tree
use Rattle.uvm_tree.specs.Nodes.{under_at}
use Rattle.uvm_tree.specs.Sorted.{path_order}
use Rattle.uvm_tlm.specs.declared.fifos.MoveKind.{MoveKind}
use Rattle.uvm_tlm.specs.declared.fifos.MoveKind.TheVariants as move
use Rattle.uvm_tlm.specs.declared.items.Item.{Item}
use Rattle.uvm_acts.specs.declared.acts.Who.{Who}
use Rattle.uvm_acts.specs.declared.acts.Who.TheVariants as who
use Rattle.uvm_object.specs.Objects.{same_who}
use Rattle.uvm_acts.specs.declared.acts.Call.{Call}
use Rattle.uvm_acts.specs.declared.acts.Call.TheVariants as call
use Rattle.uvm_acts.specs.declared.acts.Act.{Act}
use Rattle.uvm_acts.specs.declared.acts.Act.TheVariants.{Get, TryPut, TryTake, Write, Ask, ItemDone, Send, EndStep, RaiseObjection, DropObjection, Wait}
use Rattle.uvm_object.specs.declared.entries.Outcome.{Outcome}
use Rattle.uvm_object.specs.declared.entries.Outcome.TheVariants.{Done, Started, Value, Stored, Taken, Waits, Finished}
use Rattle.uvm_object.specs.declared.entries.Passage.{Passage}
use Rattle.uvm_object.specs.declared.entries.Entry.{Entry}
use Rattle.uvm_object.specs.declared.entries.Entry.TheVariants.{End, Heard, Did, Locked, Granted, Passed, Drained}
use Rattle.bench_history.specs.declared.requesters.DriverPort.{DriverPort}
use Rattle.bench_history.specs.declared.event_targets.DueCall.{DueCall}
use Rattle.bench_history.specs.declared.event_targets.EventTarget.{EventTarget}
use Rattle.bench_history.specs.declared.event_targets.EventTarget.TheVariants.{Object, Drain}
use Rattle.bench_history.specs.EventTargets.{Event, is_drain_of}
use Rattle.bench_history.specs.History.{act_phase, now_of, nodes_of, ended_of}
use Rattle.bench_history.specs.Objections.{objections_of}
use Rattle.bench_history.specs.Sequences.{StartRecord, starts_of, finished_of, is_live, next_step, phase_begun, sequence_in, sequences_of, start_by}
use Rattle.bench_history.specs.Ports.{imps_below}
use Rattle.bench_history.specs.Arbitration.{driver_requester, driver_state, ends_ask, sequencer_below}

-- the event that is due in a phase, as a list; empty if there is no phase
abbrev pub event_in : {O N : Type 0} → Option Phase → ℕ → Cause → O → N → List (Due O N)
event_in phase time cause owner notice = option_to_list (option_map (λ phase. record { time = time; cause = cause; phase = phase; owner = owner; notice = notice }) phase)

-- the cause that names the entry at a place, as its first event
abbrev pub caused_at : ℕ → Cause
caused_at place = record { place = place; number = 0 }

-- the call to its performer that an action causes: the value for a Get, the result of a try, no item for a driver whose try fails, or the
-- wake-up after a wait. No other action causes one
abbrev pub call_to_performer : Outcome → Act → Option Call
call_to_performer (Value value) (Get field) = Some (call.Config field value)
call_to_performer (Stored stored) (TryPut port item) = Some (call.TryStored port stored)
call_to_performer (Taken item) (TryTake port) = Some (call.TryTaken port item)
call_to_performer Done (Wait ticks tag) = Some (call.Wake tag)
call_to_performer (Waits false) (Ask port how) = Some (call.NextItem port None)
call_to_performer outcome act = None

-- the time at which this call is due: immediately, or after the ticks of a wait
abbrev pub due_after : ℕ → Act → ℕ
due_after time (Wait ticks tag) = time + ticks
due_after time act = time

-- the event of this call to the performer, if there is a call
abbrev pub due_from : Option Call → Who → Option Phase → ℕ → Cause → List Event
due_from call performer phase time cause = option_map_or (λ call. event_in phase time cause (Object performer) (Some call)) call []

-- the calls to its performer that the entry of an action at a place of the log causes
abbrev pub calls_from : Outcome → Act → Who → Option Phase → ℕ → ℕ → List Event
calls_from outcome act performer phase time place = due_from (call_to_performer outcome act) performer phase (due_after time act) (caused_at place)

-- a call to an object in a phase
abbrev pub call_in : Option Phase → Who → Call → DueCall
call_in phase who call = record { who = who; call = call; phase = phase }

-- the call `write` to the component that owns an imp
abbrev pub written_to : Option Phase → List tree.Node → Item → ℕ → Option DueCall
written_to phase nodes item imp = option_map (λ under. call_in phase (who.Node under.0) (call.Written under.1 item)) (under_at nodes imp)

-- the call to a sequence for the step that it has reached
abbrev pub step_call : SeqStep → Call
step_call PreStart = call.PreStart
step_call Body = call.Body
step_call PostStart = call.PostStart

-- the call to a sequence for a step, if there is one
abbrev pub calls_of_step : Option Phase → Who → Option SeqStep → List DueCall
calls_of_step phase performer step = option_to_list (option_map (λ step. call_in phase performer (step_call step)) step)

-- the call `finished` to the object that started a sequence
abbrev pub calls_of_finish : ℕ → Option StartRecord → List DueCall
calls_of_finish id start_record = option_to_list (option_map (λ start_record. call_in start_record.phase start_record.starter (call.Finished start_record.start.name id)) start_record)

-- the call `Finished` to the starter of a sequence, if there is such a sequence
abbrev pub finished_by : List Entry → Option ℕ → List DueCall
finished_by before id = option_map_or (λ id. calls_of_finish id (numbered (starts_of before) id)) id []

-- the call to a driver with an item, or without one, in the phase in which it asked
abbrev pub calls_of_item : Option DriverPort → Option Item → List DueCall
calls_of_item requester item = option_to_list (option_map (λ requester. call_in requester.phase requester.who (call.NextItem requester.name item)) requester)

-- the calls when a granted sequence sends its item: to the driver, and to the sequence that the item is done if the driver asked by a `get`
abbrev pub calls_of_send : Option Phase → Who → Option DriverPort → Item → Option How → List DueCall
calls_of_send phase performer requester item None = []
calls_of_send phase performer requester item (Some ByGet) = calls_of_item requester (Some item) ++ call_in phase performer (call.ItemDone None) ∷ []
calls_of_send phase performer requester item (Some how) = calls_of_item requester (Some item)

-- the calls that an item causes when a sequence sends it, by how the driver asked
abbrev pub sent_by : List Entry → Who → ℕ → Option ℕ → Item → List DueCall
sent_by before performer node id item = calls_of_send (act_phase before) performer (driver_requester before node) item (option_and_then (λ id. grant_of id (driver_state before node)) id)

-- the call `item_done` to the sequence whose item it was, in the phase of the sequence
abbrev pub calls_of_done : (ℕ → Option Phase) → Option Item → ℕ → Option ℕ → List DueCall
calls_of_done phase response node id = option_to_list (option_map (λ id. call_in (phase id) (who.Sequence node id) (call.ItemDone response)) id)

-- the call `ItemDone` to the sequence whose item the driver of a sequencer holds, if there is one
abbrev pub done_by : List Entry → Option ℕ → Option Item → List DueCall
done_by before node response = option_map_or (λ node. calls_of_done (phase_begun before) response node (hand_of (driver_state before node))) node []

-- if a sequence that ends had the grant for a `try`, the call without an item to the driver
abbrev pub lapsed_by : List Entry → ℕ → Option ℕ → List DueCall
lapsed_by before node id = if is_try (option_and_then (λ id. grant_of id (driver_state before node)) id) then calls_of_item (driver_requester before node) None else []

-- the further calls that an action causes. A Write calls the owner of each imp that it reaches, in path order; a Start calls the new sequence.
-- The end of a step calls the sequence, or its starter if it has finished; a Send calls the driver, and an ItemDone the sequence of the item
abbrev pub calls_caused : List Entry → Who → Outcome → Act → List DueCall
calls_caused before performer Done (Write port item) = filter_map (written_to (act_phase before) (nodes_of before) item) (imps_below before performer port)
calls_caused before performer Done EndStep = calls_of_step (act_phase before) performer (next_step before performer)
calls_caused before performer Done (Send item) = sent_by before performer (node_of performer) (sequence_in performer) item
calls_caused before performer Done (ItemDone port response) = done_by before (sequencer_below before performer port) response
calls_caused before performer (Started id) act = call_in (act_phase before) (who.Sequence (start_by (nodes_of before) (sequences_of before) performer act).home id) call.PreStart ∷ []
calls_caused before performer Finished act = finished_by before (sequence_in performer) ++ lapsed_by before (node_of performer) (sequence_in performer)
calls_caused before performer outcome act = []

-- at the end of a phase, if the grant of a sequencer is withdrawn whose driver asked by a `try` in another phase: the call without an item
abbrev pub lapsed_at : Phase → List Entry → ℕ → List DueCall
lapsed_at phase before node =
    if loses_try (ends_ask phase (driver_requester before node)) (is_live (End phase ∷ before)) (driver_state before node) then calls_of_item (driver_requester before node) None else []

-- at the end of a phase, the calls of `lapsed_at` for all sequencers, in path order
abbrev pub lapsed_with : Phase → List Entry → List DueCall
lapsed_with phase before = flat_map (lapsed_at phase before) (path_order (nodes_of before))

-- the events of these calls, numbered in their order and due immediately; the newest first
abbrev pub calls_numbered : ℕ → ℕ → ℕ → List DueCall → List Event
calls_numbered time place number [] = []
calls_numbered time place number (told ∷ calls) =
    calls_numbered time place (suc number) calls ++ event_in told.phase time (record { place = place; number = number }) (Object told.who) (Some told.call)

-- the call that reports a completed transfer to its requester
abbrev pub call_of_passage : MoveKind → Passage → Call
call_of_passage move.Put passage = call.Stored passage.port
call_of_passage move.Take passage = call.Taken passage.port passage.item
call_of_passage move.Peek passage = call.Peeked passage.port passage.item

-- the event of the end of a drain, at its time, in the phase of its objection
abbrev pub drain_from : Phase → Cause → drain.Due → List Event
drain_from phase cause begun = event_in (Some phase) begun.at cause (Drain begun.node phase) None

-- the events after the objection of a phase has changed: without its drains that ended, and with the ends of those that began
abbrev pub with_drains : Phase → Cause → List Node → List Node → List Event → List Event
with_drains phase cause earlier nodes caused =
    flat_map (drain_from phase cause) (drains_begun earlier nodes) ++ filter (λ event. not (is_drain_of phase (drains_ended earlier nodes) event.owner)) caused

-- the events after an entry of a phase, if any, has changed the objection of this phase
abbrev pub with_drains_of : ScriptValue → Option Phase → Entry → List Entry → List Event → List Event
with_drains_of script phase entry before caused = option_map_or (λ phase. with_drains phase (caused_at (length before)) (objections_of script phase before) (objections_of script phase (entry ∷ before)) caused) phase caused

-- an action may change what is delayed by the drain time: only a raise or a drop may
abbrev pub moves_drains : Outcome → Act → Bool
moves_drains Done (RaiseObjection count) = true
moves_drains Done (DropObjection count) = true
moves_drains outcome act = false

-- these events, preceded by those that an entry causes, and without the drains that it ends; the place of an entry is the number of entries before it
abbrev pub with_events_from : ScriptValue → Entry → List Entry → List Event → List Event
with_events_from script (Did performer outcome act) before caused =
    calls_numbered (now_of before) (length before) 0 (calls_caused before performer outcome act)
    ++ (calls_from outcome act performer (act_phase before) (now_of before) (length before)
    ++ (if moves_drains outcome act then with_drains_of script (act_phase before) (Did performer outcome act) before caused else caused))
with_events_from script (Passed fifo passage) before caused = due_from (Some (call_of_passage passage.kind passage)) passage.who (Some passage.phase) (now_of before) (caused_at (length before)) ++ caused
with_events_from script (Locked node id) before caused = due_from (Some call.Held) (who.Sequence node id) (phase_begun before id) (now_of before) (caused_at (length before)) ++ caused
with_events_from script (Granted node grant) before caused = due_from (Some call.Grant) (who.Sequence node grant.id) (phase_begun before grant.id) (now_of before) (caused_at (length before)) ++ caused
with_events_from script (End phase) before caused = calls_numbered (now_of before) (length before) 0 (lapsed_with phase before) ++ caused
with_events_from script (Drained node origin) before caused = with_drains_of script (Some origin.phase) (Drained node origin) before caused
with_events_from script entry before caused = caused

-- the events that an entry causes
abbrev pub events_from : ScriptValue → Entry → List Entry → List Event
events_from script entry before = with_events_from script entry before []

-- all events that were caused, except the drains that have ended
abbrev pub scheduled_events : ScriptValue → List Entry → List Event
scheduled_events script [] = []
scheduled_events script (entry ∷ before) = with_events_from script entry before (scheduled_events script before)

-- the cause of the call that an entry answers, if the call has an origin
abbrev pub heard_in : Entry → List Cause
heard_in (Heard hearer (Some origin) call acts) = origin.cause ∷ []
heard_in entry = []

-- the causes of the calls that were received
abbrev pub delivered_causes : List Entry → List Cause
delivered_causes history = flat_map heard_in history

-- the target of an event is one of these sequences
abbrev pub is_of_one : List Who → EventTarget → Bool
is_of_one whos (Object (who.Sequence home id)) = list_any (same_who (who.Sequence home id)) whos
is_of_one whos owner = false

-- an event is open: its call was not received, its phase has not ended, and its target is not a finished sequence
abbrev pub is_open : List Cause → List Phase → List Who → Event → Bool
is_open heard ended finished event = not (list_any (same_cause event.cause) heard) && not (list_any (same_phase event.phase) ended) && not (is_of_one finished event.owner)

-- the events that are due: those that were caused and are open
abbrev pub due_events : ScriptValue → List Entry → List Event
due_events script history = filter (is_open (delivered_causes history) (ended_of history) (finished_of history)) (scheduled_events script history)

-- the first of the events that are due: by time, then by the place of the entry that caused it, then by its number among the events of that entry
abbrev pub first_due : ScriptValue → List Entry → Option Event
first_due script history = slice_get (in_order (due_events script history)) 0

-- an event, if it is due at the current time
abbrev pub due_at : ℕ → Option Event → Option Event
due_at now due = option_and_then (λ event. if event.time == now then Some event else None) due

-- the first event, if it is due at the current time
unfoldable pub due_now : ScriptValue → List Entry → Option Event
due_now script history = due_at (now_of history) (first_due script history)
