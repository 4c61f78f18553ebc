-- Who is called again after a wait.
use Rattle.bench_history.proofs.Common.{◌≡◌, ◌+◌, ℕ, suc, Bool, true, false, not, List, [], ◌∷◌, ◌++◌, length, Option, Some, None, refl, ap, if◌then◌else◌, option_map, option_and_then, ScriptValue, cons_option, All-nil, All-cons, All-append, All-filter, All-weaker, All-push, All-head, All-tail, Phase, Cause, drains_begun, drains_ended, SeqStep, PreStart, Body, PostStart, How, grant_of, hand_of, is_try, loses_try, numbered, MoveKind, Item, under_at, node_of, Who, Call, Act, Ask, EndStep, Get, TryPut, TryTake, ItemDone, Send, Wait, Write, Passage, Outcome, Done, Started, Value, Stored, Taken, Waits, Finished, Entry, Did, Drained, Granted, Locked, Passed, End, DriverPort, DueCall, EventTarget, Object, Drain, Event, is_drain_of, who_of, act_phase, nodes_of, now_of, objections_of, imps_below, StartRecord, starts_of, next_step, phase_begun, sequence_in, is_live, driver_requester, driver_state, sequencer_below, ends_ask, calls_from, calls_numbered, calls_caused, caused_at, scheduled_events, done_by, drain_from, due_from, event_in, finished_by, moves_drains, calls_of_done, calls_of_finish, call_in, calls_of_item, call_of_passage, calls_of_send, calls_of_step, with_drains_of, written_to, lapsed_with, lapsed_at, IsWakeTime, path_order, All, flat_map, filter_map}
use Rattle.uvm_objection.specs.declared.objections.Due as drain
use Rattle.uvm_sequencer.specs.declared.drivers.How.TheVariants as how
use Rattle.uvm_tlm.specs.declared.fifos.MoveKind.TheVariants as move
use Rattle.uvm_tree.specs.Nodes as tree
use Rattle.uvm_acts.specs.declared.acts.Who.TheVariants as who
use Rattle.uvm_acts.specs.declared.acts.Call.TheVariants as call

-- a call is one after a wait
abbrev is_wake : Call → Bool
is_wake (call.Wake tag) = true
is_wake other = false

abbrev wakes_by : Option Call → Bool
wakes_by None = false
wakes_by (Some call) = is_wake call

-- one that is due is due to who waited, at its time
abbrev pub IsWoken : List Entry → Event → Type 0
IsWoken history event = (hearer : Who) (tag : ℕ) → who_of event.owner ≡ hearer → event.notice ≡ Some (call.Wake tag) → IsWakeTime history hearer tag event.cause event.time

abbrev IsPlainEvent : Event → Type 0
IsPlainEvent event = wakes_by event.notice ≡ false

plain-woken : (history : List Entry) (event : Event) → IsPlainEvent event → IsWoken history event
plain-woken history event plain hearer tag owner notice = let wakes : wakes_by event.notice ≡ true = ap wakes_by notice in cc

all-plain : (history : List Entry) (events : List Event) → All IsPlainEvent events → All (IsWoken history) events
all-plain history events all = All-weaker IsPlainEvent (IsWoken history) (plain-woken history) events all

all-later : (new : Entry) (history : List Entry) (events : List Event) → All (IsWoken history) events → All (IsWoken (new ∷ history)) events
all-later new history events all = All-weaker (IsWoken history) (IsWoken (new ∷ history)) later events all
  where
    later : (event : Event) → IsWoken history event → IsWoken (new ∷ history) event
    later event was hearer tag owner notice =
        let w = was hearer tag owner notice in
        record { ticks = w.ticks; before = w.before; at = record { later = new ∷ w.at.later; splits = ap (λ log. new ∷ log) w.at.splits; place = w.at.place }; time_is = w.time_is }

event-plain : (phase : Option Phase) (time : ℕ) (cause : Cause) (owner : EventTarget) (notice : Option Call) → wakes_by notice ≡ false → All IsPlainEvent (event_in phase time cause owner notice)
event-plain None time cause owner notice plain = All-nil IsPlainEvent
event-plain (Some phase) time cause owner notice plain = All-cons IsPlainEvent _ [] plain (All-nil IsPlainEvent)

due-plain : (notice : Option Call) (performer : Who) (phase : Option Phase) (time : ℕ) (cause : Cause) → wakes_by notice ≡ false → All IsPlainEvent (due_from notice performer phase time cause)
due-plain None performer phase time cause plain = All-nil IsPlainEvent
due-plain (Some call) performer phase time cause plain = event-plain phase time cause (Object performer) (Some call) plain

-- nothing that an act tells others is such a call
abbrev IsPlainCall : DueCall → Type 0
IsPlainCall told = is_wake told.call ≡ false

numbered-plain : (time place number : ℕ) (calls : List DueCall) → All IsPlainCall calls → All IsPlainEvent (calls_numbered time place number calls)
numbered-plain time place number [] all = All-nil IsPlainEvent
numbered-plain time place number (told ∷ calls) all =
    All-append IsPlainEvent (calls_numbered time place (suc number) calls) _ (numbered-plain time place (suc number) calls (All-tail IsPlainCall told calls all))
    (event-plain told.phase time (record { place = place; number = number }) (Object told.who) (Some told.call) (All-head IsPlainCall told calls all))

one-call : (phase : Option Phase) (who : Who) (call : Call) → is_wake call ≡ false → All IsPlainCall (call_in phase who call ∷ [])
one-call phase who call plain = All-cons IsPlainCall (call_in phase who call) [] plain (All-nil IsPlainCall)

written-plain : (phase : Option Phase) (nodes : List tree.Node) (item : Item) (imps : List ℕ) → All IsPlainCall (filter_map (written_to phase nodes item) imps)
written-plain phase nodes item [] = All-nil IsPlainCall
written-plain phase nodes item (imp ∷ imps) = by (under_at nodes imp) (written-plain phase nodes item imps)
  where
    by : (under : Option (ℕ × List ℕ)) → All IsPlainCall (filter_map (written_to phase nodes item) imps) → All IsPlainCall (cons_option (option_map {U = DueCall} (λ (under : ℕ × List ℕ). call_in phase (who.Node under.0) (call.Written under.1 item)) under) (filter_map (written_to phase nodes item) imps))
    by None rest = rest
    by (Some under) rest = All-cons IsPlainCall _ _ refl rest

step-plain : (phase : Option Phase) (performer : Who) (step : Option SeqStep) → All IsPlainCall (calls_of_step phase performer step)
step-plain phase performer None = All-nil IsPlainCall
step-plain phase performer (Some PreStart) = one-call phase performer _ refl
step-plain phase performer (Some Body) = one-call phase performer _ refl
step-plain phase performer (Some PostStart) = one-call phase performer _ refl

item-plain : (requester : Option DriverPort) (item : Option Item) → All IsPlainCall (calls_of_item requester item)
item-plain None item = All-nil IsPlainCall
item-plain (Some requester) item = one-call requester.phase requester.who _ refl

sent-plain : (phase : Option Phase) (performer : Who) (requester : Option DriverPort) (item : Item) (way : Option How) → All IsPlainCall (calls_of_send phase performer requester item way)
sent-plain phase performer requester item None = All-nil IsPlainCall
sent-plain phase performer requester item (Some how.Get) = All-push IsPlainCall (calls_of_item requester (Some item)) (call_in phase performer (call.ItemDone None)) (item-plain requester (Some item)) refl
sent-plain phase performer requester item (Some how.Next) = item-plain requester (Some item)
sent-plain phase performer requester item (Some how.Try) = item-plain requester (Some item)

done-plain : (before : List Entry) (reached : Option ℕ) (response : Option Item) → All IsPlainCall (done_by before reached response)
done-plain before None response = All-nil IsPlainCall
done-plain before (Some node) response = by (hand_of (driver_state before node))
  where
    by : (hand : Option ℕ) → All IsPlainCall (calls_of_done (phase_begun before) response node hand)
    by None = All-nil IsPlainCall
    by (Some id) = one-call (phase_begun before id) (who.Sequence node id) _ refl

finished-plain : (before : List Entry) (id : Option ℕ) → All IsPlainCall (finished_by before id)
finished-plain before None = All-nil IsPlainCall
finished-plain before (Some id) = by (numbered (starts_of before) id)
  where
    by : (start_record : Option StartRecord) → All IsPlainCall (calls_of_finish id start_record)
    by None = All-nil IsPlainCall
    by (Some start_record) = one-call start_record.phase start_record.starter _ refl

lapsed-plain : (lapses : Bool) (requester : Option DriverPort) → All IsPlainCall (if lapses then calls_of_item requester None else [])
lapsed-plain true requester = item-plain requester None
lapsed-plain false requester = All-nil IsPlainCall

each-lapsed : (phase : Phase) (before : List Entry) (nodes : List ℕ) → All IsPlainCall (flat_map (lapsed_at phase before) nodes)
each-lapsed phase before [] = All-nil IsPlainCall
each-lapsed phase before (node ∷ nodes) =
    All-append IsPlainCall (lapsed_at phase before node) (flat_map (lapsed_at phase before) nodes)
    (lapsed-plain (loses_try (ends_ask phase (driver_requester before node)) (is_live (End phase ∷ before)) (driver_state before node)) (driver_requester before node)) (each-lapsed phase before nodes)

told-plain : (before : List Entry) (performer : Who) (outcome : Outcome) (act : Act) → All IsPlainCall (calls_caused before performer outcome act)
told-plain before performer Done (Write port item) = written-plain (act_phase before) (nodes_of before) item (imps_below before performer port)
told-plain before performer Done EndStep = step-plain (act_phase before) performer (next_step before performer)
told-plain before performer Done (Send item) = sent-plain (act_phase before) performer (driver_requester before (node_of performer)) item (option_and_then (λ id. grant_of id (driver_state before (node_of performer))) (sequence_in performer))
told-plain before performer Done (ItemDone port response) = done-plain before (sequencer_below before performer port) response
told-plain before performer (Started id) act = one-call (act_phase before) _ _ refl
told-plain before performer Finished act =
    All-append IsPlainCall (finished_by before (sequence_in performer)) _ (finished-plain before (sequence_in performer))
    (lapsed-plain (is_try (option_and_then (λ id. grant_of id (driver_state before (node_of performer))) (sequence_in performer))) (driver_requester before (node_of performer)))
told-plain before performer outcome act = All-nil IsPlainCall

-- and what it tells its performer is one if it is a wait
from-woken : (before : List Entry) (performer : Who) (outcome : Outcome) (act : Act) → All (IsWoken (Did performer outcome act ∷ before)) (calls_from outcome act performer (act_phase before) (now_of before) (length before))
from-woken before performer Done (Wait ticks tag) = by (act_phase before)
  where
    by : (phase : Option Phase) → All (IsWoken (Did performer Done (Wait ticks tag) ∷ before)) (calls_from Done (Wait ticks tag) performer phase (now_of before) (length before))
    by None = All-nil _
    by (Some phase) = All-cons (IsWoken (Did performer Done (Wait ticks tag) ∷ before)) _ [] one (All-nil _)
      where
        one : (hearer : Who) (other : ℕ) → performer ≡ hearer → Some (call.Wake tag) ≡ Some (call.Wake other) → IsWakeTime (Did performer Done (Wait ticks tag) ∷ before) hearer other (caused_at (length before)) (now_of before + ticks)
        one hearer other owner notice =
            let tagged : tag ≡ other = cc in
            record { ticks = ticks; before = before; at = record { later = []; splits = rw (owner, tagged) refl; place = refl }; time_is = refl }
from-woken before performer (Value value) (Get field) = all-plain _ _ (due-plain (Some (call.Config field value)) performer (act_phase before) (now_of before) (caused_at (length before)) refl)
from-woken before performer (Stored stored) (TryPut port item) = all-plain _ _ (due-plain (Some (call.TryStored port stored)) performer (act_phase before) (now_of before) (caused_at (length before)) refl)
from-woken before performer (Taken item) (TryTake port) = all-plain _ _ (due-plain (Some (call.TryTaken port item)) performer (act_phase before) (now_of before) (caused_at (length before)) refl)
from-woken before performer (Waits false) (Ask port way) = all-plain _ _ (due-plain (Some (call.NextItem port None)) performer (act_phase before) (now_of before) (caused_at (length before)) refl)
from-woken before performer (Waits true) act = All-nil _
from-woken before performer (Waits false) act = All-nil _
from-woken before performer outcome act = All-nil _

drains-plain : (phase : Phase) (cause : Cause) (begun : List drain.Due) → All IsPlainEvent (flat_map (drain_from phase cause) begun)
drains-plain phase cause [] = All-nil IsPlainEvent
drains-plain phase cause (first ∷ begun) = All-append IsPlainEvent (drain_from phase cause first) (flat_map (drain_from phase cause) begun) (event-plain (Some phase) first.at cause (Drain first.node phase) None refl) (drains-plain phase cause begun)

with-woken : (script : ScriptValue) (phase : Option Phase) (entry : Entry) (before : List Entry) → All (IsWoken before) (scheduled_events script before) → All (IsWoken (entry ∷ before)) (with_drains_of script phase entry before (scheduled_events script before))
with-woken script None entry before all = all-later entry before (scheduled_events script before) all
with-woken script (Some phase) entry before all =
    let earlier = objections_of script phase before in
    let nodes = objections_of script phase (entry ∷ before) in
    All-append (IsWoken (entry ∷ before)) (flat_map (drain_from phase (caused_at (length before))) (drains_begun earlier nodes)) _
    (all-plain (entry ∷ before) _ (drains-plain phase (caused_at (length before)) (drains_begun earlier nodes)))
    (All-filter (λ (event : Event). not (is_drain_of phase (drains_ended earlier nodes) event.owner)) (IsWoken (entry ∷ before)) (scheduled_events script before) (all-later entry before (scheduled_events script before) all))

moved-woken : (script : ScriptValue) (phase : Option Phase) (entry : Entry) (before : List Entry) (moves : Bool) → All (IsWoken before) (scheduled_events script before) → All (IsWoken (entry ∷ before)) (if moves then with_drains_of script phase entry before (scheduled_events script before) else scheduled_events script before)
moved-woken script phase entry before true all = with-woken script phase entry before all
moved-woken script phase entry before false all = all-later entry before (scheduled_events script before) all

passed-plain : (kind : MoveKind) (passage : Passage) → is_wake (call_of_passage kind passage) ≡ false
passed-plain move.Put passage = refl
passed-plain move.Take passage = refl
passed-plain move.Peek passage = refl

one-woken : (script : ScriptValue) (entry : Entry) (before : List Entry) (phase : Option Phase) (told : Call) (hearer : Who) → is_wake told ≡ false → All (IsWoken before) (scheduled_events script before) → All (IsWoken (entry ∷ before)) (due_from (Some told) hearer phase (now_of before) (caused_at (length before)) ++ scheduled_events script before)
one-woken script entry before phase told hearer plain all =
    All-append (IsWoken (entry ∷ before)) (due_from (Some told) hearer phase (now_of before) (caused_at (length before))) (scheduled_events script before)
    (all-plain (entry ∷ before) _ (due-plain (Some told) hearer phase (now_of before) (caused_at (length before)) plain)) (all-later entry before (scheduled_events script before) all)

woken-more : (script : ScriptValue) (entry : Entry) (before : List Entry) → All (IsWoken before) (scheduled_events script before) → All (IsWoken (entry ∷ before)) (scheduled_events script (entry ∷ before))
woken-more script (Did performer outcome act) before all =
    let entry = Did performer outcome act in
    All-append (IsWoken (entry ∷ before)) (calls_numbered (now_of before) (length before) 0 (calls_caused before performer outcome act)) _
    (all-plain (entry ∷ before) _ (numbered-plain (now_of before) (length before) 0 (calls_caused before performer outcome act) (told-plain before performer outcome act)))
    (All-append (IsWoken (entry ∷ before)) (calls_from outcome act performer (act_phase before) (now_of before) (length before)) _ (from-woken before performer outcome act) (moved-woken script (act_phase before) entry before (moves_drains outcome act) all))
woken-more script (Passed fifo passage) before all = one-woken script (Passed fifo passage) before (Some passage.phase) (call_of_passage passage.kind passage) passage.who (passed-plain passage.kind passage) all
woken-more script (Locked node id) before all = one-woken script (Locked node id) before (phase_begun before id) call.Held (who.Sequence node id) refl all
woken-more script (Granted node grant) before all = one-woken script (Granted node grant) before (phase_begun before grant.id) call.Grant (who.Sequence node grant.id) refl all
woken-more script (End phase) before all =
    All-append (IsWoken (End phase ∷ before)) (calls_numbered (now_of before) (length before) 0 (lapsed_with phase before)) (scheduled_events script before)
    (all-plain (End phase ∷ before) _ (numbered-plain (now_of before) (length before) 0 (lapsed_with phase before) (each-lapsed phase before (path_order (nodes_of before))))) (all-later (End phase) before (scheduled_events script before) all)
woken-more script (Drained node origin) before all = with-woken script (Some origin.phase) (Drained node origin) before all
woken-more script entry before all = all-later entry before (scheduled_events script before) all

pub woken-of : (script : ScriptValue) (history : List Entry) → All (IsWoken history) (scheduled_events script history)
woken-of script [] = All-nil _
woken-of script (entry ∷ before) = woken-more script entry before (woken-of script before)
