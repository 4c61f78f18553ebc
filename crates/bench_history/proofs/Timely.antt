-- What is due happens at its time.
use Rattle.bench_history.proofs.Common.{◌++◌, ◌≡◌, ◌≤◌, ◌<◌, ◌+◌, ◌-◌, ℕ, suc, nat_lt, Bool, true, false, not, ◌&&◌, ◌||◌, ◌==◌, List, [], ◌∷◌, length, filter, find, map, Option, Some, None, refl, sym, ap, subst, ◌∙◌, arith, if◌then◌else◌, option_map_or, nat_tests, All-nil, All-cons, All-head, All-tail, All-append, All-filter, All-weaker, Phase, Cause, in_order, insert_due, is_due_before, changed_at, held_of, drain_of, due_of, raised, dropped, begins, drains_begun, drains_ended, held_after, settled, total, BegunDrainsAreHeld, IsHeldUntilDue, PlacesStay, SettledGoByTotals, node_of, Who, Call, Act, Wait, RaiseObjection, DropObjection, Outcome, Done, Waits, Origin, Entry, Heard, Did, Locked, Granted, Passed, Drained, End, ScriptValue, DueCall, EventTarget, Object, Drain, Event, is_drain_of, who_of, act_phase, ended_of, now_of, finished_of, phase_begun, objections_of, call_to_performer, call_of_passage, calls_caused, calls_numbered, due_after, due_from, due_events, calls_from, moves_drains, caused_at, scheduled_events, drain_from, event_in, with_drains, with_drains_of, first_due, delivered_causes, is_open, lapsed_with, EachIsNext, IsLegal, IsWakeTime, IsAtCause, IsDrainTime, call_time, IsPassing, All, flat_map, released, AreNodes, NodesGrow}
use Rattle.std.specs.List.{slice_get}
use Rattle.uvm_objection.specs.declared.objections.Due as drain
use Rattle.uvm_objection.specs.Nodes as objection
use Rattle.uvm_objection.specs.Totals as totals
use Rattle.uvm_acts.specs.declared.acts.Call.TheVariants as call
use Rattle.uvm_acts.specs.declared.acts.Who.TheVariants as who
use Rattle.bench_history.proofs.Expected.{both-hold}
use Rattle.bench_history.proofs.Inversion.{comes}
use Rattle.bench_history.proofs.Olders.{older-each}
use Rattle.bench_history.proofs.Living.{same-itself}
use Rattle.bench_history.proofs.Quiet.{objections-are}
use Rattle.bench_history.proofs.Waking.{IsWoken, woken-of}

-- at this time the call of a cause is due
pub record IsCallTime (history : List Entry) (cause : Cause) (time : ℕ) : Type 0 where
  pub entry : Entry
  pub before : List Entry
  pub at : IsAtCause history cause entry before
  pub time_is : time ≡ call_time entry (now_of before)

-- an event is due at the time that its cause gave it
abbrev IsTimedBy : ScriptValue → List Entry → Phase → Cause → ℕ → EventTarget → Option Call → Type 0
IsTimedBy script history phase cause time owner (Some call) = IsCallTime history cause time
IsTimedBy script history phase cause time (Drain node of) None = IsDrainTime script history phase node cause time
IsTimedBy script history phase cause time (Object who) None = ⊥

abbrev IsTimed : ScriptValue → List Entry → Event → Type 0
IsTimed script history event = IsTimedBy script history event.phase event.cause event.time event.owner event.notice

-- and so it stays
at-later : (new : Entry) (history : List Entry) (cause : Cause) (entry : Entry) (before : List Entry) → IsAtCause history cause entry before → IsAtCause (new ∷ history) cause entry before
at-later new history cause entry before at = record { later = new ∷ at.later; splits = ap (λ log. new ∷ log) at.splits; place = at.place }

timed-later : (script : ScriptValue) (new : Entry) (history : List Entry) (phase : Phase) (cause : Cause) (time : ℕ) (owner : EventTarget) (notice : Option Call) → IsTimedBy script history phase cause time owner notice → IsTimedBy script (new ∷ history) phase cause time owner notice
timed-later script new history phase cause time owner (Some call) t = record { entry = t.entry; before = t.before; at = at-later new history cause t.entry t.before t.at; time_is = t.time_is }
timed-later script new history phase cause time (Drain node of) None t = record { entry = t.entry; before = t.before; at = at-later new history cause t.entry t.before t.at; none_held = t.none_held; holds = t.holds; time_is = t.time_is }
timed-later script new history phase cause time (Object who) None t = absurd t

all-later : (script : ScriptValue) (new : Entry) (history : List Entry) (events : List Event) → All (IsTimed script history) events → All (IsTimed script (new ∷ history)) events
all-later script new history events all = All-weaker (IsTimed script history) (IsTimed script (new ∷ history)) (λ event. timed-later script new history event.phase event.cause event.time event.owner event.notice) events all

-- what the newest entry causes
at-newest : (entry : Entry) (before : List Entry) (number : ℕ) → IsAtCause (entry ∷ before) (record { place = length before; number = number }) entry before
at-newest entry before number = record { later = []; splits = refl; place = refl }

call-newest : (entry : Entry) (before : List Entry) (number time : ℕ) → time ≡ call_time entry (now_of before) → IsCallTime (entry ∷ before) (record { place = length before; number = number }) time
call-newest entry before number time is = record { entry = entry; before = before; at = at-newest entry before number; time_is = is }

event-timed : (script : ScriptValue) (history : List Entry) (phase : Option Phase) (time : ℕ) (cause : Cause) (owner : EventTarget) (notice : Option Call) → ((one : Phase) → IsTimedBy script history one cause time owner notice) → All (IsTimed script history) (event_in phase time cause owner notice)
event-timed script history None time cause owner notice t = All-nil (IsTimed script history)
event-timed script history (Some phase) time cause owner notice t = All-cons (IsTimed script history) _ [] (t phase) (All-nil (IsTimed script history))

due-timed : (script : ScriptValue) (history : List Entry) (notice : Option Call) (performer : Who) (phase : Option Phase) (time : ℕ) (cause : Cause) → ((call : Call) → notice ≡ Some call → IsCallTime history cause time) → All (IsTimed script history) (due_from notice performer phase time cause)
due-timed script history None performer phase time cause t = All-nil (IsTimed script history)
due-timed script history (Some call) performer phase time cause t = event-timed script history phase time cause (Object performer) (Some call) (λ one. t call refl)

numbered-timed :
    (script : ScriptValue) (entry : Entry) (before : List Entry) (number : ℕ) (calls : List DueCall) → now_of before ≡ call_time entry (now_of before)
    → All (IsTimed script (entry ∷ before)) (calls_numbered (now_of before) (length before) number calls)
numbered-timed script entry before number [] is = All-nil _
numbered-timed script entry before number (told ∷ calls) is =
    All-append (IsTimed script (entry ∷ before)) (calls_numbered (now_of before) (length before) (suc number) calls) _ (numbered-timed script entry before (suc number) calls is)
    (event-timed script (entry ∷ before) told.phase (now_of before) (record { place = length before; number = number }) (Object told.who) (Some told.call) (λ one. call-newest entry before number (now_of before) is))

told-timed : (script : ScriptValue) (before : List Entry) (performer : Who) (outcome : Outcome) (act : Act) → All (IsTimed script (Did performer outcome act ∷ before)) (calls_numbered (now_of before) (length before) 0 (calls_caused before performer outcome act))
told-timed script before performer Done (Wait ticks tag) = All-nil _
told-timed script before performer outcome act = numbered-timed script (Did performer outcome act) before 0 (calls_caused before performer outcome act) refl

due-time : (performer : Who) (outcome : Outcome) (act : Act) (now : ℕ) (call : Call) → call_to_performer outcome act ≡ Some call → due_after now act ≡ call_time (Did performer outcome act) now
due-time performer Done (Wait ticks tag) now call e = refl
due-time performer (Waits true) (Wait ticks tag) now call e = cc
due-time performer (Waits false) (Wait ticks tag) now call e = cc
due-time performer outcome (Wait ticks tag) now call e = cc
due-time performer outcome act now call e = refl

from-timed : (script : ScriptValue) (before : List Entry) (performer : Who) (outcome : Outcome) (act : Act) → All (IsTimed script (Did performer outcome act ∷ before)) (calls_from outcome act performer (act_phase before) (now_of before) (length before))
from-timed script before performer outcome act =
    due-timed script (Did performer outcome act ∷ before) (call_to_performer outcome act) performer (act_phase before) (due_after (now_of before) act) (caused_at (length before))
    (λ call e. call-newest (Did performer outcome act) before 0 (due_after (now_of before) act) (due-time performer outcome act (now_of before) call e))

-- a drain that begins is due once its drain time is over
begins-due : (time before after drain due held : ℕ) → held ≡ 0 → 0 < held_after before after drain held → totals.due_after time before after drain due ≡ time + drain
begins-due time before after drain due held none holds = by (nat_lt 0 after) (begins before after drain) holds
  where
    by : (stands begun : Bool) → 0 < (if stands then 0 else (if begun then before else held)) → (if stands then 0 else (if begun then time + drain else due)) ≡ time + drain
    by true begun holds = absurd (omega (arith, holds))
    by false true holds = refl
    by false false holds = absurd (omega (arith, none, holds))

-- a change of one node keeps what it does not change, and what was nothing
module _ (f : objection.Node → ℕ) (node at : ℕ) (change : objection.Node → objection.Node) (stays : (e : objection.Node) → (change e).node ≡ e.node) where
  abbrev found_of : List objection.Node → ℕ
  found_of nodes = option_map_or f (find (λ e. e.node == node) nodes) 0

  found-same : ((e : objection.Node) → f (change e) ≡ f e) → (nodes : List objection.Node) → found_of (changed_at at change nodes) ≡ found_of nodes
  found-same same [] = refl
  found-same same (e ∷ nodes) = tested (at == e.node) (e.node == node) refl (found-same same nodes)
    where
      tested : (here found : Bool) → (e.node == node) ≡ found → found_of (changed_at at change nodes) ≡ found_of nodes → found_of ((if here then change e else e) ∷ changed_at at change nodes) ≡ found_of (e ∷ nodes)
      tested true true is rest = let at : ((change e).node == node) ≡ true = rw (stays e) is in rw (at, is) (same e)
      tested true false is rest = let at : ((change e).node == node) ≡ false = rw (stays e) is in rw (at, is) rest
      tested false true is rest = rw is refl
      tested false false is rest = rw is rest

  found-none : ((e : objection.Node) → f e ≡ 0 → f (change e) ≡ 0) → (nodes : List objection.Node) → found_of nodes ≡ 0 → found_of (changed_at at change nodes) ≡ 0
  found-none none [] nothing = refl
  found-none none (e ∷ nodes) nothing = tested (at == e.node) (e.node == node) refl nothing (found-none none nodes)
    where
      tested : (here found : Bool) → (e.node == node) ≡ found → option_map_or f (if found then Some e else find (λ e. e.node == node) nodes) 0 ≡ 0 → (found_of nodes ≡ 0 → found_of (changed_at at change nodes) ≡ 0)
          → found_of ((if here then change e else e) ∷ changed_at at change nodes) ≡ 0
      tested true true is nothing rest = let at : ((change e).node == node) ≡ true = rw (stays e) is in rw at (none e nothing)
      tested true false is nothing rest = let at : ((change e).node == node) ≡ false = rw (stays e) is in rw at (rest nothing)
      tested false true is nothing rest = rw is nothing
      tested false false is nothing rest = rw is (rest nothing)

-- what a change leaves of a node that holds nothing
pub record IsChanged (nodes changed : List objection.Node) : Type 0 where
  pub drains : (node : ℕ) → drain_of node changed ≡ drain_of node nodes
  pub none : (node : ℕ) → held_of node nodes ≡ 0 → held_of node changed ≡ 0

pub raised-is : (at count : ℕ) (nodes : List objection.Node) → IsChanged nodes (raised at count nodes)
raised-is at count nodes = record {
  drains = λ node. found-same (λ e. e.drain) node at (λ e. record e { source = e.source + count }) (λ e. refl) (λ e. refl) nodes;
  none = λ node. found-none (λ e. e.held) node at (λ e. record e { source = e.source + count }) (λ e. refl) (λ e nothing. nothing) nodes;
}

pub dropped-is : (at count : ℕ) (nodes : List objection.Node) → IsChanged nodes (dropped at count nodes)
dropped-is at count nodes = record {
  drains = λ node. found-same (λ e. e.drain) node at (λ e. record e { source = e.source - count }) (λ e. refl) (λ e. refl) nodes;
  none = λ node. found-none (λ e. e.held) node at (λ e. record e { source = e.source - count }) (λ e. refl) (λ e nothing. nothing) nodes;
}

pub released-is : (at : ℕ) (nodes : List objection.Node) → IsChanged nodes (released at nodes)
released-is at nodes = record {
  drains = λ node. found-same (λ e. e.drain) node at (λ e. record e { held = 0; due = 0 }) (λ e. refl) (λ e. refl) nodes;
  none = λ node. found-none (λ e. e.held) node at (λ e. record e { held = 0; due = 0 }) (λ e. refl) (λ e nothing. refl) nodes;
}

module _ (goes : SettledGoByTotals) (held_are : BegunDrainsAreHeld) where
  -- each drain that began held nothing before
  begun-none : (earlier : List objection.Node) (nodes : List objection.Node) → All (λ (begun : drain.Due). held_of begun.node earlier ≡ 0) (drains_begun earlier nodes)
  begun-none earlier [] = All-nil _
  begun-none earlier (e ∷ nodes) = tested (held_of e.node earlier == 0) (nat_lt 0 e.held) refl (begun-none earlier nodes)
    where
      tested :
          (none holds : Bool) → (held_of e.node earlier == 0) ≡ none → All (λ (begun : drain.Due). held_of begun.node earlier ≡ 0) (drains_begun earlier nodes)
          → All (λ (begun : drain.Due). held_of begun.node earlier ≡ 0) (map (λ (e : objection.Node). record { node = e.node; at = e.due }) (if none && holds then e ∷ filter (λ (e : objection.Node). (held_of e.node earlier == 0) && nat_lt 0 e.held) nodes else filter (λ (e : objection.Node). (held_of e.node earlier == 0) && nat_lt 0 e.held) nodes))
      tested true true is rest = All-cons (λ (begun : drain.Due). held_of begun.node earlier ≡ 0) _ _ (grind (arith, nat_tests, is)) rest
      tested true false is rest = rest
      tested false holds is rest = rest

  abbrev IsBegun : ScriptValue → Phase → Entry → List Entry → drain.Due → Type 0
  IsBegun script phase entry before begun = IsDrainTime script (entry ∷ before) phase begun.node (caused_at (length before)) begun.at

  begun-at :
      (script : ScriptValue) (phase : Phase) (entry : Entry) (before : List Entry) (changed : List objection.Node) → IsChanged (objections_of script phase before) changed → objections_of script phase (entry ∷ before) ≡ settled (now_of before) (total (objections_of script phase before)) changed
      → (begun : drain.Due) → IsHeldUntilDue (objections_of script phase (entry ∷ before)) begun → held_of begun.node (objections_of script phase before) ≡ 0 → begun.at ≡ now_of before + drain_of begun.node (objections_of script phase before)
  begun-at script phase entry before changed by is begun h none =
      let g = goes (now_of before) (total (objections_of script phase before)) changed begun.node in
      let held_is = rw is at h.held in
      let due_is = rw is at h.due in
      let holds = rw g.held at held_is in
      let due = begins-due (now_of before) (total (objections_of script phase before) begun.node) (total (settled (now_of before) (total (objections_of script phase before)) changed) begun.node) (drain_of begun.node changed) (due_of begun.node changed) (held_of begun.node changed) (by.none begun.node none) holds in
      sym due_is ∙ g.due ∙ due ∙ ap (λ (n : ℕ). now_of before + n) (by.drains begun.node)

  begun-each :
      (script : ScriptValue) (phase : Phase) (entry : Entry) (before : List Entry) (P : drain.Due → Type 0) → ((begun : drain.Due) → IsHeldUntilDue (objections_of script phase (entry ∷ before)) begun → held_of begun.node (objections_of script phase before) ≡ 0 → P begun)
      → AreNodes (objections_of script phase (entry ∷ before)) → All P (drains_begun (objections_of script phase before) (objections_of script phase (entry ∷ before)))
  begun-each script phase entry before P one are =
      both-hold (IsHeldUntilDue (objections_of script phase (entry ∷ before))) (λ (begun : drain.Due). held_of begun.node (objections_of script phase before) ≡ 0) P (drains_begun (objections_of script phase before) (objections_of script phase (entry ∷ before)))
      one (held_are (objections_of script phase before) (objections_of script phase (entry ∷ before)) are) (begun-none (objections_of script phase before) (objections_of script phase (entry ∷ before)))

  begun-timed :
      (script : ScriptValue) (phase : Phase) (entry : Entry) (before : List Entry) (changed : List objection.Node) → IsChanged (objections_of script phase before) changed → objections_of script phase (entry ∷ before) ≡ settled (now_of before) (total (objections_of script phase before)) changed
      → AreNodes (objections_of script phase (entry ∷ before)) → All (IsBegun script phase entry before) (drains_begun (objections_of script phase before) (objections_of script phase (entry ∷ before)))
  begun-timed script phase entry before changed by is are =
      begun-each script phase entry before (IsBegun script phase entry before)
      (λ begun h none. record { entry = entry; before = before; at = at-newest entry before 0; none_held = none; holds = h.held; time_is = begun-at script phase entry before changed by is begun h none }) are

  -- so it is due no earlier than now
  pub begun-ahead :
      (script : ScriptValue) (phase : Phase) (entry : Entry) (before : List Entry) (changed : List objection.Node) → IsChanged (objections_of script phase before) changed → objections_of script phase (entry ∷ before) ≡ settled (now_of before) (total (objections_of script phase before)) changed
      → AreNodes (objections_of script phase (entry ∷ before)) → All (λ (begun : drain.Due). now_of before ≤ begun.at) (drains_begun (objections_of script phase before) (objections_of script phase (entry ∷ before)))
  begun-ahead script phase entry before changed by is are =
      begun-each script phase entry before (λ (begun : drain.Due). now_of before ≤ begun.at) (λ begun h none. let at = begun-at script phase entry before changed by is begun h none in omega (arith, at)) are

  abbrev IsDrainedBy : ScriptValue → Phase → List Entry → Cause → drain.Due → Type 0
  IsDrainedBy script phase history cause begun = IsDrainTime script history phase begun.node cause begun.at

  drains-timed : (script : ScriptValue) (history : List Entry) (phase : Phase) (cause : Cause) (begun : List drain.Due) → All (IsDrainedBy script phase history cause) begun → All (IsTimed script history) (flat_map (drain_from phase cause) begun)
  drains-timed script history phase cause [] all = All-nil _
  drains-timed script history phase cause (first ∷ begun) all =
      All-append (IsTimed script history) (drain_from phase cause first) (flat_map (drain_from phase cause) begun) (All-cons (IsTimed script history) _ [] (All-head (IsDrainedBy script phase history cause) first begun all) (All-nil (IsTimed script history)))
      (drains-timed script history phase cause begun (All-tail (IsDrainedBy script phase history cause) first begun all))

  with-timed :
      (script : ScriptValue) (phase : Phase) (entry : Entry) (before : List Entry) (changed : List objection.Node) → IsChanged (objections_of script phase before) changed → objections_of script phase (entry ∷ before) ≡ settled (now_of before) (total (objections_of script phase before)) changed → AreNodes (objections_of script phase (entry ∷ before))
      → All (IsTimed script before) (scheduled_events script before) → All (IsTimed script (entry ∷ before)) (with_drains phase (caused_at (length before)) (objections_of script phase before) (objections_of script phase (entry ∷ before)) (scheduled_events script before))
  with-timed script phase entry before changed by is are all =
      let earlier = objections_of script phase before in
      let after = objections_of script phase (entry ∷ before) in
      All-append (IsTimed script (entry ∷ before)) (flat_map (drain_from phase (caused_at (length before))) (drains_begun earlier after)) _
      (drains-timed script (entry ∷ before) phase (caused_at (length before)) (drains_begun earlier after) (begun-timed script phase entry before changed by is are))
      (All-filter (λ (event : Event). not (is_drain_of phase (drains_ended earlier after) event.owner)) (IsTimed script (entry ∷ before)) (scheduled_events script before) (all-later script entry before (scheduled_events script before) all))

  moved-timed :
      (script : ScriptValue) (before : List Entry) (performer : Who) (outcome : Outcome) (act : Act) → ((phase : Phase) → AreNodes (objections_of script phase (Did performer outcome act ∷ before))) → All (IsTimed script before) (scheduled_events script before)
      → All (IsTimed script (Did performer outcome act ∷ before)) (if moves_drains outcome act then with_drains_of script (act_phase before) (Did performer outcome act) before (scheduled_events script before) else scheduled_events script before)
  moved-timed script before performer Done (RaiseObjection count) are all = by (act_phase before) refl
    where
      entry : Entry
      entry = Did performer Done (RaiseObjection count)

      by : (phase : Option Phase) → act_phase before ≡ phase → All (IsTimed script (entry ∷ before)) (with_drains_of script phase entry before (scheduled_events script before))
      by None is = all-later script entry before (scheduled_events script before) all
      by (Some phase) is = with-timed script phase entry before (raised (node_of performer) count (objections_of script phase before)) (raised-is (node_of performer) count (objections_of script phase before)) (rw (is, same-itself phase) refl) (are phase) all
  moved-timed script before performer Done (DropObjection count) are all = by (act_phase before) refl
    where
      entry : Entry
      entry = Did performer Done (DropObjection count)

      by : (phase : Option Phase) → act_phase before ≡ phase → All (IsTimed script (entry ∷ before)) (with_drains_of script phase entry before (scheduled_events script before))
      by None is = all-later script entry before (scheduled_events script before) all
      by (Some phase) is = with-timed script phase entry before (dropped (node_of performer) count (objections_of script phase before)) (dropped-is (node_of performer) count (objections_of script phase before)) (rw (is, same-itself phase) refl) (are phase) all
  moved-timed script before performer outcome act are all = all-later script (Did performer outcome act) before (scheduled_events script before) all

  -- each entry keeps it so
  timed-more : (script : ScriptValue) (entry : Entry) (before : List Entry) → ((phase : Phase) → AreNodes (objections_of script phase (entry ∷ before))) → All (IsTimed script before) (scheduled_events script before) → All (IsTimed script (entry ∷ before)) (scheduled_events script (entry ∷ before))
  timed-more script (Did performer outcome act) before are all =
      All-append (IsTimed script (Did performer outcome act ∷ before)) (calls_numbered (now_of before) (length before) 0 (calls_caused before performer outcome act)) _ (told-timed script before performer outcome act)
      (All-append (IsTimed script (Did performer outcome act ∷ before)) (calls_from outcome act performer (act_phase before) (now_of before) (length before)) _ (from-timed script before performer outcome act) (moved-timed script before performer outcome act are all))
  timed-more script (Passed fifo passage) before are all =
      All-append (IsTimed script (Passed fifo passage ∷ before)) (due_from (Some (call_of_passage passage.kind passage)) passage.who (Some passage.phase) (now_of before) (caused_at (length before))) (scheduled_events script before)
      (due-timed script (Passed fifo passage ∷ before) (Some (call_of_passage passage.kind passage)) passage.who (Some passage.phase) (now_of before) (caused_at (length before)) (λ call e. call-newest (Passed fifo passage) before 0 (now_of before) refl)) (all-later script (Passed fifo passage) before (scheduled_events script before) all)
  timed-more script (Locked node id) before are all =
      All-append (IsTimed script (Locked node id ∷ before)) (due_from (Some call.Held) (who.Sequence node id) (phase_begun before id) (now_of before) (caused_at (length before))) (scheduled_events script before)
      (due-timed script (Locked node id ∷ before) (Some call.Held) (who.Sequence node id) (phase_begun before id) (now_of before) (caused_at (length before)) (λ call e. call-newest (Locked node id) before 0 (now_of before) refl)) (all-later script (Locked node id) before (scheduled_events script before) all)
  timed-more script (Granted node grant) before are all =
      All-append (IsTimed script (Granted node grant ∷ before)) (due_from (Some call.Grant) (who.Sequence node grant.id) (phase_begun before grant.id) (now_of before) (caused_at (length before))) (scheduled_events script before)
      (due-timed script (Granted node grant ∷ before) (Some call.Grant) (who.Sequence node grant.id) (phase_begun before grant.id) (now_of before) (caused_at (length before)) (λ call e. call-newest (Granted node grant) before 0 (now_of before) refl)) (all-later script (Granted node grant) before (scheduled_events script before) all)
  timed-more script (End phase) before are all =
      All-append (IsTimed script (End phase ∷ before)) (calls_numbered (now_of before) (length before) 0 (lapsed_with phase before)) (scheduled_events script before)
      (numbered-timed script (End phase) before 0 (lapsed_with phase before) refl) (all-later script (End phase) before (scheduled_events script before) all)
  timed-more script (Drained node origin) before are all = with-timed script origin.phase (Drained node origin) before (released node (objections_of script origin.phase before)) (released-is node (objections_of script origin.phase before)) (rw (same-itself origin.phase) refl) (are origin.phase) all
  timed-more script entry before are all = all-later script entry before (scheduled_events script before) all

  timed-of : PlacesStay → NodesGrow → (script : ScriptValue) (history : List Entry) → EachIsNext script history → All (IsTimed script history) (scheduled_events script history)
  timed-of stay grow script [] each = All-nil _
  timed-of stay grow script (entry ∷ before) each = timed-more script entry before (λ phase. (objections-are stay grow phase script (entry ∷ before) each).are_nodes) (timed-of stay grow script before each.1)

-- the first that is due is due no later than any
before-or-at : (a b : ℕ) (less same : Bool) (rest : Bool) → nat_lt a b ≡ less → (a == b) ≡ same → (less || (same && rest)) ≡ true → a ≤ b
before-or-at a b true same rest is at e = grind (arith, nat_tests, is)
before-or-at a b false true rest is at e = grind (arith, nat_tests, at)
before-or-at a b false false rest is at e = cc

not-less : (a b : ℕ) (less rest : Bool) → nat_lt a b ≡ less → (less || rest) ≡ false → b ≤ a
not-less a b true rest is e = cc
not-less a b false rest is e = grind (arith, nat_tests, is)

is-no-later : (a b : Event) → is_due_before a b ≡ true → a.time ≤ b.time
unfolding is_due_before
is-no-later a b e = before-or-at a.time b.time _ _ _ refl refl e

is-no-earlier : (a b : Event) → is_due_before a b ≡ false → b.time ≤ a.time
unfolding is_due_before
is-no-earlier a b e = not-less a.time b.time _ _ refl e

abbrev IsFrom : Event → Event → Type 0
IsFrom first event = first.time ≤ event.time

abbrev IsLeast : List Event → List Event → Type 0
IsLeast [] events = events ≡ []
IsLeast (first ∷ others) events = All (IsFrom first) events

least-more : (event : Event) (sorted events : List Event) → IsLeast sorted events → IsLeast (insert_due event sorted) (event ∷ events)
least-more event [] events none = rw none (All-cons (IsFrom event) event [] (omega arith) (All-nil (IsFrom event)))
least-more event (first ∷ others) events least = tested (is_due_before event first) refl
  where
    tested : (b : Bool) → is_due_before event first ≡ b → IsLeast (if b then event ∷ first ∷ others else first ∷ insert_due event others) (event ∷ events)
    tested true is =
        let low = is-no-later event first is in
        All-cons (IsFrom event) event events (omega arith) (All-weaker (IsFrom first) (IsFrom event) (λ other from. omega (arith, low, from)) events least)
    tested false is = All-cons (IsFrom first) event events (is-no-earlier event first is) least

least-of : (events : List Event) → IsLeast (in_order events) events
least-of [] = refl
least-of (event ∷ events) = least-more event (in_order events) events (least-of events)

first-least : (sorted events : List Event) (first : Event) → IsLeast sorted events → slice_get sorted 0 ≡ Some first → All (IsFrom first) events
first-least [] events first least is = cc
first-least (event ∷ others) events first least is = let same : event ≡ first = cc in subst (λ (one : Event). All (IsFrom one) events) same least

pub passes-over : (script : ScriptValue) (before : List Entry) (time : ℕ) → IsPassing script before time → All (λ event. time ≤ event.time) (due_events script before)
passes-over script before time p = subst (λ (n : ℕ). All (λ (event : Event). n ≤ event.time) (due_events script before)) p.time_is (first-least (in_order (due_events script before)) (due_events script before) p.event (least-of (due_events script before)) p.first)

-- what happens is one of those that were caused
module _ (P : Event → Type 0) where
  insert-all : (event : Event) (sorted : List Event) → P event → All P sorted → All P (insert_due event sorted)
  insert-all event [] holds all = All-cons P event [] holds (All-nil P)
  insert-all event (other ∷ others) holds all = tested (is_due_before event other) (insert-all event others holds (All-tail P other others all))
    where
      tested : (b : Bool) → All P (insert_due event others) → All P (if b then event ∷ other ∷ others else other ∷ insert_due event others)
      tested true rest = All-cons P event (other ∷ others) holds all
      tested false rest = All-cons P other (insert_due event others) (All-head P other others all) rest

  pub order-all : (events : List Event) → All P events → All P (in_order events)
  order-all [] all = All-nil P
  order-all (event ∷ events) all = insert-all event (in_order events) (All-head P event events all) (order-all events (All-tail P event events all))

  pub first-of-all : (sorted : List Event) (first : Event) → All P sorted → slice_get sorted 0 ≡ Some first → P first
  first-of-all [] first all is = cc
  first-of-all (event ∷ others) first all is = let same : event ≡ first = cc in subst P same (All-head P event others all)

  pub first-caused : (script : ScriptValue) (history : List Entry) (first : Event) → All P (scheduled_events script history) → first_due script history ≡ Some first → P first
  first-caused script history first all is = first-of-all (in_order (due_events script history)) first (order-all (due_events script history) (All-filter (is_open (delivered_causes history) (ended_of history) (finished_of history)) P (scheduled_events script history) all)) is

call-timed : (script : ScriptValue) (history : List Entry) (cause : Cause) (call : Call) (time : ℕ) (event : Event) → IsTimed script history event → event.notice ≡ Some call → event.cause ≡ cause → event.time ≡ time → IsCallTime history cause time
call-timed script history cause call time event t notice at now = rw (← at, ← now) (subst (IsTimedBy script history event.phase event.cause event.time event.owner) notice t)

drain-timed : (script : ScriptValue) (history : List Entry) (node : ℕ) (cause : Cause) (time : ℕ) (event : Event) (owner : EventTarget) → IsTimed script history event → event.owner ≡ owner → event.notice ≡ None → event.cause ≡ cause → event.time ≡ time → node_of (who_of owner) ≡ node → IsDrainTime script history event.phase node cause time
drain-timed script history node cause time event owner t owner_is notice at now stands = by owner (subst (λ (o : EventTarget). IsTimedBy script history event.phase event.cause event.time o None) owner_is (subst (IsTimedBy script history event.phase event.cause event.time event.owner) notice t)) stands
  where
    by : (one : EventTarget) → IsTimedBy script history event.phase event.cause event.time one None → node_of (who_of one) ≡ node → IsDrainTime script history event.phase node cause time
    by (Object who) t stands = absurd t
    by (Drain other of) t stands = rw (← at, ← now, ← stands) t

-- each call with a cause is heard at its time
pub call-times :
    SettledGoByTotals → BegunDrainsAreHeld → PlacesStay → NodesGrow → (script : ScriptValue) (later before : List Entry) (hearer : Who) (call : Call) (origin : Origin) (acts : List Act) → IsLegal script (later ++ Heard hearer (Some origin) call acts ∷ before)
    → IsCallTime before origin.cause (now_of before)
call-times goes held_are stay grow script later before hearer call origin acts legal =
    let each = older-each script later (Heard hearer (Some origin) call acts ∷ before) legal.each in
    let due = comes script before (Heard hearer (Some origin) call acts) each.0 in
    call-timed script before origin.cause call (now_of before) due.event (first-caused (IsTimed script before) script before due.event (timed-of goes held_are stay grow script before each.1) due.first) due.notice_is (ap (λ (one : Origin). one.cause) due.origin_is) due.time

pub wakes_on_time : (script : ScriptValue) (later before : List Entry) (hearer : Who) (tag : ℕ) (origin : Origin) (acts : List Act) → IsLegal script (later ++ Heard hearer (Some origin) (call.Wake tag) acts ∷ before) → IsWakeTime before hearer tag origin.cause (now_of before)
wakes_on_time script later before hearer tag origin acts legal =
    let each = older-each script later (Heard hearer (Some origin) (call.Wake tag) acts ∷ before) legal.each in
    let due = comes script before (Heard hearer (Some origin) (call.Wake tag) acts) each.0 in
    let cause_is : due.event.cause ≡ origin.cause = ap (λ (one : Origin). one.cause) due.origin_is in
    rw (← cause_is, ← due.time) (first-caused (IsWoken before) script before due.event (woken-of script before) due.first hearer tag due.hearer_is due.notice_is)

-- and each drain ends at its time
pub drains_on_time :
    SettledGoByTotals → BegunDrainsAreHeld → PlacesStay → NodesGrow → (script : ScriptValue) (later before : List Entry) (node : ℕ) (origin : Origin) → IsLegal script (later ++ Drained node origin ∷ before)
    → IsDrainTime script before origin.phase node origin.cause (now_of before)
drains_on_time goes held_are stay grow script later before node origin legal =
    let each = older-each script later (Drained node origin ∷ before) legal.each in
    let d = comes script before (Drained node origin) each.0 in
    let due = d.due in
    let cause_is : due.event.cause ≡ origin.cause = ap (λ (one : Origin). one.cause) due.origin_is in
    let phase_is : due.event.phase ≡ origin.phase = ap (λ (one : Origin). one.phase) due.origin_is in
    rw (← phase_is) (drain-timed script before node origin.cause (now_of before) due.event due.event.owner (first-caused (IsTimed script before) script before due.event (timed-of goes held_are stay grow script before each.1) due.first) refl due.notice_is cause_is due.time (ap node_of due.hearer_is ∙ d.stands))
