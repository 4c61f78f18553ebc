-- Time never goes back.
use Rattle.bench_history.proofs.Common.{◌≡◌, ◌≤◌, ℕ, suc, Bool, true, false, not, ◌&&◌, ◌||◌, List, [], ◌∷◌, ◌++◌, length, filter, Option, Some, None, refl, sym, ap, subst, ◌∙◌, arith, if◌then◌else◌, list_any, All-nil, All-cons, All-head, All-tail, All-append, All-filter, All-weaker, list_any-append, Phase, Cause, in_order, same_cause, same_phase, raised, dropped, drains_begun, drains_ended, settled, total, BegunDrainsAreHeld, PlacesStay, SettledGoByTotals, node_of, same_who, Who, Call, Act, Wait, RaiseObjection, DropObjection, Outcome, Done, Entry, Time, Did, Drained, Granted, Locked, Passed, End, ScriptValue, DueCall, EventTarget, Object, Drain, Event, is_drain_of, act_phase, ended_in, ended_of, now_of, finished_in, finished_of, phase_begun, objections_of, calls_from, calls_numbered, calls_caused, caused_at, scheduled_events, drain_from, due_after, due_events, due_from, event_in, heard_in, delivered_causes, is_of_one, is_open, moves_drains, call_to_performer, call_of_passage, with_drains, with_drains_of, lapsed_with, IsNext, EachIsNext, OnTime, All, flat_map, released, AreNodes, NodesGrow}
use Rattle.uvm_objection.specs.declared.objections.Due as drain
use Rattle.uvm_objection.specs.Nodes as objection
use Rattle.uvm_acts.specs.declared.acts.Who.TheVariants as who
use Rattle.uvm_acts.specs.declared.acts.Call.TheVariants as call
use Rattle.bench_history.proofs.Caused.{calls_on_time}
use Rattle.bench_history.proofs.Olders.{older-each}
use Rattle.bench_history.proofs.Living.{same-itself}
use Rattle.bench_history.proofs.Quiet.{objections-are}
use Rattle.bench_history.proofs.Inversion.{comes}
use Rattle.bench_history.proofs.Timely.{IsChanged, begun-ahead, drains_on_time, dropped-is, first-of-all, order-all, passes-over, raised-is, released-is, wakes_on_time}

-- what was open after an entry was open before it
abbrev open_at : List Entry → Event → Bool
open_at history event = is_open (delivered_causes history) (ended_of history) (finished_of history) event

none-more : {X : Type 0} (p : X → Bool) (xs ys : List X) → not (list_any p (xs ++ ys)) ≡ true → not (list_any p ys) ≡ true
none-more p xs ys e = by (list_any p xs) (list_any p ys) (ap not (sym (list_any-append p xs ys)) ∙ e)
  where
    by : (a b : Bool) → not (a || b) ≡ true → not b ≡ true
    by true b e = cc
    by false b e = e

none-of : (more finished : List Who) (owner : EventTarget) → not (is_of_one (more ++ finished) owner) ≡ true → not (is_of_one finished owner) ≡ true
none-of more finished (Object (who.Sequence home id)) e = none-more (same_who (who.Sequence home id)) more finished e
none-of more finished (Object (who.Node node)) e = refl
none-of more finished (Drain node phase) e = refl

all-three : (a b c d e f : Bool) → (a ≡ true → d ≡ true) → (b ≡ true → e ≡ true) → (c ≡ true → f ≡ true) → (a && b && c) ≡ true → (d && e && f) ≡ true
all-three true true true d e f one two three is = let x = one refl in let y = two refl in let z = three refl in rw (x, y, z) refl
all-three true true false d e f one two three is = cc
all-three true false c d e f one two three is = cc
all-three false b c d e f one two three is = cc

was-open : (entry : Entry) (before : List Entry) (event : Event) → open_at (entry ∷ before) event ≡ true → open_at before event ≡ true
was-open entry before event is =
    all-three (not (list_any (same_cause event.cause) (delivered_causes (entry ∷ before)))) (not (list_any (same_phase event.phase) (ended_of (entry ∷ before)))) (not (is_of_one (finished_of (entry ∷ before)) event.owner)) _ _ _
    (none-more (same_cause event.cause) (heard_in entry) (delivered_causes before)) (none-more (same_phase event.phase) (ended_in entry) (ended_of before)) (none-of (finished_in entry) (finished_of before) event.owner) is

-- whatever is due is due now or later
abbrev IsAhead : ℕ → Event → Type 0
IsAhead now event = now ≤ event.time

abbrev IsOpenAhead : List Entry → Event → Type 0
IsOpenAhead history event = open_at history event ≡ true → now_of history ≤ event.time

new-ahead : (history : List Entry) (events : List Event) → All (IsAhead (now_of history)) events → All (IsOpenAhead history) events
new-ahead history events all = All-weaker (IsAhead (now_of history)) (IsOpenAhead history) (λ event ahead is. ahead) events all

old-ahead : (entry : Entry) (before : List Entry) (events : List Event) → now_of (entry ∷ before) ≡ now_of before → All (IsOpenAhead before) events → All (IsOpenAhead (entry ∷ before)) events
old-ahead entry before events same all = All-weaker (IsOpenAhead before) (IsOpenAhead (entry ∷ before)) (λ event ahead is. rw same (ahead (was-open entry before event is))) events all

event-ahead : (now : ℕ) (phase : Option Phase) (time : ℕ) (cause : Cause) (owner : EventTarget) (notice : Option Call) → now ≤ time → All (IsAhead now) (event_in phase time cause owner notice)
event-ahead now None time cause owner notice low = All-nil (IsAhead now)
event-ahead now (Some phase) time cause owner notice low = All-cons (IsAhead now) _ [] low (All-nil (IsAhead now))

due-ahead : (now : ℕ) (notice : Option Call) (performer : Who) (phase : Option Phase) (time : ℕ) (cause : Cause) → now ≤ time → All (IsAhead now) (due_from notice performer phase time cause)
due-ahead now None performer phase time cause low = All-nil (IsAhead now)
due-ahead now (Some call) performer phase time cause low = event-ahead now phase time cause (Object performer) (Some call) low

numbered-ahead : (now : ℕ) (place number : ℕ) (calls : List DueCall) → All (IsAhead now) (calls_numbered now place number calls)
numbered-ahead now place number [] = All-nil (IsAhead now)
numbered-ahead now place number (told ∷ calls) =
    All-append (IsAhead now) (calls_numbered now place (suc number) calls) _ (numbered-ahead now place (suc number) calls) (event-ahead now told.phase now (record { place = place; number = number }) (Object told.who) (Some told.call) (omega arith))

later-than : (now : ℕ) (act : Act) → now ≤ due_after now act
later-than now (Wait ticks tag) = omega arith
later-than now act = omega arith

drains-ahead : (history : List Entry) (now : ℕ) (phase : Phase) (cause : Cause) (begun : List drain.Due) → All (λ (one : drain.Due). now ≤ one.at) begun → All (IsAhead now) (flat_map (drain_from phase cause) begun)
drains-ahead history now phase cause [] all = All-nil (IsAhead now)
drains-ahead history now phase cause (first ∷ begun) all =
    All-append (IsAhead now) (drain_from phase cause first) (flat_map (drain_from phase cause) begun) (event-ahead now (Some phase) first.at cause (Drain first.node phase) None (All-head (λ (one : drain.Due). now ≤ one.at) first begun all))
    (drains-ahead history now phase cause begun (All-tail (λ (one : drain.Due). now ≤ one.at) first begun all))

one-ahead : (script : ScriptValue) (entry : Entry) (before : List Entry) (phase : Option Phase) (told : Call) (hearer : Who) → now_of (entry ∷ before) ≡ now_of before → All (IsOpenAhead before) (scheduled_events script before)
    → All (IsOpenAhead (entry ∷ before)) (due_from (Some told) hearer phase (now_of before) (caused_at (length before)) ++ scheduled_events script before)
one-ahead script entry before phase told hearer same all =
    All-append (IsOpenAhead (entry ∷ before)) (due_from (Some told) hearer phase (now_of before) (caused_at (length before))) (scheduled_events script before)
    (new-ahead (entry ∷ before) _ (rw same (due-ahead (now_of before) (Some told) hearer phase (now_of before) (caused_at (length before)) (omega arith)))) (old-ahead entry before (scheduled_events script before) same all)

unfiltered : (P : Event → Type 0) (p : Event → Bool) (events : List Event) → All P (filter p events) → All (λ event. p event ≡ true → P event) events
unfiltered P p [] all = All-nil _
unfiltered P p (event ∷ events) all = tested (p event) refl all (unfiltered P p events)
  where
    tested : (b : Bool) → p event ≡ b → All P (if b then event ∷ filter p events else filter p events) → (All P (filter p events) → All (λ event. p event ≡ true → P event) events) → All (λ event. p event ≡ true → P event) (event ∷ events)
    tested true is all more = All-cons (λ event. p event ≡ true → P event) event events (λ passes. All-head P event (filter p events) all) (more (All-tail P event (filter p events) all))
    tested false is all more = All-cons (λ event. p event ≡ true → P event) event events (λ passes. cc) (more all)

module _ (goes : SettledGoByTotals) (held_are : BegunDrainsAreHeld) where
  with-ahead :
      (script : ScriptValue) (phase : Phase) (entry : Entry) (before : List Entry) (changed : List objection.Node) → now_of (entry ∷ before) ≡ now_of before → IsChanged (objections_of script phase before) changed → objections_of script phase (entry ∷ before) ≡ settled (now_of before) (total (objections_of script phase before)) changed
      → AreNodes (objections_of script phase (entry ∷ before)) → All (IsOpenAhead before) (scheduled_events script before)
      → All (IsOpenAhead (entry ∷ before)) (with_drains phase (caused_at (length before)) (objections_of script phase before) (objections_of script phase (entry ∷ before)) (scheduled_events script before))
  with-ahead script phase entry before changed same by is are all =
      let earlier = objections_of script phase before in
      let after = objections_of script phase (entry ∷ before) in
      All-append (IsOpenAhead (entry ∷ before)) (flat_map (drain_from phase (caused_at (length before))) (drains_begun earlier after)) _
      (new-ahead (entry ∷ before) _ (rw same (drains-ahead before (now_of before) phase (caused_at (length before)) (drains_begun earlier after) (begun-ahead goes held_are script phase entry before changed by is are))))
      (All-filter (λ (event : Event). not (is_drain_of phase (drains_ended earlier after) event.owner)) (IsOpenAhead (entry ∷ before)) (scheduled_events script before) (old-ahead entry before (scheduled_events script before) same all))

  moved-ahead :
      (script : ScriptValue) (before : List Entry) (performer : Who) (outcome : Outcome) (act : Act) → ((phase : Phase) → AreNodes (objections_of script phase (Did performer outcome act ∷ before))) → All (IsOpenAhead before) (scheduled_events script before)
      → All (IsOpenAhead (Did performer outcome act ∷ before)) (if moves_drains outcome act then with_drains_of script (act_phase before) (Did performer outcome act) before (scheduled_events script before) else scheduled_events script before)
  moved-ahead script before performer Done (RaiseObjection count) are all = by (act_phase before) refl
    where
      entry : Entry
      entry = Did performer Done (RaiseObjection count)

      by : (phase : Option Phase) → act_phase before ≡ phase → All (IsOpenAhead (entry ∷ before)) (with_drains_of script phase entry before (scheduled_events script before))
      by None is = old-ahead entry before (scheduled_events script before) refl all
      by (Some phase) is = with-ahead script phase entry before (raised (node_of performer) count (objections_of script phase before)) refl (raised-is (node_of performer) count (objections_of script phase before)) (rw (is, same-itself phase) refl) (are phase) all
  moved-ahead script before performer Done (DropObjection count) are all = by (act_phase before) refl
    where
      entry : Entry
      entry = Did performer Done (DropObjection count)

      by : (phase : Option Phase) → act_phase before ≡ phase → All (IsOpenAhead (entry ∷ before)) (with_drains_of script phase entry before (scheduled_events script before))
      by None is = old-ahead entry before (scheduled_events script before) refl all
      by (Some phase) is = with-ahead script phase entry before (dropped (node_of performer) count (objections_of script phase before)) refl (dropped-is (node_of performer) count (objections_of script phase before)) (rw (is, same-itself phase) refl) (are phase) all
  moved-ahead script before performer outcome act are all = old-ahead (Did performer outcome act) before (scheduled_events script before) refl all

  ahead-more : (script : ScriptValue) (before : List Entry) (entry : Entry) → IsNext script before entry → ((phase : Phase) → AreNodes (objections_of script phase (entry ∷ before))) → All (IsOpenAhead before) (scheduled_events script before) → All (IsOpenAhead (entry ∷ before)) (scheduled_events script (entry ∷ before))
  ahead-more script before (Did performer outcome act) next are all =
      let entry = Did performer outcome act in
      All-append (IsOpenAhead (entry ∷ before)) (calls_numbered (now_of before) (length before) 0 (calls_caused before performer outcome act)) _
      (new-ahead (entry ∷ before) _ (numbered-ahead (now_of before) (length before) 0 (calls_caused before performer outcome act)))
      (All-append (IsOpenAhead (entry ∷ before)) (calls_from outcome act performer (act_phase before) (now_of before) (length before)) _
      (new-ahead (entry ∷ before) _ (due-ahead (now_of before) (call_to_performer outcome act) performer (act_phase before) (due_after (now_of before) act) (caused_at (length before)) (later-than (now_of before) act)))
      (moved-ahead script before performer outcome act are all))
  ahead-more script before (Passed fifo passage) next are all = one-ahead script (Passed fifo passage) before (Some passage.phase) (call_of_passage passage.kind passage) passage.who refl all
  ahead-more script before (Locked node id) next are all = one-ahead script (Locked node id) before (phase_begun before id) call.Held (who.Sequence node id) refl all
  ahead-more script before (Granted node grant) next are all = one-ahead script (Granted node grant) before (phase_begun before grant.id) call.Grant (who.Sequence node grant.id) refl all
  ahead-more script before (End phase) next are all =
      All-append (IsOpenAhead (End phase ∷ before)) (calls_numbered (now_of before) (length before) 0 (lapsed_with phase before)) (scheduled_events script before)
      (new-ahead (End phase ∷ before) _ (numbered-ahead (now_of before) (length before) 0 (lapsed_with phase before))) (old-ahead (End phase) before (scheduled_events script before) refl all)
  ahead-more script before (Drained node origin) next are all = with-ahead script origin.phase (Drained node origin) before (released node (objections_of script origin.phase before)) refl (released-is node (objections_of script origin.phase before)) (rw (same-itself origin.phase) refl) (are origin.phase) all
  ahead-more script before (Time time) next are all = unfiltered (λ event. time ≤ event.time) (open_at before) (scheduled_events script before) (passes-over script before time (comes script before (Time time) next))
  ahead-more script before entry next are all = old-ahead entry before (scheduled_events script before) refl all

  ahead-of : PlacesStay → NodesGrow → (script : ScriptValue) (history : List Entry) → EachIsNext script history → All (IsOpenAhead history) (scheduled_events script history)
  ahead-of stay grow script [] each = All-nil _
  ahead-of stay grow script (entry ∷ before) each = ahead-more script before entry each.0 (λ phase. (objections-are stay grow phase script (entry ∷ before) each).are_nodes) (ahead-of stay grow script before each.1)

  opened : (P : Event → Type 0) (p : Event → Bool) (events : List Event) → All (λ event. p event ≡ true → P event) events → All P (filter p events)
  opened P p [] all = All-nil P
  opened P p (event ∷ events) all = tested (p event) refl (opened P p events (All-tail (λ event. p event ≡ true → P event) event events all))
    where
      tested : (b : Bool) → p event ≡ b → All P (filter p events) → All P (if b then event ∷ filter p events else filter p events)
      tested true is rest = All-cons P event (filter p events) (All-head (λ event. p event ≡ true → P event) event events all is) rest
      tested false is rest = rest

  pub goes-forward : PlacesStay → NodesGrow → (script : ScriptValue) (before : List Entry) (time : ℕ) → EachIsNext script before → IsNext script before (Time time) → now_of before ≤ time
  goes-forward stay grow script before time each next =
      let p = comes script before (Time time) next in
      let due = opened (λ (event : Event). now_of before ≤ event.time) (open_at before) (scheduled_events script before) (ahead-of stay grow script before each) in
      let first = first-of-all (λ (event : Event). now_of before ≤ event.time) (in_order (due_events script before)) p.event (order-all (λ (event : Event). now_of before ≤ event.time) (due_events script before) due) p.first in
      subst (λ (n : ℕ). now_of before ≤ n) p.time_is first

  pub on_time : PlacesStay → NodesGrow → OnTime
  on_time stay grow = record {
    calls = calls_on_time goes held_are stay grow;
    wakes = wakes_on_time;
    drains = drains_on_time goes held_are stay grow;
    passes = λ script later before time legal. let each = older-each script later (Time time ∷ before) legal.each in passes-over script before time (comes script before (Time time) each.0);
    forward = λ script later before time legal. let each = older-each script later (Time time ∷ before) legal.each in goes-forward stay grow script before time each.1 each.0;
  }
