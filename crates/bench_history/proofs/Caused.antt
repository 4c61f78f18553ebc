-- What is due was caused: the entry at the place of its cause causes it.
use Rattle.bench_history.proofs.Common.{◌≡◌, ℕ, suc, Bool, true, false, not, List, [], ◌∷◌, ◌++◌, length, Option, Some, None, refl, sym, ap, subst, ◌∙◌, arith, if◌then◌else◌, All-nil, All-cons, All-head, All-tail, All-append, All-filter, All-weaker, All-contains, All-contains_itself, Phase, Cause, drains_begun, drains_ended, BegunDrainsAreHeld, PlacesStay, SettledGoByTotals, Who, Call, Act, Origin, Entry, Heard, Did, Locked, Granted, Passed, Drained, End, ScriptValue, DueCall, EventTarget, Object, Drain, Event, is_drain_of, act_phase, now_of, phase_begun, objections_of, calls_from, calls_numbered, calls_caused, caused_at, scheduled_events, drain_from, due_after, due_from, event_in, events_from, moves_drains, call_to_performer, call_of_passage, with_drains_of, with_events_from, lapsed_with, IsLegal, IsAtCause, IsCaused, call_time, length-append, All, Contains, flat_map, NodesGrow}
use Rattle.uvm_objection.specs.declared.objections.Due as drain
use Rattle.uvm_acts.specs.declared.acts.Who.TheVariants as who
use Rattle.uvm_acts.specs.declared.acts.Call.TheVariants as call
use Rattle.bench_history.proofs.Inversion.{comes}
use Rattle.bench_history.proofs.Olders.{older-each}
use Rattle.bench_history.proofs.Timely.{IsCallTime, call-times, first-caused}

-- what an entry adds, and what was there, are all that there is after it
module _ (P : Event → Type 0) where
  all-left : (xs ys : List Event) → All P (xs ++ ys) → All P xs
  all-left [] ys all = All-nil P
  all-left (x ∷ xs) ys all = All-cons P x xs (All-head P x (xs ++ ys) all) (all-left xs ys (All-tail P x (xs ++ ys) all))

  all-right : (xs ys : List Event) → All P (xs ++ ys) → All P ys
  all-right [] ys all = all
  all-right (x ∷ xs) ys all = all-right xs ys (All-tail P x (xs ++ ys) all)

  both-drains : (script : ScriptValue) (phase : Option Phase) (entry : Entry) (before : List Entry) (caused : List Event) → All P (with_drains_of script phase entry before []) → All P caused → All P (with_drains_of script phase entry before caused)
  both-drains script None entry before caused new old = old
  both-drains script (Some phase) entry before caused new old =
      let earlier = objections_of script phase before in
      let nodes = objections_of script phase (entry ∷ before) in
      let begun = flat_map (drain_from phase (caused_at (length before))) (drains_begun earlier nodes) in
      All-append P begun _ (all-left begun [] new) (All-filter (λ (event : Event). not (is_drain_of phase (drains_ended earlier nodes) event.owner)) P caused old)

  both-moved : (script : ScriptValue) (moves : Bool) (phase : Option Phase) (entry : Entry) (before : List Entry) (caused : List Event) → All P (if moves then with_drains_of script phase entry before [] else []) → All P caused → All P (if moves then with_drains_of script phase entry before caused else caused)
  both-moved script true phase entry before caused new old = both-drains script phase entry before caused new old
  both-moved script false phase entry before caused new old = old

  both-all : (script : ScriptValue) (entry : Entry) (before : List Entry) (caused : List Event) → All P (events_from script entry before) → All P caused → All P (with_events_from script entry before caused)
  both-all script (Did performer outcome act) before caused new old =
      let told = calls_numbered (now_of before) (length before) 0 (calls_caused before performer outcome act) in
      let from = calls_from outcome act performer (act_phase before) (now_of before) (length before) in
      let rest = all-right told _ new in
      All-append P told _ (all-left told _ new) (All-append P from _ (all-left from _ rest) (both-moved script (moves_drains outcome act) (act_phase before) (Did performer outcome act) before caused (all-right from _ rest) old))
  both-all script (Passed fifo passage) before caused new old =
      let told = due_from (Some (call_of_passage passage.kind passage)) passage.who (Some passage.phase) (now_of before) (caused_at (length before)) in
      All-append P told caused (all-left told [] new) old
  both-all script (Locked node id) before caused new old =
      let told = due_from (Some call.Held) (who.Sequence node id) (phase_begun before id) (now_of before) (caused_at (length before)) in
      All-append P told caused (all-left told [] new) old
  both-all script (Granted node grant) before caused new old =
      let told = due_from (Some call.Grant) (who.Sequence node grant.id) (phase_begun before grant.id) (now_of before) (caused_at (length before)) in
      All-append P told caused (all-left told [] new) old
  both-all script (End phase) before caused new old =
      let told = calls_numbered (now_of before) (length before) 0 (lapsed_with phase before) in
      All-append P told caused (all-left told [] new) old
  both-all script (Drained node origin) before caused new old = both-drains script (Some origin.phase) (Drained node origin) before caused new old
  both-all script entry before caused new old = old

-- what an entry causes has its place
abbrev IsPlaced : ℕ → Event → Type 0
IsPlaced place event = event.cause.place ≡ place

event-placed : (phase : Option Phase) (time place number : ℕ) (owner : EventTarget) (notice : Option Call) → All (IsPlaced place) (event_in phase time (record { place = place; number = number }) owner notice)
event-placed None time place number owner notice = All-nil (IsPlaced place)
event-placed (Some phase) time place number owner notice = All-cons (IsPlaced place) _ [] refl (All-nil (IsPlaced place))

due-placed : (notice : Option Call) (performer : Who) (phase : Option Phase) (time place : ℕ) → All (IsPlaced place) (due_from notice performer phase time (caused_at place))
due-placed None performer phase time place = All-nil (IsPlaced place)
due-placed (Some call) performer phase time place = event-placed phase time place 0 (Object performer) (Some call)

numbered-placed : (time place number : ℕ) (calls : List DueCall) → All (IsPlaced place) (calls_numbered time place number calls)
numbered-placed time place number [] = All-nil (IsPlaced place)
numbered-placed time place number (told ∷ calls) = All-append (IsPlaced place) (calls_numbered time place (suc number) calls) _ (numbered-placed time place (suc number) calls) (event-placed told.phase time place number (Object told.who) (Some told.call))

begun-placed : (phase : Phase) (place : ℕ) (begun : List drain.Due) → All (IsPlaced place) (flat_map (drain_from phase (caused_at place)) begun)
begun-placed phase place [] = All-nil (IsPlaced place)
begun-placed phase place (one ∷ begun) = All-append (IsPlaced place) (drain_from phase (caused_at place) one) _ (event-placed (Some phase) one.at place 0 (Drain one.node phase) None) (begun-placed phase place begun)

drains-placed : (script : ScriptValue) (phase : Option Phase) (entry : Entry) (before : List Entry) → All (IsPlaced (length before)) (with_drains_of script phase entry before [])
drains-placed script None entry before = All-nil (IsPlaced (length before))
drains-placed script (Some phase) entry before =
    let begun = flat_map (drain_from phase (caused_at (length before))) (drains_begun (objections_of script phase before) (objections_of script phase (entry ∷ before))) in
    All-append (IsPlaced (length before)) begun [] (begun-placed phase (length before) (drains_begun (objections_of script phase before) (objections_of script phase (entry ∷ before)))) (All-nil (IsPlaced (length before)))

moved-placed : (script : ScriptValue) (moves : Bool) (phase : Option Phase) (entry : Entry) (before : List Entry) → All (IsPlaced (length before)) (if moves then with_drains_of script phase entry before [] else [])
moved-placed script true phase entry before = drains-placed script phase entry before
moved-placed script false phase entry before = All-nil (IsPlaced (length before))

placed-all : (script : ScriptValue) (entry : Entry) (before : List Entry) → All (IsPlaced (length before)) (events_from script entry before)
placed-all script (Did performer outcome act) before =
    let P = IsPlaced (length before) in
    All-append P (calls_numbered (now_of before) (length before) 0 (calls_caused before performer outcome act)) _ (numbered-placed (now_of before) (length before) 0 (calls_caused before performer outcome act))
    (All-append P (calls_from outcome act performer (act_phase before) (now_of before) (length before)) _ (due-placed (call_to_performer outcome act) performer (act_phase before) (due_after (now_of before) act) (length before))
    (moved-placed script (moves_drains outcome act) (act_phase before) (Did performer outcome act) before))
placed-all script (Passed fifo passage) before = All-append (IsPlaced (length before)) (due_from (Some (call_of_passage passage.kind passage)) passage.who (Some passage.phase) (now_of before) (caused_at (length before))) [] (due-placed (Some (call_of_passage passage.kind passage)) passage.who (Some passage.phase) (now_of before) (length before)) (All-nil (IsPlaced (length before)))
placed-all script (Locked node id) before = All-append (IsPlaced (length before)) _ [] (due-placed (Some call.Held) (who.Sequence node id) (phase_begun before id) (now_of before) (length before)) (All-nil (IsPlaced (length before)))
placed-all script (Granted node grant) before = All-append (IsPlaced (length before)) _ [] (due-placed (Some call.Grant) (who.Sequence node grant.id) (phase_begun before grant.id) (now_of before) (length before)) (All-nil (IsPlaced (length before)))
placed-all script (End phase) before = All-append (IsPlaced (length before)) (calls_numbered (now_of before) (length before) 0 (lapsed_with phase before)) [] (numbered-placed (now_of before) (length before) 0 (lapsed_with phase before)) (All-nil (IsPlaced (length before)))
placed-all script (Drained node origin) before = drains-placed script (Some origin.phase) (Drained node origin) before
placed-all script entry before = All-nil (IsPlaced (length before))

-- the entry at the place of its cause causes an event
record HasCause (script : ScriptValue) (history : List Entry) (event : Event) : Type 0 where
  entry : Entry
  before : List Entry
  at : IsAtCause history event.cause entry before
  among : Contains (events_from script entry before) event

cause-later : (script : ScriptValue) (new : Entry) (history : List Entry) (event : Event) → HasCause script history event → HasCause script (new ∷ history) event
cause-later script new history event h = record { entry = h.entry; before = h.before; at = record { later = new ∷ h.at.later; splits = ap (λ log. new ∷ log) h.at.splits; place = h.at.place }; among = h.among }

cause-newest : (script : ScriptValue) (entry : Entry) (before : List Entry) (event : Event) → Contains (events_from script entry before) event → HasCause script (entry ∷ before) event
cause-newest script entry before event among =
    let placed = All-contains (IsPlaced (length before)) (events_from script entry before) event (placed-all script entry before) among in
    record { entry = entry; before = before; at = record { later = []; splits = refl; place = sym placed }; among = among }

causes-of : (script : ScriptValue) (history : List Entry) → All (HasCause script history) (scheduled_events script history)
causes-of script [] = All-nil (HasCause script [])
causes-of script (entry ∷ before) =
    both-all (HasCause script (entry ∷ before)) script entry before (scheduled_events script before)
    (All-weaker (Contains (events_from script entry before)) (HasCause script (entry ∷ before)) (cause-newest script entry before) (events_from script entry before) (All-contains_itself (events_from script entry before)))
    (All-weaker (HasCause script before) (HasCause script (entry ∷ before)) (cause-later script entry before) (scheduled_events script before) (causes-of script before))

-- one entry stands at a place
same-place : (later other : List Entry) (one two : Entry) (before past : List Entry) → later ++ one ∷ before ≡ other ++ two ∷ past → length before ≡ length past → one ∷ before ≡ two ∷ past
same-place [] [] one two before past is long = is
same-place [] (x ∷ other) one two before past is long =
    let rest : before ≡ other ++ two ∷ past = cc in
    let more = ap (λ (log : List Entry). length log) rest ∙ length-append other (two ∷ past) in
    absurd (omega (arith, more, long))
same-place (x ∷ later) [] one two before past is long =
    let rest : later ++ one ∷ before ≡ past = cc in
    let more = sym (ap (λ (log : List Entry). length log) rest) ∙ length-append later (one ∷ before) in
    absurd (omega (arith, more, long))
same-place (x ∷ later) (y ∷ other) one two before past is long = let rest : later ++ one ∷ before ≡ other ++ two ∷ past = cc in same-place later other one two before past rest long

abbrev time_from : List Entry → ℕ
time_from [] = 0
time_from (entry ∷ before) = call_time entry (now_of before)

at-same : (history : List Entry) (cause : Cause) (time : ℕ) (entry : Entry) (before : List Entry) → IsAtCause history cause entry before → IsCallTime history cause time → time ≡ call_time entry (now_of before)
at-same history cause time entry before at timed =
    let log : entry ∷ before ≡ timed.entry ∷ timed.before = same-place at.later timed.at.later entry timed.entry before timed.before (sym at.splits ∙ timed.at.splits) (at.place ∙ sym timed.at.place) in
    timed.time_is ∙ sym (ap time_from log)

-- each call with a cause is heard at its time, as that entry causes it
pub calls_on_time :
    SettledGoByTotals → BegunDrainsAreHeld → PlacesStay → NodesGrow → (script : ScriptValue) (later before : List Entry) (hearer : Who) (call : Call) (origin : Origin) (acts : List Act) → IsLegal script (later ++ Heard hearer (Some origin) call acts ∷ before)
    → IsCaused script before hearer call origin (now_of before)
calls_on_time goes held_are stay grow script later before hearer call origin acts legal =
    let each = older-each script later (Heard hearer (Some origin) call acts ∷ before) legal.each in
    let due = comes script before (Heard hearer (Some origin) call acts) each.0 in
    let has = first-caused (HasCause script before) script before due.event (causes-of script before) due.first in
    let cause_is : due.event.cause ≡ origin.cause = ap (λ (one : Origin). one.cause) due.origin_is in
    let at : IsAtCause before origin.cause has.entry has.before = subst (λ (one : Cause). IsAtCause before one has.entry has.before) cause_is has.at in
    record {
      entry = has.entry;
      before = has.before;
      at = at;
      event = due.event;
      among = has.among;
      origin_is = due.origin_is;
      hearer_is = due.hearer_is;
      call_is = due.notice_is;
      time_is = at-same before origin.cause (now_of before) has.entry has.before at (call-times goes held_are stay grow script later before hearer call origin acts legal);
    }
