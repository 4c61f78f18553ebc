-- Who is to hear something, and who may act: what is known of a log in which each entry was next.
use Rattle.bench_history.proofs.Common.{◌≡◌, ℕ, ◌<◌, ◌==◌, ◌⊎◌, inl, inr, suc, Bool, true, false, not, ◌&&◌, filter, if◌then◌else◌, List, [], ◌∷◌, length, Option, Some, None, option_and_then, IfSome, OnSome, refl, ap, ◌∙◌, sym, subst, arith, option_map, not-true, option_map_or, granted_by, hand_of, objections_of, DriverPort, SequencerRequest, all_requests, driver_requester, driver_move, driver_state, sequence_on, wish_in, sequencer_below, cons_option, list_any, nat_tests, All-nil, All-cons, All-head, All-tail, All-push, All-append, All-weaker, All-filter, All-contains_itself, Contains-append_left, filter_passes, All-permutation, Phase, Cause, same_phase, in_order, OrderKeepsAll, under_at, is_before, node_of, same_who, Who, Sequence, SeqStep, Call, NotOpen, Act, Put, Take, Peek, Write, EndStep, Send, ItemDone, Ask, Outcome, Done, Made, Started, Value, Finished, Refused, Waits, Entry, Heard, Did, Ended, StartRecord, starts_of, finished_of, next_step, sequence_in, sequences_of, start_by, lives, phase_begun, is_open_to, Origin, ScriptValue, drains_begun, drains_ended, EventTarget, Object, Drain, Event, who_of, is_drain_of, stage_of, nodes_of, components_of, remaining_acts, left_after, rest_of, performer_of, phase_order, components_called, had_call, next_call, test_creation, ended_of, act_phase, phase_heard, in_progress, wiring_of, closed_wiring, is_imp_at, imps_below, outlets_below, puts_asked, takes_asked, put_in, take_in, Item, DueCall, event_in, call_to_performer, calls_of_step, step_call, finished_by, calls_caused, calls_numbered, due_from, drain_from, with_drains_of, caused_at, scheduled_events, delivered_causes, is_open, due_events, first_due, lapsed_by, done_by, call_in, written_to, Next, Exactly, Answer, Need, Nothing, Grant, next_of, Allows, IsNext, HasGrown, HasMade, IsDue, IsComponent, IsThere, ComponentsAreNodes, IsAsked, IsActEntry, slice_get, All, Contains, flat_map}
use Rattle.std.proofs.Common.{filter_map}
use Rattle.bench_history.proofs.Served.{HoldsOf, IsBy, driver_sequence, awaits, done-told, granted-kept, hand-sequence, lapse-told, sent-told}
use Rattle.uvm_tree.specs.Nodes as tree
use Rattle.uvm_acts.specs.declared.acts.Who.TheVariants.{Node}
use Rattle.uvm_acts.specs.declared.acts.Call.TheVariants as call
use Rattle.bench_history.specs.declared.needs.Need as declared
use Rattle.uvm_objection.specs.declared.objections.Due as drain
use Rattle.bench_history.specs.Passing.{Request}
use Rattle.bench_history.proofs.Inversion.{comes, now-at}
use Rattle.bench_history.proofs.Leasts.{least-holds}
use Rattle.bench_history.proofs.ActEntries.{started-next, starts-act, finished-next}
use Rattle.bench_history.proofs.Asking.{IsAskedBy, IsOwned, IsAdded, get-before, imp-after, written-hold}
use Rattle.bench_history.proofs.Living.{numbered-newest, numbered-holds, IsSequence, Stands, sequence-more, stands-more, living-of, runs-still}
use Rattle.bench_history.proofs.Grown.{exact-keeps-components, nodes_stay, nodes-more, components-grow, made_objects_are_new}

-- the components are below the nodes of one more entry, too
below-weaker : (entry : Entry) (before : List Entry) → All (λ node. node < length (nodes_of before)) (components_of before) → All (λ node. node < length (nodes_of (entry ∷ before))) (components_of before)
below-weaker entry before below =
    let more = nodes-more entry before in
    All-weaker (λ node. node < length (nodes_of before)) (λ node. node < length (nodes_of (entry ∷ before))) (λ node lt. omega (arith, more, lt)) (components_of before) below

-- an entry that leaves the components as they were keeps them below the nodes
below-same : (entry : Entry) (before : List Entry) → components_of (entry ∷ before) ≡ components_of before → All (λ node. node < length (nodes_of before)) (components_of before) → All (λ node. node < length (nodes_of (entry ∷ before))) (components_of (entry ∷ before))
below-same entry before e below = subst (All (λ node. node < length (nodes_of (entry ∷ before)))) (sym e) (below-weaker entry before below)

-- so does one that makes an object
below-made : (entry : Entry) (before : List Entry) (path : List (List ℕ)) → HasGrown before path entry → All (λ node. node < length (nodes_of before)) (components_of before) → All (λ node. node < length (nodes_of (entry ∷ before))) (components_of (entry ∷ before))
below-made entry before path g below =
    let count = g.count in
    subst (All (λ node. node < length (nodes_of (entry ∷ before)))) (sym g.components)
    (All-push (λ node. node < length (nodes_of (entry ∷ before))) (components_of before) (length (nodes_of before)) (below-weaker entry before below) (omega (arith, count)))

below-need : (before : List Entry) (need : declared.Need) (made : Outcome) (performer : Who) (act : Act) → HasMade before need made performer act → All (λ node. node < length (nodes_of before)) (components_of before) → All (λ node. node < length (nodes_of (Did performer made act ∷ before))) (components_of (Did performer made act ∷ before))
below-need before need (Made type_name) performer act has below = below-made (Did performer (Made type_name) act) before need.path has below
below-need before need (Started id) performer act has below = below-same (Did performer (Started id) act) before refl below
below-need before need other performer act has below = absurd has

-- and so does each entry that is next
below-next : (script : ScriptValue) (before : List Entry) (entry : Entry) (next : Next) → next_of script before ≡ next → Allows next entry → All (λ node. node < length (nodes_of before)) (components_of before) → All (λ node. node < length (nodes_of (entry ∷ before))) (components_of (entry ∷ before))
below-next script before entry (Exactly expected) is allows below = below-same entry before (exact-keeps-components script before entry (is ∙ ap Exactly (sym allows))) below
below-next script before entry (Answer performer call origin) is allows below = below-same entry before (ap (λ (e : Entry). components_of (e ∷ before)) allows.1) below
below-next script before entry (Need need made performer act) is (inl e) below = subst (λ (one : Entry). All (λ node. node < length (nodes_of (one ∷ before))) (components_of (one ∷ before))) (sym e) (below-need before need made performer act (made_objects_are_new script before need made performer act is) below)
below-next script before entry (Need need made performer act) is (inr declined) below = below-same entry before (ap (λ (e : Entry). components_of (e ∷ before)) declined) below
below-next script before entry (Grant sequencer drawn chosen) is allows below = below-same entry before (ap (λ (e : Entry). components_of (e ∷ before)) allows.3) below
below-next script before entry Nothing is allows below = absurd allows

-- each component is a node of the tree
pub components_are_nodes : ComponentsAreNodes
components_are_nodes script [] each = All-nil (λ node. node < 1)
components_are_nodes script (entry ∷ before) each = below-next script before entry (next_of script before) refl each.0 (components_are_nodes script before each.1)

-- a component stays one
contains-more : (entry : Entry) (before : List Entry) (node : ℕ) → Contains (components_of before) node → Contains (components_of (entry ∷ before)) node
contains-more entry before node has =
    let more = components-grow entry before in
    subst (λ (components : List ℕ). Contains components node) (sym more.1) (Contains-append_left (components_of before) more.0 node has)

pub component-more : (entry : Entry) (before : List Entry) (performer : Who) → IsComponent (components_of before) performer → IsComponent (components_of (entry ∷ before)) performer
component-more entry before (Node node) has = contains-more entry before node has
component-more entry before (Sequence home id) has = absurd has

-- it stands at its own node
component-node : (components : List ℕ) (performer : Who) → IsComponent components performer → Contains components (node_of performer)
component-node components (Node node) has = has
component-node components (Sequence home id) has = absurd has

-- who is to hear something in a phase, which is in progress or has ended: a component, or a sequence that was started in that phase
abbrev pub IsExpected : List Entry → Phase → Who → Type 0
IsExpected history phase (Node node) = Contains (components_of history) node × Stands history phase
IsExpected history phase (Sequence home id) = IsSequence history phase id home

-- who has spoken and may act in a phase: a component, or a sequence of that phase, which has not ended, that has not finished
pub record IsSpeaking (history : List Entry) (acting : Option Phase) (id home : ℕ) : Type 0 where
  pub phase : Phase
  pub sequence : IsSequence history phase id home
  pub own : acting ≡ Some phase
  pub unfinished : list_any (same_who (Sequence home id)) (finished_of history) ≡ false
  pub unended : list_any (same_phase phase) (ended_of history) ≡ false

abbrev pub IsPerformer : List Entry → Option Phase → Who → Type 0
IsPerformer history acting (Node node) = Contains (components_of history) node
IsPerformer history acting (Sequence home id) = IsSpeaking history acting id home

-- the phase of the acts is in progress or has ended
abbrev pub IsActing : List Entry → Option Phase → Type 0
IsActing history acting = (phase : Phase) → acting ≡ Some phase → Stands history phase

abbrev pub GoesOn : List Entry → Type 0
GoesOn history = stage_of history ≡ Ended → ⊥

expected-more : (script : ScriptValue) (before : List Entry) (entry : Entry) (phase : Phase) (who : Who) → IsNext script before entry → GoesOn (entry ∷ before) → IsExpected before phase who → IsExpected (entry ∷ before) phase who
expected-more script before entry phase (Node node) next on has = (contains-more entry before node has.0, stands-more script before entry phase next on has.1)
expected-more script before entry phase (Sequence home id) next on has = sequence-more script before entry phase id home next on has

pub component-expected : (history : List Entry) (phase : Phase) (who : Who) → IsComponent (components_of history) who → Stands history phase → IsExpected history phase who
component-expected history phase (Node node) has stands = (has, stands)
component-expected history phase (Sequence home id) has stands = absurd has

-- who speaks is to hear what is caused now
performer-expected : (history : List Entry) (phase : Phase) (who : Who) → act_phase history ≡ Some phase → IsActing history (act_phase history) → IsPerformer history (act_phase history) who → IsExpected history phase who
performer-expected history phase (Node node) acts stands has = (has, stands phase acts)
performer-expected history phase (Sequence home id) acts stands s =
    let same : Some s.phase ≡ Some phase = sym s.own ∙ acts in
    let is : s.phase ≡ phase = cc in
    subst (λ (p : Phase). IsSequence history p id home) is s.sequence

pub performer-there : (history : List Entry) (acting : Option Phase) (who : Who) → IsPerformer history acting who → IsThere history who
performer-there history acting (Node node) has = has
performer-there history acting (Sequence home id) s = living-of history s.phase id home s.sequence s.unfinished s.unended

-- whoever is to hear the call of an event is expected in its phase
abbrev pub IsCallTo : List Entry → Event → Type 0
IsCallTo history event = OnSome event.notice (IsExpected history event.phase (who_of event.owner))

-- so is whoever started a sequence, in the phase in which he did
abbrev pub IsStartedBy : List Entry → StartRecord → Type 0
IsStartedBy history start_record = (phase : Phase) → start_record.phase ≡ Some phase → IsExpected history phase start_record.starter

-- a component or sequence is one of the components
abbrev pub IsOne : List ℕ → Who → Type 0
IsOne components who = IsComponent components who

-- no act is left, or the creation of the test alone, or who gave the last answer may act
pub data Speaking (script : ScriptValue) (history : List Entry) : Type 0 where
  NoneLeft : remaining_acts script history ≡ [] → Speaking script history
  Opens : All (λ act. act ≡ test_creation script) (remaining_acts script history) → Speaking script history
  Speaks : IsPerformer history (act_phase history) (performer_of history) → Speaking script history

-- a sequence was started on a sequencer, in some phase
pub record IsRequester (history : List Entry) (node id : ℕ) : Type 0 where
  pub phase : Phase
  pub sequence : IsSequence history phase id node

-- who is asked at a FIFO, or for an item, in a phase that is in progress or has ended
abbrev pub IsOneIn : List Entry → Who → Phase → Type 0
IsOneIn history who phase = IsComponent (components_of history) who × Stands history phase

abbrev pub IsDriver : List Entry → Who → Option Phase → Type 0
IsDriver history who phase = IsComponent (components_of history) who × IsActing history phase

-- the phase of the acts is in progress
abbrev pub IsGoing : List Entry → Option Phase → Type 0
IsGoing history acting = (phase : Phase) → acting ≡ Some phase → list_any (same_phase phase) (in_progress (stage_of history)) ≡ true

-- whoever waits for a call is expected, and whoever spoke last may act; who waits at a FIFO is a component, and who owns an imp; who waits for a sequencer
-- is a sequence of it, as is the one that is granted or sent an item, and who drives it is a component
pub record ParticipantsExist (script : ScriptValue) (history : List Entry) : Type 0 where
  pub acting : IsActing history (act_phase history)
  pub going : (remaining_acts script history ≡ []) ⊎ IsGoing history (act_phase history)
  pub owners : All (IsCallTo history) (scheduled_events script history)
  pub starters : All (IsStartedBy history) (starts_of history)
  pub performer : Speaking script history
  pub putters : (fifo : ℕ) → All (IsAskedBy {Payload = Item} (IsOneIn history)) (puts_asked history fifo)
  pub takers : (fifo : ℕ) → All (IsAskedBy {Payload = Bool} (IsOneIn history)) (takes_asked history fifo)
  pub imps : (node : ℕ) → is_imp_at (wiring_of history) node ≡ true → IsOwned (nodes_of history) (components_of history) node
  pub wanting : (node : ℕ) → All (IsBy (IsRequester history node)) (all_requests history node)
  pub served : (node id : ℕ) → driver_sequence (driver_state history node) ≡ Some id → IsRequester history node id
  pub requesters : (node : ℕ) → IfSome (driver_requester history node) (λ requester. IsDriver history requester.who requester.phase)

-- with one more entry they stay
pub requester-more : (script : ScriptValue) (before : List Entry) (entry : Entry) (node id : ℕ) → IsNext script before entry → GoesOn (entry ∷ before) → IsRequester before node id → IsRequester (entry ∷ before) node id
requester-more script before entry node id next on r = record { phase = r.phase; sequence = sequence-more script before entry r.phase id node next on r.sequence }

pub wanting-more : (script : ScriptValue) (before : List Entry) (entry : Entry) (node : ℕ) (asked : List SequencerRequest) → IsNext script before entry → GoesOn (entry ∷ before) → All (IsBy (IsRequester before node)) asked → All (IsBy (IsRequester (entry ∷ before) node)) asked
wanting-more script before entry node asked next on all = All-weaker (IsBy (IsRequester before node)) (IsBy (IsRequester (entry ∷ before) node)) (λ w. requester-more script before entry node w.request.seq next on) asked all

pub acting-more : (script : ScriptValue) (before : List Entry) (entry : Entry) (acting : Option Phase) → IsNext script before entry → GoesOn (entry ∷ before) → IsActing before acting → IsActing (entry ∷ before) acting
acting-more script before entry acting next on stands = λ phase is. stands-more script before entry phase next on (stands phase is)

pub driver_requester-more : (script : ScriptValue) (before : List Entry) (entry : Entry) (requester : Option DriverPort) → IsNext script before entry → GoesOn (entry ∷ before) → IfSome requester (λ requester. IsDriver before requester.who requester.phase) → IfSome requester (λ requester. IsDriver (entry ∷ before) requester.who requester.phase)
driver_requester-more script before entry None next on has = tt
driver_requester-more script before entry (Some requester) next on has = (component-more entry before requester.who has.0, acting-more script before entry requester.phase next on has.1)

pub one-more : {Payload : Type 0} (script : ScriptValue) (before : List Entry) (entry : Entry) (asked : List (Request Payload)) → IsNext script before entry → GoesOn (entry ∷ before) → All (IsAskedBy {Payload = Payload} (IsOneIn before)) asked → All (IsAskedBy {Payload = Payload} (IsOneIn (entry ∷ before))) asked
one-more {Payload = Payload} script before entry asked next on all =
    All-weaker (IsAskedBy {Payload = Payload} (IsOneIn before)) (IsAskedBy {Payload = Payload} (IsOneIn (entry ∷ before))) (λ request has. (component-more entry before request.requester.who has.0, stands-more script before entry request.requester.phase next on has.1)) asked all

-- who was started is expected in its phase
pub requester-expected : (history : List Entry) (node id : ℕ) (phase : Phase) → phase_begun history id ≡ Some phase → IsRequester history node id → IsSequence history phase id node
requester-expected history node id phase begun r =
    let begins : phase_begun history id ≡ r.sequence.start_record.phase = ap (option_and_then (λ (start_record : StartRecord). start_record.phase)) r.sequence.begun in
    let same : Some r.phase ≡ Some phase = sym r.sequence.phase_is ∙ sym begins ∙ begun in
    let is : r.phase ≡ phase = cc in
    subst (λ (p : Phase). IsSequence history p id node) is r.sequence

-- who is served once one is granted
pub granted-served :
    (before : List Entry) (node at id other : ℕ) → IsRequester before node id → (driver_sequence (driver_state before at) ≡ Some other → IsRequester before at other)
    → driver_sequence (if node == at then granted_by id (driver_state before at) else driver_state before at) ≡ Some other → IsRequester before at other
granted-served before node at id other s known e = tested (node == at) refl e
  where
    by : node ≡ at → (other ≡ id) ⊎ (driver_sequence (driver_state before at) ≡ Some other) → IsRequester before at other
    by same (inl is) = rw (← same, is) s
    by same (inr was) = known was

    tested : (b : Bool) → (node == at) ≡ b → driver_sequence (if b then granted_by id (driver_state before at) else driver_state before at) ≡ Some other → IsRequester before at other
    tested true is e = let same : node ≡ at = grind (arith, nat_tests) in by same (granted-kept id (driver_state before at) other e)
    tested false is e = known e

abbrev pub lives_of : List Entry → ℕ → Option StartRecord → Bool
lives_of history id found = option_map_or (lives history id) found false

-- the node whose turn has come is a component
turn-one : (history : List Entry) (phase : Phase) → IfSome (next_call phase history) (Contains (components_of history))
unfolding next_call
turn-one history phase =
    let components = components_of history in
    least-holds (Contains components) (is_before (phase_order phase) (nodes_of history)) _
    (All-filter (λ node. not (had_call (components_called phase history) node)) (Contains components) components (All-contains_itself components))

-- what holds of each event holds of the one that is due
first-of : (P : Event → Type 0) (dues : List Event) → All P dues → IfSome (slice_get dues 0) P
first-of P [] all = tt
first-of P (due ∷ dues) all = All-head P due dues all

-- what is due was caused, and is open
abbrev open_now : List Entry → Event → Bool
open_now history event = is_open (delivered_causes history) (ended_of history) (finished_of history) event

record IsOpenCall (history : List Entry) (event : Event) : Type 0 where
  call : IsCallTo history event
  is : open_now history event ≡ true

pub both-hold : {A : Type 0} (P Q R : A → Type 0) (xs : List A) → ((x : A) → P x → Q x → R x) → All P xs → All Q xs → All R xs
both-hold P Q R [] make ps qs = All-nil R
both-hold P Q R (x ∷ xs) make ps qs = All-cons R x xs (make x (All-head P x xs ps) (All-head Q x xs qs)) (both-hold P Q R xs make (All-tail P x xs ps) (All-tail Q x xs qs))

open-calls : (script : ScriptValue) (history : List Entry) → All (IsCallTo history) (scheduled_events script history) → All (IsOpenCall history) (due_events script history)
open-calls script history calls =
    both-hold (IsCallTo history) (λ event. open_now history event ≡ true) (IsOpenCall history) (due_events script history) (λ event call is. record { call = call; is = is })
    (All-filter (open_now history) (IsCallTo history) (scheduled_events script history) calls) (filter_passes (open_now history) (scheduled_events script history))

-- so that who is to hear it may act
and-parts : (a b c : Bool) → a && b && c ≡ true → (b ≡ true) × (c ≡ true)
and-parts true true true e = (refl, refl)
and-parts true true false e = cc
and-parts true false c e = cc
and-parts false b c e = cc

going-on : (history : List Entry) (phase : Phase) → Stands history phase → list_any (same_phase phase) (ended_of history) ≡ false → IsGoing history (Some phase)
going-on history phase stands unended p same = let at : phase ≡ p = cc in subst (λ (q : Phase). list_any (same_phase q) (in_progress (stage_of history)) ≡ true) at (runs-still history phase stands unended)

open-performer : (history : List Entry) (time : ℕ) (cause : Cause) (phase : Phase) (owner : EventTarget) (notice : Option Call) → IsExpected history phase (who_of owner) → open_now history (record { time = time; cause = cause; phase = phase; owner = owner; notice = notice }) ≡ true → IsPerformer history (Some phase) (who_of owner) × IsGoing history (Some phase)
open-performer history time cause phase (Object (Node node)) notice has is =
    let parts = and-parts _ (not (list_any (same_phase phase) (ended_of history))) true is in
    (has.0, going-on history phase has.1 (not-true (list_any (same_phase phase) (ended_of history)) parts.0))
open-performer history time cause phase (Drain node of) notice has is =
    let parts = and-parts _ (not (list_any (same_phase phase) (ended_of history))) true is in
    (has.0, going-on history phase has.1 (not-true (list_any (same_phase phase) (ended_of history)) parts.0))
open-performer history time cause phase (Object (Sequence home id)) notice s is =
    let parts = and-parts _ (not (list_any (same_phase phase) (ended_of history))) (not (list_any (same_who (Sequence home id)) (finished_of history))) is in
    let unended = not-true (list_any (same_phase phase) (ended_of history)) parts.0 in
    (record { phase = phase; sequence = s; own = refl; unfinished = not-true (list_any (same_who (Sequence home id)) (finished_of history)) parts.1; unended = unended }, going-on history phase s.stands unended)

module _ (keeps : OrderKeepsAll EventTarget (Option Call)) where
  -- of the event that is due now
  due-one : (script : ScriptValue) (history : List Entry) (P : Event → Type 0) → All P (due_events script history) → IfSome (first_due script history) P
  due-one script history P all =
      first-of P (in_order (due_events script history)) (All-permutation P (due_events script history) (in_order (due_events script history)) (keeps (due_events script history)) all)

  -- its owner may act
  asks-due : (script : ScriptValue) (history : List Entry) (hearer : Who) (call : Call) (origin : Origin) → All (IsCallTo history) (scheduled_events script history) → IsDue script history hearer (Some call) origin → IsPerformer history (Some origin.phase) hearer × IsGoing history (Some origin.phase)
  asks-due script history hearer call origin owners due =
      let event = due.event in
      let here = subst (λ (found : Option Event). IfSome found (IsOpenCall history)) due.first (due-one script history (IsOpenCall history) (open-calls script history owners)) in
      let expected = subst (λ (notice : Option Call). OnSome notice (IsExpected history event.phase (who_of event.owner))) due.notice_is here.call in
      let phase_is : event.phase ≡ origin.phase = ap (λ (one : Origin). one.phase) due.origin_is in
      rw (← phase_is, ← due.hearer_is) (open-performer history event.time event.cause event.phase event.owner event.notice expected here.is)

  asked-one : (script : ScriptValue) (history : List Entry) (performer : Who) (call : Call) (origin : Option Origin) → ParticipantsExist script history → IsAsked script history performer call origin → IsPerformer history (phase_heard call origin) performer × IsGoing history (phase_heard call origin)
  asked-one script history performer call (Some origin) known due = asks-due script history performer call origin known.owners due
  asked-one script history performer call None known turn = rw (turn.hearer_is, turn.call_is)
      (subst (λ (found : Option ℕ). IfSome found (Contains (components_of history))) turn.turn (turn-one history turn.phase), λ p same. let on : turn.phase ≡ p = cc in subst (λ (q : Phase). list_any (same_phase q) (in_progress (stage_of history)) ≡ true) on turn.going)

  -- so that an answer is of one who may act
  pub asks-one : (script : ScriptValue) (history : List Entry) (performer : Who) (call : Call) (origin : Option Origin) → ParticipantsExist script history → next_of script history ≡ Answer performer call origin → IsPerformer history (phase_heard call origin) performer × IsGoing history (phase_heard call origin)
  asks-one script history performer call origin known e = asked-one script history performer call origin known (now-at script history (Answer performer call origin) e)

  -- and who was heard may act
  pub heard-one : (script : ScriptValue) (before : List Entry) (performer : Who) (call : Call) (origin : Option Origin) (acts : List Act) → ParticipantsExist script before → IsNext script before (Heard performer origin call acts) → IsPerformer before (phase_heard call origin) performer × IsGoing before (phase_heard call origin)
  heard-one script before performer call origin acts known next =
      asked-one script before performer call origin known (comes script before (Heard performer origin call acts) next)

-- what is caused is told to who is expected in the phase
one-owner : (history : List Entry) (phase : Option Phase) (time : ℕ) (cause : Cause) (owner : EventTarget) (notice : Option Call) → ((p : Phase) → phase ≡ Some p → OnSome notice (IsExpected history p (who_of owner))) → All (IsCallTo history) (event_in phase time cause owner notice)
one-owner history None time cause owner notice there = All-nil (IsCallTo history)
one-owner history (Some phase) time cause owner notice there = All-cons (IsCallTo history) _ [] (there phase refl) (All-nil (IsCallTo history))

-- the call that an act causes is its performer's
pub due-owner :
    (history : List Entry) (notice : Option Call) (performer : Who) (phase : Option Phase) (time : ℕ) (cause : Cause) → (notice ≡ None) ⊎ ((p : Phase) → phase ≡ Some p → IsExpected history p performer)
    → All (IsCallTo history) (due_from notice performer phase time cause)
due-owner history None performer phase time cause who = All-nil _
due-owner history (Some call) performer phase time cause (inl none) = cc
due-owner history (Some call) performer phase time cause (inr has) = one-owner history phase time cause (Object performer) (Some call) has

-- and drains call no component or sequence
drains-call : (history : List Entry) (phase : Phase) (cause : Cause) (begun : List drain.Due) → All (IsCallTo history) (flat_map (drain_from phase cause) begun)
drains-call history phase cause [] = All-nil _
drains-call history phase cause (first ∷ begun) =
    All-append (IsCallTo history) (drain_from phase cause first) (flat_map (drain_from phase cause) begun) (one-owner history (Some phase) first.at cause (Drain first.node phase) None (λ p runs. tt)) (drains-call history phase cause begun)

pub with-drains-call : (script : ScriptValue) (history : List Entry) (phase : Option Phase) (entry : Entry) (before : List Entry) (caused : List Event) → All (IsCallTo history) caused → All (IsCallTo history) (with_drains_of script phase entry before caused)
with-drains-call script history None entry before caused owners = owners
with-drains-call script history (Some phase) entry before caused owners =
    let earlier = objections_of script phase before in
    let nodes = objections_of script phase (entry ∷ before) in
    All-append (IsCallTo history) (flat_map (drain_from phase (caused_at (length before))) (drains_begun earlier nodes)) (filter (λ event. not (is_drain_of phase (drains_ended earlier nodes) event.owner)) caused) (drains-call history phase (caused_at (length before)) (drains_begun earlier nodes))
    (All-filter (λ event. not (is_drain_of phase (drains_ended earlier nodes) event.owner)) (IsCallTo history) caused owners)

pub moved-call :
    (script : ScriptValue) (history : List Entry) (moves : Bool) (phase : Option Phase) (entry : Entry) (before : List Entry) (caused : List Event) → All (IsCallTo history) caused
    → All (IsCallTo history) (if moves then with_drains_of script phase entry before caused else caused)
moved-call script history true phase entry before caused owners = with-drains-call script history phase entry before caused owners
moved-call script history false phase entry before caused owners = owners

-- the creation of the test is a creation, which causes no call
pub test_creation-tells : (script : ScriptValue) (outcome : Outcome) → call_to_performer outcome (test_creation script) ≡ None
test_creation-tells script (Value value) = refl
test_creation-tells script Done = refl
test_creation-tells script (Waits true) = refl
test_creation-tells script (Waits false) = refl
test_creation-tells script outcome = refl

-- nor does it ask for anything at a FIFO
pub test_creation-puts : (script : ScriptValue) (outcome : Outcome) → put_in outcome (test_creation script) ≡ None
test_creation-puts script Done = refl
test_creation-puts script outcome = refl

pub test_creation-takes : (script : ScriptValue) (outcome : Outcome) → take_in outcome (test_creation script) ≡ None
test_creation-takes script Done = refl
test_creation-takes script outcome = refl

-- with one more entry the owners stay expected, and the starters
call-more : (script : ScriptValue) (before : List Entry) (entry : Entry) (event : Event) → IsNext script before entry → GoesOn (entry ∷ before) → IsCallTo before event → IsCallTo (entry ∷ before) event
call-more script before entry event next on call = some-more event.notice call
  where
    some-more : (notice : Option Call) → OnSome notice (IsExpected before event.phase (who_of event.owner)) → OnSome notice (IsExpected (entry ∷ before) event.phase (who_of event.owner))
    some-more None has = tt
    some-more (Some call) has = expected-more script before entry event.phase (who_of event.owner) next on has

pub owners-more : (script : ScriptValue) (before : List Entry) (entry : Entry) → IsNext script before entry → GoesOn (entry ∷ before) → ParticipantsExist script before → All (IsCallTo (entry ∷ before)) (scheduled_events script before)
owners-more script before entry next on known = All-weaker (IsCallTo before) (IsCallTo (entry ∷ before)) (λ event. call-more script before entry event next on) (scheduled_events script before) known.owners

pub starters-more : (script : ScriptValue) (before : List Entry) (entry : Entry) → IsNext script before entry → GoesOn (entry ∷ before) → ParticipantsExist script before → All (IsStartedBy (entry ∷ before)) (starts_of before)
starters-more script before entry next on known =
    All-weaker (IsStartedBy before) (IsStartedBy (entry ∷ before)) (λ start_record by phase is. expected-more script before entry phase start_record.starter next on (by phase is)) (starts_of before) known.starters

-- an act is the creation of the test, or its performer may act
pub act_entry-owner : (script : ScriptValue) (before : List Entry) (performer : Who) (outcome : Outcome) (act : Act) → IsActEntry script before performer outcome act → Speaking script before → (act ≡ test_creation script) ⊎ IsPerformer before (act_phase before) performer
act_entry-owner script before performer outcome act act_entry (NoneLeft none) = let both : act ∷ rest_of (remaining_acts script before) ≡ [] = sym act_entry.left ∙ none in cc
act_entry-owner script before performer outcome act act_entry (Opens opens) =
    let first = subst (All (λ one. one ≡ test_creation script)) act_entry.left opens in
    inl (All-head (λ one. one ≡ test_creation script) act (rest_of (remaining_acts script before)) first)
act_entry-owner script before performer outcome act act_entry (Speaks speaks) = inr (rw act_entry.performer_is speaks)

-- so that what the creation of the test does not do is done by who may act
pub unless-test_creation : (Idle : Act → Type 0) {One : Type 0} (script : ScriptValue) (act : Act) → Idle (test_creation script) → (act ≡ test_creation script) ⊎ One → Idle act ⊎ One
unless-test_creation Idle script act here (inl same) = inl (subst Idle (sym same) here)
unless-test_creation Idle script act here (inr one) = inr one

-- so who asks at a FIFO is a component, and who adds an imp
pub closed-puts : (outcome : Outcome) (act : Act) (id home : ℕ) → (is_open_to act (Sequence home id) ≡ false → outcome ≡ Refused NotOpen) → put_in outcome act ≡ None
closed-puts Done (Put name item) id home refused = let e : Done ≡ Refused NotOpen = refused refl in cc
closed-puts outcome act id home refused = refl

pub closed-takes : (outcome : Outcome) (act : Act) (id home : ℕ) → (is_open_to act (Sequence home id) ≡ false → outcome ≡ Refused NotOpen) → take_in outcome act ≡ None
closed-takes Done (Take name) id home refused = let e : Done ≡ Refused NotOpen = refused refl in cc
closed-takes Done (Peek name) id home refused = let e : Done ≡ Refused NotOpen = refused refl in cc
closed-takes outcome act id home refused = refl

pub closed-asks : (outcome : Outcome) (act : Act) (id home : ℕ) → (is_open_to act (Sequence home id) ≡ false → outcome ≡ Refused NotOpen) → awaits (driver_move outcome act) ≡ false
closed-asks Done (Ask port way) id home refused = let e : Done ≡ Refused NotOpen = refused refl in cc
closed-asks (Waits true) (Ask port way) id home refused = let e : Waits true ≡ Refused NotOpen = refused refl in cc
closed-asks (Waits true) act id home refused = refl
closed-asks (Waits false) act id home refused = refl
closed-asks outcome act id home refused = refl

pub test_creation-asks : (script : ScriptValue) (outcome : Outcome) → awaits (driver_move outcome (test_creation script)) ≡ false
test_creation-asks script Done = refl
test_creation-asks script (Waits true) = refl
test_creation-asks script (Waits false) = refl
test_creation-asks script outcome = refl

pub component-or : (Idle : Type 0) (before : List Entry) (performer : Who) → ((id home : ℕ) → performer ≡ Sequence home id → Idle) → Idle ⊎ IsPerformer before (act_phase before) performer → Idle ⊎ IsComponent (components_of before) performer
component-or Idle before performer closed (inl idle) = inl idle
component-or Idle before (Node node) closed (inr has) = inr has
component-or Idle before (Sequence home id) closed (inr has) = inl (closed id home refl)

-- nor does the creation of the test wish for anything, and what a sequence wishes is asked of its own sequencer
pub test_creation-wishes : (script : ScriptValue) (outcome : Outcome) → wish_in outcome (test_creation script) ≡ None
test_creation-wishes script Done = refl
test_creation-wishes script outcome = refl

wisher : (script : ScriptValue) (before : List Entry) (entry : Entry) (performer : Who) (node : ℕ) → IsNext script before entry → GoesOn (entry ∷ before) → IsPerformer before (act_phase before) performer → HoldsOf (IsRequester (entry ∷ before) node) (sequence_on node performer)
wisher script before entry (Node other) node next on speaks = tt
wisher script before entry (Sequence home id) node next on speaks = tested (home == node) refl
  where
    tested : (b : Bool) → (home == node) ≡ b → HoldsOf (IsRequester (entry ∷ before) node) (if b then Some id else None)
    tested true e =
        let same : home ≡ node = grind (arith, nat_tests) in
        record { phase = speaks.phase; sequence = sequence-more script before entry speaks.phase id node next on (subst (IsSequence before speaks.phase id) same speaks.sequence) }
    tested false e = tt

pub wishes-by :
    (script : ScriptValue) (before : List Entry) (performer : Who) (outcome : Outcome) (act : Act) (node : ℕ) → IsNext script before (Did performer outcome act) → GoesOn (Did performer outcome act ∷ before) → (wish_in outcome act ≡ None) ⊎ IsPerformer before (act_phase before) performer
    → (wish_in outcome act ≡ None) ⊎ HoldsOf (IsRequester (Did performer outcome act ∷ before) node) (sequence_on node performer)
wishes-by script before performer outcome act node next on (inl none) = inl none
wishes-by script before performer outcome act node next on (inr speaks) = inr (wisher script before (Did performer outcome act) performer node next on speaks)

-- what is told to who is expected is such a call
abbrev pub IsTold : List Entry → DueCall → Type 0
IsTold history told = (p : Phase) → told.phase ≡ Some p → IsExpected history p told.who

pub numbered-owners : (history : List Entry) (time place number : ℕ) (calls : List DueCall) → All (IsTold history) calls → All (IsCallTo history) (calls_numbered time place number calls)
numbered-owners history time place number [] all = All-nil _
numbered-owners history time place number (told ∷ calls) all =
    All-append (IsCallTo history) (calls_numbered time place (suc number) calls) (event_in told.phase time (record { place = place; number = number }) (Object told.who) (Some told.call))
    (numbered-owners history time place (suc number) calls (All-tail (IsTold history) told calls all))
    (one-owner history told.phase time (record { place = place; number = number }) (Object told.who) (Some told.call) (All-head (IsTold history) told calls all))

-- what is told by a write is told in the phase of the act
written-phase : (phase : Option Phase) (nodes : List tree.Node) (item : Item) (imps : List ℕ) → All (λ told. told.phase ≡ phase) (filter_map (written_to phase nodes item) imps)
written-phase phase nodes item [] = All-nil _
written-phase phase nodes item (imp ∷ imps) = one (under_at nodes imp) (written-phase phase nodes item imps)
  where
    one : (under : Option (ℕ × List ℕ)) → All (λ told. told.phase ≡ phase) (filter_map (written_to phase nodes item) imps) → All (λ told. told.phase ≡ phase) (cons_option (option_map (λ under. call_in phase (Node under.0) (call.Written under.1 item)) under) (filter_map (written_to phase nodes item) imps))
    one None rest = rest
    one (Some under) rest = All-cons (λ (told : DueCall). told.phase ≡ phase) _ _ refl rest

-- what is told by a write is told to components
written-owners :
    (script : ScriptValue) (before : List Entry) (entry : Entry) (performer : Who) (item : Item) (port : List ℕ) → IsActing (entry ∷ before) (act_phase before) → ((node : ℕ) → is_imp_at (wiring_of before) node ≡ true → IsOwned (nodes_of before) (components_of before) node)
    → All (IsTold (entry ∷ before)) (calls_caused before performer Done (Write port item))
unfolding imps_below
written-owners script before entry performer item port stands owned =
    both-hold (λ told. IsComponent (components_of before) told.who) (λ told. told.phase ≡ act_phase before) (IsTold (entry ∷ before)) _
    (λ told has at p is. component-expected (entry ∷ before) p told.who (component-more entry before told.who has) (stands p (sym at ∙ is)))
    (written-hold (act_phase before) (nodes_of before) (components_of before) item (closed_wiring before) (outlets_below before performer port) owned)
    (written-phase (act_phase before) (nodes_of before) item (filter (is_imp_at (closed_wiring before)) (outlets_below before performer port)))

-- what a sequence is told of its steps is told to who speaks
step-owners : (script : ScriptValue) (before : List Entry) (entry : Entry) (performer : Who) (step : Option SeqStep) → IsNext script before entry → GoesOn (entry ∷ before) → IsActing before (act_phase before) → IsPerformer before (act_phase before) performer → All (IsTold (entry ∷ before)) (calls_of_step (act_phase before) performer step)
step-owners script before entry performer None next on stands speaks = All-nil _
step-owners script before entry performer (Some step) next on stands speaks =
    All-cons (IsTold (entry ∷ before)) (call_in (act_phase before) performer (step_call step)) []
    (λ p runs. expected-more script before entry p performer next on (performer-expected before p performer runs stands speaks)) (All-nil _)

-- and that one has finished is told to who started it
finished-owners :
    (script : ScriptValue) (before : List Entry) (entry : Entry) (performer : Who) → IsNext script before entry → GoesOn (entry ∷ before) → All (IsStartedBy before) (starts_of before) → IsPerformer before (act_phase before) performer
    → All (IsTold (entry ∷ before)) (finished_by before (sequence_in performer))
finished-owners script before entry (Node node) next on starters speaks = All-nil _
finished-owners script before entry (Sequence home id) next on starters speaks =
    rw speaks.sequence.begun
    (All-cons (IsTold (entry ∷ before)) (call_in speaks.sequence.start_record.phase speaks.sequence.start_record.starter (call.Finished speaks.sequence.start_record.start.name id)) [] told (All-nil _))
  where
    told : (p : Phase) → speaks.sequence.start_record.phase ≡ Some p → IsExpected (entry ∷ before) p speaks.sequence.start_record.starter
    told p at =
        expected-more script before entry p speaks.sequence.start_record.starter next on
        (numbered-holds (IsStartedBy before) (starts_of before) id speaks.sequence.start_record starters speaks.sequence.begun p at)

-- it is told that it was started
started-owners :
    (script : ScriptValue) (before : List Entry) (performer : Who) (id : ℕ) (act : Act) → IsNext script before (Did performer (Started id) act) → IsActing (Did performer (Started id) act ∷ before) (act_phase before)
    → All (IsTold (Did performer (Started id) act ∷ before)) (calls_caused before performer (Started id) act)
started-owners script before performer id act next acting =
    All-cons (IsTold (Did performer (Started id) act ∷ before)) _ [] told (All-nil _)
  where
    told : (p : Phase) → act_phase before ≡ Some p → IsSequence (Did performer (Started id) act ∷ before) p id (start_by (nodes_of before) (sequences_of before) performer act).home
    told p runs = record {
      start_record = record { start = start_by (nodes_of before) (sequences_of before) performer act; starter = performer; phase = act_phase before };
      begun = numbered-newest _ (starts_of before) id (started-next script before performer id act next);
      home_is = refl;
      phase_is = runs;
      stands = acting p runs;
    }

-- who hears what is caused in the phase that runs
abbrev pub IsHearer : List Entry → Option Phase → Who → Type 0
IsHearer history phase who = (p : Phase) → phase ≡ Some p → IsExpected history p who

pub requester-hears : (history : List Entry) (requester : Option DriverPort) → IfSome requester (λ requester. IsDriver history requester.who requester.phase) → IfSome requester (λ requester. IsHearer history requester.phase requester.who)
requester-hears history None has = tt
requester-hears history (Some requester) has = λ p at. component-expected history p requester.who has.0 (has.1 p at)

-- whose item is done is the sequence that was served
done-owners :
    (script : ScriptValue) (before : List Entry) (performer : Who) (port : List ℕ) (response : Option Item) → ParticipantsExist script before → IsNext script before (Did performer Done (ItemDone port response)) → GoesOn (Did performer Done (ItemDone port response) ∷ before)
    → (reached : Option ℕ) → All (IsTold (Did performer Done (ItemDone port response) ∷ before)) (done_by before reached response)
done-owners script before performer port response known next on None = All-nil _
done-owners script before performer port response known next on (Some node) =
    let entry = Did performer Done (ItemDone port response) in
    done-told (IsTold (entry ∷ before)) (IsHearer (entry ∷ before)) (λ phase who call hears. hears) (phase_begun before) response node (hand_of (driver_state before node))
    (λ id hand p at. sequence-more script before entry p id node next on (requester-expected before node id p at (known.served node id (hand-sequence (driver_state before node) id hand))))

-- whatever an act causes
pub told-owners :
    (script : ScriptValue) (before : List Entry) (performer : Who) (outcome : Outcome) (act : Act) → ParticipantsExist script before → IsNext script before (Did performer outcome act) → GoesOn (Did performer outcome act ∷ before) → (act ≡ test_creation script) ⊎ IsPerformer before (act_phase before) performer
    → All (IsTold (Did performer outcome act ∷ before)) (calls_caused before performer outcome act)
told-owners script before performer Done (Write port item) known next on who = written-owners script before (Did performer Done (Write port item)) performer item port (acting-more script before (Did performer Done (Write port item)) (act_phase before) next on known.acting) known.imps
told-owners script before performer Done EndStep known next on (inl opens) = cc
told-owners script before performer Done EndStep known next on (inr speaks) = step-owners script before (Did performer Done EndStep) performer (next_step before performer) next on known.acting speaks
told-owners script before performer Done (Send item) known next on (inl opens) = cc
told-owners script before performer Done (Send item) known next on (inr speaks) =
    let entry = Did performer Done (Send item) in
    sent-told (IsTold (entry ∷ before)) (IsHearer (entry ∷ before)) (λ phase who call hears. hears) (act_phase before) performer (driver_requester before (node_of performer)) item _
    (requester-hears (entry ∷ before) (driver_requester before (node_of performer)) (driver_requester-more script before entry (driver_requester before (node_of performer)) next on (known.requesters (node_of performer))))
    (λ p runs. expected-more script before entry p performer next on (performer-expected before p performer runs known.acting speaks))
told-owners script before performer Done (ItemDone port response) known next on who = done-owners script before performer port response known next on (sequencer_below before performer port)
told-owners script before performer (Started id) act known next on who = started-owners script before performer id act next (acting-more script before (Did performer (Started id) act) (act_phase before) next on known.acting)
told-owners script before performer Finished act known next on (inl opens) = let ends = finished-next script before performer act next in let e : EndStep ≡ test_creation script = sym ends ∙ opens in cc
told-owners script before performer Finished act known next on (inr speaks) =
    All-append (IsTold (Did performer Finished act ∷ before)) (finished_by before (sequence_in performer)) (lapsed_by before (node_of performer) (sequence_in performer)) (finished-owners script before (Did performer Finished act) performer next on known.starters speaks)
    (lapse-told (IsTold (Did performer Finished act ∷ before)) (IsHearer (Did performer Finished act ∷ before)) (λ phase who call hears. hears) _ (driver_requester before (node_of performer)) (requester-hears (Did performer Finished act ∷ before) (driver_requester before (node_of performer)) (driver_requester-more script before (Did performer Finished act) (driver_requester before (node_of performer)) next on (known.requesters (node_of performer)))))
told-owners script before performer outcome act known next on who = All-nil (IsTold (Did performer outcome act ∷ before))

-- an imp of one more entry's wiring is a component's
pub imps-more :
    (script : ScriptValue) (before : List Entry) (performer : Who) (outcome : Outcome) (act : Act) → ((node : ℕ) → is_imp_at (wiring_of before) node ≡ true → IsOwned (nodes_of before) (components_of before) node)
    → (act ≡ test_creation script) ⊎ IsPerformer before (act_phase before) performer → ((id home : ℕ) → performer ≡ Sequence home id → is_open_to act performer ≡ false → outcome ≡ Refused NotOpen)
    → (node : ℕ) → is_imp_at (wiring_of (Did performer outcome act ∷ before)) node ≡ true → IsOwned (nodes_of (Did performer outcome act ∷ before)) (components_of (Did performer outcome act ∷ before)) node
imps-more script before performer outcome act owned who closed node is = by (imp-after (nodes_of before) (wiring_of before) performer outcome act node is)
  where
    stays : (under other : Option (ℕ × List ℕ)) → other ≡ under → IfSome under (λ under. Contains (components_of before) under.0) → IfSome other (λ under. Contains (components_of (Did performer outcome act ∷ before)) under.0)
    stays None other e has = rw e tt
    stays (Some under) other e has = rw e (contains-more (Did performer outcome act) before under.0 has)

    added : (found : Option (ℕ × List ℕ)) → IfSome found (λ under. under.0 ≡ node_of performer) → Contains (components_of (Did performer outcome act ∷ before)) (node_of performer)
        → IfSome found (λ under. Contains (components_of (Did performer outcome act ∷ before)) under.0)
    added None is has = tt
    added (Some under) is has = rw is has

    there : (who : Who) → performer ≡ who → IsAdded (nodes_of before) performer outcome act node → IsPerformer before (act_phase before) who → Contains (components_of before) (node_of who)
    there (Node other) same a has = has
    there (Sequence home id) same a has =
        let refused : outcome ≡ Refused NotOpen = closed id home same (rw same (a.closed id home)) in
        let e : Done ≡ Refused NotOpen = sym a.done ∙ refused in cc

    new : IsAdded (nodes_of before) performer outcome act node → (act ≡ test_creation script) ⊎ IsPerformer before (act_phase before) performer
        → IsOwned (nodes_of (Did performer outcome act ∷ before)) (components_of (Did performer outcome act ∷ before)) node
    new a (inl opens) = absurd (a.other script opens)
    new a (inr speaks) = record { below = a.below; owner = added _ a.under (contains-more (Did performer outcome act) before (node_of performer) (there performer refl a speaks)) }

    by : (is_imp_at (wiring_of before) node ≡ true) ⊎ IsAdded (nodes_of before) performer outcome act node → IsOwned (nodes_of (Did performer outcome act ∷ before)) (components_of (Did performer outcome act ∷ before)) node
    by (inl old) =
        let o = owned node old in
        let more = nodes_stay (Did performer outcome act) before in
        let fewer = nodes-more (Did performer outcome act) before in
        record {
          below = omega (arith, o.below, fewer);
          owner = stays (under_at (nodes_of before) node) _ (ap (λ (nodes : List tree.Node). under_at nodes node) more.1 ∙ ap (option_and_then (λ (found : tree.Node). found.under)) (get-before (nodes_of before) more.0 node o.below)) o.owner;
        }
    by (inr a) = new a who

-- what holds of all acts holds of the rest of them
rest-all : (P : Act → Type 0) (acts : List Act) → All P acts → All P (rest_of acts)
rest-all P [] all = all
rest-all P (act ∷ acts) all = All-tail P act acts all

left-all : (P : Act → Type 0) (outcome : Outcome) (acts : List Act) → All P acts → All P (left_after outcome acts)
left-all P Finished acts all = All-nil P
left-all P outcome acts all = rest-all P acts all

left-none : (outcome : Outcome) (acts : List Act) → acts ≡ [] → left_after outcome acts ≡ []
left-none Finished acts e = refl
left-none outcome acts e = ap rest_of e

-- who may act may act still, unless a phase begins or ends, or he has finished
pub performer-stays :
    (script : ScriptValue) (before : List Entry) (entry : Entry) (acting : Option Phase) (who : Who) → IsNext script before entry → GoesOn (entry ∷ before) → ended_of (entry ∷ before) ≡ ended_of before → finished_of (entry ∷ before) ≡ finished_of before
    → IsPerformer before acting who → IsPerformer (entry ∷ before) acting who
performer-stays script before entry acting (Node node) next on ended finished has = contains-more entry before node has
performer-stays script before entry acting (Sequence home id) next on ended finished s = record {
  phase = s.phase;
  sequence = sequence-more script before entry s.phase id home next on s.sequence;
  own = s.own;
  unfinished = ap (list_any (same_who (Sequence home id))) finished ∙ s.unfinished;
  unended = ap (list_any (same_phase s.phase)) ended ∙ s.unended;
}

-- an act leaves its performer speaking, unless it was his last
pub speaking-did : (script : ScriptValue) (before : List Entry) (performer : Who) (outcome : Outcome) (act : Act) → IsNext script before (Did performer outcome act) → GoesOn (Did performer outcome act ∷ before) → Speaking script before → Speaking script (Did performer outcome act ∷ before)
speaking-did script before performer outcome act next on (NoneLeft none) = NoneLeft (left-none outcome (remaining_acts script before) none)
speaking-did script before performer outcome act next on (Opens opens) = Opens (left-all (λ one. one ≡ test_creation script) outcome (remaining_acts script before) opens)
speaking-did script before performer Finished act next on (Speaks speaks) = NoneLeft refl
speaking-did script before performer outcome act next on (Speaks speaks) = Speaks (performer-stays script before (Did performer outcome act) (act_phase before) (performer_of before) next on refl refl speaks)

-- so does what the machine writes by itself, but for a note
pub speaking-on :
    (script : ScriptValue) (before : List Entry) (entry : Entry) → IsNext script before entry → GoesOn (entry ∷ before) → act_phase (entry ∷ before) ≡ act_phase before → ended_of (entry ∷ before) ≡ ended_of before → finished_of (entry ∷ before) ≡ finished_of before
    → remaining_acts script (entry ∷ before) ≡ remaining_acts script before → performer_of (entry ∷ before) ≡ performer_of before → Speaking script before → Speaking script (entry ∷ before)
speaking-on script before entry next on stage ended finished left performer (NoneLeft none) = NoneLeft (left ∙ none)
speaking-on script before entry next on stage ended finished left performer (Opens opens) = Opens (subst (All (λ one. one ≡ test_creation script)) (sym left) opens)
speaking-on script before entry next on stage ended finished left performer (Speaks speaks) = Speaks (rw (stage, performer) (performer-stays script before entry (act_phase before) (performer_of before) next on ended finished speaks))

-- one more sequence was started by who speaks
pub begun-starters :
    (script : ScriptValue) (before : List Entry) (performer : Who) (outcome : Outcome) (act : Act) → ParticipantsExist script before → IsNext script before (Did performer outcome act) → GoesOn (Did performer outcome act ∷ before) → (act ≡ test_creation script) ⊎ IsPerformer before (act_phase before) performer
    → All (IsStartedBy (Did performer outcome act ∷ before)) (starts_of (Did performer outcome act ∷ before))
begun-starters script before performer (Started id) act known next on who =
    All-cons (IsStartedBy (Did performer (Started id) act ∷ before)) _ (starts_of before) (by who) (starters-more script before (Did performer (Started id) act) next on known)
  where
    by : (act ≡ test_creation script) ⊎ IsPerformer before (act_phase before) performer → (phase : Phase) → act_phase before ≡ Some phase → IsExpected (Did performer (Started id) act ∷ before) phase performer
    by (inl opens) phase runs = absurd (starts-act script before performer id act next opens)
    by (inr speaks) phase runs = expected-more script before (Did performer (Started id) act) phase performer next on (performer-expected before phase performer runs known.acting speaks)
begun-starters script before performer outcome act known next on who = starters-more script before (Did performer outcome act) next on known

-- what the creation of the test tells no component or sequence is told to who speaks
pub expected-unless :
    (script : ScriptValue) (before : List Entry) (performer : Who) (outcome : Outcome) (act : Act) → IsNext script before (Did performer outcome act) → GoesOn (Did performer outcome act ∷ before) → IsActing before (act_phase before) → (call_to_performer outcome act ≡ None) ⊎ IsPerformer before (act_phase before) performer
    → (call_to_performer outcome act ≡ None) ⊎ ((p : Phase) → act_phase before ≡ Some p → IsExpected (Did performer outcome act ∷ before) p performer)
expected-unless script before performer outcome act next on stands (inl none) = inl none
expected-unless script before performer outcome act next on stands (inr speaks) = inr (λ p runs. expected-more script before (Did performer outcome act) p performer next on (performer-expected before p performer runs stands speaks))

pub more-component : {Idle : Type 0} (before : List Entry) (entry : Entry) (performer : Who) → Idle ⊎ IsComponent (components_of before) performer → Idle ⊎ IsComponent (components_of (entry ∷ before)) performer
more-component before entry performer (inl idle) = inl idle
more-component before entry performer (inr has) = inr (component-more entry before performer has)

-- so that who asks is one in the phase of the act
pub more-one :
    {Idle : Type 0} (script : ScriptValue) (before : List Entry) (entry : Entry) (performer : Who) → IsNext script before entry → GoesOn (entry ∷ before) → IsActing before (act_phase before) → Idle ⊎ IsComponent (components_of before) performer
    → Idle ⊎ ((p : Phase) → act_phase before ≡ Some p → IsOneIn (entry ∷ before) performer p)
more-one script before entry performer next on stands (inl idle) = inl idle
more-one script before entry performer next on stands (inr has) = inr (λ p is. (component-more entry before performer has, stands-more script before entry p next on (stands p is)))

pub more-driver :
    {Idle : Type 0} (script : ScriptValue) (before : List Entry) (entry : Entry) (performer : Who) → IsNext script before entry → GoesOn (entry ∷ before) → IsActing before (act_phase before) → Idle ⊎ IsComponent (components_of before) performer
    → Idle ⊎ IsDriver (entry ∷ before) performer (act_phase before)
more-driver script before entry performer next on stands (inl idle) = inl idle
more-driver script before entry performer next on stands (inr has) = inr (component-more entry before performer has, acting-more script before entry (act_phase before) next on stands)

-- the phase in which a component or sequence is expected is in progress, or has ended
pub expected-stands : (history : List Entry) (phase : Phase) (who : Who) → IsExpected history phase who → Stands history phase
expected-stands history phase (Node node) has = has.1
expected-stands history phase (Sequence home id) s = s.stands

-- what goes on goes on still, unless a phase begins or ends
pub going-did : (script : ScriptValue) (before : List Entry) (performer : Who) (outcome : Outcome) (act : Act) → (remaining_acts script before ≡ []) ⊎ IsGoing before (act_phase before) → (remaining_acts script (Did performer outcome act ∷ before) ≡ []) ⊎ IsGoing (Did performer outcome act ∷ before) (act_phase before)
going-did script before performer outcome act (inl none) = inl (left-none outcome (remaining_acts script before) none)
going-did script before performer outcome act (inr goes) = inr goes
