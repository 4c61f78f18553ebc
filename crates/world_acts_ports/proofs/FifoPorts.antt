-- What goes through FIFOs, once something is done at an open FIFO port.
use Rattle.world_acts_ports.proofs.Common.{◌≡◌, ℕ, suc, ◌<◌, ◌==◌, nat_eq, Bool, true, false, List, [], ◌∷◌, length, drop, slice_get, Option, Some, None, is_some, option_map, Contains, refl, ap, sym, ◌∙◌, subst, arith, if◌then◌else◌, IsDistinct, list_any, nat_tests, length-drop, Phase, same_phase, path_order, PortKind, Item, can_take, IsWiring, WiringValue, Fatal, Who, Act, Put, TryPut, Take, TryTake, Peek, Done, Stored, Taken, Entry, Did, ScriptValue, FifoPort, act_phase, nodes_of, ended_of, in_task, HasNotEnded, wiring_of, fifo_size, fifo_port_below, FifoValue, Requester, answered_at, is_no_put, is_put, items_entered, items_left, puts_asked, leads_to, puts_waiting, request_by, fifo_state_at, fifo_state_below, fifo_state_with, takes_asked, takes_now, takes_waiting, with_last, passing_refusal, Services, ArePassed, fifo_port_in, CanPerform, IsActContext, ServicesMatch, FifoMap, with_put, with_stored_if, with_taker, without_first_if, changed_if, item-stored, item-taken, put-asked, state, take-asked, closed-same, fifo-ordered, fifo_port-known, fifo_port-sized, node-put, node-stored, node-take, node-taken, passed-later, passing-same, refusal-known, settled-all, fifo_states-changed, fifos_to_settle-one, waits-now, IsKept}
use Rattle.bench_history.specs.Passing.{Request}
use Rattle.world_wiring.specs.FifosMatch.{IsPassed}
use Rattle.world_wiring.specs.FifoStates.{ChangesAt}
use Rattle.uvm_tlm.specs.declared.ends.PortKind.TheVariants as through

-- a FIFO port is open after a log
pub record IsFifoPort (history : List Entry) (services : Services) (kind : PortKind) (name : List ℕ) (phase : Phase) (fifo_port : FifoPort) : Type 0 where
  pub acts : act_phase history ≡ Some phase
  pub task : in_task (Some phase) ≡ true
  pub leads : fifo_port_below history services.answer.performer kind name ≡ Some fifo_port
  pub sized : fifo_size (wiring_of history) fifo_port.fifo ≡ None → ⊥
  pub distinct : IsDistinct nat_eq (path_order (nodes_of history))
  pub there : Contains (path_order (nodes_of history)) fifo_port.fifo
  pub unended : list_any (same_phase phase) (ended_of history) ≡ false

pub fifo_port-open :
    {script : ScriptValue} {history : List Entry} {act : Act} {place : ℕ} {services : Services} {kind : PortKind} {name : List ℕ} {phase : Phase} {fifo_port : FifoPort} → IsActContext script history act place services → CanPerform services
    → (services.answer.phase ≡ Some phase) × (in_task (Some phase) ≡ true) × (fifo_port_in services kind name ≡ Some fifo_port) × IsWiring services.wiring → IsFifoPort history services kind name phase fifo_port
fifo_port-open {history = history} {services = services} {kind} {name} {phase} {fifo_port} s can open_ =
    let m = s.known in
    let acts : act_phase history ≡ Some phase = sym m.answer.phase ∙ open_.0 in
    let closed = can.closed (ap in_task open_.0 ∙ open_.1) in
    let known = fifo_port-known m kind name closed ∙ open_.2 in
    let sized : fifo_size services.wiring fifo_port.fifo ≡ None → ⊥ = fifo_port-sized services.wiring _ fifo_port open_.2 in
    let order = open_.3.ordered (path_order (nodes_of history)) (ap (λ (w : WiringValue). w.order) (closed-same m.connecting closed)) in
    record {
      acts = acts;
      task = open_.1;
      leads = known;
      sized = λ none. sized (rw m.connecting.ends none);
      distinct = order.distinct;
      there = fifo-ordered (path_order (nodes_of history)) services.wiring fifo_port.fifo order sized;
      unended = subst (HasNotEnded (ended_of history)) acts s.in_phase.unended;
    }

-- so that nothing is refused there
pub open-does : {history : List Entry} {services : Services} {kind : PortKind} {name : List ℕ} {phase : Phase} {fifo_port : FifoPort} → IsFifoPort history services kind name phase fifo_port → passing_refusal (act_phase history) (is_some (fifo_port_below history services.answer.performer kind name)) ≡ None
unfolding passing_refusal
open-does g = rw (g.acts, g.leads, g.task) refl

-- and the FIFO that is reached is the FIFO port's
pub below-known : {history : List Entry} {services : Services} {kind : PortKind} {name : List ℕ} {phase : Phase} {fifo_port : FifoPort} → IsFifoPort history services kind name phase fifo_port → fifo_state_below history services.answer.performer kind name ≡ fifo_state_at history fifo_port.fifo
below-known g = rw g.leads refl

-- and else it is refused for that for which there is none
pub open-refuses :
    {script : ScriptValue} {history : List Entry} {services : Services} → ServicesMatch script history services → CanPerform services → (kind : PortKind) (name : List ℕ) (fatal : Fatal)
    → passing_refusal services.answer.phase (is_some (fifo_port_in services kind name)) ≡ Some fatal → passing_refusal (act_phase history) (is_some (fifo_port_below history services.answer.performer kind name)) ≡ Some fatal
open-refuses {history = history} {services} m can kind name fatal why =
    ap (λ (phase : Option Phase). passing_refusal phase (is_some (fifo_port_below history services.answer.performer kind name))) (sym m.answer.phase)
    ∙ refusal-known services.answer.phase (is_some (fifo_port_below history services.answer.performer kind name)) (is_some (fifo_port_in services kind name)) (λ task. ap is_some (fifo_port-known m kind name (can.closed task)))
    ∙ why

request-is :
    {Payload : Type 0} (n : ℕ) (performer : Who) (place : ℕ) (wished : List ℕ × Payload) (phase : Phase) (fifo_port : FifoPort) (acting : Option Phase) (fifo_port' : Option FifoPort) → acting ≡ Some phase → fifo_port' ≡ Some fifo_port
    → request_by n performer place wished acting fifo_port' ≡ (if fifo_port.fifo == n then Some (record { requester = record { place = place; who = performer; port = wished.0; phase = phase }; wish = wished.1 }) else None)
request-is n performer place wished phase fifo_port acting fifo_port' acts leads = rw (acts, leads) refl

-- a FIFO that is meant has a size
at-fifo_port : {history : List Entry} {services : Services} {kind : PortKind} {name : List ℕ} {phase : Phase} {fifo_port : FifoPort} → IsFifoPort history services kind name phase fifo_port → (n : ℕ) → (fifo_port.fifo == n) ≡ true → fifo_size (wiring_of history) n ≡ None → ⊥
at-fifo_port {history} {fifo_port = fifo_port} g n is none =
    let same : n ≡ fifo_port.fifo = grind (arith, nat_tests) in
    g.sized (rw (← same) none)

-- the item that is taken is one of those that are there
item-there : (xs : List Item) (item : Item) → slice_get xs 0 ≡ Some item → 0 < length xs
item-there [] item e = cc
item-there (x ∷ xs) item e = omega arith

taken-there : (fifo_state : Option (FifoValue Requester)) (item : Item) → takes_now fifo_state ≡ Some item → (s : FifoValue Requester) × (fifo_state ≡ Some s) × (0 < length s.items)
taken-there None item e = cc
taken-there (Some s) item e = tested (can_take s) e
  where
    tested : (b : Bool) → (if b then slice_get s.items 0 else None) ≡ Some item → (other : FifoValue Requester) × (Some s ≡ Some other) × (0 < length other.items)
    tested true e = (s, refl, item-there s.items item e)
    tested false e = cc

some-left : (size : Option ℕ) (entered : List Item) (left : ℕ) (fifo_state : FifoValue Requester) (puts : List (Request Item)) (takes : List (Request Bool)) → option_map (λ size. fifo_state_with size (drop left entered) puts takes) size ≡ Some fifo_state → 0 < length fifo_state.items → left < length entered
some-left None entered left fifo_state puts takes e some = cc
some-left (Some size) entered left fifo_state puts takes e some =
    let same : fifo_state_with size (drop left entered) puts takes ≡ fifo_state = cc in
    let here : 0 < length (drop left entered) = rw (ap (λ (s : FifoValue Requester). s.items) same) some in
    omega (arith, here, length-drop left entered)

same-if : (about : Bool) (item : Item) (fifo_state : Option (FifoValue Requester)) → fifo_state ≡ changed_if about (with_stored_if false item) fifo_state
same-if false item fifo_state = refl
same-if true item None = refl
same-if true item (Some fifo_state) = refl

same-unless : (about : Bool) (fifo_state : Option (FifoValue Requester)) → fifo_state ≡ changed_if about (without_first_if None) fifo_state
same-unless false fifo_state = refl
same-unless true None = refl
same-unless true (Some fifo_state) = refl

module _ {script : ScriptValue} {history : List Entry} {act : Act} {place : ℕ} {services : Services} (s : IsActContext script history act place services) {name : List ℕ} {phase : Phase} {fifo_port : FifoPort} {fifos_to_settle : List ℕ} where
  -- something is done at one FIFO, and may pass there
  kept-on :
      {new : FifoMap} {kind : PortKind} (entry : Entry) (change : FifoValue Requester → FifoValue Requester) → IsFifoPort history services kind name phase fifo_port → nodes_of (entry ∷ history) ≡ nodes_of history
      → ((n : ℕ) → fifo_state_at (entry ∷ history) n ≡ changed_if (fifo_port.fifo == n) change (fifo_state_at history n)) → ChangesAt fifo_port.fifo change services.fifo_states new → fifos_to_settle ≡ fifo_port.fifo ∷ []
      → ArePassed (length (entry ∷ history)) (fifo_size (wiring_of (entry ∷ history))) (items_entered (entry ∷ history)) (items_left (entry ∷ history)) (puts_asked (entry ∷ history)) (answered_at is_put (entry ∷ history)) (takes_asked (entry ∷ history)) (answered_at is_no_put (entry ∷ history))
      → IsKept (entry ∷ history) new fifos_to_settle
  kept-on entry change g nodes changes at is passed = record {
    fifo_states_are = fifo_states-changed fifo_port.fifo change changes at s.known.fifo_states;
    passed = passed;
    fifos_to_settle_are = rw (is, nodes) (fifos_to_settle-one (path_order (nodes_of history)) fifo_port.fifo g.distinct g.there (passing-same history (entry ∷ history) fifo_port.fifo change changes (settled-all history s.known.fifos_to_settle s.settled.unpassed)));
  }

  -- a put is asked for
  pub put-kept :
      (item : Item) (new : FifoMap) → IsFifoPort history services through.Put name phase fifo_port
      → ChangesAt fifo_port.fifo (with_put (record { place = place; who = services.answer.performer; port = name; phase = phase }) item) services.fifo_states new → fifos_to_settle ≡ fifo_port.fifo ∷ []
      → IsKept (Did services.answer.performer Done (Put name item) ∷ history) new fifos_to_settle
  put-kept item new g at is =
      let m = s.known in
      let request : Request Item = record { requester = record { place = length history; who = services.answer.performer; port = name; phase = phase }; wish = item } in
      let here = subst (λ (p : ℕ). ChangesAt fifo_port.fifo (with_put (record { place = p; who = services.answer.performer; port = name; phase = phase }) item) services.fifo_states new) (sym s.place_is) at in
      let asks = λ (n : ℕ). request-is n services.answer.performer (length history) (name, item) phase fifo_port (act_phase history) (fifo_port_below history services.answer.performer through.Put name) g.acts g.leads in
      kept-on (Did services.answer.performer Done (Put name item)) (with_put request.requester item) g refl
      (λ n. put-asked (fifo_size (wiring_of history) n) (items_entered history n) (items_left history n) (puts_asked history n) (answered_at is_put history n) (takes_asked history n) (answered_at is_no_put history n) (ended_of history) _ (fifo_port.fifo == n) request (asks n)
      (waits-now (answered_at is_put history n) (ended_of history) request (m.passed.each n).are_puts.answered_within g.unended))
      here is
      (record { each = λ n. node-put (m.passed.each n) _ (fifo_port.fifo == n) request (asks n) refl (at-fifo_port g n) })

  -- a take or a peek is
  module _ (peeks : Bool) (new : FifoMap) (g : IsFifoPort history services through.Get name phase fifo_port) (at : ChangesAt fifo_port.fifo (with_taker (record { place = place; who = services.answer.performer; port = name; phase = phase }) peeks) services.fifo_states new) (is : fifos_to_settle ≡ fifo_port.fifo ∷ []) where
    abbrev request : Request Bool
    request = record { requester = record { place = length history; who = services.answer.performer; port = name; phase = phase }; wish = peeks }

    abbrev asked : ℕ → Option (Request Bool)
    asked n = request_by n services.answer.performer (length history) (name, peeks) (act_phase history) (fifo_port_below history services.answer.performer through.Get name)

    asks : (n : ℕ) → asked n ≡ (if fifo_port.fifo == n then Some request else None)
    asks n = request-is n services.answer.performer (length history) (name, peeks) phase fifo_port (act_phase history) (fifo_port_below history services.answer.performer through.Get name) g.acts g.leads

    here : ChangesAt fifo_port.fifo (with_taker request.requester peeks) services.fifo_states new
    here = subst (λ (p : ℕ). ChangesAt fifo_port.fifo (with_taker (record { place = p; who = services.answer.performer; port = name; phase = phase }) peeks) services.fifo_states new) (sym s.place_is) at

    changes : (n : ℕ) → state (fifo_size (wiring_of history) n) (items_entered history n) (items_left history n) (puts_asked history n) (answered_at is_put history n) (with_last (takes_asked history n) (asked n)) (answered_at is_no_put history n) (ended_of history) ≡ changed_if (fifo_port.fifo == n) (with_taker request.requester peeks) (fifo_state_at history n)
    changes n =
        take-asked (fifo_size (wiring_of history) n) (items_entered history n) (items_left history n) (puts_asked history n) (answered_at is_put history n) (takes_asked history n) (answered_at is_no_put history n) (ended_of history) (asked n) (fifo_port.fifo == n) request (asks n)
        (waits-now (answered_at is_no_put history n) (ended_of history) request (s.known.passed.each n).are_takes.answered_within g.unended)

    more : (n : ℕ) → IsPassed (suc (length history)) (fifo_size (wiring_of history) n) (items_entered history n) (items_left history n) (puts_asked history n) (answered_at is_put history n) (with_last (takes_asked history n) (asked n)) (answered_at is_no_put history n)
    more n = node-take (s.known.passed.each n) (asked n) (fifo_port.fifo == n) request (asks n) refl (at-fifo_port g n)

  pub take-kept :
      (new : FifoMap) → IsFifoPort history services through.Get name phase fifo_port
      → ChangesAt fifo_port.fifo (with_taker (record { place = place; who = services.answer.performer; port = name; phase = phase }) false) services.fifo_states new → fifos_to_settle ≡ fifo_port.fifo ∷ []
      → IsKept (Did services.answer.performer Done (Take name) ∷ history) new fifos_to_settle
  take-kept new g at is = kept-on (Did services.answer.performer Done (Take name)) (with_taker (request false new g at is).requester false) g refl (changes false new g at is) (here false new g at is) is (record { each = more false new g at is })

  pub peek-kept :
      (new : FifoMap) → IsFifoPort history services through.Get name phase fifo_port
      → ChangesAt fifo_port.fifo (with_taker (record { place = place; who = services.answer.performer; port = name; phase = phase }) true) services.fifo_states new → fifos_to_settle ≡ fifo_port.fifo ∷ []
      → IsKept (Did services.answer.performer Done (Peek name) ∷ history) new fifos_to_settle
  peek-kept new g at is = kept-on (Did services.answer.performer Done (Peek name)) (with_taker (request true new g at is).requester true) g refl (changes true new g at is) (here true new g at is) is (record { each = more true new g at is })

  -- an item is put at once, or is not
  pub try-put-kept :
      (stored : Bool) (item : Item) (new : FifoMap) → IsFifoPort history services through.Put name phase fifo_port → ChangesAt fifo_port.fifo (with_stored_if stored item) services.fifo_states new → fifos_to_settle ≡ fifo_port.fifo ∷ []
      → IsKept (Did services.answer.performer (Stored stored) (TryPut name item) ∷ history) new fifos_to_settle
  try-put-kept false item new g at is = kept-on (Did services.answer.performer (Stored false) (TryPut name item)) (with_stored_if false item) g refl (λ n. same-if (fifo_port.fifo == n) item (fifo_state_at history n)) at is (passed-later s.known.passed)
  try-put-kept true item new g at is =
      let m = s.known in
      let stores : (n : ℕ) → (if leads_to n (fifo_port_below history services.answer.performer through.Put name) then Some item else None) ≡ (if fifo_port.fifo == n then Some item else None) = λ n. rw g.leads refl in
      kept-on (Did services.answer.performer (Stored true) (TryPut name item)) (with_stored_if true item) g refl
      (λ n. item-stored (fifo_size (wiring_of history) n) (items_entered history n) (items_left history n) (puts_asked history n) (answered_at is_put history n) (takes_asked history n) (answered_at is_no_put history n) (ended_of history) _ (fifo_port.fifo == n) item (stores n) (m.passed.each n).few)
      at is
      (record { each = λ n. node-stored (m.passed.each n) _ (fifo_port.fifo == n) item (stores n) (at-fifo_port g n) })

  -- an item is taken at once, or is not
  pub try-take-kept :
      (item : Option Item) (new : FifoMap) → item ≡ takes_now (fifo_state_at history fifo_port.fifo) → IsFifoPort history services through.Get name phase fifo_port → ChangesAt fifo_port.fifo (without_first_if item) services.fifo_states new → fifos_to_settle ≡ fifo_port.fifo ∷ []
      → IsKept (Did services.answer.performer (Taken item) (TryTake name) ∷ history) new fifos_to_settle
  try-take-kept None new takes g at is = kept-on (Did services.answer.performer (Taken None) (TryTake name)) (without_first_if None) g refl (λ n. same-unless (fifo_port.fifo == n) (fifo_state_at history n)) at is (passed-later s.known.passed)
  try-take-kept (Some item) new takes g at is =
      let m = s.known in
      let leads : (n : ℕ) → leads_to n (fifo_port_below history services.answer.performer through.Get name) ≡ (fifo_port.fifo == n) = λ n. rw g.leads refl in
      let found = taken-there (fifo_state_at history fifo_port.fifo) item (sym takes) in
      let some : items_left history fifo_port.fifo < length (items_entered history fifo_port.fifo) = some-left (fifo_size (wiring_of history) fifo_port.fifo) (items_entered history fifo_port.fifo) (items_left history fifo_port.fifo) found.0 (puts_waiting history fifo_port.fifo) (takes_waiting history fifo_port.fifo) found.1 found.2 in
      kept-on (Did services.answer.performer (Taken (Some item)) (TryTake name)) (without_first_if (Some item)) g refl
      (λ n. item-taken (fifo_size (wiring_of history) n) (items_entered history n) (items_left history n) (puts_asked history n) (answered_at is_put history n) (takes_asked history n) (answered_at is_no_put history n) (ended_of history) (leads_to n (fifo_port_below history services.answer.performer through.Get name)) (fifo_port.fifo == n) item (leads n))
      at is
      (record { each = λ n. node-taken (m.passed.each n) (leads_to n (fifo_port_below history services.answer.performer through.Get name)) (λ about. let same : fifo_port.fifo ≡ n = led n (sym (leads n) ∙ about) in subst (λ (n : ℕ). items_left history n < length (items_entered history n)) same some) })
    where
      led : (n : ℕ) → (fifo_port.fifo == n) ≡ true → fifo_port.fifo ≡ n
      led n e = grind (arith, nat_tests)
