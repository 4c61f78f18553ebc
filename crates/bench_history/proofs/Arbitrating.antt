-- Who is granted an item: by the order of the queue, and by priority.
use Rattle.bench_history.proofs.Common.{find, if◌then◌else◌, ◌≡◌, ◌<◌, ◌≤◌, ℕ, zero, suc, arith, length, map, nat_lt, Bool, true, false, not, ◌&&◌, ◌||◌, List, [], ◌∷◌, ◌++◌, filter, Option, Some, None, is_some, option_map, option_and_then, IfSome, refl, sym, subst, ap, ◌∙◌, nat_le, and_from, and_parts, list_all, list_any, All-nil, All-cons, All-head, All-tail, All-push, All-filter, All-weaker, All-contains, Mode, Fifo, StrictFifo, StrictRandom, Want, How, choice, contenders, is_drawn, is_greatest, is_random, readiness, wait_of, is_as_urgent, is_candidate, is_item, item_request, lock_in, lock_request, priority_of, is_under, candidates_at, choice_at, ready_at, lock_at, path_order, Entry, Did, Granted, Locked, Who, Act, Lock, Grab, Done, Outcome, ScriptValue, nodes_of, sequences_of, request_queue, ForGrab, ForItem, ForLock, SequencerRequest, all_requests, driver_state, holders, mode_at, next_served, request_priority, sequence_on, sequencer_with, serving_at, still_waits, sequencer_request, with_wish, chosen_at, IsNext, FifoOrder, HasDrawnOfGreatest, HasFirst, HasFirstOfGreatest, HasGreatest, IsAskedFor, StrictPriority, free_requests, is_free, is_unblocked, most_urgent, place_by, waiting_at, All, Contains, Request}
use Rattle.std.specs.List.{slice_get}
use Rattle.uvm_sequencer.specs.declared.requests.Want.TheVariants as want
use Rattle.uvm_sequencer.specs.Laws as sequencer
use Rattle.uvm_object.specs.declared.entries.Grant as entries
use Rattle.uvm_acts.specs.declared.acts.Act.TheVariants.{Request as Requests}
use Rattle.bench_history.proofs.Asking.{given-holds}
use Rattle.bench_history.proofs.Holding.{led-holds}
use Rattle.bench_history.proofs.Inversion.{comes}
use Rattle.bench_history.proofs.Olders.{older-each}

-- whether a word is drawn, by the mode and the candidates
abbrev IsDrawnBy : List Entry → ℕ × Bool → Type 0
IsDrawnBy history served = (mode : Mode) → mode_at history served.0 ≡ Some mode → served.1 ≡ is_drawn mode (candidates_at (sequences_of history) (sequencer_with history served.0 mode))

served-drawn : (history : List Entry) → IfSome (next_served history) (IsDrawnBy history)
unfolding next_served
served-drawn history = given-holds (serving_at history) (IsDrawnBy history) (path_order (nodes_of history)) (λ node. by node (mode_at history node) refl)
  where
    ready :
        (node : ℕ) (mode : Mode) (how : Option How) (requests : List Request) → mode_at history node ≡ Some mode → candidates_at (sequences_of history) (sequencer_with history node mode) ≡ requests
        → IfSome {T = ℕ × Bool} (option_map (λ (drawn : Bool). (node, drawn)) (readiness mode how requests)) (IsDrawnBy history)
    ready node mode None requests is are = tt
    ready node mode (Some how) [] is are = tt
    ready node mode (Some how) (request ∷ requests) is are = λ other at.
        let both : Some mode ≡ Some other = sym is ∙ at in
        let same : mode ≡ other = cc in
        subst (λ (one : Mode). is_drawn mode (request ∷ requests) ≡ is_drawn one (candidates_at (sequences_of history) (sequencer_with history node one))) same (ap (is_drawn mode) (sym are))

    by : (node : ℕ) (mode : Option Mode) → mode_at history node ≡ mode → IfSome {T = ℕ × Bool} (option_map (λ (drawn : Bool). (node, drawn)) (option_and_then (ready_at (sequences_of history)) (option_map (sequencer_with history node) mode))) (IsDrawnBy history)
    by node None is = tt
    by node (Some mode) is = ready node mode (wait_of (driver_state history node)) (candidates_at (sequences_of history) (sequencer_with history node mode)) is refl

word-drawn : (script : ScriptValue) (before : List Entry) (node : ℕ) (grant : entries.Grant) (mode : Mode) → IsNext script before (Granted node grant) → mode_at before node ≡ Some mode → is_some grant.word ≡ is_drawn mode (candidates_at (sequences_of before) (sequencer_with before node mode))
word-drawn script before node grant mode next at =
    let holds : IsDrawnBy before (node, is_some grant.word) = subst (λ (served : Option (ℕ × Bool)). IfSome served (IsDrawnBy before)) (comes script before (Granted node grant) next).served (served-drawn before) in
    holds mode at

-- and none is in a mode that goes without
no-word : (word : Option ℕ) → is_some word ≡ false → word ≡ None
no-word None e = refl
no-word (Some n) e = cc

-- who is granted is the choice of the mode, by the word of the grant; or without one
chosen-by : (script : ScriptValue) (before : List Entry) (node : ℕ) (grant : entries.Grant) (mode : Mode) → IsNext script before (Granted node grant) → mode_at before node ≡ Some mode
    → choice_at (sequences_of before) (sequencer_with before node mode) grant.word ≡ Some grant.id
chosen-by script before node grant mode next at =
    let chosen : chosen_at before node grant.word ≡ Some grant.id = (comes script before (Granted node grant) next).chosen in
    rw at at chosen

chosen-calm : (script : ScriptValue) (before : List Entry) (node : ℕ) (grant : entries.Grant) (mode : Mode) → IsNext script before (Granted node grant) → mode_at before node ≡ Some mode → is_random mode ≡ false
    → choice_at (sequences_of before) (sequencer_with before node mode) None ≡ Some grant.id
chosen-calm script before node grant mode next at calm =
    let requests = contenders mode (candidates_at (sequences_of before) (sequencer_with before node mode)) in
    let none = no-word grant.word (word-drawn script before node grant mode next at ∙ ap (λ (drawn : Bool). drawn && nat_lt 1 (length requests)) calm) in
    subst (λ (word : Option ℕ). choice_at (sequences_of before) (sequencer_with before node mode) word ≡ Some grant.id) none (chosen-by script before node grant mode next at)

-- requests for items stand in the queue as they were asked for
abbrev IsBehind : SequencerRequest → SequencerRequest → Type 0
IsBehind first later = is_item first.request ≡ true → is_item later.request ≡ true → first.place < later.place

abbrev AreInOrder : List SequencerRequest → Type 0
AreInOrder [] = Unit {0}
AreInOrder (first ∷ others) = All (IsBehind first) others × AreInOrder others

abbrev IsLow : ℕ → SequencerRequest → Type 0
IsLow place wish = wish.place < place

push-order : (wishes : List SequencerRequest) (last : SequencerRequest) → AreInOrder wishes → All (IsLow last.place) wishes → AreInOrder (wishes ++ last ∷ [])
push-order [] last order low = (All-nil (IsBehind last), tt)
push-order (first ∷ others) last order low =
    (All-push (IsBehind first) others last order.0 (λ item also. All-head (IsLow last.place) first others low), push-order others last order.1 (All-tail (IsLow last.place) first others low))

filter-order : (p : SequencerRequest → Bool) (wishes : List SequencerRequest) → AreInOrder wishes → AreInOrder (filter p wishes)
filter-order p [] order = tt
filter-order p (first ∷ others) order = tested (p first) (filter-order p others order.1)
  where
    tested : (b : Bool) → AreInOrder (filter p others) → AreInOrder (if b then first ∷ filter p others else filter p others)
    tested true rest = (All-filter p (IsBehind first) others order.0, rest)
    tested false rest = rest

-- each at its place
record AreAsked (history : List Entry) (node : ℕ) (wishes : List SequencerRequest) : Type 0 where
  low : All (IsLow (length history)) wishes
  order : AreInOrder wishes
  asked : All (λ wish. is_item wish.request ≡ true → IsAskedFor history node wish) wishes

abbrev IsItemAsked : List Entry → ℕ → SequencerRequest → Type 0
IsItemAsked history node wish = is_item wish.request ≡ true → IsAskedFor history node wish

asked-later : (entry : Entry) (history : List Entry) (node : ℕ) (wishes : List SequencerRequest) → AreAsked history node wishes → AreAsked (entry ∷ history) node wishes
asked-later entry history node wishes were = record {
  low = All-weaker (IsLow (length history)) (IsLow (suc (length history))) (λ wish low. omega (arith, low)) wishes were.low;
  order = were.order;
  asked = All-weaker (IsItemAsked history node) (IsItemAsked (entry ∷ history) node) later wishes were.asked;
}
  where
    later : (wish : SequencerRequest) → IsItemAsked history node wish → IsItemAsked (entry ∷ history) node wish
    later wish was item = let a = was item in record { performer = a.performer; given = a.given; later = entry ∷ a.later; before = a.before; splits = ap (λ log. entry ∷ log) a.splits; place = a.place; sequence = a.sequence; priority = a.priority }

asked-last : (entry : Entry) (before : List Entry) (node : ℕ) (request : Request) (wishes : List SequencerRequest) → AreAsked before node wishes → IsItemAsked (entry ∷ before) node (sequencer_request (length before) request) → AreAsked (entry ∷ before) node (wishes ++ sequencer_request (length before) request ∷ [])
asked-last entry before node request wishes were is =
    let still = asked-later entry before node wishes were in
    record {
      low = All-push (IsLow (suc (length before))) wishes (sequencer_request (length before) request) still.low (omega arith);
      order = push-order wishes (sequencer_request (length before) request) were.order were.low;
      asked = All-push (IsItemAsked (entry ∷ before) node) wishes (sequencer_request (length before) request) still.asked is;
    }

asked-first : (entry : Entry) (before : List Entry) (node id : ℕ) (wishes : List SequencerRequest) → AreAsked before node wishes → AreAsked (entry ∷ before) node (sequencer_request (length before) (lock_request id) ∷ wishes)
asked-first entry before node id wishes were =
    let still = asked-later entry before node wishes were in
    let lock = sequencer_request (length before) (lock_request id) in
    record {
      low = All-cons (IsLow (suc (length before))) lock wishes (omega arith) still.low;
      order = (all wishes, were.order);
      asked = All-cons (IsItemAsked (entry ∷ before) node) lock wishes (λ item. cc) still.asked;
    }
  where
    all : (others : List SequencerRequest) → All (IsBehind (sequencer_request (length before) (lock_request id))) others
    all [] = All-nil _
    all (other ∷ others) = All-cons (IsBehind (sequencer_request (length before) (lock_request id))) other others (λ item also. cc) (all others)

asked-did : (before : List Entry) (node : ℕ) (performer : Who) (outcome : Outcome) (act : Act) → AreAsked before node (all_requests before node) → AreAsked (Did performer outcome act ∷ before) node (all_requests (Did performer outcome act ∷ before) node)
asked-did before node performer Done (Requests given) were = by (sequence_on node performer) refl
  where
    entry : Entry
    entry = Did performer Done (Requests given)

    by : (found : Option ℕ) → sequence_on node performer ≡ found → AreAsked (entry ∷ before) node (with_wish (sequences_of before) (length before) (Some (ForItem given)) found (all_requests before node))
    by None on = asked-later entry before node (all_requests before node) were
    by (Some id) on =
        asked-last entry before node (item_request id (request_priority (sequences_of before) id given)) (all_requests before node) were
        (λ item. record { performer = performer; given = given; later = []; before = before; splits = refl; place = refl; sequence = on; priority = refl })
asked-did before node performer Done Lock were = by (sequence_on node performer)
  where
    by : (found : Option ℕ) → AreAsked (Did performer Done Lock ∷ before) node (with_wish (sequences_of before) (length before) (Some ForLock) found (all_requests before node))
    by None = asked-later (Did performer Done Lock) before node (all_requests before node) were
    by (Some id) = asked-last (Did performer Done Lock) before node (lock_request id) (all_requests before node) were (λ item. cc)
asked-did before node performer Done Grab were = by (sequence_on node performer)
  where
    by : (found : Option ℕ) → AreAsked (Did performer Done Grab ∷ before) node (with_wish (sequences_of before) (length before) (Some ForGrab) found (all_requests before node))
    by None = asked-later (Did performer Done Grab) before node (all_requests before node) were
    by (Some id) = asked-first (Did performer Done Grab) before node id (all_requests before node) were
asked-did before node performer outcome act were = asked-later (Did performer outcome act) before node (all_requests before node) were

asked-more : (entry : Entry) (before : List Entry) (node : ℕ) → AreAsked before node (all_requests before node) → AreAsked (entry ∷ before) node (all_requests (entry ∷ before) node)
asked-more (Did performer outcome act) before node were = asked-did before node performer outcome act were
asked-more entry before node were = asked-later entry before node (all_requests before node) were

asked-of : (history : List Entry) (node : ℕ) → AreAsked history node (all_requests history node)
asked-of [] node = record { low = All-nil _; order = tt; asked = All-nil _ }
asked-of (entry ∷ before) node = asked-more entry before node (asked-of before node)

-- so the first that passes a test of items is the earliest
record IsEarliest (wishes : List SequencerRequest) (p : Request → Bool) (request : Request) : Type 0 where
  wish : SequencerRequest
  is : wish.request ≡ request
  waits : Contains wishes wish
  passes : p wish.request ≡ true
  earliest : All (λ other. p other.request ≡ true → wish.place ≤ other.place) wishes

earliest-of : (p : Request → Bool) → ((request : Request) → p request ≡ true → is_item request ≡ true) → (wishes : List SequencerRequest) (request : Request) → AreInOrder wishes → slice_get (filter p (map (λ (wish : SequencerRequest). wish.request) wishes)) 0 ≡ Some request → IsEarliest wishes p request
earliest-of p items [] request order e = cc
earliest-of p items (first ∷ others) request order e = tested (p first.request) refl e (earliest-of p items others request order.1)
  where
    low : (b : SequencerRequest) → (p first.request ≡ true) → IsBehind first b → p b.request ≡ true → first.place ≤ b.place
    low b one behind two = let less = behind (items first.request one) (items b.request two) in omega (arith, less)

    tested :
        (b : Bool) → p first.request ≡ b → slice_get (if b then first.request ∷ filter p (map (λ (wish : SequencerRequest). wish.request) others) else filter p (map (λ (wish : SequencerRequest). wish.request) others)) 0 ≡ Some request
        → (slice_get (filter p (map (λ (wish : SequencerRequest). wish.request) others)) 0 ≡ Some request → IsEarliest others p request) → IsEarliest (first ∷ others) p request
    tested true is e more = record {
      wish = first;
      is = cc;
      waits = (0, omega arith, refl);
      passes = is;
      earliest = All-cons (λ (other : SequencerRequest). p other.request ≡ true → first.place ≤ other.place) first others (λ passes. omega arith) (All-weaker (IsBehind first) (λ (other : SequencerRequest). p other.request ≡ true → first.place ≤ other.place) (λ other behind. low other is behind) others order.0);
    }
    tested false is e more =
        let m = more e in
        record {
          wish = m.wish;
          is = m.is;
          waits = let within = m.waits.1 in (suc m.waits.0, omega (arith, within), m.waits.2);
          passes = m.passes;
          earliest = All-cons (λ (other : SequencerRequest). p other.request ≡ true → m.wish.place ≤ other.place) first others (λ passes. cc) m.earliest;
        }

first-of : (order : sequencer.FifoOrder) (before : List Entry) (node id : ℕ) (found : Option Request) → choice Fifo (candidates_at (sequences_of before) (sequencer_with before node Fifo)) None ≡ found → option_map (λ (request : Request). request.seq) found ≡ Some id
    → HasFirst before node id
first-of order before node id None is e = cc
first-of order before node id (Some request) is e =
    let seq_is : request.seq ≡ id = cc in
    let asked = asked-of before node in
    let first = earliest-of (is_free before node) (λ one free. (and_parts (is_item one) _ free).0) (waiting_at before node) request (filter-order (still_waits before node) (all_requests before node) asked.order) is in
    record {
      wish = first.wish;
      seq_is = ap (λ (one : Request). one.seq) first.is ∙ seq_is;
      waits = first.waits;
      asked = All-contains (IsItemAsked before node) (waiting_at before node) first.wish (All-filter (still_waits before node) (IsItemAsked before node) (all_requests before node) asked.asked) first.waits (and_parts (is_item first.wish.request) _ first.passes).0;
      first = subst (sequencer.IsFirst (is_free before node) (request_queue before node)) (sym first.is) (order (sequences_of before) (sequencer_with before node Fifo) request refl is);
      earliest = first.earliest;
    }

-- the lock that leads is the first request that is not blocked
first-found : (p : Request → Bool) (queue : List Request) (request : Request) → find p queue ≡ Some request → sequencer.IsFirst p queue request
first-found p [] request e = cc
first-found p (first ∷ others) request e = tested (p first) refl e (first-found p others request)
  where
    tested : (b : Bool) → p first ≡ b → (if b then Some first else find p others) ≡ Some request → (find p others ≡ Some request → sequencer.IsFirst p others request) → sequencer.IsFirst p (first ∷ others) request
    tested true is e more = let same : first ≡ request = cc in record { before = []; after = others; splits = ap (λ one. one ∷ others) same; passes = ap p (sym same) ∙ is; none_before = refl }
    tested false is e more = let m = more e in record { before = first ∷ m.before; after = m.after; splits = ap (λ list. first ∷ list) m.splits; passes = m.passes; none_before = rw is m.none_before }

lock-is : (request : Request) (want : Want) (id : ℕ) → request.want ≡ want → lock_in request ≡ Some id → request ≡ lock_request id
lock-is request (want.Item priority) id is e = let none : lock_in request ≡ None = rw is refl in let both : None ≡ Some id = sym none ∙ e in cc
lock-is request want.Lock id is e = let own : lock_in request ≡ Some request.seq = rw is refl in let both : Some request.seq ≡ Some id = sym own ∙ e in let same : request.seq ≡ id = cc in λ i. record { seq = same i; want = is i }

lock-first : (before : List Entry) (node : ℕ) (mode : Mode) (id : ℕ) → lock_at (sequences_of before) (sequencer_with before node mode) ≡ Some id → sequencer.IsFirst (is_unblocked before node) (request_queue before node) (lock_request id)
lock-first before node mode id e = by (find (is_unblocked before node) (request_queue before node)) refl e
  where
    by : (found : Option Request) → find (is_unblocked before node) (request_queue before node) ≡ found → option_and_then lock_in found ≡ Some id → sequencer.IsFirst (is_unblocked before node) (request_queue before node) (lock_request id)
    by None is e = cc
    by (Some request) is e = subst (sequencer.IsFirst (is_unblocked before node) (request_queue before node)) (lock-is request request.want id refl e) (first-found (is_unblocked before node) (request_queue before node) request is)

pub fifo_order : sequencer.FifoOrder → FifoOrder
fifo_order order = record {
  items = λ script later before node grant legal fifo.
      let next = (older-each script later (Granted node grant ∷ before) legal.each).0 in
      first-of order before node grant.id _ refl (chosen-calm script before node grant Fifo next fifo refl);
  locks = λ script later before node id legal.
      let next = (older-each script later (Locked node id ∷ before) legal.each).0 in
      subst (λ (led : Option (ℕ × ℕ)). IfSome led (λ led. sequencer.IsFirst (is_unblocked before led.0) (request_queue before led.0) (lock_request led.1))) (comes script before (Locked node id) next)
      (led-holds before (λ led. sequencer.IsFirst (is_unblocked before led.0) (request_queue before led.0) (lock_request led.1)) (lock-first before));
}

-- what waits in the queue was asked for by an act
wish-of : (wishes : List SequencerRequest) (request : Request) → Contains (map (λ (wish : SequencerRequest). wish.request) wishes) request → (wish : SequencerRequest) × (wish.request ≡ request) × Contains wishes wish
wish-of [] request has = absurd (omega (arith, has.1))
wish-of (wish ∷ wishes) request (zero, low, at) = (wish, at, (0, omega arith, refl))
wish-of (wish ∷ wishes) request (suc k, low, at) =
    let more = wish-of wishes request (k, omega (arith, low), at) in
    let within = more.2.1 in
    (more.0, more.1, (suc more.2.0, omega (arith, within), more.2.2))

greatest-at : (before : List Entry) (node id : ℕ) (request : Request) → request.seq ≡ id → Contains (request_queue before node) request → is_free before node request ≡ true → All (λ other. priority_of other ≤ priority_of request) (free_requests before node)
    → (wish : SequencerRequest) × (wish.request ≡ request) × HasGreatest before node id wish
greatest-at before node id request seq_is waits free greatest =
    let found = wish-of (waiting_at before node) request waits in
    let is_item_of_it : is_item found.0.request ≡ true = (and_parts (is_item found.0.request) _ (subst (λ (one : Request). is_free before node one ≡ true) (sym found.1) free)).0 in (
      found.0,
      found.1,
      record {
        seq_is = ap (λ (one : Request). one.seq) found.1 ∙ seq_is;
        waits = found.2;
        asked = All-contains (IsItemAsked before node) (waiting_at before node) found.0 (All-filter (still_waits before node) (IsItemAsked before node) (all_requests before node) (asked-of before node).asked) found.2 is_item_of_it;
        free = subst (λ (one : Request). is_free before node one ≡ true) (sym found.1) free;
        greatest = subst (λ (one : Request). All (λ other. priority_of other ≤ priority_of one) (free_requests before node)) (sym found.1) greatest;
      },
    )

-- the greatest priority, and the first that has it
first-greatest :
    (excludes : sequencer.LockExcludes) (strict : sequencer.StrictPriority) (before : List Entry) (node id : ℕ) (found : Option Request) → choice StrictFifo (candidates_at (sequences_of before) (sequencer_with before node StrictFifo)) None ≡ found
    → option_map (λ (request : Request). request.seq) found ≡ Some id → HasFirstOfGreatest before node id
first-greatest excludes strict before node id None is e = cc
first-greatest excludes strict before node id (Some request) is e =
    let seq_is : request.seq ≡ id = cc in
    let first = strict.first (sequences_of before) (sequencer_with before node StrictFifo) request refl is in
    let waits = (excludes.items (sequences_of before) (sequencer_with before node StrictFifo) None request is).1.waits in
    let free = (and_parts (is_candidate (sequences_of before) (holders before node) request) (nat_le (priority_of request) (priority_of request)) first.passes).0 in
    let found = greatest-at before node id request seq_is waits free (strict.greatest (sequences_of before) (sequencer_with before node StrictFifo) None request refl is) in
    record {
      wish = found.0;
      greatest = found.2;
      first = subst (λ (one : Request). sequencer.IsFirst (is_as_urgent (sequences_of before) (holders before node) (priority_of one)) (request_queue before node) one) (sym found.1) first;
    }

-- or the one that a word gives
none-blocked : (p : ℕ → Bool) (holders : List ℕ) → list_all p holders ≡ true → not (list_any (λ (holder : ℕ). not (p holder)) holders) ≡ true
none-blocked p [] all = refl
none-blocked p (holder ∷ others) all = by (p holder) all (none-blocked p others)
  where
    by : (passes : Bool) → (passes && list_all p others) ≡ true → (list_all p others ≡ true → not (list_any (λ (holder : ℕ). not (p holder)) others) ≡ true) → not (not passes || list_any (λ (holder : ℕ). not (p holder)) others) ≡ true
    by true all more = more all
    by false all more = cc

place-chosen : (word : Option ℕ) (requests : List Request) (request : Request) → choice StrictRandom requests word ≡ Some request → slice_get (filter (is_greatest requests) requests) (place_by word (filter (is_greatest requests) requests)) ≡ Some request
place-chosen None requests request is = is
place-chosen (Some word) requests request is = is

drawn-greatest :
    (excludes : sequencer.LockExcludes) (strict : sequencer.StrictPriority) (before : List Entry) (node : ℕ) (grant : entries.Grant) (found : Option Request)
    → choice StrictRandom (candidates_at (sequences_of before) (sequencer_with before node StrictRandom)) grant.word ≡ found → option_map (λ (request : Request). request.seq) found ≡ Some grant.id
    → is_some grant.word ≡ nat_lt 1 (length (most_urgent before node)) → HasDrawnOfGreatest before node grant
drawn-greatest excludes strict before node grant None is e drawn = cc
drawn-greatest excludes strict before node grant (Some request) is e drawn =
    let seq_is : request.seq ≡ grant.id = cc in
    let item = excludes.items (sequences_of before) (sequencer_with before node StrictRandom) grant.word request is in
    let free = and_from (is_item request) (is_unblocked before node request) item.0 (none-blocked (λ (holder : ℕ). is_under (sequences_of before) request.seq holder) (holders before node) item.1.under) in
    let found = greatest-at before node grant.id request seq_is item.1.waits free (strict.greatest (sequences_of before) (sequencer_with before node StrictRandom) grant.word request refl is) in
    record { wish = found.0; greatest = found.2; drawn = drawn; chosen = place-chosen grant.word (free_requests before node) request is ∙ ap (λ (one : Request). Some one) (sym found.1) }

pub strict_priority : sequencer.LockExcludes → sequencer.StrictPriority → StrictPriority
strict_priority excludes strict = record {
  fifo = λ script later before node grant legal mode.
      let next = (older-each script later (Granted node grant ∷ before) legal.each).0 in
      first-greatest excludes strict before node grant.id _ refl (chosen-calm script before node grant StrictFifo next mode refl);
  random = λ script later before node grant legal mode.
      let next = (older-each script later (Granted node grant ∷ before) legal.each).0 in
      drawn-greatest excludes strict before node grant _ refl (chosen-by script before node grant StrictRandom next mode) (word-drawn script before node grant StrictRandom next mode);
}
