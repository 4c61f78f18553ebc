-- A sequence waits for one item at most.
use Rattle.bench_history.proofs.Common.{◌≡◌, ◌≤◌, ◌+◌, ℕ, Bool, true, false, not, nat_lt, ◌&&◌, ◌||◌, ◌==◌, List, [], ◌∷◌, ◌++◌, length, filter, map, Option, Some, None, IsSome, is_some, option_map, option_and_then, refl, ap, subst, ◌∙◌, arith, if◌then◌else◌, and_parts, or_parts, list_any, nat_tests, filter-append, first_given, fault_if, OrderKeepsAll, Mode, grant_of, is_item, is_item_of, item_request, lock_request, Who, Call, Act, Lock, Grab, Fatal, AskedTwice, NotOpen, OutOfRange, Outcome, Done, Entry, Did, Granted, ScriptValue, EventTarget, is_live, sequences_of, ForGrab, ForItem, ForLock, SequencerRequest, all_requests, driver_state, granted_since, grants_at, locks_at, mode_at, request_priority, request_queue, sequence_on, sequencer_at, sequencer_with, sequencer_request, with_wish, is_none_at_all, is_open_to, item_refusal, request_refusal, ComesTo, IsNext, EachIsNext, ItemWaitsAreSingle, length-append, LockExcludes}
use Rattle.uvm_acts.specs.declared.acts.Who.TheVariants as who
use Rattle.uvm_acts.specs.declared.acts.Act.TheVariants.{Request as Requests}
use Rattle.bench_history.proofs.Awaiting.{not-refused, effect-next}
use Rattle.bench_history.proofs.Sending.{home-mode, on-home, performer-living}

-- what is wanted is an item for a sequence, and was not granted since
abbrev is_open_for : List (ℕ × ℕ) → ℕ → SequencerRequest → Bool
is_open_for grants id w = is_item_of id w.request && not (granted_since grants w)

abbrev AreSingle : List (ℕ × ℕ) → List SequencerRequest → Type 0
AreSingle grants wishes = (id : ℕ) → length (filter (is_open_for grants id) wishes) ≤ 1

fewer : (p q : SequencerRequest → Bool) → ((w : SequencerRequest) → q w ≡ true → p w ≡ true) → (wishes : List SequencerRequest) → length (filter q wishes) ≤ length (filter p wishes)
fewer p q within [] = omega arith
fewer p q within (w ∷ wishes) = tested (p w) (q w) refl refl (fewer p q within wishes)
  where
    tested : (a b : Bool) → p w ≡ a → q w ≡ b → length (filter q wishes) ≤ length (filter p wishes) → length (if b then w ∷ filter q wishes else filter q wishes) ≤ length (if a then w ∷ filter p wishes else filter p wishes)
    tested true true is at rest = omega (arith, rest)
    tested true false is at rest = omega (arith, rest)
    tested false true is at rest = let passes = within w at in cc
    tested false false is at rest = rest

-- one more grant leaves fewer
and-not : (a b c : Bool) → (a && not (b || c)) ≡ true → (a && not c) ≡ true
and-not true true c e = cc
and-not true false c e = e
and-not false b c e = cc

granted-single : (here : Bool) (grant : ℕ × ℕ) (grants : List (ℕ × ℕ)) (wishes : List SequencerRequest) → AreSingle grants wishes → AreSingle (if here then grant ∷ grants else grants) wishes
granted-single false grant grants wishes single id = single id
granted-single true grant grants wishes single id =
    let low = fewer (is_open_for grants id) (is_open_for (grant ∷ grants) id) (λ w. and-not (is_item_of id w.request) ((grant.0 == w.request.seq) && nat_lt w.place grant.1) (granted_since grants w)) wishes in
    let one = single id in
    omega (arith, low, one)

-- what is no item counts for no component or sequence
no-item : (a b : Bool) → ((a && false) && b) ≡ false
no-item true b = refl
no-item false b = refl

last-count : (p : SequencerRequest → Bool) (wishes : List SequencerRequest) (last : SequencerRequest) → length (filter p (wishes ++ last ∷ [])) ≡ length (filter p wishes) + length (filter p (last ∷ []))
last-count p wishes last = ap length (filter-append p wishes (last ∷ [])) ∙ length-append (filter p wishes) (filter p (last ∷ []))

lock-last : (grants : List (ℕ × ℕ)) (place id : ℕ) (wishes : List SequencerRequest) → AreSingle grants wishes → AreSingle grants (wishes ++ sequencer_request place (lock_request id) ∷ [])
lock-last grants place id wishes single n =
    let none : is_open_for grants n (sequencer_request place (lock_request id)) ≡ false = no-item (id == n) _ in
    let count = last-count (is_open_for grants n) wishes (sequencer_request place (lock_request id)) in
    let empty : length (filter (is_open_for grants n) (sequencer_request place (lock_request id) ∷ [])) ≡ 0 = rw none refl in
    let one = single n in
    omega (arith, count, empty, one)

lock-first : (grants : List (ℕ × ℕ)) (place id : ℕ) (wishes : List SequencerRequest) → AreSingle grants wishes → AreSingle grants (sequencer_request place (lock_request id) ∷ wishes)
lock-first grants place id wishes single n =
    let none : is_open_for grants n (sequencer_request place (lock_request id)) ≡ false = no-item (id == n) _ in
    rw none (single n)

at-most-one : (p : SequencerRequest → Bool) (w : SequencerRequest) → length (filter p (w ∷ [])) ≤ 1
at-most-one p w = by (p w)
  where
    by : (b : Bool) → length (if b then w ∷ [] else []) ≤ 1
    by true = omega arith
    by false = omega arith

item-last : (grants : List (ℕ × ℕ)) (place id priority : ℕ) (wishes : List SequencerRequest) → length (filter (is_open_for grants id) wishes) ≡ 0 → AreSingle grants wishes → AreSingle grants (wishes ++ sequencer_request place (item_request id priority) ∷ [])
item-last grants place id priority wishes none single n = by (id == n) refl
  where
    new : SequencerRequest
    new = sequencer_request place (item_request id priority)

    by : (same : Bool) → (id == n) ≡ same → length (filter (is_open_for grants n) (wishes ++ new ∷ [])) ≤ 1
    by true is =
        let one : id ≡ n = grind (arith, nat_tests, is) in
        let before : length (filter (is_open_for grants n) wishes) ≡ 0 = rw (← one) none in
        let count = last-count (is_open_for grants n) wishes new in
        let most = at-most-one (is_open_for grants n) new in
        omega (arith, count, before, most)
    by false is =
        let apart : is_open_for grants n new ≡ false = rw is refl in
        let empty : length (filter (is_open_for grants n) (new ∷ [])) ≡ 0 = rw apart refl in
        let count = last-count (is_open_for grants n) wishes new in
        let one = single n in
        omega (arith, count, empty, one)

-- where a sequence may ask for an item it waits for none
same-seq : (id seq : ℕ) (item : Bool) → ((seq == id) && item) ≡ true → (seq ≡ id) × (item ≡ true)
same-seq id seq item e = by (seq == id) refl e
  where
    by : (b : Bool) → (seq == id) ≡ b → (b && item) ≡ true → (seq ≡ id) × (item ≡ true)
    by true is e = (grind (arith, nat_tests, is), e)
    by false is e = cc

not-open : (live : ℕ → Bool) (grants locks : List (ℕ × ℕ)) (id : ℕ) (w : SequencerRequest) → live id ≡ true → (live w.request.seq && not (granted_since (if is_item w.request then grants else locks) w)) ≡ false → is_open_for grants id w ≡ false
not-open live grants locks id w alive still = by (is_item_of id w.request) refl
  where
    by : (b : Bool) → is_item_of id w.request ≡ b → (b && not (granted_since grants w)) ≡ false
    by false is = refl
    by true is = let own = same-seq id w.request.seq (is_item w.request) is in let lives : live w.request.seq ≡ true = ap live own.0 ∙ alive in rw (lives, own.1) at still

none-open :
    (live : ℕ → Bool) (grants locks : List (ℕ × ℕ)) (id : ℕ) (wishes : List SequencerRequest) → live id ≡ true
    → list_any (is_item_of id) (map (λ (w : SequencerRequest). w.request) (filter (λ (w : SequencerRequest). live w.request.seq && not (granted_since (if is_item w.request then grants else locks) w)) wishes)) ≡ false
    → length (filter (is_open_for grants id) wishes) ≡ 0
none-open live grants locks id [] alive none = refl
none-open live grants locks id (w ∷ wishes) alive none = tested (live w.request.seq && not (granted_since (if is_item w.request then grants else locks) w)) refl none (none-open live grants locks id wishes alive)
  where
    rest : List SequencerRequest
    rest = filter (λ (w : SequencerRequest). live w.request.seq && not (granted_since (if is_item w.request then grants else locks) w)) wishes

    tested :
        (b : Bool) → (live w.request.seq && not (granted_since (if is_item w.request then grants else locks) w)) ≡ b → list_any (is_item_of id) (map (λ (w : SequencerRequest). w.request) (if b then w ∷ rest else rest)) ≡ false
        → (list_any (is_item_of id) (map (λ (w : SequencerRequest). w.request) rest) ≡ false → length (filter (is_open_for grants id) wishes) ≡ 0) → length (filter (is_open_for grants id) (w ∷ wishes)) ≡ 0
    tested true is none more =
        let parts = or_parts (is_item_of id w.request) (list_any (is_item_of id) (map (λ (w : SequencerRequest). w.request) rest)) none in
        let closed : is_open_for grants id w ≡ false = rw (parts.0) refl in
        rw closed (more parts.1)
    tested false is none more =
        let closed = not-open live grants locks id w alive is in
        rw closed (more none)

second-none : (first second : Option Fatal) → first_given (first ∷ second ∷ []) ≡ None → second ≡ None
second-none (Some fatal) second e = cc
second-none None (Some fatal) e = cc
second-none None None e = refl

request-none : (given : Option ℕ) (refusal : Option Fatal) → request_refusal given refusal ≡ None → refusal ≡ None
unfolding request_refusal
request-none given refusal e = second-none (fault_if (is_none_at_all given) OutOfRange) refusal e

free-at : (before : List Entry) (node id : ℕ) (mode : Option Mode) → IsSome mode → option_and_then (item_refusal id) (option_map (sequencer_with before node) mode) ≡ None → list_any (is_item_of id) (request_queue before node) ≡ false
free-at before node id None some e = cc
free-at before node id (Some mode) some e = by (list_any (is_item_of id) (request_queue before node)) (is_some (grant_of id (driver_state before node))) e
  where
    by : (a b : Bool) → fault_if (a || b) AskedTwice ≡ None → a ≡ false
    by true b e = cc
    by false b e = refl

module _ (keeps : OrderKeepsAll EventTarget (Option Call)) (excludes : LockExcludes) where
  asks-none : (script : ScriptValue) (before : List Entry) (node id : ℕ) (given : Option ℕ) → EachIsNext script before → IsNext script before (Did (who.Sequence node id) Done (Requests given)) → length (filter (is_open_for (grants_at before node) id) (all_requests before node)) ≡ 0
  asks-none script before node id given each next =
      let there = performer-living keeps excludes script before node id Done (Requests given) each next (λ opens. cc) in
      let mode = home-mode keeps excludes script before node id Done (Requests given) each next (λ opens. cc) in
      let none =
      not-refused (who.Sequence node id) Done (Requests given) (fault_if (not (is_open_to (Requests given) (who.Sequence node id))) NotOpen) (request_refusal given (option_and_then (item_refusal id) (sequencer_at before node))) (ComesTo Done) refl
      (effect-next script before (who.Sequence node id) Done (Requests given) next) in
      let free = free-at before node id (mode_at before node) mode (request-none given (option_and_then (item_refusal id) (sequencer_at before node)) none) in
      none-open (is_live before) (grants_at before node) (locks_at before node) id (all_requests before node) there.lives free

  single-did : (script : ScriptValue) (before : List Entry) (node : ℕ) (performer : Who) (outcome : Outcome) (act : Act) → EachIsNext script before → IsNext script before (Did performer outcome act)
      → AreSingle (grants_at before node) (all_requests before node) → AreSingle (grants_at before node) (all_requests (Did performer outcome act ∷ before) node)
  single-did script before node performer Done (Requests given) each next single = by (sequence_on node performer) refl
    where
      by : (found : Option ℕ) → sequence_on node performer ≡ found → AreSingle (grants_at before node) (with_wish (sequences_of before) (length before) (Some (ForItem given)) found (all_requests before node))
      by None on = single
      by (Some id) on =
          item-last (grants_at before node) (length before) id (request_priority (sequences_of before) id given) (all_requests before node)
          (asks-none script before node id given each (subst (λ (one : Who). IsNext script before (Did one Done (Requests given))) (on-home node performer id on) next)) single
  single-did script before node performer Done Lock each next single = by (sequence_on node performer)
    where
      by : (found : Option ℕ) → AreSingle (grants_at before node) (with_wish (sequences_of before) (length before) (Some ForLock) found (all_requests before node))
      by None = single
      by (Some id) = lock-last (grants_at before node) (length before) id (all_requests before node) single
  single-did script before node performer Done Grab each next single = by (sequence_on node performer)
    where
      by : (found : Option ℕ) → AreSingle (grants_at before node) (with_wish (sequences_of before) (length before) (Some ForGrab) found (all_requests before node))
      by None = single
      by (Some id) = lock-first (grants_at before node) (length before) id (all_requests before node) single
  single-did script before node performer outcome act each next single = single

  single-more : (script : ScriptValue) (before : List Entry) (entry : Entry) (node : ℕ) → EachIsNext script before → IsNext script before entry → AreSingle (grants_at before node) (all_requests before node) → AreSingle (grants_at (entry ∷ before) node) (all_requests (entry ∷ before) node)
  single-more script before (Did performer outcome act) node each next single = single-did script before node performer outcome act each next single
  single-more script before (Granted other grant) node each next single = granted-single (other == node) (grant.id, length before) (grants_at before node) (all_requests before node) single
  single-more script before entry node each next single = single

  single-of : (script : ScriptValue) (history : List Entry) (node : ℕ) → EachIsNext script history → AreSingle (grants_at history node) (all_requests history node)
  single-of script [] node each = λ id. omega arith
  single-of script (entry ∷ before) node each = single-more script before entry node each.1 each.0 (single-of script before node each.1)

  -- what waits is open
  queue-few : (live : ℕ → Bool) (grants locks : List (ℕ × ℕ)) (id : ℕ) (wishes : List SequencerRequest)
      → length (filter (is_item_of id) (map (λ (w : SequencerRequest). w.request) (filter (λ (w : SequencerRequest). live w.request.seq && not (granted_since (if is_item w.request then grants else locks) w)) wishes))) ≤ length (filter (is_open_for grants id) wishes)
  queue-few live grants locks id [] = omega arith
  queue-few live grants locks id (w ∷ wishes) = tested (live w.request.seq && not (granted_since (if is_item w.request then grants else locks) w)) (is_item_of id w.request) refl refl (queue-few live grants locks id wishes)
    where
      rest : List SequencerRequest
      rest = filter (λ (w : SequencerRequest). live w.request.seq && not (granted_since (if is_item w.request then grants else locks) w)) wishes

      behind : (b : Bool) → length (filter (is_open_for grants id) wishes) ≤ length (if b then w ∷ filter (is_open_for grants id) wishes else filter (is_open_for grants id) wishes)
      behind true = omega arith
      behind false = omega arith

      open-one : (item : Bool) → is_item w.request ≡ item → item ≡ true → (live w.request.seq && not (granted_since (if item then grants else locks) w)) ≡ true → not (granted_since grants w) ≡ true
      open-one true is wanted_is still = (and_parts (live w.request.seq) (not (granted_since grants w)) still).1
      open-one false is wanted_is still = cc

      tested :
          (still mine : Bool) → (live w.request.seq && not (granted_since (if is_item w.request then grants else locks) w)) ≡ still → is_item_of id w.request ≡ mine
          → length (filter (is_item_of id) (map (λ (w : SequencerRequest). w.request) rest)) ≤ length (filter (is_open_for grants id) wishes)
          → length (filter (is_item_of id) (map (λ (w : SequencerRequest). w.request) (if still then w ∷ rest else rest))) ≤ length (filter (is_open_for grants id) (w ∷ wishes))
      tested true true is at low =
          let own = same-seq id w.request.seq (is_item w.request) at in
          let open_is = open-one (is_item w.request) refl own.1 is in
          rw (at, open_is) (omega (arith, low))
      tested true false is at low = rw at low
      tested false mine is at low = let more = behind (is_open_for grants id w) in omega (arith, low, more)

  pub item_waits_are_single : ItemWaitsAreSingle
  item_waits_are_single script history node id legal =
      let few = queue-few (is_live history) (grants_at history node) (locks_at history node) id (all_requests history node) in
      let one = single-of script history node legal.each id in
      omega (arith, few, one)
