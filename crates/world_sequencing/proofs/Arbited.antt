-- What a log says of a sequencer, once something is done there, over lists alone.
use Rattle.world_sequencing.proofs.Common.{◌≡◌, ℕ, suc, ◌<◌, ◌≤◌, ◌==◌, ◌&&◌, ◌||◌, nat_lt, nat_le, Bool, true, false, not, List, [], ◌∷◌, ◌++◌, length, map, filter, Option, Some, None, IsSome, option_map, refl, ap, sym, ◌∙◌, arith, if◌then◌else◌, nat_tests, map-append, length-map, All-cons, All-head, All-tail, All-push, All-weaker, All-filter, filter-append, list_any_none, Mode, Driver, Idle, Request, SeqStep, grant_of, granted_by, kept_on, left_by, is_held, is_item, is_item_of, is_lock_of, is_of, released, numbered, are_known, after_leave, granted, is_live_at, locked, unlocked, DriverPort, SequencerRequest, ends_ask, granted_since, waits_by, sequencer_request, StartRecord, starts_in, ArbiterValue, at_sequencer, ended_at, new_arbiter, IsArbitrated, Ledger, arbiter_of, arbiter_with, queue_of, runs_on, filter-twice, one-ended, map-filter, Phase, All}
use Rattle.world_sequencing.proofs.Numbered.{numbered-more, numbered-within}

-- two filters by tests that are equal at each element
pub filter-alike : {A : Type 0} (p q : A → Bool) (xs : List A) → All (λ x. p x ≡ q x) xs → filter p xs ≡ filter q xs
filter-alike p q [] same = refl
filter-alike p q (x ∷ xs) same =
    let here : p x ≡ q x = All-head (λ x. p x ≡ q x) x xs same in
    rw (here, filter-alike p q xs (All-tail (λ x. p x ≡ q x) x xs same)) refl

pub filter-empty : {A : Type 0} (p : A → Bool) (xs : List A) → All (λ x. p x ≡ false) xs → filter p xs ≡ []
filter-empty p [] none = refl
filter-empty p (x ∷ xs) none =
    let here : p x ≡ false = All-head (λ x. p x ≡ false) x xs none in
    rw (here, filter-empty p xs (All-tail (λ x. p x ≡ false) x xs none)) refl

pub some-is-some : {A : Type 0} {X : Type 0} (o : Option A) → IsSome o → o ≡ None → X
some-is-some None some none = cc
some-is-some (Some a) some none = cc

-- a sequencer becomes another
pub arbiter-changed :
    (live gone : ℕ → Bool) (l m : Ledger) (change : ArbiterValue → ArbiterValue) → m.mode ≡ l.mode → ((mode : Mode) → arbiter_with gone m mode ≡ change (arbiter_with live l mode))
    → arbiter_of gone m ≡ option_map change (arbiter_of live l)
arbiter-changed live gone l m change same each = rw same (by l.mode)
  where
    by : (mode : Option Mode) → option_map (arbiter_with gone m) mode ≡ option_map change (option_map (arbiter_with live l) mode)
    by None = refl
    by (Some mode) = ap (λ (a : ArbiterValue). Some a) (each mode)

-- what is wanted now was not granted before
late : (a b : Bool) → b ≡ false → (a && b) ≡ false
late true b e = e
late false b e = refl

unseen : (grants : List (ℕ × ℕ)) (count : ℕ) (request : Request) → All (λ (grant : ℕ × ℕ). grant.1 < count) grants → granted_since grants (sequencer_request count request) ≡ false
unseen grants count request within =
    list_any_none (λ (grant : ℕ × ℕ). (grant.0 == request.seq) && nat_lt count grant.1) grants
    (All-weaker (λ (grant : ℕ × ℕ). grant.1 < count) (λ (grant : ℕ × ℕ). ((grant.0 == request.seq) && nat_lt count grant.1) ≡ false) (λ grant lt. late (grant.0 == request.seq) (nat_lt count grant.1) (grind (arith, nat_tests))) grants within)

module _ (live : ℕ → Bool) (count : ℕ) (l : Ledger) (grants : All (λ (grant : ℕ × ℕ). grant.1 < count) l.grants) (locks : All (λ (lock : ℕ × ℕ). lock.1 < count) l.locks) (request : Request) (lives : live request.seq ≡ true) where
  either : (b : Bool) → granted_since (if b then l.grants else l.locks) (sequencer_request count request) ≡ false
  either true = unseen l.grants count request grants
  either false = unseen l.locks count request locks

  waits-new : waits_by live l.grants l.locks (sequencer_request count request) ≡ true
  waits-new = rw (lives, either (is_item request)) refl

  -- it waits behind all that waits
  behind : queue_of live (record l { requests = l.requests ++ sequencer_request count request ∷ [] }) ≡ queue_of live l ++ request ∷ []
  behind =
      ap (map (λ (w : SequencerRequest). w.request)) (filter-append (waits_by live l.grants l.locks) l.requests (sequencer_request count request ∷ []) ∙ rw waits-new refl)
      ∙ map-append (λ (w : SequencerRequest). w.request) (filter (waits_by live l.grants l.locks) l.requests) (sequencer_request count request ∷ [])

  pub asked-behind : arbiter_of live (record l { requests = l.requests ++ sequencer_request count request ∷ [] }) ≡ option_map (at_sequencer (λ s. record s { queue = s.queue ++ request ∷ [] })) (arbiter_of live l)
  asked-behind = arbiter-changed live live l (record l { requests = l.requests ++ sequencer_request count request ∷ [] }) (at_sequencer (λ s. record s { queue = s.queue ++ request ∷ [] })) refl (λ mode. rw behind refl)

  -- or before it
  pub asked-before : arbiter_of live (record l { requests = sequencer_request count request ∷ l.requests }) ≡ option_map (at_sequencer (λ s. record s { queue = request ∷ s.queue })) (arbiter_of live l)
  asked-before = arbiter-changed live live l (record l { requests = sequencer_request count request ∷ l.requests }) (at_sequencer (λ s. record s { queue = request ∷ s.queue })) refl (λ mode. rw waits-new refl)

-- a sequence that lives holds a lock among all where it holds one among those that live
held-same : (live : ℕ → Bool) (id : ℕ) (xs : List ℕ) → live id ≡ true → is_held id (filter live xs) ≡ is_held id xs
held-same live id [] lives = refl
held-same live id (x ∷ xs) lives = tested (live x) refl (x == id) refl (held-same live id xs lives)
  where
    tested : (b : Bool) → live x ≡ b → (same : Bool) → (x == id) ≡ same → is_held id (filter live xs) ≡ is_held id xs → is_held id (if b then x ∷ filter live xs else filter live xs) ≡ (same || is_held id xs)
    tested true is true e rest = rw e refl
    tested true is false e rest = rw e rest
    tested false is true e rest =
        let same : x ≡ id = grind (arith, nat_tests) in
        let clash : true ≡ false = sym lives ∙ ap live (sym same) ∙ is in
        cc
    tested false is false e rest = rest

released-live : (live : ℕ → Bool) (id : ℕ) (xs : List ℕ) → live id ≡ true → filter live (released id xs) ≡ released id (filter live xs)
released-live live id [] lives = refl
released-live live id (x ∷ xs) lives = tested (live x) refl (x == id) refl (is_held id xs) refl (released-live live id xs lives)
  where
    tested : (b : Bool) → live x ≡ b → (same : Bool) → (x == id) ≡ same → (held : Bool) → is_held id xs ≡ held → filter live (released id xs) ≡ released id (filter live xs)
        → filter live (if same && not held then xs else x ∷ released id xs) ≡ released id (if b then x ∷ filter live xs else filter live xs)
    tested false is true e held h rest =
        let same : x ≡ id = grind (arith, nat_tests) in
        let clash : true ≡ false = sym lives ∙ ap live (sym same) ∙ is in
        cc
    tested true is true e true h rest = rw (is, e, held-same live id xs lives, h) (ap (λ (ys : List ℕ). x ∷ ys) rest)
    tested true is true e false h rest = rw (e, held-same live id xs lives, h) refl
    tested true is false e held h rest = rw (is, e) (ap (λ (ys : List ℕ). x ∷ ys) rest)
    tested false is false e held h rest = rw is rest

-- it gives its last lock back
pub unlocked-is : (live : ℕ → Bool) (l : Ledger) (id : ℕ) → live id ≡ true → arbiter_of live (record l { held = released id l.held }) ≡ option_map (at_sequencer (unlocked id)) (arbiter_of live l)
unlocked-is live l id lives = arbiter-changed live live l (record l { held = released id l.held }) (at_sequencer (unlocked id)) refl (λ mode. rw (released-live live id l.held lives) refl)

-- what waits once more is granted
flip : (a b : ℕ) → (a == b) ≡ (b == a)
flip a b = grind (arith, nat_tests)

earlier : (a b : ℕ) → a < b → nat_lt a b ≡ true
earlier a b lt = grind (arith, nat_tests)

and-true : (a : Bool) → (a && true) ≡ a
and-true true = refl
and-true false = refl

and-false : (a : Bool) → (a && false) ≡ false
and-false true = refl
and-false false = refl

module _ (live : ℕ → Bool) (count : ℕ) (l : Ledger) (within : All (λ (w : SequencerRequest). w.place < count) l.requests) (id : ℕ) where
  one-lock : (w : SequencerRequest) → w.place < count → waits_by live l.grants ((id, count) ∷ l.locks) w ≡ (waits_by live l.grants l.locks w && not (is_lock_of id w.request))
  one-lock w lt = by (is_item w.request)
    where
      lives : Bool
      lives = live w.request.seq

      by : (item : Bool) → (live w.request.seq && not (granted_since (if item then l.grants else (id, count) ∷ l.locks) w)) ≡ ((live w.request.seq && not (granted_since (if item then l.grants else l.locks) w)) && not ((w.request.seq == id) && not item))
      by true = rw and-false (sym (and-true (live w.request.seq && not (granted_since l.grants w))))
      by false = rw (earlier w.place count lt, and-true, and-true, flip id w.request.seq) (one-ended (live w.request.seq) (w.request.seq == id) (granted_since l.locks w))

  one-grant : (w : SequencerRequest) → w.place < count → waits_by live ((id, count) ∷ l.grants) l.locks w ≡ (waits_by live l.grants l.locks w && not (is_item_of id w.request))
  one-grant w lt = by (is_item w.request)
    where
      by : (item : Bool) → (live w.request.seq && not (granted_since (if item then (id, count) ∷ l.grants else l.locks) w)) ≡ ((live w.request.seq && not (granted_since (if item then l.grants else l.locks) w)) && not ((w.request.seq == id) && item))
      by false = rw and-false (sym (and-true (live w.request.seq && not (granted_since l.locks w))))
      by true = rw (earlier w.place count lt, and-true, and-true, flip id w.request.seq) (one-ended (live w.request.seq) (w.request.seq == id) (granted_since l.grants w))

  lock-taken : queue_of live (record l { locks = (id, count) ∷ l.locks }) ≡ filter (λ request. not (is_lock_of id request)) (queue_of live l)
  lock-taken =
      ap (map (λ (w : SequencerRequest). w.request))
      (filter-alike (waits_by live l.grants ((id, count) ∷ l.locks)) (λ w. waits_by live l.grants l.locks w && not (is_lock_of id w.request)) l.requests
      (All-weaker (λ (w : SequencerRequest). w.place < count) (λ w. waits_by live l.grants ((id, count) ∷ l.locks) w ≡ (waits_by live l.grants l.locks w && not (is_lock_of id w.request))) one-lock l.requests within)
      ∙ filter-twice (λ (w : SequencerRequest). not (is_lock_of id w.request)) (waits_by live l.grants l.locks) (λ w. waits_by live l.grants l.locks w && not (is_lock_of id w.request)) (λ w. refl) l.requests)
      ∙ map-filter (λ (w : SequencerRequest). w.request) (λ request. not (is_lock_of id request)) (filter (waits_by live l.grants l.locks) l.requests)

  grant-taken : queue_of live (record l { grants = (id, count) ∷ l.grants }) ≡ filter (λ request. not (is_item_of id request)) (queue_of live l)
  grant-taken =
      ap (map (λ (w : SequencerRequest). w.request))
      (filter-alike (waits_by live ((id, count) ∷ l.grants) l.locks) (λ w. waits_by live l.grants l.locks w && not (is_item_of id w.request)) l.requests
      (All-weaker (λ (w : SequencerRequest). w.place < count) (λ w. waits_by live ((id, count) ∷ l.grants) l.locks w ≡ (waits_by live l.grants l.locks w && not (is_item_of id w.request))) one-grant l.requests within)
      ∙ filter-twice (λ (w : SequencerRequest). not (is_item_of id w.request)) (waits_by live l.grants l.locks) (λ w. waits_by live l.grants l.locks w && not (is_item_of id w.request)) (λ w. refl) l.requests)
      ∙ map-filter (λ (w : SequencerRequest). w.request) (λ request. not (is_item_of id request)) (filter (waits_by live l.grants l.locks) l.requests)

  -- a lock, to a sequence that lives
  pub locked-is : live id ≡ true → arbiter_of live (record l { locks = (id, count) ∷ l.locks; held = l.held ++ id ∷ [] }) ≡ option_map (at_sequencer (locked id)) (arbiter_of live l)
  locked-is lives =
      let held : filter live (l.held ++ id ∷ []) ≡ filter live l.held ++ id ∷ [] = filter-append live l.held (id ∷ []) ∙ rw lives refl in
      arbiter-changed live live l (record l { locks = (id, count) ∷ l.locks; held = l.held ++ id ∷ [] }) (at_sequencer (locked id)) refl (λ mode. rw (lock-taken, held) refl)

  -- or an item
  pub granted-is : arbiter_of live (record l { grants = (id, count) ∷ l.grants; driver = granted_by id l.driver }) ≡ option_map (at_sequencer (granted id)) (arbiter_of live l)
  granted-is = arbiter-changed live live l (record l { grants = (id, count) ∷ l.grants; driver = granted_by id l.driver }) (at_sequencer (granted id)) refl (λ mode. rw grant-taken refl)

-- a sequence ends
swap : (a b c : Bool) → ((a && b) && c) ≡ ((a && c) && b)
swap true true c = sym (and-true c)
swap true false c = sym (and-false c)
swap false b c = refl

module _ (live gone : ℕ → Bool) (l : Ledger) where
  -- all that it asked for and holds is gone
  module _ (id : ℕ) (but : (n : ℕ) → gone n ≡ (live n && not (n == id))) where
    left-waits : (w : SequencerRequest) → waits_by gone l.grants l.locks w ≡ (waits_by live l.grants l.locks w && not (is_of id w.request))
    left-waits w = rw (but w.request.seq) (swap (live w.request.seq) (not (w.request.seq == id)) (not (granted_since (if is_item w.request then l.grants else l.locks) w)))

    left-queue : queue_of gone l ≡ filter (λ request. not (is_of id request)) (queue_of live l)
    left-queue =
        ap (map (λ (w : SequencerRequest). w.request)) (filter-twice (λ (w : SequencerRequest). not (is_of id w.request)) (waits_by live l.grants l.locks) (waits_by gone l.grants l.locks) left-waits l.requests)
        ∙ map-filter (λ (w : SequencerRequest). w.request) (λ request. not (is_of id request)) (filter (waits_by live l.grants l.locks) l.requests)

    pub left-is : arbiter_of gone (record l { driver = left_by (grant_of id l.driver) l.driver }) ≡ option_map (at_sequencer (after_leave id)) (arbiter_of live l)
    left-is = arbiter-changed live gone l (record l { driver = left_by (grant_of id l.driver) l.driver }) (at_sequencer (after_leave id)) refl (λ mode. rw (left-queue, filter-twice (λ (n : ℕ). not (n == id)) live gone but l.held) refl)

  -- elsewhere nothing is
  pub alike-is : All (λ (w : SequencerRequest). gone w.request.seq ≡ live w.request.seq) l.requests → All (λ id. gone id ≡ live id) l.held → arbiter_of gone l ≡ arbiter_of live l
  alike-is waits holds =
      let waiting =
      filter-alike (waits_by gone l.grants l.locks) (waits_by live l.grants l.locks) l.requests
      (All-weaker (λ (w : SequencerRequest). gone w.request.seq ≡ live w.request.seq) (λ w. waits_by gone l.grants l.locks w ≡ waits_by live l.grants l.locks w) (λ w same. rw same refl) l.requests waits) in
      ap (λ (arbiter : Mode → ArbiterValue). option_map arbiter l.mode) (λ i mode. whole waiting (filter-alike gone live l.held holds) mode i)
    where
      whole : filter (waits_by gone l.grants l.locks) l.requests ≡ filter (waits_by live l.grants l.locks) l.requests → filter gone l.held ≡ filter live l.held → (mode : Mode) → arbiter_with gone l mode ≡ arbiter_with live l mode
      whole waiting holding mode = rw (waiting, holding) refl

  -- all that live no longer after a phase
  module _ (steps : List (Option SeqStep)) (known : (n : ℕ) → is_live_at steps n ≡ gone n) (before : (n : ℕ) → gone n ≡ true → live n ≡ true) where
    still : (go li g : Bool) → (go ≡ true → li ≡ true) → (go && g) ≡ ((li && g) && go)
    still true true g e = sym (and-true g)
    still true false g e = let clash = e refl in cc
    still false li g e = sym (and-false (li && g))

    ended-queue : queue_of gone l ≡ filter (λ request. is_live_at steps request.seq) (queue_of live l)
    ended-queue =
        ap (map (λ (w : SequencerRequest). w.request))
        (filter-twice (λ (w : SequencerRequest). is_live_at steps w.request.seq) (waits_by live l.grants l.locks) (waits_by gone l.grants l.locks)
        (λ w. rw (known w.request.seq) (still (gone w.request.seq) (live w.request.seq) (not (granted_since (if is_item w.request then l.grants else l.locks) w)) (before w.request.seq))) l.requests)
        ∙ map-filter (λ (w : SequencerRequest). w.request) (λ request. is_live_at steps request.seq) (filter (waits_by live l.grants l.locks) l.requests)

    ended-held : filter gone l.held ≡ filter (is_live_at steps) (filter live l.held)
    ended-held = filter-twice (is_live_at steps) live gone (λ n. rw (known n) (both (gone n) (live n) (before n))) l.held
      where
        both : (go li : Bool) → (go ≡ true → li ≡ true) → go ≡ (li && go)
        both true true e = refl
        both true false e = let clash = e refl in cc
        both false li e = sym (and-false li)

    -- and of the driver's ask what goes on
    pub ended-is : (phase : Phase) → arbiter_of gone (record l { driver = kept_on (ends_ask phase l.requester) gone l.driver }) ≡ option_map (ended_at phase steps) (arbiter_of live l)
    ended-is phase =
        arbiter-changed live gone l (record l { driver = kept_on (ends_ask phase l.requester) gone l.driver }) (ended_at phase steps) refl
        (λ mode. rw (ended-queue, ended-held, kept-same (λ i n. known n i)) refl)
      where
        kept-same : is_live_at steps ≡ gone → kept_on (ends_ask phase l.requester) (is_live_at steps) l.driver ≡ kept_on (ends_ask phase l.requester) gone l.driver
        kept-same same = ap (λ (test : ℕ → Bool). kept_on (ends_ask phase l.requester) test l.driver) same

-- one is added
pub added-is : (live : ℕ → Bool) (l : Ledger) (mode : Option Mode) → (l.requests ≡ []) × (l.held ≡ []) × (l.driver ≡ Idle) × (l.requester ≡ None) → arbiter_of live (record l { mode = mode }) ≡ option_map new_arbiter mode
added-is live l None none = refl
added-is live l (Some mode) none = rw (none.0, none.1, none.2, none.3) refl

-- a driver that is idle stays so
idle-kept : (ends : Bool) (live : ℕ → Bool) (driver : Driver) → driver ≡ Idle → kept_on ends live driver ≡ Idle
idle-kept true live driver is = refl
idle-kept false live driver is = ap (λ (one : Driver). kept_on false live one) is

-- what was said of a sequencer before one more entry
module _ {count nodes : ℕ} {begun : List StartRecord} {node : ℕ} {l : Ledger} (a : IsArbitrated count nodes begun node l) where
  places-later : (P : SequencerRequest → ℕ) (xs : List SequencerRequest) → All (λ w. P w < count) xs → All (λ w. P w < suc count) xs
  places-later P xs all = All-weaker (λ w. P w < count) (λ w. P w < suc count) (λ w lt. omega (arith, lt)) xs all

  pairs-later : (xs : List (ℕ × ℕ)) → All (λ (p : ℕ × ℕ). p.1 < count) xs → All (λ (p : ℕ × ℕ). p.1 < suc count) xs
  pairs-later xs all = All-weaker (λ (p : ℕ × ℕ). p.1 < count) (λ (p : ℕ × ℕ). p.1 < suc count) (λ p lt. omega (arith, lt)) xs all

  pub arbitrated-more : IsArbitrated (suc count) nodes begun node l
  arbitrated-more = record {
    requests_within = places-later (λ w. w.place) l.requests a.requests_within;
    grants_within = pairs-later l.grants a.grants_within;
    locks_within = pairs-later l.locks a.locks_within;
    requests_here = a.requests_here;
    held_here = a.held_here;
    stands = a.stands;
    nothing = a.nothing;
  }

  -- more nodes
  pub arbitrated-grown : (more : ℕ) → nodes ≤ more → IsArbitrated (suc count) more begun node l
  arbitrated-grown more le = record {
    requests_within = places-later (λ w. w.place) l.requests a.requests_within;
    grants_within = pairs-later l.grants a.grants_within;
    locks_within = pairs-later l.locks a.locks_within;
    requests_here = a.requests_here;
    held_here = a.held_here;
    stands = λ some. let s = a.stands some in (s.0, omega (arith, s.1, le));
    nothing = a.nothing;
  }

  -- a sequencer is added there
  pub arbitrated-added : (mode : Option Mode) (more : ℕ) → l.mode ≡ None → (IsSome mode → (0 < node) × (node < more)) → IsArbitrated (suc count) more begun node (record l { mode = mode })
  arbitrated-added mode more none stands = record {
    requests_within = places-later (λ w. w.place) l.requests a.requests_within;
    grants_within = pairs-later l.grants a.grants_within;
    locks_within = pairs-later l.locks a.locks_within;
    requests_here = a.requests_here;
    held_here = a.held_here;
    stands = stands;
    nothing = λ is. a.nothing none;
  }

  -- something more is wanted, by a sequence that runs there
  module _ (request : Request) (here : runs_on begun node request.seq) (moded : IsSome l.mode) where
    pub arbitrated-behind : IsArbitrated (suc count) nodes begun node (record l { requests = l.requests ++ sequencer_request count request ∷ [] })
    arbitrated-behind = record {
      requests_within = All-push (λ (w : SequencerRequest). w.place < suc count) l.requests (sequencer_request count request) (places-later (λ w. w.place) l.requests a.requests_within) (omega arith);
      grants_within = pairs-later l.grants a.grants_within;
      locks_within = pairs-later l.locks a.locks_within;
      requests_here = All-push (λ (w : SequencerRequest). runs_on begun node w.request.seq) l.requests (sequencer_request count request) a.requests_here here;
      held_here = a.held_here;
      stands = a.stands;
      nothing = λ none. some-is-some l.mode moded none;
    }

    pub arbitrated-before : IsArbitrated (suc count) nodes begun node (record l { requests = sequencer_request count request ∷ l.requests })
    arbitrated-before = record {
      requests_within = All-cons (λ (w : SequencerRequest). w.place < suc count) (sequencer_request count request) l.requests (omega arith) (places-later (λ w. w.place) l.requests a.requests_within);
      grants_within = pairs-later l.grants a.grants_within;
      locks_within = pairs-later l.locks a.locks_within;
      requests_here = All-cons (λ (w : SequencerRequest). runs_on begun node w.request.seq) (sequencer_request count request) l.requests here a.requests_here;
      held_here = a.held_here;
      stands = a.stands;
      nothing = λ none. some-is-some l.mode moded none;
    }

  -- a lock is given back
  released-here : (P : ℕ → Type 0) (id : ℕ) (xs : List ℕ) → All P xs → All P (released id xs)
  released-here P id [] all = all
  released-here P id (x ∷ xs) all = tested ((x == id) && not (is_held id xs)) (released-here P id xs (All-tail P x xs all))
    where
      tested : (b : Bool) → All P (released id xs) → All P (if b then xs else x ∷ released id xs)
      tested true rest = All-tail P x xs all
      tested false rest = All-cons P x (released id xs) (All-head P x xs all) rest

  pub arbitrated-unlocked : (id : ℕ) → IsSome l.mode → IsArbitrated (suc count) nodes begun node (record l { held = released id l.held })
  arbitrated-unlocked id moded = record {
    requests_within = places-later (λ w. w.place) l.requests a.requests_within;
    grants_within = pairs-later l.grants a.grants_within;
    locks_within = pairs-later l.locks a.locks_within;
    requests_here = a.requests_here;
    held_here = released-here (runs_on begun node) id l.held a.held_here;
    stands = a.stands;
    nothing = λ none. some-is-some l.mode moded none;
  }

  -- the driver goes on
  pub arbitrated-driver : (driver : Driver) (requester : Option DriverPort) → IsSome l.mode → IsArbitrated (suc count) nodes begun node (record l { driver = driver; requester = requester })
  arbitrated-driver driver requester moded = record {
    requests_within = places-later (λ w. w.place) l.requests a.requests_within;
    grants_within = pairs-later l.grants a.grants_within;
    locks_within = pairs-later l.locks a.locks_within;
    requests_here = a.requests_here;
    held_here = a.held_here;
    stands = a.stands;
    nothing = λ none. some-is-some l.mode moded none;
  }

  -- or goes on where its ask does, as a phase ends
  pub arbitrated-ended : (ends : Bool) (live : ℕ → Bool) → IsArbitrated (suc count) nodes begun node (record l { driver = kept_on ends live l.driver })
  arbitrated-ended ends live = record {
    requests_within = places-later (λ w. w.place) l.requests a.requests_within;
    grants_within = pairs-later l.grants a.grants_within;
    locks_within = pairs-later l.locks a.locks_within;
    requests_here = a.requests_here;
    held_here = a.held_here;
    stands = a.stands;
    nothing = λ none. let n = a.nothing none in (n.0, n.1, idle-kept ends live l.driver n.2, n.3);
  }

  -- a lock is granted, or an item
  pub arbitrated-locked : (id : ℕ) → runs_on begun node id → IsSome l.mode → IsArbitrated (suc count) nodes begun node (record l { locks = (id, count) ∷ l.locks; held = l.held ++ id ∷ [] })
  arbitrated-locked id here moded = record {
    requests_within = places-later (λ w. w.place) l.requests a.requests_within;
    grants_within = pairs-later l.grants a.grants_within;
    locks_within = All-cons (λ (p : ℕ × ℕ). p.1 < suc count) (id, count) l.locks (omega arith) (pairs-later l.locks a.locks_within);
    requests_here = a.requests_here;
    held_here = All-push (runs_on begun node) l.held id a.held_here here;
    stands = a.stands;
    nothing = λ none. some-is-some l.mode moded none;
  }

  pub arbitrated-granted : (id : ℕ) → IsSome l.mode → IsArbitrated (suc count) nodes begun node (record l { grants = (id, count) ∷ l.grants; driver = granted_by id l.driver })
  arbitrated-granted id moded = record {
    requests_within = places-later (λ w. w.place) l.requests a.requests_within;
    grants_within = All-cons (λ (p : ℕ × ℕ). p.1 < suc count) (id, count) l.grants (omega arith) (pairs-later l.grants a.grants_within);
    locks_within = pairs-later l.locks a.locks_within;
    requests_here = a.requests_here;
    held_here = a.held_here;
    stands = a.stands;
    nothing = λ none. some-is-some l.mode moded none;
  }

  -- one more sequence is started
  begun-here : (x : StartRecord) (id : ℕ) (found : Option StartRecord) → numbered begun id ≡ found → option_map (λ start_record. start_record.start.home) found ≡ Some node → runs_on (x ∷ begun) node id
  begun-here x id None is e = cc
  begun-here x id (Some start_record) is e = rw (numbered-more x begun id start_record is) e

  pub arbitrated-begun : (x : StartRecord) → IsArbitrated (suc count) nodes (x ∷ begun) node l
  arbitrated-begun x = record {
    requests_within = places-later (λ w. w.place) l.requests a.requests_within;
    grants_within = pairs-later l.grants a.grants_within;
    locks_within = pairs-later l.locks a.locks_within;
    requests_here = All-weaker (λ (w : SequencerRequest). runs_on begun node w.request.seq) (λ (w : SequencerRequest). runs_on (x ∷ begun) node w.request.seq) (λ w here. begun-here x w.request.seq (numbered begun w.request.seq) refl here) l.requests a.requests_here;
    held_here = All-weaker (runs_on begun node) (runs_on (x ∷ begun) node) (λ id here. begun-here x id (numbered begun id) refl here) l.held a.held_here;
    stands = a.stands;
    nothing = a.nothing;
  }

  -- all that waits was started
  within-begun : (id : ℕ) (found : Option StartRecord) → numbered begun id ≡ found → option_map (λ start_record. start_record.start.home) found ≡ Some node → nat_le id (length (starts_in begun)) ≡ true
  within-begun id None is e = cc
  within-begun id (Some start_record) is e =
      let low = numbered-within begun id start_record is in
      let size = length-map begun (λ (start_record : StartRecord). start_record.start) in
      grind (arith, nat_tests, low, size)

  pub known-all : (live : ℕ → Bool) → are_known (starts_in begun) (queue_of live l) ≡ true
  known-all live = all (filter (waits_by live l.grants l.locks) l.requests) (All-filter (waits_by live l.grants l.locks) (λ (w : SequencerRequest). runs_on begun node w.request.seq) l.requests a.requests_here)
    where
      all : (ws : List SequencerRequest) → All (λ (w : SequencerRequest). runs_on begun node w.request.seq) ws → are_known (starts_in begun) (map (λ w. w.request) ws) ≡ true
      all [] here = refl
      all (w ∷ ws) here =
          let first = within-begun w.request.seq (numbered begun w.request.seq) refl (All-head (λ (w : SequencerRequest). runs_on begun node w.request.seq) w ws here) in
          rw (first, all ws (All-tail (λ (w : SequencerRequest). runs_on begun node w.request.seq) w ws here)) refl
