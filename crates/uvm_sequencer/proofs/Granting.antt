-- Who is granted waits for it, and stands under all holders.
use Rattle.uvm_sequencer.proofs.Common.{◌≡◌, ◌+◌, ◌%◌, ℕ, zero, suc, Bool, true, false, not, List, [], ◌∷◌, length, filter, sum_by, Option, Some, None, IsSome, refl, ap, subst, ◌∙◌, arith, if◌then◌else◌, nat_lt, ◌==◌, ◌||◌, ◌&&◌, All, Contains, nat_tests, All-nil, All-cons, All-head, All-tail, All-contains, All-contains_itself, All-filter, All-weaker, filter_passes, list_all, list_any, slice_get, option_and_then, option_map, IsSomeAnd, Mode, Fifo, Weighted, Random, StrictFifo, StrictRandom, Request, Want, Item, Lock, Start, is_under, AreSingle, is_blocked, is_candidate, is_item, is_item_of, is_lock_of, leading, lock_in, lock_request, priority_of, choice, contenders, drawn, first_over, is_greatest, is_strict, SequencerValue, candidates_at, choice_at, granted, lock_at, locked, EachGrantEndsAWait, IsFree, LockExcludes}
use Rattle.uvm_sequencer.proofs.Singles.{one-fewer}
use Rattle.uvm_sequencer.proofs.Waiting.{leading-waits}

-- what holds of each holds of the one at a place, and of the one that is first over a number
at-place : {X : Type 0} (P : X → Type 0) (xs : List X) (n : ℕ) (x : X) → All P xs → slice_get xs n ≡ Some x → P x
at-place P [] n x all is = absurd cc
at-place P (y ∷ xs) zero x all is = let same : y ≡ x = cc in subst P same (All-head P y xs all)
at-place P (y ∷ xs) (suc n) x all is = at-place P xs n x (All-tail P y xs all) is

over_by : (P : Request → Type 0) (y r : Request) (next : Option Request) (b : Bool) → P y → (next ≡ Some r → P r) → (if b then Some y else next) ≡ Some r → P r
over_by P y r next true first rest is = let same : y ≡ r = cc in subst P same first
over_by P y r next false first rest is = rest is

at-sum : (P : Request → Type 0) (sum n : ℕ) (requests : List Request) (r : Request) → All P requests → first_over sum n requests ≡ Some r → P r
at-sum P sum n [] r all is = absurd cc
at-sum P sum n (y ∷ ys) r all is =
    over_by P y r (first_over (sum + priority_of y) n ys) (nat_lt n (sum + priority_of y)) (All-head P y ys all) (λ h. at-sum P (sum + priority_of y) n ys r (All-tail P y ys all) h) is

drawn-all : (P : Request → Type 0) (mode : Mode) (requests : List Request) (word : ℕ) (r : Request) → All P requests → drawn mode requests word ≡ Some r → P r
drawn-all P Weighted requests word r all is = at-sum P 0 (word % sum_by priority_of requests) requests r all is
drawn-all P Fifo requests word r all is = at-place P requests (word % length requests) r all is
drawn-all P Random requests word r all is = at-place P requests (word % length requests) r all is
drawn-all P StrictFifo requests word r all is = at-place P requests (word % length requests) r all is
drawn-all P StrictRandom requests word r all is = at-place P requests (word % length requests) r all is

-- what holds of each contender holds of the one that is chosen
pub contender-all : (P : Request → Type 0) (mode : Mode) (requests : List Request) (word : Option ℕ) (r : Request) → All P (contenders mode requests) → choice mode requests word ≡ Some r → P r
contender-all P mode requests None r all is = at-place P (contenders mode requests) 0 r all is
contender-all P mode requests (Some word) r all is = drawn-all P mode (contenders mode requests) word r all is

among : (P : Request → Type 0) (strict : Bool) (requests : List Request) → All P requests → All P (if strict then filter (is_greatest requests) requests else requests)
among P true requests all = All-filter (is_greatest requests) P requests all
among P false requests all = all

pub choice-all : (P : Request → Type 0) (mode : Mode) (requests : List Request) (word : Option ℕ) (r : Request) → All P requests → choice mode requests word ≡ Some r → P r
choice-all P mode requests word r all is = contender-all P mode requests word r (among P (is_strict mode) requests all) is

-- who is not blocked stands under each holder
unblocked_by : (under : ℕ → Bool) (h : ℕ) (hs : List ℕ) (b : Bool) → under h ≡ b → (list_any (λ x. not (under x)) hs ≡ false → list_all under hs ≡ true)
    → (not b || list_any (λ x. not (under x)) hs) ≡ false → (b && list_all under hs) ≡ true
unblocked_by under h hs true e rest is = rest is
unblocked_by under h hs false e rest is = absurd cc

unblocked : (under : ℕ → Bool) (hs : List ℕ) → list_any (λ x. not (under x)) hs ≡ false → list_all under hs ≡ true
unblocked under [] is = refl
unblocked under (h ∷ hs) is = unblocked_by under h hs (under h) refl (unblocked under hs) is

item_of : (item blocked : Bool) → (item && not blocked) ≡ true → item ≡ true
item_of true blocked is = refl
item_of false blocked is = is

free_of : (item blocked : Bool) → (item && not blocked) ≡ true → blocked ≡ false
free_of true true is = absurd cc
free_of true false is = refl
free_of false blocked is = absurd cc

module _ (started : List Start) (s : SequencerValue) where
  abbrev those : List Request
  those = candidates_at started s

  pub chosen-item : (word : Option ℕ) (r : Request) → choice s.mode those word ≡ Some r → is_candidate started s.holders r ≡ true
  chosen-item word r is = choice-all (λ x. is_candidate started s.holders x ≡ true) s.mode those word r (filter_passes (is_candidate started s.holders) s.queue) is

  pub chosen-waits : (word : Option ℕ) (r : Request) → choice s.mode those word ≡ Some r → Contains s.queue r
  chosen-waits word r is = choice-all (Contains s.queue) s.mode those word r (All-filter (is_candidate started s.holders) (Contains s.queue) s.queue (All-contains_itself s.queue)) is

  item-free : (word : Option ℕ) (r : Request) → choice s.mode those word ≡ Some r → (is_item r ≡ true) × IsFree started s r
  item-free word r is =
      let candidate = chosen-item word r is in (
        item_of (is_item r) (is_blocked started s.holders r.seq) candidate,
        record {
          waits = chosen-waits word r is;
          under = unblocked (λ holder. is_under started r.seq holder) s.holders (free_of (is_item r) (is_blocked started s.holders r.seq) candidate);
        },
      )

  request_by : (word : Option ℕ) (found : Option Request) → choice s.mode those word ≡ found → IsSome found → IsSomeAnd found (λ request. is_item request ≡ true)
  request_by word None e some = absurd cc
  request_by word (Some r) e some = item_of (is_item r) (is_blocked started s.holders r.seq) (chosen-item word r e)

  -- where one is chosen it is an item request
  pub choice-item : (word : Option ℕ) → IsSome (choice s.mode those word) → IsSomeAnd (choice s.mode those word) (λ request. is_item request ≡ true)
  choice-item word some = request_by word (choice s.mode those word) refl some

-- the lock that leads
module _ (started : List Start) (holders : List ℕ) where
  lead_by : (P : Request → Type 0) (r : Request) (rs : List Request) (found : Request) (b : Bool) → is_blocked started holders r.seq ≡ b → P r
      → (leading started holders rs ≡ Some found → P found × (is_blocked started holders found.seq ≡ false))
      → (if not b then Some r else leading started holders rs) ≡ Some found → P found × (is_blocked started holders found.seq ≡ false)
  lead_by P r rs found true e first rest is = rest is
  lead_by P r rs found false e first rest is = let same : r ≡ found = cc in subst (λ x. P x × (is_blocked started holders x.seq ≡ false)) same (first, e)

  lead-all : (P : Request → Type 0) (queue : List Request) (found : Request) → All P queue → leading started holders queue ≡ Some found → P found × (is_blocked started holders found.seq ≡ false)
  lead-all P [] found all is = absurd cc
  lead-all P (r ∷ rs) found all is = lead_by P r rs found (is_blocked started holders r.seq) refl (All-head P r rs all) (λ h. lead-all P rs found (All-tail P r rs all) h) is

lock_is : (seq : ℕ) (r : Request) (want : Want) → r.want ≡ want → lock_in r ≡ Some seq → r ≡ lock_request seq
lock_is seq r (Item priority) e is = absurd (let no : lock_in r ≡ None = rw e refl in cc)
lock_is seq r Lock e is = let own : lock_in r ≡ Some r.seq = rw e refl in let same : r.seq ≡ seq = cc in λ i. record { seq = same i; want = e i }

lock_by : (started : List Start) (s : SequencerValue) (seq : ℕ) (found : Option Request) → leading started s.holders s.queue ≡ found → option_and_then lock_in found ≡ Some seq → IsFree started s (lock_request seq)
lock_by started s seq None e is = absurd cc
lock_by started s seq (Some r) e is =
    let led = lead-all started s.holders (Contains s.queue) s.queue r (All-contains_itself s.queue) e in
    subst (IsFree started s) (lock_is seq r r.want refl is)
    (record { waits = led.0; under = unblocked (λ holder. is_under started r.seq holder) s.holders led.1 })

pub lock-free : (started : List Start) (s : SequencerValue) (seq : ℕ) → lock_at started s ≡ Some seq → IsFree started s (lock_request seq)
lock-free started s seq is = lock_by started s seq (leading started s.holders s.queue) refl is

pub lock_excludes : LockExcludes
lock_excludes = record { locks = lock-free; items = item-free }

-- what is there and passes
or_right : (a : Bool) {b : Bool} → b ≡ true → (a || b) ≡ true
or_right true e = refl
or_right false e = e

each-any : {X : Type 0} (p : X → Bool) (xs : List X) → All (λ x. p x ≡ true → list_any p xs ≡ true) xs
each-any p [] = All-nil (λ x. p x ≡ true → list_any p [] ≡ true)
each-any p (x ∷ xs) =
    All-cons (λ y. p y ≡ true → list_any p (x ∷ xs) ≡ true) x xs (λ pass. ap (λ b. b || list_any p xs) pass)
    (All-weaker (λ y. p y ≡ true → list_any p xs ≡ true) (λ y. p y ≡ true → list_any p (x ∷ xs) ≡ true) (λ y rest pass. or_right (p x) (rest pass)) xs (each-any p xs))

any-contains : {X : Type 0} (p : X → Bool) (xs : List X) (x : X) → Contains xs x → p x ≡ true → list_any p xs ≡ true
any-contains p xs x there pass = All-contains (λ y. p y ≡ true → list_any p xs ≡ true) xs x (each-any p xs) there pass

same : (n : ℕ) → (n == n) ≡ true
same n = grind (arith, nat_tests)

module _ (started : List Start) (s : SequencerValue) where
  lock-ends : (seq : ℕ) → AreSingle s.queue → lock_at started s ≡ Some seq → length (locked seq s).queue + 1 ≡ length s.queue
  lock-ends seq single is = let one = single seq in one-fewer (is_lock_of seq) s.queue (leading-waits started s.holders seq s.queue is) one.1

  item_by : (word : Option ℕ) (seq : ℕ) (found : Option Request) → AreSingle s.queue → choice s.mode (candidates_at started s) word ≡ found → option_map (λ (r : Request). r.seq) found ≡ Some seq → length (granted seq s).queue + 1 ≡ length s.queue
  item_by word seq None single e is = absurd cc
  item_by word seq (Some r) single e is =
      let item = item_of (is_item r) (is_blocked started s.holders r.seq) (chosen-item started s word r e) in
      let own : is_item_of r.seq r ≡ true = ap (λ b. b && is_item r) (same r.seq) ∙ item in
      let told : r.seq ≡ seq = cc in
      let one = single r.seq in
      subst (λ n. length (granted n s).queue + 1 ≡ length s.queue) told
      (one-fewer (is_item_of r.seq) s.queue (any-contains (is_item_of r.seq) s.queue r (chosen-waits started s word r e) own) one.0)

  pub item-ends : (word : Option ℕ) (seq : ℕ) → AreSingle s.queue → choice_at started s word ≡ Some seq → length (granted seq s).queue + 1 ≡ length s.queue
  item-ends word seq single is = item_by word seq (choice s.mode (candidates_at started s) word) single refl is

pub each_grant_ends_a_wait : EachGrantEndsAWait
each_grant_ends_a_wait = record { locks = lock-ends; items = item-ends }
