-- A look at the queue may begin behind requests of blocked sequences.
use Rattle.uvm_sequencer.proofs.Common.{◌≡◌, ◌≤◌, ◌+◌, ℕ, zero, suc, Bool, true, false, not, List, [], ◌∷◌, ◌++◌, length, filter, take, drop, Option, Some, None, IfSome, IsSome, is_some, refl, sym, ap, subst, ◌∙◌, arith, if◌then◌else◌, ◌==◌, ◌&&◌, nat_tests, list_all, position_or_len, slice_get, option_map, Mode, Request, choice, contenders, is_strict, readiness, wait_of, has_priority, IsPassed, Start, candidates, is_blocked, is_item, is_item_of, item_request, leading, lock_request, SequencerValue, candidates_at, granted, ready_at, PassedStays}
use Rattle.uvm_sequencer.proofs.Contenders.{all-contenders, choice-some}
use Rattle.uvm_sequencer.proofs.Granting.{chosen-item}

and_left : (a b : Bool) → (a && b) ≡ true → a ≡ true
and_left true b e = refl
and_left false b e = e

and_right : (a b : Bool) → (a && b) ≡ true → b ≡ true
and_right true b e = e
and_right false b e = absurd cc

both : {a b : Bool} → a ≡ true → b ≡ true → (a && b) ≡ true
both {a} {b} e f = ap (λ x. x && b) e ∙ f

not_candidate : (item : Bool) {blocked : Bool} → blocked ≡ true → (item && not blocked) ≡ false
not_candidate true e = ap not e
not_candidate false e = refl

free_of : (item blocked : Bool) → (item && not blocked) ≡ true → blocked ≡ false
free_of true true is = absurd cc
free_of true false is = refl
free_of false blocked is = absurd cc

one_more : (n : ℕ) → 1 + n ≡ suc n
one_more n = omega arith

-- a front of a list that all pass
module _ (p : Request → Bool) where
  abbrev first_other : List Request → ℕ
  first_other xs = position_or_len (λ r. not (p r)) xs

  -- two fronts, one behind the other
  front-join : (xs : List Request) (known more all : ℕ) → all ≡ known + more → list_all p (take known xs) ≡ true → list_all p (take more (drop known xs)) ≡ true → list_all p (take all xs) ≡ true
  front-join xs zero more all is first next = subst (λ n. list_all p (take n xs) ≡ true) (let same : more ≡ all = omega arith in same) next
  front-join xs (suc known) more zero is first next = refl
  front-join [] (suc known) more (suc all) is first next = refl
  front-join (x ∷ xs) (suc known) more (suc all) is first next =
      both (and_left (p x) (list_all p (take known xs)) first) (front-join xs known more all (omega arith) (and_right (p x) (list_all p (take known xs)) first) next)

  -- up to the first that does not pass
  front_by : (x : Request) (xs : List Request) (b : Bool) → p x ≡ b → list_all p (take (first_other xs) xs) ≡ true → list_all p (take (first_other (x ∷ xs)) (x ∷ xs)) ≡ true
  front_by x xs true e rest = simp (e, one_more) rest
  front_by x xs false e rest = simp e

  front : (xs : List Request) → list_all p (take (first_other xs) xs) ≡ true
  front [] = refl
  front (x ∷ xs) = front_by x xs (p x) refl (front xs)

  next_by : (x : Request) (xs : List Request) (b : Bool) → p x ≡ b → IfSome (slice_get xs (first_other xs)) (λ r. p r ≡ false) → IfSome (slice_get (x ∷ xs) (first_other (x ∷ xs))) (λ r. p r ≡ false)
  next_by x xs true e rest = simp (e, one_more) rest
  next_by x xs false e rest = simp e

  next : (xs : List Request) → IfSome (slice_get xs (first_other xs)) (λ r. p r ≡ false)
  next [] = tt
  next (x ∷ xs) = next_by x xs (p x) refl (next xs)

  -- what a filter keeps that keeps all of those
  kept : (keep : Request → Bool) → ((x : Request) → p x ≡ true → keep x ≡ true) → (xs : List Request) (known : ℕ) → known ≤ length xs → list_all p (take known xs) ≡ true
      → (known ≤ length (filter keep xs)) × (list_all p (take known (filter keep xs)) ≡ true)
  kept keep keeps xs zero within all = (omega arith, refl)
  kept keep keeps [] (suc known) within all = absurd (omega arith)
  kept keep keeps (x ∷ xs) (suc known) within all =
      let first = and_left (p x) (list_all p (take known xs)) all in
      let stays = keeps x first in
      let rest = kept keep keeps xs known (omega arith) (and_right (p x) (list_all p (take known xs)) all) in
      simp stays (omega (arith, rest.0), both first rest.1)

  -- what is put behind all
  pushed : (xs ys : List Request) (known : ℕ) → known ≤ length xs → list_all p (take known xs) ≡ true
      → (known ≤ length (xs ++ ys)) × (list_all p (take known (xs ++ ys)) ≡ true)
  pushed xs ys zero within all = (omega arith, refl)
  pushed [] ys (suc known) within all = absurd (omega arith)
  pushed (x ∷ xs) ys (suc known) within all =
      let rest = pushed xs ys known (omega arith) (and_right (p x) (list_all p (take known xs)) all) in
      (omega (arith, rest.0), both (and_left (p x) (list_all p (take known xs)) all) rest.1)

pub get-behind : {X : Type 0} (xs : List X) (known more all : ℕ) → all ≡ known + more → slice_get (drop known xs) more ≡ slice_get xs all
get-behind xs zero more all is = ap (slice_get xs) (let same : more ≡ all = omega arith in same)
get-behind [] (suc known) more all is = refl
get-behind (x ∷ xs) (suc known) more zero is = absurd (omega arith)
get-behind (x ∷ xs) (suc known) more (suc all) is = get-behind xs known more all (omega arith)

pub all-behind : {X : Type 0} (p : X → Bool) (xs : List X) (known : ℕ) → list_all p xs ≡ true → list_all p (drop known xs) ≡ true
all-behind p xs zero all = all
all-behind p [] (suc known) all = refl
all-behind p (x ∷ xs) (suc known) all = all-behind p xs known (rest (p x) (list_all p xs) all)
  where
    rest : (a b : Bool) → (a && b) ≡ true → b ≡ true
    rest true b e = e
    rest false b e = absurd cc

module _ (started : List Start) (holders : List ℕ) where
  abbrev blocked : Request → Bool
  blocked request = is_blocked started holders request.seq

  -- the candidates are those behind
  pub candidates-behind : (queue : List Request) (known : ℕ) → list_all blocked (take known queue) ≡ true → candidates started holders (drop known queue) ≡ candidates started holders queue
  candidates-behind queue zero all = refl
  candidates-behind [] (suc known) all = refl
  candidates-behind (r ∷ rs) (suc known) all =
      candidates-behind rs known (and_right (blocked r) (list_all blocked (take known rs)) all)
      ∙ ap (λ b. if b then r ∷ candidates started holders rs else candidates started holders rs) (sym (not_candidate (is_item r) (and_left (blocked r) (list_all blocked (take known rs)) all)))

  -- the request that leads is the one behind all of those, where that one is not blocked
  pub leading-at : (queue : List Request) (place : ℕ) → list_all blocked (take place queue) ≡ true → IfSome (slice_get queue place) (λ request. blocked request ≡ false) → leading started holders queue ≡ slice_get queue place
  leading-at [] place all free = refl
  leading-at (r ∷ rs) zero all free = ap (λ b. if not b then Some r else leading started holders rs) free
  leading-at (r ∷ rs) (suc place) all free =
      ap (λ b. if not b then Some r else leading started holders rs) (and_left (blocked r) (list_all blocked (take place rs)) all)
      ∙ leading-at rs place (and_right (blocked r) (list_all blocked (take place rs)) all) free

  -- how many more are passed
  pub passed-more : (queue : List Request) (known all : ℕ) → all ≡ known + position_or_len (λ request. not (blocked request)) (drop known queue) → list_all blocked (take known queue) ≡ true → list_all blocked (take all queue) ≡ true
  passed-more queue known all is first = front-join blocked queue known (first_other blocked (drop known queue)) all is first (front blocked (drop known queue))

  pub passed-next : (queue : List Request) (known all : ℕ) → all ≡ known + position_or_len (λ request. not (blocked request)) (drop known queue) → IfSome (slice_get queue all) (λ request. blocked request ≡ false)
  passed-next queue known all is = subst (λ found. IfSome found (λ request. blocked request ≡ false)) (get-behind queue known (first_other blocked (drop known queue)) all is) (next blocked (drop known queue))

  -- who is not blocked is none of them
  other : (seq : ℕ) → is_blocked started holders seq ≡ false → (r : Request) → blocked r ≡ true → not (is_item_of seq r) ≡ true
  other seq free r held = by (r.seq == seq) refl
    where
      by : (b : Bool) → (r.seq == seq) ≡ b → not (b && is_item r) ≡ true
      by true e = let same : r.seq ≡ seq = grind (arith, nat_tests) in let no : is_blocked started holders r.seq ≡ false = rw same free in absurd cc
      by false e = refl

-- where all requests are contenders, those behind are
thrice : (a b c d : Bool) → (a && (b && c)) ≡ true → (c ≡ true → d ≡ true) → (a && (b && d)) ≡ true
thrice true true c d all rest = rest all
thrice true false c d all rest = absurd cc
thrice false b c d all rest = absurd cc

pub contenders-behind : (mode : Mode) (started : List Start) (holders : List ℕ) (queue : List Request) (known : ℕ) → (not (is_strict mode) && ((length holders == 0) && list_all is_item queue)) ≡ true
    → contenders mode (candidates started holders (drop known queue)) ≡ drop known queue
contenders-behind mode started holders queue known all =
    all-contenders mode started holders (drop known queue)
    (thrice (not (is_strict mode)) (length holders == 0) (list_all is_item queue) (list_all is_item (drop known queue)) all (all-behind is_item queue known))

-- one is chosen among what stands behind
pub ready-chosen : (started : List Start) (s : SequencerValue) (rest : List Request) (word : Option ℕ) → candidates started s.holders rest ≡ candidates_at started s → list_all has_priority rest ≡ true
    → ready_at started s ≡ Some (is_some word) → IsSome (choice s.mode (candidates_at started s) word)
ready-chosen started s rest word same all ready =
    subst (λ l. IsSome (choice s.mode l word)) same
    (choice-some s.mode (wait_of s.driver) started s.holders rest word all (subst (λ l. readiness s.mode (wait_of s.driver) l ≡ Some (is_some word)) (sym same) ready))

module _ (started : List Start) (s : SequencerValue) (known : ℕ) (passed : IsPassed started s known) where
  granted_by : (word : Option ℕ) (seq : ℕ) (found : Option Request) → choice s.mode (candidates_at started s) word ≡ found → option_map (λ (r : Request). r.seq) found ≡ Some seq → IsPassed started (granted seq s) known
  granted_by word seq None e is = absurd cc
  granted_by word seq (Some r) e is =
      let candidate = chosen-item started s word r e in
      let free = free_of (is_item r) (is_blocked started s.holders r.seq) candidate in
      let told : r.seq ≡ seq = cc in
      let left = kept (blocked started s.holders) (λ x. not (is_item_of r.seq x)) (other started s.holders r.seq free) s.queue known passed.within passed.blocked in
      subst (λ n. IsPassed started (granted n s) known) told (record { within = left.0; blocked = left.1 })

  behind : (request : Request) → (known ≤ length (s.queue ++ request ∷ [])) × (list_all (blocked started s.holders) (take known (s.queue ++ request ∷ [])) ≡ true)
  behind request = pushed (blocked started s.holders) s.queue (request ∷ []) known passed.within passed.blocked

pub passed_stays : PassedStays
passed_stays = record {
  item = λ started s known passed seq priority. let more = behind started s known passed (item_request seq priority) in record { within = more.0; blocked = more.1 };
  lock = λ started s known passed seq. let more = behind started s known passed (lock_request seq) in record { within = more.0; blocked = more.1 };
  granted = λ started s known passed word seq is. granted_by started s known passed word seq (choice s.mode (candidates_at started s) word) refl is;
}
