-- Marks of who waits, as requests come and go.
use Rattle.uvm_sequencer.proofs.Common.{◌≡◌, ℕ, Bool, true, false, not, List, [], ◌∷◌, ◌++◌, length, filter, refl, sym, ap, ◌∙◌, arith, cond, nat_eq, ◌==◌, ◌||◌, ◌&&◌, nat_tests, list_all, list_any, Request, is_item, is_item_of, is_lock_of, is_of, without}

never : (a : Bool) → (a && false) ≡ false
never true = refl
never false = refl

-- what is left by a filter that is the same at all that pass a test
any_by : {X : Type 0} (p keep : X → Bool) (c : Bool) (x : X) (xs : List X) (a b : Bool) → p x ≡ a → keep x ≡ b → (a ≡ true → b ≡ c)
    → list_any p (filter keep xs) ≡ (list_any p xs && c) → list_any p (filter keep (x ∷ xs)) ≡ (list_any p (x ∷ xs) && c)
any_by p keep c x xs true true e f is rest = simp (e, f) (is refl)
any_by p keep c x xs true false e f is rest = simp (e, f) (rest ∙ ap (λ b. list_any p xs && b) (sym (is refl)) ∙ never (list_any p xs) ∙ is refl)
any_by p keep c x xs false true e f is rest = simp (e, f) rest
any_by p keep c x xs false false e f is rest = simp (e, f) rest

any-filter : {X : Type 0} (p keep : X → Bool) (c : Bool) → ((x : X) → p x ≡ true → keep x ≡ c) → (xs : List X) → list_any p (filter keep xs) ≡ (list_any p xs && c)
any-filter p keep c is [] = refl
any-filter p keep c is (x ∷ xs) = any_by p keep c x xs (p x) (keep x) refl refl (is x) (any-filter p keep c is xs)

any-last : (p : Request → Bool) (xs : List Request) (x : Request) → list_any p (xs ++ x ∷ []) ≡ list_any p (x ∷ xs)
any-last p [] x = refl
any-last p (y ∷ xs) x = ap (λ b. p y || b) (any-last p xs x) ∙ turned (p y) (p x) (list_any p xs)
  where
    turned : (a b c : Bool) → (a || (b || c)) ≡ (b || (a || c))
    turned true true c = refl
    turned true false c = refl
    turned false b c = refl

own_of : (a b : Bool) → (a && b) ≡ true → a ≡ true
own_of true b is = refl
own_of false b is = is

same_of : (m n : ℕ) → (m == n) ≡ true → m ≡ n
same_of m n e = grind (arith, nat_tests)

turn : (m n : ℕ) → (m == n) ≡ (n == m)
turn m n = grind (arith, nat_tests)

want_of : (a b : Bool) → (a && b) ≡ true → b ≡ true
want_of true b is = is
want_of false b is = absurd cc

put_by : (a b : Bool) → cond a true b ≡ ((a && true) || b)
put_by true b = refl
put_by false b = refl

cut_by : (a b : Bool) → cond a false b ≡ (b && not a)
cut_by true b = sym (never b)
cut_by false true = refl
cut_by false false = refl

other_by : (a b : Bool) → ((a && false) || b) ≡ b
other_by true b = refl
other_by false b = refl

kept_by : (a : Bool) → (a && true) ≡ a
kept_by true = refl
kept_by false = refl

-- the requests of a sequence that want what a test says, and marks of the sequences that have such a request
module _ (want : Request → Bool) where
  abbrev of : ℕ → Request → Bool
  of seq request = is_of seq request && want request

  abbrev AreMarked : (ℕ → Bool) → List Request → Type 0
  AreMarked marked queue = (seq : ℕ) → marked seq ≡ list_any (of seq) queue

  -- one more request of the sort before all, and behind all
  pub marked-first : (marked after : ℕ → Bool) (queue : List Request) (request : Request) → want request ≡ true → AreMarked marked queue
      → ((seq : ℕ) → after seq ≡ cond (nat_eq request.seq seq) true (marked seq)) → AreMarked after (request ∷ queue)
  marked-first marked after queue request wants are more seq =
      more seq ∙ ap (cond (nat_eq request.seq seq) true) (are seq) ∙ put_by (request.seq == seq) (list_any (of seq) queue)
      ∙ ap (λ b. ((request.seq == seq) && b) || list_any (of seq) queue) (sym wants)

  pub marked-last : (marked after : ℕ → Bool) (queue : List Request) (request : Request) → want request ≡ true → AreMarked marked queue
      → ((seq : ℕ) → after seq ≡ cond (nat_eq request.seq seq) true (marked seq)) → AreMarked after (queue ++ request ∷ [])
  marked-last marked after queue request wants are more seq = marked-first marked after queue request wants are more seq ∙ sym (any-last (of seq) queue request)

  -- one more of the other sort
  pub unmarked-first : (marked : ℕ → Bool) (queue : List Request) (request : Request) → want request ≡ false → AreMarked marked queue → AreMarked marked (request ∷ queue)
  unmarked-first marked queue request wants are seq =
      are seq ∙ sym (other_by (request.seq == seq) (list_any (of seq) queue)) ∙ ap (λ b. ((request.seq == seq) && b) || list_any (of seq) queue) (sym wants)

  pub unmarked-last : (marked : ℕ → Bool) (queue : List Request) (request : Request) → want request ≡ false → AreMarked marked queue → AreMarked marked (queue ++ request ∷ [])
  unmarked-last marked queue request wants are seq = unmarked-first marked queue request wants are seq ∙ sym (any-last (of seq) queue request)

  -- fewer, by a filter that drops all of the sort that a sequence has, and no other of the sort
  pub marked-cut : (keep : Request → Bool) (gone : ℕ) (marked after : ℕ → Bool) (queue : List Request) → ((request : Request) → want request ≡ true → keep request ≡ not (is_of gone request)) → AreMarked marked queue
      → ((seq : ℕ) → after seq ≡ cond (nat_eq gone seq) false (marked seq)) → AreMarked after (filter keep queue)
  marked-cut keep gone marked after queue keeps are fewer seq =
      fewer seq ∙ ap (cond (nat_eq gone seq) false) (are seq) ∙ cut_by (gone == seq) (list_any (of seq) queue)
      ∙ sym (any-filter (of seq) keep (not (gone == seq)) at queue)
    where
      at : (request : Request) → of seq request ≡ true → keep request ≡ not (gone == seq)
      at request is =
          let same = same_of request.seq seq (own_of (request.seq == seq) (want request) is) in
          keeps request (want_of (request.seq == seq) (want request) is) ∙ ap (λ n. not (n == gone)) same ∙ ap not (turn seq gone)

  -- fewer, but all of the sort stay
  pub marked-kept : (keep : Request → Bool) (marked : ℕ → Bool) (queue : List Request) → ((request : Request) → want request ≡ true → keep request ≡ true) → AreMarked marked queue → AreMarked marked (filter keep queue)
  marked-kept keep marked queue keeps are seq =
      are seq ∙ sym (kept_by (list_any (of seq) queue)) ∙ sym (any-filter (of seq) keep true (λ request is. keeps request (want_of (request.seq == seq) (want request) is)) queue)

  -- those of the sequences that pass a test
  pub marked-live : (live : ℕ → Bool) (marks : List ℕ) (queue : List Request) → AreMarked (λ seq. list_any (nat_eq seq) marks) queue → AreMarked (λ seq. list_any (nat_eq seq) (filter live marks)) (filter (λ request. live request.seq) queue)
  marked-live live marks queue are seq =
      any-filter (nat_eq seq) live (live seq) (λ n is. ap live (sym (same_of seq n is))) marks
      ∙ ap (λ b. b && live seq) (are seq)
      ∙ sym (any-filter (of seq) (λ request. live request.seq) (live seq) (λ request is. ap live (same_of request.seq seq (own_of (request.seq == seq) (want request) is))) queue)

-- who waits for nothing leaves nothing
none_by : (seq : ℕ) (x : Request) (xs : List Request) (own item : Bool) → (x.seq == seq) ≡ own → is_item x ≡ item
    → (list_any (is_item_of seq) xs ≡ false → list_any (is_lock_of seq) xs ≡ false → xs ≡ without seq xs)
    → ((own && item) || list_any (is_item_of seq) xs) ≡ false → ((own && not item) || list_any (is_lock_of seq) xs) ≡ false → x ∷ xs ≡ without seq (x ∷ xs)
none_by seq x xs true true e f rest items locks = absurd cc
none_by seq x xs true false e f rest items locks = absurd cc
none_by seq x xs false item e f rest items locks = simp e (ap (λ l. x ∷ l) (rest items locks))

pub none-left : (seq : ℕ) (xs : List Request) → list_any (is_item_of seq) xs ≡ false → list_any (is_lock_of seq) xs ≡ false → xs ≡ without seq xs
none-left seq [] items locks = refl
none-left seq (x ∷ xs) items locks = none_by seq x xs (x.seq == seq) (is_item x) refl refl (none-left seq xs) items locks

-- where nobody waits for a lock each request is for an item
same : (n : ℕ) → (n == n) ≡ true
same n = grind (arith, nat_tests)

item_by : (item rest : Bool) → ((true && not item) || rest) ≡ false → item ≡ true
item_by true rest is = refl
item_by false rest is = absurd cc

rest_of : (a b : Bool) → (a || b) ≡ false → b ≡ false
rest_of true b is = absurd cc
rest_of false b is = is

all-items : (queue : List Request) → ((seq : ℕ) → list_any (is_lock_of seq) queue ≡ false) → list_all is_item queue ≡ true
all-items [] none = refl
all-items (x ∷ xs) none =
    let own = ap (λ b. (b && not (is_item x)) || list_any (is_lock_of x.seq) xs) (sym (same x.seq)) ∙ none x.seq in
    let item = item_by (is_item x) (list_any (is_lock_of x.seq) xs) own in
    ap (λ b. b && list_all is_item xs) item ∙ all-items xs (λ seq. rest_of (is_lock_of seq x) (list_any (is_lock_of seq) xs) (none seq))

some_by : (seq : ℕ) (x : Request) (xs : List Request) (own item : Bool) → (x.seq == seq) ≡ own → is_item x ≡ item → (list_any (is_lock_of seq) xs ≡ true → list_all is_item xs ≡ false)
    → ((own && not item) || list_any (is_lock_of seq) xs) ≡ true → (item && list_all is_item xs) ≡ false
some_by seq x xs own false e f rest is = refl
some_by seq x xs true true e f rest is = rest is
some_by seq x xs false true e f rest is = rest is

lock-there : (seq : ℕ) (queue : List Request) → list_any (is_lock_of seq) queue ≡ true → list_all is_item queue ≡ false
lock-there seq [] is = absurd cc
lock-there seq (x ∷ xs) is = some_by seq x xs (x.seq == seq) (is_item x) refl refl (lock-there seq xs) is

pub items-only : (marks : List ℕ) (queue : List Request) → ((seq : ℕ) → list_any (nat_eq seq) marks ≡ list_any (is_lock_of seq) queue)
    → (length marks ≡ 0 → list_all is_item queue ≡ true) × ((length marks ≡ 0 → ⊥) → list_all is_item queue ≡ false)
items-only [] queue are = (λ _. all-items queue (λ seq. sym (are seq)), λ some. absurd (some refl))
items-only (seq ∷ marks) queue are = (λ none. absurd (omega arith), λ _. lock-there seq queue (sym (are seq) ∙ ap (λ b. b || list_any (nat_eq seq) marks) (same seq)))
