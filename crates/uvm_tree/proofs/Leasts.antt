-- The least of some numbers.
use Rattle.uvm_tree.proofs.Common.{◌≡◌, ℕ, Bool, true, false, List, [], ◌∷◌, Some, refl, ap, ◌∙◌, sym, inl, inr, rules, All-nil, All-cons, All-head, All-tail, Contains-append_left, Contains-append_right, Contains-append_cases, upto, tied_itself, Contains, Ordering, Less, Equal, Greater, IsTotalOrder, is_lt, is_gt, ordering_reverse, least, sooner, IsLeast, LeastIsLeast, All}
use Rattle.std.specs.List.{fold}

lt-reverse : (o : Ordering) → is_lt (ordering_reverse o) ≡ is_gt o
lt-reverse Less = refl
lt-reverse Equal = refl
lt-reverse Greater = refl

not_gt : (o : Ordering) → is_lt o ≡ true → is_gt o ≡ false
not_gt Less e = refl
not_gt Equal e = refl
not_gt Greater e = sym e

-- a number is put before
wider : (b x n : ℕ) (xs : List ℕ) → Contains (x ∷ xs) n → Contains (b ∷ x ∷ xs) n
wider b x n xs held = Contains-append_right (b ∷ []) (x ∷ xs) n held

-- a number is put after the first
past : (b x n : ℕ) (xs : List ℕ) → Contains (b ∷ xs) n → Contains (b ∷ x ∷ xs) n
past b x n xs held =
    elim (Contains-append_cases (b ∷ []) xs n held) [
      | inl here ↦ Contains-append_left (b ∷ []) (x ∷ xs) n here
      | inr later ↦ Contains-append_right (b ∷ x ∷ []) xs n later
    ]

module _ (cmp : ℕ → ℕ → Ordering) (order : IsTotalOrder cmp) where
  abbrev before : ℕ → ℕ → Bool
  before m n = is_lt (cmp m n)

  before-gt : (m n : ℕ) → before m n ≡ is_gt (cmp n m)
  before-gt m n = ap is_lt (order.antisymm m n) ∙ lt-reverse (cmp n m)

  -- what is no later than what is no later than n is no later than it
  none-before : (m x n : ℕ) → is_gt (cmp n x) ≡ false → is_gt (cmp x m) ≡ false → before m n ≡ false
  none-before m x n low high = before-gt m n ∙ upto order n x m low high

  -- a number does not stand before n
  abbrev NotBefore : ℕ → ℕ → Type 0
  NotBefore n m = before m n ≡ false

  -- the least of some numbers and of a first one
  record IsFound (b : ℕ) (xs : List ℕ) (n : ℕ) : Type 0 where
    is : fold (sooner before) (Some b) xs ≡ Some n
    member : Contains (b ∷ xs) n
    first : All (NotBefore n) (b ∷ xs)

  goes_on : (b x : ℕ) (xs : List ℕ) → (n : ℕ) × IsFound x xs n → before x b ≡ true → (n : ℕ) × IsFound b (x ∷ xs) n
  goes_on b x xs found e =
      let n = found.0 in
      let rest = found.1 in
      let low : is_gt (cmp n x) ≡ false = sym (before-gt x n) ∙ All-head (NotBefore n) x xs rest.first in (
        n,
        record {
          is = rw e rest.is;
          member = wider b x n xs rest.member;
          first = All-cons (NotBefore n) b (x ∷ xs) (none-before b x n low (not_gt (cmp x b) e)) rest.first;
        },
      )

  stays : (b x : ℕ) (xs : List ℕ) → (n : ℕ) × IsFound b xs n → before x b ≡ false → (n : ℕ) × IsFound b (x ∷ xs) n
  stays b x xs found e =
      let n = found.0 in
      let rest = found.1 in
      let low : is_gt (cmp n b) ≡ false = sym (before-gt b n) ∙ All-head (NotBefore n) b xs rest.first in
      let high : is_gt (cmp b x) ≡ false = sym (before-gt x b) ∙ e in (
        n,
        record {
          is = rw e rest.is;
          member = past b x n xs rest.member;
          first = All-cons (NotBefore n) b (x ∷ xs) (All-head (NotBefore n) b xs rest.first) (All-cons (NotBefore n) x xs (none-before x b n low high) (All-tail (NotBefore n) b xs rest.first));
        },
      )

  by_test : (b x : ℕ) (xs : List ℕ) → (n : ℕ) × IsFound x xs n → (n : ℕ) × IsFound b xs n → (t : Bool) → before x b ≡ t → (n : ℕ) × IsFound b (x ∷ xs) n
  by_test b x xs other found true e = goes_on b x xs other e
  by_test b x xs other found false e = stays b x xs found e

  found_from : (b : ℕ) (xs : List ℕ) → (n : ℕ) × IsFound b xs n
  found_from b [] = (
    b,
    record {
      is = refl;
      member = (0, search rules, refl);
      first = All-cons (NotBefore b) b [] (ap is_lt (tied_itself order b)) (All-nil (NotBefore b));
    },
  )
  found_from b (x ∷ xs) = by_test b x xs (found_from x xs) (found_from b xs) (before x b) refl

  of_found : (b : ℕ) (xs : List ℕ) → (n : ℕ) × IsFound b xs n → IsLeast before (b ∷ xs) (least before (b ∷ xs))
  of_found b xs found =
      rw found.1.is (record {
        none = search rules;
        member = found.1.member;
        first = found.1.first;
      })

  is_least : (numbers : List ℕ) → IsLeast before numbers (least before numbers)
  is_least [] = record { none = search rules; member = tt; first = tt }
  is_least (b ∷ xs) = of_found b xs (found_from b xs)

pub least_is_least : LeastIsLeast
least_is_least cmp order numbers = is_least cmp order numbers
