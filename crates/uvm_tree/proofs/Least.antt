-- The least of the nodes that pass a test, where it is known which one it is.
use Rattle.uvm_tree.proofs.Common.{◌≡◌, ◌<◌, ◌≤◌, ◌+◌, ◌-◌, ℕ, zero, suc, Bool, true, false, List, [], ◌∷◌, length, Some, None, filter, refl, ap, ◌∙◌, inl, inr, arith, rules, if◌then◌else◌, cases_lt, All-nil, All-cons, Contains-append_right, Contains, range_with_len, Node, IsLeast, numbers_of, All}

-- a test is false where it cannot be true
pub not_true : (b : Bool) → (b ≡ true → ⊥) → b ≡ false
not_true true h = absurd (h refl)
not_true false h = refl

module _ (p : ℕ → Bool) where
  none-from : (a k : ℕ) → ((n : ℕ) → a ≤ n → n < a + k → p n ≡ true → ⊥) → filter p (range_with_len a k) ≡ []
  none-from a zero never = refl
  none-from a (suc k) never =
      let first : p a ≡ false = not_true (p a) (never a (omega arith) (omega arith)) in
      rw first (none-from (a + 1) k (λ n low high. never n (omega arith) (omega arith)))

  all-tested : (Q : ℕ → Type 0) (a : ℕ) (rest : List ℕ) (b : Bool) → p a ≡ b → (p a ≡ true → Q a) → All Q rest → All Q (if b then a ∷ rest else rest)
  all-tested Q a rest true e first others = All-cons Q a rest (first e) others
  all-tested Q a rest false e first others = others

  all-from : (Q : ℕ → Type 0) (a k : ℕ) → ((n : ℕ) → a ≤ n → n < a + k → p n ≡ true → Q n) → All Q (filter p (range_with_len a k))
  all-from Q a zero each = All-nil Q
  all-from Q a (suc k) each =
      all-tested Q a (filter p (range_with_len (a + 1) k)) (p a) refl (each a (omega arith) (omega arith)) (all-from Q (a + 1) k (λ n low high. each n (omega arith) (omega arith)))

  held-tested : (c a : ℕ) (rest : List ℕ) (b : Bool) → Contains rest c → Contains (if b then a ∷ rest else rest) c
  held-tested c a rest true there = Contains-append_right (a ∷ []) rest c there
  held-tested c a rest false there = there

  held-from : (c a k : ℕ) → a ≤ c → c < a + k → p c ≡ true → Contains (filter p (range_with_len a k)) c
  held-from c a zero low high passes = absurd (omega arith)
  held-from c a (suc k) low high passes =
      elim (cases_lt a c) [
        | inl lt ↦ held-tested c a (filter p (range_with_len (a + 1) k)) (p a) (held-from c (a + 1) k (omega arith) (omega arith) passes)
        | inr ge ↦
            let same : a ≡ c = omega arith in
            let first : p a ≡ true = ap p same ∙ passes in
            rw first (0, search rules, same)
      ]

  -- none of the nodes passes
  pub least-none : (before : ℕ → ℕ → Bool) (nodes : List Node) → ((n : ℕ) → 0 < n → n < length nodes → p n ≡ true → ⊥) → IsLeast before (filter p (numbers_of nodes)) None
  least-none before nodes never = record {
    none = (λ _. none-from 1 (length nodes - 1) (λ n low high. never n (omega arith) (omega arith)), λ _. refl);
    member = tt;
    first = tt;
  }

  -- one passes, and no other that does stands before it
  pub least-some : (before : ℕ → ℕ → Bool) (nodes : List Node) (c : ℕ) → 0 < c → c < length nodes → p c ≡ true → ((n : ℕ) → 0 < n → n < length nodes → p n ≡ true → before n c ≡ false) → IsLeast before (filter p (numbers_of nodes)) (Some c)
  least-some before nodes c low high passes first =
      let held = held-from c 1 (length nodes - 1) (omega arith) (omega arith) passes in
      record {
        none = (λ e. absurd cc, λ e. absurd (let h = held.1 in omega (arith, ap length e)));
        member = held;
        first = all-from (λ n. before n c ≡ false) 1 (length nodes - 1) (λ n from upto. first n (omega arith) (omega arith));
      }
