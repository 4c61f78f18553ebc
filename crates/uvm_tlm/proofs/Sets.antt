-- The set of some nodes.
use Rattle.uvm_tlm.proofs.Common.{◌≡◌, ◌||◌, ◌∙◌, ℕ, Bool, true, false, nat_eq, List, [], ◌∷◌, ◌++◌, refl, ap, sym, arith, append_assoc, nat_tests, append-nil, AllByRecursion, IsDistinct, list_any, insert_all, insert_key}

-- a node is none of some, nor one that differs from it
one-more : (nodes : List ℕ) (x y : ℕ) → list_any (nat_eq y) nodes ≡ false → nat_eq x y ≡ false → list_any (nat_eq y) (nodes ++ x ∷ []) ≡ false
one-more [] x y none other = grind (arith, nat_tests, other)
one-more (n ∷ nodes) x y none other = by (nat_eq y n) (list_any (nat_eq y) nodes) refl none (λ rest. one-more nodes x y rest other)
  where
    by : (b some : Bool) → list_any (nat_eq y) nodes ≡ some → b || some ≡ false → (list_any (nat_eq y) nodes ≡ false → list_any (nat_eq y) (nodes ++ x ∷ []) ≡ false) → b || list_any (nat_eq y) (nodes ++ x ∷ []) ≡ false
    by true some is none rest = cc
    by false some is none rest = rest (is ∙ none)

all-more : (nodes : List ℕ) (x : ℕ) (xs : List ℕ) → AllByRecursion (λ y. list_any (nat_eq y) nodes ≡ false) xs → AllByRecursion (λ y. nat_eq x y ≡ false) xs → AllByRecursion (λ y. list_any (nat_eq y) (nodes ++ x ∷ []) ≡ false) xs
all-more nodes x [] none other = tt
all-more nodes x (y ∷ xs) none other = (one-more nodes x y none.0 other.0, all-more nodes x xs none.1 other.1)

-- nodes that are there once each go behind those that are none of them
behind-others : (nodes xs : List ℕ) → AllByRecursion (λ y. list_any (nat_eq y) nodes ≡ false) xs → IsDistinct nat_eq xs → insert_all nat_eq nodes xs ≡ nodes ++ xs
unfolding IsDistinct
behind-others nodes [] none distinct = sym (append-nil nodes)
behind-others nodes (x ∷ xs) none distinct =
    let first : insert_key nat_eq nodes x ≡ nodes ++ x ∷ [] = rw none.0 refl in
    ap (λ (keys : List ℕ). insert_all nat_eq keys xs) first
    ∙ behind-others (nodes ++ x ∷ []) xs (all-more nodes x xs none.1 distinct.0) distinct.1
    ∙ append_assoc nodes (x ∷ []) xs

all-new : (xs : List ℕ) → AllByRecursion (λ y. list_any (nat_eq y) [] ≡ false) xs
all-new [] = tt
all-new (x ∷ xs) = (refl, all-new xs)

pub set-is : (nodes : List ℕ) → IsDistinct nat_eq nodes → insert_all nat_eq [] nodes ≡ nodes
set-is nodes distinct = behind-others [] nodes (all-new nodes) distinct
