-- Lists of nodes, and tests of their elements.
use Rattle.uvm_tlm.proofs.Common.{◌≡◌, ◌≤◌, ℕ, Bool, true, false, cond, eqb, ◌||◌, nat_eq, List, [], ◌∷◌, ◌++◌, length, take, All, Option, Some, if◌then◌else◌, refl, sym, ap, ◌∙◌, inl, inr, arith, list_any, option_map_or, eqb-true, eq-eqb, false≢true, or_cases, or_left, or_right, nat_tests, take-append-le, length_push, All-head, All-tail, list_any-append, insert_key, insert_all, has}

pub eqb-flip : (m n : ℕ) → eqb m n ≡ eqb n m
eqb-flip m n = grind (arith, nat_tests)

pub eqb-same : (n : ℕ) → eqb n n ≡ true
eqb-same n = eq-eqb n n refl

pub or-false : (b : Bool) → (b || false) ≡ b
or-false true = refl
or-false false = refl

-- two tests with the same answers
pub same_answer : (a b : Bool) → (a ≡ true → b ≡ true) → (b ≡ true → a ≡ true) → a ≡ b
same_answer true true f g = refl
same_answer true false f g = sym (f refl)
same_answer false true f g = g refl
same_answer false false f g = refl

-- what follows of each element that passes a test follows of a list that has one
pub any_follows : {X : Type 0} (test : X → Bool) (goal : Bool) (xs : List X) → All (λ x. test x ≡ true → goal ≡ true) xs → list_any test xs ≡ true → goal ≡ true
any_follows test goal [] all h = absurd (false≢true h)
any_follows test goal (x ∷ xs) all h = elim (or_cases (test x) (list_any test xs) h) [
  | inl here ↦ All-head (λ x. test x ≡ true → goal ≡ true) x xs all here
  | inr later ↦ any_follows test goal xs (All-tail (λ x. test x ≡ true → goal ≡ true) x xs all) later
]

-- one that passes a test passes another
pub any_weaker : {X : Type 0} (test other : X → Bool) (xs : List X) → All (λ x. test x ≡ true → other x ≡ true) xs → list_any test xs ≡ true → list_any other xs ≡ true
any_weaker test other [] all h = h
any_weaker test other (x ∷ xs) all h = elim (or_cases (test x) (list_any test xs) h) [
  | inl here ↦ or_left (other x) (list_any other xs) (All-head (λ x. test x ≡ true → other x ≡ true) x xs all here)
  | inr later ↦ or_right (other x) (list_any other xs) (any_weaker test other xs (All-tail (λ x. test x ≡ true → other x ≡ true) x xs all) later)
]

-- one more element of the list at a key
pub pushed : {V : Type 0} (items : V → List ℕ) (f g : ℕ → Option V) (key element : ℕ) (w : V)
    → ((q : ℕ) → g q ≡ cond (eqb key q) (Some w) (f q))
    → items w ≡ option_map_or items (f key) [] ++ element ∷ []
    → (n : ℕ) → option_map_or items (g n) [] ≡ (if eqb n key then option_map_or items (f n) [] ++ element ∷ [] else option_map_or items (f n) [])
pushed items f g key element w updates is n = by (eqb n key) refl
  where
    by : (b : Bool) → eqb n key ≡ b → option_map_or items (g n) [] ≡ (if b then option_map_or items (f n) [] ++ element ∷ [] else option_map_or items (f n) [])
    by true e =
        ap (λ o. option_map_or items o []) (updates n ∙ ap (λ b. cond b (Some w) (f n)) (eqb-flip key n ∙ e))
        ∙ is ∙ ap (λ k. option_map_or items (f k) [] ++ element ∷ []) (sym (eqb-true n key e))
    by false e = ap (λ o. option_map_or items o []) (updates n ∙ ap (λ b. cond b (Some w) (f n)) (eqb-flip key n ∙ e))

pub has_push : (nodes : List ℕ) (node n : ℕ) → has (nodes ++ node ∷ []) n ≡ (has nodes n || eqb n node)
has_push nodes node n = list_any-append (eqb n) nodes (node ∷ []) ∙ ap (λ b. has nodes n || b) (or-false (eqb n node))

-- a node that is there already is no new one
has_again : (nodes : List ℕ) (node n : ℕ) → has nodes node ≡ true → has nodes n ≡ (has nodes n || eqb n node)
has_again nodes node n there = same_answer (has nodes n) (has nodes n || eqb n node) (or_left (has nodes n) (eqb n node)) (λ h. elim (or_cases (has nodes n) (eqb n node) h) [
  | inl old ↦ old
  | inr same ↦ ap (has nodes) (eqb-true n node same) ∙ there
])

has-insert_key : (nodes : List ℕ) (node n : ℕ) → has (insert_key nat_eq nodes node) n ≡ (has nodes n || eqb n node)
has-insert_key nodes node n = by (has nodes node) refl
  where
    by : (b : Bool) → has nodes node ≡ b → has (if b then nodes else nodes ++ node ∷ []) n ≡ (has nodes n || eqb n node)
    by true there = has_again nodes node n there
    by false new = has_push nodes node n

pub or-assoc : (a b c : Bool) → ((a || b) || c) ≡ (a || (b || c))
or-assoc true b c = refl
or-assoc false b c = refl

pub has-insert_all : (nodes more : List ℕ) (n : ℕ) → has (insert_all nat_eq nodes more) n ≡ (has nodes n || has more n)
has-insert_all nodes [] n = sym (or-false (has nodes n))
has-insert_all nodes (node ∷ more) n =
    has-insert_all (insert_key nat_eq nodes node) more n
    ∙ ap (λ b. b || has more n) (has-insert_key nodes node n)
    ∙ or-assoc (has nodes n) (eqb n node) (has more n)

-- what is inserted goes behind the others
pub record IsLonger (old new : List ℕ) : Type 0 where
  pub longer : length old ≤ length new
  pub front : (i : ℕ) → i ≤ length old → take i new ≡ take i old

longer-insert_key : (nodes : List ℕ) (node : ℕ) → IsLonger nodes (insert_key nat_eq nodes node)
longer-insert_key nodes node = by (has nodes node)
  where
    by : (b : Bool) → IsLonger nodes (if b then nodes else nodes ++ node ∷ [])
    by true = record { longer = omega arith; front = λ i within. refl }
    by false = record { longer = omega (arith, length_push nodes node); front = λ i within. take-append-le i nodes (node ∷ []) within }

pub longer-insert_all : (nodes more : List ℕ) → IsLonger nodes (insert_all nat_eq nodes more)
longer-insert_all nodes [] = record { longer = omega arith; front = λ i within. refl }
longer-insert_all nodes (node ∷ more) =
    let one = longer-insert_key nodes node in
    let rest = longer-insert_all (insert_key nat_eq nodes node) more in
    record {
      longer = omega (arith, one.longer, rest.longer);
      front = λ i within. rest.front i (omega (arith, within, one.longer)) ∙ one.front i within;
    }
