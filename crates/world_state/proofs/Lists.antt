-- Filters and parts of lists.
use Rattle.world_state.proofs.Common.{◌≡◌, ℕ, nat_eq, Option, None, suc, Bool, true, false, not, ◌&&◌, ◌||◌, List, [], ◌∷◌, ◌++◌, drop, filter, slice_get, Some, All, refl, ap, subst, arith, if◌then◌else◌, ◌≤◌, length, map, zero, take, IsDistinct, AllByRecursion, nat_tests, All-cons, All-head, All-nil, All-tail, IsDistinct-head, IsDistinct-tail, Contains-tail, first_given, Contains}

-- a filter by two tests is one filter after the other
filter-tested : {A : Type 0} (p : A → Bool) (x : A) (rest known : List A) (b : Bool) → rest ≡ filter p known → (if b && p x then x ∷ rest else rest) ≡ filter p (if b then x ∷ known else known)
filter-tested p x rest known false e = e
filter-tested p x rest known true e = rw e refl

pub filter-twice : {A : Type 0} (p q both : A → Bool) → ((x : A) → both x ≡ (q x && p x)) → (xs : List A) → filter both xs ≡ filter p (filter q xs)
filter-twice p q both same [] = refl
filter-twice p q both same (x ∷ xs) = rw (same x) (filter-tested p x (filter both xs) (filter q xs) (q x) (filter-twice p q both same xs))

pub one-heard : (a b e : Bool) → (not (a || b) && e) ≡ ((not b && e) && not a)
one-heard true true true = refl
one-heard true true false = refl
one-heard true false true = refl
one-heard true false false = refl
one-heard false true true = refl
one-heard false true false = refl
one-heard false false true = refl
one-heard false false false = refl

pub one-ended : (h a b : Bool) → (h && not (a || b)) ≡ ((h && not b) && not a)
one-ended true true true = refl
one-ended true true false = refl
one-ended true false true = refl
one-ended true false false = refl
one-ended false a b = refl

pub one-heard-of : (a b e f : Bool) → ((not (a || b) && e) && f) ≡ (((not b && e) && f) && not a)
one-heard-of true true e f = refl
one-heard-of true false true true = refl
one-heard-of true false true false = refl
one-heard-of true false false f = refl
one-heard-of false true e f = refl
one-heard-of false false true true = refl
one-heard-of false false true false = refl
one-heard-of false false false f = refl

pub one-ended-of : (h a b f : Bool) → ((h && not (a || b)) && f) ≡ (((h && not b) && f) && not a)
one-ended-of true true true f = refl
one-ended-of true true false true = refl
one-ended-of true true false false = refl
one-ended-of true false true f = refl
one-ended-of true false false true = refl
one-ended-of true false false false = refl
one-ended-of false a b f = refl

-- what holds of all holds of the first
pub first-holds : {A : Type 0} (P : A → Type 0) (xs : List A) (first : A) → All P xs → slice_get xs 0 ≡ Some first → P first
first-holds P [] first all e = cc
first-holds P (x ∷ xs) first all e = let same : x ≡ first = cc in subst P same (All-head P x xs all)

-- a map of a filter by what is mapped
pub map-filter : {A B : Type 0} (f : A → B) (p : B → Bool) (xs : List A) → map f (filter (λ x. p (f x)) xs) ≡ filter p (map f xs)
map-filter f p [] = refl
map-filter f p (x ∷ xs) = kept (p (f x)) (map-filter f p xs)
  where
    kept : (b : Bool) → map f (filter (λ x. p (f x)) xs) ≡ filter p (map f xs) → map f (if b then x ∷ filter (λ x. p (f x)) xs else filter (λ x. p (f x)) xs) ≡ (if b then f x ∷ filter p (map f xs) else filter p (map f xs))
    kept true e = ap (λ ys. f x ∷ ys) e
    kept false e = e

-- a filter that all pass
pub filter-all : {A : Type 0} (p : A → Bool) (xs : List A) → All (λ x. p x ≡ true) xs → filter p xs ≡ xs
filter-all p [] all = refl
filter-all p (x ∷ xs) all =
    let here : p x ≡ true = All-head (λ x. p x ≡ true) x xs all in
    rw (here, filter-all p xs (All-tail (λ x. p x ≡ true) x xs all)) refl

pub filter-none : {A : Type 0} (xs : List A) → filter (λ (x : A). false) xs ≡ []
filter-none [] = refl
filter-none (x ∷ xs) = filter-none xs

-- one more of some
pub take-one : {A : Type 0} (xs : List A) (i : ℕ) (x : A) (rest : List A) → drop i xs ≡ x ∷ rest → take (suc i) xs ≡ take i xs ++ x ∷ []
take-one [] zero x rest e = cc
take-one [] (suc i) x rest e = cc
take-one {A} (y ∷ xs) zero x rest e = let same : y ≡ x = cc in ap (λ (z : A). z ∷ []) same
take-one {A} (y ∷ xs) (suc i) x rest e = ap (λ (zs : List A). y ∷ zs) (take-one xs i x rest e)

-- behind all nothing is left
pub drop-past : {A : Type 0} (xs : List A) (n : ℕ) → length xs ≤ n → drop n xs ≡ []
drop-past [] zero le = refl
drop-past [] (suc n) le = refl
drop-past (x ∷ xs) zero le = absurd (omega (arith, le))
drop-past (x ∷ xs) (suc n) le = drop-past xs n (omega (arith, le))

-- one number among distinct ones
others-none : (n : ℕ) (xs : List ℕ) → AllByRecursion (λ m. nat_eq n m ≡ false) xs → filter (nat_eq n) xs ≡ []
others-none n [] others = refl
others-none n (m ∷ xs) others = rw (others.0, others-none n xs others.1) refl

one-tested :
    (n x : ℕ) (xs : List ℕ) (b : Bool) → nat_eq n x ≡ b → AllByRecursion (λ m. nat_eq x m ≡ false) xs → Contains (x ∷ xs) n → (Contains xs n → filter (nat_eq n) xs ≡ n ∷ [])
    → (if b then x ∷ filter (nat_eq n) xs else filter (nat_eq n) xs) ≡ n ∷ []
one-tested n x xs true e others has rest =
    let same : x ≡ n = grind (arith, nat_tests) in
    let none : AllByRecursion (λ m. nat_eq n m ≡ false) xs = subst (λ (y : ℕ). AllByRecursion (λ m. nat_eq y m ≡ false) xs) same others in
    rw (others-none n xs none, same) refl
one-tested n x xs false e others has rest = rest (Contains-tail x xs n (λ same. grind (arith, nat_tests)) has)

pub filter-one : (n : ℕ) (xs : List ℕ) → IsDistinct nat_eq xs → Contains xs n → filter (nat_eq n) xs ≡ n ∷ []
filter-one n [] apart has = absurd (omega (arith, has.1))
filter-one n (x ∷ xs) apart has = one-tested n x xs (nat_eq n x) refl (IsDistinct-head nat_eq x xs apart) has (filter-one n xs (IsDistinct-tail nat_eq x xs apart))

-- where nothing is given first, nothing is given of any
pub first-none : {A : Type 0} (f : ℕ → Option A) (xs : List ℕ) → first_given (map f xs) ≡ None → All (λ x. f x ≡ None) xs
first-none f [] none = All-nil (λ x. f x ≡ None)
first-none {A = A} f (x ∷ xs) none = headed (f x) refl none (first-none f xs)
  where
    headed : (given : Option A) → f x ≡ given → first_given (given ∷ map f xs) ≡ None → (first_given (map f xs) ≡ None → All (λ x. f x ≡ None) xs) → All (λ x. f x ≡ None) (x ∷ xs)
    headed None is none behind = All-cons (λ x. f x ≡ None) x xs is (behind none)
    headed (Some a) is none behind = cc

-- of those that are kept the first of which something is given is the first of all, where nothing is given of the others
pub first-kept : {A : Type 0} (f : ℕ → Option A) (among : ℕ → Bool) (order : List ℕ) → ((n : ℕ) → among n ≡ false → f n ≡ None) → first_given (map f (filter among order)) ≡ first_given (map f order)
first-kept f among [] others = refl
first-kept {A = A} f among (x ∷ order) others = tested (among x) refl (first-kept f among order others)
  where
    behind : (given : Option A) → first_given (map f (filter among order)) ≡ first_given (map f order) → first_given (given ∷ map f (filter among order)) ≡ first_given (given ∷ map f order)
    behind None rest = rest
    behind (Some a) rest = refl

    tested : (b : Bool) → among x ≡ b → first_given (map f (filter among order)) ≡ first_given (map f order) → first_given (map f (if b then x ∷ filter among order else filter among order)) ≡ first_given (f x ∷ map f order)
    tested true is rest = behind (f x) rest
    tested false is rest = rw (others x is) rest
