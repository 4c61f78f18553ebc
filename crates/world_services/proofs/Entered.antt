-- An entry stays at its place.
use Rattle.world_services.proofs.Common.{◌≡◌, ℕ, zero, suc, ◌<◌, List, [], ◌∷◌, ◌++◌, length, reverse, slice_get, Option, Some, None, refl, ap, subst, ◌∙◌, arith, reverse-append, length-reverse, ForSome, Act, Entry, acts_at, acts_in}

get-front : {A : Type 0} (xs ys : List A) (k : ℕ) → k < length xs → slice_get (xs ++ ys) k ≡ slice_get xs k
get-front [] ys k lt = absurd (omega arith)
get-front (x ∷ xs) ys zero lt = refl
get-front (x ∷ xs) ys (suc k) lt = get-front xs ys k (omega arith)

-- an entry stays at its place
pub get-later : (entry : Entry) (before : List Entry) (place : ℕ) → place < length before → slice_get (reverse (entry ∷ before)) place ≡ slice_get (reverse before) place
get-later entry before place lt =
    ap (λ (entries : List Entry). slice_get entries place) (reverse-append (entry ∷ []) before)
    ∙ get-front (reverse before) (entry ∷ []) place (omega (arith, length-reverse before))

pub acts-later : (test_creation : Act) (entry : Entry) (before : List Entry) (answer : Option ℕ) → ForSome answer (λ place. place < length before) → acts_at test_creation (entry ∷ before) answer ≡ acts_at test_creation before answer
acts-later test_creation entry before None within = refl
acts-later test_creation entry before (Some place) within = ap acts_in (get-later entry before place (within place refl))

pub answered-later : (entry : Entry) (before : List Entry) (answer : Option ℕ) → ForSome answer (λ place. place < length before) → ForSome answer (λ place. place < length (entry ∷ before))
answered-later entry before answer within = λ place e. let lt = within place e in omega (arith, lt)

pub answered-last : (entry : Entry) (before : List Entry) → ForSome (Some (length before)) (λ place. place < length (entry ∷ before))
answered-last entry before = λ place e. let same : length before ≡ place = cc in omega (arith, same)

-- the entry that came last stands at the place that was the length
pub get-last : (entry : Entry) (before : List Entry) → slice_get (reverse (entry ∷ before)) (length before) ≡ Some entry
get-last entry before =
    ap (λ (entries : List Entry). slice_get entries (length before)) (reverse-append (entry ∷ []) before)
    ∙ get-end (reverse before) entry (length before) (length-reverse before)
  where
    get-end : (xs : List Entry) (x : Entry) (n : ℕ) → length xs ≡ n → slice_get (xs ++ x ∷ []) n ≡ Some x
    get-end [] x zero e = refl
    get-end [] x (suc n) e = absurd (omega arith)
    get-end (y ∷ ys) x zero e = absurd (omega arith)
    get-end (y ∷ ys) x (suc n) e = get-end ys x n (omega arith)

-- what holds of a value holds for some
pub for-some : {T : Type 0} (P : T → Type 0) (value : T) → P value → ForSome (Some value) P
for-some P value holds = λ other e. let same : value ≡ other = cc in subst P same holds
