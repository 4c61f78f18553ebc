-- What is written into each of some FIFOs.
use Rattle.world_wiring.proofs.Common.{◌≡◌, ℕ, zero, suc, ◌==◌, nat_eq, Bool, true, false, ◌||◌, List, [], ◌∷◌, filter, drop, take, Option, Some, None, option_map, All, refl, ap, sym, ◌∙◌, subst, arith, if◌then◌else◌, AllByRecursion, IsDistinct, list_any, get, nat_tests, get_or_default, All-contains, All-filter, All-head, All-tail, list_any-append, Contains-tail, IsDistinct-head, IsDistinct-tail, Item, FifoValue, Requester, puts_now, ChangesAt, FifoMap, StoresAll, stored_once, with_stored_if}
use Rattle.std.specs.List.{Contains}
use Rattle.world_state.proofs.Lists.{take-one}

-- what follows a number in distinct ones is another
other-behind : (y : ℕ) (xs : List ℕ) (i x : ℕ) (rest : List ℕ) → AllByRecursion (λ m. nat_eq y m ≡ false) xs → drop i xs ≡ x ∷ rest → nat_eq y x ≡ false
other-behind y [] zero x rest all e = cc
other-behind y [] (suc i) x rest all e = cc
other-behind y (z ∷ xs) zero x rest all e = let same : z ≡ x = cc in subst (λ (m : ℕ). nat_eq y m ≡ false) same all.0
other-behind y (z ∷ xs) (suc i) x rest all e = other-behind y xs i x rest all.1 e

-- none of those before it is the same
pub unseen : (xs : List ℕ) (i x : ℕ) (rest : List ℕ) → IsDistinct nat_eq xs → drop i xs ≡ x ∷ rest → list_any (nat_eq x) (take i xs) ≡ false
unseen [] zero x rest apart e = cc
unseen [] (suc i) x rest apart e = cc
unseen (y ∷ xs) zero x rest apart e = refl
unseen (y ∷ xs) (suc i) x rest apart e =
    let other : nat_eq y x ≡ false = other-behind y xs i x rest (IsDistinct-head nat_eq y xs apart) e in
    let flipped : nat_eq x y ≡ false = grind (arith, nat_tests) in
    rw (flipped, unseen xs i x rest (IsDistinct-tail nat_eq y xs apart) e) refl

-- an item is put into one more FIFO
pub store-one :
    (item : Item) (targets : List ℕ) (i target : ℕ) (rest : List ℕ) (stored : Bool) (old mid new : FifoMap) → IsDistinct nat_eq targets → drop i targets ≡ target ∷ rest
    → StoresAll item (take i targets) old mid → stored ≡ puts_now (get nat_eq mid target) → ChangesAt target (with_stored_if stored item) mid new → StoresAll item (take (suc i) targets) old new
store-one item targets i target rest stored old mid new apart here so_far value changes n =
    rw (take-one targets i target rest here, list_any-append (nat_eq n) (take i targets) (target ∷ [])) (changes n ∙ tested (target == n) refl)
  where
    once : (fifo_state : Option (FifoValue Requester)) → stored ≡ puts_now fifo_state → option_map (with_stored_if stored item) fifo_state ≡ option_map (stored_once item) fifo_state
    once None is = refl
    once (Some s) is = rw is refl

    or-false : (b : Bool) → (if b then option_map (stored_once item) (get nat_eq old n) else get nat_eq old n) ≡ (if b || false then option_map (stored_once item) (get nat_eq old n) else get nat_eq old n)
    or-false true = refl
    or-false false = refl

    tested : (same : Bool) → (target == n) ≡ same → (if same then option_map (with_stored_if stored item) (get nat_eq mid n) else get nat_eq mid n) ≡ (if list_any (nat_eq n) (take i targets) || (nat_eq n target || false) then option_map (stored_once item) (get nat_eq old n) else get nat_eq old n)
    tested true e =
        let same : target ≡ n = grind (arith, nat_tests) in
        let found : nat_eq n target ≡ true = grind (arith, nat_tests) in
        let before : list_any (nat_eq n) (take i targets) ≡ false = subst (λ (m : ℕ). list_any (nat_eq m) (take i targets) ≡ false) same (unseen targets i target rest apart here) in
        let untouched : get nat_eq mid n ≡ get nat_eq old n = so_far n ∙ rw before refl in
        let is : stored ≡ puts_now (get nat_eq old n) = value ∙ ap (λ (m : ℕ). puts_now (get nat_eq mid m)) same ∙ ap puts_now untouched in
        rw (before, found, untouched) (once (get nat_eq old n) is)
    tested false e =
        let other : nat_eq n target ≡ false = grind (arith, nat_tests) in
        rw other (so_far n ∙ or-false (list_any (nat_eq n) (take i targets)))

-- a number is among those that pass a test where it is among all and passes it
pub any-filter : (n : ℕ) (q : ℕ → Bool) (xs : List ℕ) → q n ≡ true → list_any (nat_eq n) (filter q xs) ≡ list_any (nat_eq n) xs
any-filter n q [] passes = refl
any-filter n q (x ∷ xs) passes = tested (nat_eq n x) refl (q x) refl (any-filter n q xs passes)
  where
    tested : (same : Bool) → nat_eq n x ≡ same → (kept : Bool) → q x ≡ kept → list_any (nat_eq n) (filter q xs) ≡ list_any (nat_eq n) xs → list_any (nat_eq n) (if kept then x ∷ filter q xs else filter q xs) ≡ (same || list_any (nat_eq n) xs)
    tested true is true passes' rest = rw is refl
    tested true is false fails rest =
        let here : n ≡ x = grind (arith, nat_tests) in
        let clash : true ≡ false = sym passes ∙ ap q here ∙ fails in
        cc
    tested false is true passes' rest = rw is rest
    tested false is false fails rest = rest

pub any-passes : (n : ℕ) (q : ℕ → Bool) (xs : List ℕ) → list_any (nat_eq n) (filter q xs) ≡ true → q n ≡ true
any-passes n q [] e = cc
any-passes n q (x ∷ xs) e = tested (q x) refl e (any-passes n q xs)
  where
    here : (same : Bool) → nat_eq n x ≡ same → q x ≡ true → (same || list_any (nat_eq n) (filter q xs)) ≡ true → (list_any (nat_eq n) (filter q xs) ≡ true → q n ≡ true) → q n ≡ true
    here true is passes e behind = let same : n ≡ x = grind (arith, nat_tests) in ap q same ∙ passes
    here false is passes e behind = behind e

    tested : (kept : Bool) → q x ≡ kept → list_any (nat_eq n) (if kept then x ∷ filter q xs else filter q xs) ≡ true → (list_any (nat_eq n) (filter q xs) ≡ true → q n ≡ true) → q n ≡ true
    tested true is e behind = here (nat_eq n x) refl is e behind
    tested false is e behind = behind e

-- it is among some where it is
pub any-contained : (n : ℕ) (xs : List ℕ) → list_any (nat_eq n) xs ≡ true → Contains xs n
any-contained n [] e = cc
any-contained n (x ∷ xs) e = tested (nat_eq n x) refl e (any-contained n xs)
  where
    tested : (same : Bool) → nat_eq n x ≡ same → (same || list_any (nat_eq n) xs) ≡ true → (list_any (nat_eq n) xs ≡ true → Contains xs n) → Contains (x ∷ xs) n
    tested true is e behind = let same : x ≡ n = grind (arith, nat_tests) in (0, omega arith, same)
    tested false is e behind = let b = behind e in (suc b.0, omega (arith, b.1), b.2)

-- those that pass a test are those that are among them
members : (p q : ℕ → Bool) (xs : List ℕ) → All (λ n. p n ≡ q n) xs → filter p xs ≡ filter q xs
members p q [] same = refl
members p q (x ∷ xs) same =
    let here : p x ≡ q x = All-head (λ n. p n ≡ q n) x xs same in
    rw (here, members p q xs (All-tail (λ n. p n ≡ q n) x xs same)) refl

any-there : (n : ℕ) (xs : List ℕ) → Contains xs n → list_any (nat_eq n) xs ≡ true
any-there n [] there = absurd (omega (arith, there.1))
any-there n (x ∷ xs) there = tested (nat_eq n x) refl (any-there n xs)
  where
    tested : (same : Bool) → nat_eq n x ≡ same → (Contains xs n → list_any (nat_eq n) xs ≡ true) → (same || list_any (nat_eq n) xs) ≡ true
    tested true is behind = refl
    tested false is behind = behind (Contains-tail x xs n (λ same. grind (arith, nat_tests)) there)

filter-lacks : (n : ℕ) (q : ℕ → Bool) (xs : List ℕ) (b : Bool) → q n ≡ b → Contains xs n → list_any (nat_eq n) (filter q xs) ≡ b
filter-lacks n q xs true passes there = any-filter n q xs passes ∙ any-there n xs there
filter-lacks n q xs false fails there = none (list_any (nat_eq n) (filter q xs)) refl
  where
    none : (b : Bool) → list_any (nat_eq n) (filter q xs) ≡ b → b ≡ false
    none true is = let passes = any-passes n q xs is in let clash : true ≡ false = sym passes ∙ fails in cc
    none false is = refl

-- what passes a test is one of all
pub filter-contains : (q : ℕ → Bool) (xs : List ℕ) (n : ℕ) → Contains (filter q xs) n → Contains xs n
filter-contains q xs n there = All-contains (Contains xs) (filter q xs) n (All-filter q (Contains xs) xs (λ k d lt. (k, lt, get_or_default xs k _ _ lt))) there

pub members-kept : (q : ℕ → Bool) (xs : List ℕ) → filter q xs ≡ filter (λ n. list_any (nat_eq n) (filter q xs)) xs
members-kept q xs = members q (λ n. list_any (nat_eq n) (filter q xs)) xs (λ k d lt. sym (filter-lacks _ q xs (q _) refl (k, lt, get_or_default xs k _ _ lt)))
