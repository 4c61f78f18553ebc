-- Which of two calls comes due before the other.
use Rattle.uvm_phase.proofs.Common.{◌≡◌, ◌≤◌, ℕ, Bool, true, false, ◌&&◌, ◌||◌, ltb, eqb, arith, refl, nat_tests, Due, is_due_before}

-- one test after another: what comes first, where it is equal what comes second
abbrev lex : (m n : ℕ) → Bool → Bool
lex m n rest = ltb m n || (eqb m n && rest)

lex_goes : (m n k : ℕ) (rest back : Bool) (found : Bool) → (rest ≡ true → back ≡ false → found ≡ true) → lex m n rest ≡ true → lex k n back ≡ false → lex m k found ≡ true
lex_goes m n k true true found more first second = grind (arith, nat_tests)
lex_goes m n k true false found more first second = let f : found ≡ true = more refl refl in grind (arith, nat_tests)
lex_goes m n k false back found more first second = grind (arith, nat_tests)

-- what comes before one comes before all that do not come before that one
pub before_others : {O N : Type 0} (a b c : Due O N) → is_due_before a b ≡ true → is_due_before c b ≡ false → is_due_before a c ≡ true
unfolding is_due_before
before_others a b c first second =
    lex_goes a.time b.time c.time _ _ _ (lex_goes a.cause.place b.cause.place c.cause.place _ _ _ (λ h k. grind (arith, nat_tests))) first second

lex_one : (m n : ℕ) (rest back : Bool) → (rest ≡ true → back ≡ false) → lex m n rest ≡ true → lex n m back ≡ false
lex_one m n true back more first = let f : back ≡ false = more refl in grind (arith, nat_tests)
lex_one m n false back more first = grind (arith, nat_tests)

-- of two calls one does not come before the other
pub not_before : {O N : Type 0} (a b : Due O N) → is_due_before a b ≡ true → is_due_before b a ≡ false
unfolding is_due_before
not_before a b first =
    lex_one a.time b.time _ _ (lex_one a.cause.place b.cause.place _ _ (λ h. grind (arith, nat_tests))) first

pub not_before_self : {O N : Type 0} (due : Due O N) → is_due_before due due ≡ false
unfolding is_due_before
not_before_self due = grind (arith, nat_tests)

-- what stands in front of another in an order is not later
pub time_in_order : {O N : Type 0} (a b : Due O N) → is_due_before b a ≡ false → a.time ≤ b.time
unfolding is_due_before
time_in_order a b h = grind (arith, nat_tests)
