-- The least of some numbers.
use Rattle.bench_history.proofs.Common.{ℕ, Bool, true, false, List, [], ◌∷◌, fold, Option, Some, None, IfSome, if◌then◌else◌, All-head, All-tail, sooner, least, All}

-- the least of some numbers is one of them
sooner-holds : (P : ℕ → Type 0) (before : ℕ → ℕ → Bool) (best : Option ℕ) (n : ℕ) → IfSome best P → P n → IfSome (sooner before best n) P
sooner-holds P before None n here there = there
sooner-holds P before (Some best) n here there = elim (before n best) as (λ b. IfSome (if b then Some n else Some best) P) [ true ↦ there | false ↦ here ]

fold-holds : (P : ℕ → Type 0) (before : ℕ → ℕ → Bool) (best : Option ℕ) (numbers : List ℕ) → IfSome best P → All P numbers → IfSome (fold (sooner before) best numbers) P
fold-holds P before best [] here there = here
fold-holds P before best (n ∷ numbers) here there =
    fold-holds P before (sooner before best n) numbers (sooner-holds P before best n here (All-head P n numbers there)) (All-tail P n numbers there)

pub least-holds : (P : ℕ → Type 0) (before : ℕ → ℕ → Bool) (numbers : List ℕ) → All P numbers → IfSome (least before numbers) P
least-holds P before numbers all = fold-holds P before None numbers tt all
