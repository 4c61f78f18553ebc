-- Tests of numbers.
use Rattle.bench_kernel.proofs.Common.{◌≡◌, ◌≢◌, ℕ, true, false, nat_eq, arith, nat_tests}

pub eq-flips : (m n : ℕ) → nat_eq m n ≡ nat_eq n m
eq-flips m n = grind (arith, nat_tests)

pub eq-self : (n : ℕ) → nat_eq n n ≡ true
eq-self n = grind (arith, nat_tests)

pub eq-apart : (m n : ℕ) → m ≢ n → nat_eq m n ≡ false
eq-apart m n apart = grind (arith, nat_tests)

pub apart-eq : (m n : ℕ) → nat_eq m n ≡ false → m ≢ n
apart-eq m n test same = grind (arith, nat_tests)
