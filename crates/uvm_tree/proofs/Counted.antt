-- Two lists in one order that have the same numbers are one.
use Rattle.uvm_tree.proofs.Common.{◌≡◌, ◌<◌, ◌+◌, ℕ, Bool, true, false, List, [], ◌∷◌, length, sum_by, if◌then◌else◌, refl, sym, ap, ◌∙◌, subst, arith, nat_tests, All-cons, All-head, All-tail, sum_by-cons, sum_by-IsPermutation, Ordering, is_lt, Node, OrdersNodes, All, IsPermutation, ◌==◌}
use Rattle.uvm_tree.proofs.Ordered.{neither}
use Rattle.uvm_tree.proofs.Sorted.{Behind, NotAfter, first-of-two}

-- how often a number stands in a list
count : ℕ → List ℕ → ℕ
count n numbers = sum_by (λ k. if k == n then 1 else 0) numbers

count-none : (n : ℕ) → count n [] ≡ 0
unfolding count
count-none n = refl

count-cons : (n k : ℕ) (numbers : List ℕ) → count n (k ∷ numbers) ≡ (if k == n then 1 else 0) + count n numbers
unfolding count
count-cons n k numbers = sum_by-cons (λ k. if k == n then 1 else 0) k numbers

count-moved : (n : ℕ) (xs ys : List ℕ) → IsPermutation xs ys → count n ys ≡ count n xs
unfolding count
count-moved n xs ys moved = sum_by-IsPermutation (λ k. if k == n then 1 else 0) xs ys moved

counts-itself : (n : ℕ) (numbers : List ℕ) → 0 < count n (n ∷ numbers)
counts-itself n numbers =
    let own : (n == n) ≡ true = grind (arith, nat_tests) in
    let one : count n (n ∷ numbers) ≡ 1 + count n numbers = rw own at (count-cons n n numbers) in
    omega arith

-- what holds of each number of a list holds of one that stands there
at-counted_by : (P : ℕ → Type 0) (n k : ℕ) (numbers : List ℕ) (b : Bool) → (k == n) ≡ b → All P (k ∷ numbers) → (0 < count n numbers → P n) → 0 < count n (k ∷ numbers) → P n
at-counted_by P n k numbers true own each rest there = let same : k ≡ n = grind (arith, nat_tests) in subst P same (All-head P k numbers each)
at-counted_by P n k numbers false other each rest there =
    let less : count n (k ∷ numbers) ≡ 0 + count n numbers = rw other at (count-cons n k numbers) in
    rest (omega arith)

at-counted : (P : ℕ → Type 0) (n : ℕ) (numbers : List ℕ) → All P numbers → 0 < count n numbers → P n
at-counted P n [] each there = absurd (omega (arith, count-none n))
at-counted P n (k ∷ numbers) each there = at-counted_by P n k numbers (k == n) refl each (at-counted P n numbers (All-tail P k numbers each)) there

module _ (nodes : List Node) (cmp : ℕ → ℕ → Ordering) (orders : OrdersNodes nodes cmp) where
  not-before-itself : (n : ℕ) (b : Bool) → is_lt (cmp n n) ≡ b → b ≡ false
  not-before-itself n true e = let f = first-of-two (cmp n n) (cmp n n) (orders.total.antisymm n n) e in cc
  not-before-itself n false e = refl

  least-of-all : (n : ℕ) (numbers : List ℕ) → All (NotAfter cmp n) numbers → All (NotAfter cmp n) (n ∷ numbers)
  least-of-all n numbers each = All-cons (NotAfter cmp n) n numbers (not-before-itself n (is_lt (cmp n n)) refl) each

  -- what is left of equal lists
  left : (x y n : ℕ) (xs ys : List ℕ) → x ≡ y → count n (x ∷ xs) ≡ count n (y ∷ ys) → count n xs ≡ count n ys
  left x y n xs ys one same =
      let first : count n (x ∷ ys) ≡ count n (y ∷ ys) = ap (λ k. count n (k ∷ ys)) one in
      omega (arith, count-cons n x xs, count-cons n x ys, first, same)

  by-counts : (xs ys : List ℕ) → ((n : ℕ) → count n xs ≡ count n ys) → All (λ n. n < length nodes) xs → All (λ n. n < length nodes) ys → Behind (NotAfter cmp) xs → Behind (NotAfter cmp) ys → xs ≡ ys
  unfolding Behind
  by-counts [] [] same small few first second = refl
  by-counts [] (y ∷ ys) same small few first second = absurd (omega (arith, counts-itself y ys, same y, count-none y))
  by-counts (x ∷ xs) [] same small few first second = absurd (omega (arith, counts-itself x xs, same x, count-none x))
  by-counts (x ∷ xs) (y ∷ ys) same small few first second =
      let low : is_lt (cmp y x) ≡ false = at-counted (NotAfter cmp x) y (x ∷ xs) (least-of-all x xs first.0) (omega (arith, counts-itself y ys, same y)) in
      let high : is_lt (cmp x y) ≡ false = at-counted (NotAfter cmp y) x (y ∷ ys) (least-of-all y ys second.0) (omega (arith, counts-itself x xs, same x)) in
      let here = All-head (λ n. n < length nodes) x xs small in
      let there = All-head (λ n. n < length nodes) y ys few in
      let one : x ≡ y = orders.apart x y here there (neither (cmp x y) (cmp y x) (orders.total.antisymm x y) high low) in
      let rest = by-counts xs ys (λ n. left x y n xs ys one (same n)) (All-tail (λ n. n < length nodes) x xs small) (All-tail (λ n. n < length nodes) y ys few) first.1 second.1 in
      λ i. one i ∷ rest i

  pub one-order : (numbers xs ys : List ℕ) → All (λ n. n < length nodes) xs → All (λ n. n < length nodes) ys → IsPermutation numbers xs → IsPermutation numbers ys → Behind (NotAfter cmp) xs → Behind (NotAfter cmp) ys → xs ≡ ys
  one-order numbers xs ys small few first_has second_has first second =
      by-counts xs ys (λ n. count-moved n numbers xs first_has ∙ sym (count-moved n numbers ys second_has)) small few first second
