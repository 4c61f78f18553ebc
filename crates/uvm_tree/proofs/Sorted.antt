-- Numbers in an order.
use Rattle.uvm_tree.proofs.Common.{◌≡◌, ℕ, suc, ◌+◌, Bool, true, false, List, [], ◌∷◌, ◌++◌, refl, arith, if◌then◌else◌, All-nil, All-cons, All-weaker, AllPairs-cons, IsPermutation-refl, IsPermutation-trans, IsPermutation-middle, IsPermutation-insert, IsPermutation-append_left, All-permutation, Ordering, Less, Equal, Greater, IsTotalOrder, is_lt, ordering_reverse, position_or_len, on_total, Direction, Down, order_of, down_cmp, Node, path_at, is_before, node_cmp, numbers_of, inserted, path_order, PathOrderIsInOrder, IsPermutation, AllPairs, All, append-nil}
use Rattle.std.proofs.Common.{fold}

-- an insertion moves numbers, and so does an order
pub moved : (before : ℕ → ℕ → Bool) (order numbers : List ℕ) → IsPermutation (order ++ numbers) (fold (λ order n. inserted before n order) order numbers)
moved before order [] = rw append-nil (IsPermutation-refl order)
moved before order (n ∷ numbers) =
    IsPermutation-trans (order ++ n ∷ numbers) (n ∷ (order ++ numbers)) _ (IsPermutation-middle order n numbers)
    (IsPermutation-trans (n ∷ (order ++ numbers)) (inserted before n order ++ numbers) _
    (IsPermutation-append_left numbers (n ∷ order) (inserted before n order) (IsPermutation-insert order (position_or_len (before n) order) n))
    (moved before (inserted before n order) numbers))

-- in front of the first of a list, or behind it
inserted-tested : (before : ℕ → ℕ → Bool) (n m : ℕ) (others : List ℕ) (b : Bool) → before n m ≡ b → inserted before n (m ∷ others) ≡ (if b then n ∷ m ∷ others else m ∷ inserted before n others)
inserted-tested before n m others true e = rw e refl
inserted-tested before n m others false e =
    let k = position_or_len (before n) others in
    let s : 1 + k ≡ suc k = omega arith in
    rw (e, s) refl

-- a relation of each to those behind it, by recursion
unfoldable pub Behind : (ℕ → ℕ → Type 0) → List ℕ → Type 0
Behind R [] = Unit {0}
Behind R (n ∷ numbers) = All (R n) numbers × Behind R numbers

AllPairs-from_behind : (R : ℕ → ℕ → Type 0) (numbers : List ℕ) → Behind R numbers → AllPairs R numbers
unfolding Behind
AllPairs-from_behind R [] each = λ i j d before within. absurd (omega arith)
AllPairs-from_behind R (n ∷ numbers) each = AllPairs-cons R n numbers each.0 (AllPairs-from_behind R numbers each.1)

-- one does not stand before another
abbrev pub NotAfter : (ℕ → ℕ → Ordering) → ℕ → ℕ → Type 0
NotAfter cmp m n = is_lt (cmp n m) ≡ false

-- what stands before a number does not stand after those that do not stand before it
pub first-of-two : (a b : Ordering) → a ≡ ordering_reverse b → is_lt b ≡ true → is_lt a ≡ false
first-of-two Less Less e h = cc
first-of-two Less Equal e h = cc
first-of-two Less Greater e h = cc
first-of-two Equal b e h = refl
first-of-two Greater b e h = refl

less : (a : Ordering) → is_lt a ≡ true → a ≡ Less
less Less h = refl
less Equal h = cc
less Greater h = cc

not-later : (cmp : ℕ → ℕ → Ordering) → IsTotalOrder cmp → (n m k : ℕ) → is_lt (cmp n m) ≡ true → is_lt (cmp k m) ≡ false → (b : Bool) → is_lt (cmp k n) ≡ b → b ≡ false
not-later cmp total n m k first second false e = refl
not-later cmp total n m k first second true e = let low = total.trans k n m (less (cmp k n) e) (less (cmp n m) first) in let f : is_lt (cmp k m) ≡ true = rw low refl in cc

insert-ordered : (cmp : ℕ → ℕ → Ordering) → IsTotalOrder cmp → (n m : ℕ) (others : List ℕ) (b : Bool) → is_lt (cmp n m) ≡ b → Behind (NotAfter cmp) (m ∷ others) → Behind (NotAfter cmp) (inserted (λ i j. is_lt (cmp i j)) n others)
    → Behind (NotAfter cmp) (if b then n ∷ m ∷ others else m ∷ inserted (λ i j. is_lt (cmp i j)) n others)
unfolding Behind
insert-ordered cmp total n m others true first ordered rest = (
  All-cons (NotAfter cmp n) m others (first-of-two (cmp m n) (cmp n m) (total.antisymm m n) first)
      (All-weaker (NotAfter cmp m) (NotAfter cmp n) (λ k h. not-later cmp total n m k first h (is_lt (cmp k n)) refl) others ordered.0),
  ordered,
)
insert-ordered cmp total n m others false first ordered rest =
    (All-permutation (NotAfter cmp m) (n ∷ others) (inserted (λ i j. is_lt (cmp i j)) n others) (IsPermutation-insert others (position_or_len (λ j. is_lt (cmp n j)) others) n) (All-cons (NotAfter cmp m) n others first ordered.0), rest)

ordered-insert : (cmp : ℕ → ℕ → Ordering) → IsTotalOrder cmp → (n : ℕ) (numbers : List ℕ) → Behind (NotAfter cmp) numbers → Behind (NotAfter cmp) (inserted (λ i j. is_lt (cmp i j)) n numbers)
unfolding Behind
ordered-insert cmp total n [] ordered = (All-nil (NotAfter cmp n), tt)
ordered-insert cmp total n (m ∷ others) ordered =
    rw (inserted-tested (λ i j. is_lt (cmp i j)) n m others (is_lt (cmp n m)) refl)
    (insert-ordered cmp total n m others (is_lt (cmp n m)) refl ordered (ordered-insert cmp total n others ordered.1))

ordered-fold : (cmp : ℕ → ℕ → Ordering) → IsTotalOrder cmp → (order numbers : List ℕ) → Behind (NotAfter cmp) order → Behind (NotAfter cmp) (fold (λ order n. inserted (λ i j. is_lt (cmp i j)) n order) order numbers)
ordered-fold cmp total order [] ordered = ordered
ordered-fold cmp total order (n ∷ numbers) ordered = ordered-fold cmp total (inserted (λ i j. is_lt (cmp i j)) n order) numbers (ordered-insert cmp total n order ordered)

pub path-order-behind : (nodes : List Node) → IsTotalOrder (node_cmp down_cmp nodes) → Behind (NotAfter (node_cmp down_cmp nodes)) (path_order nodes)
unfolding path_order Behind
path-order-behind nodes total = ordered-fold (node_cmp down_cmp nodes) total [] (numbers_of nodes) tt

pub path_order_is_in_order : ((direction : Direction) → IsTotalOrder (order_of direction)) → PathOrderIsInOrder
unfolding path_order
path_order_is_in_order total nodes =
    record {
      whole = moved (is_before down_cmp nodes) [] (numbers_of nodes);
      ordered = AllPairs-from_behind (NotAfter (node_cmp down_cmp nodes)) _ (path-order-behind nodes (on_total (path_at nodes) (total Down)));
    }
