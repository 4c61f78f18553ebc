-- What two texts have where they first differ decides how their paths stand in Down and in Up.
use Rattle.uvm_glob.proofs.Common.{◌≡◌, ◌≢◌, ℕ, ◌+◌, ◌<◌, false, ◌==◌, nat_eq, List, [], ◌∷◌, length, Option, Some, refl, sym, ap, subst, ◌∙◌, inl, inr, arith, Ordering, Less, Equal, Greater, one_answer, nat_cmp, ordering_then, nat_cmp_is, nat_cmp_total, slice_cmp, pointwise, pointwise_decides, bytes_decides, cases_Bool, eqb-false, false≢true, tied_itself, ranked, first_difference, rank, down_cmp, up_cmp, between_dots, names_of, path_text, eqb-true}
use Rattle.uvm_glob.proofs.PathTexts.{path_text-names_of}

-- something stands between the dots of each text
some_part : (text : List ℕ) → (first : List ℕ) × (rest : List (List ℕ)) × (between_dots text ≡ first ∷ rest)
some_part [] = ([], [], refl)
some_part (b ∷ text) =
    let (first, rest, is) = some_part text in
    elim (cases_Bool (b == 46)) [
      | inl dot ↦ ([], between_dots text, rw dot)
      | inr other ↦ (b ∷ first, rest, rw (other, is))
    ]

-- two numbers stand as the same numbers above two others
nat_cmp-more : (x y : ℕ) → nat_cmp (x + 2) (y + 2) ≡ nat_cmp x y
nat_cmp-more x y = elim (nat_cmp x y) as (λ o. o ≡ nat_cmp x y → nat_cmp (x + 2) (y + 2) ≡ o) [
  | Less ↦ λ e. let h = ranked x y Less e in sym (nat_cmp_is (x + 2) (y + 2) Less (omega arith))
  | Equal ↦ λ e. let h = ranked x y Equal e in sym (nat_cmp_is (x + 2) (y + 2) Equal (omega arith))
  | Greater ↦ λ e. let h = ranked x y Greater e in sym (nat_cmp_is (x + 2) (y + 2) Greater (omega arith))
] refl

-- the first of three decides where it is not equal
then_then : (r o p : Ordering) → r ≢ Equal → ordering_then (ordering_then r o) p ≡ r
then_then Less o p other = refl
then_then Equal o p other = absurd (other refl)
then_then Greater o p other = refl

-- two numbers that differ are not equal
nat_cmp-differs : (x y : ℕ) → x ≢ y → nat_cmp x y ≢ Equal
nat_cmp-differs x y other e = other (ranked x y Equal (sym e))

-- the order of two ranks
abbrev by_ranks : ℕ → ℕ → Option ℕ × Option ℕ → Ordering
by_ranks end_rank dot_rank (x, y) = nat_cmp (rank end_rank dot_rank x) (rank end_rank dot_rank y)

-- An order of paths that goes name by name, in which an end and a dot have these ranks
module _ (C : List (List ℕ) → List (List ℕ) → Ordering) (end_rank dot_rank : ℕ) (end_low : end_rank < 2) (dot_low : dot_rank < 2)
    (both_end : C [] [] ≡ Equal)
    (end_dot : (y : List ℕ) (ys : List (List ℕ)) → C [] (y ∷ ys) ≡ nat_cmp end_rank dot_rank)
    (dot_end : (x : List ℕ) (xs : List (List ℕ)) → C (x ∷ xs) [] ≡ nat_cmp dot_rank end_rank)
    (by_names : (x y : List ℕ) (xs ys : List (List ℕ)) → C (x ∷ xs) (y ∷ ys) ≡ ordering_then (slice_cmp nat_cmp x y) (C xs ys)) where
  -- a byte that both texts begin with decides nothing
  past_same : (b : ℕ) (xs ys : List ℕ) → C (between_dots (b ∷ xs)) (between_dots (b ∷ ys)) ≡ C (between_dots xs) (between_dots ys)
  past_same b xs ys =
      let (x, more, mine) = some_part xs in
      let (y, others, theirs) = some_part ys in
      elim (cases_Bool (b == 46)) [
        | inl dot ↦ rw dot (by_names [] [] (between_dots xs) (between_dots ys))
        | inr other ↦ rw (other, mine, theirs) (
            by_names (b ∷ x) (b ∷ y) more others
            ∙ ap (λ o. ordering_then (ordering_then o (slice_cmp nat_cmp x y)) (C more others)) (tied_itself nat_cmp_total b)
            ∙ sym (by_names x y more others))
      ]

  -- two bytes that differ decide
  at_other : (x y : ℕ) (xs ys : List ℕ) → x ≢ y → C (between_dots (x ∷ xs)) (between_dots (y ∷ ys)) ≡ by_ranks end_rank dot_rank (Some x, Some y)
  at_other x y xs ys differ =
      let (first, more, mine) = some_part xs in
      let (next, others, theirs) = some_part ys in
      elim (cases_Bool (x == 46)) [
        | inl dot ↦ elim (cases_Bool (y == 46)) [
          | inl also ↦ absurd (differ (eqb-true x 46 dot ∙ sym (eqb-true y 46 also)))
          | inr other ↦ rw (dot, other, theirs) (by_names [] (y ∷ next) (between_dots xs) others ∙ nat_cmp_is dot_rank (y + 2) Less (omega arith))
        ]
        | inr other ↦ elim (cases_Bool (y == 46)) [
          | inl dot ↦ rw (other, dot, mine) (by_names (x ∷ first) [] more (between_dots ys) ∙ nat_cmp_is (x + 2) dot_rank Greater (omega arith))
          | inr also ↦ rw (other, also, mine, theirs) (
              by_names (x ∷ first) (y ∷ next) more others
              ∙ then_then (nat_cmp x y) (slice_cmp nat_cmp first next) (C more others) (nat_cmp-differs x y differ)
              ∙ sym (nat_cmp-more x y))
        ]
      ]

  -- what the texts have where they first differ decides
  by_difference : (a b : List ℕ) → C (between_dots a) (between_dots b) ≡ by_ranks end_rank dot_rank (first_difference a b)
  by_difference [] [] = by_names [] [] [] [] ∙ both_end ∙ sym (tied_itself nat_cmp_total end_rank)
  by_difference [] (y ∷ ys) =
      let (next, others, theirs) = some_part ys in
      elim (cases_Bool (y == 46)) [
        | inl dot ↦ rw (dot, theirs) (by_names [] [] [] (next ∷ others) ∙ end_dot next others)
        | inr other ↦ rw (other, theirs) (by_names [] (y ∷ next) [] others ∙ nat_cmp_is end_rank (y + 2) Less (omega arith))
      ]
  by_difference (x ∷ xs) [] =
      let (first, more, mine) = some_part xs in
      elim (cases_Bool (x == 46)) [
        | inl dot ↦ rw (dot, mine) (by_names [] [] (first ∷ more) [] ∙ dot_end first more)
        | inr other ↦ rw (other, mine) (by_names (x ∷ first) [] more [] ∙ nat_cmp_is (x + 2) end_rank Greater (omega arith))
      ]
  by_difference (x ∷ xs) (y ∷ ys) =
      elim (cases_Bool (x == y)) [
        | inl same ↦ rw same (
            subst (λ (b : ℕ). C (between_dots (x ∷ xs)) (between_dots (b ∷ ys)) ≡ by_ranks end_rank dot_rank (first_difference xs ys)) (eqb-true x y same)
            (past_same x xs ys ∙ by_difference xs ys))
        | inr other ↦ rw other (at_other x y xs ys (eqb-false x y other))
      ]

-- in Down an end comes first
after_end : (b : ℕ) → nat_cmp 0 (rank 0 1 (Some b)) ≡ Less
after_end b = elim (cases_Bool (b == 46)) [
  | inl dot ↦ rw dot
  | inr other ↦ rw other (sym (nat_cmp_is 0 (b + 2) Less (omega arith)))
]

-- and a byte after it
before_end : (b : ℕ) → nat_cmp (rank 0 1 (Some b)) 0 ≡ Greater
before_end b = elim (cases_Bool (b == 46)) [
  | inl dot ↦ rw dot
  | inr other ↦ rw other (sym (nat_cmp_is (b + 2) 0 Greater (omega arith)))
]

-- the difference of two texts decides how their paths stand in Down
pub down_cmp-names_of : (a b : List ℕ) (difference : Option ℕ × Option ℕ) → difference ≡ first_difference a b → down_cmp (names_of a) (names_of b) ≡ nat_cmp (rank 0 1 difference.0) (rank 0 1 difference.1)
down_cmp-names_of a b difference e = rw e (here a b)
  where
    here : (a b : List ℕ) → down_cmp (names_of a) (names_of b) ≡ by_ranks 0 1 (first_difference a b)
    here [] [] = refl
    here [] (y ∷ ys) = rw (some_part (y ∷ ys)).2 (sym (after_end y))
    here (x ∷ xs) [] = rw (some_part (x ∷ xs)).2 (sym (before_end x))
    here (x ∷ xs) (y ∷ ys) = by_difference down_cmp 0 1 (omega arith) (omega arith) refl (λ p ps. refl) (λ p ps. refl) (λ p q ps qs. refl) (x ∷ xs) (y ∷ ys)

-- and, where neither is the top, how they stand in Up
pub up_cmp-names_of : (a b : List ℕ) (difference : Option ℕ × Option ℕ) → (length a == 0) ≡ false → (length b == 0) ≡ false → difference ≡ first_difference a b → up_cmp (names_of a) (names_of b) ≡ nat_cmp (rank 1 0 difference.0) (rank 1 0 difference.1)
up_cmp-names_of [] b difference some other e = absurd (false≢true (sym some))
up_cmp-names_of (x ∷ xs) [] difference some other e = absurd (false≢true (sym other))
up_cmp-names_of (x ∷ xs) (y ∷ ys) difference some other e =
    rw e (by_difference up_cmp 1 0 (omega arith) (omega arith) refl (λ p ps. refl) (λ p ps. refl) (λ p q ps qs. refl) (x ∷ xs) (y ∷ ys))

-- the names of two texts are equal where the texts are
pub pointwise-names_of : (a b : List ℕ) → pointwise nat_eq a b ≡ pointwise (pointwise nat_eq) (names_of a) (names_of b)
pointwise-names_of a b =
    let texts = bytes_decides a b in
    let names = pointwise_decides bytes_decides (names_of a) (names_of b) in
    one_answer (pointwise nat_eq a b) (pointwise (pointwise nat_eq) (names_of a) (names_of b)) texts
    (λ e. sym (path_text-names_of a) ∙ ap path_text (names.0 e) ∙ path_text-names_of b, λ e. names.1 (ap names_of e))

pub ruleset orders = (down_cmp-names_of, up_cmp-names_of, pointwise-names_of)
