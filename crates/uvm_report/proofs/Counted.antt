-- One more report in the counts.
use Rattle.uvm_report.proofs.Common.{◌≡◌, ℕ, ◌+◌, ◌≤◌, List, [], ◌∷◌, nat_eq, sum_by, unwrap_or, refl, ap, inl, inr, arith, lookup, pointwise, cases_Bool, sum_by-cons, insert_entry, with_id}

-- the number of a counted id
abbrev pub number : List ℕ × ℕ → ℕ
number counted = counted.1

-- an id has at most as many as all have
pub number-le-all : (id : List ℕ) (ids : List (List ℕ × ℕ)) → unwrap_or (lookup (pointwise nat_eq id) ids) 0 ≤ sum_by (λ counted. counted.1) ids
number-le-all id [] = omega arith
number-le-all id (e ∷ ids) = elim (cases_Bool (pointwise nat_eq id e.0)) [
  | inl here ↦ rw here (omega (arith, sum_by-cons number e ids))
  | inr other ↦ rw other (let rest = number-le-all id ids in omega (arith, sum_by-cons number e ids, rest))
]

-- to put in one more than there is counts once more
pub with_id-insert : (id : List ℕ) (ids : List (List ℕ × ℕ)) → insert_entry (pointwise nat_eq) ids id (unwrap_or (lookup (pointwise nat_eq id) ids) 0 + 1) ≡ with_id id ids
with_id-insert id [] = refl
with_id-insert id (e ∷ ids) = elim (cases_Bool (pointwise nat_eq id e.0)) [
  | inl here ↦ rw here refl
  | inr other ↦ rw other (ap (λ l. e ∷ l) (with_id-insert id ids))
]

-- and the sum of all is one more
pub all-with_id : (id : List ℕ) (ids : List (List ℕ × ℕ)) → sum_by (λ counted. counted.1) (with_id id ids) ≡ sum_by (λ counted. counted.1) ids + 1
all-with_id id [] = refl
all-with_id id (e ∷ ids) = elim (cases_Bool (pointwise nat_eq id e.0)) [
  | inl here ↦ rw here (omega (arith, sum_by-cons number e ids, sum_by-cons number (e.0, e.1 + 1) ids))
  | inr other ↦ rw other (omega (arith, sum_by-cons number e ids, sum_by-cons number e (with_id id ids), all-with_id id ids))
]
