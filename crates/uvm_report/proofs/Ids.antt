-- The counts by id.
use Rattle.uvm_report.proofs.Common.{◌≡◌, ℕ, List, [], ◌∷◌, ◌++◌, Bool, true, false, ◌||◌, nat_eq, filter, map, refl, sym, ap, ◌∙◌, inl, inr, add-one, list_any, pointwise, cases_Bool, and_parts, or_parts, eqb-true, eq-eqb, false≢true, map-append, list_any-append, with_id, distinct_ids, id_counts, length}

-- whether two ids are one
abbrev same : List ℕ → List ℕ → Bool
same = pointwise nat_eq

same-refl : (id : List ℕ) → same id id ≡ true
same-refl [] = refl
same-refl (b ∷ id) = rw (eq-eqb b b refl, same-refl id)

equal_from_same : (id other : List ℕ) → same id other ≡ true → id ≡ other
equal_from_same [] [] is = refl
equal_from_same [] (c ∷ other) is = absurd (false≢true is)
equal_from_same (b ∷ id) [] is = absurd (false≢true is)
equal_from_same (b ∷ id) (c ∷ other) is =
    let both = and_parts (nat_eq b c) (same id other) is in
    let first = eqb-true b c both.0 in
    let rest = equal_from_same id other both.1 in
    cc

same-other : (id other : List ℕ) → same id other ≡ false → same other id ≡ false
same-other id other not = elim (cases_Bool (same other id)) [
  | inl is ↦ absurd (false≢true (sym not ∙ ap (λ o. same id o) (equal_from_same other id is) ∙ same-refl id))
  | inr other_way ↦ other_way
]

-- how often an id stands in a list
abbrev times : List (List ℕ) → List ℕ → ℕ
times ids id = length (filter (same id) ids)

times-none : (id : List ℕ) (ids : List (List ℕ)) → list_any (same id) ids ≡ false → times ids id ≡ 0
times-none id [] none = refl
times-none id (other ∷ ids) none = let parts = or_parts (same id other) (list_any (same id) ids) none in rw parts.0 (times-none id ids parts.1)

-- ids with how often each stands in a list
abbrev counted : List (List ℕ) → List (List ℕ) → List (List ℕ × ℕ)
counted ids asked = map (λ id. (id, times ids id)) asked

-- one more id in that list, which none of those that are asked for is
counted-other : (id : List ℕ) (ids asked : List (List ℕ)) → list_any (same id) asked ≡ false → counted (id ∷ ids) asked ≡ counted ids asked
counted-other id ids [] none = refl
counted-other id ids (other ∷ asked) none =
    let parts = or_parts (same id other) (list_any (same id) asked) none in
    rw (same-other id other parts.0, counted-other id ids asked parts.1)

-- a new id goes last
with_id-new : (id : List ℕ) (ids asked : List (List ℕ)) → list_any (same id) asked ≡ false → with_id id (counted ids asked) ≡ counted ids asked ++ (id, 1) ∷ []
with_id-new id ids [] none = refl
with_id-new id ids (other ∷ asked) none =
    let parts = or_parts (same id other) (list_any (same id) asked) none in
    rw parts.0 (ap (λ l. (other, times ids other) ∷ l) (with_id-new id ids asked parts.1))

-- each id of the list stands in it once
abbrev Distinct : List (List ℕ) → Type 0
Distinct [] = Unit {0}
Distinct (id ∷ ids) = (list_any (same id) ids ≡ false) × Distinct ids

-- a known one counts once more
with_id-known : (id : List ℕ) (ids asked : List (List ℕ)) → Distinct asked → list_any (same id) asked ≡ true → with_id id (counted ids asked) ≡ counted (id ∷ ids) asked
with_id-known id ids [] distinct known = absurd (false≢true known)
with_id-known id ids (other ∷ asked) distinct known = elim (cases_Bool (same id other)) [
  | inl is ↦
      let equal = equal_from_same id other is in
      let here : same other id ≡ true = ap (λ o. same o id) (sym equal) ∙ same-refl id in
      let rest : list_any (same id) asked ≡ false = ap (λ o. list_any (same o) asked) equal ∙ distinct.0 in
      rw (is, here, counted-other id ids asked rest, add-one) refl
  | inr not ↦
      let later : list_any (same id) asked ≡ true = rw not at known in
      rw (not, same-other id other not) (ap (λ l. (other, times ids other) ∷ l) (with_id-known id ids asked distinct.1 later))
]

-- two tests in either order
turned : (a b : Bool) → (a || (b || false)) ≡ (b || a)
turned true true = refl
turned true false = refl
turned false true = refl
turned false false = refl

-- the distinct ids of a list are those of the list
known-distinct_ids : (id : List ℕ) (ids : List (List ℕ)) → list_any (same id) (distinct_ids ids) ≡ list_any (same id) ids
known-distinct_ids id [] = refl
known-distinct_ids id (other ∷ ids) = elim (cases_Bool (list_any (same other) ids)) [
  | inl old ↦ rw old (known-distinct_ids id ids ∙ elim (cases_Bool (same id other)) [
    | inl is ↦ rw is (ap (λ o. list_any (same o) ids) (equal_from_same id other is) ∙ old)
    | inr not ↦ rw not refl
  ])
  | inr new ↦ rw (new, list_any-append (same id) (distinct_ids ids) (other ∷ []), known-distinct_ids id ids) (turned (list_any (same id) ids) (same id other))
]

-- and each stands there once
Distinct-push : (ids : List (List ℕ)) (id : List ℕ) → Distinct ids → list_any (same id) ids ≡ false → Distinct (ids ++ id ∷ [])
Distinct-push [] id distinct new = (refl, tt)
Distinct-push (other ∷ ids) id distinct new =
    let parts = or_parts (same id other) (list_any (same id) ids) new in
    (rw (list_any-append (same other) ids (id ∷ []), distinct.0, same-other id other parts.0) refl, Distinct-push ids id distinct.1 parts.1)

Distinct-distinct_ids : (ids : List (List ℕ)) → Distinct (distinct_ids ids)
Distinct-distinct_ids [] = tt
Distinct-distinct_ids (id ∷ ids) = elim (cases_Bool (list_any (same id) ids)) [
  | inl old ↦ rw old (Distinct-distinct_ids ids)
  | inr new ↦ rw new (Distinct-push (distinct_ids ids) id (Distinct-distinct_ids ids) (known-distinct_ids id ids ∙ new))
]

-- one more id
pub id_counts-cons : (id : List ℕ) (ids : List (List ℕ)) → id_counts (id ∷ ids) ≡ with_id id (id_counts ids)
id_counts-cons id ids = elim (cases_Bool (list_any (same id) ids)) [
  | inl old ↦ rw old (sym (with_id-known id ids (distinct_ids ids) (Distinct-distinct_ids ids) (known-distinct_ids id ids ∙ old)))
  | inr new ↦
      let absent : list_any (same id) (distinct_ids ids) ≡ false = known-distinct_ids id ids ∙ new in
      rw new (map-append (λ asked. (asked, times (id ∷ ids) asked)) (distinct_ids ids) (id ∷ [])
      ∙ rw (counted-other id ids (distinct_ids ids) absent, same-refl id, times-none id ids new) (sym (with_id-new id ids (distinct_ids ids) absent)))
]
