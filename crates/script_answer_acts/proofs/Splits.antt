-- Lists of texts, with a byte between each two that stands in none of them.
use Rattle.script_answer_acts.proofs.Common.{◌≡◌, ℕ, Bool, true, false, not, ◌==◌, List, [], ◌∷◌, ◌++◌, refl, sym, ap, ◌∙◌, inl, inr, list_all, join_with_byte, slice_split, and_parts, and_from, not-true, not_from_false, eq-eqb, eqb-true, cases_Bool, false≢true, list_all-append}

-- the byte does not stand in the text
abbrev pub lacks : ℕ → List ℕ → Bool
lacks c text = list_all (λ b. not (b == c)) text

abbrev pub AllLack : ℕ → List (List ℕ) → Type 0
AllLack c [] = Unit {0}
AllLack c (text ∷ texts) = (lacks c text ≡ true) × AllLack c texts

abbrev pub parts_at : ℕ → List ℕ → List (List ℕ)
parts_at c text = slice_split (λ b. b == c) text

pub parts-one : (c : ℕ) (text : List ℕ) → lacks c text ≡ true → parts_at c text ≡ text ∷ []
parts-one c [] plain = refl
parts-one c (b ∷ text) plain =
    let both = and_parts (not (b == c)) (lacks c text) plain in
    rw (not-true (b == c) both.0, parts-one c text both.1)

pub parts-more : (c : ℕ) (text rest : List ℕ) → lacks c text ≡ true → parts_at c (text ++ c ∷ rest) ≡ text ∷ parts_at c rest
parts-more c [] rest plain = rw (eq-eqb c c refl)
parts-more c (b ∷ text) rest plain =
    let both = and_parts (not (b == c)) (lacks c text) plain in
    rw (not-true (b == c) both.0, parts-more c text rest both.1)

-- what is joined comes apart again
pub parts-join : (c : ℕ) (text : List ℕ) (texts : List (List ℕ)) → AllLack c (text ∷ texts) → parts_at c (join_with_byte c (text ∷ texts)) ≡ text ∷ texts
parts-join c text [] plain = parts-one c text plain.0
parts-join c text (next ∷ texts) plain = parts-more c text (join_with_byte c (next ∷ texts)) plain.0 ∙ ap (λ rest. text ∷ rest) (parts-join c next texts plain.1)

pub lacks-append : (c : ℕ) (front back : List ℕ) → lacks c front ≡ true → lacks c back ≡ true → lacks c (front ++ back) ≡ true
lacks-append c front back plain other = list_all-append (λ b. not (b == c)) front back ∙ and_from (lacks c front) (lacks c back) plain other

-- what is joined by a byte lacks another one, if all lack it
pub lacks-join : (c d : ℕ) → not (d == c) ≡ true → (texts : List (List ℕ)) → AllLack c texts → lacks c (join_with_byte d texts) ≡ true
lacks-join c d other [] plain = refl
lacks-join c d other (text ∷ []) plain = plain.0
lacks-join c d other (text ∷ next ∷ texts) plain =
    lacks-append c text (d ∷ join_with_byte d (next ∷ texts)) plain.0
    (and_from (not (d == c)) (lacks c (join_with_byte d (next ∷ texts))) other (lacks-join c d other (next ∷ texts) plain.1))

-- a byte that does not pass stands in no text of bytes that do
pub lacks-of : (passes : ℕ → Bool) (c : ℕ) → passes c ≡ false → (text : List ℕ) → list_all passes text ≡ true → lacks c text ≡ true
lacks-of passes c none [] good = refl
lacks-of passes c none (b ∷ text) good =
    let both = and_parts (passes b) (list_all passes text) good in
    and_from (not (b == c)) (lacks c text) (here b both.0) (lacks-of passes c none text both.1)
  where
    here : (b : ℕ) → passes b ≡ true → not (b == c) ≡ true
    here b good = elim (cases_Bool (b == c)) [
      | inl same ↦ absurd (false≢true (sym none ∙ (ap passes (sym (eqb-true b c same)) ∙ good)))
      | inr other ↦ not_from_false (b == c) other
    ]
