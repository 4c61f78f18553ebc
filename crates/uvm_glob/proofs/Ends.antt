-- A text that a glob matches ends with the glob's last part.
use Rattle.uvm_glob.proofs.Common.{◌≡◌, ℕ, Bool, true, false, ◌==◌, MatchBool, List, [], ◌∷◌, ◌++◌, length, take, drop, inl, inr, refl, sym, ◌∙◌, arith, cases_order, false≢true, take-append-drop, list_any, SomeSplit, Matches, matches, is_star, fits_at_end}
use Rattle.uvm_glob.proofs.Parts.{fits_at_end_whole, fits_at_end_longer, fits_at_end_short}
use Rattle.uvm_glob.proofs.Splits.{last_part_longer, last_part_short, last_part_whole}
use Rattle.uvm_glob.proofs.Meaning.{matches_means}

-- what holds in both cases of a choice
either : (q : Bool) {A B C : Type 0} → (A → C) → (B → C) → MatchBool q A B → C
either true one other h = one h
either false one other h = other h

-- behind its first character the glob matches what some characters leave
left_of : (c : ℕ) (rest text : List ℕ) → Matches (c ∷ rest) text → SomeSplit text (λ u v. Matches rest v)
left_of c rest text h =
    either (c == 42) (λ k. k)
    (either (c == 43) (λ (u, v, e, (_, q)). (u, v, e, q))
    (either (c == 63) (λ (u, v, e, (_, q)). (u, v, e, q)) (λ (u, v, e, (_, q)). (u, v, e, q)))) h

-- a text that ends with the part does so behind more characters
end_of_longer : (part u v : List ℕ) → fits_at_end part v ≡ true → fits_at_end part (u ++ v) ≡ true
end_of_longer part [] v h = h
end_of_longer part (b ∷ u) v h =
    let shorter = end_of_longer part u v h in
    elim (cases_order (length part) (length (u ++ v))) [
      | inl e ↦ fits_at_end_longer part (u ++ v) b (omega arith) ∙ shorter
      | inr (inl less) ↦ fits_at_end_longer part (u ++ v) b (omega arith) ∙ shorter
      | inr (inr more) ↦ absurd (false≢true (sym (fits_at_end_short part (u ++ v) more) ∙ shorter))
    ]

-- a part with no stars that matches the text stands at its end
whole_end : (part text : List ℕ) → list_any is_star part ≡ false → matches part text ≡ true → fits_at_end part text ≡ true
whole_end part text none h =
    elim (cases_order (length part) (length text)) [
      | inl e ↦ fits_at_end_whole part text e ∙ (sym (last_part_whole part text none e) ∙ h)
      | inr (inl less) ↦ absurd (false≢true (sym (last_part_longer part text none less) ∙ h))
      | inr (inr more) ↦ absurd (false≢true (sym (last_part_short part text none more) ∙ h))
    ]

-- so does the last part of a glob
ends : (front part text : List ℕ) → list_any is_star part ≡ false → Matches (front ++ part) text → fits_at_end part text ≡ true
ends [] part text none h = whole_end part text none ((matches_means part text).1 h)
ends (c ∷ front) part text none h =
    let (u, v, e, q) = left_of c (front ++ part) text h in
    rw e (end_of_longer part u v (ends front part v none q))

-- a text that does not end with the last part of the glob does not match
pub ends_otherwise : (glob part text : List ℕ) (n : ℕ) → drop n glob ≡ part → list_any is_star part ≡ false → fits_at_end part text ≡ false → matches glob text ≡ false
ends_otherwise glob part text n end none other = by-case (matches glob text) refl
  where
    by-case : (m : Bool) → matches glob text ≡ m → m ≡ false
    by-case false e = refl
    by-case true e =
        let whole : take n glob ++ part ≡ glob = rw (← end) (take-append-drop n glob) in
        absurd (false≢true (sym other ∙ ends (take n glob) part text none (rw whole ((matches_means glob text).0 e))))
