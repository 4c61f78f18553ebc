-- How a match goes over the parts of a glob.
use Rattle.uvm_glob.proofs.Common.{◌≡◌, ℕ, zero, suc, ◌<◌, Bool, true, false, cond, ◌&&◌, ◌||◌, ◌==◌, List, [], ◌∷◌, ◌++◌, length, drop, Option, Some, None, inl, inr, refl, sym, ap, subst, ◌∙◌, arith, length-drop, eq-eqb, ne_eqb, and_assoc, drop-nil, and_left, and_right, or_right, or_parts, or_cases, cases_order, false≢true, list_any, rests_of, matches, is_star, begins_with_star, fits, fits_at_end, after_first_fit, after_least, append-nil, eqb-true}
use Rattle.uvm_glob.proofs.Parts.{fits_short, fits_at_end_short, fits_at_end_whole, fits_at_end_longer}

-- a character that is `?` or stands for itself
one_of : (q p m : Bool) → cond q (true && m) (p && m) ≡ ((q || p) && m)
one_of true p m = refl
one_of false p m = refl

-- a first character that is no star takes one character
past_character : (c : ℕ) (rest : List ℕ) (b : ℕ) (text : List ℕ) → is_star c ≡ false → matches (c ∷ rest) (b ∷ text) ≡ ((c == 63 || c == b) && matches rest text)
unfolding matches
past_character c rest b text none =
    let plain = or_parts (c == 42) (c == 43) none in
    rw (plain.0, plain.1) (one_of (c == 63) (c == b) (matches rest text))

-- and there is none in the empty text
no_character : (c : ℕ) (rest : List ℕ) → is_star c ≡ false → matches (c ∷ rest) [] ≡ false
unfolding matches
no_character c rest none =
    let plain = or_parts (c == 42) (c == 43) none in
    rw (plain.0, plain.1) (elim (c == 63) as (λ q. cond q false false ≡ false) [ true ↦ refl | false ↦ refl ])

-- a part with no stars stands at the front, and the rest of the glob after it
pub matches_part : (part rest text : List ℕ) → list_any is_star part ≡ false → matches (part ++ rest) text ≡ (fits part text && matches rest (drop (length part) text))
matches_part [] rest text none = refl
matches_part (c ∷ part) rest [] none = no_character c (part ++ rest) (or_parts (is_star c) (list_any is_star part) none).0
matches_part (c ∷ part) rest (b ∷ text) none =
    let plain = or_parts (is_star c) (list_any is_star part) none in
    past_character c (part ++ rest) b text plain.0
    ∙ (ap (λ m. (c == 63 || c == b) && m) (matches_part part rest text plain.1)
    ∙ sym (and_assoc (c == 63 || c == b) (fits part text) (matches rest (drop (length part) text))))

-- nothing more to test
or_false : (x : Bool) → (x || false) ≡ x
or_false true = refl
or_false false = refl

-- the second test passes only where the first does
or_covered : (x y : Bool) → (y ≡ true → x ≡ true) → (x || y) ≡ x
or_covered true y covers = refl
or_covered false true covers = sym (covers refl)
or_covered false false covers = refl

-- a part with no stars that ends the glob takes the whole text
last_part : (part text : List ℕ) → list_any is_star part ≡ false → matches part text ≡ (fits part text && (length (drop (length part) text) == 0))
unfolding matches
last_part part text none = rw append-nil at (matches_part part [] text none)

-- so it does not match a longer text
pub last_part_longer : (part text : List ℕ) → list_any is_star part ≡ false → length part < length text → matches part text ≡ false
last_part_longer part text none h =
    last_part part text none
    ∙ and_right (fits part text) _ (ne_eqb (length (drop (length part) text)) 0 (λ e. omega (arith, length-drop {A = ℕ})))

-- nor a shorter one
pub last_part_short : (part text : List ℕ) → list_any is_star part ≡ false → length text < length part → matches part text ≡ false
last_part_short part text none h = last_part part text none ∙ and_left (fits part text) _ (fits_short part text h)

-- and one of its length where it fits
pub last_part_whole : (part text : List ℕ) → list_any is_star part ≡ false → length part ≡ length text → matches part text ≡ fits part text
last_part_whole part text none h =
    last_part part text none
    ∙ and_right_true (fits part text) _ (eq-eqb (length (drop (length part) text)) 0 (omega (arith, length-drop {A = ℕ})))
  where
    and_right_true : (x y : Bool) → y ≡ true → (x && y) ≡ x
    and_right_true true y h = h
    and_right_true false y h = refl

-- behind a star, a part with no stars that ends the glob stands at the end of the text
pub star_last_part : (part text : List ℕ) → list_any is_star part ≡ false → list_any (matches part) (rests_of text) ≡ fits_at_end part text
star_last_part [] [] none = rw (last_part_whole [] [] none refl)
star_last_part (c ∷ part) [] none =
    let nowhere : matches (c ∷ part) [] ≡ false = last_part_short (c ∷ part) [] none (omega arith) in
    let short : fits_at_end (c ∷ part) [] ≡ false = fits_at_end_short (c ∷ part) [] (omega arith) in
    rw (nowhere, short)
star_last_part part (b ∷ text) none =
    elim (cases_order (length part) (suc (length text))) [
      | inl e ↦
          let whole : matches part (b ∷ text) ≡ fits part (b ∷ text) = last_part_whole part (b ∷ text) none e in
          let short : fits_at_end part text ≡ false = fits_at_end_short part text (omega arith) in
          rw (whole, star_last_part part text none, short) (or_false (fits part (b ∷ text)) ∙ sym (fits_at_end_whole part (b ∷ text) e))
      | inr (inl h) ↦
          let nowhere : matches part (b ∷ text) ≡ false = last_part_longer part (b ∷ text) none h in
          rw nowhere (star_last_part part text none ∙ sym (fits_at_end_longer part text b (omega arith)))
      | inr (inr h) ↦
          let nowhere : matches part (b ∷ text) ≡ false = last_part_short part (b ∷ text) none h in
          let short : fits_at_end part text ≡ false = fits_at_end_short part text (omega arith) in
          rw nowhere (star_last_part part text none ∙ (short ∙ sym (fits_at_end_short part (b ∷ text) h)))
    ]

-- what `*` and the rest of the glob match, they match after one more character
any_absorbs : (rest : List ℕ) (b : ℕ) (text : List ℕ) → matches (42 ∷ rest) text ≡ true → matches (42 ∷ rest) (b ∷ text) ≡ true
unfolding matches
any_absorbs rest b text h = or_right (matches rest (b ∷ text)) (list_any (matches rest) (rests_of text)) h

-- and so do `+` and the rest
some_absorbs : (rest : List ℕ) (b : ℕ) (text : List ℕ) → matches (43 ∷ rest) text ≡ true → matches (43 ∷ rest) (b ∷ text) ≡ true
unfolding matches
some_absorbs rest b [] h = absurd (false≢true h)
some_absorbs rest b (d ∷ text) h = or_right (matches rest (d ∷ text)) (list_any (matches rest) (rests_of text)) h

-- so each star does
star_absorbs : (star : ℕ) (rest : List ℕ) (b : ℕ) (text : List ℕ) → is_star star ≡ true → matches (star ∷ rest) text ≡ true → matches (star ∷ rest) (b ∷ text) ≡ true
star_absorbs star rest b text starry h =
    let P = λ (c : ℕ). matches (c ∷ rest) text ≡ true → matches (c ∷ rest) (b ∷ text) ≡ true in
    elim (or_cases (star == 42) (star == 43) starry) [
      | inl e ↦ subst P (sym (eqb-true star 42 e)) (any_absorbs rest b text) h
      | inr e ↦ subst P (sym (eqb-true star 43 e)) (some_absorbs rest b text) h
    ]

-- a part leaves less of a shorter text
star_absorbs_drop : (star : ℕ) (rest : List ℕ) (n b : ℕ) (text : List ℕ) → is_star star ≡ true → matches (star ∷ rest) (drop n text) ≡ true → matches (star ∷ rest) (drop n (b ∷ text)) ≡ true
star_absorbs_drop star rest zero b text starry h = star_absorbs star rest b text starry h
star_absorbs_drop star rest (suc n) b [] starry h = rw (drop-nil {A = ℕ} n) h
star_absorbs_drop star rest (suc n) b (d ∷ text) starry h = star_absorbs_drop star rest n d text starry h

-- the test of what may be left
abbrev pub passes : (List ℕ → Bool) → Option (List ℕ) → Bool
passes test None = false
passes test (Some text) = test text

-- what a star and the rest of the glob match after a later place, they match after an earlier one
absorbs_place : (star : ℕ) (rest part text : List ℕ) → is_star star ≡ true → passes (matches (star ∷ rest)) (after_first_fit part text) ≡ true → matches (star ∷ rest) (drop (length part) text) ≡ true
absorbs_place star rest [] [] starry h = h
absorbs_place star rest (c ∷ part) [] starry h = absurd (false≢true h)
absorbs_place star rest part (b ∷ text) starry h =
    choice (fits part (b ∷ text)) (λ k. star_absorbs_drop star rest (length part) b text starry (absorbs_place star rest part text starry k)) h
  where
    choice : (f : Bool) → (passes (matches (star ∷ rest)) (after_first_fit part text) ≡ true → matches (star ∷ rest) (drop (length part) (b ∷ text)) ≡ true) → passes (matches (star ∷ rest)) (cond f (Some (drop (length part) (b ∷ text))) (after_first_fit part text)) ≡ true → matches (star ∷ rest) (drop (length part) (b ∷ text)) ≡ true
    choice true later h = h
    choice false later h = later h

-- behind a star, a part with no stars before the next star stands where it fits first
star_part : (part : List ℕ) (star : ℕ) (rest text : List ℕ) → list_any is_star part ≡ false → is_star star ≡ true → list_any (matches (part ++ star ∷ rest)) (rests_of text) ≡ passes (matches (star ∷ rest)) (after_first_fit part text)
star_part [] star rest [] none starry = or_false (matches (star ∷ rest) [])
star_part (c ∷ part) star rest [] none starry = rw (matches_part (c ∷ part) (star ∷ rest) [] none)
star_part part star rest (b ∷ text) none starry =
    rw (matches_part part (star ∷ rest) (b ∷ text) none, star_part part star rest text none starry)
    (choice (fits part (b ∷ text)))
  where
    choice : (f : Bool) → ((f && matches (star ∷ rest) (drop (length part) (b ∷ text))) || passes (matches (star ∷ rest)) (after_first_fit part text)) ≡ passes (matches (star ∷ rest)) (cond f (Some (drop (length part) (b ∷ text))) (after_first_fit part text))
    choice true =
        or_covered (matches (star ∷ rest) (drop (length part) (b ∷ text))) _
        (λ h. star_absorbs_drop star rest (length part) b text starry (absorbs_place star rest part text starry h))
    choice false = refl

-- `*` leaves any rest of the text
any_leaves : (rest text : List ℕ) → matches (42 ∷ rest) text ≡ passes (λ left. list_any (matches rest) (rests_of left)) (after_least 42 text)
unfolding matches
any_leaves rest [] = refl
any_leaves rest (b ∷ text) = refl

-- `+` leaves any rest of the text after its first character
some_leaves : (rest text : List ℕ) → matches (43 ∷ rest) text ≡ passes (λ left. list_any (matches rest) (rests_of left)) (after_least 43 text)
unfolding matches
some_leaves rest [] = refl
some_leaves rest (b ∷ text) = refl

-- a glob with nothing in it matches the empty text
pub nothing_left : (glob text : List ℕ) → length glob ≡ 0 → matches glob text ≡ (length text == 0)
unfolding matches
nothing_left [] text e = refl
nothing_left (c ∷ glob) text e = absurd (omega arith)

-- a star leaves any rest of the text after the fewest characters that it takes
pub star_leaves : (glob text : List ℕ) (star : ℕ) (after_star : List ℕ) (left : Option (List ℕ)) → glob ≡ star ∷ after_star → begins_with_star glob ≡ true → left ≡ after_least star text → matches glob text ≡ passes (λ v. list_any (matches after_star) (rests_of v)) left
star_leaves glob text star after_star left e starry least =
    let P = λ (c : ℕ). matches (c ∷ after_star) text ≡ passes (λ v. list_any (matches after_star) (rests_of v)) (after_least c text) in
    rw (e, least) (elim (or_cases (star == 42) (star == 43) (rw e at starry)) [
      | inl is ↦ subst P (sym (eqb-true star 42 is)) (any_leaves after_star text)
      | inr is ↦ subst P (sym (eqb-true star 43 is)) (some_leaves after_star text)
    ])

-- the part before the first star stands at the front, and the rest of the glob after it
pub front_part : (glob part rest text : List ℕ) → part ++ rest ≡ glob → list_any is_star part ≡ false → matches glob text ≡ (fits part text && matches rest (drop (length part) text))
front_part glob part rest text whole none = rw (← whole) (matches_part part rest text none)

-- the last part behind a star stands at the end
pub last_behind_star : (after_star part rest text : List ℕ) → part ++ rest ≡ after_star → list_any is_star part ≡ false → true ≡ (length rest == 0) → list_any (matches after_star) (rests_of text) ≡ fits_at_end part text
last_behind_star after_star part [] text whole none last = rw (← whole, append-nil) (star_last_part part text none)
last_behind_star after_star part (c ∷ rest) text whole none last =
    let nothing : suc (length rest) ≡ 0 = eqb-true (suc (length rest)) 0 (sym last) in
    absurd (omega arith)

-- another part behind a star stands where it fits first
pub part_behind_star : (after_star part rest text : List ℕ) (left : Option (List ℕ)) → part ++ rest ≡ after_star → list_any is_star part ≡ false → begins_with_star rest ≡ true → false ≡ (length rest == 0) → left ≡ after_first_fit part text → list_any (matches after_star) (rests_of text) ≡ passes (matches rest) left
part_behind_star after_star part [] text left whole none starry more first = cc
part_behind_star after_star part (star ∷ rest) text left whole none starry more first = rw (← whole, first) (star_part part star rest text none starry)
