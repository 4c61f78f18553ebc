-- Where a part fits in a text.
use Rattle.uvm_glob.proofs.Common.{◌≡◌, ℕ, zero, suc, ◌+◌, ◌-◌, ◌<◌, ◌≤◌, true, false, ◌&&◌, ◌||◌, ◌==◌, List, [], ◌∷◌, length, drop, get_or, leb, Some, None, refl, sym, arith, add-one, le-leb, and_right, and_left, lt-leb, cond-true, cond-false, false≢true, common_steps, drop_more, is_star, begins_with_star, fits, fits_at_end, after_first_fit}

-- a glob from a star on begins with it
pub star_here : (glob : List ℕ) (i : ℕ) → i < length glob → begins_with_star (drop i glob) ≡ is_star (get_or glob i 0)
star_here glob i h = rw (drop_more glob i 0 h)

-- no part fits in a shorter text
pub fits_short : (part text : List ℕ) → length text < length part → fits part text ≡ false
fits_short [] text h = absurd (omega arith)
fits_short (c ∷ part) [] h = refl
fits_short (c ∷ part) (b ∷ text) h = and_right (c == 63 || c == b) (fits part text) (fits_short part text (omega arith))

-- nor at its end
pub fits_at_end_short : (part text : List ℕ) → length text < length part → fits_at_end part text ≡ false
fits_at_end_short part text h = and_left (leb (length part) (length text)) _ (lt-leb (length part) (length text) h)

-- the end of a text as long as the part is the text
pub fits_at_end_whole : (part text : List ℕ) → length part ≡ length text → fits_at_end part text ≡ fits part text
fits_at_end_whole part text h =
    let fitting : leb (length part) (length text) ≡ true = le-leb (length part) (length text) (omega arith) in
    let none : length text - length part ≡ 0 = omega arith in
    rw (fitting, none)

-- a character in front of a text that is long enough does not change its end
pub fits_at_end_longer : (part text : List ℕ) (b : ℕ) → length part ≤ length text → fits_at_end part (b ∷ text) ≡ fits_at_end part text
fits_at_end_longer part text b h =
    let fitting : leb (length part) (length text) ≡ true = le-leb (length part) (length text) h in
    let fitting_more : leb (length part) (suc (length text)) ≡ true = le-leb (length part) (suc (length text)) (omega arith) in
    let more : suc (length text) - length part ≡ suc (length text - length part) = omega arith in
    rw (fitting, fitting_more, more)

-- the first characters, and then the others
pub fits_from : (part text : List ℕ) (i : ℕ) → i < length part → i < length text → fits (drop i part) (drop i text) ≡ ((get_or part i 0 == 63 || get_or part i 0 == get_or text i 0) && fits (drop (i + 1) part) (drop (i + 1) text))
fits_from part text i h k = rw (drop_more part i 0 h, drop_more text i 0 k)

-- a part that fits at the front does so first there
pub at_place : (part text : List ℕ) → fits part text ≡ true → after_first_fit part text ≡ Some (drop (length part) text)
at_place [] [] h = refl
at_place (c ∷ part) [] h = absurd (false≢true h)
at_place part (b ∷ text) h = cond-true (fits part (b ∷ text)) _ _ h

-- and one that does not is looked for one character further
pub past_place : (part text : List ℕ) (place : ℕ) → fits part (drop place text) ≡ false → after_first_fit part (drop (place + 1) text) ≡ after_first_fit part (drop place text)
past_place part text place h = rw add-one (go text place h)
  where
    go : (text : List ℕ) (place : ℕ) → fits part (drop place text) ≡ false → after_first_fit part (drop (suc place) text) ≡ after_first_fit part (drop place text)
    go [] zero h = refl
    go [] (suc place) h = refl
    go (b ∷ text) zero h = sym (cond-false (fits part (b ∷ text)) _ _ h)
    go (b ∷ text) (suc place) h = go text place h

-- no place in a shorter text
pub no_place : (part text : List ℕ) → length text < length part → after_first_fit part text ≡ None
no_place part [] h = cond-false (fits part []) _ _ (fits_short part [] h)
no_place part (b ∷ text) h =
    rw (fits_short part (b ∷ text) h) (no_place part text (omega arith))

-- and none but the front in a text that is no longer than the part
pub no_other_place : (part text : List ℕ) → length text ≤ length part → fits part text ≡ false → after_first_fit part text ≡ None
no_other_place part [] room h = cond-false (fits part []) _ _ h
no_other_place part (b ∷ text) room h = rw h (no_place part text (omega arith))

-- what a search for the first place goes by
pub ruleset first_place = (common_steps, at_place, past_place, no_place, no_other_place)
