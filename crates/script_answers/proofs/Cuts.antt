-- The words that are left of a line, as they are taken.
use Rattle.script_answers.proofs.Common.{◌≡◌, ℕ, Bool, true, false, List, [], ◌∷◌, length, refl, sym, ap, arith, rules, Bor, IsTrue, ◌↔◌, Option, Some, unwrap_or, join_with_byte, position_or_len, slice_split_none, length-slice_split, join_with_byte-slice_split, fails_before_first, words_in, None, is_some, not, ◌==◌, words_of}

-- a text with no blank is one word
pub cut-none : (text : List ℕ) → position_or_len (λ b. b == 32) text ≡ length text → words_of text ≡ text ∷ []
cut-none text none = slice_split_none (λ b. b == 32) text (λ k d within. fails_before_first (λ b. b == 32) text k d (omega (arith, none)))

-- each text has a word
pub some-word : (text : List ℕ) → words_of text ≡ [] → ⊥
some-word text none =
    let some = length-slice_split (λ b. b == 32) text in
    let zero : length (words_of text) ≡ 0 = ap length none in
    omega (arith, some)

-- a text is used up where no word is left
pub none-left : (left : Option (Bor (List ℕ))) (done : Bool) → is_some left ≡ not done → IsTrue done ↔ (words_in left ≡ [])
none-left None true is = (λ yes. refl, λ none. search rules)
none-left None false is = absurd (cc)
none-left (Some text) true is = absurd (cc)
none-left (Some text) false is = (λ yes. absurd (cc), λ none. absurd (some-word text.now none))

-- what is left is the words that are left, with a blank between each two
pub left-joins : (left : Option (Bor (List ℕ))) (other : Bor (List ℕ)) → other.now ≡ [] → (unwrap_or left other).now ≡ join_with_byte 32 (words_in left)
left-joins None other empty = empty
left-joins (Some text) other empty = sym (join_with_byte-slice_split 32 text.now)
