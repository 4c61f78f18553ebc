-- The texts of numbers.
use Rattle.script_answers.proofs.Common.{◌≡◌, ◌≢◌, ℕ, zero, suc, ◌<◌, ◌^◌, List, [], ◌∷◌, ◌++◌, length, get_or, arith, append_assoc, refl, ap, ◌∙◌, Option, Some, IfSome, ℤ, pos, negsuc, slice_index_or, decimal, signed_decimal, decimal_is_IsNumeral, to_z-of_z, digit_at, item_text, priority_text, word_text, IsItem, IsSigned, Item, None, codes}
use mir.Syntax.{w64}
use mir.Val.{of_z, to_z}

-- what is no digit (48 to 57) does not stand in a number
pub number-lacks : (c n : ℕ) → c < 48 → n < 2 ^ 64 → (i : ℕ) → i < length (decimal n) → get_or (decimal n) i 0 ≢ c
number-lacks c n low fits i within =
    let digit = digit_at (decimal n) i (decimal_is_IsNumeral n fits).0.1 within in
    λ same. absurd (omega (arith, digit))

-- nor a comma (44) in one with a sign
pub signed-lacks : (z : ℤ) → IsSigned z → (i : ℕ) → i < length (signed_decimal z) → get_or (signed_decimal z) i 0 ≢ 44
signed-lacks (pos n) fits i within = number-lacks 44 n (omega arith) (omega arith) i within
signed-lacks (negsuc n) fits zero within = λ same. absurd (omega (arith, same))
signed-lacks (negsuc n) fits (suc i) within = number-lacks 44 (suc n) (omega arith) (omega arith) i (omega (arith, within))

-- the word `none` is no number
pub not-none : (n : ℕ) → n < 2 ^ 64 → decimal n ≡ codes "none" → ⊥
not-none n fits same =
    let digit = digit_at (decimal n) 0 (decimal_is_IsNumeral n fits).0.1 (decimal_is_IsNumeral n fits).0.0 in
    let letter : get_or (decimal n) 0 0 ≡ 110 = ap (λ (text : List ℕ). get_or text 0 0) same in
    omega (arith, digit)

-- a priority that is written `none` is not given
pub none-read : (priority : Option ℕ) → IfSome priority (λ n. n < 2 ^ 16) → priority_text priority ≡ codes "none" → priority ≡ None
none-read None fits same = refl
none-read (Some n) fits same = absurd (not-none n (omega arith) same)

-- the texts of the later words of an item, with commas between them
abbrev pub last_two : Item → List ℕ
last_two item = word_text item 2 ++ 44 ∷ word_text item 3

abbrev pub last_three : Item → List ℕ
last_three item = word_text item 1 ++ 44 ∷ last_two item

abbrev pub all_four : Item → List ℕ
all_four item = word_text item 0 ++ 44 ∷ last_three item

-- an item is written in brackets
pub item-is : (item : Item) (word : List ℕ) → word ≡ item_text item → word ≡ 91 ∷ all_four item ++ 93 ∷ []
item-is item word is = is ∙ simp append_assoc

-- each of its words has 64 bits
pub word-fits : (item : Item) (place : ℕ) → IsItem item → place < 4 → IsSigned (slice_index_or item.0 place (pos 0))
word-fits item place sound within = sound.1 place (pos 0) (omega (arith, sound.0))

-- and it has no others
pub four-words : (words : List ℤ) → length words ≡ 4
    → slice_index_or words 0 (pos 0) ∷ slice_index_or words 1 (pos 0) ∷ slice_index_or words 2 (pos 0) ∷ slice_index_or words 3 (pos 0) ∷ [] ≡ words
four-words [] four = absurd (omega arith)
four-words (a ∷ []) four = absurd (omega arith)
four-words (a ∷ b ∷ []) four = absurd (omega arith)
four-words (a ∷ b ∷ c ∷ []) four = absurd (omega arith)
four-words (a ∷ b ∷ c ∷ d ∷ []) four = refl
four-words (a ∷ b ∷ c ∷ d ∷ e ∷ words) four = absurd (omega arith)

-- a signed number is what its 64 bits say
pub kept : (read z : ℤ) → IsSigned z → read ≡ z → to_z w64 (of_z w64 read) ≡ z
kept read z fits same = ap (λ (x : ℤ). to_z w64 (of_z w64 x)) same ∙ to_z-of_z w64 z (record { sfits = fits })

-- the item of four numbers that were read
pub item-read : (item : Item) → IsItem item → (a b c d : ℤ)
    → a ≡ slice_index_or item.0 0 (pos 0) → b ≡ slice_index_or item.0 1 (pos 0) → c ≡ slice_index_or item.0 2 (pos 0) → d ≡ slice_index_or item.0 3 (pos 0)
    → record { 0 = to_z w64 (of_z w64 a) ∷ to_z w64 (of_z w64 b) ∷ to_z w64 (of_z w64 c) ∷ to_z w64 (of_z w64 d) ∷ [] } ≡ item
item-read item sound a b c d first second third fourth =
    let words = four-words item.0 sound.0 in
    let one = kept a (slice_index_or item.0 0 (pos 0)) (word-fits item 0 sound (omega arith)) first in
    let two = kept b (slice_index_or item.0 1 (pos 0)) (word-fits item 1 sound (omega arith)) second in
    let three = kept c (slice_index_or item.0 2 (pos 0)) (word-fits item 2 sound (omega arith)) third in
    let four = kept d (slice_index_or item.0 3 (pos 0)) (word-fits item 3 sound (omega arith)) fourth in
    rw (one, two, three, four) (ap {B = Item} (λ (all : List ℤ). record { 0 = all }) words)
