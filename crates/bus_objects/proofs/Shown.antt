-- What an object shows determines what it keeps.
use Rattle.bus_objects.proofs.Common.{◌≡◌, ℕ, ◌+◌, ◌*◌, ◌/◌, ◌%◌, List, [], ◌∷◌, ◌++◌, drop, length, map, take, refl, sym, ap, ◌∙◌, arith, ℤ, pos, negsuc, length-map, drop-append_seam, take-append_seam, Item, Memory, Score, Words, integer_of, number_of, words_of, words_view, memory_of, memory_view, score_of, score_view, item_of, item_view}

integer_of-even : (n : ℕ) → integer_of (2 * n) ≡ pos n
integer_of-even n =
    let even : (2 * n) % 2 ≡ 0 = omega arith in
    let half : (2 * n) / 2 ≡ n = omega arith in
    rw (even, half)

integer_of-odd : (n : ℕ) → integer_of (2 * n + 1) ≡ negsuc n
integer_of-odd n =
    let odd : (2 * n + 1) % 2 ≡ 1 = omega arith in
    let half : (2 * n + 1) / 2 ≡ n = omega arith in
    rw (odd, half)

integer_of-number_of : (z : ℤ) → integer_of (number_of z) ≡ z
integer_of-number_of (pos n) = integer_of-even n
integer_of-number_of (negsuc n) = integer_of-odd n

words_of-words_view : (words : Words) → words_of (words_view words) ≡ words
unfolding words_of words_view
words_of-words_view [] = refl
words_of-words_view (stored ∷ words) = rw (integer_of-number_of stored.0, integer_of-number_of stored.1, words_of-words_view words)

pub scores_show_themselves : (score : Score) → score_of (score_view score) ≡ score
unfolding score_of score_view
scores_show_themselves score = rw (words_of-words_view score.words)

integers-of-numbers : (words : List ℤ) → map integer_of (map number_of words) ≡ words
integers-of-numbers [] = refl
integers-of-numbers (word ∷ words) = rw (integer_of-number_of word, integers-of-numbers words)

pub items_show_themselves : (item : Item) → item_of (item_view item) ≡ item
unfolding item_of item_view
items_show_themselves item = rw (integers-of-numbers item.0)

pub memories_show_themselves : (memory : Memory) → memory_of (memory_view memory) ≡ memory
unfolding memory_of memory_view
memories_show_themselves memory =
    let item : List ℕ = map number_of memory.item.0 in
    let words : List ℕ = words_view memory.words in
    let count : length memory.item.0 ≡ length item = sym (length-map memory.item.0 number_of) in
    let front : take (length memory.item.0) (item ++ words) ≡ item = ap (λ n. take n (item ++ words)) count ∙ take-append_seam item words in
    let back : drop (length memory.item.0) (item ++ words) ≡ words = ap (λ n. drop n (item ++ words)) count ∙ drop-append_seam item words in
    rw (front, back, integers-of-numbers memory.item.0, words_of-words_view memory.words)
