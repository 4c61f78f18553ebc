-- The first word that names no action, as the code looks for it.
use Rattle.script_tables.proofs.Common.{◌≡◌, ◌+◌, ℕ, List, [], ◌∷◌, Bor, Bool, map, length, not, cond, nat_lt, Option, Some, None, ap, ◌∙◌, refl, length-map, is_one_of, action_words, first_other, position, position_or_len}

abbrev is_other : List ℕ → Bool
is_other word = not (is_one_of action_words word)

len-map : (words : List (Bor (List ℕ))) → position_or_len is_other (map (λ (word : Bor (List ℕ)). word.now) words) ≡ position_or_len (λ (word : Bor (List ℕ)). is_other word.now) words
len-map [] = refl
len-map (word ∷ words) = ap (λ n. cond (not (is_other word.now)) (1 + n) 0) (len-map words)

pub first-map : (words : List (Bor (List ℕ))) → first_other (map (λ (word : Bor (List ℕ)). word.now) words) ≡ position (λ (word : Bor (List ℕ)). not (is_one_of action_words word.now)) words
first-map words =
    let at : ℕ → ℕ → Option ℕ = λ place n. cond (nat_lt place n) (Some place) None in
    ap (λ place. at place (length (map (λ (word : Bor (List ℕ)). word.now) words))) (len-map words)
    ∙ ap (at (position_or_len (λ (word : Bor (List ℕ)). is_other word.now) words)) (length-map words (λ (word : Bor (List ℕ)). word.now))
