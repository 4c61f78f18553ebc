-- The words of a key.
use Rattle.std.specs.Prelude.{◌≡◌, ℕ, Bool, true, false, ◌||◌, List, [], ◌∷◌, bytes_eq, codes, if◌then◌else◌}
use Rattle.script_answers.specs.Words.{words_left}
use Rattle.script_answers.specs.declared.examples.KeyWords.{KeyWords}

-- whether this word is `*`, which matches all remaining words of a call
abbrev pub is_star : List ℕ → Bool
is_star word = bytes_eq word (codes "*")

-- the words of a key without a `*` at its end
abbrev pub but_star : List (List ℕ) → List (List ℕ)
but_star [] = []
but_star (word ∷ []) = if is_star word then [] else word ∷ []
but_star (word ∷ next ∷ words) = word ∷ but_star (next ∷ words)

-- whether the last word of a key is `*`
abbrev pub ends_in_star : List (List ℕ) → Bool
ends_in_star [] = false
ends_in_star (word ∷ []) = is_star word
ends_in_star (word ∷ next ∷ words) = ends_in_star (next ∷ words)

-- Words begin with the given words. More words follow if `goes_on` is true, and none otherwise.
abbrev pub Begins : List (List ℕ) → Bool → List (List ℕ) → Type 0
Begins [] goes_on [] = goes_on ≡ false
Begins [] goes_on (word ∷ words) = goes_on ≡ true
Begins (given ∷ givens) goes_on [] = ⊥
Begins (given ∷ givens) goes_on (word ∷ words) = (given ≡ word) × Begins givens goes_on words

-- the words of a key that are not read yet, without a `*` at its end
abbrev pub given_left : KeyWords → List (List ℕ)
given_left words = if words.is_open then [] else but_star (words_left words.words)

-- whether words of the example follow the given words
abbrev pub goes_on : KeyWords → Bool
goes_on words = words.is_open || ends_in_star (words_left words.words)

-- the first given word, or the word of the example if no word is given
abbrev pub first_or : List ℕ → List (List ℕ) → List ℕ
first_or example [] = example
first_or example (word ∷ words) = word
