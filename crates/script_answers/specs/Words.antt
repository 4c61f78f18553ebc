-- The words of a line, which readers read in order.
use Rattle.std.specs.Prelude.{◌≡◌, ◌⊎◌, ℕ, List, [], ◌∷◌, Option, Some, None, Result, Ok, Err}
pub use Rattle.script_answer_acts.specs.Words.{words_of, in_brackets}
use Rattle.script_answers.specs.declared.faults.LineFault.{LineFault}
use Rattle.script_answers.specs.declared.faults.LineFault.TheVariants.{Memory}
use Rattle.script_answers.specs.declared.words.Words.{Words}
use denote.Ref.{Bor}

-- the words of a text; none if no text is left
abbrev pub words_in : Option (Bor (List ℕ)) → List (List ℕ)
words_in None = []
words_in (Some text) = words_of text.now

-- the words of a line that are not read yet
abbrev pub words_left : Words → List (List ℕ)
words_left words = words_in words.left

-- a condition that each value satisfies
abbrev pub IsAny : {A : Type 0} → A → Type 0
IsAny part = Unit {0}

-- A reader of one word reads each valid part: if the word is the text of the part, the result is that part.
abbrev pub ReadsWord : {A : Type 0} → (A → List ℕ) → (A → Type 0) → List ℕ → Result A LineFault → Type 0
ReadsWord {A} text CanBe word result = (part : A) → CanBe part → word ≡ text part → result ≡ Ok part

-- A reader reads each valid part: if the words left begin with its text, the result is that part. The words after it are left.
abbrev pub Reads : {A : Type 0} → (A → List ℕ) → (A → Type 0) → List (List ℕ) → List (List ℕ) → Result A LineFault → Type 0
Reads {A} text CanBe before after result = (part : A) (rest : List (List ℕ)) → CanBe part → before ≡ text part ∷ rest → (result ≡ Ok part) × (after ≡ rest)

-- the same, except that the reader may run out of memory
abbrev pub ReadsInMemory : {A : Type 0} → (A → List ℕ) → (A → Type 0) → List (List ℕ) → List (List ℕ) → Result A LineFault → Type 0
ReadsInMemory {A} text CanBe before after result = (part : A) (rest : List (List ℕ)) → CanBe part → before ≡ text part ∷ rest → ((result ≡ Ok part) × (after ≡ rest)) ⊎ (result ≡ Err Memory)
