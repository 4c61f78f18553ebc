-- Which texts a glob matches.
use Rattle.std.specs.Prelude.{◌≡◌, ◌≢◌, ℕ, Bool, true, false, not, ◌&&◌, ◌==◌, List, [], ◌∷◌, ◌++◌, length, nat_le, nat_lt, Option, is_none, if◌then◌else◌, MatchBool}
use Rattle.std.specs.List.{list_any, list_all}
use Rattle.uvm_glob.specs.declared.faults.PathFault.{PathFault}
use Rattle.uvm_glob.specs.Limits.{most_text_bytes}
use Rattle.uvm_glob.specs.declared.faults.PathFault.TheVariants.{TooLong, BadByte}
use Rattle.uvm_glob.specs.Lists.{first_given}
use Rattle.uvm_glob.specs.Faults.{fault_if}

-- the text can be split into two parts u and v for which P holds
abbrev pub SomeSplit : List ℕ → (List ℕ → List ℕ → Type 0) → Type 0
SomeSplit text P = (u : List ℕ) × (v : List ℕ) × (text ≡ u ++ v) × P u v

-- whether the glob matches the text: `*` (42) stands for zero or more characters, `+` (43) for one or more, `?` (63) for exactly
-- one, and every other character for itself
abbrev pub Matches : List ℕ → List ℕ → Type 0
Matches [] text = text ≡ []
Matches (c ∷ rest) text =
    MatchBool (c == 42) (SomeSplit text (λ u v. Matches rest v))
    (MatchBool (c == 43) (SomeSplit text (λ u v. (u ≢ []) × Matches rest v))
    (MatchBool (c == 63) (SomeSplit text (λ u v. (length u ≡ 1) × Matches rest v))
    (SomeSplit text (λ u v. (u ≡ c ∷ []) × Matches rest v))))

-- the text itself, and its rest after each of its characters
abbrev pub rests_of : List ℕ → List (List ℕ)
rests_of [] = [] ∷ []
rests_of (b ∷ text) = (b ∷ text) ∷ rests_of text

-- whether the first character passes and the rest after it passes the test; false for the empty text
abbrev pub after_one : (ℕ → Bool) → (List ℕ → Bool) → List ℕ → Bool
after_one passes test [] = false
after_one passes test (b ∷ text) = passes b && test text

-- `Matches` as a function that returns a Boolean
unfoldable pub matches : List ℕ → List ℕ → Bool
matches [] text = length text == 0
matches (c ∷ rest) text =
    if c == 42 then list_any (matches rest) (rests_of text)
    else if c == 43 then after_one (λ _. true) (λ left. list_any (matches rest) (rests_of left)) text
    else if c == 63 then after_one (λ _. true) (matches rest) text
    else after_one (λ b. c == b) (matches rest) text

-- whether a byte is allowed in a glob: from 33 to 126, except `/` (47)
abbrev pub is_glob_byte : ℕ → Bool
is_glob_byte b = nat_le 33 b && nat_le b 126 && not (b == 47)

-- the errors that a text can have as a glob, in the order of the checks
abbrev pub glob_faults : List ℕ → List (Option PathFault)
glob_faults text = fault_if (nat_lt most_text_bytes (length text)) TooLong ∷ fault_if (not (list_all is_glob_byte text)) BadByte ∷ []

-- the first error of a text as a glob
unfoldable pub glob_fault : List ℕ → Option PathFault
glob_fault text = first_given (glob_faults text)

-- whether the text is a glob, as a function that computes: so a proof about a literal needs no further step
abbrev pub is_glob : List ℕ → Bool
is_glob text = is_none (first_given (glob_faults text))
