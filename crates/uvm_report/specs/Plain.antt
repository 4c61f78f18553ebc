-- The texts that are whole lines of a transcript.
use Rattle.std.specs.Prelude.{◌≡◌, ◌⊎◌, ℕ, Bool, true, not, ◌&&◌, ◌==◌, List, [], ◌∷◌, ◌++◌, refl}
use Rattle.std.specs.List.{flat_map, list_all}
use Rattle.std.proofs.Common.{ap, ◌∙◌, inl, inr, subst, sym}
use Rattle.std.proofs.lemmas.Bool.{and_from}
use Rattle.std.proofs.lemmas.Grind.{flat_map-append}
use Rattle.std.proofs.lemmas.List.{append-nil}
use Rattle.std.proofs.lemmas.List.Folds.{list_all-append}
use Rattle.uvm_glob.specs.Printed.{is_printed_byte}
use Rattle.uvm_report.specs.Lines.{line}

-- whether a text begins neither with `!` (33) nor with `?` (63), which begin other lines of a program
abbrev pub begins_plain : List ℕ → Bool
begins_plain [] = true
begins_plain (b ∷ text) = not (b == 33) && not (b == 63)

-- whether a text is a line of a transcript, without its newline: it consists of printable characters, and `begins_plain` holds
abbrev pub is_plain : List ℕ → Bool
is_plain text = list_all is_printed_byte text && begins_plain text

-- a text consists of whole lines of a transcript
pub record ArePlainLines (text : List ℕ) : Type 0 where
  pub lines : List (List ℕ)
  pub plain : list_all is_plain lines ≡ true
  pub joined : flat_map line lines ≡ text

-- a text is one whole line of a transcript
pub record IsPlainLine (text : List ℕ) : Type 0 where
  pub shown : List ℕ
  pub plain : is_plain shown ≡ true
  pub joined : line shown ≡ text

-- a text is empty, or one whole line of a transcript
abbrev pub IsLineAtMost : List ℕ → Type 0
IsLineAtMost text = (text ≡ []) ⊎ IsPlainLine text

-- the empty text, one line, and two texts of whole lines one after the other are whole lines

pub plain-none : ArePlainLines []
plain-none = record { lines = []; plain = refl; joined = refl }

pub plain-one : (text : List ℕ) → is_plain text ≡ true → ArePlainLines (line text)
plain-one text good = record { lines = text ∷ []; plain = and_from (is_plain text) true good refl; joined = append-nil (line text) }

pub plain-line : (text : List ℕ) → IsPlainLine text → ArePlainLines text
plain-line text one = subst ArePlainLines one.joined (plain-one one.shown one.plain)

pub most-none : IsLineAtMost []
most-none = inl refl

pub most-one : (text : List ℕ) → IsPlainLine text → IsLineAtMost text
most-one text one = inr one

pub plain-most : (text : List ℕ) → IsLineAtMost text → ArePlainLines text
plain-most text (inl none) = subst ArePlainLines (sym none) plain-none
plain-most text (inr one) = plain-line text one

pub plain-append : (front back : List ℕ) → ArePlainLines front → ArePlainLines back → ArePlainLines (front ++ back)
plain-append front back one more = record {
  lines = one.lines ++ more.lines;
  plain = list_all-append is_plain one.lines more.lines ∙ and_from (list_all is_plain one.lines) (list_all is_plain more.lines) one.plain more.plain;
  joined = flat_map-append line one.lines more.lines ∙ ap (λ text. text ++ flat_map line more.lines) one.joined ∙ ap (λ text. front ++ text) more.joined;
}
