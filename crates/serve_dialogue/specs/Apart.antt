-- How a client separates the transcript from requests and notices.
use Rattle.std.specs.Prelude.{◌≡◌, ℕ, Bool, true, not, ◌&&◌, ◌||◌, List, filter, nat_eq, codes}
use Rattle.std.specs.List.{flat_map, list_all, starts_with}
use Rattle.uvm_glob.specs.Printed.{is_printed_byte}
use Rattle.uvm_report.specs.Lines.{line}

-- whether a text is a request or a notice: its first two bytes are `? ` or `! `
abbrev pub is_marked : List ℕ → Bool
is_marked text = starts_with nat_eq text (codes "? ") || starts_with nat_eq text (codes "! ")

-- whether a text is a request or a notice with printable bytes only, so that it is a single line
abbrev pub is_marked_line : List ℕ → Bool
is_marked_line text = list_all is_printed_byte text && is_marked text

-- a text consists of requests and notices, each on a line of its own
pub record AreMarkedLines (text : List ℕ) : Type 0 where
  pub lines : List (List ℕ)
  pub marked : list_all is_marked_line lines ≡ true
  pub joined : flat_map line lines ≡ text

-- An output consists of lines with printable bytes only. Those that are neither requests nor notices make up the transcript.
pub record TellsApart (output transcript : List ℕ) : Type 0 where
  pub lines : List (List ℕ)
  pub printed : list_all (list_all is_printed_byte) lines ≡ true
  pub output_is : flat_map line lines ≡ output
  pub transcript_is : flat_map line (filter (λ text. not (is_marked text)) lines) ≡ transcript
