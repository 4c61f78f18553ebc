-- Which texts are printed on one line.
use Rattle.std.specs.Prelude.{◌≡◌, ◌<◌, ◌^◌, ℕ, ℤ, Bool, true, ◌&&◌, List, nat_le}
use Rattle.std.specs.Fmt.{decimal, signed_decimal}
use Rattle.std.specs.Int.Signed.{mag}
use Rattle.std.specs.List.{list_all}

-- whether a byte is printable: a blank or a visible character of ASCII
abbrev pub is_printed_byte : ℕ → Bool
is_printed_byte b = nat_le 32 b && nat_le b 126

-- every byte of a text is printable, so the text has no newline
abbrev pub IsPrinted : List ℕ → Type 0
IsPrinted text = list_all is_printed_byte text ≡ true

-- the decimal texts of 64-bit numbers and integers are printable
pub record NumbersArePrinted : Type 0 where
  pub numbers : (n : ℕ) → n < 2 ^ 64 → IsPrinted (decimal n)
  pub integers : (z : ℤ) → mag z < 2 ^ 63 → IsPrinted (signed_decimal z)
