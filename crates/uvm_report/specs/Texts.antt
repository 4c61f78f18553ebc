-- The texts that a report may have.
use Rattle.std.specs.Prelude.{ℕ, Bool, not, ◌&&◌, List, length, nat_le, nat_lt, map, take, Option, Some, None, codes, if◌then◌else◌}
use Rattle.std.specs.List.{list_all}
use Rattle.uvm_report.specs.declared.faults.TextFault.{TextFault}
use Rattle.uvm_report.specs.declared.faults.TextFault.TheVariants.{TooLong, BadByte, Memory}

-- whether a text may have a byte: a space or a printable character of ASCII
abbrev pub is_text_byte : ℕ → Bool
is_text_byte b = nat_le 32 b && nat_le b 126

-- the first error of some bytes as a text
unfoldable pub text_fault : List ℕ → Option TextFault
text_fault bytes =
    if nat_lt 200 (length bytes) then Some TooLong
    else if not (list_all is_text_byte bytes) then Some BadByte
    else None

-- whether some bytes are a valid text, as a computation, so that the check of a literal needs no proof
abbrev pub is_text : List ℕ → Bool
is_text bytes = not (nat_lt 200 (length bytes)) && list_all is_text_byte bytes

-- a byte, or a question mark (63) if a text may not have it
abbrev pub byte_shown : ℕ → ℕ
byte_shown b = if is_text_byte b then b else 63

-- the valid text nearest to some bytes: the first 200, each as `byte_shown` gives it
abbrev pub lossy : List ℕ → List ℕ
lossy bytes = map byte_shown (take 200 bytes)

-- the error that a result reports about the bytes; `Memory` reports none
abbrev pub refusal : TextFault → Option TextFault
refusal TooLong = Some TooLong
refusal BadByte = Some BadByte
refusal Memory = None

-- the text of each error
abbrev pub fault_text : TextFault → List ℕ
fault_text TooLong = codes "more than 200 bytes"
fault_text BadByte = codes "a byte that may not stand there"
fault_text Memory = codes "out of memory"
