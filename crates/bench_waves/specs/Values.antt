-- The texts of values in a value change dump (IEEE 1800-2017, 21.7.2.1; strings as GTKWave reads them).
use Rattle.std.specs.Prelude.{ℕ, false, ◌==◌, List, [], ◌∷◌, ◌++◌, Option, Some, None, codes, map, unwrap_or, if◌then◌else◌}
use Rattle.std.specs.Fmt.{decimal, radix_digits}
use Rattle.uvm_phase.specs.declared.phases.Phase.{Phase}
use Rattle.uvm_phase.specs.Phases.{phase_name}
use Rattle.uvm_sequences.specs.Sequences.{Start, name_at}

-- a number: `b` (98) and its binary digits
abbrev pub number_value : ℕ → List ℕ
number_value number = 98 ∷ radix_digits 2 false number

-- a byte of a text: `_` (95) in place of a blank (32)
abbrev pub shown_byte : ℕ → ℕ
shown_byte byte = if byte == 32 then 95 else byte

-- a text: `s` (115) and its bytes; `-` in place of an empty text
abbrev pub text_value : List ℕ → List ℕ
text_value [] = codes "s-"
text_value (byte ∷ text) = 115 ∷ map shown_byte (byte ∷ text)

-- the name of a phase, if there is one
abbrev pub phase_value : Option Phase → List ℕ
phase_value None = text_value []
phase_value (Some phase) = text_value (phase_name phase)

-- the name and the number of a sequence, with `#` (35) between them
abbrev pub sequence_name : List Start → ℕ → List ℕ
sequence_name started id = unwrap_or (name_at started id) [] ++ 35 ∷ decimal id

-- the name and the number of a sequence, if there is one
abbrev pub sequence_value : List Start → Option ℕ → List ℕ
sequence_value started None = text_value []
sequence_value started (Some id) = text_value (sequence_name started id)
