-- Which texts are names.
use Rattle.std.specs.Prelude.{ℕ, Bool, not, ◌&&◌, ◌||◌, ◌==◌, List, [], ◌∷◌, length, nat_le, nat_lt, Option, is_none}
use Rattle.std.specs.List.{list_all}
use Rattle.uvm_glob.specs.declared.faults.PathFault.{PathFault}
use Rattle.uvm_glob.specs.Limits.{most_name_bytes}
use Rattle.uvm_glob.specs.declared.faults.PathFault.TheVariants.{Empty, TooLong, BadByte}
use Rattle.uvm_glob.specs.Lists.{first_given}
use Rattle.uvm_glob.specs.Faults.{fault_if}

-- whether a byte is one of `*`, `+`, `.`, `/` and `?`, which have a special meaning in paths and globs
abbrev pub is_separator_or_wildcard : ℕ → Bool
is_separator_or_wildcard b = b == 42 || b == 43 || b == 46 || b == 47 || b == 63

-- whether a byte is allowed in a name: from 33 to 126, and not one of those with a special meaning
abbrev pub is_name_byte : ℕ → Bool
is_name_byte b = nat_le 33 b && nat_le b 126 && not (is_separator_or_wildcard b)

-- the errors that a text can have as a name, in the order of the checks
abbrev pub name_faults : List ℕ → List (Option PathFault)
name_faults text =
    fault_if (length text == 0) Empty
    ∷ fault_if (nat_lt most_name_bytes (length text)) TooLong
    ∷ fault_if (not (list_all is_name_byte text)) BadByte
    ∷ []

-- the first error of a text as a name
unfoldable pub name_fault : List ℕ → Option PathFault
name_fault text = first_given (name_faults text)

-- whether the text is a name, as a function that computes: so a proof about a literal needs no further step
abbrev pub is_name : List ℕ → Bool
is_name text = is_none (first_given (name_faults text))
