-- The meaning of a value of a TOML document, or the reason why it has none.
use Rattle.std.specs.Prelude.{ℕ, ℤ, pos, negsuc, Bool, List, Option, Some, None, Result, Ok, Err, ok_or, nat_le, nat_eq, codes, if◌then◌else◌}
use Rattle.std.specs.Cmp.Lexicographic.{pointwise}
use Rattle.toml.specs.Data.{Data, Items, Members, as_str, as_integer, as_bool, as_array, as_table}
use Rattle.uvm_glob.specs.declared.faults.PathFault.{PathFault}
use Rattle.uvm_glob.specs.Names.{name_fault}
use Rattle.uvm_glob.specs.Paths.{path_fault, between_dots}
use Rattle.uvm_glob.specs.Globs.{glob_fault}
use Rattle.uvm_factory.specs.declared.types.Kind.{Kind}
use Rattle.uvm_factory.specs.declared.types.Kind.TheVariants.{Component, Sequence}
use Rattle.script_values.specs.declared.reasons.Reason.{Reason}
use Rattle.script_values.specs.declared.reasons.Reason.TheVariants.{NotArray, NotBoolean, NotInRange, NotInteger, NotKind, NotString, NotTable, BadGlob, BadName, BadPath}
use Rattle.script_values.specs.Reading.{and_then}

-- the integer that a value is
abbrev pub integer_in : Data → Result ℤ Reason
integer_in value = ok_or (as_integer value) NotInteger

-- the text that a value is
abbrev pub text_in : Data → Result (List ℕ) Reason
text_in value = ok_or (as_str value) NotString

-- the Boolean that a value is
abbrev pub flag_in : Data → Result Bool Reason
flag_in value = ok_or (as_bool value) NotBoolean

-- the elements of a value that is an array
abbrev pub items_in : Data → Result Items Reason
items_in value = ok_or (as_array value) NotArray

-- the members of a value that is a table
abbrev pub members_in : Data → Result Members Reason
members_in value = ok_or (as_table value) NotTable

-- the number if it is from 0 to `most`
abbrev pub number_up_to : ℕ → ℤ → Result ℕ Reason
number_up_to most (pos n) = if nat_le n most then Ok n else Err (NotInRange most)
number_up_to most (negsuc n) = Err (NotInRange most)

-- the number that a value is
abbrev pub number_in : ℕ → Data → Result ℕ Reason
number_in most value = and_then (integer_in value) (number_up_to most)

-- the meaning of a text that has no fault, otherwise the reason for its fault
abbrev pub without_fault : {A : Type 0} → (PathFault → Reason) → Option PathFault → A → Result A Reason
without_fault reason None meaning = Ok meaning
without_fault reason (Some fault) meaning = Err (reason fault)

-- the name that a value is
abbrev pub name_in : Data → Result (List ℕ) Reason
name_in value = and_then (text_in value) (λ text. without_fault BadName (name_fault text) text)

-- the glob that a value is
abbrev pub glob_in : Data → Result (List ℕ) Reason
glob_in value = and_then (text_in value) (λ text. without_fault BadGlob (glob_fault text) text)

-- the names of the path that a value is
abbrev pub path_in : Data → Result (List (List ℕ)) Reason
path_in value = and_then (text_in value) (λ text. without_fault BadPath (path_fault (between_dots text)) (between_dots text))

-- whether two texts are equal
abbrev pub is_same_text : List ℕ → List ℕ → Bool
is_same_text = pointwise nat_eq

-- the kind of type that a word names: `component` or `sequence`
abbrev pub kind_of_word : List ℕ → Result Kind Reason
kind_of_word word =
    if is_same_text word (codes "component") then Ok Component
    else if is_same_text word (codes "sequence") then Ok Sequence
    else Err NotKind

-- the kind of type that a value names
abbrev pub kind_in : Data → Result Kind Reason
kind_in value = and_then (text_in value) kind_of_word
