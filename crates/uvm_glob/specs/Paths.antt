-- Paths as lists of names, and their texts.
use Rattle.std.specs.Prelude.{ℕ, Bool, not, ◌||◌, ◌==◌, List, [], ◌∷◌, ◌++◌, length, nat_lt, Option, is_none}
use Rattle.std.specs.List.{list_any, list_all, join_with_byte, slice_split}
use Rattle.uvm_glob.specs.declared.faults.PathFault.{PathFault}
use Rattle.uvm_glob.specs.Limits.{most_name_bytes, most_names, most_text_bytes}
use Rattle.uvm_glob.specs.declared.faults.PathFault.TheVariants.{Empty, TooLong, BadByte, TooDeep}
use Rattle.uvm_glob.specs.Lists.{first_given}
use Rattle.uvm_glob.specs.Faults.{fault_if}
use Rattle.uvm_glob.specs.Names.{is_name_byte}

-- the text of a path: its names, with a dot between each two
abbrev pub path_text : List (List ℕ) → List ℕ
path_text names = join_with_byte 46 names

-- the parts of a text between its dots
abbrev pub between_dots : List ℕ → List (List ℕ)
between_dots text = slice_split (λ b. b == 46) text

-- the names of the path with this text; the empty text is the path of the top, which has no name
abbrev pub names_of : List ℕ → List (List ℕ)
names_of [] = []
names_of (b ∷ text) = between_dots (b ∷ text)

-- the errors that a list of names can have as a path, in the order of the checks
abbrev pub path_faults : List (List ℕ) → List (Option PathFault)
path_faults names =
    fault_if (list_any (λ name. length name == 0) names) Empty
    ∷ fault_if (list_any (λ name. nat_lt most_name_bytes (length name)) names || nat_lt most_text_bytes (length (path_text names))) TooLong
    ∷ fault_if (not (list_all (list_all is_name_byte) names)) BadByte
    ∷ fault_if (nat_lt most_names (length names)) TooDeep
    ∷ []

-- the first error of a list of names as a path
unfoldable pub path_fault : List (List ℕ) → Option PathFault
path_fault names = first_given (path_faults names)

-- whether the text is that of a path, as a function that computes: so a proof about a literal needs no further step
abbrev pub is_path : List ℕ → Bool
is_path text = is_none (first_given (path_faults (names_of text)))

-- two texts with a dot between them, or without the dot if one of them is empty
abbrev pub dotted : List ℕ → List ℕ → List ℕ
dotted [] back = back
dotted (b ∷ front) [] = b ∷ front
dotted (b ∷ front) (d ∷ back) = b ∷ front ++ 46 ∷ d ∷ back

-- the first size error of a path: its text has too many bytes, or it has too many names
abbrev pub size_fault : ℕ → ℕ → Option PathFault
size_fault bytes names = first_given (fault_if (nat_lt most_text_bytes bytes) TooLong ∷ fault_if (nat_lt most_names names) TooDeep ∷ [])
