-- The bytes of names and paths may stand in a glob, and those of a glob are ASCII.
use Rattle.uvm_glob.proofs.Common.{◌≡◌, ℕ, ◌<◌, true, None, List, [], ◌∷◌, refl, ◌∙◌, arith, list_all, IsAscii, IsUtf8, and_parts, not-false, nat_tests, list_all-append, IsUtf8-from_ascii, IsAscii-nil, IsAscii-cons, is_name_byte, name_fault, is_glob_byte, glob_fault, IsPrinted, is_printed_byte, path_text, path_fault, dotted}
use Rattle.uvm_glob.proofs.PathTexts.{path-no_fault, fault-name, no_glob_fault}

-- a byte of a glob is ASCII
byte-ascii : (b : ℕ) → is_glob_byte b ≡ true → b < 128
byte-ascii b good = grind (arith, nat_tests)

-- a byte of a name may stand in a glob
byte-in_glob : (b : ℕ) → is_name_byte b ≡ true → is_glob_byte b ≡ true
byte-in_glob b good = grind (arith, nat_tests)

bytes-ascii : (bytes : List ℕ) → list_all is_glob_byte bytes ≡ true → IsAscii bytes
bytes-ascii [] good = IsAscii-nil
bytes-ascii (b ∷ bytes) good =
    let parts = and_parts (is_glob_byte b) (list_all is_glob_byte bytes) good in
    IsAscii-cons b bytes (byte-ascii b parts.0) (bytes-ascii bytes parts.1)

-- the bytes of a glob are text
pub bytes_as_text : (bytes : List ℕ) → list_all is_glob_byte bytes ≡ true → IsUtf8 bytes
bytes_as_text bytes good = IsUtf8-from_ascii bytes (bytes-ascii bytes good)

name-in_glob : (name : List ℕ) → list_all is_name_byte name ≡ true → list_all is_glob_byte name ≡ true
name-in_glob [] good = refl
name-in_glob (b ∷ name) good =
    let parts = and_parts (is_name_byte b) (list_all is_name_byte name) good in
    rw (byte-in_glob b parts.0, name-in_glob name parts.1)

-- the bytes of a name may stand in a glob
pub name_bytes : (name : List ℕ) → name_fault name ≡ None → list_all is_glob_byte name ≡ true
name_bytes name good =
    name-in_glob name (and_parts (list_all is_name_byte name) true (path-no_fault (name ∷ []) (fault-name name good)).good).0

text-in_glob : (names : List (List ℕ)) → list_all (list_all is_name_byte) names ≡ true → list_all is_glob_byte (path_text names) ≡ true
text-in_glob [] good = refl
text-in_glob (name ∷ []) good = name-in_glob name (and_parts (list_all is_name_byte name) true good).0
text-in_glob (name ∷ next ∷ names) good =
    let parts = and_parts (list_all is_name_byte name) (list_all (list_all is_name_byte) (next ∷ names)) good in
    list_all-append is_glob_byte name (46 ∷ path_text (next ∷ names))
    ∙ rw (name-in_glob name parts.0, text-in_glob (next ∷ names) parts.1)

-- so may those of a path's text
pub path_bytes : (names : List (List ℕ)) → path_fault names ≡ None → list_all is_glob_byte (path_text names) ≡ true
path_bytes names good = text-in_glob names (path-no_fault names good).good

-- and those of two texts with a dot between them
pub dotted_bytes : (front back : List ℕ) → list_all is_glob_byte front ≡ true → list_all is_glob_byte back ≡ true → list_all is_glob_byte (dotted front back) ≡ true
dotted_bytes [] back good more = more
dotted_bytes (b ∷ front) [] good more = good
dotted_bytes (b ∷ front) (d ∷ back) good more = list_all-append is_glob_byte (b ∷ front) (46 ∷ d ∷ back) ∙ rw (good, more)

-- a glob without a fault has the bytes of one
pub glob_bytes : (text : List ℕ) → glob_fault text ≡ None → list_all is_glob_byte text ≡ true
unfolding glob_fault
glob_bytes text good = not-false (list_all is_glob_byte text) (no_glob_fault _ _ good).1

-- what may stand in a glob is printed
byte-printed : (b : ℕ) → is_glob_byte b ≡ true → is_printed_byte b ≡ true
byte-printed b good = grind (arith, nat_tests)

pub bytes_printed : (bytes : List ℕ) → list_all is_glob_byte bytes ≡ true → IsPrinted bytes
bytes_printed [] good = refl
bytes_printed (b ∷ bytes) good =
    let parts = and_parts (is_glob_byte b) (list_all is_glob_byte bytes) good in
    rw (byte-printed b parts.0, bytes_printed bytes parts.1)

-- so a name is printed
pub name_printed : (name : List ℕ) → name_fault name ≡ None → IsPrinted name
name_printed name good = bytes_printed name (name_bytes name good)
