-- What passes its test has no fault.
use Rattle.uvm_glob.proofs.Common.{◌≡◌, ℕ, true, List, Option, Some, None, IsTrue, is_none, refl, first_given, is_name, name_fault, name_faults, is_path, names_of, path_fault, path_faults, glob_fault, glob_faults, is_glob}

none-given : {A : Type 0} (given : Option A) → is_none given ≡ true → given ≡ None
none-given None is = refl
none-given (Some a) is = cc

pub name_sound : (text : List ℕ) → IsTrue (is_name text) → name_fault text ≡ None
unfolding name_fault
name_sound text is = none-given (first_given (name_faults text)) is

pub path_sound : (text : List ℕ) → IsTrue (is_path text) → path_fault (names_of text) ≡ None
unfolding path_fault
path_sound text is = none-given (first_given (path_faults (names_of text))) is

pub glob_sound : (text : List ℕ) → IsTrue (is_glob text) → glob_fault text ≡ None
unfolding glob_fault
glob_sound text is = none-given (first_given (glob_faults text)) is
