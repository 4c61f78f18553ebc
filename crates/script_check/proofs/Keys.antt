-- The first key of a row that is wrong is the one at which its reading fails.
use Rattle.script_check.proofs.Common.{◌≡◌, ◌∙◌, List, ◌∷◌, Option, Some, None, Result, Ok, Err, inl, inr, ap, refl, option_map, slice_get, ok_or, cons_option, Data, Members, get_member, and_then, cell, cell_or, required, some_of, value_or, column_text, in_column, row_of, Cell, IsRowFault, at_column, may, must, reason_in, wrong_if_absent, wrong_if_there, wrongs_of, same_kinds, Column, TableArray, FaultyRow, Reason, Missing, Types}
use Rattle.script_values.specs.declared.places.Column.TheVariants as column

-- the error of some reading is the first of these
abbrev pub IsFirst : {A : Type 0} → List FaultyRow → Result A FaultyRow → Type 0
IsFirst wrongs result = (why : FaultyRow) → result ≡ Err why → slice_get wrongs 0 ≡ Some why

module _ {A B : Type 0} (column : Column) (wrongs : List FaultyRow) where
  -- by the meaning of a value
  pub read-first : (meaning : Result A Reason) (rest : A → Result B FaultyRow) → ((a : A) → meaning ≡ Ok a → IsFirst wrongs (rest a))
      → IsFirst (cons_option (option_map (at_column column) (reason_in meaning)) wrongs) (and_then (in_column column meaning) rest)
  read-first (Ok a) rest next why failed = next a refl why failed
  read-first (Err reason) rest next why failed = let same : at_column column reason ≡ why = cc failed in ap Some same

  pub must-first : (read : Data → Result A Reason) (given : Option Data) (rest : A → Result B FaultyRow) → ((a : A) → and_then (ok_or given Missing) read ≡ Ok a → IsFirst wrongs (rest a))
      → IsFirst (cons_option (option_map (at_column column) (wrong_if_absent read given)) wrongs) (and_then (in_column column (and_then (ok_or given Missing) read)) rest)
  must-first read None rest next why failed = let same : at_column column Missing ≡ why = cc failed in ap Some same
  must-first read (Some value) rest next why failed = read-first (read value) rest next why failed

  pub may-first : (absent : A) (read : Data → Result A Reason) (given : Option Data) (rest : A → Result B FaultyRow) → ((a : A) → IsFirst wrongs (rest a))
      → IsFirst (cons_option (option_map (at_column column) (wrong_if_there read given)) wrongs) (and_then (in_column column (value_or absent read given)) rest)
  may-first absent read None rest next why failed = next absent why failed
  may-first absent read (Some value) rest next why failed = read-first (read value) rest (λ a is. next a) why failed

  some-read : (read : Data → Result A Reason) (value : Data) (meaning : Result A Reason) (rest : Option A → Result B FaultyRow) → ((a : Option A) → IsFirst wrongs (rest a))
      → IsFirst (cons_option (option_map (at_column column) (reason_in meaning)) wrongs) (and_then (in_column column (and_then meaning (λ a. Ok (Some a)))) rest)
  some-read read value (Ok a) rest next why failed = next (Some a) why failed
  some-read read value (Err reason) rest next why failed = let same : at_column column reason ≡ why = cc failed in ap Some same

  pub some-first : (read : Data → Result A Reason) (given : Option Data) (rest : Option A → Result B FaultyRow) → ((a : Option A) → IsFirst wrongs (rest a))
      → IsFirst (cons_option (option_map (at_column column) (wrong_if_there read given)) wrongs) (and_then (in_column column (value_or None (some_of read) given)) rest)
  some-first read None rest next why failed = next None why failed
  some-first read (Some value) rest next why failed = some-read read value (read value) rest next why failed

-- two steps of which each fails by itself, in one
pub and-then-then : {A B C E : Type 0} (one : Result A E) (two : A → Result B E) (three : B → Result C E) → and_then (and_then one two) three ≡ and_then one (λ a. and_then (two a) three)
and-then-then (Ok a) two three = refl
and-then-then (Err e) two three = refl

-- the error of a row: that of the row as a whole, otherwise the first of its keys
pub row-fault : {Row : Type 0} (array : TableArray) (cells : List Cell) (element : Data) (keys : Members → Result Row FaultyRow) → ((table : Members) → IsFirst (wrongs_of cells table) (keys table))
    → (why : FaultyRow) → and_then (row_of array element) keys ≡ Err why → IsRowFault array cells element why
row-fault array cells element keys first why failed = by-row (row_of array element) refl failed where
  by-row : (row : Result Members FaultyRow) → row_of array element ≡ row → and_then row keys ≡ Err why → IsRowFault array cells element why
  by-row (Ok table) is failed = inr (table, is, first table why failed)
  by-row (Err other) is failed = let same : other ≡ why = cc failed in inl (is ∙ ap Err same)
