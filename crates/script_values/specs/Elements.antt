-- The elements of an array, and the rows that are read from them.
use Rattle.std.specs.Prelude.{ℕ, suc, List, [], ◌∷◌, ◌++◌, Result, Ok, Err, length, map, nat_le, if◌then◌else◌}
use Rattle.toml.specs.Data.{Data, Items, no_items, item, Members}
use Rattle.script_values.specs.declared.places.Place.TheVariants as place
use Rattle.script_values.specs.declared.places.TableArray.{TableArray}
use Rattle.script_values.specs.declared.reasons.FaultyRow.{FaultyRow}
use Rattle.script_values.specs.declared.reasons.FaultyScript.{FaultyScript}
use Rattle.script_values.specs.declared.reasons.Reason.{Reason}
use Rattle.script_values.specs.declared.reasons.Reason.TheVariants.{TooManyRows}
use Rattle.script_values.specs.Places.{array_text, at_place, column_text, columns_of, in_no_column, in_row}
use Rattle.script_values.specs.Reading.{and_then}
use Rattle.script_values.specs.Values.{items_in, members_in}
use Rattle.script_values.specs.Keys.{only_keys, optional}

-- the rows that are read from the elements, one from each; how an element is read can depend on the rows before it
abbrev pub rows_from : {Row E : Type 0} → (List Row → Data → Result Row E) → List Row → Items → Result (List Row) E
rows_from read rows no_items = Ok rows
rows_from read rows (item element rest) = and_then (read rows element) (λ row. rows_from read (rows ++ row ∷ []) rest)

-- the number of elements of an array
abbrev pub count_of : Items → ℕ
count_of no_items = 0
count_of (item element rest) = suc (count_of rest)

-- the elements of an array; `TooManyRows` if there are more than `most`
abbrev pub up_to : ℕ → Items → Result Items Reason
up_to most elements = if nat_le (count_of elements) most then Ok elements else Err (TooManyRows most)

-- the elements of an array of tables, none if its key is absent; `NotArray` if the value is not an array
abbrev pub elements_of : TableArray → Members → Result Items Reason
elements_of array root = optional (array_text array) no_items items_in root

-- the same, at the place of the array
abbrev pub elements_at : TableArray → Members → Result Items FaultyScript
elements_at array root = at_place (place.Array array) (elements_of array root)

-- the same, but `TooManyRows` if there are more than `most` elements
abbrev pub few_elements_at : ℕ → TableArray → Members → Result Items FaultyScript
few_elements_at most array root = at_place (place.Array array) (and_then (elements_of array root) (up_to most))

-- an element as a table that has no other keys than these; `NotTable` if it is not a table, then `UnknownKey`
abbrev pub table_in : List (List ℕ) → Data → Result Members Reason
table_in keys element = and_then (members_in element) (λ table. and_then (only_keys keys table) (λ _. Ok table))

-- an element of an array as a row, which has no other keys than a row of the array can have
abbrev pub row_of : TableArray → Data → Result Members FaultyRow
row_of array element = in_no_column (table_in (map column_text (columns_of array)) element)

-- how the next row of an array is read: an error is at the row after those before it
abbrev pub numbered : {Row : Type 0} → TableArray → (List Row → Data → Result Row FaultyRow) → List Row → Data → Result Row FaultyScript
numbered array read rows element = in_row array (length rows) (read rows element)
