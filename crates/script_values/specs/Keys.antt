-- The keys of a table.
use Rattle.std.specs.Prelude.{ℕ, List, [], ◌∷◌, Option, Some, None, Result, Ok, Err, ok_or, if◌then◌else◌}
use Rattle.std.specs.List.{list_all, list_any}
use Rattle.toml.specs.Data.{Data, Members, no_members, member, get_member}
use Rattle.script_values.specs.declared.places.Column.{Column}
use Rattle.script_values.specs.declared.reasons.FaultyRow.{FaultyRow}
use Rattle.script_values.specs.declared.reasons.Reason.{Reason}
use Rattle.script_values.specs.declared.reasons.Reason.TheVariants.{UnknownKey, Missing}
use Rattle.script_values.specs.Places.{column_text, in_column}
use Rattle.script_values.specs.Reading.{and_then}
use Rattle.script_values.specs.Values.{is_same_text}

-- the keys of a table, in their order
abbrev pub keys_of : Members → List (List ℕ)
keys_of no_members = []
keys_of (member key value rest) = key ∷ keys_of rest

-- success if each key of the table is listed, otherwise `UnknownKey`
abbrev pub only_keys : List (List ℕ) → Members → Result (Unit {0}) Reason
only_keys listed table =
    if list_all (λ key. list_any (is_same_text key) listed) (keys_of table) then Ok tt else Err UnknownKey

-- the meaning of the value at a key; `Missing` if the key is absent
abbrev pub required : {A : Type 0} → List ℕ → (Data → Result A Reason) → Members → Result A Reason
required key read table = and_then (ok_or (get_member key table) Missing) read

-- the meaning of a value if there is one, otherwise the given default
abbrev pub value_or : {A : Type 0} → A → (Data → Result A Reason) → Option Data → Result A Reason
value_or absent read None = Ok absent
value_or absent read (Some value) = read value

-- the meaning of the value at a key, or the given default if the key is absent
abbrev pub optional : {A : Type 0} → List ℕ → A → (Data → Result A Reason) → Members → Result A Reason
optional key absent read table = value_or absent read (get_member key table)

-- the meaning of a value, as one that can be absent
abbrev pub some_of : {A : Type 0} → (Data → Result A Reason) → Data → Result (Option A) Reason
some_of read value = and_then (read value) (λ meaning. Ok (Some meaning))

-- the meaning of the value at a key of a row; `Missing` if the key is absent
abbrev pub cell : {A : Type 0} → Column → (Data → Result A Reason) → Members → Result A FaultyRow
cell column read table = in_column column (required (column_text column) read table)

-- the meaning of the value at a key of a row, or the given default if the key is absent
abbrev pub cell_or : {A : Type 0} → Column → A → (Data → Result A Reason) → Members → Result A FaultyRow
cell_or column absent read table = in_column column (optional (column_text column) absent read table)
