-- The keys of rows, each judged alone.
use Rattle.std.specs.Prelude.{◌≡◌, ◌⊎◌, ℕ, List, [], ◌∷◌, Option, Some, None, option_map, slice_get, Result, Ok, Err}
use Rattle.std.specs.List.{filter_map}
use Rattle.std.specs.Option.{option_or}
use Rattle.toml.specs.Data.{Data, Members, get_member}
use Rattle.uvm_factory.specs.Faults.{Types}
use Rattle.script_values.specs.declared.places.Column.{Column}
use Rattle.script_values.specs.declared.places.Column.TheVariants as column
use Rattle.script_values.specs.declared.places.TableArray.{TableArray}
use Rattle.script_values.specs.declared.reasons.FaultyRow.{FaultyRow}
use Rattle.script_values.specs.declared.reasons.Reason.{Reason}
use Rattle.script_values.specs.declared.reasons.Reason.TheVariants.{Missing}
use Rattle.script_tables.specs.Drains.{most_drain, task_in}
use Rattle.script_values.specs.Elements.{row_of}
use Rattle.script_values.specs.Keys.{required}
use Rattle.script_values.specs.Places.{column_text}
use Rattle.script_tables.specs.ReportTables.{action_set_in, severity_in}
use Rattle.script_tables.specs.Rows.{most_level}
use Rattle.script_tables.specs.Tables.{new_name_in, same_kinds, type_id_in}
use Rattle.script_values.specs.Values.{flag_in, glob_in, integer_in, kind_in, name_in, number_in, path_in}

-- a key of a row, and what is wrong with its value in a row, if anything is
pub record Cell : Type 0 where
  pub column : Column
  pub wrong : Members → Option Reason

-- the reason of an error, if there is one
abbrev pub reason_in : {A : Type 0} → Result A Reason → Option Reason
reason_in (Ok meaning) = None
reason_in (Err reason) = Some reason

-- what is wrong with a value that has to be there
abbrev pub wrong_if_absent : {A : Type 0} → (Data → Result A Reason) → Option Data → Option Reason
wrong_if_absent read None = Some Missing
wrong_if_absent read (Some value) = reason_in (read value)

-- what is wrong with a value that can be absent
abbrev pub wrong_if_there : {A : Type 0} → (Data → Result A Reason) → Option Data → Option Reason
wrong_if_there read None = None
wrong_if_there read (Some value) = reason_in (read value)

-- a key that has to be there
abbrev pub must : {A : Type 0} → Column → (Data → Result A Reason) → Cell
must column read = record { column = column; wrong = λ table. wrong_if_absent read (get_member (column_text column) table) }

-- a key that can be absent
abbrev pub may : {A : Type 0} → Column → (Data → Result A Reason) → Cell
may column read = record { column = column; wrong = λ table. wrong_if_there read (get_member (column_text column) table) }

-- what is wrong with the kinds of the two types of an override; nothing unless both of its keys name a type
abbrev pub kinds_wrong : Types → Result ℕ Reason → Result ℕ Reason → Option Reason
kinds_wrong types (Ok original) (Ok new) = reason_in (same_kinds types original new)
kinds_wrong types original new = None

-- the type that a key of an override names
abbrev pub named_at : Types → Column → Members → Result ℕ Reason
named_at types column table = required (column_text column) (type_id_in types) table

-- the key `new` of an override: its type, then the kinds of both types
abbrev pub new_cell : Types → Cell
new_cell types = record {
  column = column.New;
  wrong = λ table. option_or (wrong_if_absent (type_id_in types) (get_member (column_text column.New) table))
      (kinds_wrong types (named_at types column.Orig table) (named_at types column.New table));
}

-- the keys of a row of each array, in the order in which they are judged
abbrev pub type_cells : Types → List Cell
type_cells types = must column.Name (new_name_in types) ∷ must column.Kind kind_in ∷ []

abbrev pub override_cells : Types → List Cell
override_cells types = must column.Orig (type_id_in types) ∷ new_cell types ∷ may column.At glob_in ∷ may column.Replace flag_in ∷ []

abbrev pub setting_cells : List Cell
setting_cells = must column.Scope glob_in ∷ must column.Field name_in ∷ must column.Value integer_in ∷ []

abbrev pub verbosity_cells : List Cell
verbosity_cells = must column.Scope glob_in ∷ may column.Id name_in ∷ may column.Severity severity_in ∷ must column.Level (number_in most_level) ∷ []

abbrev pub action_cells : List Cell
action_cells = must column.Scope glob_in ∷ may column.Id name_in ∷ may column.Severity severity_in ∷ must column.Actions action_set_in ∷ []

abbrev pub severity_cells : List Cell
severity_cells = must column.Scope glob_in ∷ must column.From severity_in ∷ may column.Id name_in ∷ must column.To severity_in ∷ []

abbrev pub probe_cells : Types → List Cell
probe_cells types = must column.Type (type_id_in types) ∷ must column.Path path_in ∷ []

abbrev pub drain_cells : List Cell
drain_cells = must column.Path path_in ∷ must column.Phase task_in ∷ must column.Ticks (number_in most_drain) ∷ []

-- an error at a key of a row
abbrev pub at_column : Column → Reason → FaultyRow
at_column column reason = record { reason = reason; column = Some column }

-- the errors of the keys of a row, in the order of the keys
abbrev pub wrongs_of : List Cell → Members → List FaultyRow
wrongs_of cells table = filter_map (λ cell. option_map (at_column cell.column) (cell.wrong table)) cells

-- the error of a row: that of the row as a whole, otherwise the first of its keys
abbrev pub IsRowFault : TableArray → List Cell → Data → FaultyRow → Type 0
IsRowFault array cells element why =
    (row_of array element ≡ Err why) ⊎ ((table : Members) × (row_of array element ≡ Ok table) × (slice_get (wrongs_of cells table) 0 ≡ Some why))
