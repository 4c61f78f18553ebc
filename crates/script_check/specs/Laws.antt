-- Laws of the errors of arrays of tables: each is at its place.
use Rattle.std.specs.Prelude.{◌≡◌, ◌⊎◌, ℕ, zero, suc, List, [], map, Option, Some, None, Result, Ok, Err}
use Rattle.uvm_config.specs.Answers.{most_settings}
use Rattle.toml.specs.Data.{Data, Items, no_items, item, Members}
use Rattle.uvm_factory.specs.Faults.{Types, most_types}
use Rattle.script_values.specs.declared.places.TableArray.{TableArray}
use Rattle.script_values.specs.declared.places.TableArray.TheVariants as array
use Rattle.script_values.specs.declared.reasons.FaultyRow.{FaultyRow}
use Rattle.script_values.specs.declared.reasons.FaultyScript.{FaultyScript}
use Rattle.script_tables.specs.Drains.{drain_row, drains_in}
use Rattle.script_values.specs.Elements.{elements_at, few_elements_at, numbered, rows_from}
use Rattle.script_values.specs.Places.{columns_of, row_place}
use Rattle.script_tables.specs.ReportTables.{action_row, actions_in, severities_in, severity_row, verbosities_in, verbosity_row}
use Rattle.script_tables.specs.Tables.{override_row, overrides_in, probe_row, probes_in, setting_row, settings_in, type_row, types_in}
use Rattle.script_check.specs.Cells.{Cell, IsRowFault, action_cells, drain_cells, override_cells, probe_cells, setting_cells, severity_cells, type_cells, verbosity_cells}

-- the first elements of an array
abbrev pub first_items : ℕ → Items → Items
first_items zero elements = no_items
first_items (suc count) no_items = no_items
first_items (suc count) (item element rest) = item element (first_items count rest)

-- the element of an array at a place, counted from 0
abbrev pub item_at : ℕ → Items → Option Data
item_at place no_items = None
item_at zero (item element rest) = Some element
item_at (suc place) (item element rest) = item_at place rest

-- An error of the rows of an array: it is in the row at its place. The rows before that row are read, and of its keys the one at fault is the
-- first that is wrong, judged alone.
pub record IsInRow {Row : Type 0} (array : TableArray) (read : List Row → Data → Result Row FaultyRow) (cells : List Row → List Cell) (elements : Items) (faulty : FaultyScript) : Type 0 where
  pub row : ℕ
  pub before : List Row
  pub element : Data
  pub why : FaultyRow
  pub reads : rows_from (numbered array read) [] (first_items row elements) ≡ Ok before
  pub there : item_at row elements ≡ Some element
  pub fails : IsRowFault array (cells before) element why
  pub is : faulty ≡ record { reason = why.reason; place = row_place array row why.column }

-- an error of an array is that of its elements as a whole, or is in a row of them
abbrev pub IsInArray : {Row : Type 0} → (Members → Result Items FaultyScript) → TableArray → (List Row → Data → Result Row FaultyRow) → (List Row → List Cell) → Members → FaultyScript → Type 0
IsInArray whole array read cells root faulty = (whole root ≡ Err faulty) ⊎ ((elements : Items) × (whole root ≡ Ok elements) × IsInRow array read cells elements faulty)

-- the keys that are judged are those that a row of the array can have, in their order
abbrev pub JudgesKeys : TableArray → List Cell → Type 0
JudgesKeys array cells = map (λ cell. cell.column) cells ≡ columns_of array

-- the keys of a row of each array are judged
pub record KeysAreJudged : Type 0 where
  pub types : (types : Types) → JudgesKeys array.Type (type_cells types)
  pub overrides : (types : Types) → JudgesKeys array.Override (override_cells types)
  pub settings : JudgesKeys array.Set setting_cells
  pub verbosities : JudgesKeys array.Verbosity verbosity_cells
  pub actions : JudgesKeys array.Action action_cells
  pub severities : JudgesKeys array.Severity severity_cells
  pub probes : (types : Types) → JudgesKeys array.Probe (probe_cells types)
  pub drains : JudgesKeys array.Drain drain_cells

-- Each error of an array of tables is at its place. What a row names is looked up in the types of the script; a new type, in those before it.
pub record ErrorsAreInRows : Type 0 where
  pub types : (root : Members) (faulty : FaultyScript) → types_in root ≡ Err faulty
      → IsInArray (few_elements_at most_types array.Type) array.Type type_row type_cells root faulty
  pub overrides : (types : Types) (root : Members) (faulty : FaultyScript) → overrides_in types root ≡ Err faulty
      → IsInArray (elements_at array.Override) array.Override (λ _. override_row types) (λ _. override_cells types) root faulty
  pub settings : (root : Members) (faulty : FaultyScript) → settings_in root ≡ Err faulty
      → IsInArray (few_elements_at most_settings array.Set) array.Set (λ _. setting_row) (λ _. setting_cells) root faulty
  pub verbosities : (root : Members) (faulty : FaultyScript) → verbosities_in root ≡ Err faulty
      → IsInArray (elements_at array.Verbosity) array.Verbosity (λ _. verbosity_row) (λ _. verbosity_cells) root faulty
  pub actions : (root : Members) (faulty : FaultyScript) → actions_in root ≡ Err faulty
      → IsInArray (elements_at array.Action) array.Action (λ _. action_row) (λ _. action_cells) root faulty
  pub severities : (root : Members) (faulty : FaultyScript) → severities_in root ≡ Err faulty
      → IsInArray (elements_at array.Severity) array.Severity (λ _. severity_row) (λ _. severity_cells) root faulty
  pub probes : (types : Types) (root : Members) (faulty : FaultyScript) → probes_in types root ≡ Err faulty
      → IsInArray (elements_at array.Probe) array.Probe (λ _. probe_row types) (λ _. probe_cells types) root faulty
  pub drains : (root : Members) (faulty : FaultyScript) → drains_in root ≡ Err faulty
      → IsInArray (elements_at array.Drain) array.Drain (λ _. drain_row) (λ _. drain_cells) root faulty
