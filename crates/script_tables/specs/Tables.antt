-- The arrays of tables of a script.
use Rattle.std.specs.Prelude.{ℕ, Bool, true, List, [], Option, Some, None, Result, Ok, Err, ok_or, is_some, is_none, if◌then◌else◌}
use Rattle.toml.specs.Data.{Data, Members}
use Rattle.uvm_factory.specs.declared.types.Kind.{Kind}
use Rattle.uvm_factory.specs.declared.overrides.Override.{Override}
use Rattle.uvm_factory.specs.declared.overrides.Override.TheVariants.{Instance, Whole}
use Rattle.uvm_factory.specs.Faults.{Types, most_types, type_named, override_fault}
use Rattle.uvm_config.specs.Answers.{most_settings}
use Rattle.script_tables.specs.declared.rows.Probe.{Probe}
use Rattle.script_tables.specs.declared.rows.Setting.{Setting}
use Rattle.script_values.specs.declared.places.Column.TheVariants as column
use Rattle.script_values.specs.declared.places.TableArray.TheVariants as array
use Rattle.script_values.specs.declared.reasons.FaultyRow.{FaultyRow}
use Rattle.script_values.specs.declared.reasons.FaultyScript.{FaultyScript}
use Rattle.script_values.specs.declared.reasons.Reason.{Reason}
use Rattle.script_values.specs.declared.reasons.Reason.TheVariants.{KindsDiffer, NameTaken, UnknownType}
use Rattle.script_values.specs.Reading.{and_then}
use Rattle.script_values.specs.Values.{integer_in, flag_in, name_in, glob_in, path_in, kind_in}
use Rattle.script_values.specs.Places.{in_column}
use Rattle.script_values.specs.Keys.{cell, cell_or, some_of}
use Rattle.script_values.specs.Elements.{rows_from, elements_at, few_elements_at, numbered, row_of}

-- the name of one more type; `NameTaken` if a type has this name
abbrev pub new_name_in : Types → Data → Result (List ℕ) Reason
new_name_in types value = and_then (name_in value) (λ name. if is_some (type_named types name) then Err NameTaken else Ok name)

-- the place of the type that a value names; `UnknownType` if no type has this name
abbrev pub type_id_in : Types → Data → Result ℕ Reason
type_id_in types value = and_then (name_in value) (λ name. ok_or (type_named types name) UnknownType)

-- the name and the kind of the type that an element of the array `type` gives
abbrev pub type_row : Types → Data → Result (List ℕ × Kind) FaultyRow
type_row types element =
    and_then (row_of array.Type element) (λ table.
    and_then (cell column.Name (new_name_in types) table) (λ name.
    and_then (cell column.Kind kind_in table) (λ kind.
    Ok (name, kind))))

-- success if both types are registered and are of the same kind, otherwise `KindsDiffer`
abbrev pub same_kinds : Types → ℕ → ℕ → Result (Unit {0}) Reason
same_kinds types original new = if is_none (override_fault types original new) then Ok tt else Err KindsDiffer

-- the override with these parts: an instance override if it has a glob, otherwise a type override
abbrev pub override_of : ℕ → ℕ → Option (List ℕ) → Bool → Override
override_of original new None replace = Whole original new replace
override_of original new (Some scope) replace = Instance original new scope

-- the override that an element of the array `override` gives
abbrev pub override_row : Types → Data → Result Override FaultyRow
override_row types element =
    and_then (row_of array.Override element) (λ table.
    and_then (cell column.Orig (type_id_in types) table) (λ original.
    and_then (cell column.New (type_id_in types) table) (λ new.
    and_then (in_column column.New (same_kinds types original new)) (λ _.
    and_then (cell_or column.At None (some_of glob_in) table) (λ scope.
    and_then (cell_or column.Replace true flag_in table) (λ replace.
    Ok (override_of original new scope replace)))))))

-- the setting of a field that an element of the array `set` gives
abbrev pub setting_row : Data → Result Setting FaultyRow
setting_row element =
    and_then (row_of array.Set element) (λ table.
    and_then (cell column.Scope glob_in table) (λ scope.
    and_then (cell column.Field name_in table) (λ field.
    and_then (cell column.Value integer_in table) (λ value.
    Ok (record { scope = scope; field = field; value = value })))))

-- the probe that an element of the array `probe` gives
abbrev pub probe_row : Types → Data → Result Probe FaultyRow
probe_row types element =
    and_then (row_of array.Probe element) (λ table.
    and_then (cell column.Type (type_id_in types) table) (λ type_id.
    and_then (cell column.Path path_in table) (λ path.
    Ok (record { type_id = type_id; path = path }))))

-- the types that a script gives in the array `type`
abbrev pub types_in : Members → Result Types FaultyScript
types_in root = and_then (few_elements_at most_types array.Type root) (rows_from (numbered array.Type type_row) [])

-- the overrides that a script gives in the array `override`
abbrev pub overrides_in : Types → Members → Result (List Override) FaultyScript
overrides_in types root = and_then (elements_at array.Override root) (rows_from (numbered array.Override (λ _. override_row types)) [])

-- the settings of fields that a script gives in the array `set`
abbrev pub settings_in : Members → Result (List Setting) FaultyScript
settings_in root = and_then (few_elements_at most_settings array.Set root) (rows_from (numbered array.Set (λ _. setting_row)) [])

-- the probes that a script gives in the array `probe`
abbrev pub probes_in : Types → Members → Result (List Probe) FaultyScript
probes_in types root = and_then (elements_at array.Probe root) (rows_from (numbered array.Probe (λ _. probe_row types)) [])
