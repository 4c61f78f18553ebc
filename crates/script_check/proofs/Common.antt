-- The names of other crates and of this crate's specs that its proofs cite, passed on from one place. Declares nothing.
pub use Rattle.script_check.specs.Cells.{Cell, IsRowFault, action_cells, at_column, drain_cells, kinds_wrong, may, must, named_at, override_cells, probe_cells, reason_in, setting_cells, severity_cells, type_cells, verbosity_cells, wrong_if_absent, wrong_if_there, wrongs_of}
pub use Rattle.script_check.specs.Laws.{IsInArray, IsInRow, ErrorsAreInRows, KeysAreJudged, first_items, item_at}
pub use Rattle.script_tables.specs.Drains.{drain_row, drains_in}
pub use Rattle.script_values.specs.Elements.{elements_at, few_elements_at, numbered, row_of, rows_from}
pub use Rattle.script_values.specs.Keys.{cell, cell_or, required, some_of, value_or}
pub use Rattle.script_values.specs.Places.{column_text, in_column, in_row, row_place}
pub use Rattle.script_values.specs.Reading.{and_then}
pub use Rattle.script_tables.specs.ReportTables.{action_row, actions_in, id_in, severities_in, severity_in, severity_row, verbosities_in, verbosity_row, which_in, which_of}
pub use Rattle.script_tables.specs.Tables.{override_row, overrides_in, probe_row, probes_in, same_kinds, setting_row, settings_in, type_id_in, type_row, types_in}
pub use Rattle.script_values.specs.declared.places.Column.{Column}
pub use Rattle.script_values.specs.declared.places.TableArray.{TableArray}
pub use Rattle.script_values.specs.declared.reasons.FaultyRow.{FaultyRow}
pub use Rattle.script_values.specs.declared.reasons.FaultyScript.{FaultyScript}
pub use Rattle.script_values.specs.declared.reasons.Reason.{Reason}
pub use Rattle.script_values.specs.declared.reasons.Reason.TheVariants.{Missing, TooManyRows}
pub use Rattle.std.proofs.Common.{Bool, Err, List, None, Ok, Option, Result, Some, [], ap, arith, false, if◌then◌else◌, inl, inr, length, length-append, nat_le, ok_or, option_map, refl, rules, slice_get, subst, suc, sym, true, zero, ℕ, ◌++◌, ◌+◌, ◌∙◌, ◌∷◌, ◌≡◌, ◌⊎◌}
pub use Rattle.std.specs.List.{cons_option}
pub use Rattle.std.specs.Option.{option_or}
pub use Rattle.toml.specs.Data.{Data, Items, Members, get_member, item, no_items}
pub use Rattle.script_values.specs.Values.{name_in}
pub use Rattle.uvm_config.specs.Answers.{most_settings}
pub use Rattle.uvm_factory.specs.Faults.{Types, most_types}
pub use Rattle.uvm_report.specs.declared.severities.Severity.{Severity}
pub use Rattle.uvm_report.specs.declared.settings.Which.{Which}
