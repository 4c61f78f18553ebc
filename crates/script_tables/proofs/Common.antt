-- The names of other crates and of this crate's specs that its proofs cite, passed on from one place. Declares nothing.
pub use Rattle.indexmap.proofs.CallerLemmas.{insert_entry-new}
pub use Rattle.script_tables.specs.Drains.{CanDrain, drain_row, drains_in}
pub use Rattle.script_values.specs.Elements.{count_of, numbered, rows_from}
pub use Rattle.script_values.specs.Keys.{keys_of}
pub use Rattle.script_values.specs.Reading.{IsRow, IsValue, and_then}
pub use Rattle.script_tables.specs.ReportTables.{action_row, action_set_in, action_words, actions_in, first_other, is_one_of, severities_in, severity_row, text_after, texts_in, verbosities_in, verbosity_row}
pub use Rattle.script_tables.specs.Rows.{CanOverride, CanProbe, CanRegister, HasLevelInRange}
pub use Rattle.script_tables.specs.Tables.{override_row, overrides_in, probe_row, probes_in, setting_row, settings_in, type_row, types_in}
pub use Rattle.script_values.specs.Values.{is_same_text, text_in}
pub use Rattle.script_values.specs.Places.{column_text, in_column, in_row}
pub use Rattle.script_values.specs.declared.places.Column.{Column}
pub use Rattle.script_values.specs.declared.places.TableArray.{TableArray}
pub use Rattle.script_values.specs.declared.reasons.FaultyRow.{FaultyRow}
pub use Rattle.script_values.specs.declared.reasons.FaultyScript.{FaultyScript}
pub use Rattle.script_values.specs.declared.reasons.Reason.TheVariants.{Missing}
pub use Rattle.script_values.specs.declared.reasons.Reason.{Reason}
pub use Rattle.std.proofs.Common.{All, Bool, Bor, Err, Global, IfErr, IfOk, List, None, Ok, OnOk, Option, Result, Some, String, [], add-one, ap, arith, cond, drop, false, if◌then◌else◌, is_some, length, length-append, map, nat_eq, nat_le, nat_lt, not, ok_or, refl, slice_get, string_bytes, subst, suc, sym, take, true, zero, ℕ, ◌++◌, ◌+◌, ◌<◌, ◌||◌, ◌∙◌, ◌∷◌, ◌≡◌, ◌≤◌}
pub use Rattle.std.proofs.Math.Seq.{drop-cons}
pub use Rattle.std.proofs.lemmas.Bool.{le-leb, leb-false, lt-leb, ltb-false}
pub use Rattle.std.proofs.lemmas.List.{append-nil, append_assoc, length-map}
pub use Rattle.std.proofs.lemmas.List.Elements.{All-push}
pub use Rattle.std.proofs.lemmas.List.Folds.{list_all-map, list_any-append}
pub use Rattle.std.proofs.lemmas.List.Quantifiers.{position-Some}
pub use Rattle.std.specs.Cmp.Lexicographic.{pointwise}
pub use Rattle.std.specs.List.{list_all, list_any, position, position_or_len, slice_index_or}
pub use Rattle.std.specs.Map.{lookup}
pub use Rattle.std.specs.declared.hash.BuildHasherDefault.{BuildHasherDefault}
pub use Rattle.std.specs.declared.hash.FoldHasher.{FoldHasher}
pub use Rattle.toml.proofs.Views.{table_get}
pub use Rattle.toml.specs.Data.{Data}
pub use Rattle.toml.specs.View.{items_view, members_view, table_view, view}
pub use Rattle.toml.specs.declared.value.Value.{Value}
pub use Rattle.uvm_config.specs.Answers.{most_settings}
pub use Rattle.uvm_factory.specs.Faults.{Types, most_types, register_fault, type_named}
pub use Rattle.uvm_factory.specs.declared.faults.FactoryFault.TheVariants.{Full, Known}
pub use Rattle.uvm_factory.specs.declared.types.Kind.{Kind}
