-- The names of other crates and of this crate's specs that its proofs cite, passed on from one place. Declares nothing.
pub use Rattle.script_values.specs.Elements.{count_of}
pub use Rattle.script_values.specs.Keys.{keys_of}
pub use Rattle.script_values.specs.Places.{column_text}
pub use Rattle.script_values.specs.Values.{is_same_text}
pub use Rattle.script_values.specs.declared.places.Column.{Column}
pub use Rattle.std.proofs.Common.{Bor, Global, List, String, [], ap, false, length, map, nat_le, refl, string_bytes, suc, sym, true, ℕ, ◌++◌, ◌<◌, ◌||◌, ◌∙◌, ◌∷◌, ◌≡◌, ◌≤◌}
pub use Rattle.std.proofs.lemmas.Bool.{le-leb, lt-leb}
pub use Rattle.std.proofs.lemmas.List.Folds.{list_any-append}
pub use Rattle.std.specs.List.{list_all, list_any}
pub use Rattle.toml.proofs.Views.{table_get}
pub use Rattle.toml.specs.View.{items_view, members_view}
pub use Rattle.toml.specs.declared.value.Value.{Value}
