-- The names of other crates and of this crate's specs that its proofs cite, passed on from one place. Declares nothing.
pub use Rattle.std.proofs.Common.{All, Bool, List, [], ap, arith, false, filter, get_or, if◌then◌else◌, is_some, length, not, refl, replicate, rules, set, subst, suc, sym, tests, true, zero, ℕ, ◌++◌, ◌+◌, ◌-◌, ◌<◌, ◌∙◌, ◌∷◌, ◌≡◌, ◌≢◌, ◌≤◌}
pub use Rattle.std.proofs.lemmas.Bool.Decides.{nat_tests}
pub use Rattle.std.proofs.lemmas.Fn.{filter_same}
pub use Rattle.std.proofs.lemmas.Iterator.{YieldsList-from_slice}
pub use Rattle.std.proofs.lemmas.Iterator.Search.{any_from_yields_List}
pub use Rattle.std.proofs.lemmas.List.{append_assoc}
pub use Rattle.std.proofs.lemmas.List.Elements.{All-filter, All-head, All-tail}
pub use Rattle.std.proofs.lemmas.List.Folds.{list_any-append}
pub use Rattle.std.specs.List.{list_any, slice_set}
pub use Rattle.std.specs.Prelude.{remove, ◌&&◌, ◌==◌, ◌||◌}
pub use Rattle.uvm_sequencer_holders.specs.Holding.{HoldersValue, is_blocked, is_held, is_live_at, released}
pub use Rattle.uvm_sequencer_holders.specs.Runs.{Holds, held_by, less_by, locks_of}
pub use Rattle.uvm_sequencer_holders.specs.declared.holders.Held.{Held}
pub use Rattle.uvm_sequences.specs.Sequences.{is_under}
