-- The names of other crates and of this crate's specs that its proofs cite, passed on from one place. Declares nothing.
pub use Rattle.std.proofs.Common.{Bool, IfSome, IsSome, List, None, Option, Some, [], ap, append_assoc, arith, false, if◌then◌else◌, length, length-append, map, refl, reverse, rules, slice_set, subst, suc, sym, true, zero, ℕ, ◌++◌, ◌+◌, ◌<◌, ◌∙◌, ◌∷◌, ◌≡◌, ◌≤◌}
pub use Rattle.std.proofs.Math.Seq.{map-set_same}
pub use Rattle.std.proofs.lemmas.Bool.Decides.{nat_tests}
pub use Rattle.std.proofs.lemmas.Grind.{common_steps}
pub use Rattle.std.proofs.lemmas.List.{length-map, length-reverse, map-append, map-set, reverse-append, reverse-reverse}
pub use Rattle.std.proofs.lemmas.Option.{gets, slice_get-map}
pub use Rattle.std.specs.List.{filter_map, list_any, slice_get, slice_index_or}
pub use Rattle.std.specs.Option.{ForSome, option_and_then, option_copied, option_map, option_map_or, option_to_list}
pub use Rattle.std.specs.Prelude.{◌==◌, ◌||◌}
pub use Rattle.uvm_sequences.specs.Laws.{AncestorsByParents, AncestorsStay, LiveIsStarted, StepsChangeAlone}
pub use Rattle.uvm_sequences.specs.Representation.{place_in, start_of, starts_of, steps_of}
pub use Rattle.uvm_sequences.specs.Sequences.{AreStarted, IsSequences, SequencesValue, Start, ancestors_of, is_under, name_at, numbered, parent_of, with_step}
pub use Rattle.uvm_sequences.specs.declared.starts.SeqStep.{SeqStep}
pub use Rattle.uvm_sequences.specs.declared.starts.Sequence.{Sequence}
