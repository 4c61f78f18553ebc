-- The names of other crates and of this crate's specs that its proofs cite, passed on from one place. Declares nothing.
unfoldable pub use Rattle.bus_objects.specs.BusScoreboard.{mismatch_text, score_of, score_text, score_view}
pub use Rattle.bus_objects.specs.Items.{address_of, data_of, is_write, operation_text}
unfoldable pub use Rattle.bus_objects.specs.Items.{transfer_text}
pub use Rattle.bus_objects.specs.Laws.{AllowsOne, LastWrittenIsFound, ObjectsAreFunctions}
unfoldable pub use Rattle.bus_objects.specs.Memory.{memory_of, memory_view}
unfoldable pub use Rattle.bus_objects.specs.SlowDriver.{item_of, item_view}
pub use Rattle.bus_objects.specs.Words.{Words, integer_of, number_of, word_at}
unfoldable pub use Rattle.bus_objects.specs.Words.{words_of, words_view}
pub use Rattle.bus_objects.specs.declared.bus_scoreboard.Score.{Score}
pub use Rattle.bus_objects.specs.declared.memory.Memory.{Memory}
pub use Rattle.bus_objects.specs.declared.objects.BusObject.TheVariants.{Idle}
pub use Rattle.std.proofs.Common.{Bool, FitsSigned, List, None, Option, Some, [], ap, arith, cond, drop, false, length, length-append, lit≤, map, of_z, refl, rules, suc, sym, take, to_z, true, w64, ℕ, ◌%◌, ◌*◌, ◌++◌, ◌+◌, ◌/◌, ◌<◌, ◌^◌, ◌∙◌, ◌∷◌, ◌≡◌, ◌≤◌}
pub use Rattle.std.proofs.Math.Seq.{drop-append_seam, take-append_seam}
pub use Rattle.std.proofs.lemmas.Bool.Decides.{nat_tests}
pub use Rattle.std.proofs.lemmas.Cmp.{alike_right, int_cmp_total}
pub use Rattle.std.proofs.lemmas.Fmt.{decimal_by_steps, length-decimal-le, length_signed_le}
pub use Rattle.std.proofs.lemmas.Int.{to_z-of_z}
pub use Rattle.std.proofs.lemmas.List.{length-map}
pub use Rattle.std.proofs.lemmas.List.Folds.{list_all-append}
pub use Rattle.std.specs.BTreeMap.{insert_entry, is_at}
pub use Rattle.std.specs.Cmp.{IsTotalOrder}
pub use Rattle.std.specs.Fmt.{decimal, signed_decimal}
pub use Rattle.std.specs.Int.Signed.{mag}
pub use Rattle.std.specs.List.{list_all}
pub use Rattle.std.specs.Map.{lookup}
pub use Rattle.std.specs.Ordering.{int_cmp, is_eq, match_ordering, ordering_reverse}
pub use Rattle.std.specs.Prelude.{codes, if◌then◌else◌, negsuc, pos, unwrap_or, ℤ, ◌&&◌}
pub use Rattle.std.specs.declared.cmp.Ordering.{Ordering}
pub use Rattle.std.specs.declared.cmp.Ordering.TheVariants.{Equal, Greater, Less}
pub use Rattle.uvm_acts.specs.declared.acts.Act.{Act}
pub use Rattle.uvm_object.specs.Objects.{View}
pub use Rattle.uvm_report.specs.Texts.{is_text_byte}
unfoldable pub use Rattle.uvm_report.specs.Texts.{text_fault}
pub use Rattle.uvm_tlm.specs.declared.items.Item.{Item}
