-- The names of other crates and of this crate's specs that its proofs cite, passed on from one place. Declares nothing.
pub use Rattle.script_answer_acts.specs.ForwardActs.{HasName, forward_act_stem, forwarded}
pub use Rattle.script_answer_acts.specs.Laws.{ForwardsAreNoActs, ForwardsReadSo, LinesTellActs}
pub use Rattle.script_answer_acts.specs.Lines.{act_line, said_text}
pub use Rattle.script_answer_acts.specs.Sound.{HasPlainId, IsGlob, IsItem, IsName, IsNumber, IsPath, IsSigned, IsSound, IsWhat, IsWhich}
pub use Rattle.script_answer_acts.specs.Words.{act_words, keyword, later_words, replace_words, said_words, what_words, which_words}
pub use Rattle.script_answer_acts.specs.declared.forward_acts.ForwardAct.{ForwardAct}
pub use Rattle.std.proofs.Common.{Bool, List, [], ap, append-nil, append_assoc, arith, codes, drop, false, get_or, if◌then◌else◌, inl, inr, length, map, not, pred, refl, suc, sym, true, ℕ, ◌&&◌, ◌++◌, ◌<◌, ◌==◌, ◌^◌, ◌∙◌, ◌∷◌, ◌≡◌, ◌≢◌}
pub use Rattle.std.proofs.Math.Dec.{eqb-suc-zero}
pub use Rattle.std.proofs.lemmas.Bool.{and_from, and_parts, cases_Bool, eq-eqb, eqb-true, false_from_ne_true, false≢true, not-false, not-true, not_from_false}
pub use Rattle.std.proofs.lemmas.Fmt.{decimal_is_IsNumeral, digits_decimal}
pub use Rattle.std.proofs.lemmas.List.{append_cancel_left}
pub use Rattle.std.proofs.lemmas.List.Folds.{list_all-append}
pub use Rattle.std.proofs.lemmas.List.Splits.{join_with_byte-slice_split}
pub use Rattle.std.proofs.lemmas.Str.Parse.{numerals_by_value, tells_all_ascii_digits}
pub use Rattle.std.specs.Char.{is_ascii_digit}
pub use Rattle.std.specs.Cmp.Lexicographic.{pointwise, same_text}
pub use Rattle.std.specs.Fmt.{decimal, signed_decimal}
pub use Rattle.std.specs.List.{All, join_with_byte, list_all, list_any, slice_split}
pub use Rattle.std.specs.Prelude.{IfSome, None, Option, Some, nat_eq, nat_lt, negsuc, pos, ℤ, ◌||◌}
pub use Rattle.std.specs.Str.{all_ascii_digits}
pub use Rattle.std.specs.Str.Parse.{digits_value}
pub use Rattle.uvm_acts.specs.declared.acts.Act.{Act}
pub use Rattle.uvm_acts.specs.declared.acts.What.{What}
pub use Rattle.uvm_glob.specs.Faults.{fault_if}
pub use Rattle.uvm_glob.specs.Globs.{is_glob_byte}
pub use Rattle.uvm_glob.specs.Limits.{most_name_bytes, most_names, most_text_bytes}
pub use Rattle.uvm_glob.specs.Lists.{first_given}
pub use Rattle.uvm_glob.specs.Names.{is_name_byte}
unfoldable pub use Rattle.uvm_glob.specs.Names.{name_fault}
pub use Rattle.uvm_glob.specs.Paths.{names_of, path_text}
unfoldable pub use Rattle.uvm_glob.specs.Paths.{path_fault}
pub use Rattle.uvm_glob.specs.declared.faults.PathFault.TheVariants.{BadByte, Empty, TooDeep, TooLong}
pub use Rattle.uvm_lines.specs.Lines.{act_text, actions_text, how_text, id_text, item_text, kind_text, mode_text, priority_text, some_item_text, what_text, which_text}
pub use Rattle.uvm_report.specs.Severities.{severity_name}
pub use Rattle.uvm_report.specs.declared.messages.Report.{Report}
pub use Rattle.uvm_report.specs.declared.settings.Which.{Which}
pub use Rattle.uvm_report.specs.declared.severities.Actions.{Actions}
pub use Rattle.uvm_report.specs.declared.severities.Severity.{Severity}
pub use Rattle.uvm_sequencer.specs.declared.drivers.How.{How}
pub use Rattle.uvm_sequencer.specs.declared.modes.Mode.{Mode}
pub use Rattle.uvm_tlm.specs.declared.ends.PortKind.{PortKind}
pub use Rattle.uvm_tlm.specs.declared.items.Item.{Item}
