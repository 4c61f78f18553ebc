-- The names of other crates and of this crate's specs that its proofs cite, passed on from one place. Declares nothing.
pub use Rattle.script_answer_acts.specs.ForwardActs.{HasName, forward_act_stem}
pub use Rattle.script_answer_acts.specs.Laws.{ForwardsAreNoActs, LinesTellActs}
pub use Rattle.script_answer_acts.specs.PartLaws.{PartsHaveNoBlanks, has_no_blank}
pub use Rattle.script_answer_acts.specs.Sound.{IsItem, IsName, IsSigned}
pub use Rattle.script_answer_acts.specs.Words.{act_words, keyword, said_words, what_words}
pub use Rattle.script_answer_acts.specs.declared.forward_acts.ForwardAct.{ForwardAct}
pub use Rattle.script_answers.specs.AnswerActs.{IsNoPassing}
pub use Rattle.script_answers.specs.CallLaws.{CallsHaveWords}
pub use Rattle.script_answers.specs.Calls.{BeginsWith, HasNone, NoneBehind, Tells, TellsBehind, TellsExamples, call_words, example_by, example_for, given_or, has_finished, is_named, is_short, keyword_of, last_example, phase_of, words_behind, zeros}
pub use Rattle.script_answers.specs.KeyWords.{Begins, but_star, ends_in_star, first_or, given_left, goes_on, is_star}
pub use Rattle.script_answers.specs.Keys.{CanBeCall, IsNoKey, LacksItem, ends_between_words, fixed, has_whole_words, is_for, is_open, item_in, key_fault}
pub use Rattle.script_answers.specs.Laws.{AnswerActsTell}
pub use Rattle.script_answers.specs.Reading.{CanBeSaid}
pub use Rattle.script_answers.specs.Words.{in_brackets, words_in, words_of}
pub use Rattle.script_answers.specs.declared.answer_acts.AnswerAct.TheVariants.{Passes, Says}
pub use Rattle.script_answers.specs.declared.faults.LineFault.TheVariants.{Memory, NoAct, NoCall}
pub use Rattle.script_answers.specs.declared.faults.LineFault.{LineFault}
pub use Rattle.std.proofs.Common.{Bool, Bor, IsTrue, List, Ok, [], ap, append_assoc, ap₂, arith, bytes_eq, codes, cond, drop, eq-eqb, eqb-true, false, get_or, if◌then◌else◌, inl, inr, length, nat_eq, not, refl, rules, subst, suc, sym, take, true, w64, zero, ℕ, ⊎_elim, ◌++◌, ◌-◌, ◌<◌, ◌==◌, ◌^◌, ◌↔◌, ◌∙◌, ◌∷◌, ◌≡◌, ◌≢◌, ◌⊎◌}
pub use Rattle.std.proofs.lemmas.Bool.Decides.{Decides-eqb}
pub use Rattle.std.proofs.lemmas.Bool.{and_parts, cond-false, cond-true, false≢true, not-true, true≢false}
pub use Rattle.std.proofs.lemmas.Fmt.{decimal_digit, decimal_is_IsNumeral, parse-decimal, parse-signed_decimal}
pub use Rattle.std.proofs.lemmas.Int.{to_z-of_z}
pub use Rattle.std.proofs.lemmas.List.Splits.{join_with_byte-slice_split, length-slice_split, slice_split_first, slice_split_none}
pub use Rattle.std.proofs.lemmas.List.Sums.{fails_before_first}
pub use Rattle.std.proofs.lemmas.List.{append_cancel_right}
pub use Rattle.std.proofs.lemmas.Result.{err_from_is_err_and}
pub use Rattle.std.proofs.lemmas.Slice.Eq.{bytes_eq-Decides, starts_is}
pub use Rattle.std.proofs.lemmas.Str.Parse.{digit_at}
pub use Rattle.std.proofs.lemmas.Str.Pattern.{split_after, strip_prefix_char, strip_suffix_char}
pub use Rattle.std.specs.Fmt.{decimal, signed_decimal}
pub use Rattle.std.specs.List.{join_with_byte, onto_first, position_or_len, starts_with}
pub use Rattle.std.specs.Prelude.{Err, IfErr, IfNone, IfOk, IfSome, MatchBool, MatchOption, MatchResult, None, Option, Result, Some, is_some, negsuc, ok_or, pos, slice_index_or, unwrap_or, ℤ}
pub use Rattle.uvm_acts.specs.declared.acts.Act.{Act}
pub use Rattle.uvm_acts.specs.declared.acts.Call.TheVariants.{Finished}
pub use Rattle.uvm_acts.specs.declared.acts.Call.{Call}
pub use Rattle.uvm_acts.specs.declared.acts.What.{What}
unfoldable pub use Rattle.uvm_glob.specs.Names.{name_fault}
pub use Rattle.uvm_glob.specs.Paths.{path_text}
pub use Rattle.uvm_lines.specs.Lines.{answer_text, call_text, how_text, id_text, item_text, kind_text, mode_text, priority_text, some_item_text, value_text, word_text}
pub use Rattle.uvm_phase.specs.Phases.{phase_name}
pub use Rattle.uvm_phase.specs.declared.phases.Phase.{Phase}
pub use Rattle.uvm_report.specs.Severities.{severity_name}
pub use Rattle.uvm_report.specs.declared.messages.Report.{Report}
pub use Rattle.uvm_report.specs.declared.settings.Which.{Which}
pub use Rattle.uvm_report.specs.declared.severities.Actions.{Actions}
pub use Rattle.uvm_report.specs.declared.severities.Severity.{Severity}
pub use Rattle.uvm_sequencer.specs.declared.drivers.How.{How}
pub use Rattle.uvm_sequencer.specs.declared.modes.Mode.{Mode}
pub use Rattle.uvm_tlm.specs.declared.ends.PortKind.{PortKind}
pub use Rattle.uvm_tlm.specs.declared.items.Item.{Item}
