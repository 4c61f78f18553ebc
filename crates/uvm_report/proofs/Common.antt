-- The names of other crates and of this crate's specs that its proofs cite, passed on from one place. Declares nothing.
pub use Rattle.indexmap.specs.IndexMap.{index_before, insert_entry, move_index}
pub use Rattle.std.proofs.Common.{All, Bool, IfSome, IsTrue, List, MatchOption, None, Option, Some, [], add-one, add-zero, ap, append_assoc, arith, codes, false, filter, fold, get_or, if◌then◌else◌, inl, inr, insert, length, map, nat_eq, nat_le, nat_lt, not, option_map, refl, remove, reverse, rules, slice_get, subst, suc, sum_by, sym, take, true, unwrap_or, ℕ, ◌&&◌, ◌++◌, ◌+◌, ◌<◌, ◌==◌, ◌^◌, ◌||◌, ◌∙◌, ◌∷◌, ◌≡◌, ◌≤◌, ◌⊎◌}
pub use Rattle.std.proofs.Math.Bool.{or-true}
pub use Rattle.std.proofs.lemmas.Bool.Decides.{nat_tests}
pub use Rattle.std.proofs.lemmas.Bool.{and_from, and_parts, cases_Bool, eq-eqb, eqb-true, false≢true, leb-false, leb-true, not-false, or_parts}
pub use Rattle.std.proofs.lemmas.Grind.{common_steps, flat_map-append}
pub use Rattle.std.proofs.lemmas.List.Edits.{insert_end}
pub use Rattle.std.proofs.lemmas.List.Elements.{All-append, All-cons, All-head, All-nil, All-tail}
pub use Rattle.std.proofs.lemmas.List.Folds.{list_all-append, list_any-append}
pub use Rattle.std.proofs.lemmas.List.Sums.{sum_by-cons}
pub use Rattle.std.proofs.lemmas.List.{append-nil, flat_map_more, length-map, length-take, map-append, reverse-append, take_all, take_more}
pub use Rattle.std.specs.Cmp.Lexicographic.{bytes_decides, pointwise}
pub use Rattle.std.specs.Fmt.{decimal}
pub use Rattle.std.specs.List.{filter_map, flat_map, list_all, list_any, position_or_len}
pub use Rattle.std.specs.Map.{keys_of, lookup, remove_entry}
pub use Rattle.std.specs.Option.{option_map_or}
pub use Rattle.uvm_glob.specs.Lists.{first_given, newest}
pub use Rattle.uvm_glob.specs.Paths.{path_text}
pub use Rattle.uvm_glob.specs.Printed.{IsPrinted, is_printed_byte}
pub use Rattle.uvm_report.specs.Changes.{ReportsAgree, actions_after, counts_after, level_after, limit_after, ruling_at, severity_after}
pub use Rattle.uvm_report.specs.ChosenValue.{ChosenValue, class_number, class_of, gives_way}
unfoldable pub use Rattle.uvm_report.specs.ChosenValue.{after_setting}
pub use Rattle.uvm_report.specs.Commands.{Command, Issue, IssuedReport, SetAction, SetQuitLimit, SetSeverity, SetVerbosity, actions_in, chosen, counts_in, distinct_ids, given_ruling, id_counts, is_issue, issued_reports, level_in, quit_count, quit_limit, severity_count, severity_in, which_from}
unfoldable pub use Rattle.uvm_report.specs.Commands.{quit_total, report_counts}
pub use Rattle.uvm_report.specs.Counts.{Agree, Counts, issued_number, no_counts, number_of, with_id}
unfoldable pub use Rattle.uvm_report.specs.Counts.{with_report}
pub use Rattle.uvm_report.specs.Fates.{Ruling, effective_verbosity, is_issued, is_reached, ruling_by}
unfoldable pub use Rattle.uvm_report.specs.Fates.{counts_with, fate_of}
pub use Rattle.uvm_report.specs.Laws.{CommandsAreCounted, CommandsAreGiven, FatesAreGiven, NewGivesNothing, ReachedLimitEndsRuns}
unfoldable pub use Rattle.uvm_report.specs.Lines.{id_line, limit_line, report_line, severity_line, summary_text}
pub use Rattle.uvm_report.specs.Lines.{line, severities}
pub use Rattle.uvm_report.specs.Observed.{Representation}
pub use Rattle.uvm_report.specs.Plain.{ArePlainLines, IsPlainLine, begins_plain, plain-append, plain-none, plain-one}
pub use Rattle.uvm_report.specs.ReportScopes.{setting_of}
pub use Rattle.uvm_report.specs.Settings.{ChoicePrevails, IsBefore, IsNotAfter, NoChoiceWhereNoneApplies, Prevails, Setting, applies, choice_of, classes, is_of, last_of_first_class, settings_for}
unfoldable pub use Rattle.uvm_report.specs.Settings.{choice_among}
pub use Rattle.uvm_report.specs.Severities.{is_empty, severity_text}
pub use Rattle.uvm_report.specs.Texts.{byte_shown, is_text, is_text_byte, lossy}
unfoldable pub use Rattle.uvm_report.specs.Texts.{text_fault}
pub use Rattle.uvm_report.specs.declared.faults.TextFault.TheVariants.{BadByte, TooLong}
pub use Rattle.uvm_report.specs.declared.messages.Fate.TheVariants.{Dropped, Issued, Silent}
pub use Rattle.uvm_report.specs.declared.messages.Report.{Report}
pub use Rattle.uvm_report.specs.declared.settings.Class.{Class}
pub use Rattle.uvm_report.specs.declared.settings.ReportScope.{ReportScope}
pub use Rattle.uvm_report.specs.declared.settings.Which.{Which}
pub use Rattle.uvm_report.specs.declared.severities.Severity.TheVariants.{Error, Fatal, Info, Warning}
pub use Rattle.uvm_report.specs.declared.severities.Severity.{Severity}
