-- The names of other crates and of this crate's specs that its proofs cite, passed on from one place. Declares nothing.
pub use Rattle.bus_jobs.specs.Commands.{Asked, AsksBy, AsksFor, AsksForHelp, AsksForVersion, HasFile, NamesJob, bus_bench_app, debug, debug_app, has_bad_name, is_bad_test, is_flag, job_named, named_job, run, run_app, run_in, seed_parser, seed_rule, trace_rule, words_of}
pub use Rattle.bus_jobs.specs.Faults.{IsFaultBy, IsHelp, IsJobFaultOf, IsVersion}
pub use Rattle.bus_jobs.specs.declared.jobs.Job.{Job}
pub use Rattle.bus_jobs.specs.declared.jobs.JobFault.TheVariants.{BadName, Help, Memory, Refused, Version}
pub use Rattle.bus_jobs.specs.declared.jobs.JobFault.{JobFault}
unfoldable pub use Rattle.clap.proofs.OnLiterals.{clap_on_literals}
pub use Rattle.clap.proofs.ValueTestLemmas.{accepts-Accepts}
pub use Rattle.clap.proofs.WalkLemmas.{both, first_value-rows, one_text-rows}
pub use Rattle.clap.specs.Facts.{explicit_source, parser_of_value}
pub use Rattle.clap.specs.Faults.{action_fault, bundle_fault, bundle_step_fault, check_fault, defaults_fault, entered_fault, flag_word_fault, level_fault, long_fault, option_fault, other_fault, positional_fault, react_fault, settle_fault, short_fault, step_fault, stray_fault, turn_fault, use_fault, values_fault, word_fault}
unfoldable pub use Rattle.clap.specs.Faults.{flags_fault, walk_fault}
pub use Rattle.clap.specs.Kinds.{Kinds, check_kinds, or_else, range_kinds}
pub use Rattle.clap.specs.Lexer.{long_of, short_of}
pub use Rattle.clap.specs.Matches.{ReadsOne, first_value, subcommand_name_of}
pub use Rattle.clap.specs.Simple.{App, HasMatchesOf, Shape, argument_words, built, built_leaf, entered, filled, inherited, is_simple, names_of, subcommand_of}
pub use Rattle.clap.specs.Takes.{is_given, value_passes, values_pass}
pub use Rattle.clap.specs.Values.{Accepts, read_as}
pub use Rattle.clap.specs.Walk.{Held, Names, Outcome, Row, Rule, Step, Text, Waiting, Walk, action_of, after_flag, after_step, answers_to, arg_by_id, arg_by_index, arg_by_long, arg_by_short, at_row, attached_value, bundle_step, default_rows, done, finished, first_of, flag_met, has_row, idle, is_pending, long_met, long_or_other, more_values, most_values, next, nothing_held, one_of, option, option_met, option_word, plain_word, positional_held, pushed, reacted, reading_by, row_text, rows_after, settled, settled_rows, short_met, short_or_plain, stop_after, stronger, subcommand, subcommand_met, subcommand_or_other, takes_several, takes_values, to_positional, trailing, used, used_as, used_by_id, value, waits, walk, walk_from, walked_from, with_default, with_values, without, word_met}
unfoldable pub use Rattle.clap.specs.Walk.{bundle_met, walked}
pub use Rattle.clap.specs.Words.{HasKind, fault_of, found_of, is_simple_and_free, kind_of, rows_of, subcommand_rows_of, takes}
pub use Rattle.clap.specs.declared.builder.action.ArgAction.TheVariants.{Append, Count, Set, SetFalse, SetTrue}
pub use Rattle.clap.specs.declared.builder.action.ArgAction.{ArgAction}
pub use Rattle.clap.specs.declared.builder.value_parser.Reading.TheVariants.{AsWritten}
pub use Rattle.clap.specs.declared.builder.value_parser.Reading.{Reading}
pub use Rattle.clap.specs.declared.error.Error.{Error}
pub use Rattle.clap.specs.declared.error.kind.ErrorKind.TheVariants.{DisplayHelp, DisplayVersion, OutOfMemory}
pub use Rattle.clap.specs.declared.error.kind.ErrorKind.{ErrorKind}
pub use Rattle.clap.specs.declared.parser.matches.ArgMatches.TheViews.{out-ArgMatches}
pub use Rattle.clap.specs.declared.parser.matches.ArgMatches.{ArgMatches}
pub use Rattle.clap.specs.declared.parser.matches.Found.{Found}
pub use Rattle.clap.specs.declared.parser.matches.ValueSource.TheVariants.{CommandLine, DefaultValue}
pub use Rattle.clap.specs.declared.parser.matches.ValueSource.{ValueSource}
pub use Rattle.std.proofs.Common.{Bool, Err, IfErr, IfOk, IfSome, List, MatchResult, None, Ok, OnErr, OnOk, Option, Result, Some, [], ap, append-nil, append_assoc, arith, codes, cond, drop, false, inl, inr, is_some, length, map, nat_lt, not, refl, rules, subst, suc, sym, true, zero, ℕ, ◌&&◌, ◌++◌, ◌<◌, ◌==◌, ◌||◌, ◌∙◌, ◌∷◌, ◌≡◌, ◌⊎◌}
pub use Rattle.std.proofs.lemmas.Bool.{eqb-true, lt-ltb, ne_eqb}
pub use Rattle.std.proofs.lemmas.Slice.Eq.{bytes_eq-Decides}
pub use Rattle.std.specs.Borrow.{Bor}
pub use Rattle.std.specs.List.{find, fold}
pub use Rattle.std.specs.Option.{option_map, option_map_or}
pub use Rattle.std.specs.Prelude.{encode_utf8, option_and_then, slice_get, unwrap_or}
pub use Rattle.std.specs.Str.Parse.{ExplainsUnsignedError, HasUnsignedDigitsIfOk, ParsesUnsigned, digits_value, without_leading_plus}
pub use Rattle.std.specs.Str.{bytes_eq, chars}
