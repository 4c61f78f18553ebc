-- The names of other crates and of this crate's specs that its proofs cite, passed on from one place. Declares nothing.
pub use Rattle.bench_core.specs.Cores.{Asked, CoreValue, IsDrawn, IsNextTurn, IsToldTurn, IsTurn, Needed, Nothing, Standing, answer_in, call_of, core_after, last_text, need_of, word_in}
pub use Rattle.bench_core.specs.Worlds.{made_who}
pub use Rattle.bench_core.specs.declared.cores.Health.TheVariants.{Good}
pub use Rattle.bench_history.specs.Cases.{Answer, Exactly, Grant, Need, Next}
pub use Rattle.bench_history.specs.History.{is_over, nodes_of}
pub use Rattle.bench_history.specs.Laws.{IsMachines, MachineEntriesAreSilent}
pub use Rattle.bench_history.specs.Limits.{log_limit}
pub use Rattle.bench_history.specs.Next.{Allows, EachIsNext, IsLegal, declined_in, made_in, need_in, next_of}
pub use Rattle.bench_history.specs.Sequences.{leaving_of, sequences_of}
pub use Rattle.bench_kernel.specs.Kernels.{needed_type, types_made}
pub use Rattle.bench_kernel.specs.Laws.{IsMadeNew, MadeAreNew, NobodyIsMadeTwice, OthersMakeNobody}
pub use Rattle.bench_run.specs.Running.{IsRunResult, summary_of, transcript}
pub use Rattle.bench_run.specs.Texts.{some-room}
pub use Rattle.bench_run.specs.Words.{AreDrawn, HasWordsOf, log_words, stream_after, word_made, words_drawn}
pub use Rattle.bench_run.specs.declared.run_results.RunResult.{RunResult}
pub use Rattle.bench_script.specs.Scripts.{ScriptValue}
pub use Rattle.rand_core.specs.Stream.{Stream, next_u64}
pub use Rattle.script_objects.specs.Answers.{TypeValue, rules_named}
pub use Rattle.script_objects.specs.Rules.{RuleValue}
pub use Rattle.script_objects.specs.Scripted.{ScriptedValue, new_of}
pub use Rattle.script_objects.specs.Seats.{ChangesAt, SeatsValue, acts_by, object_after, object_of}
pub use Rattle.serve_answers.specs.Answers.{BreaksOff, IsStop, IsTellingAct, NeitherStands, answer_text, count_after, made_text}
pub use Rattle.serve_answers.specs.Lines.{HasEnded, IsCutAt, IsCutShort}
pub use Rattle.serve_answers.specs.Readers.{ReaderValue}
pub use Rattle.serve_answers.specs.declared.errors.AnswerError.TheVariants.{NeitherMadeNorDeclined, NoAct, TooManyActs, Unread}
pub use Rattle.serve_answers.specs.declared.errors.AnswerError.{AnswerError}
pub use Rattle.serve_answers.specs.declared.lines.errors.LineError.{LineError}
pub use Rattle.serve_dialogue.specs.Apart.{AreMarkedLines, TellsApart, is_marked, is_marked_line}
pub use Rattle.serve_dialogue.specs.Clients.{IsUnmade}
pub use Rattle.serve_dialogue.specs.Dialogue.{AreTold, IsTold, answer_of, ask_line, asked_in, back_line, backs_of, call_of_passage, dialogue, exchange, is_clients, kind_and_who, kind_of, kind_word, lines_answered, lines_of, need_line, new_if, new_in, new_line, question_in, says_made, time_in, told_last}
pub use Rattle.serve_dialogue.specs.Pipes.{HasClosed, HasPassed, PipeValue, said_in-append}
pub use Rattle.serve_dialogue.specs.Scripted.{AreByScript, AreSeated, IsByScript, after_calls, client_next, is_scripted, left_to_client, of_type, scripted_of, type_of}
pub use Rattle.serve_dialogue.specs.Seating.{NeedFollows, SeatsFollow}
pub use Rattle.serve_dialogue.specs.Served.{IsServed, SpokeLog}
pub use Rattle.serve_dialogue.specs.Spoken.{Spoken, answered, answered_in, said, said_in}
pub use Rattle.serve_dialogue.specs.Steps.{AsksNext, Grows, Halts, HasEndedRun, IsViolation}
pub use Rattle.serve_dialogue.specs.declared.errors.ServeError.TheVariants.{Memory}
pub use Rattle.serve_dialogue.specs.declared.errors.ServeError.{ServeError}
pub use Rattle.std.proofs.Common.{All, Bool, Err, IfErr, IfOk, IfSome, List, None, Ok, OnOk, OnSome, Option, Result, Some, [], ap, append-nil, arith, codes, false, filter, if◌then◌else◌, inl, inr, length, not, option_map, refl, rules, subst, sym, true, ℕ, ◌&&◌, ◌++◌, ◌+◌, ◌-◌, ◌==◌, ◌∙◌, ◌∷◌, ◌≡◌}
pub use Rattle.std.proofs.KnownBytes.{Appends-nil, Consumes-nil}
pub use Rattle.std.proofs.lemmas.Bool.Decides.{nat_tests}
pub use Rattle.std.proofs.lemmas.Bool.{and_from, and_parts, cases_Bool, eqb-true}
pub use Rattle.std.proofs.lemmas.Grind.{flat_map-append}
pub use Rattle.std.proofs.lemmas.List.Elements.{filter-append}
pub use Rattle.std.proofs.lemmas.List.Folds.{list_all-append}
pub use Rattle.std.specs.Fmt.{decimal}
pub use Rattle.std.specs.Io.KnownBytes.{Appends, Consumes}
pub use Rattle.std.specs.List.{AllByRecursion, cons_option, flat_map, list_all}
unfoldable pub use Rattle.std.specs.List.{IsDistinct}
pub use Rattle.std.specs.Map.{keys_of, lookup}
pub use Rattle.std.specs.Option.{option_copied}
pub use Rattle.std.specs.Prelude.{is_some, option_and_then}
pub use Rattle.std.specs.Result.{IsErrAnd}
pub use Rattle.uvm_acts.specs.declared.acts.Act.{Act}
pub use Rattle.uvm_acts.specs.declared.acts.Call.{Call}
pub use Rattle.uvm_acts.specs.declared.acts.Who.TheVariants.{Node, Sequence}
pub use Rattle.uvm_acts.specs.declared.acts.Who.{Who}
pub use Rattle.uvm_factory.specs.declared.types.Kind.{Kind}
pub use Rattle.uvm_glob.specs.Lists.{newest}
pub use Rattle.uvm_glob.specs.Paths.{path_text}
pub use Rattle.uvm_glob.specs.Printed.{IsPrinted, is_printed_byte}
pub use Rattle.uvm_lines.specs.Lines.{call_text, who_text}
pub use Rattle.uvm_object.specs.Objects.{Exchange, exchanged_in, life_of, same_who}
pub use Rattle.uvm_object.specs.declared.entries.Entry.TheVariants.{Did, Heard, Time}
pub use Rattle.uvm_object.specs.declared.entries.Entry.{Entry}
pub use Rattle.uvm_object.specs.declared.entries.Origin.{Origin}
pub use Rattle.uvm_object.specs.declared.entries.Outcome.TheVariants.{Made, Refused, Started}
pub use Rattle.uvm_object.specs.declared.entries.Outcome.{Outcome}
pub use Rattle.uvm_object.specs.declared.fatals.Fatal.TheVariants.{NoObject}
pub use Rattle.uvm_report.specs.Lines.{line}
pub use Rattle.uvm_report.specs.Plain.{ArePlainLines, begins_plain, is_plain}
