-- The names of other crates and of this crate's specs that its proofs cite, passed on from one place. Declares nothing.
pub use Rattle.bench_history.specs.Cases.{Answer, Exactly, Grant, Need, Next, Nothing}
pub use Rattle.bench_history.specs.History.{is_over}
pub use Rattle.bench_history.specs.Laws.{NothingAfterOver}
pub use Rattle.bench_history.specs.Limits.{log_limit}
pub use Rattle.bench_history.specs.Next.{Allows, EachIsNext, IsLegal, declined_in, made_in, need_in, next_of}
pub use Rattle.bench_kernel.specs.Asked.{IsAsked}
pub use Rattle.bench_kernel.specs.Cores.{CoreValue, HasFewLines, IsDrawn, core_after, is_sound, last_text, word_in}
pub use Rattle.bench_kernel.specs.Health.TheVariants.{Good}
pub use Rattle.bench_kernel.specs.Health.{Health}
pub use Rattle.bench_kernel.specs.Kernels.{KernelValue, WasMade, abandoned, is_done, needed_type, open_need, types_made, wanted_in}
pub use Rattle.bench_kernel.specs.Laws.{IsMadeNew, MadeAreNew, NobodyIsMadeTwice, OthersMakeNobody}
pub use Rattle.bench_kernel.specs.Steps.{IsBack, IsMoved, IsSameLog, IsSupplied, IsWaiting, WasGiven}
pub use Rattle.bench_run.specs.Laws.{AllowsOneAtMost, EndsAreDetermined, IsDecided, IsRunLog, IsSpent, RunsAreFunctions}
pub use Rattle.bench_run.specs.Lives.{AreKept, AreMade, HasLived, HaveLived, IsFilled, IsGiven, IsHonestBetween, IsKept, IsUnknown, MayGive, first_of}
pub use Rattle.bench_run.specs.Running.{BrokeOffRun, Grows, HasTold, HaveFewLines, IsDeclined, IsHalted, IsRun, IsRunResult, IsUnwritten, LeavesRun, summary_of, transcript}
pub use Rattle.bench_run.specs.Sinks.{TookMore}
pub use Rattle.bench_run.specs.Texts.{TookTexts, some-room, took-nothing}
pub use Rattle.bench_run.specs.Words.{AreDrawn, HasGiven, HasLost, HasWordsOf, log_words, lost_at, may_lose, stream_after, word_made, words_drawn}
pub use Rattle.bench_run.specs.declared.faults.RunFault.TheVariants.{LogFull, Memory, NoTest, Output}
pub use Rattle.bench_run.specs.declared.faults.RunFault.{RunFault}
pub use Rattle.bench_run.specs.declared.run_results.RunResult.{RunResult}
pub use Rattle.bench_script.specs.Scripts.{ScriptValue}
pub use Rattle.rand_core.specs.Stream.{Stream, next_u64}
pub use Rattle.std.proofs.Common.{Bool, Bor, Err, IsSome, List, None, Ok, Option, Result, Some, [], ap, append-nil, arith, false, get_or, if◌then◌else◌, inl, inr, length, lit≤, nat_le, refl, rules, subst, suc, sym, true, zero, ℕ, ◌++◌, ◌+◌, ◌-◌, ◌<◌, ◌||◌, ◌∙◌, ◌∷◌, ◌≡◌, ◌≢◌, ◌≤◌}
pub use Rattle.std.proofs.KnownBytes.{Appends-kept, Appends-trans}
pub use Rattle.std.proofs.lemmas.Bool.Decides.{nat_tests}
pub use Rattle.std.proofs.lemmas.List.Elements.{All-cons, All-contains, All-head, All-nil, All-tail, All-weaker, Contains-get_or}
pub use Rattle.std.proofs.lemmas.List.Sorted.{All-permutation, IsPermutation-map, IsPermutation-sym, length_permutation}
pub use Rattle.std.proofs.lemmas.List.{append_assoc}
pub use Rattle.std.proofs.lemmas.Map.Keys.{IsDistinct-IsPermutation, IsDistinct-head, IsDistinct-tail}
pub use Rattle.std.proofs.lemmas.Option.{same_Some}
pub use Rattle.std.proofs.lemmas.Result.{on_ok_weaker}
pub use Rattle.std.specs.Fn.{Shared}
pub use Rattle.std.specs.Io.KnownBytes.{Appends}
pub use Rattle.std.specs.List.{AllByRecursion, IsDistinct, cons_option}
pub use Rattle.std.specs.Map.{keys_of}
pub use Rattle.std.specs.Option.{option_map_or}
pub use Rattle.std.specs.Prelude.{All, Contains, IfSome, is_some, ◌&&◌, ◌==◌, ◌⊎◌}
pub use Rattle.std.specs.Result.{IsErrAnd}
pub use Rattle.std.specs.declared.alloc.AllocError.{AllocError}
pub use Rattle.uvm_acts.specs.declared.acts.Act.{Act}
pub use Rattle.uvm_acts.specs.declared.acts.Call.{Call}
pub use Rattle.uvm_acts.specs.declared.acts.Who.TheVariants.{Node, Sequence}
pub use Rattle.uvm_acts.specs.declared.acts.Who.{Who}
pub use Rattle.uvm_glob.specs.Lists.{newest}
pub use Rattle.uvm_object.specs.Objects.{Exchange, IsHonest, SameSays, Says, View, exchanged_in, life_of, same_who}
pub use Rattle.uvm_object.specs.declared.entries.Entry.TheVariants.{Did, Granted, Heard, Over}
pub use Rattle.uvm_object.specs.declared.entries.Entry.{Entry}
pub use Rattle.uvm_object.specs.declared.entries.Origin.{Origin}
pub use Rattle.uvm_object.specs.declared.entries.Outcome.TheVariants.{Made, Refused, Started}
pub use Rattle.uvm_object.specs.declared.entries.Reason.{Reason}
pub use Rattle.uvm_object.specs.declared.fatals.Fatal.TheVariants.{NoObject}
