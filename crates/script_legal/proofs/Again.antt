-- A run whose text shows its random numbers is one over these numbers.
use Rattle.std.proofs.Common.{◌≡◌, ◌∙◌, ◌+◌, ◌++◌, ℕ, true, List, [], length, Option, Some, Ok, Err, inl, inr, refl, sym, ap, subst, arith}
use Rattle.rand_core.specs.Stream.{Stream}
use Rattle.uvm_object.specs.declared.entries.Entry.{Entry}
use Rattle.toml.specs.Data.{Members}
use Rattle.bench_script.specs.Scripts.{ScriptValue}
use Rattle.bench_run.specs.Running.{HaveFewLines, summary_of, transcript}
use Rattle.bench_run.specs.Words.{HasWordsOf, log_words, stream_after, words_drawn}
use Rattle.bench_run.specs.declared.run_results.RunResult.{RunResult}
use Rattle.bench_run.specs.declared.faults.RunFault.{RunFault}
use Rattle.bench_run.specs.declared.faults.RunFault.TheVariants as ran
use Rattle.bench_replay.specs.KnownNumbers.{known_numbers}
use Rattle.script_input.specs.Breakages.{breakage_of}
use Rattle.script_input.specs.declared.breakages.Breakage.TheVariants.{Memory, LogFull, Output, Unread}
use Rattle.script_objects.specs.Answers.{TypeValue}
use Rattle.script_jobs.specs.Runs.{IsBenchRun, IsScriptRun, IsTreeRun, RanTo}
use Rattle.script_jobs.specs.declared.verdicts.Verdict.{Verdict}
use Rattle.script_jobs.specs.declared.verdicts.Verdict.TheVariants.{Clean, Faulty, Refused, Broken}
use Rattle.script_legal.proofs.Known.{drawn-known}
use Rattle.script_legal.proofs.Told.{log-small, told}
use Rattle.script_legal.specs.Judgements.{AreWords, IsWhole}
use Rattle.script_legal.specs.ShownWords.{shown_words}

-- the random numbers of a log whose text this is
again-words : (words : Stream) (script : ScriptValue) (history : List Entry) (text more : List ℕ) → AreWords words → HasWordsOf words history → HaveFewLines true script history → text ≡ transcript true script history ++ more
    → HasWordsOf (known_numbers (shown_words text)) history
again-words words script history text more are drawn few is =
    let shown = ap shown_words is ∙ told script history more few (log-small words history are drawn) in
    sym (ap (λ known. words_drawn (length (log_words history)) (known_numbers known)) shown ∙ drawn-known (log_words history) (shown_words more))

-- a run that has ended
again-ended : (types : List TypeValue) (words : Stream) (script : ScriptValue) (text : List ℕ) (run_result : RunResult) → AreWords words → IsScriptRun types words script true (Some []) (Some text) (Ok run_result)
    → IsScriptRun types (known_numbers (shown_words text)) script true (Some []) (Some text) (Ok run_result)
again-ended types words script text run_result are run = (
  stream_after (0 + length (log_words run.1.history)) (known_numbers (shown_words text)),
  record {
    history = run.1.history;
    legal = run.1.legal;
    leaves = run.1.leaves;
    words = again-words words script run.1.history text (summary_of script run.1.history) are run.1.words run.1.leaves.1.lines run.1.leaves.1.wrote;
    given = record { lost = 0; few = omega arith; left = refl };
    objects = run.1.objects;
  },
)

-- a run whose log is full
again-full : (types : List TypeValue) (words : Stream) (script : ScriptValue) (text : List ℕ) → AreWords words → IsScriptRun types words script true (Some []) (Some text) (Err ran.LogFull)
    → IsScriptRun types (known_numbers (shown_words text)) script true (Some []) (Some text) (Err ran.LogFull)
again-full types words script text are run = (
  stream_after (0 + length (log_words run.1.history)) (known_numbers (shown_words text)),
  record {
    history = run.1.history;
    legal = run.1.legal;
    leaves = run.1.leaves;
    words = again-words words script run.1.history text [] are run.1.words run.1.leaves.2.lines run.1.leaves.2.wrote;
    given = record { lost = 0; few = omega arith; left = refl };
    objects = run.1.objects;
  },
)

-- a run of the tree of a document
again-tree : (root : Members) (test : Option (List ℕ)) (words : Stream) (text : List ℕ) (verdict : Verdict) → AreWords words → IsWhole verdict → IsTreeRun root test words true (Some []) (Some text) verdict
    → IsTreeRun root test (known_numbers (shown_words text)) true (Some []) (Some text) verdict
again-tree root test words text Clean are whole run = (
  run.0,
  run.1,
  record { script = run.2.script; types = run.2.types; bench = run.2.bench; run = again-ended run.2.types words run.2.script text run.0 are run.2.run },
)
again-tree root test words text Faulty are whole run = (
  run.0,
  run.1,
  record { script = run.2.script; types = run.2.types; bench = run.2.bench; run = again-ended run.2.types words run.2.script text run.0 are run.2.run },
)
again-tree root test words text (Refused refusal) are whole run = absurd whole
again-tree root test words text (Broken Memory) are whole run = absurd whole
again-tree root test words text (Broken Output) are whole run = absurd whole
again-tree root test words text (Broken Unread) are whole run = absurd whole
again-tree root test words text (Broken LogFull) are whole (inl early) = absurd (let bad = early.0 in cc)
again-tree root test words text (Broken LogFull) are whole (inr (fault, is, run)) = inr (full fault is run)
  where
    full : (fault : RunFault) → Some LogFull ≡ breakage_of fault → RanTo root test words true (Some []) (Some text) (Err fault)
        → (fault : RunFault) × (Some LogFull ≡ breakage_of fault) × RanTo root test (known_numbers (shown_words text)) true (Some []) (Some text) (Err fault)
    full ran.LogFull is run = (
      ran.LogFull,
      is,
      record { script = run.script; types = run.types; bench = run.bench; run = again-full run.types words run.script text are run.run },
    )
    full ran.Memory is run = absurd (let bad = is in cc)
    full ran.Output is run = absurd (let bad = is in cc)
    full ran.NoTest is run = absurd (let bad = is in cc)

-- a run of a document
pub run-again : (bytes : List ℕ) (test : Option (List ℕ)) (words : Stream) (text : List ℕ) (verdict : Verdict) → AreWords words → IsWhole verdict → IsBenchRun bytes test words true (Some []) (Some text) verdict
    → IsBenchRun bytes test (known_numbers (shown_words text)) true (Some []) (Some text) verdict
run-again bytes test words text verdict are whole (inl (root, read, run)) = inl (root, read, again-tree root test words text verdict are whole run)
run-again bytes test words text verdict are whole (inr (inl (fault, is, refused), keeps)) = absurd (subst IsWhole refused whole)
run-again bytes test words text verdict are whole (inr (inr broken, keeps)) = absurd (subst IsWhole broken whole)
