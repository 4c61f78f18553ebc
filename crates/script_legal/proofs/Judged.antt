-- The judgement on a run of a bench is one on all runs of its document.
use Rattle.std.proofs.Common.{◌≡◌, ℕ, List, [], Option, Some, Result, Ok, Err, true, IfOk}
use Rattle.std.proofs.lemmas.Option.{same_Some}
use Rattle.bench_replay.specs.KnownNumbers.{known_numbers}
use Rattle.script_input.specs.declared.breakages.Breakage.TheVariants.{Memory, LogFull, Output, Unread}
use Rattle.script_jobs.specs.Benches.{BenchValue, HasRead}
use Rattle.script_jobs.specs.Laws.{BenchRunsAreRuns, IsDecided, RunsAreDetermined}
use Rattle.script_jobs.specs.declared.verdicts.Verdict.{Verdict}
use Rattle.script_jobs.specs.declared.verdicts.Verdict.TheVariants.{Clean, Faulty, Refused, Broken}
use Rattle.script_legal.proofs.Again.{run-again}
use Rattle.script_legal.proofs.Known.{known-small}
use Rattle.script_legal.proofs.Shown.{shown-small}
use Rattle.script_legal.specs.Judgements.{HasJudged, IsLegalText, IsRunText, IsWhole, TellsRun}
use Rattle.script_legal.specs.ShownWords.{shown_words}
use Rattle.script_legal.specs.declared.judging.Judgement.{Judgement}
use Rattle.script_legal.specs.declared.judging.Judgement.TheVariants.{Legal, Other}

-- a run that went on to its end is decided
decided : (verdict : Verdict) → IsWhole verdict → IsDecided verdict
decided Clean whole = tt
decided Faulty whole = tt
decided (Refused refusal) whole = absurd whole
decided (Broken Memory) whole = absurd whole
decided (Broken LogFull) whole = tt
decided (Broken Output) whole = absurd whole
decided (Broken Unread) whole = absurd whole

module _ (bytes : List ℕ) (test : Option (List ℕ)) (bench : BenchValue) (text : List ℕ) (runs : BenchRunsAreRuns) (determined : RunsAreDetermined) (has : HasRead bytes test bench) where
  -- the run over the random numbers that the text shows writes it
  legal-of : IsRunText bench (known_numbers (shown_words text)) text → IsLegalText bytes test text
  legal-of ran = record {
    words = known_numbers (shown_words text);
    are_words = known-small (shown_words text) (shown-small text);
    verdict = ran.verdict;
    whole = ran.whole;
    run = runs bytes test bench (known_numbers (shown_words text)) true (Some []) (Some text) ran.verdict has ran.run;
  }

  -- if that run writes another text, no run writes this one
  one-text : (written : List ℕ) → IsRunText bench (known_numbers (shown_words text)) written → IsLegalText bytes test text → written ≡ text
  one-text written ran legal =
      let ours = runs bytes test bench (known_numbers (shown_words text)) true (Some []) (Some written) ran.verdict has ran.run in
      let again = run-again bytes test legal.words text legal.verdict legal.are_words legal.whole legal.run in
      let same = determined bytes test (known_numbers (shown_words text)) true [] (Some text) (Some written) legal.verdict ran.verdict again ours (decided legal.verdict legal.whole) (decided ran.verdict ran.whole) in
      same_Some written text same.1

  pub has-judged : (judgement : Judgement) → TellsRun bench (known_numbers (shown_words text)) text judgement → HasJudged bytes test text judgement
  has-judged Legal tells = legal-of tells
  has-judged (Other number line) tells = λ legal. tells.1 (one-text tells.0 tells.2 legal)

  pub all-judged : {E : Type 0} (judged : Result Judgement E) → IfOk judged (TellsRun bench (known_numbers (shown_words text)) text) → IfOk judged (HasJudged bytes test text)
  all-judged (Ok judgement) tells = has-judged judgement tells
  all-judged (Err verdict) tells = tt
