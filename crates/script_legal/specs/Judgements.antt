-- The judgement on a transcript.
use Rattle.std.specs.Prelude.{◌≢◌, ◌<◌, ◌^◌, ℕ, List, [], Option, Some, true}
use Rattle.rand_core.specs.Stream.{Stream, next_u64}
use Rattle.bench_run.specs.Words.{stream_after}
use Rattle.script_input.specs.declared.breakages.Breakage.TheVariants.{Memory, LogFull, Output, Unread}
use Rattle.script_jobs.specs.Benches.{BenchValue, IsRunOf}
use Rattle.script_jobs.specs.Runs.{IsBenchRun}
use Rattle.script_legal.specs.declared.judging.Judgement.{Judgement}
use Rattle.script_legal.specs.declared.judging.Judgement.TheVariants.{Legal, Other}
use Rattle.script_jobs.specs.declared.verdicts.Verdict.{Verdict}
use Rattle.script_jobs.specs.declared.verdicts.Verdict.TheVariants.{Clean, Faulty, Refused, Broken}

-- the run went on until it ended or its log was full
abbrev pub IsWhole : Verdict → Type 0
IsWhole Clean = Unit {0}
IsWhole Faulty = Unit {0}
IsWhole (Refused refusal) = ⊥
IsWhole (Broken Memory) = ⊥
IsWhole (Broken LogFull) = Unit {0}
IsWhole (Broken Output) = ⊥
IsWhole (Broken Unread) = ⊥

-- each random number of a generator has at most 64 bits
abbrev pub AreWords : Stream → Type 0
AreWords words = (count : ℕ) → (next_u64 (stream_after count words)).0 < 2 ^ 64

-- a run of the document with a trace writes this text, and nothing else, over some random numbers
pub record IsLegalText (bytes : List ℕ) (test : Option (List ℕ)) (text : List ℕ) : Type 0 where
  pub words : Stream
  pub are_words : AreWords words
  pub verdict : Verdict
  pub whole : IsWhole verdict
  pub run : IsBenchRun bytes test words true (Some []) (Some text) verdict

-- what a judgement states: whether such a run writes the text
abbrev pub HasJudged : List ℕ → Option (List ℕ) → List ℕ → Judgement → Type 0
HasJudged bytes test text Legal = IsLegalText bytes test text
HasJudged bytes test text (Other number line) = ¬ (IsLegalText bytes test text)

-- a run of the bench over these random numbers writes this text, and nothing else
pub record IsRunText (bench : BenchValue) (words : Stream) (text : List ℕ) : Type 0 where
  pub verdict : Verdict
  pub whole : IsWhole verdict
  pub run : IsRunOf bench words true (Some []) (Some text) verdict

-- whether that text is the one that is judged
abbrev pub TellsRun : BenchValue → Stream → List ℕ → Judgement → Type 0
TellsRun bench words text Legal = IsRunText bench words text
TellsRun bench words text (Other number line) = (written : List ℕ) × (written ≢ text) × IsRunText bench words written
