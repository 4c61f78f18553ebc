-- A run as a whole.
use Rattle.std.proofs.Common.{ℕ, Bool, List, Option}
use Rattle.rand_core.specs.Stream.{Stream}
use Rattle.serve_dialogue.specs.Spoken.{Spoken}
use Rattle.serve_dialogue.specs.declared.errors.ServeError.TheVariants.{Memory, LogFull, Output, NoTest, NoAnswer}
use Rattle.serve_jobs.specs.Served.{IsServedBench, IsServedWhole}
use Rattle.serve_jobs.specs.declared.verdicts.Verdict.{Verdict}
use Rattle.serve_jobs.specs.declared.verdicts.Verdict.TheVariants.{Clean, Faulty, Refused, Broken}

-- a run of which all was said
pub bench_of_whole : {C : Type 0} (spoke : C → C → List Spoken → Type 0) (ended : C → C → Type 0) (line : C → ℕ) (bytes : List ℕ) (test : Option (List ℕ)) (seed : ℕ) (words : Stream) (trace : Bool) (old new : C) (verdict : Verdict)
    → IsServedWhole spoke ended line bytes test seed words trace old new verdict → IsServedBench spoke ended line bytes test seed words trace old new verdict
bench_of_whole spoke ended line bytes test seed words trace old new Clean whole = whole
bench_of_whole spoke ended line bytes test seed words trace old new Faulty whole = whole
bench_of_whole spoke ended line bytes test seed words trace old new (Refused refusal) whole = whole
bench_of_whole spoke ended line bytes test seed words trace old new (Broken Memory) whole = whole
bench_of_whole spoke ended line bytes test seed words trace old new (Broken LogFull) whole = whole
bench_of_whole spoke ended line bytes test seed words trace old new (Broken Output) whole = tt
bench_of_whole spoke ended line bytes test seed words trace old new (Broken NoTest) whole = whole
bench_of_whole spoke ended line bytes test seed words trace old new (Broken (NoAnswer error)) whole = whole
