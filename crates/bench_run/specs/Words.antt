-- The random numbers of a run.
use Rattle.std.specs.Prelude.{◌≡◌, ◌≤◌, ◌+◌, ℕ, zero, suc, Bool, true, false, List, [], ◌∷◌, length, Option, None, Result, Ok, Err}
use Rattle.std.specs.List.{cons_option}
use Rattle.rand_core.specs.Stream.{Stream, next_u64}
use Rattle.uvm_object.specs.declared.entries.Entry.{Entry}
use Rattle.bench_kernel.specs.Cores.{DrawsOne, word_in}
use Rattle.bench_run.specs.declared.run_results.RunResult.{RunResult}
use Rattle.bench_run.specs.declared.faults.RunFault.{RunFault}
use Rattle.bench_run.specs.declared.faults.RunFault.TheVariants.{Memory}

-- the random numbers of a log, newest first: those of its grants
abbrev pub log_words : List Entry → List ℕ
log_words [] = []
log_words (entry ∷ before) = cons_option (word_in (entry ∷ before)) (log_words before)

-- the stream that is left after this many random numbers were consumed
abbrev pub stream_after : ℕ → Stream → Stream
stream_after zero stream = stream
stream_after (suc count) stream = (next_u64 (stream_after count stream)).1

-- this many random numbers of a stream, the last first
abbrev pub words_drawn : ℕ → Stream → List ℕ
words_drawn zero stream = []
words_drawn (suc count) stream = (next_u64 (stream_after count stream)).0 ∷ words_drawn count stream

-- the random numbers of a log are, in their order, the first that a generator gives
abbrev pub HasWordsOf : Stream → List Entry → Type 0
HasWordsOf stream history = log_words history ≡ words_drawn (length (log_words history)) stream

-- the random numbers of a log are the first that a generator gives, and it has consumed exactly these
pub record AreDrawn {Words : Type 0} (stream : Words → Stream) (history : List Entry) (first last : Words) : Type 0 where
  pub words : HasWordsOf (stream first) history
  pub left : stream last ≡ stream_after (length (log_words history)) (stream first)

-- a generator has consumed the random numbers of a log, and at most this many that were lost
pub record HasGiven (most : ℕ) (history : List Entry) (first last : Stream) : Type 0 where
  pub lost : ℕ
  pub few : lost ≤ most
  pub left : last ≡ stream_after (lost + length (log_words history)) first

-- how many random numbers may be lost with an error: one if memory ran out, otherwise none
abbrev pub lost_at : RunFault → ℕ
lost_at Memory = 1
lost_at fault = 0

-- how many random numbers may be lost in a run: none if it ended, otherwise those of its error
abbrev pub may_lose : Result RunResult RunFault → ℕ
may_lose (Ok run_result) = 0
may_lose (Err fault) = lost_at fault

-- an error without a new entry consumed no random number, except at most one if memory ran out
abbrev pub HasLost : {Words : Type 0} → (Words → Stream) → RunFault → Words → Words → Type 0
HasLost stream Memory old new = DrawsOne stream old new
HasLost stream fault old new = new ≡ old

-- the random number that a new entry consumes, if it has one; none without a new entry
abbrev pub word_made : Bool → List Entry → Option ℕ
word_made true history = word_in history
word_made false history = None
