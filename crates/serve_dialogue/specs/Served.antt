-- The result of a run over a client.
use Rattle.std.specs.Prelude.{◌≡◌, ℕ, Bool, List, [], ◌++◌, None, Result, Ok, Err}
use Rattle.rand_core.specs.Stream.{Stream}
use Rattle.uvm_object.specs.declared.entries.Entry.{Entry}
use Rattle.bench_script.specs.Scripts.{ScriptValue}
use Rattle.bench_history.specs.Next.{IsLegal}
use Rattle.bench_run.specs.Running.{IsRunResult, summary_of, transcript}
use Rattle.bench_run.specs.Words.{HasWordsOf}
use Rattle.bench_run.specs.declared.run_results.RunResult.{RunResult}
use Rattle.serve_answers.specs.Answers.{count_after}
use Rattle.serve_dialogue.specs.Apart.{TellsApart}
use Rattle.serve_dialogue.specs.Dialogue.{AreTold, asked_in, dialogue, lines_answered}
use Rattle.script_objects.specs.Answers.{TypeValue}
use Rattle.serve_dialogue.specs.Scripted.{AreByScript}
use Rattle.serve_dialogue.specs.Spoken.{Spoken, said, said_in}
use Rattle.serve_dialogue.specs.Steps.{Halts}
use Rattle.serve_dialogue.specs.declared.errors.ServeError.{ServeError}
use Rattle.serve_dialogue.specs.declared.errors.ServeError.TheVariants.{NoTest}

module _ {C : Type 0} (spoke : C → C → List Spoken → Type 0) (ended : C → C → Type 0) (line : C → ℕ) (answers : List TypeValue) where
  -- the dialogue of a log was spoken, and the client's lines in it were read and counted
  pub record SpokeLog (script : ScriptValue) (trace : Bool) (history : List Entry) (old new : C) : Type 0 where
    pub talk : spoke old new (dialogue answers trace script history)
    pub lines : line new ≡ count_after (line old) (lines_answered answers script history)

  -- The run has ended. The client received the dialogue of its log, the notices of the sequences that ended last, and the summary. It can
  -- separate the summary from these notices.
  abbrev pub ServedTo : RunResult → ScriptValue → Bool → List Entry → C → C → Type 0
  ServedTo run_result script trace history old new =
      IsRunResult run_result script history
      × spoke old new (dialogue answers trace script history ++ said (asked_in answers script history) ++ said (summary_of script history))
      × TellsApart (asked_in answers script history ++ summary_of script history) (summary_of script history)

  -- the run stopped before its end: the dialogue of its log was spoken, and then an error stopped the next step
  pub record BrokeOff (error : ServeError) (script : ScriptValue) (trace : Bool) (history : List Entry) (old new : C) : Type 0 where
    pub told : C
    pub spoke_log : SpokeLog script trace history old told
    pub halts : Halts spoke ended line answers error script history told new

  -- there was no run, because the script has no test; nothing was spoken
  pub record IsUntested (script : ScriptValue) (history : List Entry) (old new : C) : Type 0 where
    pub none : script.test ≡ None
    pub empty : history ≡ []
    pub silent : new ≡ old

  abbrev pub Leaves : Result RunResult ServeError → ScriptValue → Bool → List Entry → C → C → Type 0
  Leaves (Ok run_result) script trace history old new = ServedTo run_result script trace history old new
  Leaves (Err NoTest) script trace history old new = IsUntested script history old new
  Leaves (Err error) script trace history old new = BrokeOff error script trace history old new

  -- The run has a legal log of the script, with random numbers of the generator. Its dialogue was spoken, as far as the run came. Each entry
  -- for a scripted object is as its rules decide. The client can separate the transcript from requests and notices.
  pub record IsServed (stream : Stream) (script : ScriptValue) (trace : Bool) (old new : C) (result : Result RunResult ServeError) : Type 0 where
    pub history : List Entry
    pub legal : IsLegal script history
    pub words : HasWordsOf stream history
    pub told : AreTold answers script history
    pub by_script : AreByScript answers script history
    pub apart : TellsApart (said_in (dialogue answers trace script history)) (transcript trace script history)
    pub leaves : Leaves result script trace history old new
