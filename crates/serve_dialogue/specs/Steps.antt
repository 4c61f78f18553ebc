-- One entry of a run over a client.
use Rattle.std.specs.Prelude.{◌≡◌, ◌<◌, ◌≤◌, ◌⊎◌, ℕ, true, false, List, [], ◌++◌, length, Option}
use Rattle.uvm_acts.specs.declared.acts.Who.{Who}
use Rattle.uvm_acts.specs.declared.acts.Call.{Call}
use Rattle.uvm_object.specs.declared.entries.Entry.{Entry}
use Rattle.uvm_object.specs.declared.entries.Origin.{Origin}
use Rattle.bench_script.specs.Scripts.{ScriptValue}
use Rattle.bench_history.specs.Cases as next
use Rattle.bench_history.specs.Limits.{log_limit}
use Rattle.bench_history.specs.History.{is_over}
use Rattle.bench_history.specs.Next.{next_of}
use Rattle.bench_history.specs.Sequences.{leaving_of}
use Rattle.bench_core.specs.Cores.{Asked, CoreValue, core_after}
use Rattle.serve_answers.specs.Answers.{BreaksOff, count_after}
use Rattle.serve_answers.specs.Errors.{line_in}
use Rattle.serve_answers.specs.declared.errors.AnswerError.{AnswerError}
use Rattle.serve_dialogue.specs.Apart.{AreMarkedLines}
use Rattle.serve_dialogue.specs.Clients.{IsUnmade, IsUnreadable}
use Rattle.serve_dialogue.specs.Dialogue.{IsTold, answer_of, asked_in, lines_of, new_in}
use Rattle.script_objects.specs.Answers.{TypeValue}
use Rattle.serve_dialogue.specs.Scripted.{IsByScript, client_next}
use Rattle.serve_dialogue.specs.Spoken.{Spoken, answered, said}
use Rattle.serve_dialogue.specs.declared.errors.ServeError.{ServeError}
use Rattle.serve_dialogue.specs.declared.errors.ServeError.TheVariants.{Memory, LogFull, Output, NoTest, NoAnswer}

-- the answer that the core requests of a component or a sequence is what comes next in the log
pub record AsksNext (who : Who) (core : CoreValue) : Type 0 where
  pub call : Call
  pub origin : Option Origin
  pub stands : core.standing ≡ Asked who call origin
  pub comes : next_of core.script core.history ≡ next.Answer who call origin

-- if the run has not ended and no ended sequence is to be reported, the log has capacity for another entry
abbrev pub HasRoom : ScriptValue → List Entry → Type 0
HasRoom script history = is_over history ≡ false → leaving_of history ≡ [] → length history < log_limit script

-- why the text for an entry was not said: out of memory, and nothing was said; or the client refused it
abbrev pub IsUntold : {C : Type 0} → ServeError → C → C → Type 0
IsUntold Memory old new = new ≡ old
IsUntold Output old new = Unit {0}
IsUntold other old new = ⊥

-- the error is that the client could not be read
abbrev pub IsUnheard : ServeError → Type 0
IsUnheard (NoAnswer error) = IsUnreadable error
IsUnheard other = ⊥

module _ {C : Type 0} (spoke : C → C → List Spoken → Type 0) (ended : C → C → Type 0) (line : C → ℕ) (answers : List TypeValue) where
  -- the client's lines are not an answer to what came next: why, and how many lines were read
  abbrev pub IsViolation : next.Next → AnswerError → C → C → Type 0
  IsViolation (next.Answer hearer call origin) error old new = BreaksOff error (λ text. spoke old new (answered text)) (ended old new) (line old) (line new)
  IsViolation (next.Need need made performer act) error old new = IsUnmade error (λ text. spoke old new (answered text)) (ended old new) × (line new ≡ count_after (line old) 1)
  IsViolation other error old new = ⊥

  -- The client received a request, and its lines are not an answer. The error has the number of the line at which reading stopped.
  pub record AskedInVain (script : ScriptValue) (history : List Entry) (error : AnswerError) (old new : C) : Type 0 where
    pub between : C
    pub asked : spoke old between (said (asked_in answers script history))
    pub marked : AreMarkedLines (asked_in answers script history)
    pub line_stays : line between ≡ line old
    pub violation : IsViolation (client_next answers script history) error between new
    pub number : line_in error ≡ line new

  -- The log grew by one entry. The request for it was said, and the entry is as the client answered. The notice of the object that was made
  -- is still to be said. All these texts are requests and notices.
  pub record Grows (old new : CoreValue) (client client' : C) (left : List ℕ) : Type 0 where
    pub entry : Entry
    pub is : new ≡ core_after entry old
    pub talk : spoke client client' (said (asked_in answers old.script old.history) ++ answered (answer_of (client_next answers old.script old.history) entry))
    pub asks : AreMarkedLines (asked_in answers old.script old.history)
    pub left_is : left ≡ new_in entry old.history (client_next answers old.script old.history)
    pub notes : AreMarkedLines left
    pub lines : line client' ≡ count_after (line client) (lines_of (client_next answers old.script old.history) entry)
    pub told : IsTold (client_next answers old.script old.history) entry
    pub by_script : IsByScript answers old.script old.history (next_of old.script old.history) entry

  -- the run has ended and the log did not grow; the notices of the last ended sequences were said
  pub record HasEndedRun (old new : CoreValue) (client client' : C) : Type 0 where
    pub over : is_over old.history ≡ true
    pub is : new ≡ record old { leaving = [] }
    pub talk : spoke client client' (said (asked_in answers old.script old.history))
    pub asks : AreMarkedLines (asked_in answers old.script old.history)

  -- what was spoken before memory ran out: nothing; or the request for what comes next, and some text of the client
  abbrev pub SpokeSome : ScriptValue → List Entry → C → C → Type 0
  SpokeSome script history old new = (new ≡ old) ⊎ ((text : List ℕ) × spoke old new (said (asked_in answers script history) ++ answered text) × AreMarkedLines (asked_in answers script history))

  -- why the run stops before its next entry, for each error
  abbrev pub Halts : ServeError → ScriptValue → List Entry → C → C → Type 0
  Halts Memory script history old new = HasRoom script history × SpokeSome script history old new
  Halts LogFull script history old new = (log_limit script ≤ length history) × (is_over history ≡ false) × (new ≡ old)
  Halts Output script history old new = Unit {0}
  Halts NoTest script history old new = ⊥
  Halts (NoAnswer error) script history old new = AskedInVain script history error old new
