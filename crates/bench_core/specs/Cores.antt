-- The value of a core in contracts, and what its functions return and change.
use Rattle.rand_core.specs.Stream.{Stream, next_u64}
use Rattle.std.specs.Prelude.{◌≡◌, ◌<◌, ◌≤◌, ℕ, Bool, true, false, List, ◌∷◌, ◌++◌, length, [], Option, Some, None, Result, Ok, Err, IsSome, unwrap_or, if◌then◌else◌}
use Rattle.uvm_object.specs.declared.entries.Origin.{Origin}
use Rattle.uvm_acts.specs.declared.acts.Who.{Who}
use Rattle.uvm_acts.specs.declared.acts.Call.{Call}
use Rattle.uvm_acts.specs.declared.acts.Act.{Act}
use Rattle.uvm_object.specs.declared.entries.Entry.{Entry}
use Rattle.uvm_object.specs.declared.entries.Entry.TheVariants.{Granted}
use Rattle.uvm_lines.specs.Lines.{entry_line}
use Rattle.uvm_report.specs.Plain.{IsLineAtMost}
use Rattle.bench_script.specs.Scripts.{ScriptValue}
use Rattle.bench_history.specs.Limits.{log_limit}
use Rattle.bench_history.specs.History.{nodes_of}
use Rattle.bench_history.specs.Sequences.{sequences_of, leaving_of}
use Rattle.bench_history.specs.Reports.{report_text}
use Rattle.bench_history.specs.Laws.{IsSomething, IsThere}
use Rattle.bench_history.specs.declared.needs.Need.{Need}
use Rattle.bench_core.specs.declared.cores.Health.{Health}
use Rattle.bench_core.specs.declared.cores.Health.TheVariants.{Good, Full, Broken}
use Rattle.bench_history.specs.Cases as next
use Rattle.bench_history.specs.Next.{Allows, IsNext, next_of, need_in}
pub use Rattle.bench_core.specs.Worlds.{Standing, Nothing, Needed, Asked, answer_in, call_of, need_of}
use Rattle.bench_core.specs.Worlds.{WorldValue, world_after}
use Rattle.bench_core.specs.declared.cores.Turn as turn
use Rattle.bench_core.specs.declared.faults.CoreFault.{CoreFault}
use Rattle.bench_core.specs.declared.faults.CoreFault.TheVariants.{Memory, LogFull, Failed, NoTest}

-- the value of a core: the script, the log (newest entry first), the open request, the core's health, and the ended sequences not yet reported
pub record CoreValue : Type 0 where
  pub script : ScriptValue
  pub history : List Entry
  pub standing : Standing
  pub health : Health
  pub leaving : List Who

-- the core has not failed
abbrev pub is_good : Health → Bool
is_good Good = true
is_good health = false

-- no allocation failed, so the services agree with the log
abbrev pub is_sound : Health → Bool
is_sound Broken = false
is_sound health = true

-- the core with one more entry and no open request; the sequences that the entry ends are to be reported
abbrev pub core_after : Entry → CoreValue → CoreValue
core_after entry core = record core { history = entry ∷ core.history; standing = Nothing; leaving = leaving_of (entry ∷ core.history) }

-- the core after an error, with no open request
abbrev pub failed_from : Health → CoreValue → CoreValue
failed_from health core = record core { standing = Nothing; health = health }

-- the open request, if there is one, is what comes next
abbrev pub IsAskedNext : Standing → next.Next → Type 0
IsAskedNext Nothing comes = Unit {0}
IsAskedNext (Needed need) comes = need_in comes ≡ Some need
IsAskedNext (Asked hearer call origin) comes = comes ≡ next.Answer hearer call origin

-- there is an open request
abbrev pub AsksSomething : Standing → Type 0
AsksSomething Nothing = ⊥
AsksSomething standing = Unit {0}

-- the health of a core, by whether its world is consistent, and whether it has failed with a full log
abbrev pub health_of : Bool → Bool → Health
health_of sound full = if sound then (if full then Full else Good) else Broken

-- the open request is what comes next; then the core has not failed, and the log is not full. A core that has failed or has an open request
-- has reported all ended sequences
pub record IsCore (world : WorldValue) (health : Health) (leaving : List Who) : Type 0 where
  pub sound : is_sound health ≡ true → world.sound ≡ true
  pub comes : IsAskedNext world.standing (next_of world.script world.history)
  pub room : AsksSomething world.standing → length world.history < log_limit world.script
  pub none : is_good health ≡ false → world.standing ≡ Nothing
  pub all_told : is_good health ≡ false → leaving ≡ []
  pub told_first : AsksSomething world.standing → leaving ≡ []

-- the new world has one more entry, which may come next in the old one
abbrev pub HasEntered : WorldValue → WorldValue → Type 0
HasEntered old new = (entry : Entry) × IsNext old.script old.history entry × (new ≡ world_after entry old)

-- the result of a step, and the core after it, by what comes next
abbrev pub IsTurn : next.Next → turn.Turn → CoreValue → CoreValue → Type 0
IsTurn (next.Exactly entry) result old new = (result ≡ turn.TheVariants.Moved) × (new ≡ core_after entry old)
IsTurn (next.Answer hearer call origin) result old new = (result ≡ turn.TheVariants.Ask hearer) × (new ≡ record old { standing = Asked hearer call origin })
IsTurn (next.Grant sequencer drawn chosen) result old new = (result ≡ turn.TheVariants.Moved) × (entry : Entry) × Allows (next.Grant sequencer drawn chosen) entry × (new ≡ core_after entry old)
IsTurn (next.Need need made performer act) result old new = (result ≡ turn.TheVariants.Need) × (new ≡ record old { standing = Needed need })
IsTurn next.Nothing result old new = (result ≡ turn.TheVariants.Over) × (new ≡ old)

-- the error of a step. Something comes next, and the log is full (`LogFull`) or an allocation failed (`Memory`); or the core had failed
-- before (`Failed`)
abbrev pub IsRefusedTurn : CoreFault → CoreValue → CoreValue → Type 0
IsRefusedTurn Memory old new = (old.health ≡ Good) × (length old.history < log_limit old.script) × IsSomething (next_of old.script old.history) × (new ≡ failed_from Broken old)
IsRefusedTurn LogFull old new = (old.health ≡ Good) × (log_limit old.script ≤ length old.history) × IsSomething (next_of old.script old.history) × (new ≡ failed_from Full old)
IsRefusedTurn Failed old new = (is_good old.health ≡ false) × (new ≡ old)
IsRefusedTurn NoTest old new = ⊥

-- if something comes next, the log is not full
abbrev pub HasRoom : CoreValue → Type 0
HasRoom core = IsSomething (next_of core.script core.history) → length core.history < log_limit core.script

-- the result of `next` when all ended sequences are reported: the open request is repeated; without one the next step is performed
abbrev pub IsNextTurn : Standing → Result turn.Turn CoreFault → CoreValue → CoreValue → Type 0
IsNextTurn Nothing (Ok result) old new = (old.health ≡ Good) × IsTurn (next_of old.script old.history) result old new × HasRoom old
IsNextTurn Nothing (Err fault) old new = IsRefusedTurn fault old new
IsNextTurn (Needed need) result old new = (result ≡ Ok turn.TheVariants.Need) × (new ≡ old)
IsNextTurn (Asked hearer call origin) result old new = (result ≡ Ok (turn.TheVariants.Ask hearer)) × (new ≡ old)

-- the result of `next`: it first reports the ended sequences, one at a time
abbrev pub IsToldTurn : List Who → Result turn.Turn CoreFault → CoreValue → CoreValue → Type 0
IsToldTurn [] result old new = IsNextTurn old.standing result old new
IsToldTurn (who ∷ others) result old new = (result ≡ Ok (turn.TheVariants.Leave who)) × (new ≡ record old { leaving = others })

-- the error of `Core::new`: `NoTest` if the script has no test, otherwise `Memory`
abbrev pub IsUnmade : ScriptValue → CoreFault → Type 0
IsUnmade script NoTest = script.test ≡ None
IsUnmade script Memory = IsSome script.test
IsUnmade script LogFull = ⊥
IsUnmade script Failed = ⊥

-- the open request as the result of a step
abbrev pub turn_of : Standing → Option turn.Turn
turn_of Nothing = None
turn_of (Needed need) = Some turn.TheVariants.Need
turn_of (Asked hearer call origin) = Some (turn.TheVariants.Ask hearer)

-- the result of a step; if it made a request, this is the open request
abbrev pub turn_after : Option turn.Turn → Standing → turn.Turn
turn_after (Some made) standing = made
turn_after None standing = unwrap_or (turn_of standing) turn.TheVariants.Over

-- the random number of the newest entry, if that is a grant that one decided
abbrev pub word_in : List Entry → Option ℕ
word_in (Granted sequencer grant ∷ before) = grant.word
word_in history = None

-- the random number that a turn consumes: that of the grant that it enters, if one decided it
abbrev pub drawn_by : List Entry → turn.Turn → Option ℕ
drawn_by history turn.TheVariants.Moved = word_in history
drawn_by history result = None

-- exactly this random number is consumed from a generator; none is consumed if there is none
abbrev pub IsDrawn : {Words : Type 0} → (Words → Stream) → Option ℕ → Words → Words → Type 0
IsDrawn stream None old new = new ≡ old
IsDrawn stream (Some word) old new = (word, stream new) ≡ next_u64 (stream old)

-- at most one random number is consumed
abbrev pub DrawsOne : {Words : Type 0} → (Words → Stream) → Words → Words → Type 0
DrawsOne stream old new = (word : Option ℕ) × IsDrawn stream word old new

-- a call that returns a result consumes the random number of that result, if it has one; `Memory` consumes at most one, and other errors
-- consume none
abbrev pub IsDrawing : {Made Words : Type 0} → (Words → Stream) → (Made → Option ℕ) → Result Made CoreFault → Words → Words → Type 0
IsDrawing stream drawn (Ok made) old new = IsDrawn stream (drawn made) old new
IsDrawing stream drawn (Err Memory) old new = DrawsOne stream old new
IsDrawing stream drawn (Err fault) old new = new ≡ old

-- the result is a request, for an object or for an answer
abbrev pub IsRequest : turn.Turn → Type 0
IsRequest turn.TheVariants.Need = Unit {0}
IsRequest (turn.TheVariants.Ask hearer) = Unit {0}
IsRequest result = ⊥

-- if the result is a request for an answer, its target is a component or an active sequence
abbrev pub AsksThere : turn.Turn → List Entry → Type 0
AsksThere (turn.TheVariants.Ask hearer) history = IsThere history hearer
AsksThere result history = Unit {0}

-- the result is a request for an answer
abbrev pub IsAsk : Option turn.Turn → Type 0
IsAsk (Some (turn.TheVariants.Ask hearer)) = Unit {0}
IsAsk (Some other) = ⊥
IsAsk None = ⊥

-- the line of the newest entry if tracing is on, otherwise the empty text
abbrev pub last_line : Bool → List Entry → List ℕ
last_line false history = []
last_line true [] = []
last_line true (entry ∷ before) = entry_line (nodes_of (entry ∷ before)) (sequences_of (entry ∷ before)) entry

-- the text of the newest entry: its line if tracing is on, and the line of its report if it has one that is displayed
abbrev pub last_text : Bool → ScriptValue → List Entry → List ℕ
last_text trace script history = last_line trace history ++ report_text script history

-- the text of the newest entry is at most two lines: the line of the entry, and that of its report
pub record HasFewLines (trace : Bool) (script : ScriptValue) (history : List Entry) : Type 0 where
  pub entry : IsLineAtMost (last_line trace history)
  pub report : IsLineAtMost (report_text script history)
