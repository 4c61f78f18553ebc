-- What may come next in a log, and what a legal log is.
use Rattle.std.specs.Prelude.{◌≡◌, ◌≤◌, is_some, List, [], ◌∷◌, length, Option, Some, None, unwrap_or, ◌⊎◌}
use Rattle.uvm_glob.specs.Lists.{first_given}
use Rattle.uvm_acts.specs.declared.acts.Act.{Act}
use Rattle.uvm_object.specs.declared.fatals.Fatal.TheVariants.{NoObject}
use Rattle.uvm_object.specs.declared.entries.Outcome.TheVariants.{Refused}
use Rattle.uvm_object.specs.declared.entries.Entry.{Entry}
use Rattle.uvm_object.specs.declared.entries.Grant as entries
use Rattle.uvm_object.specs.declared.entries.Entry.TheVariants.{Heard, Did, Granted}
use Rattle.bench_script.specs.Scripts.{ScriptValue}
use Rattle.bench_history.specs.declared.needs.Need as declared
use Rattle.bench_history.specs.Limits.{log_limit}
use Rattle.bench_history.specs.History.{in_progress, stage_of, running, remaining_acts}
use Rattle.bench_history.specs.Reports.{reason_of}
use Rattle.bench_history.specs.Dues.{due_now}
use Rattle.bench_history.specs.Passing.{next_passed}
use Rattle.bench_history.specs.Cases.{Next, Exactly, Answer, Need, Grant, Nothing, end_reached, giving_up, locking, serving, passing, long_answer, first_act, event_due, phase_call, port_check, phase_end, phase_begin, phase_to_begin, finish}
use Rattle.bench_history.specs.Arbitration.{next_locked, next_served}

-- the first of these cases that applies, otherwise `Nothing`
abbrev pub first_next : List (Option Next) → Next
first_next cases = unwrap_or (first_given cases) Nothing

-- what comes next after a log: the first of the cases of the kernel that applies
unfoldable pub next_of : ScriptValue → List Entry → Next
next_of script history =
    first_next (
    end_reached (stage_of history)
    ∷ giving_up (reason_of script history)
    ∷ locking (next_locked history)
    ∷ serving history (next_served history)
    ∷ passing (next_passed history)
    ∷ long_answer history (remaining_acts script history)
    ∷ first_act script history (remaining_acts script history)
    ∷ event_due (due_now script history)
    ∷ phase_begin (phase_to_begin script.runtime (stage_of history))
    ∷ phase_call history (in_progress (stage_of history))
    ∷ port_check history (running (stage_of history))
    ∷ phase_end script history (running (stage_of history))
    ∷ finish
    ∷ [])

-- an entry is what comes next. Three things are free: the actions of an answer, whether a needed object is made or declined, and the random
-- number of a grant that consumes one
abbrev pub Allows : Next → Entry → Type 0
Allows (Exactly expected) entry = entry ≡ expected
Allows (Answer hearer call cause) entry = (acts : List Act) × (entry ≡ Heard hearer cause call acts)
Allows (Need need made performer act) entry = (entry ≡ Did performer made act) ⊎ (entry ≡ Did performer (Refused NoObject) act)
Allows (Grant sequencer drawn chosen) entry = (grant : entries.Grant) × (is_some grant.word ≡ drawn) × (chosen grant.word ≡ Some grant.id) × (entry ≡ Granted sequencer grant)
Allows Nothing entry = ⊥

-- an entry may come next after a log
abbrev pub IsNext : ScriptValue → List Entry → Entry → Type 0
IsNext script history entry = Allows (next_of script history) entry

-- each entry was next after those before it
abbrev pub EachIsNext : ScriptValue → List Entry → Type 0
EachIsNext script [] = Unit {0}
EachIsNext script (entry ∷ before) = IsNext script before entry × EachIsNext script before

-- a legal log: each entry was next, and there are at most `log_limit` entries; the run need not have ended
pub record IsLegal (script : ScriptValue) (history : List Entry) : Type 0 where
  pub each : EachIsNext script history
  pub few : length history ≤ log_limit script

-- what comes next is the entry of an action, or the object that an action needs
abbrev pub IsAct : Next → Type 0
IsAct (Exactly (Did performer outcome act)) = Unit {0}
IsAct (Need need made performer act) = Unit {0}
IsAct next = ⊥

-- the object that is needed, if one is
abbrev pub need_in : Next → Option declared.Need
need_in (Need need made performer act) = Some need
need_in next = None

-- the entry if the needed object is made
abbrev pub made_in : Next → Option Entry
made_in (Need need made performer act) = Some (Did performer made act)
made_in next = None

-- the entry if the needed object is declined
abbrev pub declined_in : Next → Option Entry
declined_in (Need need made performer act) = Some (Did performer (Refused NoObject) act)
declined_in next = None
