-- The view of the scripted objects of a run in contracts.
use Rattle.std.specs.Prelude.{◌≡◌, ℕ, List, [], Option, None, Some, is_some, map, slice_get, if◌then◌else◌}
use Rattle.std.specs.Map.{lookup}
use Rattle.uvm_tlm.specs.declared.items.Item.{Item}
use Rattle.uvm_lines.specs.Lines.{call_text}
use Rattle.uvm_acts.specs.declared.acts.Act.{Act}
use Rattle.uvm_acts.specs.declared.acts.Call.{Call}
use Rattle.uvm_acts.specs.declared.acts.Who.{Who}
use Rattle.uvm_object.specs.Objects.{same_who}
use Rattle.script_answers.specs.Keys.{item_in}
use Rattle.script_answers.specs.AnswerActs.{act_with}
use Rattle.script_answers.specs.declared.answer_acts.AnswerAct.{AnswerAct}
use Rattle.script_objects.specs.Answers.{TypeValue}
use Rattle.script_objects.specs.Rules.{answers_to}
use Rattle.script_objects.specs.Scripted.{ScriptedValue, one_more}

-- the answers of all types, and the objects, each with its component or sequence, in no order
pub record SeatsValue : Type 0 where
  pub answers : List TypeValue
  pub held : List (Who × ScriptedValue)

-- the object of a component or a sequence, if it has one
abbrev pub object_of : SeatsValue → Who → Option ScriptedValue
object_of seats who = lookup (same_who who) seats.held

-- the first answer that the rules of an object have for a call, with the place of the rule; `None` if there is none
abbrev pub first_answer : ScriptedValue → Call → Option (ℕ × List AnswerAct)
first_answer object call = slice_get (answers_to object.rules object.used (call_text call) (is_some (item_in call))) 0

-- the actions of an answer, with the item of the call in place of each `*`; none if there is no answer
abbrev pub acts_in : Option Item → Option (ℕ × List AnswerAct) → List Act
acts_in item None = []
acts_in item (Some found) = map (act_with item) found.1

-- the number of answers that each rule has given after this answer
abbrev pub counts_in : List ℕ → Option (ℕ × List AnswerAct) → List ℕ
counts_in before None = before
counts_in before (Some found) = one_more before found.0

-- the actions that an object returns for a call (`acts_by`), and the object after the call (`object_after`)
abbrev pub acts_by : Call → ScriptedValue → List Act
acts_by call object = acts_in (item_in call) (first_answer object call)

abbrev pub object_after : Call → ScriptedValue → ScriptedValue
object_after call object = record object { used = counts_in object.used (first_answer object call) }

-- the object of one component or sequence is replaced by this one or removed, and no other object changes
pub record ChangesAt (who : Who) (object : Option ScriptedValue) (old new : SeatsValue) : Type 0 where
  pub answers : new.answers ≡ old.answers
  pub objects : (other : Who) → object_of new other ≡ (if same_who who other then object else object_of old other)
