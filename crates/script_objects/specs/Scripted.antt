-- The answers of scripted objects.
use Rattle.std.specs.Prelude.{◌≡◌, ℕ, List, [], Option, Some, None, is_some, length, map, min, replicate, ◌^◌, ◌-◌, ◌+◌, slice_get, slice_index_or}
use Rattle.std.specs.List.{slice_set}
use Rattle.uvm_tlm.specs.declared.items.Item.{Item}
use Rattle.uvm_lines.specs.Lines.{call_text}
use Rattle.uvm_object.specs.Objects.{View}
use Rattle.uvm_acts.specs.declared.acts.Act.{Act}
use Rattle.uvm_acts.specs.declared.acts.Call.{Call}
use Rattle.script_answers.specs.AnswerActs.{act_with}
use Rattle.script_answers.specs.Keys.{item_in}
use Rattle.script_objects.specs.Rules.{RuleValue, answers_to}
use Rattle.script_answers.specs.declared.answer_acts.AnswerAct.{AnswerAct}

-- a scripted object: its type, the rules of the type, and how many answers each rule has given
pub record ScriptedValue : Type 0 where
  pub type_name : List ℕ
  pub rules : List RuleValue
  pub used : List ℕ

-- a new object of a type, whose rules have given no answer
abbrev pub new_of : List ℕ → List RuleValue → ScriptedValue
new_of type_name rules = record { type_name = type_name; rules = rules; used = replicate (length rules) 0 }

-- the counts with 1 added at a place, up to 2^64 - 1
abbrev pub one_more : List ℕ → ℕ → List ℕ
one_more counts place = slice_set counts place (min (slice_index_or counts place 0 + 1) (2 ^ 64 - 1))

-- The actions and the next counts for the answer that was found. If there is none, there are no actions, and the counts stay.
abbrev pub IsAnswer : Option Item → View → Option (ℕ × List AnswerAct) → List Act → View → Type 0
IsAnswer item before None acts after = (acts ≡ []) × (after ≡ before)
IsAnswer item before (Some found) acts after = (acts ≡ map (act_with item) found.1) × (after ≡ one_more before found.0)

-- A scripted object answers a call with the first answer that its rules have for the call. Its view is the number of answers of each rule.
abbrev pub ScriptedSays : List RuleValue → View → Call → List Act → View → Type 0
ScriptedSays rules before call acts after = IsAnswer (item_in call) before (slice_get (answers_to rules before (call_text call) (is_some (item_in call))) 0) acts after
