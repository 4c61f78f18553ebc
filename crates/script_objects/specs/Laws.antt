-- The laws of scripted answers.
use Rattle.std.specs.Prelude.{◌≡◌, List}
use Rattle.uvm_object.specs.Objects.{View}
use Rattle.uvm_acts.specs.declared.acts.Act.{Act}
use Rattle.uvm_acts.specs.declared.acts.Call.{Call}
use Rattle.script_objects.specs.Rules.{RuleValue}
use Rattle.script_objects.specs.Scripted.{ScriptedSays}
use Rattle.script_objects.specs.Answers.{TypeValue}
use Rattle.script_objects.specs.Tables.{AreTypesOf}
use Rattle.toml.specs.Data.{Members}

-- For given rules, a view and a call, the answer and the next view of a scripted object exist and are unique.
abbrev pub AnswersAreFunctions : Type 0
AnswersAreFunctions =
    (rules : List RuleValue) (before : View) (call : Call) →
    (said : List Act × View) × ScriptedSays rules before call said.0 said.1
    × ((acts : List Act) (after : View) → ScriptedSays rules before call acts after → (acts ≡ said.0) × (after ≡ said.1))

-- a table of answers is the table of no other types and rules
abbrev pub TablesTellTypes : Type 0
TablesTellTypes = (members : Members) (one other : List TypeValue) → AreTypesOf members one → AreTypesOf members other → other ≡ one
