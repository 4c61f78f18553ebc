-- The TOML table of given answers.
use Rattle.std.specs.Prelude.{◌≡◌, ◌<◌, true, false, ℕ, List, [], ◌∷◌, All, Bool, Some, String, map, length, string_bytes, if◌then◌else◌}
use Rattle.std.specs.List.Sorted.{IsSortedBy, IsStableBy}
use Rattle.std.specs.declared.alloc.Global.{Global}
use Rattle.toml.specs.Data.{Data, as_table, string, array, no_items, Members, no_members, member}
use Rattle.toml.specs.View.{items_of, view}
use Rattle.toml.specs.declared.value.Value.{Value}
use Rattle.script_answers.specs.AnswerActs.{IsAlone, answer_act_line}
use Rattle.script_objects.specs.Answers.{TypeValue}
use Rattle.script_answers.specs.Keys.{IsKeyOf}
use Rattle.script_objects.specs.Rules.{RuleValue, is_longer}
use Rattle.script_answers.specs.declared.answer_acts.AnswerAct.{AnswerAct}

-- the string of an answer action
abbrev pub answer_act_data : AnswerAct → Data
answer_act_data answer_act = string (answer_act_line answer_act)

-- the array of the actions of an answer
abbrev pub answer_data : List AnswerAct → Data
answer_data answer_acts = array (items_of (map answer_act_data answer_acts))

-- the actions of the first answer as an array, which is empty if there is no answer
abbrev pub only_data : List (List AnswerAct) → Data
only_data [] = array no_items
only_data (answer_acts ∷ others) = answer_data answer_acts

-- the value at the key of a rule: the array of its answers, or its only answer
abbrev pub data_of : RuleValue → Data
data_of rule = if rule.once then array (items_of (map answer_data rule.answers)) else only_data rule.answers

-- a rule as an entry of a table: its key and its value
abbrev pub entry_of : RuleValue → List ℕ × Data
entry_of rule = (rule.key, data_of rule)

-- the key and the value of an entry of a table
abbrev pub entry_in : String Global × Value → List ℕ × Data
entry_in entry = (string_bytes entry.0, view entry.1)

-- the table with these entries
abbrev pub members_from : List (List ℕ × Data) → Members
members_from [] = no_members
members_from (entry ∷ entries) = member entry.0 entry.1 (members_from entries)

-- A rule as it is read: its key matches a call. One answer is given each time, or at least one is given once. Each action is the only one
-- with its text.
pub record IsRead (rule : RuleValue) : Type 0 where
  pub has_item : Bool
  pub key : IsKeyOf rule.key has_item
  pub always : rule.once ≡ false → length rule.answers ≡ 1
  pub once : rule.once ≡ true → 0 < length rule.answers
  pub acts : All (All IsAlone) rule.answers

-- The rules of a type are those of its table. Those that fix more bytes of a line come first; others keep the order of the table.
pub record AreRulesOf (said : Data) (rules : List RuleValue) : Type 0 where
  pub read : List RuleValue
  pub each : All IsRead read
  pub table : as_table said ≡ Some (members_from (map entry_of read))
  pub longest_first : IsSortedBy is_longer rules
  pub in_order : IsStableBy is_longer read rules

-- the types are those of the table, in the order of its entries, each with its rules
abbrev pub AreTypesOf : Members → List TypeValue → Type 0
AreTypesOf no_members [] = Unit {0}
AreTypesOf no_members (rules ∷ others) = ⊥
AreTypesOf (member type_name said rest) [] = ⊥
AreTypesOf (member type_name said rest) (rules ∷ others) = (rules.type_name ≡ type_name) × AreRulesOf said rules.rules × AreTypesOf rest others
