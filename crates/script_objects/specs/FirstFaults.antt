-- The first fault of a table of answers, and its place.
use Rattle.std.specs.Prelude.{◌≡◌, ◌≢◌, ◌⊎◌, ◌++◌, ℕ, Bool, true, false, List, [], ◌∷◌, Option, Some, None, is_some, option_map, if◌then◌else◌}
use Rattle.std.specs.List.{list_all}
use Rattle.toml.specs.Data.{Data, string, array, Items, no_items, item, Members, no_members, member, as_str, as_array, as_table}
use Rattle.uvm_glob.specs.Names.{name_fault}
use Rattle.script_answers.specs.Keys.{IsKeyOf, IsNoKey, LacksItem}
use Rattle.script_answers.specs.AnswerActs.{IsAlone, IsNoAnswerAct, passes, answer_act_line}
use Rattle.script_answers.specs.declared.answer_acts.AnswerAct.{AnswerAct}
use Rattle.script_objects.specs.Rules.{RuleValue}
use Rattle.script_objects.specs.Tables.{AreRulesOf, IsRead, entry_of}
use Rattle.script_objects.specs.declared.faults.AnswerFault.{AnswerFault}
use Rattle.script_objects.specs.declared.faults.AnswerFault.TheVariants.{BadName, NotTable, NoList, NoCall, NoAct, NoItem, Memory}
use Rattle.script_objects.specs.declared.faults.FaultyAnswer.{FaultyAnswer}
use denote.Ref.{Bor}

-- the first invalid element of a list has this fault
abbrev pub IsFirst : {X F : Type 0} → (X → Type 0) → (X → F → Type 0) → List X → F → Type 0
IsFirst IsSound HasFault [] fault = ⊥
IsFirst IsSound HasFault (x ∷ later) fault = HasFault x fault ⊎ (IsSound x × IsFirst IsSound HasFault later fault)

-- the elements of an array
abbrev pub elements : Items → List Data
elements no_items = []
elements (item said later) = said ∷ elements later

-- the keys of a table, each with its value
abbrev pub entries : Members → List (List ℕ × Data)
entries no_members = []
entries (member key said later) = (key, said) ∷ entries later

-- whether a value is a string
abbrev pub is_text : Data → Bool
is_text said = is_some (as_str said)

-- whether a value is an array of strings
abbrev pub are_texts : Data → Bool
are_texts (array items) = list_all is_text (elements items)
are_texts other = false

-- whether the first value of a list is an array
abbrev pub begins_with_array : List Data → Bool
begins_with_array [] = false
begins_with_array (said ∷ later) = is_some (as_array said)

-- whether a value is an array of strings, or a nonempty array of arrays of strings
abbrev pub are_answers : Data → Bool
are_answers (array items) = if begins_with_array (elements items) then list_all are_texts (elements items) else list_all is_text (elements items)
are_answers other = false

-- the strings in some values and in the arrays among them, in order
abbrev pub texts_of : Items → List (List ℕ)
texts_of no_items = []
texts_of (item (string text) later) = text ∷ texts_of later
texts_of (item (array items) later) = texts_of items ++ texts_of later
texts_of (item other later) = texts_of later

-- an answer action can be given: if it passes on an item, some call with the key has an item
abbrev pub Given : Bool → AnswerAct → Type 0
Given has_item answer_act = passes answer_act ≡ true → has_item ≡ true

-- a text is the text of an answer action that can be given
pub record IsLine (has_item : Bool) (line : List ℕ) : Type 0 where
  pub answer_act : AnswerAct
  pub alone : IsAlone answer_act
  pub text : answer_act_line answer_act ≡ line
  pub given : Given has_item answer_act

-- a text is the text of an answer action that passes on an item
abbrev pub PassesOn : List ℕ → Type 0
PassesOn line = (answer_act : AnswerAct) × IsAlone answer_act × (answer_act_line answer_act ≡ line) × (passes answer_act ≡ true)

-- The fault of a text: it is the text of no answer action (`NoAct`). Or it passes on an item, and no call with the key has one (`NoItem`).
abbrev pub IsLineFault : Bool → List ℕ → AnswerFault → Type 0
IsLineFault has_item line NoAct = IsNoAnswerAct line
IsLineFault has_item line NoItem = (has_item ≡ false) × PassesOn line
IsLineFault has_item line other = ⊥

-- a fault, and the text of the action if the action is at fault
abbrev pub Fault : Type 0
Fault = AnswerFault × Option (List ℕ)

-- a text has this fault
abbrev pub HasLineFault : Bool → List ℕ → Fault → Type 0
HasLineFault has_item line fault = (fault.1 ≡ Some line) × IsLineFault has_item line fault.0

-- the first fault of the strings in some values
abbrev pub HasLinesFault : Bool → Items → Fault → Type 0
HasLinesFault has_item items fault = IsFirst (IsLine has_item) (HasLineFault has_item) (texts_of items) fault

-- a text is a key, and `has_item` says whether a call that the key matches has an item
pub record IsKey (key : List ℕ) (has_item : Bool) : Type 0 where
  pub some : IsKeyOf key has_item
  pub lacks : has_item ≡ false → LacksItem key

-- the first fault of the strings in a value
abbrev pub HasAnswersFault : Bool → Data → Fault → Type 0
HasAnswersFault has_item (array items) fault = HasLinesFault has_item items fault
HasAnswersFault has_item other fault = ⊥

-- The fault of a key or its value: the value is not an array of strings or of arrays of strings (`NoList`). Or no call has the key
-- (`NoCall`).
abbrev pub HasKeyFault : List ℕ × Data → AnswerFault → Type 0
HasKeyFault entry NoList = are_answers entry.1 ≡ false
HasKeyFault entry NoCall = (are_answers entry.1 ≡ true) × IsNoKey entry.0
HasKeyFault entry other = ⊥

-- the fault of a rule: a fault of its key or its value; otherwise the first fault of a string in its value
abbrev pub HasRuleFault : List ℕ × Data → Fault → Type 0
HasRuleFault entry (fault, None) = HasKeyFault entry fault
HasRuleFault entry (fault, Some act) = (are_answers entry.1 ≡ true) × ((has_item : Bool) × IsKey entry.0 has_item × HasAnswersFault has_item entry.1 (fault, Some act))

-- a key and its value are a valid rule
abbrev pub IsRule : List ℕ × Data → Type 0
IsRule entry = (rule : RuleValue) × IsRead rule × (entry_of rule ≡ entry)

-- A fault and its place. The place has the key of the type. It has the key of the call if the call or an answer to it is at fault. It has
-- the text of the action if the action is at fault.
pub record FaultAt : Type 0 where
  pub fault : AnswerFault
  pub type_name : List ℕ
  pub call : Option (List ℕ)
  pub act : Option (List ℕ)

-- the first fault of the rules of a type is at this call
abbrev pub HasCallFault : Members → Option (List ℕ) → Fault → Type 0
HasCallFault keyed None fault = ⊥
HasCallFault keyed (Some call) fault = IsFirst IsRule (λ entry fault. (entry.0 ≡ call) × HasRuleFault entry fault) (entries keyed) fault

-- the first fault of the rules of a type
abbrev pub HasRulesFault : Members → FaultAt → Type 0
HasRulesFault keyed at = HasCallFault keyed at.call (at.fault, at.act)

-- the fault of the value of a type: it is not a table, or it has the first fault of its rules
abbrev pub HasTableFault : Option Members → FaultAt → Type 0
HasTableFault None at = (at.fault ≡ NotTable) × (at.call ≡ None) × (at.act ≡ None)
HasTableFault (Some keyed) at = HasRulesFault keyed at

-- the fault of a type: its key is not a name, or its value has a fault
abbrev pub HasTypeFault : List ℕ × Data → FaultAt → Type 0
HasTypeFault entry at =
    (at.type_name ≡ entry.0)
    × (((at.fault ≡ BadName) × (name_fault entry.0 ≢ None) × (at.call ≡ None) × (at.act ≡ None)) ⊎ ((name_fault entry.0 ≡ None) × HasTableFault (as_table entry.1) at))

-- a key and its value are a valid type with its rules
abbrev pub IsType : List ℕ × Data → Type 0
IsType entry = (name_fault entry.0 ≡ None) × ((rules : List RuleValue) × AreRulesOf entry.1 rules)

-- the first fault of a table of answers
abbrev pub HasFirstFault : Members → FaultAt → Type 0
HasFirstFault keyed at = IsFirst IsType HasTypeFault (entries keyed) at

-- the fault and the text of the action in an error for a key
abbrev pub told_in : AnswerFault × Option (Bor (List ℕ)) → Fault
told_in fault = (fault.0, option_map (λ act. act.now) fault.1)

-- an error for a key is `Memory`, or its fault meets the condition
abbrev pub OrMemory : (Fault → Type 0) → AnswerFault × Option (Bor (List ℕ)) → Type 0
OrMemory IsSo fault = (fault.0 ≡ Memory) ⊎ IsSo (told_in fault)

-- the fault and its place in a reported fault
abbrev pub named_fault : FaultyAnswer → FaultAt
named_fault faulty = record { fault = faulty.fault; type_name = faulty.type_name.now; call = option_map (λ call. call.now) faulty.call; act = option_map (λ act. act.now) faulty.act }

-- a reported fault is `Memory`, or its fault and place meet the condition
abbrev pub OrMemoryAt : (FaultAt → Type 0) → FaultyAnswer → Type 0
OrMemoryAt IsSo faulty = (faulty.fault ≡ Memory) ⊎ IsSo (named_fault faulty)
