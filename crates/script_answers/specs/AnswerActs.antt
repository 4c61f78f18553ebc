-- The actions of an answer, and the text of each.
use Rattle.std.specs.Prelude.{◌≡◌, ℕ, Bool, true, false, pos, List, [], ◌∷◌, ◌++◌, Option, Some, None, codes}
use Rattle.uvm_tlm.specs.declared.items.Item.{Item}
use Rattle.uvm_acts.specs.declared.acts.Act.{Act}
use Rattle.script_answer_acts.specs.Lines.{act_line}
use Rattle.script_answer_acts.specs.declared.forward_acts.ForwardAct.{ForwardAct}
use Rattle.script_answer_acts.specs.ForwardActs.{HasName, forward_act_stem, forwarded}
use Rattle.script_answer_acts.specs.Sound.{HasPlainId, HasSoundPlaces, IsSound}
use Rattle.script_answers.specs.Reading.{CanBeSaid, HasGlob}
use Rattle.script_answers.specs.declared.answer_acts.AnswerAct.{AnswerAct}
use Rattle.script_answers.specs.declared.answer_acts.AnswerAct.TheVariants.{Says, Passes}

-- the text of an answer action: its line, with `*` in place of the item if it passes on the item of the call
abbrev pub answer_act_line : AnswerAct → List ℕ
answer_act_line (Says other) = act_line other
answer_act_line (Passes passing) = forward_act_stem passing ++ codes " *"

-- An answer action is the only one with its text: its parts are valid, and it does not change the severity for the id `none`.
abbrev pub IsAlone : AnswerAct → Type 0
IsAlone (Says other) = IsSound other × HasPlainId other
IsAlone (Passes passing) = HasName passing

-- An answer action can be read: its parts are valid and fit their types, and it does not change the severity for the id `none`.
abbrev pub CanBe : AnswerAct → Type 0
CanBe (Says other) = CanBeSaid other
CanBe (Passes passing) = HasName passing

-- a text is the line of no action that can be read
abbrev pub IsNoLine : List ℕ → Type 0
IsNoLine line = (other : Act) → CanBeSaid other → act_line other ≡ line → ⊥

-- a text is the text of no forward action
abbrev pub IsNoPassing : List ℕ → Type 0
IsNoPassing line = (passing : ForwardAct) → HasName passing → forward_act_stem passing ++ codes " *" ≡ line → ⊥

-- a text is the text of no answer action
abbrev pub IsNoAnswerAct : List ℕ → Type 0
IsNoAnswerAct line = (answer_act : AnswerAct) → CanBe answer_act → answer_act_line answer_act ≡ line → ⊥

-- What is known before the line of an action is compared: its globs and paths are valid. It does not change the severity for the id `none`.
abbrev pub IsPlain : Act → Type 0
IsPlain other = HasSoundPlaces other × HasPlainId other × HasGlob other

-- whether an answer action passes on the item of the call
abbrev pub passes : AnswerAct → Bool
passes (Says other) = false
passes (Passes passing) = true

-- the item of a call, or four zeros if the call has no item
abbrev pub item_or_zeros : Option Item → Item
item_or_zeros None = record { 0 = pos 0 ∷ pos 0 ∷ pos 0 ∷ pos 0 ∷ [] }
item_or_zeros (Some item) = item

-- the action that an answer action results in, with this item of the call if there is one
abbrev pub act_with : Option Item → AnswerAct → Act
act_with heard (Says other) = other
act_with heard (Passes passing) = forwarded passing (item_or_zeros heard)
