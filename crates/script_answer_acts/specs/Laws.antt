-- The laws of the lines of actions.
use Rattle.std.specs.Prelude.{◌≡◌, ℕ, List, ◌++◌, ◌∷◌, codes}
use Rattle.uvm_glob.specs.Paths.{names_of, path_text}
use Rattle.uvm_acts.specs.declared.acts.Act.{Act}
use Rattle.uvm_lines.specs.Lines.{item_text}
use Rattle.uvm_tlm.specs.declared.items.Item.{Item}
use Rattle.script_answer_acts.specs.Lines.{act_line}
use Rattle.script_answer_acts.specs.ForwardActs.{HasName, forward_act_stem, forwarded}
use Rattle.script_answer_acts.specs.Sound.{HasPlainId, IsPath, IsSound}
use Rattle.script_answer_acts.specs.Words.{act_words, words_of}
use Rattle.script_answer_acts.specs.declared.forward_acts.ForwardAct.{ForwardAct}

-- Two actions that have the same line are the same action. Both actions are valid, and neither changes the severity for the id `none`.
abbrev pub LinesTellActs : Type 0
LinesTellActs = (one other : Act) → IsSound one → IsSound other → HasPlainId one → HasPlainId other → act_line one ≡ act_line other → other ≡ one

-- the line of a forward action with its item: its text up to the item, a blank (32), and the text of the item
abbrev pub ForwardsReadSo : Type 0
ForwardsReadSo = (passing : ForwardAct) (item : Item) → act_line (forwarded passing item) ≡ forward_act_stem passing ++ 32 ∷ item_text item

-- the text of a forward action with `*` in place of its item is the line of no action
abbrev pub ForwardsAreNoActs : Type 0
ForwardsAreNoActs = (passing : ForwardAct) (other : Act) → HasName passing → IsSound other → HasPlainId other → act_line other ≡ forward_act_stem passing ++ codes " *" → ⊥

-- splitting the line of an action at its blanks gives the words of the action
abbrev pub LinesAreWords : Type 0
LinesAreWords = (other : Act) → IsSound other → words_of (act_line other) ≡ act_words other

-- splitting the text of a path gives the names of the path
abbrev pub NamesComeBack : Type 0
NamesComeBack = (names : List (List ℕ)) → IsPath names → names_of (path_text names) ≡ names
