-- Texts of no act of an answer.
use Rattle.script_answers.proofs.Common.{◌≡◌, ◌∙◌, List, ℕ, ◌++◌, Option, Some, IfNone, append_cancel_right, ForwardAct, HasName, forward_act_stem, IsNoPassing, codes, None}

-- a text passes on nothing, where what stands before the ` *` at its end is no such text
pub starred : (line stem : List ℕ) (found : Option ForwardAct) → line ≡ stem ++ codes " *"
    → IfNone found ((passing : ForwardAct) → HasName passing → forward_act_stem passing ≡ stem → ⊥) → IfNone found (IsNoPassing line)
starred line stem None ends none = λ passing named is. none passing named (append_cancel_right (forward_act_stem passing) stem (codes " *") (is ∙ ends))
starred line stem (Some passing) ends none = tt
