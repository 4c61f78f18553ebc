-- An object whose answers are data gives one answer.
use Rattle.script_objects.proofs.Common.{◌≡◌, ℕ, refl, List, [], map, is_some, Item, call_text, View, Act, act_with, AnswersAreFunctions, item_in, answers_to, IsAnswer, one_more, AnswerAct, Option, Some, None, slice_get}

-- what was found says what is answered
said-by : (item : Option Item) (before : View) (found : Option (ℕ × List AnswerAct)) → (said : List Act × View) × IsAnswer item before found said.0 said.1
    × ((acts : List Act) (after : View) → IsAnswer item before found acts after → (acts ≡ said.0) × (after ≡ said.1))
said-by item before None = (([], before), (refl, refl), λ acts after is. is)
said-by item before (Some found) = ((map (act_with item) found.1, one_more before found.0), (refl, refl), λ acts after is. is)

pub answers_are_functions : AnswersAreFunctions
answers_are_functions rules before call = said-by (item_in call) before (slice_get (answers_to rules before (call_text call) (is_some (item_in call))) 0)
