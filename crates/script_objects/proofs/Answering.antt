-- An answer by the rules of an object, as a value.
use Rattle.script_objects.proofs.Common.{◌≡◌, ◌∙◌, ℕ, List, [], Result, Ok, Err, IfOk, OnOk, is_some, map, ap, refl, sym, Item, call_text, Act, Call, item_in, AnswerAct, answers_to, IsAnswer, ScriptedSays, ScriptedValue, acts_by, acts_in, counts_in, first_answer, object_after, Option, Some, None, slice_get}

is-answer : (item : Option Item) (before : List ℕ) (found : Option (ℕ × List AnswerAct)) (acts : List Act) (after : List ℕ) → IsAnswer item before found acts after → (acts ≡ acts_in item found) × (after ≡ counts_in before found)
is-answer item before None acts after is = (is.0, is.1)
is-answer item before (Some found) acts after is = (is.0, is.1)

pub acts_said : (object : ScriptedValue) (call : Call) (acts : List Act) (after : List ℕ) → ScriptedSays object.rules object.used call acts after → acts ≡ acts_by call object
acts_said object call acts after said = (is-answer (item_in call) object.used (first_answer object call) acts after said).0

pub object_said : (object new : ScriptedValue) (call : Call) (acts : List Act) → ScriptedSays object.rules object.used call acts new.used → new ≡ record object { used = new.used } → new ≡ object_after call object
object_said object new call acts said same =
    same ∙ ap (λ used. record object { used = used }) (is-answer (item_in call) object.used (first_answer object call) acts new.used said).1
