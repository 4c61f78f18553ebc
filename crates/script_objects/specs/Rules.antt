-- The rules of scripted answers.
use Rattle.std.specs.Prelude.{ℕ, Bool, List, length, ◌||◌, not, Option, Some, None, slice_get, option_map, if◌then◌else◌}
use Rattle.std.specs.List.{enumerate_from, filter_map, list_any, zip}
use Rattle.std.specs.Ordering.{is_lt, nat_cmp}
use Rattle.std.specs.declared.cmp.Reverse.{Reverse}
use Rattle.script_answers.specs.AnswerActs.{passes}
use Rattle.script_answers.specs.Keys.{fixed, is_for}
use Rattle.script_answers.specs.declared.answer_acts.AnswerAct.{AnswerAct}

-- The answers of a type to the calls of one key. Each answer is given once, in order; otherwise one answer is given each time.
pub record RuleValue : Type 0 where
  pub key : List ℕ
  pub once : Bool
  pub answers : List (List AnswerAct)

-- whether an answer passes on the item of the call
abbrev pub needs_item : List AnswerAct → Bool
needs_item answer_acts = list_any passes answer_acts

-- an answer, if it can be given: if it passes on an item, the call must have an item
abbrev pub given : Bool → Option (List AnswerAct) → Option (List AnswerAct)
given has_item None = None
given has_item (Some answer_acts) = if has_item || not (needs_item answer_acts) then Some answer_acts else None

-- The answer of a rule to the call with this line, after `used` answers. It is the next one, or the only one of a rule that repeats it.
abbrev pub answer_of : RuleValue → List ℕ → ℕ → Bool → Option (List AnswerAct)
answer_of rule line used has_item = if is_for rule.key line then given has_item (slice_get rule.answers (if rule.once then used else 0)) else None

-- the place of a rule and its answer to the call with this line, after the given number of answers
abbrev pub answer_at : List ℕ → Bool → ℕ × (RuleValue × ℕ) → Option (ℕ × List AnswerAct)
answer_at line has_item at = option_map (λ answer_acts. (at.0, answer_acts)) (answer_of at.1.0 line at.1.1 has_item)

-- the answers that the rules have for the call with this line, each with the place of its rule
abbrev pub answers_to : List RuleValue → List ℕ → List ℕ → Bool → List (ℕ × List AnswerAct)
answers_to rules counts line has_item = filter_map (answer_at line has_item) (enumerate_from 0 (zip rules counts))

-- the number of bytes of a line that the key of a rule fixes, in an order that puts greater numbers first
abbrev pub length_key : RuleValue → Reverse ℕ
length_key rule = record { 0 = length (fixed rule.key) }

-- whether the key of a rule fixes more bytes of a line than the key of another rule
abbrev pub is_longer : RuleValue → RuleValue → Bool
is_longer rule other = is_lt (nat_cmp (length (fixed other.key)) (length (fixed rule.key)))
