use Rattle.script_tables.proofs.Common.{◌∙◌, sym, refl}
use Rattle.script_tables.proofs.ActionNames.{first-map}
use Rattle.script_tables.proofs.report_tables.actions_named.Goals as goal

-- each word names an action
pub returns-in-None : goal.returns-in-None
returns-in-None c = let none = first-map c.args.words.now ∙ sym c.first_other.ensures ∙ c.in-None.is in rw (none, c.action_set.ensures) refl

-- some word names none
pub returns-in-Some : goal.returns-in-Some
returns-in-Some c = let some = first-map c.args.words.now ∙ sym c.first_other.ensures ∙ c.in-Some.is in rw some refl
