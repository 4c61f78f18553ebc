use Rattle.script_answers.proofs.Common.{◌∙◌, ℕ, List, refl, ap, Bor}
use Rattle.script_answers.proofs.Cuts.{left-joins}
use Rattle.script_answers.proofs.words.Words.rest.Goals as goal

pub returns : goal.returns
returns c = ap (λ (text : Bor (List ℕ)). text.now) c.unwrap_or-text.ensures ∙ left-joins c.args.self.now.left _ refl
