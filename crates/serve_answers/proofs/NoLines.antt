-- Lines of no action.
use Rattle.std.proofs.Common.{◌≡◌, ◌∙◌, ◌<◌, ◌⊎◌, ℕ, zero, suc, true, List, [], ◌∷◌, inl, inr, ap, sym, subst, arith}
use Rattle.std.specs.List.{list_all}
use Rattle.std.specs.Str.{IsAscii, IsUtf8}
use Rattle.std.proofs.lemmas.Bool.{and_parts}
use Rattle.std.proofs.lemmas.Bool.Decides.{nat_tests}
use Rattle.std.proofs.lemmas.Str.{IsUtf8-from_ascii}
use Rattle.uvm_report.specs.Texts.{is_text_byte}
use Rattle.script_answer_acts.specs.Laws.{ForwardsAreNoActs}
use Rattle.script_answer_acts.specs.Lines.{act_line}
use Rattle.script_answer_acts.specs.ForwardActs.{HasName}
use Rattle.script_answer_acts.specs.declared.forward_acts.ForwardAct.{ForwardAct}
use Rattle.script_answers.specs.AnswerActs.{IsAlone, IsNoLine, IsNoAnswerAct, answer_act_line}
use Rattle.script_answers.specs.declared.faults.LineFault.{LineFault}
use Rattle.script_answers.specs.declared.faults.LineFault.TheVariants.{Memory, NoAct}
use Rattle.script_answers.specs.declared.answer_acts.AnswerAct.{AnswerAct}
use Rattle.script_answers.specs.declared.answer_acts.AnswerAct.TheVariants.{Says, Passes}
use Rattle.serve_answers.specs.Laws.{LinesAreShown}

low : (b : ℕ) → is_text_byte b ≡ true → b < 128
low b good = grind (arith, nat_tests)

-- what is shown is ASCII
ascii : (text : List ℕ) → list_all is_text_byte text ≡ true → IsAscii text
ascii [] good i = omega arith
ascii (b ∷ text) good zero = low b (and_parts (is_text_byte b) (list_all is_text_byte text) good).0
ascii (b ∷ text) good (suc i) = ascii text (and_parts (is_text_byte b) (list_all is_text_byte text) good).1 i

-- what is no UTF-8
pub no_text : (line : List ℕ) → LinesAreShown → (IsUtf8 line → ⊥) → IsNoLine line
no_text line shown none = λ act can is. none (subst IsUtf8 is (IsUtf8-from_ascii (act_line act) (ascii (act_line act) (shown act can))))

-- what passes on the item of a call
pub no_passing : (line text : List ℕ) (answer_act : AnswerAct) (passing : ForwardAct) → text ≡ line → answer_act ≡ Passes passing
    → ForwardsAreNoActs → IsAlone answer_act → answer_act_line answer_act ≡ text → IsNoLine line
no_passing line text answer_act passing whole is apart alone same =
    let named : HasName passing = subst IsAlone is alone in
    let stem : answer_act_line (Passes passing) ≡ text = sym (ap answer_act_line is) ∙ same in
    λ act can said. apart passing act named can.0 can.1 (said ∙ sym (stem ∙ whole))

-- what is not an answer
pub no_act : (fault : LineFault) (line text : List ℕ) → text ≡ line → (fault ≡ Memory) ⊎ ((fault ≡ NoAct) × IsNoAnswerAct text) → (fault ≡ Memory) ⊎ ((fault ≡ NoAct) × IsNoLine line)
no_act fault line text whole (inl memory) = inl memory
no_act fault line text whole (inr none) = inr (none.0, λ act can is. none.1 (Says act) can (is ∙ sym whole))
