-- An answer tells its actions, and what is read is not refused.
use Rattle.std.proofs.Common.{◌≡◌, ◌≢◌, ◌∙◌, ℕ, List, [], ◌∷◌, ◌++◌, refl, sym, ap, arith, append_assoc}
use Rattle.std.proofs.lemmas.List.Elements.{All-head, All-tail}
use Rattle.uvm_acts.specs.declared.acts.Act.{Act}
use Rattle.uvm_acts.specs.declared.acts.Act.TheVariants as act
use Rattle.script_answer_acts.specs.Laws.{LinesTellActs}
use Rattle.script_answer_acts.specs.Lines.{act_line}
use Rattle.serve_answers.specs.Lines.{HasNoNewline}
use Rattle.serve_answers.specs.Answers.{IsTellingAct, answer_text}
use Rattle.serve_answers.specs.Laws.{AnswersTell, ReadingIsDetermined}

-- lines that stand before the first newline of one text are the same, and so is what follows
front-same : (one other rest more : List ℕ) → HasNoNewline one → HasNoNewline other → one ++ 10 ∷ rest ≡ other ++ 10 ∷ more → (other ≡ one) × (rest ≡ more)
front-same [] [] rest more first second same = let tails : rest ≡ more = cc in (refl, tails)
front-same [] (b ∷ other) rest more first second same = let heads : b ≡ 10 = cc in absurd (All-head (λ x. x ≢ 10) b other second heads)
front-same (a ∷ one) [] rest more first second same = let heads : a ≡ 10 = cc in absurd (All-head (λ x. x ≢ 10) a one first heads)
front-same (a ∷ one) (b ∷ other) rest more first second same =
    let heads : b ≡ a = cc in
    let tails : one ++ 10 ∷ rest ≡ other ++ 10 ∷ more = cc in
    let both = front-same one other rest more (All-tail (λ x. x ≢ 10) a one first) (All-tail (λ x. x ≢ 10) b other second) tails in
    (ap (λ x. x ∷ other) heads ∙ ap (λ xs. a ∷ xs) both.0, both.1)

-- the line of an action is not empty
initial-some : (act : Act) → act_line act ≢ []
initial-some (act.Create type_name name) none = cc
initial-some other none = cc

-- an answer is its first row, and what follows
regroup : (act : Act) (acts : List Act) (rest : List ℕ) → answer_text (act ∷ acts) ++ rest ≡ act_line act ++ 10 ∷ (answer_text acts ++ rest)
regroup act acts rest = simp append_assoc

-- an answer with an action is not one without
not-none : (act : Act) (acts : List Act) (rest more : List ℕ) → IsTellingAct act → answer_text (act ∷ acts) ++ rest ≡ 10 ∷ more → ⊥
not-none act acts rest more tells same =
    initial-some act (sym (front-same (act_line act) [] (answer_text acts ++ rest) more tells.1.1 (λ k d less. absurd (omega (arith, less))) (sym (regroup act acts rest) ∙ same)).0)

pub answers_tell : LinesTellActs → AnswersTell
answers_tell lines [] [] rest more first second same = refl
answers_tell lines [] (act ∷ acts) rest more first second same = absurd (not-none act acts more rest (All-head IsTellingAct act acts second) (sym same))
answers_tell lines (act ∷ acts) [] rest more first second same = absurd (not-none act acts rest more (All-head IsTellingAct act acts first) same)
answers_tell lines (act ∷ acts) (other ∷ others) rest more first second same =
    let one = All-head IsTellingAct act acts first in
    let two = All-head IsTellingAct other others second in
    let parts = front-same (act_line act) (act_line other) (answer_text acts ++ rest) (answer_text others ++ more) one.1.1 two.1.1
    (sym (regroup act acts rest) ∙ (same ∙ regroup other others more)) in
    let heads : other ≡ act = lines act other one.0.0 two.0.0 one.0.1 two.0.1 (sym parts.0) in
    ap (λ a. a ∷ others) heads ∙ ap (λ left. act ∷ left) (answers_tell lines acts others rest more (All-tail IsTellingAct act acts first) (All-tail IsTellingAct other others second) parts.1)

-- the row of a line, and what follows
row-first : (row line rest : List ℕ) → row ≡ line ++ 10 ∷ [] → row ++ rest ≡ line ++ 10 ∷ rest
row-first row line rest is = ap (λ text. text ++ rest) is ∙ simp append_assoc

pub reading_is_determined : ReadingIsDetermined
reading_is_determined one other rest more row none same =
    let lines = front-same (act_line row.act) none.line rest more row.alone.1.1 none.good.1
    (sym (row-first one (act_line row.act) rest row.is) ∙ (same ∙ row-first other none.line more none.is)) in
    none.none row.act row.alone.0 (sym lines.0)
