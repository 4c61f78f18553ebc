-- The laws of the lines of actions and the texts of answers.
use Rattle.std.specs.Prelude.{◌≡◌, ℕ, true, List, ◌++◌, All}
use Rattle.std.specs.List.{list_all}
use Rattle.uvm_report.specs.Texts.{is_text_byte}
use Rattle.uvm_acts.specs.declared.acts.Act.{Act}
use Rattle.script_answer_acts.specs.Lines.{act_line}
use Rattle.script_answers.specs.Reading.{CanBeSaid}
use Rattle.serve_answers.specs.Answers.{IsNoRow, IsRow, IsTellingAct, answer_text}

-- each byte of the line of an action that can be read is a blank or a printable ASCII character
abbrev pub LinesAreShown : Type 0
LinesAreShown = (act : Act) → CanBeSaid act → list_all is_text_byte (act_line act) ≡ true

-- The text of an answer determines its actions and its end: no text begins with the texts of two answers.
abbrev pub AnswersTell : Type 0
AnswersTell = (one other : List Act) (rest more : List ℕ) → All IsTellingAct one → All IsTellingAct other → answer_text one ++ rest ≡ answer_text other ++ more → other ≡ one

-- No text begins both with the row of an action and with the row of no action, so no readable action is rejected.
abbrev pub ReadingIsDetermined : Type 0
ReadingIsDetermined = (one other rest more : List ℕ) → IsRow one → IsNoRow other → one ++ rest ≡ other ++ more → ⊥
