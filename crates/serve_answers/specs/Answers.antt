-- The answers of a client, and the errors of reading them.
use Rattle.std.specs.Prelude.{◌≡◌, ◌≢◌, ◌≤◌, ◌+◌, ◌-◌, ◌^◌, max, min, ℕ, Bool, true, false, List, [], ◌∷◌, ◌++◌, length, All, codes}
use Rattle.std.specs.List.{flat_map}
use Rattle.uvm_acts.specs.declared.acts.Act.{Act}
use Rattle.script_answer_acts.specs.Lines.{act_line}
use Rattle.script_answers.specs.Reading.{CanBeSaid}
use Rattle.script_answers.specs.AnswerActs.{IsNoLine}
use Rattle.serve_answers.specs.Lines.{IsCutShort, IsLine}
use Rattle.serve_answers.specs.declared.lines.errors.LineError.TheVariants.{Memory}
use Rattle.serve_answers.specs.declared.errors.AnswerError.{AnswerError}
use Rattle.serve_answers.specs.declared.errors.AnswerError.TheVariants.{NoAct, NeitherMadeNorDeclined, TooManyActs, Unread}

-- THE TEXTS OF ANSWERS

-- the row of an action: its line and a newline (10)
abbrev pub act_row : Act → List ℕ
act_row act = act_line act ++ 10 ∷ []

-- the answer to a call: the row of each action, and an empty line
abbrev pub answer_text : List Act → List ℕ
answer_text acts = flat_map act_row acts ++ 10 ∷ []

-- the word that says whether the client made an object
abbrev pub made_word : Bool → List ℕ
made_word true = codes "made"
made_word false = codes "declined"

-- the answer to a request for an object: that word on a line of its own
abbrev pub made_text : Bool → List ℕ
made_text made = made_word made ++ 10 ∷ []

-- An action that its line determines: it can be read, so no other such action has this line. The line has at most 4,096 bytes.
abbrev pub IsTellingAct : Act → Type 0
IsTellingAct act = CanBeSaid act × IsLine (act_line act)

-- the number of the line that is `more` lines later, at most 2^64 - 1
abbrev pub count_after : ℕ → ℕ → ℕ
count_after count more = max count (min (count + more) (2 ^ 64 - 1))

-- WHY AN ANSWER IS NOT READ: which texts the reader has consumed, and whether the input has ended

-- A text is the row of no action: it is a line that is not empty and that no action that can be read has.
pub record IsNoRow (text : List ℕ) : Type 0 where
  pub line : List ℕ
  pub is : text ≡ line ++ 10 ∷ []
  pub good : IsLine line
  pub some : line ≢ []
  pub none : IsNoLine line

-- a text is the row of an action that its line determines
pub record IsRow (text : List ℕ) : Type 0 where
  pub act : Act
  pub is : text ≡ act_row act
  pub alone : IsTellingAct act

-- the error of a line that is not read, by the part of it that was consumed; it is never `Memory`
abbrev pub IsUnread : AnswerError → List ℕ → (List ℕ → Type 0) → Type 0 → Type 0
IsUnread (Unread number why) text gone ended = gone text × IsCutShort why text ended × (why ≢ Memory)
IsUnread other text gone ended = ⊥

-- the error of an answer to a request for an object: its line is neither `made` nor `declined`, or is not read
abbrev pub NeitherStands : AnswerError → List ℕ → (List ℕ → Type 0) → Type 0 → Type 0
NeitherStands (NeitherMadeNorDeclined number) text gone ended = gone (text ++ 10 ∷ []) × IsLine text × ((made : Bool) → text ≢ made_word made)
NeitherStands other text gone ended = IsUnread other text gone ended

-- Why reading stops after `count` actions, by the text that follows. It is the row of no action, or of an action after 1,000 others. Or the
-- text does not reach a newline, or memory ran out.
abbrev pub IsStop : AnswerError → ℕ → List ℕ → Type 0 → Type 0
IsStop (NoAct number) count text ended = IsNoRow text
IsStop (TooManyActs number) count text ended = (count ≡ 1000) × IsRow text
IsStop (Unread number Memory) count text ended = Unit {0}
IsStop (Unread number why) count text ended = IsCutShort why text ended
IsStop (NeitherMadeNorDeclined number) count text ended = ⊥

-- the reading of an action stops: the reader has consumed a text that explains the error
pub record HasStopped (error : AnswerError) (IsGone : List ℕ → Type 0) (HasEnded : Type 0) : Type 0 where
  pub text : List ℕ
  pub gone : IsGone text
  pub why : IsStop error 0 text HasEnded

-- The reading of an answer to a call stops: the reader has consumed the rows of at most 1,000 actions, and then a text that explains the
-- error. The reader is then at the line after those rows.
pub record BreaksOff (error : AnswerError) (IsGone : List ℕ → Type 0) (HasEnded : Type 0) (count count' : ℕ) : Type 0 where
  pub acts : List Act
  pub text : List ℕ
  pub alone : All IsTellingAct acts
  pub few : length acts ≤ 1000
  pub gone : IsGone (flat_map act_row acts ++ text)
  pub why : IsStop error (length acts) text HasEnded
  pub line : count' ≡ count_after count (length acts + 1)
