-- What passes through two pipes.
use Rattle.serve_dialogue.proofs.Common.{◌≡◌, ℕ, List, [], ◌∷◌, length, Option, Result, Ok, Err, IfOk, IfErr, OnOk, refl, sym, ap, subst, Appends, Consumes, Appends-nil, Consumes-nil, HasEnded, IsCutAt, IsCutShort, LineError, BreaksOff, IsStop, NeitherStands, ReaderValue, AnswerError, NoAct, NeitherMadeNorDeclined, TooManyActs, Unread, IsUnmade, HasClosed, HasPassed, PipeValue, answered, answered_in, said, said_in}
use Rattle.serve_answers.specs.declared.lines.errors.LineError.TheVariants as line

pub said_in-said : (text : List ℕ) → said_in (said text) ≡ text
said_in-said [] = refl
said_in-said (byte ∷ text) = ap (λ rest. byte ∷ rest) (said_in-said text)

answered_in-said : (text : List ℕ) → answered_in (said text) ≡ []
answered_in-said [] = refl
answered_in-said (byte ∷ text) = answered_in-said text

pub said_in-answered : (text : List ℕ) → said_in (answered text) ≡ []
said_in-answered [] = refl
said_in-answered (byte ∷ text) = said_in-answered text

answered_in-answered : (text : List ℕ) → answered_in (answered text) ≡ text
answered_in-answered [] = refl
answered_in-answered (byte ∷ text) = ap (λ rest. byte ∷ rest) (answered_in-answered text)

-- a reason to stop short is one where less is known of the end
cut-for : (error : LineError) (count : ℕ) (Ended Closed : Type 0) → (Ended → Closed) → IsCutAt error count Ended → IsCutAt error count Closed
cut-for line.TooLong count Ended Closed more cut = cut
cut-for line.Ended count Ended Closed more cut = (cut.0, more cut.1)
cut-for line.Unreadable count Ended Closed more cut = cut
cut-for line.Memory count Ended Closed more cut = cut

short-for : (error : LineError) (text : List ℕ) (Ended Closed : Type 0) → (Ended → Closed) → IsCutShort error text Ended → IsCutShort error text Closed
short-for error text Ended Closed more cut = (cut.0, cut-for error (length text) Ended Closed more cut.1)

stop-for : (error : AnswerError) (count : ℕ) (text : List ℕ) (Ended Closed : Type 0) → (Ended → Closed) → IsStop error count text Ended → IsStop error count text Closed
stop-for (NoAct number) count text Ended Closed more why = why
stop-for (TooManyActs number) count text Ended Closed more why = why
stop-for (NeitherMadeNorDeclined number) count text Ended Closed more why = why
stop-for (Unread number line.TooLong) count text Ended Closed more why = short-for line.TooLong text Ended Closed more why
stop-for (Unread number line.Ended) count text Ended Closed more why = short-for line.Ended text Ended Closed more why
stop-for (Unread number line.Unreadable) count text Ended Closed more why = short-for line.Unreadable text Ended Closed more why
stop-for (Unread number line.Memory) count text Ended Closed more why = tt

neither-for : (error : AnswerError) (text : List ℕ) (IsGone IsSpoken : List ℕ → Type 0) (Ended Closed : Type 0) → ((bytes : List ℕ) → IsGone bytes → IsSpoken bytes) → (Ended → Closed)
    → NeitherStands error text IsGone Ended → NeitherStands error text IsSpoken Closed
neither-for (NoAct number) text IsGone IsSpoken Ended Closed gone more why = why
neither-for (TooManyActs number) text IsGone IsSpoken Ended Closed gone more why = why
neither-for (NeitherMadeNorDeclined number) text IsGone IsSpoken Ended Closed gone more why = (gone _ why.0, why.1, why.2)
neither-for (Unread number reason) text IsGone IsSpoken Ended Closed gone more why = (gone _ why.0, short-for reason text Ended Closed more why.1, why.2)

module _ {R W : Type 0} (remaining : R → Option (List ℕ)) (contents : W → Option (List ℕ)) where
  -- a text was written
  pub passed_said : (old new : PipeValue R W) (text : List ℕ) → new.answers ≡ old.answers → Appends (contents old.output) (contents new.output) text → HasPassed remaining contents old new (said text)
  passed_said old new text same wrote = (
    subst (Appends (contents old.output) (contents new.output)) (sym (said_in-said text)) wrote,
    subst (Consumes (remaining old.answers.reader) (remaining new.answers.reader)) (sym (answered_in-said text))
        (subst (λ (answers : ReaderValue R). Consumes (remaining old.answers.reader) (remaining answers.reader) []) (sym same) (Consumes-nil (remaining old.answers.reader))),
  )

  pub text_said : {A E : Type 0} (result : Result A E) (old new : PipeValue R W) (text : List ℕ) → new.answers ≡ old.answers → OnOk result (Appends (contents old.output) (contents new.output) text)
      → OnOk result (HasPassed remaining contents old new (said text))
  text_said (Ok done) old new text same wrote = passed_said old new text same wrote
  text_said (Err error) old new text same wrote = tt

  -- a text was read
  passed-answered : (old new : PipeValue R W) (text : List ℕ) → new.output ≡ old.output → Consumes (remaining old.answers.reader) (remaining new.answers.reader) text → HasPassed remaining contents old new (answered text)
  passed-answered old new text same gone = (
    subst (Appends (contents old.output) (contents new.output)) (sym (said_in-answered text)) (subst (λ output. Appends (contents old.output) (contents output) []) (sym same) (Appends-nil (contents old.output))),
    subst (Consumes (remaining old.answers.reader) (remaining new.answers.reader)) (sym (answered_in-answered text)) gone,
  )

  -- an answer was read
  pub answer_read : {A E : Type 0} (result : Result A E) (text : A → List ℕ) (old new : PipeValue R W) → new.output ≡ old.output
      → IfOk result (λ answer. Consumes (remaining old.answers.reader) (remaining new.answers.reader) (text answer)) → IfOk result (λ answer. HasPassed remaining contents old new (answered (text answer)))
  answer_read (Ok answer) text old new same gone = passed-answered old new (text answer) same gone
  answer_read (Err error) text old new same gone = tt

  -- or why it was not
  pub acts_unread : {A : Type 0} (result : Result A AnswerError) (old new : PipeValue R W) (count count' : ℕ) → new.output ≡ old.output
      → IfErr result (λ error. BreaksOff error (Consumes (remaining old.answers.reader) (remaining new.answers.reader)) (HasEnded (remaining old.answers.reader) (remaining new.answers.reader)) count count')
      → IfErr result (λ error. BreaksOff error (λ text. HasPassed remaining contents old new (answered text)) (HasClosed remaining contents old new) count count')
  acts_unread (Ok answer) old new count count' same why = tt
  acts_unread (Err error) old new count count' same why =
      record {
        acts = why.acts;
        text = why.text;
        alone = why.alone;
        few = why.few;
        gone = passed-answered old new _ same why.gone;
        why = why.why;
        line = why.line;
      }

  pub made_unread : {A : Type 0} (result : Result A AnswerError) (old new : PipeValue R W) (line : List ℕ) → new.output ≡ old.output
      → IfErr result (λ error. NeitherStands error line (Consumes (remaining old.answers.reader) (remaining new.answers.reader)) (HasEnded (remaining old.answers.reader) (remaining new.answers.reader)))
      → IfErr result (λ error. IsUnmade error (λ text. HasPassed remaining contents old new (answered text)) (HasClosed remaining contents old new))
  made_unread (Ok answer) old new line same why = tt
  made_unread (Err error) old new line same why =
      record { text = line; why = neither-for error line _ _ _ _ (λ text gone. passed-answered old new text same gone) (λ ended. ended) why }
