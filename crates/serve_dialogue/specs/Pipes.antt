-- The value of two pipes in contracts.
use Rattle.std.specs.Prelude.{◌≡◌, ℕ, List, [], ◌∷◌, ◌++◌, Option, refl}
use Rattle.std.specs.Io.KnownBytes.{Appends, Consumes}
use Rattle.std.proofs.Common.{ap, subst, sym}
use Rattle.std.proofs.KnownBytes.{Appends-nil, Appends-trans, Consumes-nil, Consumes-trans}
use Rattle.serve_answers.specs.Lines.{HasEnded}
use Rattle.serve_answers.specs.Readers.{ReaderValue}
use Rattle.serve_dialogue.specs.Spoken.{Answered, Said, Spoken, answered_in, said_in}

-- the value of a pipe client: the reader of the client's answers, and the writer that the client reads
pub record PipeValue (R W : Type 0) : Type 0 where
  pub answers : ReaderValue R
  pub output : W

module _ {R W : Type 0} (remaining : R → Option (List ℕ)) (contents : W → Option (List ℕ)) where
  -- the output grew by what the kernel said, and the input lost what the client answered
  abbrev pub HasPassed : PipeValue R W → PipeValue R W → List Spoken → Type 0
  HasPassed old new talk =
      Appends (contents old.output) (contents new.output) (said_in talk) × Consumes (remaining old.answers.reader) (remaining new.answers.reader) (answered_in talk)

  -- the input has ended: no byte of it is left
  abbrev pub HasClosed : PipeValue R W → PipeValue R W → Type 0
  HasClosed old new = HasEnded (remaining old.answers.reader) (remaining new.answers.reader)

-- what both sides said in two talks, one after the other

pub said_in-append : (front back : List Spoken) → said_in (front ++ back) ≡ said_in front ++ said_in back
said_in-append [] back = refl
said_in-append (Said byte ∷ front) back = ap (λ text. byte ∷ text) (said_in-append front back)
said_in-append (Answered byte ∷ front) back = said_in-append front back

pub answered_in-append : (front back : List Spoken) → answered_in (front ++ back) ≡ answered_in front ++ answered_in back
answered_in-append [] back = refl
answered_in-append (Said byte ∷ front) back = answered_in-append front back
answered_in-append (Answered byte ∷ front) back = ap (λ text. byte ∷ text) (answered_in-append front back)

module _ {R W : Type 0} (remaining : R → Option (List ℕ)) (contents : W → Option (List ℕ)) where
  pub passed-silent : (pipe : PipeValue R W) → HasPassed remaining contents pipe pipe []
  passed-silent pipe = (Appends-nil (contents pipe.output), Consumes-nil (remaining pipe.answers.reader))

  pub passed-joined : (first half last : PipeValue R W) (front back : List Spoken) → HasPassed remaining contents first half front → HasPassed remaining contents half last back
      → HasPassed remaining contents first last (front ++ back)
  passed-joined first half last front back one more = (
    subst (Appends (contents first.output) (contents last.output)) (sym (said_in-append front back)) (Appends-trans _ _ _ (said_in front) (said_in back) one.0 more.0),
    subst (Consumes (remaining first.answers.reader) (remaining last.answers.reader)) (sym (answered_in-append front back))
        (Consumes-trans _ _ _ (answered_in front) (answered_in back) one.1 more.1),
  )
