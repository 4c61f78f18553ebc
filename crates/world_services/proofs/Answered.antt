-- An act of the last answer.
use Rattle.world_services.proofs.Common.{◌≡◌, ℕ, zero, suc, ◌+◌, ◌-◌, ◌<◌, ◌≤◌, Bool, true, false, List, [], ◌∷◌, ◌++◌, length, drop, slice_get, Option, Some, refl, ap, sym, ◌∙◌, add-one, arith, length-drop, Phase, Who, Act, Entry, AnswerCursor, rest_of, head_of, acts_at, unless_noted, IsAnswerCursor, length-append}
use Rattle.world_services.proofs.Entered.{acts-later, answered-later}

within-drop : (n : ℕ) (xs : List Act) (y : Act) (ys : List Act) → drop n xs ≡ y ∷ ys → n < length xs
within-drop zero [] y ys h = cc
within-drop zero (x ∷ xs) y ys h = omega arith
within-drop (suc n) [] y ys h = cc
within-drop (suc n) (x ∷ xs) y ys h = omega (arith, within-drop n xs y ys h)

-- an act is left, so that not all are done
left-within : (noted : Bool) (n : ℕ) (xs : List Act) (act : Act) (rest : List Act) → unless_noted noted (drop n xs) ≡ act ∷ rest → n < length xs
left-within true n xs act rest e = cc
left-within false n xs act rest e = within-drop n xs act rest e

pub answer-open :
    {test_creation : Act} {history : List Entry} {left : List Act} {last : Who} {acting : Option Phase} {kept : AnswerCursor} (act : Act)
    → left ≡ act ∷ rest_of left → IsAnswerCursor test_creation history left last acting kept → kept.done < kept.count
answer-open {test_creation} {history} {left} {kept = kept} act first a = rw a.count (left-within kept.noted kept.done (acts_at test_creation history kept.place) act (rest_of left) (a.rest ∙ first))

-- with one more entry the answer stays
pub answer-later :
    {test_creation : Act} {history : List Entry} {left : List Act} {last : Who} {acting : Option Phase} {kept : AnswerCursor} {entry : Entry}
    → IsAnswerCursor test_creation history left last acting kept → IsAnswerCursor test_creation (entry ∷ history) left last acting kept
answer-later {test_creation} {history} {kept = kept} {entry} a =
    let same = acts-later test_creation entry history kept.place a.within in
    record {
      performer = a.performer;
      phase = a.phase;
      rest = rw same a.rest;
      within = answered-later entry history kept.place a.within;
      count = rw same a.count;
      few = a.few;
    }

rest-drop : (n : ℕ) (xs : List Act) → drop (suc n) xs ≡ rest_of (drop n xs)
rest-drop zero [] = refl
rest-drop zero (x ∷ xs) = refl
rest-drop (suc n) [] = refl
rest-drop (suc n) (x ∷ xs) = rest-drop n xs

rest-unless : (noted : Bool) (n : ℕ) (xs : List Act) → unless_noted noted (drop (suc n) xs) ≡ rest_of (unless_noted noted (drop n xs))
rest-unless true n xs = refl
rest-unless false n xs = rest-drop n xs

-- with one more act one more is done
pub answer-next :
    {test_creation : Act} {history : List Entry} {left : List Act} {last : Who} {acting : Option Phase} {kept : AnswerCursor} {entry : Entry} {act : Act}
    → left ≡ act ∷ rest_of left → IsAnswerCursor test_creation history left last acting kept → IsAnswerCursor test_creation (entry ∷ history) (rest_of left) last acting (record kept { done = kept.done + 1 })
answer-next {test_creation} {history} {left} {kept = kept} {entry} {act} first a =
    let same = acts-later test_creation entry history kept.place a.within in
    let open_ : kept.done < kept.count = answer-open act first a in
    record {
      performer = a.performer;
      phase = a.phase;
      rest = rw (add-one, same) (rest-unless kept.noted kept.done (acts_at test_creation history kept.place) ∙ ap rest_of a.rest);
      within = answered-later entry history kept.place a.within;
      count = rw same a.count;
      few = omega (arith, open_);
    }

-- a note ends it
pub answer-noted :
    {test_creation : Act} {history : List Entry} {left : List Act} {last : Who} {acting : Option Phase} {kept : AnswerCursor} {entry : Entry}
    → IsAnswerCursor test_creation history left last acting kept → IsAnswerCursor test_creation (entry ∷ history) [] last acting (record kept { noted = true })
answer-noted {test_creation} {history} {kept = kept} {entry} a =
    let same = acts-later test_creation entry history kept.place a.within in
    record {
      performer = a.performer;
      phase = a.phase;
      rest = refl;
      within = answered-later entry history kept.place a.within;
      count = rw same a.count;
      few = a.few;
    }

-- and so does the end of a sequence, with one more act done
pub answer-finished :
    {test_creation : Act} {history : List Entry} {left : List Act} {last : Who} {acting : Option Phase} {kept : AnswerCursor} {entry : Entry} {act : Act}
    → left ≡ act ∷ rest_of left → IsAnswerCursor test_creation history left last acting kept → IsAnswerCursor test_creation (entry ∷ history) [] last acting (record kept { noted = true; done = kept.done + 1 })
answer-finished {test_creation} {history} {kept = kept} {entry} {act} first a =
    let same = acts-later test_creation entry history kept.place a.within in
    let open_ : kept.done < kept.count = answer-open act first a in
    record {
      performer = a.performer;
      phase = a.phase;
      rest = refl;
      within = answered-later entry history kept.place a.within;
      count = rw same a.count;
      few = omega (arith, open_);
    }

head-drop : (n : ℕ) (xs : List Act) → slice_get xs n ≡ head_of (drop n xs)
head-drop zero [] = refl
head-drop zero (x ∷ xs) = refl
head-drop (suc n) [] = refl
head-drop (suc n) (x ∷ xs) = head-drop n xs

-- the next act
pub answer-head :
    {test_creation : Act} {history : List Entry} {left : List Act} {last : Who} {acting : Option Phase} {kept : AnswerCursor}
    → kept.noted ≡ false → IsAnswerCursor test_creation history left last acting kept → slice_get (acts_at test_creation history kept.place) kept.done ≡ head_of left
answer-head {test_creation} {history} {kept = kept} on a =
    let here = rw on at a.rest in
    head-drop kept.done (acts_at test_creation history kept.place) ∙ ap head_of here

-- how many are left
pub answer-count : {test_creation : Act} {history : List Entry} {left : List Act} {last : Who} {acting : Option Phase} {kept : AnswerCursor} → kept.noted ≡ false → IsAnswerCursor test_creation history left last acting kept → kept.count - kept.done ≡ length left
answer-count {test_creation} {history} {kept = kept} on a =
    let here = rw on at a.rest in
    rw a.count (sym (length-drop kept.done (acts_at test_creation history kept.place)) ∙ ap length here)

pub one-longer : {A : Type 0} (xs : List A) (x : A) → length xs ≤ length (xs ++ x ∷ [])
one-longer xs x = omega (arith, length-append xs (x ∷ []))

pub length-snoc : {A : Type 0} (xs : List A) (x : A) → length (xs ++ x ∷ []) ≡ suc (length xs)
length-snoc xs x = omega (arith, length-append xs (x ∷ []))

-- the first act that is left stands before the others
pub head-left : (left : List Act) (act : Act) → head_of left ≡ Some act → left ≡ act ∷ rest_of left
head-left [] act e = cc
head-left (first ∷ acts) act e = let same : first ≡ act = cc in ap (λ (a : Act). a ∷ acts) same
