-- What one more setting does to the answer.
use Rattle.std.proofs.Common.{◌≡◌, ℕ, ◌<◌, ◌++◌, reverse, Bool, true, false, List, [], ◌∷◌, Option, Some, None, ◌&&◌, nat_le, if◌then◌else◌, MatchOption, filter, option_map, refl, ap, ◌∙◌, sym, inl, inr, arith}
use Rattle.std.specs.List.{list_all}
use Rattle.std.proofs.lemmas.Bool.{and_parts, and_cases, cases_Bool, false≢true, leb-true, leb-false}
use Rattle.std.proofs.lemmas.Bool.Decides.{nat_tests}
use Rattle.std.proofs.lemmas.List.{reverse-append}
use Rattle.uvm_config.specs.ChosenValue.{gives_way, answer_after}
use Rattle.uvm_glob.specs.Lists.{newest}
use Rattle.uvm_config.specs.Answers.{Setting, answers_at, answering, is_greatest, greatest, answer_of, strongest, strongest_answer, NoneSetNoAnswer, AnswersAreGiven}

-- no setting answers in an empty list
pub answer-none : (text asked : List ℕ) → strongest_answer [] text asked ≡ None
unfolding strongest strongest_answer
answer-none text asked = refl

-- a setting over which none is has a greater precedence than one over which some is
beyond : (settings : List Setting) (low high : Setting) → is_greatest settings low ≡ false → is_greatest settings high ≡ true → low.precedence < high.precedence
beyond [] low high less most = absurd (false≢true (sym less))
beyond (s ∷ older) low high less most =
    let both = and_parts (nat_le s.precedence high.precedence) (is_greatest older high) most in
    elim (and_cases (nat_le s.precedence low.precedence) (is_greatest older low) less) [
      | inl here ↦ omega (arith, leb-false s.precedence low.precedence here, leb-true s.precedence high.precedence both.0)
      | inr later ↦ beyond older low high later both.1
    ]

-- so one more over which some is changes nothing
same_greatest : (settings : List Setting) (low : Setting) → is_greatest settings low ≡ false → (s : Setting) → is_greatest (low ∷ settings) s ≡ is_greatest settings s
same_greatest settings low less s = elim (cases_Bool (is_greatest settings s)) [
  | inl most ↦ let over = beyond settings low s less most in grind (arith, nat_tests)
  | inr other ↦ grind (arith, nat_tests)
]

greatest-less : (settings : List Setting) (low : Setting) → is_greatest settings low ≡ false → greatest (low ∷ settings) ≡ greatest settings
greatest-less settings low less =
    let same = same_greatest settings low less in
    rw (same low, less) (λ i. filter (λ s. same s i) settings)

-- and one over which none is comes first
greatest-most : (settings : List Setting) (high : Setting) → is_greatest settings high ≡ true → newest (greatest (high ∷ settings)) ≡ Some high
greatest-most settings high most = grind (arith, nat_tests)

-- a list that is not empty has a setting over which none is
newest_greatest : (settings : List Setting) → MatchOption (newest (greatest settings)) (settings ≡ []) (λ s. is_greatest settings s ≡ true)
newest_greatest [] = refl
newest_greatest (s ∷ older) = elim (cases_Bool (is_greatest older s)) [
  | inl most ↦ rw (greatest-most older s most) (grind (arith, nat_tests))
  | inr less ↦ rw (greatest-less older s less) (by (newest (greatest older)) less (newest_greatest older))
]
  where
    by : (found : Option Setting) → is_greatest older s ≡ false → MatchOption found (older ≡ []) (λ b. is_greatest older b ≡ true) → MatchOption found (s ∷ older ≡ []) (λ b. is_greatest (s ∷ older) b ≡ true)
    by None less none = absurd (false≢true (sym less ∙ ap (λ l. is_greatest l s) none))
    by (Some b) less most = same_greatest older s less b ∙ most

-- what holds of each setting of a list holds of the newest that passes a test
newest_passes : (P test : Setting → Bool) (settings : List Setting) → list_all P settings ≡ true → MatchOption (newest (filter test settings)) (Unit {0}) (λ s. P s ≡ true)
newest_passes P test [] each = tt
newest_passes P test (s ∷ older) each =
    let both = and_parts (P s) (list_all P older) each in
    elim (cases_Bool (test s)) [
      | inl passes ↦ rw passes both.0
      | inr fails ↦ rw fails (newest_passes P test older both.1)
    ]

-- the strongest of a list with one more: that one, unless a greater one is there
strongest_more : (s : Setting) (older : List Setting) → newest (greatest (s ∷ older)) ≡ (if gives_way s.precedence (option_map answer_of (newest (greatest older))) then Some s else newest (greatest older))
strongest_more s older = elim (cases_Bool (is_greatest older s)) [
  | inl most ↦ greatest-most older s most ∙ yields (newest (greatest older)) (newest_passes (λ other. nat_le other.precedence s.precedence) (is_greatest older) older most)
  | inr less ↦ ap newest (greatest-less older s less) ∙ stays (newest (greatest older)) less (newest_greatest older)
]
  where
    yields : (found : Option Setting) → MatchOption found (Unit {0}) (λ b. nat_le b.precedence s.precedence ≡ true) → Some s ≡ (if gives_way s.precedence (option_map answer_of found) then Some s else found)
    yields None most = refl
    yields (Some b) most = rw most

    stays : (found : Option Setting) → is_greatest older s ≡ false → MatchOption found (older ≡ []) (λ b. is_greatest older b ≡ true) → found ≡ (if gives_way s.precedence (option_map answer_of found) then Some s else found)
    stays None less none = absurd (false≢true (sym less ∙ ap (λ l. is_greatest l s) none))
    stays (Some b) less most = let over = beyond older s b less most in grind (arith, nat_tests)

-- the setting that answers of a list
abbrev pub winner : List Setting → List ℕ → List ℕ → Option Setting
winner settings text asked = newest (greatest (answering settings text asked))

-- with one more setting it is that one, where it answers and no greater one does
pub winner_more : (s : Setting) (older : List Setting) (text asked : List ℕ) → winner (s ∷ older) text asked ≡ (if answers_at text asked s && gives_way s.precedence (option_map answer_of (winner older text asked)) then Some s else winner older text asked)
winner_more s older text asked = elim (cases_Bool (answers_at text asked s)) [
  | inl answers ↦ rw answers (strongest_more s (answering older text asked))
  | inr not ↦ rw not
]

-- the answer where there is a new one and where there is none
chosen : (test : Bool) (s : Setting) (before : Option Setting) → option_map answer_of (if test then Some s else before) ≡ (if test then Some (answer_of s) else option_map answer_of before)
chosen true s before = refl
chosen false s before = refl

-- the answer after one more setting
pub answer-given : (s : Setting) (older : List Setting) (text asked : List ℕ) → strongest_answer (s ∷ older) text asked ≡ answer_after s.scope s.field s.precedence s.value text asked (strongest_answer older text asked)
unfolding strongest strongest_answer answer_after
answer-given s older text asked =
    ap (option_map answer_of) (winner_more s older text asked)
    ∙ chosen (answers_at text asked s && gives_way s.precedence (option_map answer_of (winner older text asked))) s (winner older text asked)

-- the same where the settings are kept in the order in which they were set
pub answer-push : (settings : List Setting) (s : Setting) (text asked : List ℕ) → strongest_answer (reverse (settings ++ s ∷ [])) text asked ≡ answer_after s.scope s.field s.precedence s.value text asked (strongest_answer (reverse settings) text asked)
answer-push settings s text asked =
    ap (λ l. strongest_answer l text asked) (reverse-append settings (s ∷ [])) ∙ answer-given s (reverse settings) text asked

pub none_set_no_answer : NoneSetNoAnswer
none_set_no_answer text asked = answer-none text asked

pub answers_are_given : AnswersAreGiven
answers_are_given setting older text asked = answer-given setting older text asked
