-- What answers is the strongest.
use Rattle.std.proofs.Common.{◌≡◌, ◌<◌, ◌≤◌, ℕ, Bool, true, false, List, [], ◌∷◌, ◌++◌, Option, Some, None, ◌&&◌, nat_le, if◌then◌else◌, MatchOption, IfSome, IsTrue, All, option_map, refl, ap, subst, ◌∙◌, sym, inl, inr, arith}
use Rattle.std.proofs.lemmas.Bool.{cases_Bool, false≢true, leb-true, leb-false}
use Rattle.std.proofs.lemmas.List.Elements.{All-nil, All-cons, All-head, All-tail, All-append}
use Rattle.uvm_config.specs.ChosenValue.{gives_way}
use Rattle.uvm_config.specs.Answers.{Setting, answers_at, answer_of, strongest, strongest_answer, Prevails, AnswerIsStrongest, NoneWhereNoneAnswers}
use Rattle.uvm_config.proofs.Given.{winner, winner_more}

-- none of the settings answers
abbrev NoneAnswers : List ℕ → List ℕ → List Setting → Type 0
NoneAnswers text asked settings = All (λ s. ¬ (IsTrue (answers_at text asked s))) settings

-- a setting prevails in the list
abbrev PrevailsIn : List ℕ → List ℕ → List Setting → Setting → Type 0
PrevailsIn text asked settings s = (newer : List Setting) × (older : List Setting) × (settings ≡ newer ++ s ∷ older) × Prevails text asked newer s older

-- what is said of the setting that answers, if one does
abbrev Says : List ℕ → List ℕ → List Setting → Option Setting → Type 0
Says text asked settings found = MatchOption found (NoneAnswers text asked settings) (PrevailsIn text asked settings)

module _ (text asked : List ℕ) where
  -- each setting that answers has at most this precedence
  abbrev AtMost : ℕ → Setting → Type 0
  AtMost most other = IsTrue (answers_at text asked other) → other.precedence ≤ most

  -- where a setting prevails none has a greater precedence
  bounded : (settings : List Setting) (s : Setting) → PrevailsIn text asked settings s → All (AtMost s.precedence) settings
  bounded settings s (newer, older, is, p) =
      rw is (All-append (AtMost s.precedence) newer (s ∷ older) (λ k d within answers. let less = p.over_newer k d within answers in omega arith)
      (All-cons (AtMost s.precedence) s older (λ _. omega arith) p.over_older))

  -- one more setting that does not answer changes nothing
  silent : (s : Setting) (older : List Setting) → answers_at text asked s ≡ false → (found : Option Setting) → Says text asked older found → Says text asked (s ∷ older) found
  silent s older not None none = All-cons (λ other. ¬ (IsTrue (answers_at text asked other))) s older (λ yes. false≢true (sym not ∙ yes)) none
  silent s older not (Some b) (newer, before, is, p) = (
    s ∷ newer,
    before,
    ap (λ l. s ∷ l) is,
    record {
      answers = p.answers;
      over_newer = All-cons (λ other. IsTrue (answers_at text asked other) → other.precedence < b.precedence) s newer (λ yes. absurd (false≢true (sym not ∙ yes))) p.over_newer;
      over_older = p.over_older;
    },
  )

  -- one that answers prevails, unless a greater one does
  says_more : (s : Setting) (older : List Setting) → answers_at text asked s ≡ true → (found : Option Setting) → Says text asked older found → Says text asked (s ∷ older) (if gives_way s.precedence (option_map answer_of found) then Some s else found)
  says_more s older answers None none = (
    [],
    older,
    refl,
    record {
      answers = answers;
      over_newer = All-nil (λ other. IsTrue (answers_at text asked other) → other.precedence < s.precedence);
      over_older = λ k d within yes. absurd (none k d within yes);
    },
  )
  says_more s older answers (Some b) prevails = elim (cases_Bool (nat_le b.precedence s.precedence)) [
    | inl under ↦ rw under (
      [],
      older,
      refl,
      record {
        answers = answers;
        over_newer = All-nil (λ other. IsTrue (answers_at text asked other) → other.precedence < s.precedence);
        over_older = λ k d within yes. omega (arith, bounded older b prevails k d within yes, leb-true b.precedence s.precedence under);
      },
    )
    | inr over ↦ rw over (
      s ∷ prevails.0,
      prevails.1,
      ap (λ l. s ∷ l) prevails.2,
      record {
        answers = prevails.3.answers;
        over_newer = All-cons (λ other. IsTrue (answers_at text asked other) → other.precedence < b.precedence) s prevails.0 (λ _. leb-false b.precedence s.precedence over) prevails.3.over_newer;
        over_older = prevails.3.over_older;
      },
    )
  ]

  says : (settings : List Setting) → Says text asked settings (winner settings text asked)
  says [] = All-nil (λ s. ¬ (IsTrue (answers_at text asked s)))
  says (s ∷ older) =
      subst (Says text asked (s ∷ older)) (sym (winner_more s older text asked)) (by (answers_at text asked s) refl (says older))
    where
      by : (test : Bool) → answers_at text asked s ≡ test → Says text asked older (winner older text asked) → Says text asked (s ∷ older) (if test && gives_way s.precedence (option_map answer_of (winner older text asked)) then Some s else winner older text asked)
      by true answers said = says_more s older answers (winner older text asked) said
      by false not said = silent s older not (winner older text asked) said

pub answer_is_strongest : AnswerIsStrongest
unfolding strongest strongest_answer
answer_is_strongest settings text asked = by (winner settings text asked) (says text asked settings)
  where
    by : (found : Option Setting) → Says text asked settings found → IfSome (option_map answer_of found) (λ answer. (newer : List Setting) × (setting : Setting) × (older : List Setting) × (settings ≡ newer ++ setting ∷ older) × Prevails text asked newer setting older × (answer_of setting ≡ answer))
    by None none = tt
    by (Some s) (newer, older, is, p) = (newer, s, older, is, p, refl)

-- what holds of each setting of a list holds of one in it
at_one : (P : Setting → Type 0) (newer : List Setting) (s : Setting) (older : List Setting) → All P (newer ++ s ∷ older) → P s
at_one P [] s older each = All-head P s older each
at_one P (n ∷ newer) s older each = at_one P newer s older (All-tail P n (newer ++ s ∷ older) each)

pub none_where_none_answers : NoneWhereNoneAnswers
unfolding strongest strongest_answer
none_where_none_answers settings text asked =
    (none (winner settings text asked) (says text asked settings), silence (winner settings text asked) (says text asked settings))
  where
    none : (found : Option Setting) → Says text asked settings found → option_map answer_of found ≡ None → NoneAnswers text asked settings
    none None said is = said
    none (Some s) said is = cc

    silence : (found : Option Setting) → Says text asked settings found → NoneAnswers text asked settings → option_map answer_of found ≡ None
    silence None said silent = refl
    silence (Some s) (newer, older, is, p) silent =
        absurd (at_one (λ other. ¬ (IsTrue (answers_at text asked other))) newer s older (subst (NoneAnswers text asked) is silent) p.answers)
