-- The choice is that of the setting that prevails.
use Rattle.uvm_report.proofs.Common.{◌≡◌, ℕ, Bool, true, false, List, [], ◌∷◌, ◌++◌, Option, None, ◌&&◌, nat_le, if◌then◌else◌, MatchOption, IfSome, IsTrue, All, option_map, refl, ap, subst, ◌∙◌, sym, inl, inr, arith, cases_Bool, false≢true, leb-true, leb-false, All-nil, All-cons, All-head, All-tail, All-append, Severity, class_of, class_number, gives_way, Setting, applies, choice_of, choice_among, IsBefore, IsNotAfter, Prevails, ChoicePrevails, NoChoiceWhereNoneApplies, Some}
use Rattle.uvm_report.proofs.Given.{winner, winner-cons}

module _ {A : Type 0} (text : List ℕ) (severity : Severity) (id : List ℕ) where
  -- what holds of a setting that applies
  abbrev WhereApplies : (Setting A → Type 0) → Setting A → Type 0
  WhereApplies P s = IsTrue (applies text severity id s) → P s

  abbrev NoneApplies : List (Setting A) → Type 0
  NoneApplies settings = All (λ s. ¬ (IsTrue (applies text severity id s))) settings

  -- a setting prevails in the list
  abbrev PrevailsIn : List (Setting A) → Setting A → Type 0
  PrevailsIn settings s = (newer : List (Setting A)) × (older : List (Setting A)) × (settings ≡ newer ++ s ∷ older) × Prevails text severity id newer s older

  -- what is said of the setting that prevails, if one does
  abbrev Says : List (Setting A) → Option (Setting A) → Type 0
  Says settings found = MatchOption found (NoneApplies settings) (PrevailsIn settings)

  -- where a setting prevails none is of an earlier class
  bounded : (settings : List (Setting A)) (s : Setting A) → PrevailsIn settings s → All (WhereApplies (IsNotAfter s)) settings
  bounded settings s (newer, older, is, p) =
      rw is (All-append (WhereApplies (IsNotAfter s)) newer (s ∷ older) (λ k d within here. let less = p.over_newer k d within here in omega arith)
      (All-cons (WhereApplies (IsNotAfter s)) s older (λ _. omega arith) p.over_older))

  -- one more setting that does not apply changes nothing
  silent : (s : Setting A) (older : List (Setting A)) → applies text severity id s ≡ false → (found : Option (Setting A)) → Says older found → Says (s ∷ older) found
  silent s older not None none = All-cons (λ other. ¬ (IsTrue (applies text severity id other))) s older (λ here. false≢true (sym not ∙ here)) none
  silent s older not (Some b) (newer, before, is, p) = (
    s ∷ newer,
    before,
    ap (λ l. s ∷ l) is,
    record {
      applies_itself = p.applies_itself;
      over_newer = All-cons (WhereApplies (IsBefore b)) s newer (λ here. absurd (false≢true (sym not ∙ here))) p.over_newer;
      over_older = p.over_older;
    },
  )

  -- one that applies prevails, unless one of an earlier class does
  says_more : (s : Setting A) (older : List (Setting A)) → applies text severity id s ≡ true → (found : Option (Setting A)) → Says older found → Says (s ∷ older) (if gives_way (class_of s.which) (option_map choice_of found) then Some s else found)
  says_more s older here None none = (
    [],
    older,
    refl,
    record {
      applies_itself = here;
      over_newer = All-nil (WhereApplies (IsBefore s));
      over_older = λ k d within other. absurd (none k d within other);
    },
  )
  says_more s older here (Some b) prevails = elim (cases_Bool (nat_le (class_number (class_of s.which)) (class_number (class_of b.which)))) [
    | inl first ↦ rw first (
      [],
      older,
      refl,
      record {
        applies_itself = here;
        over_newer = All-nil (WhereApplies (IsBefore s));
        over_older = λ k d within other. omega (arith, bounded older b prevails k d within other, leb-true (class_number (class_of s.which)) (class_number (class_of b.which)) first);
      },
    )
    | inr later ↦ rw later (
      s ∷ prevails.0,
      prevails.1,
      ap (λ l. s ∷ l) prevails.2,
      record {
        applies_itself = prevails.3.applies_itself;
        over_newer = All-cons (WhereApplies (IsBefore b)) s prevails.0 (λ _. leb-false (class_number (class_of s.which)) (class_number (class_of b.which)) later) prevails.3.over_newer;
        over_older = prevails.3.over_older;
      },
    )
  ]

  says : (settings : List (Setting A)) → Says settings (winner settings text severity id)
  says [] = All-nil (λ s. ¬ (IsTrue (applies text severity id s)))
  says (s ∷ older) =
      subst (Says (s ∷ older)) (sym (winner-cons s older text severity id)) (by (applies text severity id s) refl (says older))
    where
      by : (test : Bool) → applies text severity id s ≡ test → Says older (winner older text severity id) → Says (s ∷ older) (if test && gives_way (class_of s.which) (option_map choice_of (winner older text severity id)) then Some s else winner older text severity id)
      by true here said = says_more s older here (winner older text severity id) said
      by false not said = silent s older not (winner older text severity id) said

-- what holds of each setting of a list holds of one in it
at_one : {A : Type 0} (P : Setting A → Type 0) (newer : List (Setting A)) (s : Setting A) (older : List (Setting A)) → All P (newer ++ s ∷ older) → P s
at_one P [] s older each = All-head P s older each
at_one P (n ∷ newer) s older each = at_one P newer s older (All-tail P n (newer ++ s ∷ older) each)

pub choice_prevails : {A : Type 0} → ChoicePrevails A
unfolding choice_among
choice_prevails {A} settings text severity id = by (winner settings text severity id) (says text severity id settings)
  where
    by : (found : Option (Setting A)) → Says text severity id settings found → IfSome (option_map choice_of found) (λ choice. (newer : List (Setting A)) × (setting : Setting A) × (older : List (Setting A)) × (settings ≡ newer ++ setting ∷ older) × Prevails text severity id newer setting older × (choice_of setting ≡ choice))
    by None none = tt
    by (Some s) (newer, older, is, p) = (newer, s, older, is, p, refl)

pub no_choice_where_none_applies : {A : Type 0} → NoChoiceWhereNoneApplies A
unfolding choice_among
no_choice_where_none_applies {A} settings text severity id =
    (none (winner settings text severity id) (says text severity id settings), silence (winner settings text severity id) (says text severity id settings))
  where
    none : (found : Option (Setting A)) → Says text severity id settings found → option_map choice_of found ≡ None → NoneApplies text severity id settings
    none None said is = said
    none (Some s) said is = cc

    silence : (found : Option (Setting A)) → Says text severity id settings found → NoneApplies text severity id settings → option_map choice_of found ≡ None
    silence None said not = refl
    silence (Some s) (newer, older, is, p) not =
        absurd (at_one (λ other. ¬ (IsTrue (applies text severity id other))) newer s older (subst (NoneApplies text severity id) is not) p.applies_itself)
