-- What one more setting does to what prevails.
use Rattle.uvm_report.proofs.Common.{◌≡◌, ℕ, ◌++◌, reverse, Bool, true, false, List, [], ◌∷◌, Option, None, ◌&&◌, if◌then◌else◌, MatchOption, filter, map, fold, option_map, refl, ap, ◌∙◌, sym, inl, inr, append_assoc, cases_Bool, eqb-true, append-nil, reverse-append, newest, first_given, Severity, Which, ReportScope, Class, class_of, class_number, gives_way, ChosenValue, after_setting, Setting, applies, settings_for, is_of, last_of_first_class, choice_of, choice_among, setting_of, Some}
use Rattle.uvm_report.specs.declared.settings.Which.TheVariants as which
use Rattle.uvm_report.specs.declared.settings.Class.TheVariants as class

module _ {A : Type 0} where
  -- a setting that was found is of that class
  abbrev FoundOf : ℕ → Option (Setting A) → Type 0
  FoundOf number found = MatchOption found (Unit {0}) (λ setting. class_number (class_of setting.which) ≡ number)

  found_of : (class : Class) (settings : List (Setting A)) → FoundOf (class_number class) (newest (filter (is_of class) settings))
  found_of class [] = tt
  found_of class (setting ∷ older) = elim (cases_Bool (is_of class setting)) [
    | inl here ↦ rw here (eqb-true (class_number (class_of setting.which)) (class_number class) here)
    | inr other ↦ rw other (found_of class older)
  ]

  -- one more setting, of each class: it prevails unless one of an earlier class does
  abbrev Prevails : Setting A → Class → Option (Setting A) → Option (Setting A) → Type 0
  Prevails setting class before after = after ≡ (if gives_way class (option_map choice_of before) then Some setting else before)

  over_all : (s : Setting A) (f0 f1 f2 f3 : Option (Setting A)) → FoundOf 0 f0 → FoundOf 1 f1 → FoundOf 2 f2 → FoundOf 3 f3
      → Prevails s class.SeverityAndId (first_given (f0 ∷ f1 ∷ f2 ∷ f3 ∷ [])) (first_given (Some s ∷ f1 ∷ f2 ∷ f3 ∷ []))
  over_all s (Some b) f1 f2 f3 i0 i1 i2 i3 = rw i0 refl
  over_all s None (Some b) f2 f3 i0 i1 i2 i3 = rw i1 refl
  over_all s None None (Some b) f3 i0 i1 i2 i3 = rw i2 refl
  over_all s None None None (Some b) i0 i1 i2 i3 = rw i3 refl
  over_all s None None None None i0 i1 i2 i3 = refl

  over_severities : (s : Setting A) (f0 f1 f2 f3 : Option (Setting A)) → FoundOf 0 f0 → FoundOf 1 f1 → FoundOf 2 f2 → FoundOf 3 f3
      → Prevails s class.Id (first_given (f0 ∷ f1 ∷ f2 ∷ f3 ∷ [])) (first_given (f0 ∷ Some s ∷ f2 ∷ f3 ∷ []))
  over_severities s (Some b) f1 f2 f3 i0 i1 i2 i3 = rw i0 refl
  over_severities s None (Some b) f2 f3 i0 i1 i2 i3 = rw i1 refl
  over_severities s None None (Some b) f3 i0 i1 i2 i3 = rw i2 refl
  over_severities s None None None (Some b) i0 i1 i2 i3 = rw i3 refl
  over_severities s None None None None i0 i1 i2 i3 = refl

  over_general : (s : Setting A) (f0 f1 f2 f3 : Option (Setting A)) → FoundOf 0 f0 → FoundOf 1 f1 → FoundOf 2 f2 → FoundOf 3 f3
      → Prevails s class.Severity (first_given (f0 ∷ f1 ∷ f2 ∷ f3 ∷ [])) (first_given (f0 ∷ f1 ∷ Some s ∷ f3 ∷ []))
  over_general s (Some b) f1 f2 f3 i0 i1 i2 i3 = rw i0 refl
  over_general s None (Some b) f2 f3 i0 i1 i2 i3 = rw i1 refl
  over_general s None None (Some b) f3 i0 i1 i2 i3 = rw i2 refl
  over_general s None None None (Some b) i0 i1 i2 i3 = rw i3 refl
  over_general s None None None None i0 i1 i2 i3 = refl

  over_none : (s : Setting A) (f0 f1 f2 f3 : Option (Setting A)) → FoundOf 0 f0 → FoundOf 1 f1 → FoundOf 2 f2 → FoundOf 3 f3
      → Prevails s class.All (first_given (f0 ∷ f1 ∷ f2 ∷ f3 ∷ [])) (first_given (f0 ∷ f1 ∷ f2 ∷ Some s ∷ []))
  over_none s (Some b) f1 f2 f3 i0 i1 i2 i3 = rw i0 refl
  over_none s None (Some b) f2 f3 i0 i1 i2 i3 = rw i1 refl
  over_none s None None (Some b) f3 i0 i1 i2 i3 = rw i2 refl
  over_none s None None None (Some b) i0 i1 i2 i3 = rw i3 refl
  over_none s None None None None i0 i1 i2 i3 = refl

  -- of some settings the newest of each class
  abbrev found : Class → List (Setting A) → Option (Setting A)
  found class settings = newest (filter (is_of class) settings)

  -- one more setting that applies
  more : (scope : List ℕ) (which : Which) (value : A) (older : List (Setting A))
      → (let s : Setting A = record { scope = scope; which = which; value = value } in Prevails s (class_of which) (last_of_first_class older) (last_of_first_class (s ∷ older)))
  more scope (which.Both severity id) value older =
      over_all _ (found class.SeverityAndId older) (found class.Id older) (found class.Severity older) (found class.All older) (found_of class.SeverityAndId older) (found_of class.Id older) (found_of class.Severity older) (found_of class.All older)
  more scope (which.Id id) value older =
      over_severities _ (found class.SeverityAndId older) (found class.Id older) (found class.Severity older) (found class.All older) (found_of class.SeverityAndId older) (found_of class.Id older) (found_of class.Severity older) (found_of class.All older)
  more scope (which.Severity severity) value older =
      over_general _ (found class.SeverityAndId older) (found class.Id older) (found class.Severity older) (found class.All older) (found_of class.SeverityAndId older) (found_of class.Id older) (found_of class.Severity older) (found_of class.All older)
  more scope which.All value older =
      over_none _ (found class.SeverityAndId older) (found class.Id older) (found class.Severity older) (found class.All older) (found_of class.SeverityAndId older) (found_of class.Id older) (found_of class.Severity older) (found_of class.All older)

  -- the setting that prevails
  abbrev pub winner : List (Setting A) → List ℕ → Severity → List ℕ → Option (Setting A)
  winner settings text severity id = last_of_first_class (settings_for settings text severity id)

  -- with one more setting it is that one, where it applies and none of an earlier class prevails
  pub winner-cons : (s : Setting A) (older : List (Setting A)) (text : List ℕ) (severity : Severity) (id : List ℕ) → winner (s ∷ older) text severity id ≡ (if applies text severity id s && gives_way (class_of s.which) (option_map choice_of (winner older text severity id)) then Some s else winner older text severity id)
  winner-cons s older text severity id = elim (cases_Bool (applies text severity id s)) [
    | inl here ↦ rw here (more s.scope s.which s.value (settings_for older text severity id))
    | inr other ↦ rw other refl
  ]

  -- the choice where there is a new setting and where there is none
  chosen : (test : Bool) (s : Setting A) (before : Option (Setting A)) → option_map choice_of (if test then Some s else before) ≡ (if test then Some (choice_of s) else option_map choice_of before)
  chosen true s before = refl
  chosen false s before = refl

  -- the choice after one more setting
  pub choice-given : (s : Setting A) (older : List (Setting A)) (text : List ℕ) (severity : Severity) (id : List ℕ) → choice_among (s ∷ older) text severity id ≡ after_setting s.scope s.which s.value text severity id (choice_among older text severity id)
  unfolding choice_among after_setting
  choice-given s older text severity id =
      ap (option_map choice_of) (winner-cons s older text severity id)
      ∙ chosen (applies text severity id s && gives_way (class_of s.which) (option_map choice_of (winner older text severity id))) s (winner older text severity id)

  -- where there is no setting there is no choice
  pub choice-none : (text : List ℕ) (severity : Severity) (id : List ℕ) → choice_among {A = A} [] text severity id ≡ None
  unfolding choice_among
  choice-none text severity id = refl

  -- the choice after one more entry
  abbrev pub after_entry : List ℕ → Severity → List ℕ → Option (ChosenValue A) → ReportScope × A → Option (ChosenValue A)
  after_entry text severity id before entry = after_setting entry.0.scope entry.0.which entry.1 text severity id before

  -- what is kept in front of others stands behind them where the newest is first
  pub reverse-entry : (e : ReportScope × A) (es : List (ReportScope × A)) (older : List (Setting A)) → reverse (map setting_of (e ∷ es)) ++ older ≡ reverse (map setting_of es) ++ setting_of e ∷ older
  reverse-entry e es older =
      ap (λ l. l ++ older) (reverse-append (setting_of e ∷ []) (map setting_of es)) ∙ append_assoc (reverse (map setting_of es)) (setting_of e ∷ []) older

  -- the entries come to the choice, one after another
  pub choice-in_turn : (es : List (ReportScope × A)) (older : List (Setting A)) (text : List ℕ) (severity : Severity) (id : List ℕ) → fold (after_entry text severity id) (choice_among older text severity id) es ≡ choice_among (reverse (map setting_of es) ++ older) text severity id
  choice-in_turn [] older text severity id = refl
  choice-in_turn (e ∷ es) older text severity id =
      ap (λ before. fold (after_entry text severity id) before es) (sym (choice-given (setting_of e) older text severity id))
      ∙ choice-in_turn es (setting_of e ∷ older) text severity id
      ∙ ap (λ l. choice_among l text severity id) (sym (reverse-entry e es older))

  pub choice-all : (es : List (ReportScope × A)) (text : List ℕ) (severity : Severity) (id : List ℕ) → fold (after_entry text severity id) None es ≡ choice_among (reverse (map setting_of es)) text severity id
  choice-all es text severity id =
      ap (λ before. fold (after_entry text severity id) before es) (sym (choice-none text severity id))
      ∙ (simp append-nil at (choice-in_turn es [] text severity id))

pub ruleset given = choice-none
