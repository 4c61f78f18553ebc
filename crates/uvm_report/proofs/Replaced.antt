-- What a setting does that takes the place of the one that was for the same.
use Rattle.uvm_report.proofs.Common.{◌≡◌, ℕ, suc, ◌+◌, List, [], ◌∷◌, ◌++◌, reverse, slice_get, insert, remove, Bool, true, false, Option, None, ◌⊎◌, nat_eq, map, filter, option_map, refl, ap, ◌∙◌, sym, inl, inr, arith, position_or_len, option_map_or, keys_of, remove_entry, pointwise, bytes_decides, cases_Bool, false≢true, and_parts, nat_tests, insert_end, append-nil, map-append, reverse-append, insert_entry, move_index, index_before, newest, first_given, Severity, Info, Warning, Error, Fatal, Which, ReportScope, after_setting, Setting, applies, is_of, classes, choice_of, choice_among, setting_of, length, Some}
use Rattle.uvm_report.specs.declared.settings.Which.TheVariants as which
use Rattle.uvm_report.specs.contracts.severities.SeverityPartialEq.TheImpl as severity_eq
use Rattle.uvm_report.specs.contracts.settings.WhichPartialEq.TheImpl as which_eq
use Rattle.uvm_report.specs.contracts.settings.ReportScopePartialEq.TheImpl as report_scope_eq
use Rattle.uvm_report.proofs.Given.{choice-given, reverse-entry}

-- what `==` gives, of severities, of what names reports, and of what settings are for: two that are the same are equal
abbrev same_severities : Severity → Severity → Bool
same_severities = (severity_eq.ghosts).eq

abbrev same_which : Which → Which → Bool
same_which = (which_eq.ghosts).eq

abbrev same_report_scope : ReportScope → ReportScope → Bool
same_report_scope = (report_scope_eq.ghosts).eq

equal-severities : (a b : Severity) → same_severities a b ≡ true → a ≡ b
equal-severities Info Info same = refl
equal-severities Warning Warning same = refl
equal-severities Error Error same = refl
equal-severities Fatal Fatal same = refl
equal-severities a b same = absurd (false≢true same)

equal-which : (a b : Which) → same_which a b ≡ true → a ≡ b
equal-which which.All which.All same = refl
equal-which (which.Severity a) (which.Severity b) same = ap (λ named. which.Severity named) (equal-severities a b same)
equal-which (which.Id a) (which.Id b) same = ap (λ named. which.Id named) ((bytes_decides a b).0 same)
equal-which (which.Both a a_id) (which.Both b b_id) same =
    let both = and_parts (same_severities a b) (pointwise nat_eq a_id b_id) same in
    ap (λ named. which.Both named a_id) (equal-severities a b both.0) ∙ ap (λ named_id. which.Both b named_id) ((bytes_decides a_id b_id).0 both.1)
equal-which a b same = absurd (false≢true same)

pub equal-report_scope : (a b : ReportScope) → same_report_scope a b ≡ true → a ≡ b
equal-report_scope a b same =
    let both = and_parts (pointwise nat_eq a.scope b.scope) (same_which a.which b.which) same in
    λ i. record { scope = (bytes_decides a.scope b.scope).0 both.0 i; which = equal-which a.which b.which both.1 i }

module _ {A : Type 0} where
  -- a setting that does not pass both of two tests makes no difference
  unpassed : (p q : Setting A → Bool) (old : Setting A) (newer older : List (Setting A)) → (q old ≡ false) ⊎ (p old ≡ false)
      → filter p (filter q (newer ++ old ∷ older)) ≡ filter p (filter q (newer ++ older))
  unpassed p q old [] older (inl fails) = rw fails refl
  unpassed p q old [] older (inr fails) = elim (cases_Bool (q old)) [
    | inl here ↦ rw (here, fails) refl
    | inr not ↦ rw not refl
  ]
  unpassed p q old (n ∷ newer) older fails = elim (cases_Bool (q n)) [
    | inl here ↦ elim (cases_Bool (p n)) [
      | inl passes ↦ rw (here, passes) (ap (λ l. n ∷ l) (unpassed p q old newer older fails))
      | inr not ↦ rw (here, not) (unpassed p q old newer older fails)
    ]
    | inr not ↦ rw not (unpassed p q old newer older fails)
  ]

  -- nor does one where a newer one passes both if it does
  outdone : (p q : Setting A → Bool) (s old : Setting A) (newer older : List (Setting A)) → p old ≡ p s → q old ≡ q s
      → newest (filter p (filter q (s ∷ newer ++ old ∷ older))) ≡ newest (filter p (filter q (s ∷ newer ++ older)))
  outdone p q s old newer older same_p same_q = elim (cases_Bool (q s)) [
    | inl here ↦ elim (cases_Bool (p s)) [
      | inl passes ↦ rw (here, passes) refl
      | inr not ↦ rw (here, not) (ap newest (unpassed p q old newer older (inr (same_p ∙ not))))
    ]
    | inr not ↦ rw not (ap newest (unpassed p q old newer older (inl (same_q ∙ not))))
  ]

  -- so the choice is the same without the older of two settings with one scope and one `Which`
  choice-without : (s old : Setting A) (newer older : List (Setting A)) → old.scope ≡ s.scope → old.which ≡ s.which → (text : List ℕ) (severity : Severity) (id : List ℕ)
      → choice_among (s ∷ newer ++ old ∷ older) text severity id ≡ choice_among (s ∷ newer ++ older) text severity id
  unfolding choice_among
  choice-without s old newer older scope which text severity id =
      let here : applies text severity id old ≡ applies text severity id s = rw (scope, which) refl in
      λ i. option_map choice_of (first_given (map (λ class. outdone (is_of class) (applies text severity id) s old newer older (rw which refl) here i) classes))

-- where something is moved before the end, and what is moved behind another
first-before : (n : ℕ) → index_before 0 (suc n) ≡ n
first-before n = grind (arith, nat_tests)

later-before : (i n : ℕ) → index_before (1 + i) (suc n) ≡ suc (index_before i n)
later-before i n = grind (arith, nat_tests)

move_index-later : {X : Type 0} (x : X) (xs : List X) (i j : ℕ) → move_index (x ∷ xs) (1 + i) (suc j) ≡ x ∷ move_index xs i j
move_index-later {X} x xs i j = let one : 1 + i ≡ suc i = omega arith in rw one (by (slice_get xs i))
  where
    by : (found : Option X) → option_map_or (λ y. insert (remove (x ∷ xs) (suc i)) (suc j) y) found (x ∷ xs) ≡ x ∷ option_map_or (λ y. insert (remove xs i) j y) found xs
    by None = refl
    by (Some y) = refl

-- entries, by a test of what they are for that passes at equal ones alone
module _ {A : Type 0} (eq : ReportScope → ReportScope → Bool) (equal : (a b : ReportScope) → eq a b ≡ true → a ≡ b) (report_scope : ReportScope) (value : A) where
  -- an entry that is put before the end stands last, without the one that was for the same
  moved-last : (es : List (ReportScope × A))
      → move_index (insert_entry eq es report_scope value) (position_or_len (eq report_scope) (keys_of es)) (index_before (position_or_len (eq report_scope) (keys_of es)) (length es)) ≡ remove_entry (eq report_scope) es ++ (report_scope, value) ∷ []
  moved-last [] = refl
  moved-last (e ∷ es) = elim (cases_Bool (eq report_scope e.0)) [
    | inl here ↦ rw (here, first-before (length es)) (insert_end es (e.0, value) ∙ ap (λ r. es ++ (r, value) ∷ []) (sym (equal report_scope e.0 here)))
    | inr other ↦
        let i : ℕ = position_or_len (eq report_scope) (keys_of es) in
        rw (other, later-before i (length es), move_index-later e (insert_entry eq es report_scope value) i (index_before i (length es))) (ap (λ l. e ∷ l) (moved-last es))
  ]

  -- that one makes no difference
  choice-removed : (es : List (ReportScope × A)) (older : List (Setting A)) (text : List ℕ) (severity : Severity) (id : List ℕ)
      → choice_among (setting_of (report_scope, value) ∷ reverse (map setting_of (remove_entry (eq report_scope) es)) ++ older) text severity id
      ≡ choice_among (setting_of (report_scope, value) ∷ reverse (map setting_of es) ++ older) text severity id
  choice-removed [] older text severity id = refl
  choice-removed (e ∷ es) older text severity id = elim (cases_Bool (eq report_scope e.0)) [
    | inl here ↦
        let is : e.0 ≡ report_scope = sym (equal report_scope e.0 here) in
        rw (here, reverse-entry e es older) (sym (choice-without (setting_of (report_scope, value)) (setting_of e) (reverse (map setting_of es)) older (ap (λ r. r.scope) is) (ap (λ r. r.which) is) text severity id))
    | inr other ↦ rw (other, reverse-entry e (remove_entry (eq report_scope) es) older, reverse-entry e es older) (choice-removed es (setting_of e ∷ older) text severity id)
  ]

  -- the choice after that
  pub choice-moved : (es : List (ReportScope × A)) (text : List ℕ) (severity : Severity) (id : List ℕ)
      → choice_among (reverse (map setting_of (move_index (insert_entry eq es report_scope value) (position_or_len (eq report_scope) (keys_of es)) (index_before (position_or_len (eq report_scope) (keys_of es)) (length es))))) text severity id
      ≡ after_setting report_scope.scope report_scope.which value text severity id (choice_among (reverse (map setting_of es)) text severity id)
  choice-moved es text severity id =
      let s : Setting A = setting_of (report_scope, value) in
      let others : List (ReportScope × A) = remove_entry (eq report_scope) es in
      ap (λ l. choice_among (reverse (map setting_of l)) text severity id) (moved-last es)
      ∙ ap (λ l. choice_among (reverse l) text severity id) (map-append setting_of others ((report_scope, value) ∷ []))
      ∙ ap (λ l. choice_among l text severity id) (reverse-append (map setting_of others) (s ∷ []))
      ∙ (simp append-nil at (choice-removed es [] text severity id))
      ∙ choice-given s (reverse (map setting_of es)) text severity id
