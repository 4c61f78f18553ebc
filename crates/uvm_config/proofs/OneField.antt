-- What one more setting of a field does to its answer.
use Rattle.std.proofs.Common.{◌≡◌, ℕ, ◌<◌, ◌≤◌, List, [], ◌∷◌, ◌++◌, reverse, Bool, true, false, Option, Some, None, ◌&&◌, ◌⊎◌, nat_eq, nat_le, if◌then◌else◌, map, refl, ap, ◌∙◌, sym, subst, inl, inr, arith, append_assoc}
use Rattle.std.specs.Cmp.Lexicographic.{pointwise, bytes_decides}
use Rattle.std.specs.Map.{lookup, remove_entry}
use Rattle.std.proofs.lemmas.Bool.{cases_Bool, false≢true, leb-true, leb-false, le-leb}
use Rattle.std.proofs.lemmas.List.{append-nil, map-append}
use Rattle.uvm_glob.specs.Globs.{matches}
use Rattle.uvm_config.specs.ChosenValue.{Answer, gives_way, answer_after}
use Rattle.uvm_config.specs.Answers.{strongest_answer}
use Rattle.uvm_config.specs.Fields.{FieldSetting, setting_of, field_setting, field_answer}
use Rattle.uvm_config.proofs.Given.{answer-none, answer-push}

-- no setting answers in an empty list
pub field_answer-none : (text : List ℕ) → field_answer [] text ≡ None
unfolding field_answer
field_answer-none text = answer-none text []

-- one more setting
pub field_answer-push : (settings : List FieldSetting) (s : FieldSetting) (text : List ℕ) → field_answer (settings ++ s ∷ []) text ≡ answer_after s.scope [] s.precedence s.value text [] (field_answer settings text)
unfolding field_answer
field_answer-push settings s text =
    ap (λ l. strongest_answer (reverse l) text []) (map-append setting_of settings (s ∷ []))
    ∙ answer-push (map setting_of settings) (setting_of s) text []

-- the answer after the setting of a scope with what it gives, and after more
abbrev pub after : List ℕ → List ℕ × Answer → Option Answer → Option Answer
after text kept before = answer_after kept.0 [] kept.1.precedence kept.1.value text [] before

abbrev pub after_all : List ℕ → Option Answer → List (List ℕ × Answer) → Option Answer
after_all text before [] = before
after_all text before (kept ∷ later) = after_all text (after text kept before) later

field_answer-append : (settings : List FieldSetting) (later : List (List ℕ × Answer)) (text : List ℕ) → field_answer (settings ++ map field_setting later) text ≡ after_all text (field_answer settings text) later
field_answer-append settings [] text = ap (λ l. field_answer l text) (append-nil settings)
field_answer-append settings (kept ∷ later) text =
    ap (λ l. field_answer l text) (sym (append_assoc settings (field_setting kept ∷ []) (map field_setting later)))
    ∙ field_answer-append (settings ++ field_setting kept ∷ []) later text
    ∙ ap (λ a. after_all text a later) (field_answer-push settings (field_setting kept) text)

-- the answer is made setting by setting
pub field_answer-all : (settings : List (List ℕ × Answer)) (text : List ℕ) → field_answer (map field_setting settings) text ≡ after_all text None settings
field_answer-all settings text =
    field_answer-append [] settings text ∙ ap (λ a. after_all text a settings) (field_answer-none text)

-- a setting whose scope matches, or does not
abbrev step : Bool → Answer → Option Answer → Option Answer
step fits s before = if fits && gives_way s.precedence before then Some s else before

-- two answers that are equal, or of which neither has a greater precedence than this
abbrev Alike : ℕ → Option Answer → Option Answer → Type 0
Alike most a b = (a ≡ b) ⊎ ((gives_way most a ≡ true) × (gives_way most b ≡ true))

gives_more : (a : Option Answer) (p q : ℕ) → p ≤ q → gives_way p a ≡ true → gives_way q a ≡ true
gives_more None p q le gives = refl
gives_more (Some a) p q le gives = let under = leb-true a.precedence p gives in le-leb a.precedence q (omega arith)

chosen-gives : (test : Bool) (s : Answer) (a : Option Answer) (most : ℕ) → s.precedence ≤ most → gives_way most a ≡ true → gives_way most (if test then Some s else a) ≡ true
chosen-gives true s a most le gives = le-leb s.precedence most le
chosen-gives false s a most le gives = gives

-- they stay alike after one more setting, and after more
step-over : (fits : Bool) (s : Answer) (most : ℕ) (a b : Option Answer) → gives_way s.precedence a ≡ true → gives_way s.precedence b ≡ true → (gives_way most a ≡ true) × (gives_way most b ≡ true) → Alike most (step fits s a) (step fits s b)
step-over true s most a b ga gb both = rw (ga, gb) (inl refl)
step-over false s most a b ga gb both = inr both

step-alike : (fits : Bool) (s : Answer) (most : ℕ) (a b : Option Answer) → Alike most a b → Alike most (step fits s a) (step fits s b)
step-alike fits s most a b (inl same) = inl (ap (step fits s) same)
step-alike fits s most a b (inr both) = elim (cases_Bool (nat_le s.precedence most)) [
  | inl under ↦
      let le : s.precedence ≤ most = leb-true s.precedence most under in
      inr (chosen-gives (fits && gives_way s.precedence a) s a most le both.0, chosen-gives (fits && gives_way s.precedence b) s b most le both.1)
  | inr over ↦
      let lt : most < s.precedence = leb-false s.precedence most over in
      let le : most ≤ s.precedence = omega arith in
      step-over fits s most a b (gives_more a most s.precedence le both.0) (gives_more b most s.precedence le both.1) both
]

after_all-alike : (text : List ℕ) (most : ℕ) (later : List (List ℕ × Answer)) (a b : Option Answer) → Alike most a b → Alike most (after_all text a later) (after_all text b later)
unfolding answer_after
after_all-alike text most [] a b alike = alike
after_all-alike text most (s ∷ later) a b alike =
    after_all-alike text most later (after text s a) (after text s b) (step-alike (matches s.0 text) s.1 most a b alike)

-- a setting that is no stronger than another one makes an answer alike
old-alike : (old : Answer) (most : ℕ) (a : Option Answer) → old.precedence ≤ most → Alike most a (step true old a)
old-alike old most a le = elim (cases_Bool (gives_way old.precedence a)) [
  | inl gives ↦ rw gives (inr (gives_more a old.precedence most le gives, le-leb old.precedence most le))
  | inr stays ↦ rw stays (inl refl)
]

alike-same : (s : Answer) (a b : Option Answer) → Alike s.precedence a b → step true s a ≡ step true s b
alike-same s a b (inl same) = ap (step true s) same
alike-same s a b (inr both) = rw (both.0, both.1) refl

-- so it makes no difference where that one is set later, and both match or neither does
step-same : (text : List ℕ) (fits : Bool) (old s : Answer) (later : List (List ℕ × Answer)) (a : Option Answer) → old.precedence ≤ s.precedence → step fits s (after_all text a later) ≡ step fits s (after_all text (step fits old a) later)
step-same text false old s later a le = refl
step-same text true old s later a le =
    alike-same s (after_all text a later) (after_all text (step true old a) later) (after_all-alike text s.precedence later a (step true old a) (old-alike old s.precedence a le))

-- where a stronger one has matched a setting changes nothing
step-stays : (fits : Bool) (s : Answer) (a : Option Answer) (p : ℕ) → gives_way p a ≡ false → gives_way p (step fits s a) ≡ false
step-stays fits s None p over = absurd (false≢true (sym over))
step-stays false s (Some b) p over = over
step-stays true s (Some b) p over = elim (cases_Bool (nat_le b.precedence s.precedence)) [
  | inl under ↦
      rw under (let lt = leb-false b.precedence p over in
      let le = leb-true b.precedence s.precedence under in
      elim (cases_Bool (nat_le s.precedence p)) as (λ _. nat_le s.precedence p ≡ false) [
        | inl weak ↦ let no = leb-true s.precedence p weak in absurd (omega arith)
        | inr strong ↦ strong
      ])
  | inr more ↦ rw more over
]

after_all-stays : (text : List ℕ) (later : List (List ℕ × Answer)) (a : Option Answer) (p : ℕ) → gives_way p a ≡ false → gives_way p (after_all text a later) ≡ false
unfolding answer_after
after_all-stays text [] a p over = over
after_all-stays text (s ∷ later) a p over =
    after_all-stays text later (after text s a) p (step-stays (matches s.0 text) s.1 a p over)

old-stays : (old : Answer) (a : Option Answer) (p : ℕ) → p < old.precedence → gives_way p (step true old a) ≡ false
old-stays old a p lt = elim (cases_Bool (gives_way p (step true old a))) [
  | inl gives ↦ absurd (by a (gives_way old.precedence a) refl gives)
  | inr stays ↦ stays
]
  where
    by : (a : Option Answer) (test : Bool) → gives_way old.precedence a ≡ test → gives_way p (if test then Some old else a) ≡ true → ⊥
    by a true is gives = let le = leb-true old.precedence p gives in omega arith
    by None false is gives = false≢true (sym is)
    by (Some b) false is gives =
        let over = leb-false b.precedence old.precedence is in
        let le = leb-true b.precedence p gives in
        omega arith

step-none : (text : List ℕ) (fits : Bool) (old s : Answer) (later : List (List ℕ × Answer)) (a : Option Answer) → s.precedence < old.precedence → after_all text (step fits old a) later ≡ step fits s (after_all text (step fits old a) later)
step-none text false old s later a lt = refl
step-none text true old s later a lt =
    let stays = after_all-stays text later (step true old a) s.precedence (old-stays old a s.precedence lt) in
    rw stays refl

-- the answer after a setting is the same where the one with its scope, which is no stronger, was taken out before
without : (text scope : List ℕ) (given : Answer) (settings : List (List ℕ × Answer)) (a : Option Answer) → gives_way given.precedence (lookup (pointwise nat_eq scope) settings) ≡ true → after text (scope, given) (after_all text a (remove_entry (pointwise nat_eq scope) settings)) ≡ after text (scope, given) (after_all text a settings)
unfolding answer_after
without text scope given [] a gives = refl
without text scope given (s ∷ later) a gives = elim (cases_Bool (pointwise nat_eq scope s.0)) [
  | inl same ↦
      let le : s.1.precedence ≤ given.precedence = leb-true s.1.precedence given.precedence (rw same at gives) in
      rw same (step-same text (matches scope text) s.1 given later a le
      ∙ ap (λ matched. after text (scope, given) (after_all text (step (matches matched text) s.1 a) later)) ((bytes_decides scope s.0).0 same))
  | inr other ↦ rw other (without text scope given later (after text s a) (rw other at gives))
]

-- and a setting changes nothing where the one with its scope is stronger
stays-over : (text scope : List ℕ) (given : Answer) (settings : List (List ℕ × Answer)) (a : Option Answer) → gives_way given.precedence (lookup (pointwise nat_eq scope) settings) ≡ false → after_all text a settings ≡ after text (scope, given) (after_all text a settings)
unfolding answer_after
stays-over text scope given [] a over = absurd (false≢true (sym over))
stays-over text scope given (s ∷ later) a over = elim (cases_Bool (pointwise nat_eq scope s.0)) [
  | inl same ↦
      let lt : given.precedence < s.1.precedence = leb-false s.1.precedence given.precedence (rw same at over) in
      subst (λ matched. after_all text (step (matches matched text) s.1 a) later ≡ after text (scope, given) (after_all text (step (matches matched text) s.1 a) later)) ((bytes_decides scope s.0).0 same) (step-none text (matches scope text) s.1 given later a lt)
  | inr other ↦ stays-over text scope given later (after text s a) (rw other at over)
]

-- the answer where a setting takes the place of the one with its scope
pub field_answer-put : (settings : List (List ℕ × Answer)) (scope : List ℕ) (given : Answer) → gives_way given.precedence (lookup (pointwise nat_eq scope) settings) ≡ true → (text : List ℕ) → field_answer (map field_setting (remove_entry (pointwise nat_eq scope) settings ++ (scope, given) ∷ [])) text ≡ answer_after scope [] given.precedence given.value text [] (field_answer (map field_setting settings) text)
field_answer-put settings scope given gives text =
    ap (λ l. field_answer l text) (map-append field_setting (remove_entry (pointwise nat_eq scope) settings) ((scope, given) ∷ []))
    ∙ field_answer-push (map field_setting (remove_entry (pointwise nat_eq scope) settings)) (field_setting (scope, given)) text
    ∙ ap (after text (scope, given)) (field_answer-all (remove_entry (pointwise nat_eq scope) settings) text)
    ∙ without text scope given settings None gives
    ∙ ap (after text (scope, given)) (sym (field_answer-all settings text))

-- and where that one is stronger
pub field_answer-stays : (settings : List (List ℕ × Answer)) (scope : List ℕ) (given : Answer) → gives_way given.precedence (lookup (pointwise nat_eq scope) settings) ≡ false → (text : List ℕ) → field_answer (map field_setting settings) text ≡ answer_after scope [] given.precedence given.value text [] (field_answer (map field_setting settings) text)
field_answer-stays settings scope given over text =
    field_answer-all settings text
    ∙ stays-over text scope given settings None over
    ∙ ap (after text (scope, given)) (sym (field_answer-all settings text))
