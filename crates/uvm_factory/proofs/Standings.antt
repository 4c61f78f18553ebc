-- What one more override of a type does to its step, and to the steps of all types.
use Rattle.std.proofs.Common.{◌≡◌, ℕ, List, [], ◌∷◌, ◌++◌, Bool, true, false, not, Option, Some, None, ◌==◌, ◌&&◌, if◌then◌else◌, nat_eq, cond, is_some, refl, ap, ◌∙◌, sym, inl, inr}
use Rattle.std.specs.Prelude.{option_map}
use Rattle.std.specs.Cmp.Lexicographic.{pointwise}
use Rattle.std.specs.Map.{lookup, set_value}
use Rattle.std.specs.Option.{option_or}
use Rattle.std.proofs.lemmas.Bool.{cases_Bool, eqb-true}
use Rattle.std.proofs.lemmas.Map.Steps.{set_value_same}
use Rattle.std.proofs.lemmas.Slice.Eq.{bytes_eq-Decides}
use Rattle.uvm_glob.specs.Globs.{matches}
use Rattle.uvm_factory.specs.declared.overrides.OverrideStep.{OverrideStep}
use Rattle.uvm_factory.specs.declared.overrides.OverrideStep.TheVariants.{ByInstance}
use Rattle.uvm_factory.specs.declared.overrides.Override.{Override}
use Rattle.uvm_factory.specs.declared.overrides.Override.TheVariants.{Instance, Whole}
use Rattle.uvm_factory.specs.Steps.{original_of, is_by_instance, after_instance, after_type, after_override}
use Rattle.uvm_factory.specs.Overrides.{step_from}
use Rattle.uvm_factory.specs.Standing.{Standing, Standings, placed_at, standing_step, after_own, step_among}

-- the first that matches where there is one more
pub placed_at-push : (instances : List (List ℕ × ℕ)) (scope : List ℕ) (new : ℕ) (text : List ℕ) → placed_at (instances ++ (scope, new) ∷ []) text ≡ option_or (placed_at instances text) (if matches scope text then Some new else None)
placed_at-push [] scope new text = refl
placed_at-push (first ∷ instances) scope new text = elim (cases_Bool (matches first.0 text)) [
  | inl fits ↦ rw fits refl
  | inr not ↦ rw not (placed_at-push instances scope new text)
]

or-none : (found : Option ℕ) → found ≡ option_or found None
or-none None = refl
or-none (Some new) = refl

-- where its scope is there already, it is behind one that matches the same
pub placed_at-there : (instances : List (List ℕ × ℕ)) (scope : List ℕ) (new : ℕ) (text : List ℕ) → is_some (lookup (pointwise nat_eq scope) instances) ≡ true → placed_at instances text ≡ option_or (placed_at instances text) (if matches scope text then Some new else None)
placed_at-there [] scope new text there = absurd cc
placed_at-there (first ∷ instances) scope new text there = elim (cases_Bool (matches first.0 text)) [
  | inl fits ↦ rw fits refl
  | inr not ↦ rw not (elim (cases_Bool (pointwise nat_eq scope first.0)) [
    | inl same ↦
        let none : matches scope text ≡ false = ap (λ s. matches s text) ((bytes_eq-Decides scope first.0).0 same) ∙ not in
        rw none (or-none (placed_at instances text))
    | inr other ↦ placed_at-there instances scope new text (rw other at there)
  ])
]

-- the step from it
step-or : (fits : Bool) (new : ℕ) (first : Option ℕ) (by_type : Option (ℕ × Bool)) → step_from (option_or first (if fits then Some new else None)) by_type ≡ (if not (is_by_instance (step_from first by_type)) && fits then Some (ByInstance new) else step_from first by_type)
step-or fits new (Some old) by_type = refl
step-or true new None (Some o) = refl
step-or true new None None = refl
step-or false new None (Some o) = refl
step-or false new None None = refl

-- one more instance override of a type
pub standing_step-more : (by_type : Option ℕ) (old given : List (List ℕ × ℕ)) (original new : ℕ) (scope text : List ℕ) → placed_at given text ≡ option_or (placed_at old text) (if matches scope text then Some new else None)
    → standing_step (record { by_type = by_type; instances = given }) text ≡ after_own (Instance original new scope) text (standing_step (record { by_type = by_type; instances = old }) text)
unfolding standing_step
standing_step-more by_type old given original new scope text is =
    let everywhere : Option (ℕ × Bool) = option_map (λ t. (t, false)) by_type in
    ap (λ first. step_from first everywhere) is ∙ step-or (matches scope text) new (placed_at old text) everywhere

-- an override changes the step of its own type alone
own-is : (given : Override) (type_id : ℕ) (text : List ℕ) → (before : Option OverrideStep) → after_override given type_id text before ≡ (if original_of given == type_id then after_own given text before else before)
unfolding after_instance after_type
own-is (Instance original new scope) type_id text before = elim (cases_Bool (original == type_id)) [
  | inl same ↦ rw same refl
  | inr other ↦ rw other refl
]
own-is (Whole original new replace) type_id text before = elim (cases_Bool (original == type_id)) [
  | inl same ↦ rw same refl
  | inr other ↦ rw other refl
]

-- two types that are equal find the same
same-found : (standings : Standings) (original type_id : ℕ) → (original == type_id) ≡ true → lookup (nat_eq type_id) standings ≡ lookup (nat_eq original) standings
same-found standings original type_id same = ap (λ id. lookup (nat_eq id) standings) (sym (eqb-true original type_id same))

-- where what stands for one type changes as by the override, every step changes as by the override
steps-set : (old new : Standings) (given : Override) (standing : Standing) → ((text : List ℕ) → standing_step standing text ≡ after_own given text (step_among old (original_of given) text)) → ((type_id : ℕ) → lookup (nat_eq type_id) new ≡ cond (nat_eq (original_of given) type_id) (Some standing) (lookup (nat_eq type_id) old)) → (type_id : ℕ) (text : List ℕ) → step_among new type_id text ≡ after_override given type_id text (step_among old type_id text)
steps-set old new given standing changes is type_id text = elim (cases_Bool (original_of given == type_id)) [
  | inl same ↦
      rw (own-is given type_id text (step_among old type_id text), is type_id, same, same-found old (original_of given) type_id same) (changes text)
  | inr other ↦ rw (own-is given type_id text (step_among old type_id text), is type_id, other) refl
]

-- of a type that has overrides
pub steps-changed : (old new : Standings) (given : Override) (was standing : Standing) → Some was ≡ lookup (nat_eq (original_of given)) old → ((type_id : ℕ) → lookup (nat_eq type_id) new ≡ cond (nat_eq (original_of given) type_id) (Some standing) (lookup (nat_eq type_id) old)) → ((text : List ℕ) → standing_step standing text ≡ after_own given text (standing_step was text)) → (type_id : ℕ) (text : List ℕ) → step_among new type_id text ≡ after_override given type_id text (step_among old type_id text)
steps-changed old new given was standing found is changes =
    steps-set old new given standing (λ text. rw (← found) (changes text)) is

-- of a type that has none
pub steps-first : (old new : Standings) (given : Override) (none standing : Standing) → None ≡ lookup (nat_eq (original_of given)) old → ((type_id : ℕ) → lookup (nat_eq type_id) new ≡ cond (nat_eq (original_of given) type_id) (Some standing) (lookup (nat_eq type_id) old)) → ((text : List ℕ) → standing_step none text ≡ None) → ((text : List ℕ) → standing_step standing text ≡ after_own given text (standing_step none text)) → (type_id : ℕ) (text : List ℕ) → step_among new type_id text ≡ after_override given type_id text (step_among old type_id text)
steps-first old new given none standing found is empty changes =
    steps-set old new given standing (λ text. rw (← found) (rw (empty text) at (changes text))) is

-- what stands for a type that is written back as it was changes nothing
pub standings-same : (old : Standings) (original : ℕ) (was standing : Standing) → Some was ≡ lookup (nat_eq original) old → standing ≡ was → set_value (nat_eq original) old standing ≡ old
standings-same old original was standing found same =
    ap (set_value (nat_eq original) old) same ∙ set_value_same (nat_eq original) old was (sym found)
