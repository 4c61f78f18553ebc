-- What a set of one field does to what is asked of all.
use Rattle.std.proofs.Common.{◌≡◌, ℕ, ℤ, List, [], true, Some, None, nat_eq, cond, refl, ap, ◌∙◌, sym, inl, inr}
use Rattle.std.specs.Cmp.Lexicographic.{pointwise, bytes_decides}
use Rattle.std.specs.Map.{lookup, set_value}
use Rattle.std.proofs.lemmas.Map.Steps.{set_value_same}
use Rattle.uvm_config.proofs.OneField.{field_answer-none}
use Rattle.std.proofs.lemmas.Bool.{cases_Bool}
use Rattle.uvm_config.specs.ChosenValue.{answer_after}
use Rattle.uvm_config.specs.Fields.{FieldSetting, field_answer, Fields, answer_among}

-- two names that are equal find the same
same-found : (fields : List (List ℕ × List FieldSetting)) (field asked : List ℕ) → pointwise nat_eq field asked ≡ true → lookup (pointwise nat_eq asked) fields ≡ lookup (pointwise nat_eq field) fields
same-found fields field asked same =
    ap (λ name. lookup (pointwise nat_eq name) fields) (sym ((bytes_decides field asked).0 same))

-- where the settings of one field change as by a set, every answer changes as by the set
pub answers-set : (old new : Fields) (scope field : List ℕ) (precedence : ℕ) (value : ℤ) (settings : List FieldSetting) → ((text : List ℕ) → field_answer settings text ≡ answer_after scope [] precedence value text [] (answer_among old text field)) → ((asked : List ℕ) → lookup (pointwise nat_eq asked) new ≡ cond (pointwise nat_eq field asked) (Some settings) (lookup (pointwise nat_eq asked) old)) → (text asked : List ℕ) → answer_among new text asked ≡ answer_after scope field precedence value text asked (answer_among old text asked)
unfolding answer_after
answers-set old new scope field precedence value settings changes is text asked = elim (cases_Bool (pointwise nat_eq field asked)) [
  | inl same ↦ rw (is asked, same, same-found old field asked same) (changes text)
  | inr other ↦ rw (is asked, other) refl
]

-- of a field that has settings
pub answers-changed : (old new : Fields) (scope field : List ℕ) (precedence : ℕ) (value : ℤ) (were settings : List FieldSetting) → Some were ≡ lookup (pointwise nat_eq field) old → ((asked : List ℕ) → lookup (pointwise nat_eq asked) new ≡ cond (pointwise nat_eq field asked) (Some settings) (lookup (pointwise nat_eq asked) old)) → ((text : List ℕ) → field_answer settings text ≡ answer_after scope [] precedence value text [] (field_answer were text)) → (text asked : List ℕ) → answer_among new text asked ≡ answer_after scope field precedence value text asked (answer_among old text asked)
answers-changed old new scope field precedence value were settings found is changes =
    answers-set old new scope field precedence value settings (λ text. rw (← found) (changes text)) is

-- of a field that has none
pub answers-first : (old new : Fields) (scope field : List ℕ) (precedence : ℕ) (value : ℤ) (settings : List FieldSetting) → None ≡ lookup (pointwise nat_eq field) old → ((asked : List ℕ) → lookup (pointwise nat_eq asked) new ≡ cond (pointwise nat_eq field asked) (Some settings) (lookup (pointwise nat_eq asked) old)) → ((text : List ℕ) → field_answer settings text ≡ answer_after scope [] precedence value text [] (field_answer [] text)) → (text asked : List ℕ) → answer_among new text asked ≡ answer_after scope field precedence value text asked (answer_among old text asked)
answers-first old new scope field precedence value settings found is changes =
    answers-set old new scope field precedence value settings (λ text. rw (← found, ← field_answer-none text) (changes text)) is

-- settings that are written back as they were change nothing
pub fields-same : (old : Fields) (field : List ℕ) (were settings : List FieldSetting) → Some were ≡ lookup (pointwise nat_eq field) old → settings ≡ were → set_value (pointwise nat_eq field) old settings ≡ old
fields-same old field were settings found same =
    ap (set_value (pointwise nat_eq field) old) same ∙ set_value_same (pointwise nat_eq field) old were (sym found)
