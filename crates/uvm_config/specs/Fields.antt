-- The settings of one field, and which of them applies.
use Rattle.std.specs.Prelude.{ℕ, ℤ, List, [], Option, map, reverse, nat_eq, option_and_then}
use Rattle.std.specs.Map.{lookup}
use Rattle.std.specs.Cmp.Lexicographic.{pointwise}
use Rattle.uvm_config.specs.ChosenValue.{Answer}
use Rattle.uvm_config.specs.Answers.{Setting, strongest_answer}

-- a setting of a known field: a value at the paths that the scope matches, with its precedence
pub record FieldSetting : Type 0 where
  pub scope : List ℕ
  pub precedence : ℕ
  pub value : ℤ

-- the same as a `Setting`, with an empty field name, since all settings are of one field
abbrev pub setting_of : FieldSetting → Setting
setting_of s = record { scope = s.scope; field = []; precedence = s.precedence; value = s.value }

-- the setting with a scope and its precedence and value
abbrev pub field_setting : List ℕ × Answer → FieldSetting
field_setting kept = record { scope = kept.0; precedence = kept.1.precedence; value = kept.1.value }

-- the answer at the text of a path, given the settings in the order in which they were set
unfoldable pub field_answer : List FieldSetting → List ℕ → Option Answer
field_answer settings text = strongest_answer (reverse (map setting_of settings)) text []

-- the settings of each field
abbrev pub Fields : Type 0
Fields = List (List ℕ × List FieldSetting)

-- the answer at the text of a path and a field
abbrev pub answer_among : Fields → List ℕ → List ℕ → Option Answer
answer_among fields text asked = option_and_then (λ settings. field_answer settings text) (lookup (pointwise nat_eq asked) fields)
