-- The representation of the settings, and what they return.
use Rattle.std.specs.Prelude.{◌≡◌, ℕ, ℤ, List, Option, option_map}
use Rattle.uvm_glob.specs.Paths.{path_text}
use Rattle.uvm_config.specs.ChosenValue.{Answer}
use Rattle.uvm_config.specs.Fields.{Fields, answer_among}

-- the settings of each field in the order in which they were set, and the number of accepted settings
pub record Representation : Type 0 where
  pub fields : Fields
  pub count : ℕ

-- the precedence and the value of the setting that applies at a path and a field
unfoldable pub answer_at : Representation → List (List ℕ) → List ℕ → Option Answer
answer_at kept path asked = answer_among kept.fields (path_text path) asked

-- the value of the setting that applies at a path and a field
abbrev pub value_at : Representation → List (List ℕ) → List ℕ → Option ℤ
value_at kept path asked = option_map (λ answer. answer.value) (answer_at kept path asked)

-- the number of accepted settings
unfoldable pub accepted : Representation → ℕ
accepted kept = kept.count

-- the two have the same answer at each path and field, and the same number of accepted settings
pub record IsSame (old new : Representation) : Type 0 where
  pub answers : (path : List (List ℕ)) (asked : List ℕ) → answer_at new path asked ≡ answer_at old path asked
  pub count : accepted new ≡ accepted old
