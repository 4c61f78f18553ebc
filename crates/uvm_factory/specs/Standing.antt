-- The overrides of one type: the type override in force, and the instance overrides.
use Rattle.std.specs.Prelude.{ℕ, false, not, List, Option, Some, ◌&&◌, nat_eq, option_map, option_and_then, if◌then◌else◌}
use Rattle.std.specs.Map.{lookup}
use Rattle.uvm_glob.specs.Globs.{matches}
use Rattle.uvm_factory.specs.declared.overrides.OverrideStep.{OverrideStep}
use Rattle.uvm_factory.specs.declared.overrides.OverrideStep.TheVariants.{ByInstance, ByType}
use Rattle.uvm_factory.specs.declared.overrides.Override.{Override}
use Rattle.uvm_factory.specs.declared.overrides.Override.TheVariants.{Instance, Whole}
use Rattle.uvm_factory.specs.Steps.{is_by_instance, takes_effect}
use Rattle.uvm_factory.specs.Overrides.{step_from}

-- the new type of the type override in force, if there is one; and the instance overrides in the order in which they were given,
-- each as its scope and its new type
pub record Standing : Type 0 where
  pub by_type : Option ℕ
  pub instances : List (List ℕ × ℕ)

-- the new type of the first instance override whose scope matches the text of the path
abbrev pub placed_at : List (List ℕ × ℕ) → List ℕ → Option ℕ
placed_at instances text = lookup (λ scope. matches scope text) instances

-- the override that applies to the type at the text of a path
unfoldable pub standing_step : Standing → List ℕ → Option OverrideStep
standing_step standing text = step_from (placed_at standing.instances text) (option_map (λ t. (t, false)) standing.by_type)

-- the override that applies to a type after one more override of that type, given the one that applied before
abbrev pub after_own : Override → List ℕ → Option OverrideStep → Option OverrideStep
after_own (Instance original new scope) text before =
    if not (is_by_instance before) && matches scope text then Some (ByInstance new) else before
after_own (Whole original new replace) text before = if takes_effect replace before then Some (ByType new) else before

-- the overrides of each type that has any
abbrev pub Standings : Type 0
Standings = List (ℕ × Standing)

-- the override that applies to a type at the text of a path, given the overrides of all types
abbrev pub step_among : Standings → ℕ → List ℕ → Option OverrideStep
step_among standings type_id text = option_and_then (λ standing. standing_step standing text) (lookup (nat_eq type_id) standings)
