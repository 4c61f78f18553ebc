-- The steps of types, and where a chain of steps ends (IEEE 1800.2-2020, Clause 8).
-- The step of a type is the override that applies to it.
use Rattle.std.specs.Prelude.{◌≡◌, ◌≤◌, ℕ, zero, suc, Bool, true, false, not, List, Option, Some, None, ◌==◌, ◌&&◌, if◌then◌else◌, option_and_then, MatchOption, IsSome}
use Rattle.std.specs.Option.{option_map_or}
use Rattle.uvm_glob.specs.Globs.{matches}
use Rattle.uvm_factory.specs.declared.overrides.OverrideStep.{OverrideStep}
use Rattle.uvm_factory.specs.declared.overrides.OverrideStep.TheVariants.{ByInstance, ByType}
use Rattle.uvm_factory.specs.declared.overrides.Override.{Override}
use Rattle.uvm_factory.specs.declared.overrides.Override.TheVariants.{Instance, Whole}

-- the type that an override replaces
abbrev pub original_of : Override → ℕ
original_of (Instance original new scope) = original
original_of (Whole original new replace) = original

-- the new type of an override
abbrev pub new_of : Override → ℕ
new_of (Instance original new scope) = new
new_of (Whole original new replace) = new

-- whether the step comes from an instance override; a later instance override changes it only if it does not
abbrev pub is_by_instance : Option OverrideStep → Bool
is_by_instance None = false
is_by_instance (Some (ByInstance new)) = true
is_by_instance (Some (ByType new)) = false

-- whether a type override changes the step: if there is no step, or if it replaces an earlier type override
abbrev pub takes_effect : Bool → Option OverrideStep → Bool
takes_effect replace None = true
takes_effect replace (Some (ByInstance new)) = false
takes_effect replace (Some (ByType new)) = replace

-- the step of a type at the text of a path after an instance override, given the step before
unfoldable pub after_instance : ℕ → ℕ → List ℕ → ℕ → List ℕ → Option OverrideStep → Option OverrideStep
after_instance original new scope type_id text before =
    if original == type_id && not (is_by_instance before) && matches scope text then Some (ByInstance new) else before

-- the step of a type after a type override, given the step before
unfoldable pub after_type : ℕ → ℕ → Bool → ℕ → Option OverrideStep → Option OverrideStep
after_type original new replace type_id before =
    if original == type_id && takes_effect replace before then Some (ByType new) else before

-- the step of a type at the text of a path after one more override, given the step before
abbrev pub after_override : Override → ℕ → List ℕ → Option OverrideStep → Option OverrideStep
after_override (Instance original new scope) type_id text before = after_instance original new scope type_id text before
after_override (Whole original new replace) type_id text before = after_type original new replace type_id before

-- the type that a step leads to
abbrev pub type_in : OverrideStep → ℕ
type_in (ByInstance new) = new
type_in (ByType new) = new

-- the type that a step leads to from a type, if it is a different type
abbrev pub next_type : ℕ → Option OverrideStep → Option ℕ
next_type type_id step = option_and_then (λ step. if type_in step == type_id then None else Some (type_in step)) step

-- the type at which the chain of steps from a type ends, if the chain has at most `left` steps
unfoldable pub made : (ℕ → Option ℕ) → ℕ → ℕ → Option ℕ
made next zero type_id = option_map_or (λ _. None) (next type_id) (Some type_id)
made next (suc left) type_id = option_map_or (made next left) (next type_id) (Some type_id)

-- the type after this many steps from a type, if the chain has so many
abbrev pub type_after : (ℕ → Option ℕ) → ℕ → ℕ → Option ℕ
type_after next zero type_id = Some type_id
type_after next (suc steps) type_id = option_and_then (type_after next steps) (next type_id)

-- `made` returns the last type of a chain of at most `left` steps; it returns none if the chain has more steps
abbrev pub MadeIsEnd : Type 0
MadeIsEnd =
    (next : ℕ → Option ℕ) (left type_id : ℕ)
    → MatchOption (made next left type_id) (IsSome (type_after next (suc left) type_id)) (λ end. (steps : ℕ) × (steps ≤ left) × (type_after next steps type_id ≡ Some end) × (next end ≡ None))
