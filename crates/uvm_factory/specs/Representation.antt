-- The representation of a factory, and what it returns.
use Rattle.std.specs.Prelude.{◌≡◌, ℕ, List, length, Option, Result, Err, ok_or, nat_lt, if◌then◌else◌}
use Rattle.uvm_glob.specs.Paths.{path_text}
use Rattle.uvm_factory.specs.declared.overrides.OverrideStep.{OverrideStep}
use Rattle.uvm_factory.specs.declared.faults.Unmade.{Unmade}
use Rattle.uvm_factory.specs.declared.faults.Unmade.TheVariants.{NoType, Loop}
use Rattle.uvm_factory.specs.Faults.{Types}
use Rattle.uvm_factory.specs.Steps.{next_type, made}
use Rattle.uvm_factory.specs.Standing.{Standings, step_among}

-- the types in the order of registration, and the overrides of each
pub record Representation : Type 0 where
  pub types : Types
  pub standings : Standings

-- the registered types
unfoldable pub types_of : Representation → Types
types_of kept = kept.types

-- the override that applies to a type at a path
unfoldable pub step_at : Representation → ℕ → List (List ℕ) → Option OverrideStep
step_at kept type_id path = step_among kept.standings type_id (path_text path)

-- the type that replaces a type at a path, if it is a different type
abbrev pub next_at : Representation → List (List ℕ) → ℕ → Option ℕ
next_at kept path type_id = next_type type_id (step_at kept type_id path)

-- the type to create when a type is requested at a path; none if the overrides form a loop
abbrev pub made_at : Representation → List (List ℕ) → ℕ → Option ℕ
made_at kept path type_id = made (next_at kept path) (length (types_of kept)) type_id

-- the type to create when a type is requested at a path, or the error: `NoType` if the type is not registered, then `Loop`
abbrev pub resolved : Representation → List (List ℕ) → ℕ → Result ℕ Unmade
resolved kept path type_id = if nat_lt type_id (length (types_of kept)) then ok_or (made_at kept path type_id) Loop else Err NoType

-- the two factories have the same types, and the same override applies to each type at each path
pub record IsSame (old new : Representation) : Type 0 where
  pub types : types_of new ≡ types_of old
  pub steps : (type_id : ℕ) (path : List (List ℕ)) → step_at new type_id path ≡ step_at old type_id path
