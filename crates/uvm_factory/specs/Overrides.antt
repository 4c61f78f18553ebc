-- The result of a list of overrides, newest first, for a type at a path.
use Rattle.std.specs.Prelude.{◌≡◌, ◌+◌, ◌<◌, ℕ, Bool, List, [], ◌∷◌, length, take, reverse, slice_index_or, Option, Some, None, ◌==◌, ◌&&◌, filter, unwrap_or, option_map, option_and_then, if◌then◌else◌}
use Rattle.std.specs.List.{filter_map}
use Rattle.std.specs.Option.{option_or}
use Rattle.uvm_glob.specs.Globs.{matches}
use Rattle.uvm_glob.specs.Lists.{newest}
use Rattle.uvm_factory.specs.declared.overrides.OverrideStep.{OverrideStep}
use Rattle.uvm_factory.specs.declared.overrides.OverrideStep.TheVariants.{ByInstance, ByType}
use Rattle.uvm_factory.specs.declared.overrides.Override.{Override}
use Rattle.uvm_factory.specs.declared.overrides.Override.TheVariants.{Instance, Whole}
use Rattle.uvm_factory.specs.Steps.{next_type, made, after_override}

-- the oldest element of a list that begins with its newest element
abbrev pub oldest : {A : Type 0} → List A → Option A
oldest [] = None
oldest (x ∷ xs) = Some (unwrap_or (oldest xs) x)

-- the new type, if the override is an instance override of the type and its scope matches the text of the path
abbrev pub instance_of : ℕ → List ℕ → Override → Option ℕ
instance_of type_id text (Instance original new scope) = if original == type_id && matches scope text then Some new else None
instance_of type_id text (Whole original new replace) = None

-- the new type and whether the override replaces an earlier one, if it is a type override of the type
abbrev pub type_of : ℕ → Override → Option (ℕ × Bool)
type_of type_id (Instance original new scope) = None
type_of type_id (Whole original new replace) = if original == type_id then Some (new, replace) else None

-- the type override in force, of those of a type: the newest that replaces earlier ones, otherwise the oldest
abbrev pub in_force : List (ℕ × Bool) → Option (ℕ × Bool)
in_force overrides = option_or (newest (filter (λ o. o.1) overrides)) (oldest overrides)

-- the type that replaces a type at the text of a path, if it is a different type: that of the oldest instance override that
-- matches, otherwise that of the type override in force
unfoldable pub replacing : List Override → List ℕ → ℕ → Option ℕ
replacing overrides text type_id =
    option_and_then (λ new. if new == type_id then None else Some new)
    (option_or (oldest (filter_map (instance_of type_id text) overrides)) (option_map (λ o. o.0) (in_force (filter_map (type_of type_id) overrides))))

-- the type at which the overrides of a type end, if there are at most `types` steps; with as many registered types, more steps
-- are a loop
abbrev pub made_type : List Override → ℕ → List ℕ → ℕ → Option ℕ
made_type overrides types text type_id = made (replacing overrides text) types type_id

-- the override that applies, given the matching instance override and the type override in force: the instance override takes
-- precedence
abbrev pub step_from : Option ℕ → Option (ℕ × Bool) → Option OverrideStep
step_from (Some new) by_type = Some (ByInstance new)
step_from None (Some o) = Some (ByType o.0)
step_from None None = None

-- the override that applies to a type at the text of a path: the oldest instance override that matches, otherwise the type
-- override in force
unfoldable pub type_step : List Override → ℕ → List ℕ → Option OverrideStep
type_step overrides type_id text =
    step_from (oldest (filter_map (instance_of type_id text) overrides)) (in_force (filter_map (type_of type_id) overrides))

-- the override that applies to a type leads to the type that replaces it
abbrev pub StepsReplace : Type 0
StepsReplace = (overrides : List Override) (text : List ℕ) (type_id : ℕ) → next_type type_id (type_step overrides type_id text) ≡ replacing overrides text type_id

-- no override applies to a type if none is given
abbrev pub NoneGivenNoStep : Type 0
NoneGivenNoStep = (type_id : ℕ) (text : List ℕ) → type_step [] type_id text ≡ None

-- one more override changes the override that applies to each type at the text of each path as `after_override` defines
abbrev pub StepsAreGiven : Type 0
StepsAreGiven = (o : Override) (older : List Override) (type_id : ℕ) (text : List ℕ) → type_step (o ∷ older) type_id text ≡ after_override o type_id text (type_step older type_id text)

-- the same for a list in the order in which its overrides were given: its first i + 1 overrides compared with its first i
abbrev pub StepsAreGivenInOrder : Type 0
StepsAreGivenInOrder =
    (overrides : List Override) (i : ℕ) (d : Override) (type_id : ℕ) (text : List ℕ) → i < length overrides
    → type_step (reverse (take (i + 1) overrides)) type_id text ≡ after_override (slice_index_or overrides i d) type_id text (type_step (reverse (take i overrides)) type_id text)
