-- Why a call of the factory fails, given the names and kinds of the registered types in order.
use Rattle.std.specs.Prelude.{ℕ, Bool, true, false, List, Option, Some, None, nat_le, length, slice_get, map, nat_eq, position, is_some, codes, if◌then◌else◌}
use Rattle.std.specs.Cmp.Lexicographic.{pointwise}
use Rattle.uvm_factory.specs.declared.types.Kind.{Kind}
use Rattle.uvm_factory.specs.declared.types.Kind.TheVariants.{Component, Sequence}
use Rattle.uvm_factory.specs.declared.faults.FactoryFault.{FactoryFault}
use Rattle.uvm_factory.specs.declared.faults.FactoryFault.TheVariants.{Known, NoType, KindDiffers, Full, Memory}
use Rattle.uvm_factory.specs.declared.faults.Unmade.{Unmade}
use Rattle.uvm_factory.specs.declared.faults.Unmade.TheVariants as unmade

-- the registered types: the name and the kind of each, in the order of registration
abbrev pub Types : Type 0
Types = List (List ℕ × Kind)

-- the maximum number of registered types
abbrev pub most_types : ℕ
most_types = 1024

-- the error that the arguments of a call have, given the error of the call: none for `Memory`, since they are then valid
abbrev pub refusal : FactoryFault → Option FactoryFault
refusal Known = Some Known
refusal NoType = Some NoType
refusal KindDiffers = Some KindDiffers
refusal Full = Some Full
refusal Memory = None

-- the place of the type with this name, from 0
abbrev pub type_named : Types → List ℕ → Option ℕ
type_named types type_name = position (pointwise nat_eq type_name) (map (λ t. t.0) types)

-- why a type with this name cannot be registered: `Known`, then `Full`; none if it can
abbrev pub register_fault : Types → List ℕ → Option FactoryFault
register_fault types type_name =
    if is_some (type_named types type_name) then Some Known
    else if nat_le most_types (length types) then Some Full
    else None

-- whether both kinds are component, or both are sequence
abbrev pub is_same_kind : Kind → Kind → Bool
is_same_kind Component Component = true
is_same_kind Sequence Sequence = true
is_same_kind a b = false

-- why a type cannot be overridden by another: `NoType` if one of them is missing, then `KindDiffers`; none if it can
abbrev pub fault_between : Option (List ℕ × Kind) → Option (List ℕ × Kind) → Option FactoryFault
fault_between None new = Some NoType
fault_between (Some original) None = Some NoType
fault_between (Some original) (Some new) = if is_same_kind original.1 new.1 then None else Some KindDiffers

-- why the type at one place cannot be overridden by the type at another; none if it can
abbrev pub override_fault : Types → ℕ → ℕ → Option FactoryFault
override_fault types original new = fault_between (slice_get types original) (slice_get types new)

-- the message of each error
abbrev pub fault_text : FactoryFault → List ℕ
fault_text Known = codes "type known"
fault_text NoType = codes "no such type"
fault_text KindDiffers = codes "types of two kinds"
fault_text Full = codes "too many types"
fault_text Memory = codes "out of memory"

-- the message of each reason why no type is created
abbrev pub unmade_text : Unmade → List ℕ
unmade_text unmade.NoType = codes "no such type"
unmade_text unmade.Loop = codes "override loop"
