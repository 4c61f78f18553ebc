-- The type `idle`: it answers each call with no actions. It has no state.
use Rattle.std.specs.Prelude.{◌≡◌, ℕ, List, [], Option, Some, None, codes, if◌then◌else◌, bytes_eq}
use Rattle.uvm_object.specs.Objects.{View}
use Rattle.uvm_acts.specs.declared.acts.Call.{Call}
use Rattle.uvm_acts.specs.declared.acts.Act.{Act}
use Rattle.bus_objects.specs.declared.idle.Idle.{Idle}

-- the view of an `idle`, which is empty
abbrev pub idle_view : Idle → View
idle_view idle = []

-- the relation of an `idle`: it answers with no actions, and its view stays the same
abbrev pub IdleSays : View → Call → List Act → View → Type 0
IdleSays before call acts after = (acts ≡ []) × (after ≡ before)

-- a new object if the name is `idle`; `None` otherwise
abbrev pub idle_named : List ℕ → Option Idle
idle_named name = if bytes_eq name (codes "idle") then Some (record { type_name = name }) else None
