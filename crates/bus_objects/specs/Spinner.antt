-- The type `spinner`: it waits for 0 ticks in `run`, and again each time it wakes. It has no state.
use Rattle.std.specs.Prelude.{◌≡◌, ℕ, List, [], ◌∷◌, Option, Some, None, codes, if◌then◌else◌, bytes_eq}
use Rattle.uvm_phase.specs.declared.phases.Phase.TheVariants.{Run}
use Rattle.uvm_object.specs.Objects.{View}
use Rattle.uvm_acts.specs.declared.acts.Call.{Call}
use Rattle.uvm_acts.specs.declared.acts.Call.TheVariants.{Phase, Wake}
use Rattle.uvm_acts.specs.declared.acts.Act.{Act}
use Rattle.uvm_acts.specs.declared.acts.Act.TheVariants.{Wait}
use Rattle.bus_objects.specs.declared.spinner.Spinner.{Spinner}

-- the view of a `spinner`, which is empty
abbrev pub spinner_view : Spinner → View
spinner_view spinner = []

-- the answer of a `spinner` to a call: in `run`, and at each `wake`, it waits for 0 ticks
abbrev pub spinner_acts : Call → List Act
spinner_acts (Phase Run) = Wait 0 1 ∷ []
spinner_acts (Wake tag) = Wait 0 1 ∷ []
spinner_acts call = []

-- the relation of a `spinner`: it gives these answers, and its view stays the same
abbrev pub SpinnerSays : View → Call → List Act → View → Type 0
SpinnerSays before call acts after = (acts ≡ spinner_acts call) × (after ≡ before)

-- a new object if the name is `spinner`; `None` otherwise
abbrev pub spinner_named : List ℕ → Option Spinner
spinner_named name = if bytes_eq name (codes "spinner") then Some (record { type_name = name }) else None
