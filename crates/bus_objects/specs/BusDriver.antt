-- The type `bus_driver`: a driver that puts each item when it comes. It has no state.
use Rattle.std.specs.Prelude.{◌≡◌, ℕ, List, [], ◌∷◌, Option, Some, None, codes, if◌then◌else◌, bytes_eq}
use Rattle.uvm_object.specs.Objects.{View}
use Rattle.uvm_acts.specs.declared.acts.Call.{Call}
use Rattle.uvm_acts.specs.declared.acts.Call.TheVariants.{NextItem}
use Rattle.uvm_acts.specs.declared.acts.Act.{Act}
use Rattle.bus_objects.specs.declared.bus_driver.BusDriver.{BusDriver}
use Rattle.bus_objects.specs.Driver.{driver_acts, put_act}

-- the view of a `bus_driver`, which is empty
abbrev pub bus_driver_view : BusDriver → View
bus_driver_view bus_driver = []

-- the answer of a driver to a call: it puts each item that comes, and otherwise answers as every driver of the bus
abbrev pub bus_driver_acts : Call → List Act
bus_driver_acts (NextItem port (Some item)) = put_act item ∷ []
bus_driver_acts call = driver_acts call

-- the relation of a driver: it gives these answers, and its view stays the same
abbrev pub BusDriverSays : View → Call → List Act → View → Type 0
BusDriverSays before call acts after = (acts ≡ bus_driver_acts call) × (after ≡ before)

-- a new object if the name is `bus_driver`; `None` otherwise
abbrev pub bus_driver_named : List ℕ → Option BusDriver
bus_driver_named name = if bytes_eq name (codes "bus_driver") then Some (record { type_name = name }) else None
