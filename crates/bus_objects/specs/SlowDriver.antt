-- The type `slow_driver`: a driver that keeps an item that comes, and puts it 3 ticks later.
use Rattle.std.specs.Prelude.{◌≡◌, ℕ, pos, List, [], ◌∷◌, Option, Some, None, codes, map, replicate, if◌then◌else◌, bytes_eq}
use Rattle.uvm_tlm.specs.declared.items.Item.{Item}
use Rattle.uvm_object.specs.Objects.{View}
use Rattle.uvm_acts.specs.declared.acts.Call.{Call}
use Rattle.uvm_acts.specs.declared.acts.Call.TheVariants.{NextItem, Wake}
use Rattle.uvm_acts.specs.declared.acts.Act.{Act}
use Rattle.uvm_acts.specs.declared.acts.Act.TheVariants.{Wait}
use Rattle.bus_objects.specs.declared.slow_driver.SlowDriver.{SlowDriver}
use Rattle.bus_objects.specs.Driver.{driver_acts, put_act}
use Rattle.bus_objects.specs.Words.{integer_of, number_of}

-- the view of an item: its integers
unfoldable pub item_view : Item → View
item_view item = map number_of item.0

-- the item that is read back from a view
unfoldable pub item_of : View → Item
item_of view = record { 0 = map integer_of view }

-- the view of a `slow_driver`: the kept item
abbrev pub slow_driver_view : SlowDriver → View
slow_driver_view slow_driver = item_view slow_driver.item

-- the answer of a slow driver to a call: it waits for 3 ticks when an item comes, and then puts the kept item
abbrev pub slow_driver_acts : Item → Call → List Act
slow_driver_acts kept (NextItem port (Some item)) = Wait 3 1 ∷ []
slow_driver_acts kept (Wake tag) = put_act kept ∷ []
slow_driver_acts kept call = driver_acts call

-- the kept item after a call: an item that comes replaces it
abbrev pub kept_after : Item → Call → Item
kept_after kept (NextItem port (Some item)) = item
kept_after kept call = kept

-- The relation of a slow driver. The kept item in its view determines its answer, and the next view is the item kept after the call.
abbrev pub SlowDriverSays : View → Call → List Act → View → Type 0
SlowDriverSays before call acts after = let kept = item_of before in (acts ≡ slow_driver_acts kept call) × (after ≡ item_view (kept_after kept call))

-- the new object of type `slow_driver`, with this type name and an item of zeros
abbrev pub new_slow_driver : List ℕ → SlowDriver
new_slow_driver name = record { type_name = name; item = record { 0 = replicate 4 (pos 0) } }

-- a new object if the name is `slow_driver`; `None` otherwise
abbrev pub slow_driver_named : List ℕ → Option SlowDriver
slow_driver_named name =
    if bytes_eq name (codes "slow_driver") then Some (new_slow_driver name)
    else None
