-- The type `bus_mem_bad`: a memory whose reads give the stored word with its lowest bit flipped.
use Rattle.std.specs.Prelude.{ℕ, List, Option, Some, None, codes, if◌then◌else◌, bytes_eq}
use Rattle.uvm_object.specs.Objects.{View}
use Rattle.uvm_acts.specs.declared.acts.Call.{Call}
use Rattle.uvm_acts.specs.declared.acts.Act.{Act}
use Rattle.bus_objects.specs.declared.bus_mem_bad.BusMemBad.{BusMemBad}
use Rattle.bus_objects.specs.declared.memory.Reading.TheVariants.{Flipped}
use Rattle.bus_objects.specs.Memory.{MemorySays, memory_view, new_memory}

-- the view of a `bus_mem_bad`: the view of its memory
abbrev pub bus_mem_bad_view : BusMemBad → View
bus_mem_bad_view bus_mem_bad = memory_view bus_mem_bad.memory

-- the relation of a memory whose reads give the stored word with its lowest bit flipped
abbrev pub BusMemBadSays : View → Call → List Act → View → Type 0
BusMemBadSays = MemorySays Flipped

-- the new object of type `bus_mem_bad`, with this type name
abbrev pub new_bus_mem_bad : List ℕ → BusMemBad
new_bus_mem_bad name = record { type_name = name; memory = new_memory }

-- a new object if the name is `bus_mem_bad`; `None` otherwise
abbrev pub bus_mem_bad_named : List ℕ → Option BusMemBad
bus_mem_bad_named name = if bytes_eq name (codes "bus_mem_bad") then Some (new_bus_mem_bad name) else None
