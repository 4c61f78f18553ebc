-- The type `bus_mem`: a memory whose reads give the stored word.
use Rattle.std.specs.Prelude.{ℕ, List, Option, Some, None, codes, if◌then◌else◌, bytes_eq}
use Rattle.uvm_object.specs.Objects.{View}
use Rattle.uvm_acts.specs.declared.acts.Call.{Call}
use Rattle.uvm_acts.specs.declared.acts.Act.{Act}
use Rattle.bus_objects.specs.declared.bus_mem.BusMem.{BusMem}
use Rattle.bus_objects.specs.declared.memory.Reading.TheVariants.{Exact}
use Rattle.bus_objects.specs.Memory.{MemorySays, memory_view, new_memory}

-- the view of a `bus_mem`: the view of its memory
abbrev pub bus_mem_view : BusMem → View
bus_mem_view bus_mem = memory_view bus_mem.memory

-- the relation of a memory whose reads give the stored word
abbrev pub BusMemSays : View → Call → List Act → View → Type 0
BusMemSays = MemorySays Exact

-- the new object of type `bus_mem`, with this type name
abbrev pub new_bus_mem : List ℕ → BusMem
new_bus_mem name = record { type_name = name; memory = new_memory }

-- a new object if the name is `bus_mem`; `None` otherwise
abbrev pub bus_mem_named : List ℕ → Option BusMem
bus_mem_named name = if bytes_eq name (codes "bus_mem") then Some (new_bus_mem name) else None
