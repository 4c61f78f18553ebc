-- The memories of the bus: they take an item, wait, perform it, and put its result. They differ in the data of a read.
use Rattle.std.specs.Prelude.{◌≡◌, ℕ, ℤ, pos, negsuc, List, [], ◌∷◌, ◌++◌, Option, Some, None, codes, drop, length, map, replicate, take, if◌then◌else◌}
use Rattle.std.specs.Int.{int_bit_xor, w64}
use Rattle.uvm_phase.specs.declared.phases.Phase.TheVariants.{Build, Run}
use Rattle.uvm_tlm.specs.declared.ends.PortKind.TheVariants as kind
use Rattle.uvm_tlm.specs.declared.items.Item.{Item}
use Rattle.uvm_object.specs.Objects.{View}
use Rattle.uvm_acts.specs.declared.acts.What.TheVariants.{Port}
use Rattle.uvm_acts.specs.declared.acts.Call.{Call}
use Rattle.uvm_acts.specs.declared.acts.Call.TheVariants.{Phase, Config, Wake, Stored, Taken}
use Rattle.uvm_acts.specs.declared.acts.Act.{Act}
use Rattle.uvm_acts.specs.declared.acts.Act.TheVariants.{Add, Get, Put, Take, Wait}
use Rattle.bus_objects.specs.declared.memory.Memory.{Memory}
use Rattle.bus_objects.specs.declared.memory.Reading.{Reading}
use Rattle.bus_objects.specs.declared.memory.Reading.TheVariants.{Exact, Flipped}
use Rattle.bus_objects.specs.Items.{address_of, is_write, with_data}
use Rattle.bus_objects.specs.Words.{integer_of, number_of, word_at, words_after, words_of, words_view}

-- the state of a new memory: 0 ticks, an item of zeros, and no words
abbrev pub new_memory : Memory
new_memory = record { waits = 0; item = record { 0 = replicate 4 (pos 0) }; words = [] }

-- The view of a memory: its ticks, the number of integers of its item, these integers, and the stored words.
unfoldable pub memory_view : Memory → View
memory_view memory = memory.waits ∷ length memory.item.0 ∷ map number_of memory.item.0 ++ words_view memory.words

-- the memory that is read back from a view
unfoldable pub memory_of : View → Memory
memory_of (waits ∷ count ∷ view) = record { waits = waits; item = record { 0 = map integer_of (take count view) }; words = words_of (drop count view) }
memory_of view = new_memory

-- the ticks for the value of the field `waits`: 2 if there is no value or it is negative
abbrev pub waits_kept : Option ℤ → ℕ
waits_kept None = 2
waits_kept (Some (pos ticks)) = ticks
waits_kept (Some (negsuc below)) = 2

-- the data of a read for a stored word: the word, or the word with its lowest bit flipped
abbrev pub data_read : Reading → ℤ → ℤ
data_read Exact word = word
data_read Flipped word = int_bit_xor w64 word (pos 1)

-- The result of the kept item. For a write it is the item; for a read it is the item with the data that was read at its address.
abbrev pub result_of : Reading → Memory → Item
result_of reading memory =
    if is_write memory.item then memory.item
    else with_data memory.item (data_read reading (word_at memory.words (address_of memory.item)))

-- the answer of a memory to a call: it takes an item, waits for its ticks, puts the result, and takes the next item
abbrev pub memory_acts : Reading → Memory → Call → List Act
memory_acts reading memory (Phase Build) = Add (codes "req") (Port kind.Get) ∷ Add (codes "rsp") (Port kind.Put) ∷ Get (codes "waits") ∷ []
memory_acts reading memory (Phase Run) = Take (codes "req") ∷ []
memory_acts reading memory (Taken port item) = Wait memory.waits 1 ∷ []
memory_acts reading memory (Wake tag) = Put (codes "rsp") (result_of reading memory) ∷ []
memory_acts reading memory (Stored port) = Take (codes "req") ∷ []
memory_acts reading memory call = []

-- the memory after a call: a field value sets its ticks, an item is kept, and a `wake` performs the kept item
abbrev pub memory_after : Memory → Call → Memory
memory_after memory (Config field value) = record memory { waits = waits_kept value }
memory_after memory (Taken port item) = record memory { item = item }
memory_after memory (Wake tag) = record memory { words = words_after memory.item memory.words }
memory_after memory call = memory

-- The relation of a memory. The memory in its view determines its answer, and the next view is the memory after the call.
abbrev pub MemorySays : Reading → View → Call → List Act → View → Type 0
MemorySays reading before call acts after = let memory = memory_of before in (acts ≡ memory_acts reading memory call) × (after ≡ memory_view (memory_after memory call))
