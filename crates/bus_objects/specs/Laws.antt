-- The laws of the bus objects.
use Rattle.std.specs.Prelude.{◌≡◌, ℤ, ◌&&◌, List, if◌then◌else◌}
use Rattle.std.specs.Ordering.{int_eq}
use Rattle.uvm_tlm.specs.declared.items.Item.{Item}
use Rattle.uvm_object.specs.Objects.{View}
use Rattle.uvm_acts.specs.declared.acts.Act.{Act}
use Rattle.uvm_acts.specs.declared.acts.Call.{Call}
use Rattle.bus_objects.specs.declared.objects.BusObject.{BusObject}
use Rattle.bus_objects.specs.declared.memory.Memory.{Memory}
use Rattle.bus_objects.specs.declared.bus_scoreboard.Score.{Score}
use Rattle.bus_objects.specs.Items.{address_of, data_of, is_write}
use Rattle.bus_objects.specs.Words.{Words, word_at, words_after}
use Rattle.bus_objects.specs.Memory.{memory_of, memory_view}
use Rattle.bus_objects.specs.BusScoreboard.{score_of, score_view}
use Rattle.bus_objects.specs.SlowDriver.{item_of, item_view}
use Rattle.bus_objects.specs.Objects.{says_of}

-- After a write, its data is the word at its address, and every other word stays. After a read, all words stay.
abbrev pub LastWrittenIsFound : Type 0
LastWrittenIsFound =
    (words : Words) (item : Item) (address : ℤ) →
    word_at (words_after item words) address ≡ (if is_write item && int_eq address (address_of item) then data_of item else word_at words address)

-- the memory that is read back from the view of a memory is the same memory
abbrev pub MemoriesShowThemselves : Type 0
MemoriesShowThemselves = (memory : Memory) → memory_of (memory_view memory) ≡ memory

-- the score that is read back from the view of a score is the same score
abbrev pub ScoresShowThemselves : Type 0
ScoresShowThemselves = (score : Score) → score_of (score_view score) ≡ score

-- the item that is read back from the view of an item is the same item
abbrev pub ItemsShowThemselves : Type 0
ItemsShowThemselves = (item : Item) → item_of (item_view item) ≡ item

-- a relation allows exactly one answer and one next view
abbrev pub AllowsOne : (List Act → View → Type 0) → Type 0
AllowsOne allowed =
    (acts : List Act) × (after : View) × (allowed acts after × ((others : List Act) (next : View) → allowed others next → (others ≡ acts) × (next ≡ after)))

-- at each view and call, the relation of a built-in object allows exactly one answer and one next view
abbrev pub ObjectsAreFunctions : Type 0
ObjectsAreFunctions = (object : BusObject) (before : View) (call : Call) → AllowsOne (says_of object before call)
