-- The type `seq_burst`: a sequence that writes two words and reads them back, under a lock.
use Rattle.std.specs.Prelude.{◌≡◌, ℕ, List, [], ◌∷◌, Option, Some, None, codes, slice_get, if◌then◌else◌, bytes_eq}
use Rattle.uvm_tlm.specs.declared.items.Item.{Item}
use Rattle.uvm_object.specs.Objects.{View}
use Rattle.uvm_acts.specs.declared.acts.Call.{Call}
use Rattle.uvm_acts.specs.declared.acts.Call.TheVariants.{PreStart, Body, PostStart, Held, Grant, ItemDone}
use Rattle.uvm_acts.specs.declared.acts.Act.{Act}
use Rattle.uvm_acts.specs.declared.acts.Act.TheVariants.{EndStep, Lock, Request, Unlock}
use Rattle.bus_objects.specs.declared.seq_burst.SeqBurst.{SeqBurst}
use Rattle.bus_objects.specs.Items.{read_item, write_item}
use Rattle.bus_objects.specs.Sequences.{count_of, send_acts, sent_after, while_left}

-- the view of a `seq_burst`: the number of items that it has sent
abbrev pub seq_burst_view : SeqBurst → View
seq_burst_view seq_burst = seq_burst.sent ∷ []

-- the items that it sends, in order: writes of 20 at address 0 and 21 at address 1, then reads at both
abbrev pub burst_items : List Item
burst_items = write_item 0 20 ∷ write_item 1 21 ∷ read_item 0 ∷ read_item 1 ∷ []

-- the answer of a `seq_burst` to a call: it requests a lock, sends its items one by one, and releases the lock
abbrev pub seq_burst_acts : ℕ → Call → List Act
seq_burst_acts sent PreStart = EndStep ∷ []
seq_burst_acts sent Body = Lock ∷ []
seq_burst_acts sent PostStart = EndStep ∷ []
seq_burst_acts sent Held = Request None ∷ []
seq_burst_acts sent Grant = send_acts (slice_get burst_items sent)
seq_burst_acts sent (ItemDone response) = while_left (slice_get burst_items sent) (Request None ∷ []) (Unlock ∷ EndStep ∷ [])
seq_burst_acts sent call = []

-- The relation of a `seq_burst`. The count in its view determines its answer, and the next view is the count after the call.
abbrev pub SeqBurstSays : View → Call → List Act → View → Type 0
SeqBurstSays before call acts after = let sent = count_of before in (acts ≡ seq_burst_acts sent call) × (after ≡ sent_after burst_items sent call ∷ [])

-- a new object if the name is `seq_burst`; `None` otherwise
abbrev pub seq_burst_named : List ℕ → Option SeqBurst
seq_burst_named name = if bytes_eq name (codes "seq_burst") then Some (record { type_name = name; sent = 0 }) else None
