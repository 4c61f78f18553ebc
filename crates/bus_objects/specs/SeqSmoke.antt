-- The type `seq_smoke`: a sequence that writes a word and reads it back.
use Rattle.std.specs.Prelude.{◌≡◌, ℕ, List, [], ◌∷◌, Option, Some, None, codes, slice_get, if◌then◌else◌, bytes_eq}
use Rattle.uvm_tlm.specs.declared.items.Item.{Item}
use Rattle.uvm_object.specs.Objects.{View}
use Rattle.uvm_acts.specs.declared.acts.Call.{Call}
use Rattle.uvm_acts.specs.declared.acts.Call.TheVariants.{PreStart, Body, PostStart, Grant, ItemDone}
use Rattle.uvm_acts.specs.declared.acts.Act.{Act}
use Rattle.uvm_acts.specs.declared.acts.Act.TheVariants.{EndStep, Request}
use Rattle.bus_objects.specs.declared.seq_smoke.SeqSmoke.{SeqSmoke}
use Rattle.bus_objects.specs.Items.{read_item, write_item}
use Rattle.bus_objects.specs.Sequences.{count_of, send_acts, sent_after, while_left}

-- the view of a `seq_smoke`: the number of items that it has sent
abbrev pub seq_smoke_view : SeqSmoke → View
seq_smoke_view seq_smoke = seq_smoke.sent ∷ []

-- the items that it sends, in order: a write of 10 at address 0, then a read there
abbrev pub smoke_items : List Item
smoke_items = write_item 0 10 ∷ read_item 0 ∷ []

-- the answer of a `seq_smoke` to a call: it requests and sends its items one by one, and then ends its body
abbrev pub seq_smoke_acts : ℕ → Call → List Act
seq_smoke_acts sent PreStart = EndStep ∷ []
seq_smoke_acts sent Body = Request None ∷ []
seq_smoke_acts sent PostStart = EndStep ∷ []
seq_smoke_acts sent Grant = send_acts (slice_get smoke_items sent)
seq_smoke_acts sent (ItemDone response) = while_left (slice_get smoke_items sent) (Request None ∷ []) (EndStep ∷ [])
seq_smoke_acts sent call = []

-- The relation of a `seq_smoke`. The count in its view determines its answer, and the next view is the count after the call.
abbrev pub SeqSmokeSays : View → Call → List Act → View → Type 0
SeqSmokeSays before call acts after = let sent = count_of before in (acts ≡ seq_smoke_acts sent call) × (after ≡ sent_after smoke_items sent call ∷ [])

-- a new object if the name is `seq_smoke`; `None` otherwise
abbrev pub seq_smoke_named : List ℕ → Option SeqSmoke
seq_smoke_named name = if bytes_eq name (codes "seq_smoke") then Some (record { type_name = name; sent = 0 }) else None
