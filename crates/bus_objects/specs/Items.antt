-- The items of the bus: an operation, an address, data, and 0. The operation 1 writes, and any other reads.
use Rattle.std.specs.Prelude.{ℕ, ℤ, pos, Bool, List, [], ◌∷◌, ◌++◌, codes, slice_index_or, slice_set, if◌then◌else◌}
use Rattle.std.specs.Ordering.{int_eq}
use Rattle.std.specs.Fmt.{signed_decimal}
use Rattle.uvm_tlm.specs.declared.items.Item.{Item}

-- the integer at a place of an item, from 0; 0 if there is no such place
abbrev pub word_of : Item → ℕ → ℤ
word_of item place = slice_index_or item.0 place (pos 0)

-- whether an item writes: its operation is 1
abbrev pub is_write : Item → Bool
is_write item = int_eq (word_of item 0) (pos 1)

-- the address of an item
abbrev pub address_of : Item → ℤ
address_of item = word_of item 1

-- the data of an item
abbrev pub data_of : Item → ℤ
data_of item = word_of item 2

-- the item that writes a word at an address
abbrev pub write_item : ℕ → ℕ → Item
write_item address word = record { 0 = pos 1 ∷ pos address ∷ pos word ∷ pos 0 ∷ [] }

-- the item that reads at an address
abbrev pub read_item : ℕ → Item
read_item address = record { 0 = pos 0 ∷ pos address ∷ pos 0 ∷ pos 0 ∷ [] }

-- the item with this data
abbrev pub with_data : Item → ℤ → Item
with_data item word = record { 0 = slice_set item.0 2 word }

-- the operation of an item as text, `write` or `read`
abbrev pub operation_text : Item → List ℕ
operation_text item = if is_write item then codes "write" else codes "read"

-- an item as text: operation, address and data, for example `write 16 -5`
unfoldable pub transfer_text : Item → List ℕ
transfer_text item = operation_text item ++ 32 ∷ (signed_decimal (address_of item) ++ 32 ∷ signed_decimal (data_of item))
