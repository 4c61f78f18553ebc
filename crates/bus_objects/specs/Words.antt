-- The words that writes store, by address, and their view.
use Rattle.std.specs.Prelude.{ℕ, ℤ, pos, negsuc, ◌+◌, ◌*◌, ◌/◌, ◌%◌, ◌==◌, List, [], ◌∷◌, unwrap_or, if◌then◌else◌}
use Rattle.std.specs.BTreeMap.{insert_entry, is_at}
use Rattle.std.specs.Map.{lookup}
use Rattle.std.specs.Ordering.{int_cmp}
use Rattle.uvm_object.specs.Objects.{View}
use Rattle.uvm_tlm.specs.declared.items.Item.{Item}
use Rattle.bus_objects.specs.Items.{address_of, data_of, is_write}

-- the addresses that have a stored word, each with its word, in ascending order of address
abbrev pub Words : Type 0
Words = List (ℤ × ℤ)

-- the word at an address; 0 if none was stored
abbrev pub word_at : Words → ℤ → ℤ
word_at words address = unwrap_or (lookup (is_at (int_cmp address)) words) (pos 0)

-- the words after an item: a write stores its data at its address
abbrev pub words_after : Item → Words → Words
words_after item words = if is_write item then insert_entry int_cmp words (address_of item) (data_of item) else words

-- an integer as a natural number: 0, 1, 2 .. as 0, 2, 4 .., and -1, -2, -3 .. as 1, 3, 5 ..
abbrev pub number_of : ℤ → ℕ
number_of (pos n) = 2 * n
number_of (negsuc n) = 2 * n + 1

-- the integer that is read back from a natural number
abbrev pub integer_of : ℕ → ℤ
integer_of number = if number % 2 == 0 then pos (number / 2) else negsuc (number / 2)

-- the view of the words: each address, followed by its word
unfoldable pub words_view : Words → View
words_view [] = []
words_view (stored ∷ words) = number_of stored.0 ∷ number_of stored.1 ∷ words_view words

-- the words that are read back from a view
unfoldable pub words_of : View → Words
words_of (address ∷ word ∷ view) = (integer_of address, integer_of word) ∷ words_of view
words_of view = []
