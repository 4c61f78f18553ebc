-- How the slots of the objects of sequences are stored: by their numbers.
use Rattle.std.specs.Prelude.{◌≡◌, ◌<◌, ◌≤◌, ◌+◌, ℕ, zero, suc, List, [], ◌∷◌, ◌++◌, length, take, drop, slice_set, Option, None, Some, option_map, option_and_then}
use Rattle.std.specs.List.{filter_map, slice_index_or}
use Rattle.slab.specs.Slab.{Slab, get, slab_len}
use Rattle.uvm_acts.specs.declared.acts.Who.{Who}
use Rattle.uvm_acts.specs.declared.acts.Who.TheVariants.{Node, Sequence}
use Rattle.bench_kernel.specs.declared.sequence_seats.SequenceSeat.{SequenceSeat}

-- the place of a number; the number 1 has the place 0, and the number 0 has none
abbrev pub place_in : ℕ → Option ℕ
place_in zero = None
place_in (suc place) = Some place

-- the place of a sequence; a component has none
abbrev pub place_of : Who → Option ℕ
place_of (Node node) = None
place_of (Sequence home id) = place_in id

-- the key of the slot of a sequence, if it has one
abbrev pub key_of : List (Option ℕ) → Who → Option ℕ
key_of keys who = option_and_then (λ place. slice_index_or keys place None) (place_of who)

module _ {O : Type 0} where
  -- the sequence of a slot, with its object
  abbrev pub sitter_of : SequenceSeat O → Who × O
  sitter_of seat = (Sequence seat.home seat.id, seat.object)

  -- the sequence in the slot of a key, with its object, if there are a key and such a slot
  abbrev pub sitter_at : Slab (SequenceSeat O) → Option ℕ → Option (Who × O)
  sitter_at slab None = None
  sitter_at slab (Some key) = option_map sitter_of (get slab key)

  -- the sequences in the slots of these keys, each with its object, in the order of the keys
  abbrev pub sitters_in : Slab (SequenceSeat O) → List (Option ℕ) → List (Who × O)
  sitters_in slab keys = filter_map (sitter_at slab) keys

  -- the slot of a key is occupied by the sequence with this number
  pub record SitsAt (slab : Slab (SequenceSeat O)) (key number : ℕ) : Type 0 where
    pub seat : SequenceSeat O
    pub there : get slab key ≡ Some seat
    pub is : seat.id ≡ number

  -- if there is a key, its slot is occupied by the sequence with this number
  abbrev pub IsNumbered : Slab (SequenceSeat O) → ℕ → Option ℕ → Type 0
  IsNumbered slab number None = Unit {0}
  IsNumbered slab number (Some key) = SitsAt slab key number

  -- each key, if there is one, leads to the sequence with the number of its place, counted from this number
  abbrev pub AreNumbered : Slab (SequenceSeat O) → ℕ → List (Option ℕ) → Type 0
  AreNumbered slab number [] = Unit {0}
  AreNumbered slab number (key ∷ keys) = IsNumbered slab number key × AreNumbered slab (suc number) keys

  -- each key leads to the sequence with the number of its place, no other slot is occupied, and no place below `first` has a key
  pub record AreSequenceSeats (slab : Slab (SequenceSeat O)) (keys : List (Option ℕ)) (first : ℕ) : Type 0 where
    pub numbered : AreNumbered slab 1 keys
    pub full : length (sitters_in slab keys) ≡ slab_len slab
    pub within : first ≤ length keys
    pub empty : (place : ℕ) → place < first → slice_index_or keys place None ≡ None

  -- the sequence of a place was removed from its slot, and the other slots are unchanged
  pub record IsLeft (back : Who × O) (slab new : Slab (SequenceSeat O)) (keys : List (Option ℕ)) (place : ℕ) : Type 0 where
    pub found : sitter_at slab (slice_index_or keys place None) ≡ Some back
    pub was : sitters_in slab keys ≡ sitters_in slab (take place keys) ++ back ∷ sitters_in slab (drop (suc place) keys)
    pub is : sitters_in new (slice_set keys place None) ≡ sitters_in slab (take place keys) ++ sitters_in slab (drop (suc place) keys)
    pub numbered : AreNumbered new 1 (slice_set keys place None)
    pub fewer : slab_len new + 1 ≡ slab_len slab
