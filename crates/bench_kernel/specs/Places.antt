-- How the slots of components are stored, and the places to which they belong.
use Rattle.std.specs.Prelude.{◌≡◌, ◌-◌, ℕ, List, All, min, nat_eq, map, Option, Some, option_map}
use Rattle.std.specs.List.{IsDistinct, filter_map}
use Rattle.std.specs.Map.{lookup}
use Rattle.std.specs.Ordering.{nat_cmp, ordering_then}
use Rattle.std.specs.BinaryHeap.{IsHeap, heap_capacity, heap_len}
use Rattle.std.specs.HashMap as hash
use Rattle.std.specs.declared.cmp.Ordering.{Ordering}
use Rattle.std.specs.declared.cmp.Reverse.{Reverse}
use Rattle.std.specs.declared.collections.BinaryHeap.{BinaryHeap}
use Rattle.slab.specs.Slab.{Slab, get, slab_len}
use Rattle.uvm_glob.specs.Orders.{down_cmp}
use Rattle.bench_kernel.specs.declared.seats.Seat.{Seat}
use Rattle.bench_kernel.specs.Seats.{Taken}

-- a place: the path of a component, and the key of its slot
abbrev pub Place : Type 0
Place = Reverse (List (List ℕ)) × ℕ

-- the order of places: the greatest is the first in pre-order
abbrev pub place_cmp : Place → Place → Ordering
place_cmp place other = ordering_then (down_cmp other.0.0 place.0.0) (nat_cmp place.1 other.1)

module _ {O : Type 0} where
  -- the component in the slot of a place, if the slot is occupied
  abbrev pub seat_at : Slab (Seat O) → Place → Option (Taken O)
  seat_at slab place = option_map (λ seat. record { path = place.0.0; node = seat.node; object = seat.object }) (get slab place.1)

  -- the occupied slots of these places, in the order of the places
  abbrev pub taken_in : Slab (Seat O) → List Place → List (Taken O)
  taken_in slab places = filter_map (seat_at slab) places

  -- the slot of a key is occupied, and the table leads from its node to this key
  pub record IsSeat (slab : Slab (Seat O)) (table : List (ℕ × ℕ)) (key : ℕ) : Type 0 where
    pub seat : Seat O
    pub there : get slab key ≡ Some seat
    pub found : lookup (nat_eq seat.node) table ≡ Some key

  -- the slot of a key is occupied by the component at this node
  pub record SitsAt (slab : Slab (Seat O)) (key node : ℕ) : Type 0 where
    pub seat : Seat O
    pub there : get slab key ≡ Some seat
    pub is : seat.node ≡ node

  -- the places are a heap and have distinct keys. The slot of each key is occupied, and the table leads from its node to it and to no other
  -- slot
  pub record AreSeats (slab : Slab (Seat O)) (table : List (ℕ × ℕ)) (places : List Place) : Type 0 where
    pub heap : IsHeap place_cmp places
    pub seated : All (λ place. IsSeat slab table place.1) places
    pub apart : IsDistinct nat_eq (map (λ place. place.1) places)
    pub exact : (node key : ℕ) → lookup (nat_eq node) table ≡ Some key → SitsAt slab key node

  -- the reserved capacity in slots, which is the least of all three stores
  abbrev pub room_in : {S A : Type 0} → Slab (Seat O) → hash.HashMap ℕ ℕ S → BinaryHeap Place A → ℕ
  room_in slab table places = min (slab.capacity - slab_len slab) (min (hash.spare table) (heap_capacity places - heap_len places))
