-- The value of the slots of components in contracts.
use Rattle.std.specs.Prelude.{◌≡◌, ℕ, false, List, ◌∷◌, All, map}
use Rattle.std.specs.List.Sorted.{IsPermutation}
use Rattle.std.specs.Ordering.{is_lt}
use Rattle.uvm_glob.specs.Orders.{down_cmp}
use Rattle.uvm_acts.specs.declared.acts.Who.{Who}
use Rattle.uvm_acts.specs.declared.acts.Who.TheVariants.{Node}

-- an occupied slot: the path and the node of its component, and the object
pub record Taken (O : Type 0) : Type 0 where
  pub path : List (List ℕ)
  pub node : ℕ
  pub object : O

-- the occupied slots, in no order, and the reserved capacity in slots
pub record SeatsValue (O : Type 0) : Type 0 where
  pub taken : List (Taken O)
  pub spare : ℕ

module _ {O : Type 0} where
  -- the components of occupied slots, each with its object
  abbrev pub held_in : List (Taken O) → List (Who × O)
  held_in taken = map (λ seat. (Node seat.node, seat.object)) taken

  -- the paths and the nodes of occupied slots
  abbrev pub paths_in : List (Taken O) → List (List (List ℕ) × ℕ)
  paths_in taken = map (λ seat. (seat.path, seat.node)) taken

  -- the removed component, before whose path no other slot's path comes in pre-order, and the slots that are left
  pub record IsTakenOut (back : Who × O) (old new : List (Taken O)) : Type 0 where
    pub path : List (List ℕ)
    pub node : ℕ
    pub who : back.0 ≡ Node node
    pub taken : IsPermutation (record { path = path; node = node; object = back.1 } ∷ new) old
    pub least : All (λ seat. is_lt (down_cmp seat.path path) ≡ false) new
