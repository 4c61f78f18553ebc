-- A drain that began is due at its node, which holds something.
use Rattle.uvm_objection.proofs.Common.{◌≡◌, ◌<◌, ℕ, Bool, true, false, ◌||◌, ◌&&◌, ◌==◌, nat_lt, List, [], ◌∷◌, find, Some, refl, sym, arith, All, nat_tests, All-nil, All-cons, Due, Node, held_of, drains_begun, places, IsNew, AreUnder, AreNodes, IsHeldUntilDue, BegunDrainsAreHeld}
use Rattle.uvm_objection.proofs.Trees.{same_node, other_node}

-- each of some nodes is found among all
abbrev Stand : List Node → List Node → Type 0
Stand all [] = Unit {0}
Stand all (e ∷ newer) = (find (λ m. m.node == e.node) all ≡ Some e) × Stand all newer

stand_later : (e : Node) (all nodes : List Node) → IsNew e.node (places nodes) → Stand all nodes → Stand (e ∷ all) nodes
stand_later e all [] new stand = tt
stand_later e all (f ∷ nodes) new stand = (rw (other_node e.node f.node (λ same. new.0 (sym same))) stand.0, stand_later e all nodes new.1 stand.1)

stand_first : (e : Node) (newer : List Node) → IsNew e.node (places newer) → Stand newer newer → Stand (e ∷ newer) (e ∷ newer)
stand_first e newer new stand = (rw (same_node e.node) refl, stand_later e newer newer new stand)

stand_under : (known : ℕ → Bool) (nodes : List Node) → AreUnder known (places nodes) → Stand nodes nodes
stand_under known [] under = tt
stand_under known (e ∷ newer) under = let seen : ℕ → Bool = λ k. (e.node == k) || known k in stand_first e newer under.1 (stand_under seen newer under.2)

stand : (nodes : List Node) → AreNodes nodes → Stand nodes nodes
stand [] are = tt
stand (e ∷ newer) are = let known : ℕ → Bool = λ k. e.node == k in stand_first e newer are.tree.2 (stand_under known newer are.tree.3)

begun_holds : (b : Bool) (h : ℕ) → (b && nat_lt 0 h) ≡ true → 0 < h
begun_holds true h begun = grind (arith, nat_tests)
begun_holds false h begun = cc

held_among : (earlier all nodes : List Node) → Stand all nodes → All (IsHeldUntilDue all) (drains_begun earlier nodes)
held_among earlier all [] stand = All-nil (IsHeldUntilDue all)
held_among earlier all (e ∷ newer) stand = by_test ((held_of e.node earlier == 0) && nat_lt 0 e.held) refl (held_among earlier all newer stand.1)
  where
    by_test : (b : Bool) → ((held_of e.node earlier == 0) && nat_lt 0 e.held) ≡ b → All (IsHeldUntilDue all) (drains_begun earlier newer) → All (IsHeldUntilDue all) (drains_begun earlier (e ∷ newer))
    by_test true begun rest =
        let due : Due = record { node = e.node; at = e.due } in
        let is : IsHeldUntilDue all due = record { due = rw stand.0 refl; held = rw stand.0 (begun_holds (held_of e.node earlier == 0) e.held begun) } in
        rw begun (All-cons (IsHeldUntilDue all) due (drains_begun earlier newer) is rest)
    by_test false begun rest = rw begun rest

pub begun_drains_are_held : BegunDrainsAreHeld
begun_drains_are_held earlier nodes are = held_among earlier nodes nodes (stand nodes are)
