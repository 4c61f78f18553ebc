-- What is found at a path.
use Rattle.world_wiring.proofs.Common.{◌≡◌, ◌++◌, ℕ, Bool, true, false, List, Option, Some, None, OnSome, is_none, refl, ap, ◌∙◌, if◌then◌else◌, path_fault, number_at, path_at, Who, node_of, node_below}
use Rattle.uvm_tree.specs.Nodes.{Node}

-- where nothing is found, a test of the path changes nothing
neither : (found : Option ℕ) (b : Bool) → found ≡ (if b then found else found)
neither found true = refl
neither found false = refl

-- a node at a path within the limits of a path
abbrev node_found : List Node → List (List ℕ) → Option ℕ
node_found nodes path = if is_none (path_fault path) then number_at nodes path else None

-- a node that is found at a path without a fault is found within the limits of a path
found-within : (nodes : List Node) (path : List (List ℕ)) (found : Option ℕ) → found ≡ number_at nodes path → OnSome found (path_fault path ≡ None) → found ≡ node_found nodes path
found-within nodes path (Some node) is sound = rw (sound, ← is) refl
found-within nodes path None is sound = rw (← is) (neither None (is_none (path_fault path)))

-- and so below the node at which a component or sequence stands
pub found-below :
    (nodes : List Node) (performer : Who) (path : List (List ℕ)) (node : ℕ) (found : Option ℕ) → node ≡ node_of performer → found ≡ number_at nodes (path_at nodes node ++ path) → OnSome found (path_fault (path_at nodes node ++ path) ≡ None)
    → found ≡ node_below nodes performer path
unfolding node_below
found-below nodes performer path node found at is sound =
    found-within nodes (path_at nodes node ++ path) found is sound ∙ ap (λ (n : ℕ). node_found nodes (path_at nodes n ++ path)) at
