-- The index of each node.
use Rattle.std.specs.Prelude.{◌≡◌, ◌==◌, ℕ, suc, nat_eq, List, [], ◌∷◌, Option, Some, None, option_map, if◌then◌else◌}
use Rattle.std.specs.HashMap.{HashMap, get}

-- the index of a node in a list of nodes with their parents
abbrev pub place_in : ℕ → List (ℕ × Option ℕ) → Option ℕ
place_in node [] = None
place_in node (p ∷ ps) = if p.0 == node then Some 0 else option_map suc (place_in node ps)

-- a table has the index of each of these nodes, and nothing else
abbrev pub ArePlaced : {S : Type 0} → HashMap ℕ ℕ S → List (ℕ × Option ℕ) → Type 0
ArePlaced table ps = (node : ℕ) → get nat_eq table node ≡ place_in node ps
