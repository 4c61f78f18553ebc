-- What is passed up from one node to the next.
use Rattle.uvm_objection.proofs.Common.{◌≡◌, ℕ, Bool, true, false, ◌==◌, ◌+◌, ◌<◌, List, [], ◌∷◌, option_map_or, Entry}

-- a number, if so, else 0
abbrev pub when : Bool → ℕ → ℕ
when true n = n
when false n = 0

-- whether an entry is a child of a node
abbrev pub is_under : Entry → ℕ → Bool
is_under e node = option_map_or (λ above. above == node) e.parent false

-- what some entries pass up to a node
abbrev pub passed : List Entry → ℕ → ℕ
passed [] node = 0
passed (e ∷ newer) node = when (is_under e node) (e.total + e.held) + passed newer node

-- each total is the source with what is passed up to it, where it is positive nothing is held, and nothing is due where
-- nothing is held
abbrev pub AddUp : List Entry → Type 0
AddUp [] = Unit {0}
AddUp (e ∷ newer) = (e.total ≡ e.source + passed newer e.node) × (0 < e.total → e.held ≡ 0) × (e.held ≡ 0 → e.due ≡ 0) × AddUp newer
