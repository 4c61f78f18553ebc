-- The invariant of a tree.
use Rattle.std.specs.Prelude.{◌≡◌, ◌≤◌, ◌<◌, ◌∷◌, length, vec_capacity}
use Rattle.std.specs.Option.{ForSome}
use Rattle.uvm_tree.specs.declared.trees.Tree.TheInside.{Inside}
use Rattle.uvm_tree.specs.Families.{AreFamilies}
use Rattle.uvm_tree.specs.Nodes.{AreNodes, AreSound, most_nodes, path_at}

-- the nodes satisfy `AreNodes`, no path has an error, the families satisfy `AreFamilies`, and at most `most_nodes` nodes exist besides the
-- root; a reservation has its parent's path, and each list of nodes has capacity for one more
pub record IsTree (t : Inside) : Type 0 where
  pub nodes : AreNodes (t.top ∷ t.nodes.items)
  pub sound : AreSound (t.top ∷ t.nodes.items)
  pub families : AreFamilies (t.top ∷ t.nodes.items) t.families.items
  pub few : length t.nodes.items ≤ most_nodes
  pub room : ForSome t.room (λ room. (room.path ≡ path_at (t.top ∷ t.nodes.items) room.parent) × (length t.nodes.items < vec_capacity t.nodes) × (length t.families.items < vec_capacity t.families))
