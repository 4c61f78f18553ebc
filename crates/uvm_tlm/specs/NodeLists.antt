-- A map from each node to a list of nodes.
use Rattle.std.specs.Prelude.{ℕ, List, [], nat_eq}
use Rattle.std.specs.HashMap.{get}
use Rattle.std.specs.Option.{option_map_or}
use Rattle.uvm_tlm.specs.declared.node_lists.NodeLists.{NodeLists}

-- the list of a node, empty if nothing was added to it
abbrev pub list_of : NodeLists → ℕ → List ℕ
list_of l node = option_map_or (λ list. list.items) (get nat_eq l.lists node) []
