-- The invariant of a graph.
use Rattle.std.specs.Prelude.{◌≡◌, ℕ, nat_eq, reverse}
use Rattle.std.specs.HashMap.{get}
use Rattle.uvm_tlm.specs.declared.graphs.Graph.TheInside.{Inside}
use Rattle.uvm_tlm.specs.NodeLists.{list_of}
use Rattle.uvm_tlm.specs.Graphs.{has, is_connected}
use Rattle.uvm_tlm.specs.Wirings.{end_at}

-- the graph finds the end at each node, and for each node the nodes from which connections lead to it
pub record IsGraph (g : Inside) : Type 0 where
  pub ends_found : (n : ℕ) → get nat_eq g.ends.now n ≡ end_at (reverse g.ends.now.entries) n
  pub starts_found : (from to : ℕ) → has (list_of g.starts to) from ≡ is_connected g.connections.now from to
