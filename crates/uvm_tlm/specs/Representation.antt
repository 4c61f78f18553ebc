-- The value of a wiring in contracts, and its invariant.
use Rattle.std.specs.Prelude.{◌≡◌, ℕ, true, nat_eq, List, map, reverse}
use Rattle.std.specs.HashMap.{get, keys}
use Rattle.std.specs.Option.{ForSome, option_map}
use Rattle.uvm_tlm.specs.declared.wirings.Connection.{Connection}
use Rattle.uvm_tlm.specs.declared.wirings.Wiring.TheInside.{Inside}
use Rattle.uvm_tlm.specs.Graphs.{has}
use Rattle.uvm_tlm.specs.NodeLists.{list_of}
use Rattle.uvm_tlm.specs.Wirings.{IsWiring, WiringValue, connections_among, end_at, is_connected, targets_in, driver_in}

-- the nodes of a wiring, newest first
abbrev pub nodes_of : Inside → List ℕ
nodes_of w = map (λ e. e.0) (reverse w.ends.entries)

-- the connections of a wiring, in the order of its nodes
abbrev pub connections_of : Inside → List Connection
connections_of w = connections_among (is_connected w.connections.items) (nodes_of w)

-- the value of a wiring in contracts
abbrev pub value_of : Inside → WiringValue
value_of w = record { ends = reverse w.ends.entries; connections = connections_of w; order = option_map (λ closed. keys closed.order) w.closed }

-- the invariant of a wiring: connections join its nodes, the end at each node is found, and a closed wiring has the targets of each node and the
-- driver of each sequencer
pub record IsWired (w : Inside) : Type 0 where
  pub is_wiring : IsWiring (value_of w)
  pub among : (from to : ℕ) → is_connected w.connections.items from to ≡ true → (has (nodes_of w) from ≡ true) × (has (nodes_of w) to ≡ true)
  pub ends_found : (n : ℕ) → get nat_eq w.ends n ≡ end_at (reverse w.ends.entries) n
  pub targets_found : ForSome w.closed (λ closed. (n : ℕ) → list_of closed.targets n ≡ targets_in (reverse w.ends.entries) (connections_of w) (keys closed.order) n)
  pub drivers_found : ForSome w.closed (λ closed. (n : ℕ) → get nat_eq closed.drivers n ≡ driver_in (reverse w.ends.entries) (connections_of w) (keys closed.order) n)
