-- The graph of a wiring, and lists of its nodes.
use Rattle.std.specs.Prelude.{ℕ, Bool, nat_eq, List}
use Rattle.std.specs.List.{list_any}
use Rattle.uvm_tlm.specs.declared.ends.End.{End}
use Rattle.uvm_tlm.specs.declared.wirings.Connection.{Connection}
pub use Rattle.uvm_tlm.specs.Wirings.{is_connected}

-- the nodes with their ends, and the connections
pub record GraphValue : Type 0 where
  pub ends : List (ℕ × End)
  pub connections : List Connection

-- whether a node is in a list of nodes
abbrev pub has : List ℕ → ℕ → Bool
has nodes node = list_any (nat_eq node) nodes
