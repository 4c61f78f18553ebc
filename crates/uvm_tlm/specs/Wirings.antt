-- The connections of a wiring, the targets that a port reaches over them, and the errors of ports.
use Rattle.std.specs.Prelude.{◌≡◌, ℕ, Bool, true, false, ◌&&◌, ◌||◌, ◌==◌, nat_eq, not, List, [], ◌∷◌, map, filter, find, flat_map, All, Contains, Option, Some, None, is_some, option_and_then}
use Rattle.std.specs.List.{list_any, IsDistinct}
use Rattle.std.specs.Map.{lookup}
use Rattle.std.specs.Option.{option_map_or, ForSome}
use Rattle.uvm_glob.specs.Faults.{fault_if}
use Rattle.uvm_glob.specs.Lists.{first_given}
use Rattle.uvm_tlm.specs.declared.ends.End.{End}
use Rattle.uvm_tlm.specs.declared.ends.PortKind.{PortKind}
use Rattle.uvm_tlm.specs.declared.ends.PortKind.TheVariants.{Put, Get, Seq}
use Rattle.uvm_tlm.specs.declared.faults.WireFault.{WireFault}
use Rattle.uvm_tlm.specs.declared.faults.WireFault.TheVariants.{KindDiffers, TooFew, TooMany, Unknown, Late}
use Rattle.uvm_tlm.specs.declared.wirings.Connection.{Connection}
use Rattle.uvm_tlm.specs.Ends.{agrees, is_target, port_kind}

-- a wiring: the nodes with their ends, newest first; the connections, in the order of these nodes; and the path order of the nodes, once the wiring
-- is closed
pub record WiringValue : Type 0 where
  pub ends : List (ℕ × End)
  pub connections : List Connection
  pub order : Option (List ℕ)

-- the wiring without ends and connections
abbrev pub new_wiring : WiringValue
new_wiring = record { ends = []; connections = []; order = None }

-- the end at a node, if any
abbrev pub end_at : List (ℕ × End) → ℕ → Option End
end_at ends node = lookup (nat_eq node) ends

-- a wiring with one more node
abbrev pub with_end : ℕ → End → WiringValue → WiringValue
with_end node end w = record w { ends = (node, end) ∷ w.ends }

-- whether a node is connected to another
abbrev pub is_connected : List Connection → ℕ → ℕ → Bool
is_connected connections from to = list_any (λ c. (from == c.from) && (to == c.to)) connections

-- the connection from a node to another
abbrev pub connection : ℕ → ℕ → Connection
connection from to = record { from = from; to = to }

-- the connections from a node to some nodes, in the order of the latter
abbrev pub connections_from : (ℕ → ℕ → Bool) → List ℕ → ℕ → List Connection
connections_from connected nodes from = map (connection from) (filter (connected from) nodes)

-- the connections among some nodes, each once and in the order of the nodes
abbrev pub connections_among : (ℕ → ℕ → Bool) → List ℕ → List Connection
connections_among connected nodes = flat_map (connections_from connected nodes) nodes

-- a wiring with a connection from a node to another, which it may already have
abbrev pub with_connection : ℕ → ℕ → WiringValue → WiringValue
with_connection from to w = record w {
  connections = connections_among (λ a b. ((a == from) && (b == to)) || is_connected w.connections a b) (map (λ e. e.0) w.ends);
}

-- whether a wiring is closed: then nothing more can be added or connected
abbrev pub is_closed : WiringValue → Bool
is_closed w = is_some w.order

-- the error of an addition or a close: `Late` if the wiring is closed
abbrev pub late_fault : WiringValue → Option WireFault
late_fault w = fault_if (is_closed w) Late

-- whether both nodes have ends
abbrev pub are_known : Option End → Option End → Bool
are_known from to = is_some from && is_some to

-- whether a connection may go from an end to another; false if one is missing
abbrev pub may_connect : Option End → Option End → Bool
may_connect (Some from) (Some to) = agrees from to
may_connect from to = false

-- why no connection may go from a node to another: the first of these errors that applies, if any
unfoldable pub connect_fault : WiringValue → ℕ → ℕ → Option WireFault
connect_fault w from to =
    first_given (
    fault_if (is_closed w) Late
    ∷ fault_if (not (are_known (end_at w.ends from) (end_at w.ends to))) Unknown
    ∷ fault_if (not (may_connect (end_at w.ends from) (end_at w.ends to))) KindDiffers
    ∷ [])

-- a list of nodes is a path order: it has each added node, and no node twice
pub record IsPathOrder (order : List ℕ) (ends : List (ℕ × End)) : Type 0 where
  pub distinct : IsDistinct nat_eq order
  pub whole : All (λ e. Contains order e.0) ends

-- whether a node is another, or one or more of the connections lead from it to the other
unfoldable pub leads : List Connection → ℕ → ℕ → Bool
leads [] from to = from == to
leads (c ∷ connections) from to = leads connections from to || (leads connections from c.from && leads connections c.to to)

-- whether one or more of the connections lead from a node to another
unfoldable pub reaches : List Connection → ℕ → ℕ → Bool
reaches connections from to = list_any (λ c. (from == c.from) && leads connections c.to to) connections

-- whether a node is a target: an imp, a FIFO or a sequencer
abbrev pub is_target_at : List (ℕ × End) → ℕ → Bool
is_target_at ends node = option_map_or is_target (end_at ends node) false

-- the targets that a node reaches, in path order
unfoldable pub targets_in : List (ℕ × End) → List Connection → List ℕ → ℕ → List ℕ
targets_in ends connections order node = filter (λ n. is_target_at ends n && reaches connections node n) order

-- the targets that a port or an export reaches, none before the wiring is closed
unfoldable pub targets_of : WiringValue → ℕ → List ℕ
targets_of w node = option_map_or (λ order. targets_in w.ends w.connections order node) w.order []

-- the kind of the port at a node; none if the node is not a port
abbrev pub kind_at : List (ℕ × End) → ℕ → Option PortKind
kind_at ends node = option_and_then port_kind (end_at ends node)

-- the sequencer that a port drives: the only target of a seq port
abbrev pub driven_by : Option PortKind → List ℕ → Option ℕ
driven_by (Some Seq) (target ∷ []) = Some target
driven_by kind targets = None

-- whether an optional number is given and equals another
abbrev pub is_some_of : ℕ → Option ℕ → Bool
is_some_of n m = option_map_or (λ m. m == n) m false

-- the first port in path order that drives a sequencer
unfoldable pub driver_in : List (ℕ × End) → List Connection → List ℕ → ℕ → Option ℕ
driver_in ends connections order sequencer = find (λ port. is_some_of sequencer (driven_by (kind_at ends port) (targets_in ends connections order port))) order

-- the error of a put or get port: it needs exactly one target
abbrev pub count_fault : List ℕ → Option WireFault
count_fault [] = Some TooFew
count_fault (target ∷ []) = None
count_fault (target ∷ other ∷ targets) = Some TooMany

-- the error of a seq port: it needs exactly one target, which no earlier port in path order drives
abbrev pub seq_fault : List ℕ → (ℕ → Option ℕ) → ℕ → Option WireFault
seq_fault [] driver port = Some TooFew
seq_fault (target ∷ []) driver port = fault_if (not (is_some_of port (driver target))) TooMany
seq_fault (target ∷ other ∷ targets) driver port = Some TooMany

-- the error of a port of a kind; an analysis port may have any number of targets
abbrev pub port_fault : Option PortKind → List ℕ → (ℕ → Option ℕ) → ℕ → Option WireFault
port_fault (Some Put) targets driver port = count_fault targets
port_fault (Some Get) targets driver port = count_fault targets
port_fault (Some Seq) targets driver port = seq_fault targets driver port
port_fault kind targets driver port = None

-- the error of a port, by the ends, the connections and the path order of a wiring
abbrev pub fault_in : List (ℕ × End) → List Connection → List ℕ → ℕ → Option WireFault
fault_in ends connections order port = port_fault (kind_at ends port) (targets_in ends connections order port) (driver_in ends connections order) port

-- the error of a port; none before the wiring is closed
unfoldable pub wire_fault : WiringValue → ℕ → Option WireFault
wire_fault w port = option_and_then (λ order. fault_in w.ends w.connections order port) w.order

-- what is true of every wiring: no node was added twice, each connection was allowed, and the order is a path order
pub record IsWiring (w : WiringValue) : Type 0 where
  pub apart : IsDistinct nat_eq (map (λ e. e.0) w.ends)
  pub allowed : All (λ c. may_connect (end_at w.ends c.from) (end_at w.ends c.to) ≡ true) w.connections
  pub ordered : ForSome w.order (λ order. IsPathOrder order w.ends)
