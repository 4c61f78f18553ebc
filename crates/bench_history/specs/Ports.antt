-- The FIFOs and imps that a performer reaches through its ports (IEEE 1800.2-2020, Clause 12). These definitions are used once the wiring is closed.
use Rattle.std.specs.Prelude.{ℕ, Bool, true, false, ◌&&◌, is_none, is_some, List, [], ◌∷◌, filter, slice_get, Option, Some, None, option_map, option_and_then, if◌then◌else◌}
use Rattle.std.specs.Option.{option_map_or}
use Rattle.uvm_tlm.specs.declared.ends.End.{End}
use Rattle.uvm_tlm.specs.declared.ends.End.TheVariants.{Imp, Fifo}
use Rattle.uvm_tlm.specs.declared.ends.PortKind.{PortKind}
use Rattle.uvm_tlm.specs.declared.ends.PortKind.TheVariants.{Analysis}
use Rattle.uvm_tlm.specs.Ends.{same_kind}
use Rattle.uvm_tlm.specs.Wirings.{WiringValue, end_at, kind_at, targets_of, wire_fault}
use Rattle.uvm_acts.specs.declared.acts.Who.{Who}
use Rattle.uvm_object.specs.declared.entries.Entry.{Entry}
use Rattle.bench_history.specs.declared.requesters.FifoPort.{FifoPort}
use Rattle.bench_history.specs.History.{nodes_of}
use Rattle.bench_history.specs.Wires.{node_below, closed_wiring}

-- the size of a FIFO; nothing else has a size
abbrev pub size_of : End → Option ℕ
size_of (Fifo size) = Some size
size_of end = None

-- the size of the FIFO at a node, if there is one
abbrev pub fifo_size : WiringValue → ℕ → Option ℕ
fifo_size wiring node = option_and_then size_of (end_at wiring.ends node)

-- an end is an imp
abbrev pub is_imp : End → Bool
is_imp Imp = true
is_imp end = false

-- an imp is at this node
abbrev pub is_imp_at : WiringValue → ℕ → Bool
is_imp_at wiring node = option_map_or is_imp (end_at wiring.ends node) false

-- a node is a correctly connected port of this kind
abbrev pub is_sound_port : WiringValue → PortKind → ℕ → Bool
is_sound_port wiring kind node = option_map_or (same_kind kind) (kind_at wiring.ends node) false && is_none (wire_fault wiring node)

-- a node, if it is a correctly connected port of a kind
abbrev pub if_sound : WiringValue → PortKind → ℕ → Option ℕ
if_sound wiring kind node = if is_sound_port wiring kind node then Some node else None

-- the child of a performer with this name, if it is a correctly connected port of this kind
unfoldable pub port_below : List Entry → Who → PortKind → List ℕ → Option ℕ
port_below history performer kind name = option_and_then (if_sound (closed_wiring history) kind) (node_below (nodes_of history) performer (name ∷ []))

-- a node, if it is a FIFO
abbrev pub if_fifo : WiringValue → ℕ → Option ℕ
if_fifo wiring node = option_map (λ size. node) (fifo_size wiring node)

-- the FIFO that is reached through a port: a correctly connected put or get port has one target
abbrev pub fifo_port_at : WiringValue → ℕ → Option FifoPort
fifo_port_at wiring port = option_map (λ fifo. record { port = port; fifo = fifo }) (option_and_then (if_fifo wiring) (slice_get (targets_of wiring port) 0))

-- the port of a performer with this name, and the FIFO that is reached through it
unfoldable pub fifo_port_below : List Entry → Who → PortKind → List ℕ → Option FifoPort
fifo_port_below history performer kind name = option_and_then (fifo_port_at (closed_wiring history)) (port_below history performer kind name)

-- all targets that are reached through an analysis port, in path order
abbrev pub outlets_below : List Entry → Who → List ℕ → List ℕ
outlets_below history performer name = option_map_or (targets_of (closed_wiring history)) (port_below history performer Analysis name) []

-- the FIFOs that are reached through an analysis port, in path order
unfoldable pub fifos_below : List Entry → Who → List ℕ → List ℕ
fifos_below history performer name = filter (λ node. is_some (fifo_size (closed_wiring history) node)) (outlets_below history performer name)

-- the imps that are reached through an analysis port, in path order
unfoldable pub imps_below : List Entry → Who → List ℕ → List ℕ
imps_below history performer name = filter (is_imp_at (closed_wiring history)) (outlets_below history performer name)
