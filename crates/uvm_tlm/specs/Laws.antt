-- The laws that follow from the definitions.
use Rattle.std.specs.Prelude.{◌≡◌, ◌↔◌, ◌+◌, ℕ, Bool, false, IsTrue, List, All, Contains, nat_eq, Option, Some, None}
use Rattle.std.specs.List.{IsDistinct}
use Rattle.std.specs.Option.{ForSome, option_map_or}
use Rattle.uvm_tlm.specs.declared.ends.End.{End}
use Rattle.uvm_tlm.specs.declared.ends.PortKind.{PortKind}
use Rattle.uvm_tlm.specs.declared.wirings.Connection.{Connection}
use Rattle.uvm_tlm.specs.Ends.{accepts}
use Rattle.uvm_tlm.specs.Fifos.{FifoValue, after_move, can_put, next_move, waiting_count}
use Rattle.uvm_tlm.specs.Wirings.{WiringValue, IsWiring, driven_by, end_at, is_closed, is_target_at, kind_at, reaches, targets_of, wire_fault}

-- a route from a node to another: a connection, or a connection and a route on from its end
pub data Route (connections : List Connection) : ℕ → ℕ → Type 0 where
  over : (c : Connection) → Contains connections c → Route connections c.from c.to
  along : (c : Connection) (to : ℕ) → Contains connections c → Route connections c.to to → Route connections c.from to

-- the law that a node reaches another if and only if a route leads from the first to the second
abbrev pub ReachesByRoutes : Type 0
ReachesByRoutes = (connections : List Connection) (from to : ℕ) → IsTrue (reaches connections from to) ↔ Route connections from to

-- a list has exactly the targets to which routes lead from a node, each once
pub record AreTargets (w : WiringValue) (node : ℕ) (targets : List ℕ) : Type 0 where
  pub distinct : IsDistinct nat_eq targets
  pub reached : (n : ℕ) → Contains targets n ↔ (IsTrue (is_target_at w.ends n) × Route w.connections node n)

-- the law that the targets of a node in a closed wiring are exactly those to which routes lead from it, each once
abbrev pub TargetsAreReached : Type 0
TargetsAreReached = (w : WiringValue) → IsWiring w → IsTrue (is_closed w) → (node : ℕ) → AreTargets w node (targets_of w node)

-- whether the end at a node accepts a kind
abbrev pub accepts_at : List (ℕ × End) → PortKind → ℕ → Bool
accepts_at ends kind node = option_map_or (λ end. accepts end kind) (end_at ends node) false

-- the law that each target of a port accepts its kind: an analysis port reaches only imps and unbounded FIFOs, a put or get port only FIFOs, a seq
-- port only sequencers
abbrev pub TargetsAcceptTheKind : Type 0
TargetsAcceptTheKind = (w : WiringValue) → IsWiring w → (port : ℕ) (kind : PortKind) → kind_at w.ends port ≡ Some kind → All (λ target. IsTrue (accepts_at w.ends kind target)) (targets_of w port)

-- the sequencer that a port drives
abbrev pub driven_from : WiringValue → ℕ → Option ℕ
driven_from w port = driven_by (kind_at w.ends port) (targets_of w port)

-- a port drives a sequencer and is correctly connected, and no other port that drives it is correctly connected
pub record IsDriver (w : WiringValue) (sequencer port : ℕ) : Type 0 where
  pub drives : driven_from w port ≡ Some sequencer
  pub sound : wire_fault w port ≡ None
  pub alone : (other : ℕ) → driven_from w other ≡ Some sequencer → wire_fault w other ≡ None → other ≡ port

-- the law that exactly one of the ports that drive a sequencer is correctly connected, if any port drives it
abbrev pub OneDriverIsSound : Type 0
OneDriverIsSound = (w : WiringValue) → IsWiring w → (port sequencer : ℕ) → driven_from w port ≡ Some sequencer → (driver : ℕ) × IsDriver w sequencer driver

-- the law that an unbounded FIFO without a next move accepts every item immediately
abbrev pub UnboundedTakesAll : Type 0 → Type 0
UnboundedTakesAll O = (f : FifoValue O) → f.size ≡ 0 → next_move f ≡ None → IsTrue (can_put f)

-- the law that each move ends exactly one wait
abbrev pub EachMoveEndsAWait : Type 0 → Type 0
EachMoveEndsAWait O = (f : FifoValue O) → ForSome (next_move f) (λ move. waiting_count (after_move (Some move) f) + 1 ≡ waiting_count f)
