-- Ports as the services of a run know them.
use Rattle.std.specs.Prelude.{ℕ, List, [], ◌∷◌, Option, option_and_then}
use Rattle.uvm_tree.specs.Nodes.{Node}
use Rattle.uvm_tlm.specs.declared.ends.PortKind.{PortKind}
use Rattle.uvm_tlm.specs.Wirings.{WiringValue}
use Rattle.uvm_acts.specs.declared.acts.Who.{Who}
use Rattle.bench_history.specs.Wires.{node_below}
use Rattle.bench_history.specs.Ports.{if_sound}

-- the performer's correctly connected port of a kind and a name, as the services know it
abbrev pub port_in : List Node → WiringValue → Who → PortKind → List ℕ → Option ℕ
port_in nodes wiring performer kind name = option_and_then (if_sound wiring kind) (node_below nodes performer (name ∷ []))
