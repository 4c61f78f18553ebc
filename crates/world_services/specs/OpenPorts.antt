-- Ports that are open to the performer, and what they reach, taken from the services.
use Rattle.std.specs.Prelude.{◌≡◌, ℕ, true, List, Option, Some, is_some, option_and_then, Result, Ok, Err}
use Rattle.uvm_phase.specs.declared.phases.Phase.{Phase}
use Rattle.uvm_tlm.specs.declared.ends.PortKind.{PortKind}
use Rattle.uvm_tlm.specs.declared.ends.PortKind.TheVariants.{Analysis}
use Rattle.uvm_tlm.specs.Wirings.{IsWiring}
use Rattle.uvm_object.specs.declared.fatals.Fatal.{Fatal}
use Rattle.bench_history.specs.declared.requesters.FifoPort.{FifoPort}
use Rattle.bench_history.specs.Ports.{fifo_port_at}
use Rattle.bench_history.specs.History.{in_task}
use Rattle.bench_history.specs.Refusals.{passing_refusal}
use Rattle.world_services.specs.declared.services.Services.{Services}
use Rattle.world_wiring.specs.Ports.{port_in}

-- the performer's correctly connected port of a kind and a name, with the FIFO that it reaches
abbrev pub fifo_port_in : Services → PortKind → List ℕ → Option FifoPort
fifo_port_in services kind name = option_and_then (fifo_port_at services.wiring) (port_in services.tree.nodes services.wiring services.answer.performer kind name)

-- a FIFO port is open to the performer, in the phase of its action, which takes time; otherwise why it is not
abbrev pub IsOpenFifoPort : Services → PortKind → List ℕ → Result (Phase × FifoPort) Fatal → Type 0
IsOpenFifoPort services kind name (Ok found) = (services.answer.phase ≡ Some found.0) × (in_task (Some found.0) ≡ true) × (fifo_port_in services kind name ≡ Some found.1) × IsWiring services.wiring
IsOpenFifoPort services kind name (Err fatal) = passing_refusal services.answer.phase (is_some (fifo_port_in services kind name)) ≡ Some fatal

-- an analysis port is open to the performer, in a phase that takes time; otherwise why it is not
abbrev pub IsOpenOutlet : Services → List ℕ → Result ℕ Fatal → Type 0
IsOpenOutlet services name (Ok port) = (in_task services.answer.phase ≡ true) × (port_in services.tree.nodes services.wiring services.answer.performer Analysis name ≡ Some port)
IsOpenOutlet services name (Err fatal) = passing_refusal services.answer.phase (is_some (port_in services.tree.nodes services.wiring services.answer.performer Analysis name)) ≡ Some fatal
