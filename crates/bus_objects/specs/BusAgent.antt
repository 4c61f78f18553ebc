-- The type `bus_agent`: it looks up its arbitration mode, creates the sequencer, the driver and the monitor, and connects them. It has no
-- state.
use Rattle.std.specs.Prelude.{◌≡◌, ℕ, ℤ, pos, negsuc, ◌==◌, List, [], ◌∷◌, Option, Some, None, codes, if◌then◌else◌, bytes_eq}
use Rattle.uvm_phase.specs.declared.phases.Phase.TheVariants as phase
use Rattle.uvm_sequencer.specs.declared.modes.Mode.{Mode}
use Rattle.uvm_sequencer.specs.declared.modes.Mode.TheVariants.{Fifo, Weighted, Random, StrictFifo, StrictRandom}
use Rattle.uvm_object.specs.Objects.{View}
use Rattle.uvm_acts.specs.declared.acts.What.TheVariants.{Sequencer}
use Rattle.uvm_acts.specs.declared.acts.Call.{Call}
use Rattle.uvm_acts.specs.declared.acts.Call.TheVariants.{Phase, Config}
use Rattle.uvm_acts.specs.declared.acts.Act.{Act}
use Rattle.uvm_acts.specs.declared.acts.Act.TheVariants.{Create, Add, Get}
use Rattle.bus_objects.specs.declared.bus_agent.BusAgent.{BusAgent}
use Rattle.uvm_acts.specs.Answers.{connecting}

-- the view of a `bus_agent`, which is empty
abbrev pub bus_agent_view : BusAgent → View
bus_agent_view bus_agent = []

-- the arbitration mode for the value of the field `arb`: `Fifo` if there is no value, or a value other than 1 to 4
abbrev pub mode_of : Option ℤ → Mode
mode_of None = Fifo
mode_of (Some (negsuc below)) = Fifo
mode_of (Some (pos number)) =
    if number == 1 then Weighted
    else if number == 2 then Random
    else if number == 3 then StrictFifo
    else if number == 4 then StrictRandom
    else Fifo

-- the actions that add the sequencer and create the driver and the monitor
abbrev pub agent_parts : Mode → List Act
agent_parts mode = Add (codes "sqr") (Sequencer mode) ∷ Create (codes "bus_driver") (codes "drv") ∷ Create (codes "bus_monitor") (codes "mon") ∷ []

-- The answer of an agent to a call. It looks up the field `arb`, adds its parts when the value comes, and connects them in `connect`.
abbrev pub bus_agent_acts : Call → List Act
bus_agent_acts (Phase phase.Build) = Get (codes "arb") ∷ []
bus_agent_acts (Config field value) = agent_parts (mode_of value)
bus_agent_acts (Phase phase.Connect) = connecting (codes "drv.sqp") (codes "sqr") ∷ connecting (codes "drv.ap") (codes "mon.bus") ∷ []
bus_agent_acts call = []

-- the relation of an agent: it gives these answers, and its view stays the same
abbrev pub BusAgentSays : View → Call → List Act → View → Type 0
BusAgentSays before call acts after = (acts ≡ bus_agent_acts call) × (after ≡ before)

-- a new object if the name is `bus_agent`; `None` otherwise
abbrev pub bus_agent_named : List ℕ → Option BusAgent
bus_agent_named name = if bytes_eq name (codes "bus_agent") then Some (record { type_name = name }) else None
