-- The type `bus_env`: it creates the parts of the bus, and connects them through two FIFOs. It has no state.
use Rattle.std.specs.Prelude.{◌≡◌, ℕ, List, [], ◌∷◌, Option, Some, None, codes, if◌then◌else◌, bytes_eq}
use Rattle.uvm_phase.specs.declared.phases.Phase.TheVariants as phase
use Rattle.uvm_object.specs.Objects.{View}
use Rattle.uvm_acts.specs.declared.acts.What.TheVariants.{Fifo}
use Rattle.uvm_acts.specs.declared.acts.Call.{Call}
use Rattle.uvm_acts.specs.declared.acts.Call.TheVariants.{Phase}
use Rattle.uvm_acts.specs.declared.acts.Act.{Act}
use Rattle.uvm_acts.specs.declared.acts.Act.TheVariants.{Create, Add}
use Rattle.bus_objects.specs.declared.bus_env.BusEnv.{BusEnv}
use Rattle.uvm_acts.specs.Answers.{connecting}

-- the view of a `bus_env`, which is empty
abbrev pub bus_env_view : BusEnv → View
bus_env_view bus_env = []

-- the actions that create the parts, and add the FIFOs for requests and responses
abbrev pub parts : List Act
parts =
    Create (codes "bus_agent") (codes "agent")
    ∷ Create (codes "bus_mem") (codes "mem")
    ∷ Create (codes "bus_scoreboard") (codes "sb")
    ∷ Add (codes "reqf") (Fifo 1)
    ∷ Add (codes "rspf") (Fifo 1)
    ∷ []

-- the actions that connect the driver and the memory to the FIFOs, and the monitor to the scoreboard
abbrev pub connections : List Act
connections =
    connecting (codes "agent.drv.req") (codes "reqf")
    ∷ connecting (codes "agent.drv.rsp") (codes "rspf")
    ∷ connecting (codes "mem.req") (codes "reqf")
    ∷ connecting (codes "mem.rsp") (codes "rspf")
    ∷ connecting (codes "agent.mon.ap") (codes "sb.seen")
    ∷ []

-- the answer of an environment to a call: it adds its parts in `build`, and connects them in `connect`
abbrev pub bus_env_acts : Call → List Act
bus_env_acts (Phase phase.Build) = parts
bus_env_acts (Phase phase.Connect) = connections
bus_env_acts call = []

-- the relation of an environment: it gives these answers, and its view stays the same
abbrev pub BusEnvSays : View → Call → List Act → View → Type 0
BusEnvSays before call acts after = (acts ≡ bus_env_acts call) × (after ≡ before)

-- a new object if the name is `bus_env`; `None` otherwise
abbrev pub bus_env_named : List ℕ → Option BusEnv
bus_env_named name = if bytes_eq name (codes "bus_env") then Some (record { type_name = name }) else None
