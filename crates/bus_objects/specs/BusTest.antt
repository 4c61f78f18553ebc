-- The type `bus_test`: it creates the environment, and starts a sequence in `run` under an objection. It has no state.
use Rattle.std.specs.Prelude.{◌≡◌, ℕ, List, [], ◌∷◌, Option, Some, None, codes, if◌then◌else◌, bytes_eq}
use Rattle.uvm_acts.specs.Answers.{starting}
use Rattle.uvm_phase.specs.declared.phases.Phase.TheVariants.{Build, Run}
use Rattle.uvm_object.specs.Objects.{View}
use Rattle.uvm_acts.specs.declared.acts.Call.{Call}
use Rattle.uvm_acts.specs.declared.acts.Call.TheVariants.{Phase, Finished}
use Rattle.uvm_acts.specs.declared.acts.Act.{Act}
use Rattle.uvm_acts.specs.declared.acts.Act.TheVariants.{Create, RaiseObjection, DropObjection}
use Rattle.bus_objects.specs.declared.bus_test.BusTest.{BusTest}

-- the view of a `bus_test`, which is empty
abbrev pub bus_test_view : BusTest → View
bus_test_view bus_test = []

-- the action that starts the sequence, with no priority given
abbrev pub start_act : Act
start_act = starting (codes "seq_smoke") (codes "seq") (codes "env.agent.sqr") None

-- the answer of a test to a call: it creates the environment, and in `run` starts a sequence under an objection
abbrev pub bus_test_acts : Call → List Act
bus_test_acts (Phase Build) = Create (codes "bus_env") (codes "env") ∷ []
bus_test_acts (Phase Run) = RaiseObjection 1 ∷ start_act ∷ []
bus_test_acts (Finished name id) = DropObjection 1 ∷ []
bus_test_acts call = []

-- the relation of a test: it gives these answers, and its view stays the same
abbrev pub BusTestSays : View → Call → List Act → View → Type 0
BusTestSays before call acts after = (acts ≡ bus_test_acts call) × (after ≡ before)

-- a new object if the name is `bus_test`; `None` otherwise
abbrev pub bus_test_named : List ℕ → Option BusTest
bus_test_named name = if bytes_eq name (codes "bus_test") then Some (record { type_name = name }) else None
