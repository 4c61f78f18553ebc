-- The answers that the drivers of the bus share. The drivers differ in when they put an item that comes.
use Rattle.std.specs.Prelude.{List, [], ◌∷◌, Some, codes}
use Rattle.uvm_phase.specs.declared.phases.Phase.TheVariants.{Build, Run}
use Rattle.uvm_sequencer.specs.declared.drivers.How.TheVariants.{Next}
use Rattle.uvm_tlm.specs.declared.ends.PortKind.TheVariants as kind
use Rattle.uvm_tlm.specs.declared.items.Item.{Item}
use Rattle.uvm_acts.specs.declared.acts.What.TheVariants.{Port}
use Rattle.uvm_acts.specs.declared.acts.Call.{Call}
use Rattle.uvm_acts.specs.declared.acts.Call.TheVariants.{Phase, Stored, Taken}
use Rattle.uvm_acts.specs.declared.acts.Act.{Act}
use Rattle.uvm_acts.specs.declared.acts.Act.TheVariants.{Add, Ask, ItemDone, Put, Take, Write}

-- the actions that add the four ports of a driver
abbrev pub ports : List Act
ports =
    Add (codes "sqp") (Port kind.Seq)
    ∷ Add (codes "req") (Port kind.Put)
    ∷ Add (codes "rsp") (Port kind.Get)
    ∷ Add (codes "ap") (Port kind.Analysis)
    ∷ []

-- the action that requests the next item
abbrev pub ask_act : Act
ask_act = Ask (codes "sqp") Next

-- the action that puts an item through the port `req`
abbrev pub put_act : Item → Act
put_act item = Put (codes "req") item

-- the actions for the result of an item: it is written to `ap`, it is the response of `item_done`, and the next item is requested
abbrev pub result_acts : Item → List Act
result_acts item = Write (codes "ap") item ∷ ItemDone (codes "sqp") (Some item) ∷ ask_act ∷ []

-- the answers that both drivers share: they add ports, request items, and write and return the result of each item
abbrev pub driver_acts : Call → List Act
driver_acts (Phase Build) = ports
driver_acts (Phase Run) = ask_act ∷ []
driver_acts (Stored port) = Take (codes "rsp") ∷ []
driver_acts (Taken port item) = result_acts item
driver_acts call = []
