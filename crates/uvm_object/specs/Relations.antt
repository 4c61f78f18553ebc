-- The names for writing the relation of an object: phases, calls, actions and their contents. If a name is ambiguous, it is that of a call, or
-- else that of an action. The actions connect, start and report are `connecting`, `starting` and `reporting` of `Answers`.
pub use Rattle.uvm_phase.specs.declared.phases.Phase.TheVariants.{Build, Connect, EndOfElaboration, StartOfSimulation, Run, Extract, Check, Report, Final}
pub use Rattle.uvm_report.specs.declared.severities.Severity.TheVariants.{Info, Warning, Error, Fatal}
pub use Rattle.uvm_tlm.specs.declared.items.Item.{Item}
pub use Rattle.uvm_object.specs.Objects.{View}
pub use Rattle.uvm_acts.specs.Answers.{connecting, reporting, starting}
pub use Rattle.uvm_acts.specs.declared.acts.Call.{Call}
pub use Rattle.uvm_acts.specs.declared.acts.Call.TheVariants.{Phase, Config, Wake, Stored, TryStored, Taken, TryTaken, Peeked, Written, NextItem, PreStart, Body, PostStart, Grant, ItemDone, Held, Finished}
pub use Rattle.uvm_acts.specs.declared.acts.What.TheVariants.{Sequencer, Fifo, Port, Export, Imp}
pub use Rattle.uvm_acts.specs.declared.acts.Act.{Act}
pub use Rattle.uvm_acts.specs.declared.acts.Act.TheVariants.{Create, Add, Set, Get, OverrideType, OverrideInst, Put, TryPut, Take, TryTake, Peek, Write, Ask, Request, Lock, Grab, Unlock, Send, EndStep, RaiseObjection, DropObjection, SetDrain, Wait}
