-- The log entry of each kernel entry, and when it can be recorded.
use Rattle.std.specs.Prelude.{◌≤◌, ◌^◌}
use Rattle.uvm_object.specs.declared.entries.Entry.{Entry}
use Rattle.uvm_object.specs.declared.entries.Entry.TheVariants as entry
use Rattle.world_state.specs.ReportsMatch.{CanReport}
use Rattle.world_services.specs.declared.services.Services.{Services}
use Rattle.world_entries.specs.declared.kernel_entries.KernelEntry.{KernelEntry}
use Rattle.world_entries.specs.declared.kernel_entries.KernelEntry.TheVariants.{Begin, End, Time, Locked, Drained, Note, Over}

-- the log entry of a kernel entry
abbrev pub entry_of : KernelEntry → Entry
entry_of (Begin phase) = entry.Begin phase
entry_of (End phase) = entry.End phase
entry_of (Time time) = entry.Time time
entry_of (Locked sequencer id) = entry.Locked sequencer id
entry_of (Drained node origin) = entry.Drained node origin
entry_of (Note fatal node) = entry.Note fatal node
entry_of (Over reason) = entry.Over reason

-- a kernel entry can be recorded: time is at most 10^18 ticks, so that a wait can be added to it, and one more report can be counted for a note
abbrev pub CanEnter : KernelEntry → Services → Type 0
CanEnter (Time time) services = time ≤ 10 ^ 18
CanEnter (Note fatal node) services = CanReport services.report_state
CanEnter kernel_entry services = Unit {0}
