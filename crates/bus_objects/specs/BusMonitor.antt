-- The type `bus_monitor`: it reports each item that is written to it, and writes the item to its port. It has no state.
use Rattle.std.specs.Prelude.{◌≡◌, ℕ, List, [], ◌∷◌, Option, Some, None, codes, if◌then◌else◌, bytes_eq}
use Rattle.uvm_phase.specs.declared.phases.Phase.TheVariants.{Build}
use Rattle.uvm_report.specs.declared.severities.Severity.TheVariants.{Info}
use Rattle.uvm_tlm.specs.declared.ends.PortKind.TheVariants.{Analysis}
use Rattle.uvm_tlm.specs.declared.items.Item.{Item}
use Rattle.uvm_object.specs.Objects.{View}
use Rattle.uvm_acts.specs.declared.acts.What.TheVariants.{Port, Imp}
use Rattle.uvm_acts.specs.declared.acts.Call.{Call}
use Rattle.uvm_acts.specs.declared.acts.Call.TheVariants.{Phase, Written}
use Rattle.uvm_acts.specs.declared.acts.Act.{Act}
use Rattle.uvm_acts.specs.declared.acts.Act.TheVariants.{Add, Report, Write}
use Rattle.bus_objects.specs.declared.bus_monitor.BusMonitor.{BusMonitor}
use Rattle.bus_objects.specs.Items.{transfer_text}

-- the view of a `bus_monitor`, which is empty
abbrev pub bus_monitor_view : BusMonitor → View
bus_monitor_view bus_monitor = []

-- the action that reports an item
abbrev pub report_act : Item → Act
report_act item = Report (record { severity = Info; id = codes "MON"; text = transfer_text item; verbosity = 200 })

-- the action that writes an item to the port `ap`
abbrev pub write_act : Item → Act
write_act item = Write (codes "ap") item

-- the answer of a monitor to a call: it reports each item that is written to it, and writes the item to `ap`
abbrev pub bus_monitor_acts : Call → List Act
bus_monitor_acts (Phase Build) = Add (codes "bus") Imp ∷ Add (codes "ap") (Port Analysis) ∷ []
bus_monitor_acts (Written imp item) = report_act item ∷ write_act item ∷ []
bus_monitor_acts call = []

-- the relation of a monitor: it gives these answers, and its view stays the same
abbrev pub BusMonitorSays : View → Call → List Act → View → Type 0
BusMonitorSays before call acts after = (acts ≡ bus_monitor_acts call) × (after ≡ before)

-- a new object if the name is `bus_monitor`; `None` otherwise
abbrev pub bus_monitor_named : List ℕ → Option BusMonitor
bus_monitor_named name = if bytes_eq name (codes "bus_monitor") then Some (record { type_name = name }) else None
