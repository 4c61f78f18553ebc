-- What the variables of a dump show after some entries of a log.
use Rattle.std.specs.Prelude.{◌≡◌, ℕ, false, ◌==◌, ◌&&◌, nat_lt, List, [], length, map, Option, Some, None, option_and_then, if◌then◌else◌}
use Rattle.std.specs.Option.{option_map_or}
use Rattle.uvm_glob.specs.Lists.{first_given}
use Rattle.uvm_phase.specs.declared.phases.Phase.{Phase}
use Rattle.uvm_phase.specs.Phases.{is_task}
use Rattle.uvm_objection.specs.Nodes.{source_of}
use Rattle.uvm_objection.specs.Totals.{total}
use Rattle.uvm_report.specs.Counts.{number_of}
use Rattle.uvm_report.specs.Commands.{report_counts}
use Rattle.uvm_sequencer.specs.Queues.{is_held}
use Rattle.uvm_sequencer.specs.declared.drivers.Driver.{Driver}
use Rattle.uvm_sequencer.specs.declared.drivers.Driver.TheVariants as driver
use Rattle.uvm_tlm.specs.declared.items.Item.{Item}
use Rattle.uvm_acts.specs.declared.acts.Who.TheVariants.{Node, Sequence}
use Rattle.uvm_acts.specs.declared.acts.Call.{Call}
use Rattle.uvm_acts.specs.declared.acts.Act.{Act}
use Rattle.uvm_acts.specs.declared.acts.Act.TheVariants.{Send}
use Rattle.uvm_object.specs.declared.entries.Outcome.TheVariants.{Done}
use Rattle.uvm_object.specs.declared.entries.Entry.{Entry}
use Rattle.uvm_object.specs.declared.entries.Entry.TheVariants.{Did, Heard, Locked}
use Rattle.uvm_lines.specs.Lines.{call_text, item_text}
use Rattle.bench_script.specs.Scripts.{ScriptValue}
use Rattle.bench_history.specs.Arbitration.{sequencer_at, waiters_at}
use Rattle.bench_history.specs.History.{nodes_of, running, stage_of}
use Rattle.bench_history.specs.Objections.{objections_of}
use Rattle.bench_history.specs.Passing.{fifo_state_at}
use Rattle.bench_history.specs.Reports.{report_commands}
use Rattle.bench_history.specs.Sequences.{sequences_of}
use Rattle.bench_waves.specs.Values.{number_value, phase_value, sequence_value, text_value}
use Rattle.bench_waves.specs.declared.signals.Signal.{Signal}
use Rattle.bench_waves.specs.declared.signals.Signal.TheVariants.{Phase as PhaseOf, Objections, Reports, Raised, Call as CallTo, Level, Waiting, Granted, Holder, Item as ItemAt}

-- the count of objections to the end of a phase; 0 if there is none
abbrev pub objections_in : ScriptValue → List Entry → Option Phase → ℕ
objections_in script log None = 0
objections_in script log (Some phase) = if is_task phase && nat_lt 0 (length (nodes_of log)) then total (objections_of script phase log) 0 else 0

-- the count of objections to the end of a phase that are raised at a node itself; 0 if there is no phase
abbrev pub raised_in : ScriptValue → List Entry → ℕ → Option Phase → ℕ
raised_in script log node None = 0
raised_in script log node (Some phase) = if is_task phase && nat_lt node (length (nodes_of log)) then source_of node (objections_of script phase log) else 0

-- the call of an entry, if a component received it
abbrev pub call_to : ℕ → Entry → Option Call
call_to node (Heard (Node receiver) origin call acts) = if receiver == node then Some call else None
call_to node entry = None

-- the item of an entry, if a sequence sent it at a sequencer
abbrev pub sent_at : ℕ → Entry → Option Item
sent_at home (Did (Sequence at id) Done (Send item)) = if at == home then Some item else None
sent_at home entry = None

-- the sequence of an entry, if it locked or grabbed a sequencer
abbrev pub locked_at : ℕ → Entry → Option ℕ
locked_at home (Locked at id) = if at == home then Some id else None
locked_at home entry = None

-- the sequence that locked or grabbed a sequencer last
abbrev pub last_locked : List Entry → ℕ → Option ℕ
last_locked log home = first_given (map (locked_at home) log)

-- the sequence that locked or grabbed a sequencer last, if it holds the sequencer
abbrev pub holder_at : List Entry → ℕ → Option ℕ → Option ℕ
holder_at log home None = None
holder_at log home (Some id) = if option_map_or (λ s. is_held id s.holders) (sequencer_at log home) false then Some id else None

-- the sequence to which a sequencer has granted the next item, or whose item its driver has
abbrev pub served_by : Driver → Option ℕ
served_by (driver.Granted id how) = Some id
served_by (driver.InHand id) = Some id
served_by state = None

-- the action sends an item with this value
abbrev pub IsSent : Act → List ℕ → Type 0
IsSent act value = (item : Item) × (act ≡ Send item) × (value ≡ text_value (item_text item))

-- a call, if there is one
abbrev pub call_value : Option Call → List ℕ
call_value None = text_value []
call_value (Some call) = text_value (call_text call)

-- an item, if there is one
abbrev pub item_value : Option Item → List ℕ
item_value None = text_value []
item_value (Some item) = text_value (item_text item)

-- the value of a variable
abbrev pub value_of : ScriptValue → List Entry → Signal → List ℕ
value_of script log PhaseOf = phase_value (running (stage_of log))
value_of script log Objections = number_value (objections_in script log (running (stage_of log)))
value_of script log (Reports severity) = number_value (number_of (report_counts (report_commands script log)) severity)
value_of script log (Raised node) = number_value (raised_in script log node (running (stage_of log)))
value_of script log (CallTo node) = call_value (first_given (map (call_to node) log))
value_of script log (Level node) = number_value (option_map_or (λ fifo. length fifo.items) (fifo_state_at log node) 0)
value_of script log (Waiting node) = number_value (waiters_at log node)
value_of script log (Granted home) = sequence_value (sequences_of log) (option_and_then (λ s. served_by s.driver) (sequencer_at log home))
value_of script log (Holder home) = sequence_value (sequences_of log) (holder_at log home (last_locked log home))
value_of script log (ItemAt home) = item_value (first_given (map (sent_at home) log))
