-- What is connected, and which ports are misconnected (IEEE 1800.2-2020, Clause 12).
use Rattle.std.specs.Prelude.{ℕ, Bool, true, false, nat_eq, is_none, List, [], ◌∷◌, ◌++◌, length, map, Option, Some, None, option_map, option_and_then, if◌then◌else◌}
use Rattle.std.specs.List.{list_any, after_first}
use Rattle.uvm_glob.specs.Lists.{first_given, newest}
use Rattle.uvm_glob.specs.Paths.{path_fault}
use Rattle.uvm_phase.specs.declared.phases.Phase.TheVariants.{Connect}
use Rattle.uvm_tree.specs.Nodes.{Node, path_at, number_at}
use Rattle.uvm_tree.specs.Sorted.{path_order}
use Rattle.uvm_tlm.specs.declared.ends.End.{End}
use Rattle.uvm_tlm.specs.declared.ends.End.TheVariants as end
use Rattle.uvm_tlm.specs.declared.faults.WireFault.{WireFault}
use Rattle.uvm_tlm.specs.declared.faults.WireFault.TheVariants.{TooFew}
use Rattle.uvm_tlm.specs.Wirings.{WiringValue, new_wiring, with_end, with_connection, end_at, wire_fault}
use Rattle.uvm_acts.specs.Acts.{node_of}
use Rattle.uvm_acts.specs.declared.acts.Who.{Who}
use Rattle.uvm_acts.specs.declared.acts.What.{What}
use Rattle.uvm_acts.specs.declared.acts.What.TheVariants as what
use Rattle.uvm_acts.specs.declared.acts.Act.{Act}
use Rattle.uvm_acts.specs.declared.acts.Act.TheVariants as act
use Rattle.uvm_object.specs.declared.fatals.Fatal.{Fatal}
use Rattle.uvm_object.specs.declared.fatals.Fatal.TheVariants.{TooFewConnections, TooManyConnections}
use Rattle.uvm_object.specs.declared.entries.Outcome.{Outcome}
use Rattle.uvm_object.specs.declared.entries.Outcome.TheVariants.{Done}
use Rattle.uvm_object.specs.declared.entries.Entry.{Entry}
use Rattle.uvm_object.specs.declared.entries.Entry.TheVariants.{End as ended, Did, Note}
use Rattle.bench_history.specs.History.{nodes_of}

-- the end of a connection that an addition adds
abbrev pub end_of : What → End
end_of (what.Sequencer mode) = end.Sequencer
end_of (what.Fifo size) = end.Fifo size
end_of (what.Port kind) = end.Port kind
end_of (what.Export kind) = end.Export kind
end_of what.Imp = end.Imp

-- the node at a path below a performer, if there is one; none if the path exceeds the limits of a path
unfoldable pub node_below : List Node → Who → List (List ℕ) → Option ℕ
node_below nodes performer path = let whole = path_at nodes (node_of performer) ++ path in if is_none (path_fault whole) then number_at nodes whole else None

-- the end of a connection at a path below a performer, if there is one
abbrev pub end_below : List Node → WiringValue → Who → List (List ℕ) → Option End
end_below nodes wiring performer path = option_and_then (end_at wiring.ends) (node_below nodes performer path)

-- the wiring with one more connection, if both nodes exist
abbrev pub with_both : Option ℕ → Option ℕ → WiringValue → WiringValue
with_both (Some from) (Some to) wiring = with_connection from to wiring
with_both from to wiring = wiring

-- the wiring after an action: with what it adds or connects, if it is done
abbrev pub wiring_after : List Node → WiringValue → Who → Outcome → Act → WiringValue
wiring_after nodes wiring performer Done (act.Add name what) = with_end (length nodes) (end_of what) wiring
wiring_after nodes wiring performer Done (act.Connect from to) = with_both (node_below nodes performer from) (node_below nodes performer to) wiring
wiring_after nodes wiring performer outcome act = wiring

-- the wiring by all accepted actions: what was added and connected; it is not closed
abbrev pub wiring_of : List Entry → WiringValue
wiring_of [] = new_wiring
wiring_of (Did performer outcome act ∷ before) = wiring_after (nodes_of before) (wiring_of before) performer outcome act
wiring_of (entry ∷ before) = wiring_of before

-- an entry ends connect
abbrev pub ends_connect : Entry → Bool
ends_connect (ended Connect) = true
ends_connect entry = false

-- connect has ended
abbrev pub is_past_connect : List Entry → Bool
is_past_connect history = list_any ends_connect history

-- the wiring as it is checked once connect has nothing left to do: closed by the path order of all nodes
abbrev pub closed_wiring : List Entry → WiringValue
closed_wiring history = record (wiring_of history) { order = Some (path_order (nodes_of history)) }

-- the fatal report for an error of a port, if there is an error
abbrev pub port_fatal : Option WireFault → Option Fatal
port_fatal None = None
port_fatal (Some TooFew) = Some TooFewConnections
port_fatal (Some fault) = Some TooManyConnections

-- a node with its fatal report, if it is a misconnected port
abbrev pub unsound_port : WiringValue → ℕ → Option (ℕ × Fatal)
unsound_port wiring node = option_map (λ fatal. (node, fatal)) (port_fatal (wire_fault wiring node))

-- the misconnected port that an entry reports
abbrev pub port_noted : Entry → Option ℕ
port_noted (Note TooFewConnections node) = Some node
port_noted (Note TooManyConnections node) = Some node
port_noted entry = None

-- the nodes that have not been checked: those that follow the port that was reported last
abbrev pub behind : Option ℕ → List ℕ → List ℕ
behind None order = order
behind (Some node) order = after_first (nat_eq node) order

-- the next misconnected port in path order, with its fatal report
unfoldable pub next_unsound : List Entry → Option (ℕ × Fatal)
next_unsound history = first_given (map (unsound_port (closed_wiring history)) (behind (option_and_then port_noted (newest history)) (path_order (nodes_of history))))
