-- The effect of an action after a log: the outcome that its entry will have, or the object that it needs first.
use Rattle.std.specs.Prelude.{ℕ, suc, Bool, false, not, nat_lt, List, length, Option, Some, None, is_some, option_and_then, unwrap_or, if◌then◌else◌}
use Rattle.std.specs.Option.{option_map_or}
use Rattle.uvm_glob.specs.Faults.{fault_if}
use Rattle.uvm_glob.specs.Paths.{path_text}
use Rattle.uvm_sequencer.specs.declared.drivers.How.{How}
use Rattle.uvm_sequencer.specs.declared.drivers.How.TheVariants.{Try}
use Rattle.uvm_sequences.specs.Sequences.{Start as SequenceStart}
use Rattle.uvm_sequencer.specs.Sequencers.{SequencerValue, candidates_at}
use Rattle.uvm_config.specs.Answers.{config_answer}
use Rattle.uvm_factory.specs.declared.types.Kind.TheVariants.{Component, Sequence}
use Rattle.uvm_tlm.specs.declared.ends.PortKind.TheVariants as through
use Rattle.uvm_tree.specs.Nodes.{path_at}
use Rattle.uvm_objection.specs.Nodes.{source_of}
use Rattle.uvm_acts.specs.Acts.{node_of}
use Rattle.uvm_acts.specs.declared.acts.Who.{Who}
use Rattle.uvm_acts.specs.declared.acts.Act.{Act}
use Rattle.uvm_acts.specs.declared.acts.Act.TheVariants.{Create, Add, Set, Get, OverrideType, OverrideInst, Connect, Put, TryPut, Take, TryTake, Peek, Write, Ask, ItemDone, Start, Request, Lock, Grab, Unlock, Send, EndStep, RaiseObjection, DropObjection, SetDrain, Wait}
use Rattle.uvm_object.specs.declared.fatals.Fatal.{Fatal}
use Rattle.uvm_object.specs.declared.fatals.Fatal.TheVariants.{NotOpen}
use Rattle.uvm_object.specs.declared.entries.Outcome.{Outcome}
use Rattle.uvm_object.specs.declared.entries.Outcome.TheVariants.{Done, Made, Started, Value, Stored, Taken, Waits, Finished, Refused}
use Rattle.uvm_object.specs.declared.entries.Entry.{Entry}
use Rattle.bench_script.specs.Scripts.{ScriptValue}
use Rattle.bench_history.specs.declared.needs.Need.{Need}
use Rattle.bench_history.specs.History.{act_phase, nodes_of, overrides_of, is_built, type_name_or}
use Rattle.bench_history.specs.Configuration.{settings_of}
use Rattle.bench_history.specs.Objections.{objection_now}
use Rattle.bench_history.specs.Wires.{end_below, wiring_of, is_past_connect}
use Rattle.bench_history.specs.Sequences.{home_asked, next_step, sequence_in, sequence_path, sequences_of}
use Rattle.bench_history.specs.Arbitration.{sequencer_at, sequencer_below}
use Rattle.bench_history.specs.Ports.{port_below, fifo_port_below}
use Rattle.bench_history.specs.Passing.{fifo_state_below, puts_now, takes_now}
use Rattle.bench_history.specs.Refusals.{Creation, Starting, created_path, is_open_to, sequence_made, starting_refusal, type_made, creation_refusal, addition_refusal, setting_refusal, overriding_refusal, connection_refusal, passing_refusal, driving_refusal, ask_refusal, done_refusal, request_refusal, item_refusal, lock_refusal, unlock_refusal, send_refusal, raise_refusal, drop_refusal, drain_refusal, wait_refusal}

-- the effect of an action: it needs an object first, and has an outcome if the object is made; or it has an outcome immediately
pub data Effect : Type 0 where
  Needs : (need : Need) → (made : Outcome) → Effect
  ComesTo : (outcome : Outcome) → Effect

-- the outcome `Refused` if there is a reason; otherwise this effect
abbrev pub unless_refused : Option Fatal → Effect → Effect
unless_refused None effect = effect
unless_refused (Some fatal) effect = ComesTo (Refused fatal)

-- the object that a creation needs, of the type that is made; if none is made, the creation is refused
abbrev pub needed_object : Creation → Need
needed_object creation = record { kind = Component; type_name = option_map_or (λ made. type_name_or creation.types made creation.type_name) (type_made creation) creation.type_name; path = created_path creation }

-- the result of a creation: it is refused, or needs an object of the type that is made
abbrev pub creation_effect : Creation → Effect
creation_effect creation = unless_refused (creation_refusal creation) (Needs (needed_object creation) (Made (needed_object creation).type_name))

-- a creation after a log
abbrev pub creation_now : ScriptValue → List Entry → Who → List ℕ → List ℕ → Creation
creation_now script history performer type_name name =
    record { built = is_built history; types = script.types; overrides = overrides_of script history; nodes = nodes_of history; parent = node_of performer; type_name = type_name; name = name }

-- the sequence that a start needs, of the type that is made
abbrev pub needed_sequence : Starting → Need
needed_sequence starting = record { kind = Sequence; type_name = option_map_or (λ made. type_name_or starting.types made starting.type_name) (sequence_made starting) starting.type_name; path = starting.path }

-- the result of a start: it is refused, or needs a sequence, which gets the next number
abbrev pub starting_effect : ℕ → Starting → Effect
starting_effect count starting = unless_refused (starting_refusal starting) (Needs (needed_sequence starting) (Started (suc count)))

-- a start after a log
abbrev pub starting_now : ScriptValue → List Entry → Who → List ℕ → List ℕ → List (List ℕ) → Option ℕ → Starting
starting_now script history performer type_name name on priority = record {
  phase = act_phase history;
  types = script.types;
  overrides = overrides_of script history;
  type_name = type_name;
  home = home_asked (nodes_of history) performer on;
  path = sequence_path (nodes_of history) (sequences_of history) performer on name;
  priority = priority;
}

-- the effect of an accepted request of a driver: `Waits` for a `try`, with whether an item can be granted; otherwise `Done`
abbrev pub asked_effect : How → Bool → Effect
asked_effect Try waits = ComesTo (Waits waits)
asked_effect how waits = ComesTo Done

-- the sequencer that a driver reaches through a port
abbrev pub driven_at : List Entry → Who → List ℕ → Option SequencerValue
driven_at history performer port = option_and_then (sequencer_at history) (sequencer_below history performer port)

-- the sequencer on which a sequence runs
abbrev pub home_sequencer : List Entry → Who → Option SequencerValue
home_sequencer history performer = sequencer_at history (node_of performer)

-- a sequencer has a request for an item that can be granted
abbrev pub has_candidate : List SequenceStart → Option SequencerValue → Bool
has_candidate started sequencer = option_map_or (λ s. nat_lt 0 (length (candidates_at started s))) sequencer false

-- the number of the performer, if it is a sequence; otherwise 0
abbrev pub id_in : Who → ℕ
id_in performer = unwrap_or (sequence_in performer) 0

-- the effect of an action that is open to its performer
abbrev pub permitted_effect : ScriptValue → List Entry → Who → Act → Effect
permitted_effect script history performer (Create type_name name) = creation_effect (creation_now script history performer type_name name)
permitted_effect script history performer (Add name what) = unless_refused (addition_refusal (is_built history) (nodes_of history) (node_of performer) name) (ComesTo Done)
permitted_effect script history performer (Set glob field value) = unless_refused (setting_refusal (length (settings_of script history))) (ComesTo Done)
permitted_effect script history performer (Get field) = ComesTo (Value (config_answer (settings_of script history) (path_text (path_at (nodes_of history) (node_of performer))) field))
permitted_effect script history performer (OverrideType original new replace) = unless_refused (overriding_refusal script.types original new) (ComesTo Done)
permitted_effect script history performer (OverrideInst original new glob) = unless_refused (overriding_refusal script.types original new) (ComesTo Done)
permitted_effect script history performer (Connect from to) =
    unless_refused (connection_refusal (is_past_connect history) (end_below (nodes_of history) (wiring_of history) performer from) (end_below (nodes_of history) (wiring_of history) performer to)) (ComesTo Done)
permitted_effect script history performer (Put name item) = unless_refused (passing_refusal (act_phase history) (is_some (fifo_port_below history performer through.Put name))) (ComesTo Done)
permitted_effect script history performer (TryPut name item) =
    unless_refused (passing_refusal (act_phase history) (is_some (fifo_port_below history performer through.Put name))) (ComesTo (Stored (puts_now (fifo_state_below history performer through.Put name))))
permitted_effect script history performer (Take name) = unless_refused (passing_refusal (act_phase history) (is_some (fifo_port_below history performer through.Get name))) (ComesTo Done)
permitted_effect script history performer (TryTake name) =
    unless_refused (passing_refusal (act_phase history) (is_some (fifo_port_below history performer through.Get name))) (ComesTo (Taken (takes_now (fifo_state_below history performer through.Get name))))
permitted_effect script history performer (Peek name) = unless_refused (passing_refusal (act_phase history) (is_some (fifo_port_below history performer through.Get name))) (ComesTo Done)
permitted_effect script history performer (Write name item) = unless_refused (passing_refusal (act_phase history) (is_some (port_below history performer through.Analysis name))) (ComesTo Done)
permitted_effect script history performer (Ask port how) =
    unless_refused (driving_refusal (act_phase history) (is_some (sequencer_below history performer port)) (option_and_then ask_refusal (driven_at history performer port)))
    (asked_effect how (has_candidate (sequences_of history) (driven_at history performer port)))
permitted_effect script history performer (ItemDone port response) =
    unless_refused (driving_refusal (act_phase history) (is_some (sequencer_below history performer port)) (option_and_then done_refusal (driven_at history performer port))) (ComesTo Done)
permitted_effect script history performer (Start type_name name on priority) = starting_effect (length (sequences_of history)) (starting_now script history performer type_name name on priority)
permitted_effect script history performer (Request priority) = unless_refused (request_refusal priority (option_and_then (item_refusal (id_in performer)) (home_sequencer history performer))) (ComesTo Done)
permitted_effect script history performer Lock = unless_refused (option_and_then (lock_refusal (id_in performer)) (home_sequencer history performer)) (ComesTo Done)
permitted_effect script history performer Grab = unless_refused (option_and_then (lock_refusal (id_in performer)) (home_sequencer history performer)) (ComesTo Done)
permitted_effect script history performer Unlock = unless_refused (option_and_then (unlock_refusal (id_in performer)) (home_sequencer history performer)) (ComesTo Done)
permitted_effect script history performer (Send item) = unless_refused (option_and_then (send_refusal (id_in performer)) (home_sequencer history performer)) (ComesTo Done)
permitted_effect script history performer EndStep = ComesTo (if is_some (next_step history performer) then Done else Finished)
permitted_effect script history performer (RaiseObjection count) = unless_refused (raise_refusal (act_phase history)) (ComesTo Done)
permitted_effect script history performer (DropObjection count) = unless_refused (drop_refusal (act_phase history) (source_of (node_of performer) (objection_now script history)) count) (ComesTo Done)
permitted_effect script history performer (SetDrain ticks) = unless_refused (drain_refusal ticks) (ComesTo Done)
permitted_effect script history performer (Wait ticks tag) = unless_refused (wait_refusal (act_phase history) ticks) (ComesTo Done)
permitted_effect script history performer act = ComesTo Done

-- the effect of an action; it is refused if it is not open to its performer
abbrev pub effect_of : ScriptValue → List Entry → Who → Act → Effect
effect_of script history performer act = unless_refused (fault_if (not (is_open_to act performer)) NotOpen) (permitted_effect script history performer act)

-- why an action is refused, if it is
abbrev pub refusal_in : Effect → Option Fatal
refusal_in (ComesTo (Refused fatal)) = Some fatal
refusal_in effect = None
