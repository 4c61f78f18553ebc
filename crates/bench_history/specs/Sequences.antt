-- The sequences that were started (IEEE 1800.2-2020, Clause 14): the sequencer, the starter, the name and the priority of each, its current step, and
-- which have ended.
use Rattle.std.specs.Prelude.{ℕ, Bool, true, false, not, ◌&&◌, ◌==◌, List, [], ◌∷◌, ◌++◌, length, map, filter, slice_get, count_by, Option, Some, None, option_and_then, unwrap_or, if◌then◌else◌}
use Rattle.std.specs.List.{flat_map, list_any}
use Rattle.std.specs.Option.{option_map_or}
use Rattle.uvm_phase.specs.declared.phases.Phase.{Phase}
use Rattle.uvm_phase.specs.Phases.{same_phase}
use Rattle.uvm_sequences.specs.declared.starts.SeqStep.{SeqStep}
use Rattle.uvm_sequences.specs.declared.starts.SeqStep.TheVariants.{PreStart, Body, PostStart}
use Rattle.uvm_sequences.specs.Sequences.{Start, names_of, numbered, step_after}
use Rattle.uvm_tree.specs.declared.nodes.NodeKind.{NodeKind}
use Rattle.uvm_tree.specs.declared.nodes.NodeKind.TheVariants as kind
use Rattle.uvm_tree.specs.Nodes.{Node, node_at, path_at}
use Rattle.uvm_acts.specs.declared.acts.Who.{Who}
use Rattle.uvm_acts.specs.declared.acts.Who.TheVariants as who
use Rattle.uvm_object.specs.Objects.{same_who}
use Rattle.uvm_acts.specs.declared.acts.Act.{Act}
use Rattle.uvm_acts.specs.declared.acts.Act.TheVariants as act
use Rattle.uvm_object.specs.declared.entries.Outcome.{Outcome}
use Rattle.uvm_object.specs.declared.entries.Outcome.TheVariants.{Done, Started, Finished}
use Rattle.uvm_object.specs.declared.entries.Entry.{Entry}
use Rattle.uvm_object.specs.declared.entries.Entry.TheVariants.{Did, End}
use Rattle.bench_history.specs.Limits.{usual_priority}
use Rattle.bench_history.specs.History.{act_phase, nodes_of, ended_of}
use Rattle.bench_history.specs.Wires.{node_below}

-- the number of the sequence that performs, if it is one: it is the parent of a sequence that it starts
abbrev pub sequence_in : Who → Option ℕ
sequence_in (who.Node node) = None
sequence_in (who.Sequence home id) = Some id

-- an object is this sequence
abbrev pub is_sequence : ℕ → Who → Bool
is_sequence id who = option_map_or (λ other. other == id) (sequence_in who) false

-- a node of this kind is a sequencer
abbrev pub is_sequencer : NodeKind → Bool
is_sequencer kind.Sequencer = true
is_sequencer other = false

-- a node, if it is a sequencer
abbrev pub if_sequencer : List Node → ℕ → Option ℕ
if_sequencer nodes node = if option_map_or (λ n. is_sequencer n.kind) (node_at nodes node) false then Some node else None

-- the sequencer of a start: for a component the one at a path below it, for a sequence its own sequencer, by the empty path
abbrev pub home_asked : List Node → Who → List (List ℕ) → Option ℕ
home_asked nodes (who.Node node) on = option_and_then (if_sequencer nodes) (node_below nodes (who.Node node) on)
home_asked nodes (who.Sequence home id) [] = Some home
home_asked nodes (who.Sequence home id) (name ∷ on) = None

-- if a sequence performs, the names from its root sequence down to itself; otherwise none
abbrev pub parent_names : List Start → Who → List (List ℕ)
parent_names started performer = option_map_or (names_of started) (sequence_in performer) []

-- the path under which the factory knows a sequence: that of its sequencer, followed by the names from its root sequence down
abbrev pub sequence_path : List Node → List Start → Who → List (List ℕ) → List ℕ → List (List ℕ)
sequence_path nodes started performer on name = path_at nodes (unwrap_or (home_asked nodes performer on) 0) ++ parent_names started performer ++ name ∷ []

-- the priority of the parent sequence, or the default priority if there is none
abbrev pub parent_priority : List Start → Option ℕ → ℕ
parent_priority started parent = option_map_or (λ start. start.priority) (option_and_then (numbered started) parent) usual_priority

-- the priority of a sequence that is started: the one that is given, otherwise that of its parent, otherwise the default
abbrev pub start_priority : List Start → Option ℕ → Option ℕ → ℕ
start_priority started parent given = unwrap_or given (parent_priority started parent)

-- the start that an action performs: the sequencer, the parent, the name and the priority
abbrev pub start_by : List Node → List Start → Who → Act → Start
start_by nodes started performer (act.Start type_name name on priority) =
    record { home = unwrap_or (home_asked nodes performer on) 0; parent = sequence_in performer; name = name; priority = start_priority started (sequence_in performer) priority }
start_by nodes started performer act = record { home = 0; parent = None; name = []; priority = usual_priority }

-- a start record: the start, the object that performed it, and the phase of the action
pub record StartRecord : Type 0 where
  pub start : Start
  pub starter : Who
  pub phase : Option Phase

-- the starts of these sequences: the home, parent, name and priority of each
abbrev pub starts_in : List StartRecord → List Start
starts_in start_records = map (λ start_record. start_record.start) start_records

-- the sequences that were started after an action: with one more, the newest, if it started one
abbrev pub begun_after : List Node → Option Phase → List StartRecord → Who → Outcome → Act → List StartRecord
begun_after nodes phase begun performer (Started id) act = record { start = start_by nodes (starts_in begun) performer act; starter = performer; phase = phase } ∷ begun
begun_after nodes phase begun performer outcome act = begun

-- the start records of all sequences, the newest first: each by an accepted action
abbrev pub starts_of : List Entry → List StartRecord
starts_of [] = []
starts_of (Did performer outcome act ∷ before) = begun_after (nodes_of before) (act_phase before) (starts_of before) performer outcome act
starts_of (entry ∷ before) = starts_of before

-- the phase in which a sequence was started; the sequence belongs to it
abbrev pub phase_begun : List Entry → ℕ → Option Phase
phase_begun history id = option_and_then (λ start_record. start_record.phase) (numbered (starts_of history) id)

-- the starts of all sequences that were started, the newest first
abbrev pub sequences_of : List Entry → List Start
sequences_of history = starts_in (starts_of history)

-- an entry ends a step of a sequence other than its last
abbrev pub ends_step : ℕ → Entry → Bool
ends_step id (Did performer Done act.EndStep) = is_sequence id performer
ends_step id entry = false

-- the sequence that an entry finishes, by ending its last step
abbrev pub finished_in : Entry → List Who
finished_in (Did performer Finished act) = performer ∷ []
finished_in entry = []

-- the sequences that have finished
abbrev pub finished_of : List Entry → List Who
finished_of history = flat_map finished_in history

-- the phase of a sequence has ended, or it has none
abbrev pub is_over_phase : List Phase → Option Phase → Bool
is_over_phase ended phase = option_map_or (λ phase. list_any (same_phase phase) ended) phase true

-- a sequence is active: it has not finished, and its phase has not ended
abbrev pub lives : List Entry → ℕ → StartRecord → Bool
lives history id start_record = not (list_any (same_who (who.Sequence start_record.start.home id)) (finished_of history)) && not (is_over_phase (ended_of history) start_record.phase)

-- a sequence is active: it was started, it has not finished, and its phase has not ended
unfoldable pub is_live : List Entry → ℕ → Bool
is_live history id = option_map_or (lives history id) (numbered (starts_of history) id) false

-- the three steps of a sequence, in their order
abbrev pub all_steps : List SeqStep
all_steps = PreStart ∷ Body ∷ PostStart ∷ []

-- the step that a sequence has reached, by how many steps it has ended
abbrev pub step_in : List Entry → ℕ → Option SeqStep
step_in history id = slice_get all_steps (count_by (ends_step id) history)

-- the step of a sequence that is active
unfoldable pub step_of : List Entry → ℕ → Option SeqStep
step_of history id = if is_live history id then step_in history id else None

-- the step that follows the current step of the sequence that performs
abbrev pub next_step : List Entry → Who → Option SeqStep
next_step history performer = option_and_then step_after (option_and_then (step_of history) (sequence_in performer))

-- all sequences that were started, the oldest first
abbrev pub all_begun : List StartRecord → List Who
all_begun [] = []
all_begun (start_record ∷ older) = all_begun older ++ who.Sequence start_record.start.home (length (start_record ∷ older)) ∷ []

-- an object is an active sequence
abbrev pub is_living : List Entry → Who → Bool
is_living history (who.Node node) = false
is_living history (who.Sequence home id) = is_live history id

-- the sequence that an action ends: its performer, if the outcome is `Finished`
abbrev pub leaving_after : Who → Outcome → List Who
leaving_after performer Finished = performer ∷ []
leaving_after performer outcome = []

-- the sequences that the newest entry has ended: the one that finished, or those that end with a phase, in order of their starts
abbrev pub leaving_of : List Entry → List Who
leaving_of [] = []
leaving_of (Did performer outcome act ∷ before) = leaving_after performer outcome
leaving_of (End phase ∷ before) = filter (λ who. is_living before who && not (is_living (End phase ∷ before) who)) (all_begun (starts_of before))
leaving_of (entry ∷ before) = []
