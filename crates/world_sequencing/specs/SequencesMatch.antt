-- The stored sequences, their steps and their start records match the log.
use Rattle.std.specs.Prelude.{◌≡◌, ◌≤◌, ℕ, zero, suc, Bool, false, not, ◌&&◌, List, [], ◌∷◌, ◌++◌, length, map, filter, slice_get, All, Option, Some, None, is_some, IsSome, option_and_then, if◌then◌else◌}
use Rattle.std.specs.List.{flat_map, list_any}
use Rattle.std.specs.Option.{option_map_or}
use Rattle.uvm_glob.specs.declared.faults.PathFault.{PathFault}
use Rattle.uvm_phase.specs.declared.phases.Phase.{Phase}
use Rattle.uvm_phase.specs.Phases.{same_phase}
use Rattle.uvm_sequences.specs.declared.starts.SeqStep.{SeqStep}
use Rattle.uvm_sequences.specs.Sequences.{SequencesValue, finished, numbered, step_at}
use Rattle.uvm_tree.specs.Nodes.{Node}
use Rattle.uvm_acts.specs.declared.acts.Who.{Who}
use Rattle.uvm_acts.specs.declared.acts.Act.{Act}
use Rattle.uvm_acts.specs.declared.acts.Act.TheVariants.{Start, EndStep}
use Rattle.uvm_object.specs.declared.entries.Outcome.TheVariants.{Done}
use Rattle.uvm_object.specs.declared.entries.Entry.{Entry}
use Rattle.uvm_object.specs.declared.entries.Entry.TheVariants.{Did}
use Rattle.uvm_object.specs.Objects.{same_who}
use Rattle.bench_history.specs.Sequences.{StartRecord, all_steps, home_asked, is_over_phase, is_sequence, starts_in}
use Rattle.bench_history.specs.Laws.{number_of, place_of}
use Rattle.uvm_glob.specs.declared.faults.PathFault.TheVariants as path
use Rattle.uvm_acts.specs.declared.acts.Who.TheVariants as who
use Rattle.world_sequencing.specs.declared.start_records.StartRecord as kept

-- the sequence that ends a step with an entry, in a list; none if it is the last step
abbrev pub enders_in : Entry → List Who
enders_in (Did performer Done EndStep) = performer ∷ []
enders_in entry = []

-- the sequences that have ended a step which was not their last, once for each step, the newest first
abbrev pub enders_of : List Entry → List Who
enders_of history = flat_map enders_in history

-- whether a started sequence is active: it has not finished, and its phase has not ended
abbrev pub lives_by : List Who → List Phase → ℕ → StartRecord → Bool
lives_by finished ended id start_record = not (list_any (same_who (who.Sequence start_record.start.home id)) finished) && not (is_over_phase ended start_record.phase)

-- whether the sequence of a number is active, if one was started
abbrev pub live_by : List StartRecord → List Who → List Phase → ℕ → Bool
live_by begun finished ended id = option_map_or (lives_by finished ended id) (numbered begun id) false

-- how many steps a sequence has ended, its last not counted
abbrev pub steps_ended : List Who → ℕ → ℕ
steps_ended enders id = length (filter (is_sequence id) enders)

-- the step of an active sequence, by how many steps it has ended; none if it is not active
abbrev pub step_by : List StartRecord → List Who → List Phase → List Who → ℕ → Option SeqStep
step_by begun finished ended enders id = if live_by begun finished ended id then slice_get all_steps (steps_ended enders id) else None

-- the start records of all started sequences, the oldest first
abbrev pub kept_start_records : List StartRecord → List kept.StartRecord
kept_start_records [] = []
kept_start_records (start_record ∷ older) = kept_start_records older ++ record { who = who.Sequence start_record.start.home (length (start_record ∷ older)); starter = start_record.starter; phase = start_record.phase } ∷ []

-- a component may start a sequence in any phase; a sequence may if it was started earlier, on its sequencer and in the same phase
abbrev pub IsStarter : List StartRecord → Option Phase → Who → Type 0
IsStarter older phase (who.Node node) = Unit {0}
IsStarter older phase (who.Sequence home id) = place_of (numbered older id) ≡ Some (home, phase)

-- each sequence was started by a performer that `IsStarter` allows
abbrev pub AreStarters : List StartRecord → Type 0
AreStarters [] = Unit {0}
AreStarters (start_record ∷ older) = IsStarter older start_record.phase start_record.starter × AreStarters older

-- the started sequences, the step of each active one and the start records are what the log says; each sequence that has finished or ended a step
-- was started, and each starter is allowed
pub record IsSequencing (begun : List StartRecord) (finished : List Who) (ended : List Phase) (enders : List Who) (sequences : SequencesValue) (start_records : List kept.StartRecord) : Type 0 where
  pub started : sequences.started ≡ starts_in begun
  pub many : length sequences.steps ≡ length begun
  pub are : start_records ≡ kept_start_records begun
  pub steps : (id : ℕ) → step_at sequences.steps id ≡ step_by begun finished ended enders id
  pub living : (id : ℕ) → is_some (step_at sequences.steps id) ≡ live_by begun finished ended id
  pub finished_within : All (λ who. number_of who ≤ length begun) finished
  pub enders_within : All (λ who. number_of who ≤ length begun) enders
  pub starters : AreStarters begun

-- whether a sequence was started in this phase, by the phase of its start record
abbrev pub is_in_phase : Phase → Option Phase → Bool
is_in_phase phase None = false
is_in_phase phase (Some other) = same_phase other phase

-- whether a performer is an active sequence
abbrev pub is_live_in : List (Option SeqStep) → Who → Bool
is_live_in steps (who.Node node) = false
is_live_in steps (who.Sequence home id) = is_some (step_at steps id)

-- whether a sequence ends with a phase: it was started in it and is active
abbrev pub ends_with : List (Option SeqStep) → Phase → kept.StartRecord → Bool
ends_with steps phase start_record = is_in_phase phase start_record.phase && is_live_in steps start_record.who

-- the sequences that end with a phase: those that were started in it and are active
abbrev pub leaving_with : List (Option SeqStep) → Phase → List kept.StartRecord → List Who
leaving_with steps phase start_records = map (λ start_record. start_record.who) (filter (ends_with steps phase) start_records)

-- after the end of a performer, if it is a sequence; a component changes nothing
abbrev pub finished_by : Who → SequencesValue → SequencesValue
finished_by (who.Node node) sequences = sequences
finished_by (who.Sequence home id) sequences = finished id sequences

-- the sequences in this list have ended; the others are unchanged
pub record AreEnded (leaving : List Who) (old new : SequencesValue) : Type 0 where
  pub started : new.started ≡ old.started
  pub many : length new.steps ≡ length old.steps
  pub steps : (id : ℕ) → step_at new.steps id ≡ (if list_any (is_sequence id) leaving then None else step_at old.steps id)

-- the action starts a sequence
abbrev pub IsStart : Act → Type 0
IsStart (Start type_name name on priority) = Unit {0}
IsStart act = ⊥

-- the name of the sequence that an action starts; empty for every other action
abbrev pub name_started : Act → List ℕ
name_started (Start type_name name on priority) = name
name_started act = []

-- the priority that an action gives to the sequence that it starts, if any
abbrev pub priority_given : Act → Option ℕ
priority_given (Start type_name name on priority) = priority
priority_given act = None

-- the sequencer on which an action of a performer starts a sequence; none for every other action
abbrev pub home_for : List Node → Who → Act → Option ℕ
home_for nodes performer (Start type_name name on priority) = home_asked nodes performer on
home_for nodes performer act = None

-- the start record of the sequence of a number, if there is one
abbrev pub start_record_at : List kept.StartRecord → ℕ → Option kept.StartRecord
start_record_at start_records zero = None
start_record_at start_records (suc place) = slice_get start_records place

-- the phase in which the sequence of a number was started
abbrev pub phase_at : List kept.StartRecord → ℕ → Option Phase
phase_at start_records id = option_and_then (λ start_record. start_record.phase) (start_record_at start_records id)

-- an error of a path: out of memory at any time, any other error only if the path has a fault
abbrev pub MayFail : Option PathFault → PathFault → Type 0
MayFail found path.Memory = Unit {0}
MayFail found fault = IsSome found
