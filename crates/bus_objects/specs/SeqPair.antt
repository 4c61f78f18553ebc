-- The type `seq_pair`: a sequence that starts two sequences, and ends when both have finished.
use Rattle.std.specs.Prelude.{◌≡◌, ℕ, ◌+◌, ◌==◌, nat_lt, List, [], ◌∷◌, Option, Some, None, codes, if◌then◌else◌, bytes_eq}
use Rattle.uvm_object.specs.Objects.{View}
use Rattle.uvm_acts.specs.declared.acts.Call.{Call}
use Rattle.uvm_acts.specs.declared.acts.Call.TheVariants.{PreStart, Body, PostStart, Finished}
use Rattle.uvm_acts.specs.declared.acts.Act.{Act}
use Rattle.uvm_acts.specs.declared.acts.Act.TheVariants.{EndStep, Start}
use Rattle.bus_objects.specs.declared.seq_pair.SeqPair.{SeqPair}
use Rattle.bus_objects.specs.Sequences.{count_of}

-- the view of a `seq_pair`: how many of the two sequences have finished
abbrev pub seq_pair_view : SeqPair → View
seq_pair_view seq_pair = seq_pair.finished ∷ []

-- the actions that start both sequences on its own sequencer, the first without a priority
abbrev pub children : List Act
children = Start (codes "seq_smoke") (codes "a") [] None ∷ Start (codes "seq_burst") (codes "b") [] (Some 200) ∷ []

-- the answer of a `seq_pair` to a call: in `body` it starts both sequences, and ends that step when the second has finished
abbrev pub seq_pair_acts : ℕ → Call → List Act
seq_pair_acts finished PreStart = EndStep ∷ []
seq_pair_acts finished Body = children
seq_pair_acts finished PostStart = EndStep ∷ []
seq_pair_acts finished (Finished name id) = if finished == 1 then EndStep ∷ [] else []
seq_pair_acts finished call = []

-- the number of the two sequences that have finished after a call, at most 2
abbrev pub finished_after : ℕ → Call → ℕ
finished_after finished (Finished name id) = if nat_lt finished 2 then finished + 1 else finished
finished_after finished call = finished

-- The relation of a `seq_pair`. The count in its view determines its answer, and the next view is the count after the call.
abbrev pub SeqPairSays : View → Call → List Act → View → Type 0
SeqPairSays before call acts after = let finished = count_of before in (acts ≡ seq_pair_acts finished call) × (after ≡ finished_after finished call ∷ [])

-- a new object if the name is `seq_pair`; `None` otherwise
abbrev pub seq_pair_named : List ℕ → Option SeqPair
seq_pair_named name = if bytes_eq name (codes "seq_pair") then Some (record { type_name = name; finished = 0 }) else None
