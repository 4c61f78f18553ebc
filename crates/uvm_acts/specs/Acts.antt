-- Performers and their actions.
use Rattle.std.specs.Prelude.{ℕ, Bool, true, false, List, [], ◌∷◌}
use Rattle.uvm_acts.specs.declared.acts.Act.{Act}
use Rattle.uvm_acts.specs.declared.acts.Act.TheVariants.{Ask, ItemDone, Start, Request, Lock, Grab, Unlock, Send, EndStep}
use Rattle.uvm_acts.specs.declared.stored_acts.StoredActs.{StoredActs}
use Rattle.uvm_acts.specs.declared.stored_acts.StoredActs.TheVariants.{None, One, Two, Many}
use Rattle.uvm_acts.specs.declared.acts.Who.{Who}
use Rattle.uvm_acts.specs.declared.acts.Who.TheVariants.{Node, Sequence}

-- the node of a component; for a sequence that of its sequencer
abbrev pub node_of : Who → ℕ
node_of (Node node) = node
node_of (Sequence home id) = home

-- the actions of an answer, as a list
abbrev pub acts_of : StoredActs → List Act
acts_of None = []
acts_of (One stored_act) = stored_act ∷ []
acts_of (Two stored_acts) = stored_acts.value
acts_of (Many stored_acts) = stored_acts.value.items

-- whether an action concerns sequences: an action of a driver or of a sequence, or the start of a sequence
abbrev pub is_sequencing : Act → Bool
is_sequencing (Ask port how) = true
is_sequencing (ItemDone port response) = true
is_sequencing (Start type_name name on priority) = true
is_sequencing (Request priority) = true
is_sequencing Lock = true
is_sequencing Grab = true
is_sequencing Unlock = true
is_sequencing (Send item) = true
is_sequencing EndStep = true
is_sequencing act = false
