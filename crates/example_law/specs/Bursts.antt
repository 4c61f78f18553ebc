-- What may be granted while a burst holds a sequencer. A log is read from its newest entry back.
use Rattle.std.specs.Prelude.{◌≡◌, ℕ, true, List, ◌∷◌, ◌++◌, Option, Contains, codes}
use Rattle.uvm_sequences.specs.Sequences.{is_under}
use Rattle.uvm_acts.specs.declared.acts.Who.{Who}
use Rattle.uvm_acts.specs.declared.acts.Act.TheVariants.{Start}
use Rattle.uvm_object.specs.declared.entries.Outcome.TheVariants.{Started}
use Rattle.uvm_object.specs.declared.entries.Grant.{Grant}
use Rattle.uvm_object.specs.declared.entries.Entry.{Entry}
use Rattle.uvm_object.specs.declared.entries.Entry.TheVariants.{Did, Granted, Locked}
use Rattle.bench_history.specs.Sequences.{sequences_of}
use Rattle.bench_history.specs.LegalLogs.{HasKept}

-- a sequence was started with the type name `seq_burst`
pub record IsBurst (history : List Entry) (id : ℕ) : Type 0 where
  pub starter : Who
  pub name : List ℕ
  pub on : List (List ℕ)
  pub priority : Option ℕ
  pub started : Contains history (Did starter (Started id) (Start (codes "seq_burst") name on priority))

-- an item is granted at a sequencer where a burst was granted a lock before and still has it: the item goes to the burst or to a descendant
-- of it
abbrev pub BurstIsAlone : List Entry → Type 0
BurstIsAlone history =
    (later between before : List Entry) (node id : ℕ) (grant : Grant) → history ≡ later ++ Granted node grant ∷ (between ++ Locked node id ∷ before) → IsBurst before id → HasKept between before node id
    → is_under (sequences_of (between ++ Locked node id ∷ before)) grant.id id ≡ true
