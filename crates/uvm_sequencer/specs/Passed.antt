-- What earlier scans have shown of the front of a queue.
use Rattle.std.specs.Prelude.{◌≡◌, ◌≤◌, ℕ, Bool, true, List, length, take}
use Rattle.std.specs.List.{list_all}
use Rattle.uvm_sequencer.specs.Queues.{is_blocked}
use Rattle.uvm_sequences.specs.Sequences.{Start}
use Rattle.uvm_sequencer.specs.Sequencers.{SequencerValue}

-- whether the first `known` requests of the queue are of sequences that are blocked
abbrev pub are_blocked : List Start → SequencerValue → ℕ → Bool
are_blocked started s known = list_all (λ request. is_blocked started s.holders request.seq) (take known s.queue)

-- the queue has at least `known` requests, and the first `known` are of sequences that are blocked
pub record IsPassed (started : List Start) (s : SequencerValue) (known : ℕ) : Type 0 where
  pub within : known ≤ length s.queue
  pub blocked : are_blocked started s known ≡ true
