-- The invariant of a sequencer.
use Rattle.std.specs.Prelude.{◌≤◌, not, List, length, filter}
use Rattle.uvm_sequencer.specs.declared.requests.Request.{Request}
use Rattle.uvm_sequencer.specs.declared.sequencers.Sequencer.TheInside.{Inside}
use Rattle.uvm_sequencer.specs.Queues.{is_item}

-- the lock requests of a queue
abbrev pub locks : List Request → List Request
locks queue = filter (λ request. not (is_item request)) queue

-- the invariant of a sequencer: the holders have reserved capacity for each lock request that waits
pub record IsSequencer (s : Inside) : Type 0 where
  pub room : length (locks s.queue) ≤ s.holders.spare
