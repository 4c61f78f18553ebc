-- The invariant of a queue.
use Rattle.std.specs.Prelude.{◌≡◌, ℕ, Bool, true, ◌||◌, not, nat_eq, nat_lt}
use Rattle.std.specs.HashSet.{contains}
use Rattle.std.specs.List.{list_all, list_any}
use Rattle.uvm_sequencer.specs.declared.queues.Queue.TheInside.{Inside}
use Rattle.uvm_sequencer.specs.declared.requests.Request.{Request}
use Rattle.uvm_sequencer.specs.Queues.{AreSingle, is_item, is_item_of, is_lock_of, priority_of}

-- whether a request has a priority of at least 1, if it is an item request
abbrev pub has_priority : Request → Bool
has_priority request = not (is_item request) || nat_lt 0 (priority_of request)

-- the invariant of a queue: its sets have exactly the sequences that wait, each item request has a priority of at least 1, and no sequence has two
-- item requests or two lock requests
pub record IsQueue (q : Inside) : Type 0 where
  pub items : (seq : ℕ) → contains nat_eq q.items seq ≡ list_any (is_item_of seq) q.requests
  pub locks : (seq : ℕ) → contains nat_eq q.locks seq ≡ list_any (is_lock_of seq) q.requests
  pub priorities : list_all has_priority q.requests ≡ true
  pub single : AreSingle q.requests
