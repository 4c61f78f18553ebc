-- The requests of sequences at a sequencer, in the order of its queue: grabs first, the latest at the front, then the others in order of arrival. And
-- the holders of the sequencer, in the order of granting.
use Rattle.std.specs.Prelude.{ℕ, Bool, true, false, ◌≤◌, ◌==◌, ◌&&◌, not, List, [], ◌∷◌, length, filter, find, Option, Some, None, option_and_then, if◌then◌else◌}
use Rattle.std.specs.List.{list_any}
use Rattle.uvm_sequencer.specs.declared.requests.Request.{Request}
use Rattle.uvm_sequencer.specs.declared.requests.Want.{Want}
use Rattle.uvm_sequencer.specs.declared.requests.Want.TheVariants.{Item, Lock}
use Rattle.uvm_sequences.specs.Sequences.{Start}
pub use Rattle.uvm_sequencer_holders.specs.Holding.{is_blocked, is_held, released, all_released}

-- the request of a sequence to send an item, with its priority
abbrev pub item_request : ℕ → ℕ → Request
item_request seq priority = record { seq = seq; want = Item priority }

-- the request of a sequence for a lock
abbrev pub lock_request : ℕ → Request
lock_request seq = record { seq = seq; want = Lock }

-- whether an item is requested, not a lock
abbrev pub wants_item : Want → Bool
wants_item (Item priority) = true
wants_item Lock = false

-- the priority of an item, 0 for a lock
abbrev pub priority_in : Want → ℕ
priority_in (Item priority) = priority
priority_in Lock = 0

-- whether a request is to send an item
abbrev pub is_item : Request → Bool
is_item request = wants_item request.want

-- the priority of a request, 0 for a lock
abbrev pub priority_of : Request → ℕ
priority_of request = priority_in request.want

-- whether a request is of a sequence
abbrev pub is_of : ℕ → Request → Bool
is_of seq request = request.seq == seq

-- whether a request is that of a sequence to send an item
abbrev pub is_item_of : ℕ → Request → Bool
is_item_of seq request = is_of seq request && is_item request

-- whether a request is that of a sequence for a lock
abbrev pub is_lock_of : ℕ → Request → Bool
is_lock_of seq request = is_of seq request && not (is_item request)

-- a sequence waits for at most one item and one lock
abbrev pub AreSingle : List Request → Type 0
AreSingle queue = (seq : ℕ) → (length (filter (is_item_of seq) queue) ≤ 1) × (length (filter (is_lock_of seq) queue) ≤ 1)

-- a queue without all requests of a sequence
abbrev pub without : ℕ → List Request → List Request
without seq queue = filter (λ request. not (is_of seq request)) queue

-- a queue without the item requests of a sequence
abbrev pub without_item : ℕ → List Request → List Request
without_item seq queue = filter (λ request. not (is_item_of seq request)) queue

-- a queue without the lock requests of a sequence
abbrev pub without_lock : ℕ → List Request → List Request
without_lock seq queue = filter (λ request. not (is_lock_of seq request)) queue

-- whether a request is a candidate: an item request of a sequence that is not blocked
abbrev pub is_candidate : List Start → List ℕ → Request → Bool
is_candidate started holders request = is_item request && not (is_blocked started holders request.seq)

-- the candidates of a queue, in its order
abbrev pub candidates : List Start → List ℕ → List Request → List Request
candidates started holders queue = filter (is_candidate started holders) queue

-- the leading request: the first whose sequence is not blocked
abbrev pub leading : List Start → List ℕ → List Request → Option Request
leading started holders queue = find (λ request. not (is_blocked started holders request.seq)) queue

-- the sequence of a request for a lock; none if the request is for an item
abbrev pub lock_in : Request → Option ℕ
lock_in request = if is_item request then None else Some request.seq

-- the sequence whose lock is granted next: that of the leading request, if it is for a lock
abbrev pub leading_lock : List Start → List ℕ → List Request → Option ℕ
leading_lock started holders queue = option_and_then lock_in (leading started holders queue)
