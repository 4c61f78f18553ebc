-- The contenders as one filter of the queue: the candidates of at least some priority.
use Rattle.std.specs.Prelude.{ℕ, Bool, ◌&&◌, nat_le, max, List, [], ◌∷◌, remove, Option, Some, None, filter, if◌then◌else◌}
use Rattle.uvm_sequencer.specs.declared.requests.Request.{Request}
use Rattle.uvm_sequencer.specs.declared.modes.Mode.{Mode}
use Rattle.uvm_sequences.specs.Sequences.{Start}
use Rattle.uvm_sequencer.specs.Queues.{is_candidate, priority_of}
use Rattle.uvm_sequencer.specs.Choices.{is_strict}

-- whether a request is a candidate of at least some priority
abbrev pub is_contending : List Start → List ℕ → ℕ → Request → Bool
is_contending started holders bar request = is_candidate started holders request && nat_le bar (priority_of request)

-- the candidates of a queue with at least that priority, in the order of the queue
abbrev pub contending : List Start → List ℕ → ℕ → List Request → List Request
contending started holders bar queue = filter (is_contending started holders bar) queue

-- the greatest priority of a list, 0 if it is empty
abbrev pub highest : List Request → ℕ
highest [] = 0
highest (request ∷ requests) = max (priority_of request) (highest requests)

-- the priority that a candidate needs to be a contender
abbrev pub bar_of : Mode → List Request → ℕ
bar_of mode candidates = if is_strict mode then highest candidates else 0

-- a list without the element at a place; the whole list if no place is given
abbrev pub without_place : List ℕ → Option ℕ → List ℕ
without_place xs None = xs
without_place xs (Some place) = remove xs place
