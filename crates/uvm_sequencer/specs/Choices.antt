-- Which candidate is granted (IEEE 1800.2-2020, Clause 15, arbitration).
use Rattle.std.specs.Prelude.{ℕ, Bool, true, false, ◌&&◌, ◌+◌, ◌%◌, nat_lt, nat_le, List, [], ◌∷◌, length, filter, sum_by, Option, Some, None, slice_get, if◌then◌else◌}
use Rattle.std.specs.List.{list_all}
use Rattle.uvm_sequencer.specs.declared.modes.Mode.{Mode}
use Rattle.uvm_sequencer.specs.declared.modes.Mode.TheVariants.{Fifo, Weighted, StrictFifo, StrictRandom}
use Rattle.uvm_sequencer.specs.declared.requests.Request.{Request}
use Rattle.uvm_sequencer.specs.declared.drivers.How.{How}
use Rattle.uvm_sequencer.specs.Queues.{priority_of}

-- whether a mode grants only candidates of the greatest priority
abbrev pub is_strict : Mode → Bool
is_strict StrictFifo = true
is_strict StrictRandom = true
is_strict mode = false

-- whether a mode uses random numbers
abbrev pub is_random : Mode → Bool
is_random Fifo = false
is_random StrictFifo = false
is_random mode = true

-- whether no request of a list has a greater priority than a request
abbrev pub is_greatest : List Request → Request → Bool
is_greatest requests request = list_all (λ other. nat_le (priority_of other) (priority_of request)) requests

-- the contenders, one of which is granted: the candidates of the greatest priority in a strict mode, otherwise all candidates
abbrev pub contenders : Mode → List Request → List Request
contenders mode candidates = if is_strict mode then filter (is_greatest candidates) candidates else candidates

-- whether a random number is consumed: the mode is random, and there are at least two contenders
abbrev pub is_drawn : Mode → List Request → Bool
is_drawn mode candidates = is_random mode && nat_lt 1 (length (contenders mode candidates))

-- the first request at which the sum of the priorities, counted from a given number, exceeds another number
abbrev pub first_over : ℕ → ℕ → List Request → Option Request
first_over sum n [] = None
first_over sum n (request ∷ requests) =
    if nat_lt n (sum + priority_of request) then Some request else first_over (sum + priority_of request) n requests

-- the request that a random number selects by the priorities: the random number is taken modulo their sum
abbrev pub by_priority : List Request → ℕ → Option Request
by_priority requests word = first_over 0 (word % sum_by priority_of requests) requests

-- the request that a random number selects by the places, counted from 0: the random number is taken modulo the number of requests
abbrev pub by_place : List Request → ℕ → Option Request
by_place requests word = slice_get requests (word % length requests)

-- the request that a random number selects: by the priorities if the mode is WEIGHTED, otherwise by the places
abbrev pub drawn : Mode → List Request → ℕ → Option Request
drawn Weighted requests word = by_priority requests word
drawn mode requests word = by_place requests word

-- the request that is granted: the contender that the random number selects, or the first contender without a random number
abbrev pub choice : Mode → List Request → Option ℕ → Option Request
choice mode candidates None = slice_get (contenders mode candidates) 0
choice mode candidates (Some word) = drawn mode (contenders mode candidates) word

-- none if the driver does not wait or there is no candidate; otherwise whether a random number is consumed
abbrev pub readiness : Mode → Option How → List Request → Option Bool
readiness mode None candidates = None
readiness mode (Some how) [] = None
readiness mode (Some how) (request ∷ requests) = Some (is_drawn mode (request ∷ requests))
