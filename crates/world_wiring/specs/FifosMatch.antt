-- The FIFOs that a run stores are as the log says.
use Rattle.std.specs.Prelude.{◌≡◌, ◌<◌, ◌≤◌, ℕ, Bool, true, false, nat_eq, ◌==◌, List, [], length, filter, All, AllPairs, Contains, Option, None}
use Rattle.std.specs.HashMap.{get}
use Rattle.uvm_tlm.specs.declared.items.Item.{Item}
use Rattle.uvm_tlm.specs.Fifos.{FifoValue}
use Rattle.uvm_object.specs.declared.entries.Passage.{Passage}
use Rattle.bench_history.specs.declared.requesters.Requester.{Requester}
use Rattle.bench_history.specs.Passing.{Request}
use Rattle.world_wiring.specs.FifoStates.{FifoMap}

-- the FIFO of each node is as the log says
pub record AreFifoStates (at : ℕ → Option (FifoValue Requester)) (kept : FifoMap) : Type 0 where
  pub each : (n : ℕ) → get nat_eq kept n ≡ at n

-- the places of the requests in the log differ; these and the places of the completed requests are below this count
pub record AreAsked {Payload : Type 0} (count : ℕ) (asked : List (Request Payload)) (answered : List ℕ) : Type 0 where
  pub apart : AllPairs (λ request other. (request.requester.place == other.requester.place) ≡ false) asked
  pub within : All (λ request. request.requester.place < count) asked
  pub answered_within : All (λ place. place < count) answered

-- at a node, no more items left than entered; if it is not a FIFO, no item entered and nothing was requested
pub record IsPassed (count : ℕ) (size : Option ℕ) (entered : List Item) (left : ℕ) (puts : List (Request Item)) (puts_answered : List ℕ) (takes : List (Request Bool)) (takes_answered : List ℕ) : Type 0 where
  pub few : left ≤ length entered
  pub are_puts : AreAsked count puts puts_answered
  pub are_takes : AreAsked count takes takes_answered
  pub no_item : size ≡ None → entered ≡ []
  pub no_put : size ≡ None → puts ≡ []
  pub no_take : size ≡ None → takes ≡ []

-- `IsPassed` holds at each node
pub record ArePassed (count : ℕ) (size : ℕ → Option ℕ) (entered : ℕ → List Item) (left : ℕ → ℕ) (puts : ℕ → List (Request Item)) (puts_answered : ℕ → List ℕ) (takes : ℕ → List (Request Bool)) (takes_answered : ℕ → List ℕ) : Type 0 where
  pub each : (n : ℕ) → IsPassed count (size n) (entered n) (left n) (puts n) (puts_answered n) (takes n) (takes_answered n)

-- the FIFOs that may have a transfer to complete are stored in path order; no other node has one
pub record AreToSettle (passing : ℕ → Option (ℕ × Passage)) (order kept : List ℕ) : Type 0 where
  pub among : ℕ → Bool
  pub kept_are : kept ≡ filter among order
  pub others : (n : ℕ) → among n ≡ false → passing n ≡ None
  pub held : (n : ℕ) → among n ≡ true → Contains order n
