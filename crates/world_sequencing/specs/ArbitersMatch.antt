-- The stored sequencers and the grant index match the log.
use Rattle.std.specs.Prelude.{◌≡◌, ◌<◌, ℕ, Bool, true, false, nat_eq, List, [], length, map, filter, All, Contains, Option, Some, None, IsSome, option_map}
use Rattle.std.specs.HashMap.{get}
use Rattle.uvm_phase.specs.declared.phases.Phase.{Phase}
use Rattle.uvm_tree.specs.Nodes.{Node}
use Rattle.uvm_tree.specs.Sorted.{path_order}
use Rattle.uvm_sequencer.specs.declared.modes.Mode.{Mode}
use Rattle.uvm_sequencer.specs.declared.drivers.Driver.{Driver}
use Rattle.uvm_sequencer.specs.declared.drivers.Driver.TheVariants.{Idle}
use Rattle.uvm_sequencer.specs.declared.requests.Request.{Request}
use Rattle.uvm_sequences.specs.Sequences.{Start, numbered}
use Rattle.uvm_acts.specs.declared.acts.Who.{Who}
use Rattle.uvm_object.specs.declared.entries.Entry.{Entry}
use Rattle.bench_history.specs.declared.requesters.DriverPort.{DriverPort}
use Rattle.bench_history.specs.Arbitration.{SequencerRequest, all_requests, driver_requester, driver_state, grants_at, locks_at, locks_held, mode_at, waits_by}
use Rattle.bench_history.specs.Sequences.{StartRecord, starts_in}
use Rattle.world_sequencing.specs.Arbiters.{ArbiterValue, ArbiterMap, lock_in, ready_in}
use Rattle.world_sequencing.specs.declared.grant_indexes.GrantIndex.{GrantIndex}
use Rattle.world_sequencing.specs.GrantIndexes.{IsKnown, known_at}
use Rattle.world_sequencing.specs.SequencesMatch.{live_by}

-- what a log says of a sequencer: its mode, the requests ever made there, and the grants of items and of locks. Also the locks that are still held,
-- the state of its driver, and the driver itself
pub record Ledger : Type 0 where
  pub mode : Option Mode
  pub requests : List SequencerRequest
  pub grants : List (ℕ × ℕ)
  pub locks : List (ℕ × ℕ)
  pub held : List ℕ
  pub driver : Driver
  pub requester : Option DriverPort

-- the ledger of a node: what a log says of its sequencer
abbrev pub ledger_at : List Entry → ℕ → Ledger
ledger_at history node = record {
  mode = mode_at history node;
  requests = all_requests history node;
  grants = grants_at history node;
  locks = locks_at history node;
  held = locks_held history node;
  driver = driver_state history node;
  requester = driver_requester history node;
}

-- the requests of a ledger that wait, by which sequences are active
abbrev pub queue_of : (ℕ → Bool) → Ledger → List Request
queue_of live l = map (λ w. w.request) (filter (waits_by live l.grants l.locks) l.requests)

-- the sequencer and its driver that follow from a ledger, by its mode and which sequences are active
abbrev pub arbiter_with : (ℕ → Bool) → Ledger → Mode → ArbiterValue
arbiter_with live l mode = record { sequencer = record { mode = mode; port = None; driver = l.driver; queue = queue_of live l; holders = filter live l.held }; driver = l.requester }

-- the sequencer and its driver that follow from a ledger, if it has a mode
abbrev pub arbiter_of : (ℕ → Bool) → Ledger → Option ArbiterValue
arbiter_of live l = option_map (arbiter_with live l) l.mode

-- the sequencer of each node is what the log says
pub record AreArbiters (live : ℕ → Bool) (ledger : ℕ → Ledger) (kept : ArbiterMap) : Type 0 where
  pub each : (n : ℕ) → get nat_eq kept n ≡ arbiter_of live (ledger n)

-- a sequence was started on the sequencer of this node
abbrev pub runs_on : List StartRecord → ℕ → ℕ → Type 0
runs_on begun node id = option_map (λ start_record. start_record.start.home) (numbered begun id) ≡ Some node

-- the ledger of a node fits a log of `count` entries: each place in it is less than `count`. Requests and held locks are of sequences that run on
-- this sequencer, which is a node below the root. Without a sequencer the ledger is empty
pub record IsArbitrated (count nodes : ℕ) (begun : List StartRecord) (node : ℕ) (l : Ledger) : Type 0 where
  pub requests_within : All (λ w. w.place < count) l.requests
  pub grants_within : All (λ grant. grant.1 < count) l.grants
  pub locks_within : All (λ lock. lock.1 < count) l.locks
  pub requests_here : All (λ w. runs_on begun node w.request.seq) l.requests
  pub held_here : All (runs_on begun node) l.held
  pub stands : IsSome l.mode → (0 < node) × (node < nodes)
  pub nothing : l.mode ≡ None → (l.requests ≡ []) × (l.held ≡ []) × (l.driver ≡ Idle) × (l.requester ≡ None)

-- `IsArbitrated` holds at each node
pub record AreArbitrated (count nodes : ℕ) (begun : List StartRecord) (ledger : ℕ → Ledger) : Type 0 where
  pub each : (n : ℕ) → IsArbitrated count nodes begun n (ledger n)

-- the grant index lists nodes in path order. At no other node can a lock be granted or a driver be served. At each sequencer as many requests are
-- blocked as the index says
pub record AreContested (started : List Start) (live : ℕ → Bool) (ledger : ℕ → Ledger) (order : List ℕ) (grant_index : GrantIndex) : Type 0 where
  pub among : ℕ → Bool
  pub kept_are : grant_index.nodes.items ≡ filter among order
  pub held : (n : ℕ) → among n ≡ true → Contains order n
  pub unlocked : (n : ℕ) → among n ≡ false → lock_in started (arbiter_of live (ledger n)) ≡ None
  pub unserved : (n : ℕ) → among n ≡ false → ready_in started (arbiter_of live (ledger n)) ≡ None
  pub known : (n : ℕ) → IsKnown started (known_at grant_index n) (arbiter_of live (ledger n))

-- the stored sequencers and the grant index are what the log says
pub record IsArbitrating (count : ℕ) (nodes : List Node) (begun : List StartRecord) (finished : List Who) (ended : List Phase) (ledger : ℕ → Ledger) (arbiters : ArbiterMap) (grant_index : GrantIndex) : Type 0 where
  pub arbiters_are : AreArbiters (live_by begun finished ended) ledger arbiters
  pub arbitrated : AreArbitrated count (length nodes) begun ledger
  pub contested_is : AreContested (starts_in begun) (live_by begun finished ended) ledger (path_order nodes) grant_index
