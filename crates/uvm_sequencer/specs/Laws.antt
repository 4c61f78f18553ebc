-- The laws that follow from the definitions.
use Rattle.std.specs.Prelude.{◌≡◌, ◌+◌, ◌<◌, ◌≤◌, ◌&&◌, ℕ, Bool, true, IsTrue, nat_le, List, [], ◌∷◌, ◌++◌, length, filter, sum_by, All, Contains, Option, Some, None, IsSome}
use Rattle.std.specs.List.{list_all}
use Rattle.uvm_sequencer.specs.declared.modes.Mode.{Mode}
use Rattle.uvm_sequencer.specs.declared.modes.Mode.TheVariants.{Fifo, StrictFifo}
use Rattle.uvm_sequencer.specs.declared.requests.Request.{Request}
use Rattle.uvm_sequences.specs.declared.starts.SeqStep.{SeqStep}
use Rattle.uvm_sequencer.specs.Choices.{choice, first_over, is_strict}
use Rattle.uvm_sequencer.specs.Drivers.{grant_of, hand_of, wait_of}
use Rattle.uvm_sequencer.specs.Passed.{IsPassed, are_blocked}
use Rattle.uvm_sequencer.specs.Queues.{AreSingle, is_candidate, is_item, lock_request, priority_of}
use Rattle.uvm_sequences.specs.Sequences.{Start, is_under}
use Rattle.uvm_sequencer.specs.Sequencers.{SequencerValue, after_leave, after_phase, ask_fault, candidates_at, choice_at, granted, lock_at, lock_fault, locked, new_sequencer, request_fault, unlocked, with_grab, with_item, with_lock}

-- a request waits, and each holder is its sequence or one of the ancestors of its sequence
pub record IsFree (started : List Start) (s : SequencerValue) (request : Request) : Type 0 where
  pub waits : Contains s.queue request
  pub under : IsTrue (list_all (λ holder. is_under started request.seq holder) s.holders)

-- the law that a sequence that is granted a lock or an item waited for it, and that each holder is that sequence or one of its ancestors
pub record LockExcludes : Type 0 where
  pub locks : (started : List Start) (s : SequencerValue) (seq : ℕ) → lock_at started s ≡ Some seq → IsFree started s (lock_request seq)
  pub items : (started : List Start) (s : SequencerValue) (word : Option ℕ) (request : Request) → choice s.mode (candidates_at started s) word ≡ Some request → IsTrue (is_item request) × IsFree started s request

-- whether each holder is under those that were granted before: of any two, one is the other or one of its ancestors
abbrev pub are_nested : List Start → List ℕ → Bool
are_nested started [] = true
are_nested started (first ∷ later) = list_all (λ holder. is_under started holder first) later && are_nested started later

-- the law that the holders are nested at first, and stay so when a lock is granted or released, a sequence leaves, a phase ends, or another sequence
-- is started
pub record HoldersStayNested : Type 0 where
  pub begins : (started : List Start) (mode : Mode) → IsTrue (are_nested started (new_sequencer mode).holders)
  pub locks : (started : List Start) (s : SequencerValue) (seq : ℕ) → IsTrue (are_nested started s.holders) → lock_at started s ≡ Some seq → IsTrue (are_nested started (locked seq s).holders)
  pub unlocks : (started : List Start) (s : SequencerValue) (seq : ℕ) → IsTrue (are_nested started s.holders) → IsTrue (are_nested started (unlocked seq s).holders)
  pub leaves : (started : List Start) (s : SequencerValue) (seq : ℕ) → IsTrue (are_nested started s.holders) → IsTrue (are_nested started (after_leave seq s).holders)
  pub phase_ends : (started : List Start) (s : SequencerValue) (steps : List (Option SeqStep)) (ends : Bool) → IsTrue (are_nested started s.holders) → IsTrue (are_nested started (after_phase steps ends s).holders)
  pub starts : (start : Start) (started : List Start) (holders : List ℕ) → IsTrue (are_nested started holders) → IsTrue (are_nested (start ∷ started) holders)

-- a request of a list passes a test, and none before it does
pub record IsFirst (test : Request → Bool) (requests : List Request) (request : Request) : Type 0 where
  pub before : List Request
  pub after : List Request
  pub splits : requests ≡ before ++ request ∷ after
  pub passes : IsTrue (test request)
  pub none_before : filter test before ≡ []

-- the law that in FIFO mode the first candidate of the queue is granted
abbrev pub FifoOrder : Type 0
FifoOrder = (started : List Start) (s : SequencerValue) (request : Request) → s.mode ≡ Fifo → choice s.mode (candidates_at started s) None ≡ Some request → IsFirst (is_candidate started s.holders) s.queue request

-- whether a request is a candidate with at least some priority
abbrev pub is_as_urgent : List Start → List ℕ → ℕ → Request → Bool
is_as_urgent started holders priority request = is_candidate started holders request && nat_le priority (priority_of request)

-- the law that in the strict modes no candidate has a greater priority than the granted request, and that in strict FIFO mode this is the first of
-- its priority
pub record StrictPriority : Type 0 where
  pub greatest : (started : List Start) (s : SequencerValue) (word : Option ℕ) (request : Request) → IsTrue (is_strict s.mode) → choice s.mode (candidates_at started s) word ≡ Some request → All (λ other. priority_of other ≤ priority_of request) (candidates_at started s)
  pub first : (started : List Start) (s : SequencerValue) (request : Request) → s.mode ≡ StrictFifo → choice s.mode (candidates_at started s) None ≡ Some request → IsFirst (is_as_urgent started s.holders (priority_of request)) s.queue request

-- the law that as many numbers select a request as its priority says: those from the sum of the priorities before it on
abbrev pub WeightsShareTheDraws : Type 0
WeightsShareTheDraws = (before after : List Request) (request : Request) (n : ℕ) → sum_by priority_of before ≤ n → n < sum_by priority_of before + priority_of request → first_over 0 n (before ++ request ∷ after) ≡ Some request

-- the driver cannot request an item, no sequence is granted or can send, and the driver does not change when any sequence leaves
pub record IsOut (s : SequencerValue) : Type 0 where
  pub asks : (port : ℕ) → IsSome (ask_fault s port)
  pub waits : wait_of s.driver ≡ None
  pub sends : (seq : ℕ) → grant_of seq s.driver ≡ None
  pub stays : (seq : ℕ) → (after_leave seq s).driver ≡ s.driver

-- the law that `IsOut` is true while the driver has an item that is not done
abbrev pub OneItemOut : Type 0
OneItemOut = (s : SequencerValue) → IsSome (hand_of s.driver) → IsOut s

-- whether each sequence that waits was started
abbrev pub are_known : List Start → List Request → Bool
are_known started queue = list_all (λ request. nat_le request.seq (length started)) queue

-- the law that the start of a sequence changes neither the leading lock, nor the candidates, nor the blocked requests, if each sequence that waits
-- was started
pub record StartsChangeNothing : Type 0 where
  pub locks : (start : Start) (started : List Start) (s : SequencerValue) → IsTrue (are_known started s.queue) → lock_at (start ∷ started) s ≡ lock_at started s
  pub items : (start : Start) (started : List Start) (s : SequencerValue) → IsTrue (are_known started s.queue) → candidates_at (start ∷ started) s ≡ candidates_at started s
  pub blocked : (start : Start) (started : List Start) (s : SequencerValue) → IsTrue (are_known started s.queue) → (known : ℕ) → are_blocked (start ∷ started) s known ≡ are_blocked started s known

-- the law that blocked requests at the front of the queue stay there when a request is added at the end, and when an item request is granted
pub record PassedStays : Type 0 where
  pub item : (started : List Start) (s : SequencerValue) (known : ℕ) → IsPassed started s known → (seq priority : ℕ) → IsPassed started (with_item seq priority s) known
  pub lock : (started : List Start) (s : SequencerValue) (known : ℕ) → IsPassed started s known → (seq : ℕ) → IsPassed started (with_lock seq s) known
  pub granted : (started : List Start) (s : SequencerValue) (known : ℕ) → IsPassed started s known → (word : Option ℕ) (seq : ℕ) → choice_at started s word ≡ Some seq → IsPassed started (granted seq s) known

-- the law that a sequence waits for at most one item and one lock at first, and after each request, grant, leave and end of a phase
pub record WaitsStaySingle : Type 0 where
  pub begins : (mode : Mode) → AreSingle (new_sequencer mode).queue
  pub requests : (s : SequencerValue) (seq priority : ℕ) → AreSingle s.queue → request_fault s seq ≡ None → AreSingle (with_item seq priority s).queue
  pub locks : (s : SequencerValue) (seq : ℕ) → AreSingle s.queue → lock_fault s seq ≡ None → AreSingle (with_lock seq s).queue
  pub grabs : (s : SequencerValue) (seq : ℕ) → AreSingle s.queue → lock_fault s seq ≡ None → AreSingle (with_grab seq s).queue
  pub lock_grants : (s : SequencerValue) (seq : ℕ) → AreSingle s.queue → AreSingle (locked seq s).queue
  pub item_grants : (s : SequencerValue) (seq : ℕ) → AreSingle s.queue → AreSingle (granted seq s).queue
  pub leaves : (s : SequencerValue) (seq : ℕ) → AreSingle s.queue → AreSingle (after_leave seq s).queue
  pub phase_ends : (s : SequencerValue) (steps : List (Option SeqStep)) (ends : Bool) → AreSingle s.queue → AreSingle (after_phase steps ends s).queue

-- the law that each grant ends exactly one wait, if each sequence waits for at most one item and one lock
pub record EachGrantEndsAWait : Type 0 where
  pub locks : (started : List Start) (s : SequencerValue) (seq : ℕ) → AreSingle s.queue → lock_at started s ≡ Some seq → length (locked seq s).queue + 1 ≡ length s.queue
  pub items : (started : List Start) (s : SequencerValue) (word : Option ℕ) (seq : ℕ) → AreSingle s.queue → choice_at started s word ≡ Some seq → length (granted seq s).queue + 1 ≡ length s.queue
