-- A sequencer, the results of its calls, and how they change it.
use Rattle.std.specs.Prelude.{ℕ, Bool, false, ◌==◌, ◌||◌, not, List, [], ◌∷◌, ◌++◌, Option, Some, None, is_some, filter, Result, Ok, Err, option_map, if◌then◌else◌}
use Rattle.std.specs.List.{list_any}
use Rattle.std.specs.Option.{option_map_or}
use Rattle.uvm_glob.specs.Faults.{fault_if}
use Rattle.uvm_sequencer.specs.declared.modes.Mode.{Mode}
use Rattle.uvm_sequencer.specs.declared.requests.Request.{Request}
use Rattle.uvm_sequencer.specs.declared.drivers.How.{How}
use Rattle.uvm_sequencer.specs.declared.drivers.How.TheVariants.{Next, Try, Get}
use Rattle.uvm_sequencer.specs.declared.drivers.Asked.{Asked}
use Rattle.uvm_sequencer.specs.declared.drivers.Asked.TheVariants.{Nothing, Waits}
use Rattle.uvm_sequencer.specs.declared.drivers.Driver.{Driver}
use Rattle.uvm_sequencer.specs.declared.drivers.Driver.TheVariants.{Idle}
use Rattle.uvm_sequencer.specs.declared.faults.SeqFault.{SeqFault}
use Rattle.uvm_sequencer.specs.declared.faults.SeqFault.TheVariants.{NoDriver, Twice, NothingOut, NotHeld}
use Rattle.uvm_sequencer.specs.Choices.{choice, readiness}
use Rattle.uvm_sequencer.specs.Drivers.{is_idle, asked_by, grant_of, granted_by, hand_of, kept_on, left_by, sent, wait_of}
use Rattle.uvm_sequencer.specs.Faults.{or_fault}
use Rattle.uvm_sequencer.specs.Queues.{item_request, lock_request, is_item_of, is_lock_of, without, without_item, without_lock, candidates, leading_lock, is_held, released, all_released}
use Rattle.uvm_sequences.specs.declared.starts.SeqStep.{SeqStep}
use Rattle.uvm_sequences.specs.Sequences.{Start}
pub use Rattle.uvm_sequencer_holders.specs.Holding.{is_live_at}

-- a sequencer: its mode, the port that drives it, the state of its driver, the requests in the order of the queue, and the holders in the order of
-- granting. A sequence is among the holders once for each lock that it holds
pub record SequencerValue : Type 0 where
  pub mode : Mode
  pub port : Option ℕ
  pub driver : Driver
  pub queue : List Request
  pub holders : List ℕ

-- a sequencer of a mode that has no driver, no requests and no holders
abbrev pub new_sequencer : Mode → SequencerValue
new_sequencer mode = record { mode = mode; port = None; driver = Idle; queue = []; holders = [] }

-- a sequencer with this driver port
abbrev pub with_port : ℕ → SequencerValue → SequencerValue
with_port port s = record s { port = Some port }

-- a sequencer with an item request of a sequence at the end of the queue
abbrev pub with_item : ℕ → ℕ → SequencerValue → SequencerValue
with_item seq priority s = record s { queue = s.queue ++ item_request seq priority ∷ [] }

-- a sequencer with a lock request of a sequence at the end of the queue
abbrev pub with_lock : ℕ → SequencerValue → SequencerValue
with_lock seq s = record s { queue = s.queue ++ lock_request seq ∷ [] }

-- a sequencer with a lock request of a sequence at the front of the queue
abbrev pub with_grab : ℕ → SequencerValue → SequencerValue
with_grab seq s = record s { queue = lock_request seq ∷ s.queue }

-- a sequencer after the lock of a sequence was granted
abbrev pub locked : ℕ → SequencerValue → SequencerValue
locked seq s = record s { queue = without_lock seq s.queue; holders = s.holders ++ seq ∷ [] }

-- a sequencer after a sequence released its latest lock
abbrev pub unlocked : ℕ → SequencerValue → SequencerValue
unlocked seq s = record s { holders = released seq s.holders }

-- a sequencer after the driver requested an item
abbrev pub after_ask : How → Asked → SequencerValue → SequencerValue
after_ask how asked s = record s { driver = asked_by how asked s.driver }

-- a sequencer after the item request of a sequence was granted
abbrev pub granted : ℕ → SequencerValue → SequencerValue
granted seq s = record s { driver = granted_by seq s.driver; queue = without_item seq s.queue }

-- a sequencer after the granted sequence sent its item
abbrev pub after_send : ℕ → How → SequencerValue → SequencerValue
after_send seq how s = record s { driver = sent seq how }

-- a sequencer with an idle driver
abbrev pub with_idle : SequencerValue → SequencerValue
with_idle s = record s { driver = Idle }

-- a sequencer after a sequence left: its requests and locks are removed, and its grant is withdrawn if its item is not sent
abbrev pub after_leave : ℕ → SequencerValue → SequencerValue
after_leave seq s = record s { driver = left_by (grant_of seq s.driver) s.driver; queue = without seq s.queue; holders = all_released seq s.holders }

-- a sequencer after a phase ended, and with it the request of the driver or not: the requests and locks of sequences that have ended are removed
abbrev pub after_phase : List (Option SeqStep) → Bool → SequencerValue → SequencerValue
after_phase steps ends s = record s { driver = kept_on ends (is_live_at steps) s.driver; queue = filter (λ request. is_live_at steps request.seq) s.queue; holders = filter (is_live_at steps) s.holders }

-- whether a port drives the sequencer
abbrev pub is_driver : Option ℕ → ℕ → Bool
is_driver driver port = option_map_or (λ p. p == port) driver false

-- why a sequence may not request to send an item: an item request of it waits, or it was granted and has not sent
abbrev pub request_fault : SequencerValue → ℕ → Option SeqFault
request_fault s seq = fault_if (list_any (is_item_of seq) s.queue || is_some (grant_of seq s.driver)) Twice

-- why a sequence may not request a lock: a lock request of it waits
abbrev pub lock_fault : SequencerValue → ℕ → Option SeqFault
lock_fault s seq = fault_if (list_any (is_lock_of seq) s.queue) Twice

-- why a port may not request an item: it does not drive the sequencer, or the driver is not idle
abbrev pub ask_fault : SequencerValue → ℕ → Option SeqFault
ask_fault s port = if is_driver s.port port then fault_if (not (is_idle s.driver)) Twice else Some NoDriver

-- the result of a request of the driver, by the candidates: nothing for a `try` without a candidate, otherwise the driver waits
abbrev pub answer : How → List Request → Asked
answer Try [] = Nothing
answer Try (request ∷ requests) = Waits
answer Next requests = Waits
answer Get requests = Waits

-- the result of `done`: the sequence whose item the driver held, or an error
abbrev pub done_by : SequencerValue → ℕ → Result ℕ SeqFault
done_by s port = if is_driver s.port port then or_fault (hand_of s.driver) NothingOut else Err NoDriver

-- the result of `unlock`: an error if the sequence holds no lock
abbrev pub unlocked_by : SequencerValue → ℕ → Result (Unit {0}) SeqFault
unlocked_by s seq = if is_held seq s.holders then Ok tt else Err NotHeld

-- the candidates of a sequencer, in the order of its queue
abbrev pub candidates_at : List Start → SequencerValue → List Request
candidates_at started s = candidates started s.holders s.queue

-- the sequence whose lock the sequencer grants next, if any
abbrev pub lock_at : List Start → SequencerValue → Option ℕ
lock_at started s = leading_lock started s.holders s.queue

-- none if the sequencer can grant no item request now, otherwise whether a random number decides which
abbrev pub ready_at : List Start → SequencerValue → Option Bool
ready_at started s = readiness s.mode (wait_of s.driver) (candidates_at started s)

-- the sequence whose item request is granted, by a random number if one is given
abbrev pub choice_at : List Start → SequencerValue → Option ℕ → Option ℕ
choice_at started s word = option_map (λ request. request.seq) (choice s.mode (candidates_at started s) word)
