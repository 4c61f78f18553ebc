-- While a driver waits, is granted a sequence or has an item in hand, the phase in which it asked runs.
use Rattle.bench_history.proofs.Common.{◌≡◌, ℕ, Bool, true, false, not, ◌==◌, List, [], ◌∷◌, Option, Some, None, is_some, option_and_then, refl, sym, ap, subst, ◌∙◌, if◌then◌else◌, ◌⊎◌, inl, inr, option_map_or, first_given, fault_if, OrderKeepsAll, Phase, How, Driver, grant_of, granted_by, is_idle, left_by, kept_on, Who, Call, Act, Ask, ItemDone, Send, Fatal, NoPort, NotOpen, OutsideTask, Outcome, Done, Waits, Finished, Refused, Entry, Begin, Did, End, Granted, Over, ScriptValue, EventTarget, Ended, act_phase, in_progress, in_task, stage_of, sequences_of, is_live, asked_in, driver_requester, driver_state, leads_there, sent_by, sequence_on, sequencer_below, ends_ask, ask_refusal, driving_refusal, is_open_to, Effect, asked_effect, driven_at, has_candidate, unless_refused, effect_of, by_act, by_effect, next_of, Allows, IsNext, EachIsNext, list_any, same_phase, DriverPort, LockExcludes}
use Rattle.uvm_sequencer.specs.declared.drivers.Driver.TheVariants as driver
use Rattle.bench_history.proofs.Called.{acts_are_in_phase}
use Rattle.bench_history.proofs.ActEntries.{is-act}
use Rattle.bench_history.proofs.Inversion.{comes}
use Rattle.bench_history.proofs.Ended.{none-after}
use Rattle.bench_history.proofs.Living.{begin-going, end-going}

-- an act that was performed came to its effect
pub effect-next : (script : ScriptValue) (before : List Entry) (performer : Who) (outcome : Outcome) (act : Act) → IsNext script before (Did performer outcome act) → Allows (by_effect performer act (effect_of script before performer act)) (Did performer outcome act)
effect-next script before performer outcome act next =
    let act_entry = comes script before (Did performer outcome act) next in
    subst (λ (one : Who). Allows (by_act script before one act) (Did performer outcome act)) (sym act_entry.performer_is) act_entry.comes

-- and was not refused, if it was accepted
abbrev pub is_accepted : Outcome → Bool
is_accepted (Refused fatal) = false
is_accepted outcome = true

pub not-refused : (performer : Who) (outcome : Outcome) (act : Act) (first second : Option Fatal) (effect : Effect) → is_accepted outcome ≡ true → Allows (by_effect performer act (unless_refused first (unless_refused second effect))) (Did performer outcome act) → second ≡ None
not-refused performer outcome act (Some fatal) second effect accepted allows = let same : outcome ≡ Refused fatal = cc in let none : is_accepted (Refused fatal) ≡ true = ap is_accepted (sym same) ∙ accepted in cc
not-refused performer outcome act None (Some fatal) effect accepted allows = let same : outcome ≡ Refused fatal = cc in let none : is_accepted (Refused fatal) ≡ true = ap is_accepted (sym same) ∙ accepted in cc
not-refused performer outcome act None None effect accepted allows = refl

-- an ask that is accepted is asked in a phase that takes time
first-none : (first second third : Option Fatal) → first_given (first ∷ second ∷ third ∷ []) ≡ None → first ≡ None
first-none (Some fatal) second third e = cc
first-none None second third e = refl

task-of : (phase : Option Phase) (there : Bool) (refusal : Option Fatal) → driving_refusal phase there refusal ≡ None → (one : Phase) × (phase ≡ Some one)
unfolding driving_refusal
task-of None there refusal e = let none = first-none (fault_if (not (in_task None)) OutsideTask) (fault_if (not there) NoPort) refusal e in cc
task-of (Some phase) there refusal e = (phase, refl)

asks-task : (script : ScriptValue) (before : List Entry) (performer : Who) (outcome : Outcome) (port : List ℕ) (way : How) → IsNext script before (Did performer outcome (Ask port way)) → is_accepted outcome ≡ true → (phase : Phase) × (act_phase before ≡ Some phase)
asks-task script before performer outcome port way next accepted =
    task-of (act_phase before) (is_some (sequencer_below before performer port)) (option_and_then ask_refusal (driven_at before performer port))
    (not-refused performer outcome (Ask port way) (fault_if (not (is_open_to (Ask port way) performer)) NotOpen) _ (asked_effect way (has_candidate (sequences_of before) (driven_at before performer port))) accepted (effect-next script before performer outcome (Ask port way) next))

-- a driver that is not idle asked in a phase in progress
abbrev pub IsAsking : List Entry → ℕ → Type 0
IsAsking history node = (phase : Phase) × (asked_in history node ≡ Some phase) × (list_any (same_phase phase) (in_progress (stage_of history)) ≡ true)

abbrev pub AsksWhile : List Entry → ℕ → Type 0
AsksWhile history node = (stage_of history ≡ Ended → ⊥) → is_idle (driver_state history node) ≡ false → IsAsking history node

busy-sent : (found : Option ℕ) (state : Driver) → is_idle (option_map_or (sent_by state) found state) ≡ false → is_idle state ≡ false
busy-sent None state e = e
busy-sent (Some id) driver.Idle e = e
busy-sent (Some id) (driver.Waiting way) e = refl
busy-sent (Some id) (driver.Granted other way) e = refl
busy-sent (Some id) (driver.InHand other) e = refl

busy-left : (found : Option ℕ) (state : Driver) → is_idle (option_map_or (λ id. left_by (grant_of id state) state) found state) ≡ false → is_idle state ≡ false
busy-left None state e = e
busy-left (Some id) driver.Idle e = e
busy-left (Some id) (driver.Waiting way) e = refl
busy-left (Some id) (driver.Granted other way) e = refl
busy-left (Some id) (driver.InHand other) e = refl

busy-granted : (here : Bool) (id : ℕ) (state : Driver) → is_idle (if here then granted_by id state else state) ≡ false → is_idle state ≡ false
busy-granted false id state e = e
busy-granted true id driver.Idle e = e
busy-granted true id (driver.Waiting way) e = refl
busy-granted true id (driver.Granted other way) e = refl
busy-granted true id (driver.InHand other) e = refl

busy-kept : (live : ℕ → Bool) (state : Driver) → is_idle (kept_on false live state) ≡ false → is_idle state ≡ false
busy-kept live driver.Idle e = e
busy-kept live (driver.Waiting way) e = refl
busy-kept live (driver.Granted other way) e = refl
busy-kept live (driver.InHand other) e = refl

-- what does not end with a phase was asked in another
asked-apart : (phase : Phase) (requester : Option DriverPort) (asked : Phase) → option_and_then (λ requester. requester.phase) requester ≡ Some asked → ends_ask phase requester ≡ false → same_phase asked phase ≡ false
asked-apart phase None asked is e = cc
asked-apart phase (Some requester) asked is e = rw is at e

module _ (keeps : OrderKeepsAll EventTarget (Option Call)) (excludes : LockExcludes) where
  asking-ask : (script : ScriptValue) (before : List Entry) (node : ℕ) (performer : Who) (outcome : Outcome) (port : List ℕ) (way : How) (leads : Bool) → EachIsNext script before → IsNext script before (Did performer outcome (Ask port way)) → is_accepted outcome ≡ true
      → (is_idle (driver_state before node) ≡ false → IsAsking before node) → is_idle (if leads then driver.Waiting way else driver_state before node) ≡ false
      → (phase : Phase) × (option_and_then (λ requester. requester.phase) (if leads then Some (record { who = performer; name = port; phase = act_phase before }) else driver_requester before node) ≡ Some phase) × (list_any (same_phase phase) (in_progress (stage_of before)) ≡ true)
  asking-ask script before node performer outcome port way true each next accepted was busy =
      let task = asks-task script before performer outcome port way next accepted in
      let act_entry = comes script before (Did performer outcome (Ask port way)) next in
      let in_phase = acts_are_in_phase keeps excludes script before (Ask port way) each (is-act performer outcome (Ask port way) (next_of script before) next) act_entry.left in
      (task.0, task.1, in_phase.going task.0 task.1)
  asking-ask script before node performer outcome port way false each next accepted was busy = was busy

  asking-done : (before : List Entry) (node : ℕ) (leads : Bool) → (is_idle (driver_state before node) ≡ false → IsAsking before node) → is_idle (if leads then driver.Idle else driver_state before node) ≡ false → IsAsking before node
  asking-done before node true was busy = cc
  asking-done before node false was busy = was busy

  asking-did : (script : ScriptValue) (before : List Entry) (node : ℕ) (performer : Who) (outcome : Outcome) (act : Act) → EachIsNext script before → IsNext script before (Did performer outcome act) → (is_idle (driver_state before node) ≡ false → IsAsking before node)
      → is_idle (driver_state (Did performer outcome act ∷ before) node) ≡ false → IsAsking (Did performer outcome act ∷ before) node
  asking-did script before node performer Done (Ask port way) each next was busy = asking-ask script before node performer Done port way (leads_there node (sequencer_below before performer port)) each next refl was busy
  asking-did script before node performer (Waits true) (Ask port way) each next was busy = asking-ask script before node performer (Waits true) port way (leads_there node (sequencer_below before performer port)) each next refl was busy
  asking-did script before node performer (Waits false) (Ask port way) each next was busy = was busy
  asking-did script before node performer Done (ItemDone port response) each next was busy = asking-done before node (leads_there node (sequencer_below before performer port)) was busy
  asking-did script before node performer Done (Send item) each next was busy = was (busy-sent (sequence_on node performer) (driver_state before node) busy)
  asking-did script before node performer Finished act each next was busy = was (busy-left (sequence_on node performer) (driver_state before node) busy)
  asking-did script before node performer (Waits true) act each next was busy = was busy
  asking-did script before node performer (Waits false) act each next was busy = was busy
  asking-did script before node performer outcome act each next was busy = was busy

  -- with the end of a phase it is idle, where it asked in that phase, and else it waits on, or is sent what it was granted
  asking-end : (script : ScriptValue) (before : List Entry) (phase : Phase) (node : ℕ) → IsNext script before (End phase) → (is_idle (driver_state before node) ≡ false → IsAsking before node) → (ends : Bool) → ends_ask phase (driver_requester before node) ≡ ends
      → is_idle (kept_on ends (is_live (End phase ∷ before)) (driver_state before node)) ≡ false → IsAsking (End phase ∷ before) node
  asking-end script before phase node next was true is busy = cc
  asking-end script before phase node next was false is busy =
      let asks = was (busy-kept (is_live (End phase ∷ before)) (driver_state before node) busy) in
      (asks.0, asks.1, by asks.0 (end-going script before phase asks.0 next asks.2) (asked-apart phase (driver_requester before node) asks.0 asks.1 is))
    where
      by : (asked : Phase) → (list_any (same_phase asked) (in_progress (stage_of (End phase ∷ before))) ≡ true) ⊎ (same_phase asked phase ≡ true) → same_phase asked phase ≡ false → list_any (same_phase asked) (in_progress (stage_of (End phase ∷ before))) ≡ true
      by asked (inl going) apart = going
      by asked (inr same) apart = cc

  asking-more : (script : ScriptValue) (before : List Entry) (entry : Entry) (node : ℕ) → EachIsNext script before → IsNext script before entry → (is_idle (driver_state before node) ≡ false → IsAsking before node) → AsksWhile (entry ∷ before) node
  asking-more script before (Did performer outcome act) node each next was on busy = asking-did script before node performer outcome act each next was busy
  asking-more script before (Granted other grant) node each next was on busy = was (busy-granted (other == node) grant.id (driver_state before node) busy)
  asking-more script before (Begin phase) node each next was on busy = let asks = was busy in (asks.0, asks.1, begin-going script before phase asks.0 next asks.2)
  asking-more script before (End phase) node each next was on busy = asking-end script before phase node next was (ends_ask phase (driver_requester before node)) refl busy
  asking-more script before (Over reason) node each next was on busy = absurd (on refl)
  asking-more script before entry node each next was on busy = was busy

  pub asking-of : (script : ScriptValue) (history : List Entry) (node : ℕ) → EachIsNext script history → AsksWhile history node
  asking-of script [] node each on busy = cc
  asking-of script (entry ∷ before) node each on busy = asking-more script before entry node each.1 each.0 (asking-of script before node each.1 (none-after script before entry each.0)) on busy
