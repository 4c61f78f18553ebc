-- What drivers are sent.
use Rattle.bench_history.proofs.Common.{◌≡◌, ◌+◌, ℕ, suc, Bool, true, false, not, ◌==◌, ◌⊎◌, inl, inr, List, [], ◌∷◌, ◌++◌, Option, Some, None, IsSome, is_none, is_some, option_map, option_and_then, refl, sym, ap, subst, ◌∙◌, arith, if◌then◌else◌, option_map_or, nat_tests, first_given, fault_if, OrderKeepsAll, Phase, Mode, How, Driver, grant_of, granted_by, hand_of, is_idle, lapsed, left_by, sent, kept_on, numbered, targets_of, Seq, Item, Who, Call, Act, Ask, ItemDone, Send, Fatal, AskedTwice, NoPort, NotGranted, NotOpen, NothingOut, OutsideTask, Outcome, Done, Waits, Finished, Entry, Did, End, Granted, ScriptValue, EventTarget, act_phase, test_creation, performer_of, in_task, starts_of, sequences_of, is_live, closed_wiring, port_below, driver_state, if_arbitrated, leads_there, mode_at, sent_by, sequence_on, sequencer_at, sequencer_below, sequencer_with, asked_in, driver_requester, ends_ask, ask_refusal, done_refusal, driving_refusal, is_open_to, send_refusal, ComesTo, asked_effect, driven_at, has_candidate, next_of, IsNext, EachIsNext, IsLiving, IsThere, IsTakenOut, OneItemOut, count_if, dones_at, ended_at, gets_at, hand_count, in_hand, is_get, keeps_item, sends_at, takes_out, phase_number, same_phase, DriverPort, slice_get, LockExcludes}
use Rattle.uvm_sequencer.specs.declared.drivers.How.TheVariants as how
use Rattle.uvm_sequencer.specs.declared.drivers.Driver.TheVariants as driver
use Rattle.uvm_acts.specs.declared.acts.Who.TheVariants as who
use Rattle.bench_history.proofs.Awaiting.{asking-of, is_accepted, not-refused, effect-next}
use Rattle.bench_history.proofs.Called.{performers_are_there}
use Rattle.bench_history.proofs.Inversion.{comes}
use Rattle.bench_history.proofs.ActEntries.{is-act}
use Rattle.bench_history.proofs.Driving.{begun-mode, drivers_are_there}
use Rattle.bench_history.proofs.Ended.{none-after}
use Rattle.bench_history.proofs.Olders.{older-each}

no-fault : (is : Bool) (fatal : Fatal) → fault_if is fatal ≡ None → is ≡ false
no-fault true fatal e = cc
no-fault false fatal e = refl

third-none : (first second third : Option Fatal) → first_given (first ∷ second ∷ third ∷ []) ≡ None → third ≡ None
third-none (Some fatal) second third e = cc
third-none None (Some fatal) third e = cc
third-none None None (Some fatal) e = cc
third-none None None None e = refl

driving-none : (phase : Option Phase) (there : Bool) (refusal : Option Fatal) → driving_refusal phase there refusal ≡ None → refusal ≡ None
unfolding driving_refusal
driving-none phase there refusal e = third-none (fault_if (not (in_task phase)) OutsideTask) (fault_if (not there) NoPort) refusal e

-- a sequencer that a driver reaches has a mode
leads-is : (node : ℕ) (reached : Option ℕ) → leads_there node reached ≡ true → reached ≡ Some node
leads-is node None e = cc
leads-is node (Some other) e = let same : other ≡ node = grind (arith, nat_tests, e) in ap (λ (n : ℕ). Some n) same

reached-mode : (before : List Entry) (performer : Who) (port : List ℕ) (node : ℕ) → sequencer_below before performer port ≡ Some node → IsSome (mode_at before node)
unfolding sequencer_below
reached-mode before performer port node e = by-port (port_below before performer Seq port) e
  where
    by-mode : (at : ℕ) (mode : Option Mode) → mode_at before at ≡ mode → option_map (λ (mode : Mode). at) mode ≡ Some node → IsSome (mode_at before node)
    by-mode at None is e = cc
    by-mode at (Some mode) is e = let same : at ≡ node = cc in rw (← same, is) refl

    by-target : (target : Option ℕ) → option_and_then (if_arbitrated before) target ≡ Some node → IsSome (mode_at before node)
    by-target None e = cc
    by-target (Some at) e = by-mode at (mode_at before at) refl e

    by-port : (found : Option ℕ) → option_and_then (λ port. option_and_then (if_arbitrated before) (slice_get (targets_of (closed_wiring before) port) 0)) found ≡ Some node → IsSome (mode_at before node)
    by-port None e = cc
    by-port (Some at) e = by-target (slice_get (targets_of (closed_wiring before) at) 0) e

-- what a driver asks it asks while it is idle
idle-at : (before : List Entry) (node : ℕ) (mode : Option Mode) → IsSome mode → option_and_then ask_refusal (option_map (sequencer_with before node) mode) ≡ None → is_idle (driver_state before node) ≡ true
idle-at before node None some e = cc
idle-at before node (Some mode) some e = not-not (is_idle (driver_state before node)) (no-fault (not (is_idle (driver_state before node))) AskedTwice e)
  where
    not-not : (b : Bool) → not b ≡ false → b ≡ true
    not-not true e = refl
    not-not false e = cc

asks-idle :
    (script : ScriptValue) (before : List Entry) (node : ℕ) (performer : Who) (outcome : Outcome) (port : List ℕ) (way : How) → IsNext script before (Did performer outcome (Ask port way)) → is_accepted outcome ≡ true
    → leads_there node (sequencer_below before performer port) ≡ true → is_idle (driver_state before node) ≡ true
asks-idle script before node performer outcome port way next accepted leads =
    let reached = leads-is node (sequencer_below before performer port) leads in
    let none =
    driving-none (act_phase before) (is_some (sequencer_below before performer port)) (option_and_then ask_refusal (driven_at before performer port))
    (not-refused performer outcome (Ask port way) (fault_if (not (is_open_to (Ask port way) performer)) NotOpen) _ (asked_effect way (has_candidate (sequences_of before) (driven_at before performer port))) accepted (effect-next script before performer outcome (Ask port way) next)) in
    let here = rw reached at none in
    idle-at before node (mode_at before node) (reached-mode before performer port node reached) here

-- what it is done with it has in hand
hand-at : (before : List Entry) (node : ℕ) (mode : Option Mode) → IsSome mode → option_and_then done_refusal (option_map (sequencer_with before node) mode) ≡ None → is_none (hand_of (driver_state before node)) ≡ false
hand-at before node None some e = cc
hand-at before node (Some mode) some e = no-fault (is_none (hand_of (driver_state before node))) NothingOut e

done-hand :
    (script : ScriptValue) (before : List Entry) (node : ℕ) (performer : Who) (port : List ℕ) (response : Option Item) → IsNext script before (Did performer Done (ItemDone port response))
    → leads_there node (sequencer_below before performer port) ≡ true → is_none (hand_of (driver_state before node)) ≡ false
done-hand script before node performer port response next leads =
    let reached = leads-is node (sequencer_below before performer port) leads in
    let none =
    driving-none (act_phase before) (is_some (sequencer_below before performer port)) (option_and_then done_refusal (driven_at before performer port))
    (not-refused performer Done (ItemDone port response) (fault_if (not (is_open_to (ItemDone port response) performer)) NotOpen) _ (ComesTo Done) refl (effect-next script before performer Done (ItemDone port response) next)) in
    let here = rw reached at none in
    hand-at before node (mode_at before node) (reached-mode before performer port node reached) here

-- a sequence that sends was granted
pub on-home : (node : ℕ) (performer : Who) (id : ℕ) → sequence_on node performer ≡ Some id → performer ≡ who.Sequence node id
on-home node (who.Node other) id e = cc
on-home node (who.Sequence home other) id e = tested (home == node) refl e
  where
    tested : (b : Bool) → (home == node) ≡ b → (if b then Some other else None) ≡ Some id → who.Sequence home other ≡ who.Sequence node id
    tested true is e = let at : home ≡ node = grind (arith, nat_tests, is) in let same : other ≡ id = cc in rw (at, same) refl
    tested false is e = cc

grant-at : (before : List Entry) (node id : ℕ) (mode : Option Mode) → IsSome mode → option_and_then (send_refusal id) (option_map (sequencer_with before node) mode) ≡ None → IsSome (grant_of id (driver_state before node))
grant-at before node id None some e = cc
grant-at before node id (Some mode) some e = by (grant_of id (driver_state before node)) (no-fault (is_none (grant_of id (driver_state before node))) NotGranted e)
  where
    by : (found : Option How) → is_none found ≡ false → IsSome found
    by None e = cc
    by (Some way) e = refl

module _ (keeps : OrderKeepsAll EventTarget (Option Call)) (excludes : LockExcludes) where
  -- who performs an act, but the first of all, lives, and his sequencer is there
  pub performer-living :
      (script : ScriptValue) (before : List Entry) (node id : ℕ) (outcome : Outcome) (act : Act) → EachIsNext script before → IsNext script before (Did (who.Sequence node id) outcome act) → (act ≡ test_creation script → ⊥) → IsLiving before id node
  performer-living script before node id outcome act each next other =
      let performer = who.Sequence node id in
      let act_entry = comes script before (Did performer outcome act) next in
      by act_entry.performer_is (performers_are_there keeps excludes script before act each (is-act performer outcome act (next_of script before) next) act_entry.left)
    where
      by : who.Sequence node id ≡ performer_of before → (act ≡ test_creation script) ⊎ IsThere before (performer_of before) → IsLiving before id node
      by speaks (inl opens) = absurd (other opens)
      by speaks (inr there) = subst (IsThere before) (sym speaks) there

  pub home-mode :
      (script : ScriptValue) (before : List Entry) (node id : ℕ) (outcome : Outcome) (act : Act) → EachIsNext script before → IsNext script before (Did (who.Sequence node id) outcome act) → (act ≡ test_creation script → ⊥) → IsSome (mode_at before node)
  home-mode script before node id outcome act each next other =
      let living = performer-living script before node id outcome act each next other in
      let homes = (drivers_are_there keeps excludes script before each (is-act (who.Sequence node id) outcome act (next_of script before) next)).homes in
      begun-mode before node (numbered (starts_of before) id) id refl homes living.home_is

  sends-granted : (script : ScriptValue) (before : List Entry) (node id : ℕ) (item : Item) → EachIsNext script before → IsNext script before (Did (who.Sequence node id) Done (Send item)) → IsSome (grant_of id (driver_state before node))
  sends-granted script before node id item each next =
      let none =
      not-refused (who.Sequence node id) Done (Send item) (fault_if (not (is_open_to (Send item) (who.Sequence node id))) NotOpen) (option_and_then (send_refusal id) (sequencer_at before node)) (ComesTo Done) refl
      (effect-next script before (who.Sequence node id) Done (Send item) next) in
      grant-at before node id (mode_at before node) (home-mode script before node id Done (Send item) each next (λ opens. cc)) none

  sending : (script : ScriptValue) (before : List Entry) (node id : ℕ) (performer : Who) (item : Item) → EachIsNext script before → IsNext script before (Did performer Done (Send item)) → sequence_on node performer ≡ Some id → IsSome (grant_of id (driver_state before node))
  sending script before node id performer item each next on =
      sends-granted script before node id item each (subst (λ (one : Who). IsNext script before (Did one Done (Send item))) (on-home node performer id on) next)

-- an item in hand stays there, unless it is taken out
abbrev Stays : List Entry → ℕ → ℕ → Entry → Type 0
Stays before node id entry = (takes_out before node entry ≡ true) ⊎ (driver_state (entry ∷ before) node ≡ driver.InHand id)

idle-hand : (state : Driver) (id : ℕ) → state ≡ driver.InHand id → is_idle state ≡ true → ⊥
idle-hand state id is idle = let none : is_idle (driver.InHand id) ≡ true = ap is_idle (sym is) ∙ idle in cc

asked-stays : (leads : Bool) (state : Driver) (way : How) (id : ℕ) → state ≡ driver.InHand id → (leads ≡ true → is_idle state ≡ true) → (if leads then driver.Waiting way else state) ≡ driver.InHand id
asked-stays true state way id is idle = absurd (idle-hand state id is (idle refl))
asked-stays false state way id is idle = is

sent-stays : (found : Option ℕ) (state : Driver) (id : ℕ) → state ≡ driver.InHand id → option_map_or (sent_by state) found state ≡ driver.InHand id
sent-stays None state id is = is
sent-stays (Some other) state id is = subst (λ (one : Driver). sent_by one other ≡ driver.InHand id) (sym is) refl

left-stays : (found : Option ℕ) (state : Driver) (id : ℕ) → state ≡ driver.InHand id → option_map_or (λ other. left_by (grant_of other state) state) found state ≡ driver.InHand id
left-stays None state id is = is
left-stays (Some other) state id is = subst (λ (one : Driver). left_by (grant_of other one) one ≡ driver.InHand id) (sym is) refl

stays-did : (script : ScriptValue) (before : List Entry) (node id : ℕ) (performer : Who) (outcome : Outcome) (act : Act) → IsNext script before (Did performer outcome act) → driver_state before node ≡ driver.InHand id → Stays before node id (Did performer outcome act)
stays-did script before node id performer Done (Ask port way) next is = inr (asked-stays (leads_there node (sequencer_below before performer port)) (driver_state before node) way id is (asks-idle script before node performer Done port way next refl))
stays-did script before node id performer (Waits true) (Ask port way) next is = inr (asked-stays (leads_there node (sequencer_below before performer port)) (driver_state before node) way id is (asks-idle script before node performer (Waits true) port way next refl))
stays-did script before node id performer (Waits false) (Ask port way) next is = inr is
stays-did script before node id performer Done (ItemDone port response) next is = tested (leads_there node (sequencer_below before performer port)) refl
  where
    tested : (b : Bool) → leads_there node (sequencer_below before performer port) ≡ b → Stays before node id (Did performer Done (ItemDone port response))
    tested true leads = inl leads
    tested false leads = inr (rw leads is)
stays-did script before node id performer Done (Send item) next is = inr (sent-stays (sequence_on node performer) (driver_state before node) id is)
stays-did script before node id performer Finished act next is = inr (left-stays (sequence_on node performer) (driver_state before node) id is)
stays-did script before node id performer (Waits true) act next is = inr is
stays-did script before node id performer (Waits false) act next is = inr is
stays-did script before node id performer outcome act next is = inr is

granted-stays : (here : Bool) (state : Driver) (other id : ℕ) → state ≡ driver.InHand id → (if here then granted_by other state else state) ≡ driver.InHand id
granted-stays true state other id is = subst (λ (one : Driver). granted_by other one ≡ driver.InHand id) (sym is) refl
granted-stays false state other id is = is

-- what ends with a phase was asked in it
either-way : (a b : Phase) → same_phase a b ≡ same_phase b a
either-way a b = by (phase_number a == phase_number b) (phase_number b == phase_number a) refl refl
  where
    by : (t u : Bool) → (phase_number a == phase_number b) ≡ t → (phase_number b == phase_number a) ≡ u → t ≡ u
    by true true is at = refl
    by false false is at = refl
    by true false is at = let same : (phase_number b == phase_number a) ≡ true = grind (arith, nat_tests, is) in sym same ∙ at
    by false true is at = let same : (phase_number a == phase_number b) ≡ true = grind (arith, nat_tests, at) in sym is ∙ same

ends-with : (phase : Phase) (requester : Option DriverPort) (asked : Phase) → option_and_then (λ requester. requester.phase) requester ≡ Some asked → ends_ask phase requester ≡ same_phase asked phase
ends-with phase None asked is = cc
ends-with phase (Some requester) asked is = rw is refl

-- and is then taken out of the hand
taken-with : (phase asked : Phase) (found : Option Phase) → found ≡ Some asked → option_map_or (same_phase phase) found false ≡ same_phase asked phase
taken-with phase asked found is = rw is (either-way phase asked)

module _ (keeps : OrderKeepsAll EventTarget (Option Call)) (excludes : LockExcludes) where
  asked-by : (script : ScriptValue) (before : List Entry) (node id : ℕ) (phase : Phase) → EachIsNext script before → IsNext script before (End phase) → driver_state before node ≡ driver.InHand id → (asked : Phase) × (asked_in before node ≡ Some asked)
  asked-by script before node id phase each next is =
      let busy : is_idle (driver_state before node) ≡ false = ap is_idle is in
      let asks = asking-of keeps excludes script before node each (none-after script before (End phase) next) busy in
      (asks.0, asks.1)

  -- an item is taken out of the hand with the phase of its ask, and with no other
  phase-stays : (script : ScriptValue) (before : List Entry) (node id : ℕ) (phase : Phase) → EachIsNext script before → IsNext script before (End phase) → driver_state before node ≡ driver.InHand id → Stays before node id (End phase)
  phase-stays script before node id phase each next is = let asked = asked-by script before node id phase each next is in by asked.0 asked.1 (same_phase asked.0 phase) refl
    where
      by : (asked : Phase) → asked_in before node ≡ Some asked → (t : Bool) → same_phase asked phase ≡ t → Stays before node id (End phase)
      by asked on true at = inl (taken-with phase asked (asked_in before node) on ∙ at)
      by asked on false at =
          let ends : ends_ask phase (driver_requester before node) ≡ false = ends-with phase (driver_requester before node) asked on ∙ at in
          inr (ap (λ (b : Bool). kept_on b (is_live (End phase ∷ before)) (driver_state before node)) ends ∙ ap (λ (state : Driver). kept_on false (is_live (End phase ∷ before)) state) is)

  stays-more : (script : ScriptValue) (before : List Entry) (node id : ℕ) (entry : Entry) → EachIsNext script before → IsNext script before entry → driver_state before node ≡ driver.InHand id → Stays before node id entry
  stays-more script before node id (Did performer outcome act) each next is = stays-did script before node id performer outcome act next is
  stays-more script before node id (Granted other grant) each next is = inr (granted-stays (other == node) (driver_state before node) grant.id id is)
  stays-more script before node id (End phase) each next is = phase-stays script before node id phase each next is
  stays-more script before node id entry each next is = inr is

  out-more : (entry : Entry) (between before : List Entry) (node id : ℕ) → IsTakenOut between before node id → IsTakenOut (entry ∷ between) before node id
  out-more entry between before node id out = record { later = entry ∷ out.later; entry = out.entry; earlier = out.earlier; splits = ap (λ log. entry ∷ log) out.splits; has = out.has; takes = out.takes }

  out-or-in : (script : ScriptValue) (between before : List Entry) (node id : ℕ) → EachIsNext script (between ++ before) → driver_state before node ≡ driver.InHand id → IsTakenOut between before node id ⊎ (driver_state (between ++ before) node ≡ driver.InHand id)
  out-or-in script [] before node id each is = inr is
  out-or-in script (entry ∷ between) before node id each is = by (out-or-in script between before node id each.1 is)
    where
      now : driver_state (between ++ before) node ≡ driver.InHand id → Stays (between ++ before) node id entry → IsTakenOut (entry ∷ between) before node id ⊎ (driver_state (entry ∷ between ++ before) node ≡ driver.InHand id)
      now has (inl takes) = inl (record { later = []; entry = entry; earlier = between; splits = refl; has = ap hand_of has; takes = takes })
      now has (inr stays) = inr stays

      by : IsTakenOut between before node id ⊎ (driver_state (between ++ before) node ≡ driver.InHand id) → IsTakenOut (entry ∷ between) before node id ⊎ (driver_state (entry ∷ between ++ before) node ≡ driver.InHand id)
      by (inl out) = inl (out-more entry between before node id out)
      by (inr has) = now has (stays-more script (between ++ before) node id entry each.1 each.0 has)

-- an item that the driver keeps is in its hand
kept-hand : (state : Driver) (id : ℕ) (found : Option How) → grant_of id state ≡ found → keeps_item found ≡ true → option_map_or (sent id) found state ≡ driver.InHand id
kept-hand state id None is kept = cc
kept-hand state id (Some how.Next) is kept = refl
kept-hand state id (Some how.Try) is kept = refl
kept-hand state id (Some how.Get) is kept = cc

none-granted : (state : Driver) (id other : ℕ) → state ≡ driver.InHand id → IsSome (grant_of other state) → ⊥
none-granted state id other is granted = let none : IsSome (grant_of other (driver.InHand id)) = subst (λ (one : Driver). IsSome (grant_of other one)) is granted in cc

-- how many were sent
abbrev AreCounted : List Entry → ℕ → Type 0
AreCounted history node = sends_at history node ≡ gets_at history node + dones_at history node + ended_at history node + in_hand history node

granted-is : (state : Driver) (id : ℕ) → IsSome (grant_of id state) → (way : How) × (state ≡ driver.Granted id way)
granted-is driver.Idle id some = cc
granted-is (driver.Waiting way) id some = cc
granted-is (driver.InHand other) id some = cc
granted-is (driver.Granted other way) id some = tested (other == id) refl some
  where
    tested : (b : Bool) → (other == id) ≡ b → IsSome {T = How} (if b then Some way else None) → (one : How) × (driver.Granted other way ≡ driver.Granted id one)
    tested true is some = let same : other ≡ id = grind (arith, nat_tests, is) in (way, rw same refl)
    tested false is some = cc

-- one more that was sent goes to a `get`, or is in hand
one-sent : (sends gets dones ended : ℕ) (state : Driver) (id : ℕ) (way : How) → state ≡ driver.Granted id way → sends ≡ gets + dones + ended + hand_count state
    → suc sends ≡ count_if (is_get (grant_of id state)) gets + dones + ended + hand_count (sent_by state id)
one-sent sends gets dones ended state id way is e =
    let At : Driver → Type 0 = λ one. sends ≡ gets + dones + ended + hand_count one → suc sends ≡ count_if (is_get (grant_of id one)) gets + dones + ended + hand_count (sent_by one id) in
    subst At (sym is) (by way) e
  where
    itself : (id == id) ≡ true
    itself = grind (arith, nat_tests)

    by : (way : How) → sends ≡ gets + dones + ended + hand_count (driver.Granted id way) → suc sends ≡ count_if (is_get (grant_of id (driver.Granted id way))) gets + dones + ended + hand_count (sent_by (driver.Granted id way) id)
    by how.Next e = rw itself (omega (arith, e))
    by how.Try e = rw itself (omega (arith, e))
    by how.Get e = rw itself (omega (arith, e))

hand-one : (state : Driver) → is_none (hand_of state) ≡ false → hand_count state ≡ 1
hand-one driver.Idle e = cc
hand-one (driver.Waiting way) e = cc
hand-one (driver.Granted other way) e = cc
hand-one (driver.InHand other) e = refl

hand-idle : (state : Driver) → is_idle state ≡ true → hand_count state ≡ 0
hand-idle driver.Idle e = refl
hand-idle (driver.Waiting way) e = cc
hand-idle (driver.Granted other way) e = cc
hand-idle (driver.InHand other) e = cc

hand-granted : (state : Driver) (id : ℕ) → hand_count (granted_by id state) ≡ hand_count state
hand-granted driver.Idle id = refl
hand-granted (driver.Waiting way) id = refl
hand-granted (driver.Granted other way) id = refl
hand-granted (driver.InHand other) id = refl

hand-left : (state : Driver) (id : ℕ) → hand_count (left_by (grant_of id state) state) ≡ hand_count state
hand-left driver.Idle id = refl
hand-left (driver.Waiting way) id = refl
hand-left (driver.InHand other) id = refl
hand-left (driver.Granted other way) id = tested (other == id)
  where
    by : (way : How) → hand_count (lapsed way) ≡ 0
    by how.Next = refl
    by how.Try = refl
    by how.Get = refl

    tested : (b : Bool) → hand_count (left_by (if b then Some way else None) (driver.Granted other way)) ≡ 0
    tested true = by way
    tested false = refl

counted-asked : (total : ℕ) (others : ℕ) (state : Driver) (way : How) (leads : Bool) → (leads ≡ true → is_idle state ≡ true) → total ≡ others + hand_count state → total ≡ others + hand_count (if leads then driver.Waiting way else state)
counted-asked total others state way true idle e = let none = hand-idle state (idle refl) in omega (arith, e, none)
counted-asked total others state way false idle e = e

module _ (keeps : OrderKeepsAll EventTarget (Option Call)) (excludes : LockExcludes) where
  counted-sent : (script : ScriptValue) (before : List Entry) (node : ℕ) (performer : Who) (item : Item) → EachIsNext script before → IsNext script before (Did performer Done (Send item)) → AreCounted before node → AreCounted (Did performer Done (Send item) ∷ before) node
  counted-sent script before node performer item each next e = by (sequence_on node performer) refl
    where
      by : (found : Option ℕ) → sequence_on node performer ≡ found
          → count_if (is_some found) (sends_at before node) ≡ count_if (option_map_or (λ id. is_get (grant_of id (driver_state before node))) found false) (gets_at before node) + dones_at before node + ended_at before node + hand_count (option_map_or (sent_by (driver_state before node)) found (driver_state before node))
      by None on = e
      by (Some id) on =
          let granted = granted-is (driver_state before node) id (sending keeps excludes script before node id performer item each next on) in
          one-sent (sends_at before node) (gets_at before node) (dones_at before node) (ended_at before node) (driver_state before node) id granted.0 granted.1 e

  counted-did : (script : ScriptValue) (before : List Entry) (node : ℕ) (performer : Who) (outcome : Outcome) (act : Act) → EachIsNext script before → IsNext script before (Did performer outcome act) → AreCounted before node → AreCounted (Did performer outcome act ∷ before) node
  counted-did script before node performer Done (Send item) each next e = counted-sent script before node performer item each next e
  counted-did script before node performer Done (Ask port way) each next e = counted-asked (sends_at before node) _ (driver_state before node) way (leads_there node (sequencer_below before performer port)) (asks-idle script before node performer Done port way next refl) e
  counted-did script before node performer (Waits true) (Ask port way) each next e = counted-asked (sends_at before node) _ (driver_state before node) way (leads_there node (sequencer_below before performer port)) (asks-idle script before node performer (Waits true) port way next refl) e
  counted-did script before node performer (Waits false) (Ask port way) each next e = e
  counted-did script before node performer Done (ItemDone port response) each next e = by (leads_there node (sequencer_below before performer port)) refl
    where
      by : (leads : Bool) → leads_there node (sequencer_below before performer port) ≡ leads
          → sends_at before node ≡ gets_at before node + count_if leads (dones_at before node) + ended_at before node + hand_count (if leads then driver.Idle else driver_state before node)
      by true leads = let one = hand-one (driver_state before node) (done-hand script before node performer port response next leads) in omega (arith, e, one)
      by false leads = e
  counted-did script before node performer Finished act each next e = by (sequence_on node performer)
    where
      by : (found : Option ℕ) → sends_at before node ≡ gets_at before node + dones_at before node + ended_at before node + hand_count (option_map_or (λ id. left_by (grant_of id (driver_state before node)) (driver_state before node)) found (driver_state before node))
      by None = e
      by (Some id) = rw (hand-left (driver_state before node) id) e
  counted-did script before node performer (Waits true) act each next e = e
  counted-did script before node performer (Waits false) act each next e = e
  counted-did script before node performer outcome act each next e = e

  counted-more : (script : ScriptValue) (before : List Entry) (entry : Entry) (node : ℕ) → EachIsNext script before → IsNext script before entry → AreCounted before node → AreCounted (entry ∷ before) node
  counted-more script before (Did performer outcome act) node each next e = counted-did script before node performer outcome act each next e
  counted-more script before (Granted other grant) node each next e = by (other == node)
    where
      by : (here : Bool) → sends_at before node ≡ gets_at before node + dones_at before node + ended_at before node + hand_count (if here then granted_by grant.id (driver_state before node) else driver_state before node)
      by true = rw (hand-granted (driver_state before node) grant.id) e
      by false = e
  counted-more script before (End phase) node each next e = by (driver_state before node) refl
    where
      live : ℕ → Bool
      live = is_live (End phase ∷ before)

      Counted : Bool → Bool → Driver → Type 0
      Counted takes ends state = sends_at before node ≡ gets_at before node + dones_at before node + ((if takes then hand_count state else 0) + ended_at before node) + hand_count (kept_on ends live state)

      in-hand : (id : ℕ) → driver_state before node ≡ driver.InHand id → (asked : Phase) → asked_in before node ≡ Some asked → (t : Bool) → same_phase asked phase ≡ t → Counted (takes_out before node (End phase)) (ends_ask phase (driver_requester before node)) (driver_state before node)
      in-hand id is asked on t at =
          let takes : takes_out before node (End phase) ≡ t = taken-with phase asked (asked_in before node) on ∙ at in
          let ends : ends_ask phase (driver_requester before node) ≡ t = ends-with phase (driver_requester before node) asked on ∙ at in
          let counts : sends_at before node ≡ gets_at before node + dones_at before node + ended_at before node + 1 = e ∙ ap (λ (state : Driver). gets_at before node + dones_at before node + ended_at before node + hand_count state) is in
          rw (takes, ends, is) (counted t counts)
        where
          counted : (t : Bool) → sends_at before node ≡ gets_at before node + dones_at before node + ended_at before node + 1 → Counted t t (driver.InHand id)
          counted true counts = omega (arith, counts)
          counted false counts = omega (arith, counts)

      no-hand : (state : Driver) (takes ends : Bool) → hand_count state ≡ 0 → hand_count (kept_on ends live state) ≡ 0 → driver_state before node ≡ state → Counted takes ends state
      no-hand state true ends none kept is = let counts = e ∙ ap (λ (one : Driver). gets_at before node + dones_at before node + ended_at before node + hand_count one) is in omega (arith, counts, none, kept)
      no-hand state false ends none kept is = let counts = e ∙ ap (λ (one : Driver). gets_at before node + dones_at before node + ended_at before node + hand_count one) is in omega (arith, counts, none, kept)

      kept-none : (ends : Bool) (state : Driver) → hand_count state ≡ 0 → hand_count (kept_on ends live state) ≡ 0
      kept-none true state none = refl
      kept-none false driver.Idle none = refl
      kept-none false (driver.Waiting way) none = refl
      kept-none false (driver.InHand id) none = cc
      kept-none false (driver.Granted id way) none = tested (live id)
        where
          lapses : (way : How) → hand_count (lapsed way) ≡ 0
          lapses how.Next = refl
          lapses how.Try = refl
          lapses how.Get = refl

          tested : (b : Bool) → hand_count (left_by (if b then None else Some way) (driver.Granted id way)) ≡ 0
          tested true = refl
          tested false = lapses way

      by : (state : Driver) → driver_state before node ≡ state → Counted (takes_out before node (End phase)) (ends_ask phase (driver_requester before node)) (driver_state before node)
      by (driver.InHand id) is = let asked = asked-by keeps excludes script before node id phase each next is in in-hand id is asked.0 asked.1 (same_phase asked.0 phase) refl
      by driver.Idle is = rw is (no-hand driver.Idle (takes_out before node (End phase)) (ends_ask phase (driver_requester before node)) refl (kept-none (ends_ask phase (driver_requester before node)) driver.Idle refl) is)
      by (driver.Waiting way) is = rw is (no-hand (driver.Waiting way) (takes_out before node (End phase)) (ends_ask phase (driver_requester before node)) refl (kept-none (ends_ask phase (driver_requester before node)) (driver.Waiting way) refl) is)
      by (driver.Granted id way) is = rw is (no-hand (driver.Granted id way) (takes_out before node (End phase)) (ends_ask phase (driver_requester before node)) refl (kept-none (ends_ask phase (driver_requester before node)) (driver.Granted id way) refl) is)
  counted-more script before entry node each next e = e

  counted-of : (script : ScriptValue) (history : List Entry) (node : ℕ) → EachIsNext script history → AreCounted history node
  counted-of script [] node each = refl
  counted-of script (entry ∷ before) node each = counted-more script before entry node each.1 each.0 (counted-of script before node each.1)

  between-sends :
      (script : ScriptValue) (between before : List Entry) (node id other : ℕ) (first second : Who) (item another : Item) → EachIsNext script (Did second Done (Send another) ∷ (between ++ Did first Done (Send item) ∷ before))
      → sequence_on node first ≡ Some id → sequence_on node second ≡ Some other → keeps_item (grant_of id (driver_state before node)) ≡ true → IsTakenOut between (Did first Done (Send item) ∷ before) node id
  between-sends script between before node id other first second item another each on also kept =
      let hand : driver_state (Did first Done (Send item) ∷ before) node ≡ driver.InHand id = rw on (kept-hand (driver_state before node) id (grant_of id (driver_state before node)) refl kept) in
      by (out-or-in keeps excludes script between (Did first Done (Send item) ∷ before) node id each.1 hand)
    where
      by : IsTakenOut between (Did first Done (Send item) ∷ before) node id ⊎ (driver_state (between ++ Did first Done (Send item) ∷ before) node ≡ driver.InHand id) → IsTakenOut between (Did first Done (Send item) ∷ before) node id
      by (inl out) = out
      by (inr has) = absurd (none-granted (driver_state (between ++ Did first Done (Send item) ∷ before) node) id other has (sending keeps excludes script (between ++ Did first Done (Send item) ∷ before) node other second another each.1 each.0 also))

  pub one_item_out : OneItemOut
  one_item_out = record {
    granted = λ script later before node id performer item legal on.
        let each = older-each script later (Did performer Done (Send item) ∷ before) legal.each in
        sending keeps excludes script before node id performer item each.1 each.0 on;
    between = λ script later between before node id other first second item another legal on also kept.
        between-sends script between before node id other first second item another (older-each script later (Did second Done (Send another) ∷ (between ++ Did first Done (Send item) ∷ before)) legal.each) on also kept;
    counts = λ script history node legal. counted-of script history node legal.each;
  }
