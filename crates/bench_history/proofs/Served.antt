-- Whom a driver serves, and who waits for a sequencer.
use Rattle.bench_history.proofs.Common.{◌≡◌, ℕ, ◌==◌, ◌⊎◌, inl, inr, Bool, true, false, List, [], ◌∷◌, map, filter, Option, Some, None, refl, ap, sym, ◌∙◌, if◌then◌else◌, option_map_or, nat_tests, arith, All-nil, All-cons, All-head, All-tail, All-push, How, Driver, grant_of, granted_by, lapsed, left_by, sent, kept_on, Who, Entry, IfSome, hand_of, Item, Call, Phase, act_phase, DriverPort, DueCall, calls_of_done, calls_of_item, calls_of_send, call_in, requester_by, still_waits, DriverMove, Awaits, IsDone, Sends, Leaves, SequencerRequest, RequestKind, ForItem, ForLock, ForGrab, driver_by, leads_there, sent_by, sequence_on, sequencer_below, with_wish}
use Rattle.std.proofs.Common.{All}
use Rattle.uvm_sequencer.specs.declared.drivers.How.TheVariants as how
use Rattle.uvm_sequencer.specs.declared.drivers.Driver.TheVariants as driver
use Rattle.uvm_sequences.specs.Sequences.{Start}
use Rattle.uvm_acts.specs.declared.acts.Who.TheVariants as who
use Rattle.uvm_acts.specs.declared.acts.Call.TheVariants as call

-- the sequence that is granted, or whose item is in hand
abbrev pub driver_sequence : Driver → Option ℕ
driver_sequence driver.Idle = None
driver_sequence (driver.Waiting how) = None
driver_sequence (driver.Granted seq how) = Some seq
driver_sequence (driver.InHand seq) = Some seq

same-number : (a b : ℕ) → (a == b) ≡ true → a ≡ b
same-number a b e = grind (arith, nat_tests)

-- an act makes no other sequence that
sent-kept : (id : ℕ) (state : Driver) (seq : ℕ) → driver_sequence (sent_by state id) ≡ Some seq → driver_sequence state ≡ Some seq
sent-kept id driver.Idle seq e = e
sent-kept id (driver.Waiting way) seq e = e
sent-kept id (driver.InHand other) seq e = e
sent-kept id (driver.Granted other way) seq e = tested (other == id) refl e
  where
    by-way : (way : How) → other ≡ id → driver_sequence (sent id way) ≡ Some seq → Some other ≡ Some seq
    by-way how.Next same e = ap (λ (n : ℕ). Some n) same ∙ e
    by-way how.Try same e = ap (λ (n : ℕ). Some n) same ∙ e
    by-way how.Get same e = cc

    tested : (b : Bool) → (other == id) ≡ b → driver_sequence (option_map_or (sent id) (if b then Some way else None) (driver.Granted other way)) ≡ Some seq → Some other ≡ Some seq
    tested true is e = by-way way (same-number other id is) e
    tested false is e = e

left-kept : (id : ℕ) (state : Driver) (seq : ℕ) → driver_sequence (left_by (grant_of id state) state) ≡ Some seq → driver_sequence state ≡ Some seq
left-kept id driver.Idle seq e = e
left-kept id (driver.Waiting way) seq e = e
left-kept id (driver.InHand other) seq e = e
left-kept id (driver.Granted other way) seq e = tested (other == id) e
  where
    by-way : (way : How) → driver_sequence (lapsed way) ≡ Some seq → Some other ≡ Some seq
    by-way how.Next e = cc
    by-way how.Try e = cc
    by-way how.Get e = cc

    tested : (b : Bool) → driver_sequence (left_by (if b then Some way else None) (driver.Granted other way)) ≡ Some seq → Some other ≡ Some seq
    tested true e = by-way way e
    tested false e = e

either-kept : (b : Bool) (new old : Driver) (seq : ℕ) → driver_sequence new ≡ None → driver_sequence (if b then new else old) ≡ Some seq → driver_sequence old ≡ Some seq
either-kept true new old seq none e = let both : None ≡ Some seq = sym none ∙ e in cc
either-kept false new old seq none e = e

on-kept : (change : ℕ → Driver) (state : Driver) (id : Option ℕ) (seq : ℕ) → ((n : ℕ) → driver_sequence (change n) ≡ Some seq → driver_sequence state ≡ Some seq) → driver_sequence (option_map_or change id state) ≡ Some seq → driver_sequence state ≡ Some seq
on-kept change state None seq kept e = e
on-kept change state (Some id) seq kept e = kept id e

-- nor does the end of a phase
pub end-kept : (ends : Bool) (live : ℕ → Bool) (state : Driver) (seq : ℕ) → driver_sequence (kept_on ends live state) ≡ Some seq → driver_sequence state ≡ Some seq
end-kept true live state seq e = cc
end-kept false live driver.Idle seq e = e
end-kept false live (driver.Waiting way) seq e = e
end-kept false live (driver.InHand other) seq e = e
end-kept false live (driver.Granted other way) seq e = tested (live other) way e
  where
    tested : (b : Bool) (way : How) → driver_sequence (left_by (if b then None else Some way) (driver.Granted other way)) ≡ Some seq → driver_sequence (driver.Granted other way) ≡ Some seq
    tested true way e = e
    tested false how.Next e = cc
    tested false how.Try e = cc
    tested false how.Get e = cc

pub move-kept : (before : List Entry) (node : ℕ) (performer : Who) (move : Option DriverMove) (state : Driver) (seq : ℕ) → driver_sequence (driver_by before node performer move state) ≡ Some seq → driver_sequence state ≡ Some seq
move-kept before node performer None state seq e = e
move-kept before node performer (Some (Awaits port way)) state seq e = either-kept (leads_there node (sequencer_below before performer port)) (driver.Waiting way) state seq refl e
move-kept before node performer (Some (IsDone port)) state seq e = either-kept (leads_there node (sequencer_below before performer port)) driver.Idle state seq refl e
move-kept before node performer (Some Sends) state seq e = on-kept (sent_by state) state (sequence_on node performer) seq (λ n. sent-kept n state seq) e
move-kept before node performer (Some Leaves) state seq e = on-kept (λ id. left_by (grant_of id state) state) state (sequence_on node performer) seq (λ n. left-kept n state seq) e

-- a grant makes the sequence that which is granted, or none another
pub granted-kept : (id : ℕ) (state : Driver) (seq : ℕ) → driver_sequence (granted_by id state) ≡ Some seq → (seq ≡ id) ⊎ (driver_sequence state ≡ Some seq)
granted-kept id driver.Idle seq e = cc
granted-kept id (driver.Waiting way) seq e = let same : id ≡ seq = cc in inl (sym same)
granted-kept id (driver.Granted other way) seq e = inr e
granted-kept id (driver.InHand other) seq e = inr e

-- what holds of a number, if there is one
abbrev pub HoldsOf : (ℕ → Type 0) → Option ℕ → Type 0
HoldsOf P None = Unit {0}
HoldsOf P (Some n) = P n

-- what holds of all who want something holds with one more
module _ (P : ℕ → Type 0) where
  abbrev pub IsBy : SequencerRequest → Type 0
  IsBy w = P w.request.seq

  pub wish-all : (started : List Start) (place : ℕ) (wish : Option RequestKind) (id : Option ℕ) (asked : List SequencerRequest) → All IsBy asked → (wish ≡ None) ⊎ HoldsOf P id → All IsBy (with_wish started place wish id asked)
  wish-all started place None id asked all by = all
  wish-all started place (Some wish) None asked all by = all
  wish-all started place (Some wish) (Some id) asked all (inl none) = cc
  wish-all started place (Some (ForItem given)) (Some id) asked all (inr holds) = All-push IsBy asked _ all holds
  wish-all started place (Some ForLock) (Some id) asked all (inr holds) = All-push IsBy asked _ all holds
  wish-all started place (Some ForGrab) (Some id) asked all (inr holds) = All-cons IsBy _ asked holds all

-- whose item is in hand
pub hand-sequence : (state : Driver) (id : ℕ) → hand_of state ≡ Some id → driver_sequence state ≡ Some id
hand-sequence driver.Idle id e = cc
hand-sequence (driver.Waiting way) id e = cc
hand-sequence (driver.Granted other way) id e = cc
hand-sequence (driver.InHand other) id e = e

-- a driver asks for an item
abbrev pub awaits : Option DriverMove → Bool
awaits (Some (Awaits port way)) = true
awaits move = false

pub asked-by : (C : Who → Option Phase → Type 0) (before : List Entry) (node : ℕ) (performer : Who) (move : Option DriverMove) (requester : Option DriverPort) → IfSome requester (λ requester. C requester.who requester.phase) → (awaits move ≡ false) ⊎ C performer (act_phase before) → IfSome (requester_by before node performer move requester) (λ requester. C requester.who requester.phase)
asked-by C before node performer None requester has by = has
asked-by C before node performer (Some (Awaits port way)) requester has (inl none) = cc
asked-by C before node performer (Some (Awaits port way)) requester has (inr holds) = tested (leads_there node (sequencer_below before performer port))
  where
    tested : (b : Bool) → IfSome (if b then Some (record { who = performer; name = port; phase = act_phase before }) else requester) (λ requester. C requester.who requester.phase)
    tested true = holds
    tested false = has
asked-by C before node performer (Some (IsDone port)) requester has by = has
asked-by C before node performer (Some Sends) requester has by = has
asked-by C before node performer (Some Leaves) requester has by = has

-- what is told to a driver, and to who sends, is told to whom this holds
module _ (T : DueCall → Type 0) (E : Option Phase → Who → Type 0) (told : (phase : Option Phase) (who : Who) (call : Call) → E phase who → T (call_in phase who call)) where
  pub item-told : (requester : Option DriverPort) (item : Option Item) → IfSome requester (λ requester. E requester.phase requester.who) → All T (calls_of_item requester item)
  item-told None item has = All-nil T
  item-told (Some requester) item has = All-cons T (call_in requester.phase requester.who (call.NextItem requester.name item)) [] (told requester.phase requester.who (call.NextItem requester.name item) has) (All-nil T)

  pub sent-told : (phase : Option Phase) (performer : Who) (requester : Option DriverPort) (item : Item) (way : Option How) → IfSome requester (λ requester. E requester.phase requester.who) → E phase performer → All T (calls_of_send phase performer requester item way)
  sent-told phase performer requester item None has sends = All-nil T
  sent-told phase performer requester item (Some how.Get) has sends = All-push T (calls_of_item requester (Some item)) (call_in phase performer (call.ItemDone None)) (item-told requester (Some item) has) (told phase performer (call.ItemDone None) sends)
  sent-told phase performer requester item (Some how.Next) has sends = item-told requester (Some item) has
  sent-told phase performer requester item (Some how.Try) has sends = item-told requester (Some item) has

  pub lapse-told : (lapses : Bool) (requester : Option DriverPort) → IfSome requester (λ requester. E requester.phase requester.who) → All T (if lapses then calls_of_item requester None else [])
  lapse-told true requester has = item-told requester None has
  lapse-told false requester has = All-nil T

  pub done-told : (phase : ℕ → Option Phase) (response : Option Item) (node : ℕ) (hand : Option ℕ) → ((id : ℕ) → hand ≡ Some id → E (phase id) (who.Sequence node id)) → All T (calls_of_done phase response node hand)
  done-told phase response node None has = All-nil T
  done-told phase response node (Some id) has = All-cons T (call_in (phase id) (who.Sequence node id) (call.ItemDone response)) [] (told (phase id) (who.Sequence node id) (call.ItemDone response) (has id refl)) (All-nil T)

-- what holds of all that waits holds of the queue
pub queue-all : (history : List Entry) (node : ℕ) (P : ℕ → Type 0) (asked : List SequencerRequest) → All (λ w. still_waits history node w ≡ true → P w.request.seq) asked → All (λ request. P request.seq) (map (λ w. w.request) (filter (still_waits history node) asked))
queue-all history node P [] all = All-nil _
queue-all history node P (w ∷ asked) all = tested (still_waits history node w) refl (All-head (λ w. still_waits history node w ≡ true → P w.request.seq) w asked all) (queue-all history node P asked (All-tail (λ w. still_waits history node w ≡ true → P w.request.seq) w asked all))
  where
    tested :
        (b : Bool) → still_waits history node w ≡ b → (still_waits history node w ≡ true → P w.request.seq) → All (λ request. P request.seq) (map (λ w. w.request) (filter (still_waits history node) asked))
        → All (λ request. P request.seq) (map (λ w. w.request) (if b then w ∷ filter (still_waits history node) asked else filter (still_waits history node) asked))
    tested true is holds rest = All-cons (λ request. P request.seq) w.request _ (holds is) rest
    tested false is holds rest = rest
