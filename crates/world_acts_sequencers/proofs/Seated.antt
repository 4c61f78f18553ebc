-- What drivers and sequences do at a sequencer.
use Rattle.world_acts_sequencers.proofs.Common.{◌≡◌, ℕ, suc, ◌<◌, ◌-◌, ◌==◌, nat_eq, Bool, true, false, not, ◌&&◌, List, [], ◌∷◌, length, All, Contains, Option, Some, None, IsSome, option_map, option_and_then, Result, Ok, Err, IfOk, IfSome, refl, ap, sym, ◌∙◌, subst, arith, rules, ◌⊎◌, inl, inr, if◌then◌else◌, get, AllocError, list_any, nat_tests, All-cons, All-nil, All-push, Phase, same_phase, AreInPathOrder, path_order, Mode, SeqStep, How, Driver, grant_of, is_idle, sent, item_request, lock_request, numbered, after_send, unlocked, with_grab, with_item, with_lock, Item, node_of, Who, Act, Lock, Grab, Unlock, Send, Fatal, NotGranted, OutOfRange, Done, Refused, Entry, Did, ScriptValue, DriverPort, Object, calls_caused, is_of_one, call_in, calls_of_item, calls_of_send, driver_requester, driver_state, mode_at, request_priority, sequencer_at, sequencer_with, Exactly, by_open, act_phase, components_of, ended_of, nodes_of, test_creation, performer_of, HasNotEnded, IsComponent, IsThere, is_none_at_all, request_refusal, send_refusal, newest_fate, report_commands, StartRecord, starts_of, finished_of, is_live, sequence_in, sequences_of, starts_in, ActResult, Completed, Services, PassedStays, GrantIndex, LearnsAt, known_at, ArbiterValue, ArbiterMap, at_sequencer, grabbed_if, locked_if, requested_if, sent_if, unlocked_if, IsArbitrated, IsArbitrating, Ledger, arbiter_of, arbiter_with, ledger_at, runs_on, is_told, live_by, IsActResult, IsRefusing, IsActContext, PreservesMatchByAct, ServicesMatch, arbitrated-before, arbitrated-behind, arbitrated-driver, arbitrated-more, arbitrated-unlocked, arbiter-changed, asked-before, asked-behind, unlocked-is, order-distinct, permutation-contains, range-contains, filter-one, IsPlaced, arbitrating-one, known-changed, known-none, learns-else, learns-here, none-locked, none-served, IsToldOpen, said, acted, numbered-holds, OnOk, Node, Request, ChangesAt, itself}
use Rattle.uvm_sequencer.specs.Passed.{IsPassed}
use Rattle.uvm_sequencer.specs.declared.drivers.How.TheVariants as how
use Rattle.uvm_sequencer.specs.declared.drivers.Driver.TheVariants as driver
use Rattle.uvm_acts.specs.declared.acts.Who.TheVariants as who
use Rattle.uvm_acts.specs.declared.acts.Call.TheVariants as call

-- each node below the top stands in the path order
pub ordered : (nodes : List Node) (n : ℕ) → AreInPathOrder nodes (path_order nodes) → 0 < n → n < length nodes → Contains (path_order nodes) n
ordered nodes n order low high = permutation-contains _ (path_order nodes) n order.whole (range-contains 1 (length nodes - 1) n low (omega (arith, high)))

-- a sequence is there that acts: it lives, and runs on a sequencer
pub record IsSeated (history : List Entry) (performer : Who) (id home : ℕ) : Type 0 where
  pub performer_is : performer ≡ who.Sequence home id
  pub lives : live_by (starts_of history) (finished_of history) (ended_of history) id ≡ true
  pub here : runs_on (starts_of history) home id
  pub moded : IsSome (mode_at history home)
  pub there : IsPlaced (path_order (nodes_of history)) home

home-of : (history : List Entry) (home : ℕ) (found : Option StartRecord) (id : ℕ) → numbered (starts_of history) id ≡ found → option_map (λ start_record. start_record.start.home) found ≡ Some home → All (λ start_record. IsSome (mode_at history start_record.start.home)) (starts_of history) → IsSome (mode_at history home)
home-of history home None id is e all = cc
home-of history home (Some b) id is e all =
    let same : b.start.home ≡ home = cc in
    subst (λ (h : ℕ). IsSome (mode_at history h)) same (numbered-holds (λ (one : StartRecord). IsSome (mode_at history one.start.home)) (starts_of history) id b all is)

module _ {script : ScriptValue} {history : List Entry} {act : Act} {place : ℕ} {services : Services} (s : IsActContext script history act place services) where
  -- a sequencer is one of the nodes in path order
  pub placed : (node : ℕ) → ((nodes : List Node) → AreInPathOrder nodes (path_order nodes)) → IsSome (mode_at history node) → IsPlaced (path_order (nodes_of history)) node
  placed node order moded =
      let stands = (s.known.arbitrating.arbitrated.each node).stands moded in
      let there = ordered (nodes_of history) node (order (nodes_of history)) stands.0 stands.1 in
      record { there = there; alone = filter-one node (path_order (nodes_of history)) (order-distinct (nodes_of history) (order (nodes_of history))) there }

  pub seated : (id home : ℕ) → (act ≡ test_creation script → ⊥) → ((nodes : List Node) → AreInPathOrder nodes (path_order nodes)) → sequence_in services.answer.performer ≡ Some id → home ≡ node_of services.answer.performer → IsSeated history services.answer.performer id home
  unfolding is_live
  seated id home other order is at = by s.there
    where
      speaks : (performer : Who) → sequence_in performer ≡ Some id → home ≡ node_of performer → performer ≡ who.Sequence home id
      speaks (who.Node node) e stands = cc
      speaks (who.Sequence h n) e stands = let same : n ≡ id = cc in rw (same, stands) refl

      by : (act ≡ test_creation script) ⊎ IsThere history (performer_of history) → IsSeated history services.answer.performer id home
      by (inl opens) = absurd (other opens)
      by (inr there) =
          let same = speaks services.answer.performer is at in
          let living : IsThere history (who.Sequence home id) = subst (IsThere history) (sym s.known.answer.performer ∙ same) there in
          let moded = home-of history home (numbered (starts_of history) id) id refl living.home_is s.driving.homes in
          record { performer_is = same; lives = living.lives; here = living.home_is; moded = moded; there = placed home order moded }

  -- something is done at one sequencer, where nothing was granted
  pub kept-there :
      (node : ℕ) → IsPlaced (path_order (nodes_of history)) node → (new : ℕ → Ledger) (more : ArbiterMap) (change : ArbiterValue → ArbiterValue) → ((n : ℕ) → (node == n) ≡ false → new n ≡ ledger_at history n)
      → arbiter_of (live_by (starts_of history) (finished_of history) (ended_of history)) (new node) ≡ option_map change (arbiter_of (live_by (starts_of history) (finished_of history) (ended_of history)) (ledger_at history node))
      → IsArbitrated (suc (length history)) (length (nodes_of history)) (starts_of history) node (new node) → ChangesAt node change services.arbiters more
      → (after : GrantIndex) → after.nodes.items ≡ node ∷ [] → ((n : ℕ) → (node == n) ≡ false → known_at after n ≡ known_at services.grant_index n)
      → ((a : ArbiterValue) → IsPassed (starts_in (starts_of history)) a.sequencer (known_at services.grant_index node) → IsPassed (starts_in (starts_of history)) (change a).sequencer (known_at after node))
      → IsArbitrating (suc (length history)) (nodes_of history) (starts_of history) (finished_of history) (ended_of history) new more after
  kept-there node there new more change elsewhere here one changes after is others keeps =
      let m = s.known in
      arbitrating-one m.arbitrating (finished_of history) new more node change (λ n other. ap (arbiter_of (live_by (starts_of history) (finished_of history) (ended_of history))) (elsewhere n other)) here changes (λ n. every n (node == n) refl) there
      (none-locked history m.arbitrating.contested_is s.settled.unlocked) (none-served history m.arbitrating.contested_is s.settled.unserved)
      after is others (known-changed (starts_in (starts_of history)) (known_at services.grant_index node) (known_at after node) change (arbiter_of (live_by (starts_of history) (finished_of history) (ended_of history)) (ledger_at history node)) (arbiter_of (live_by (starts_of history) (finished_of history) (ended_of history)) (new node)) here keeps (m.arbitrating.contested_is.known node))
    where
      every : (n : ℕ) (b : Bool) → (node == n) ≡ b → IsArbitrated (suc (length history)) (length (nodes_of history)) (starts_of history) n (new n)
      every n true is =
          let same : node ≡ n = grind (arith, nat_tests) in
          subst (λ (k : ℕ). IsArbitrated (suc (length history)) (length (nodes_of history)) (starts_of history) k (new k)) same one
      every n false is = subst (λ (l : Ledger). IsArbitrated (suc (length history)) (length (nodes_of history)) (starts_of history) n l) (sym (elsewhere n is)) (arbitrated-more (s.known.arbitrating.arbitrated.each n))

  module _ (id home : ℕ) (seat : IsSeated history services.answer.performer id home) where
    one-there : IsArbitrated (length history) (length (nodes_of history)) (starts_of history) home (ledger_at history home)
    one-there = s.known.arbitrating.arbitrated.each home

    abbrev Goes : Act → ArbiterMap → GrantIndex → Type 0
    Goes did more after = IsArbitrating (suc (length history)) (nodes_of history) (starts_of history) (finished_of history) (ended_of history) (ledger_at (Did services.answer.performer Done did ∷ history)) more after

    -- as many are known to be blocked as before
    still :
        (change : ArbiterValue → ArbiterValue) (after : GrantIndex) → ((n : ℕ) → known_at after n ≡ known_at services.grant_index n)
        → ((a : ArbiterValue) → IsPassed (starts_in (starts_of history)) a.sequencer (known_at services.grant_index home) → IsPassed (starts_in (starts_of history)) (change a).sequencer (known_at services.grant_index home))
        → (a : ArbiterValue) → IsPassed (starts_in (starts_of history)) a.sequencer (known_at services.grant_index home) → IsPassed (starts_in (starts_of history)) (change a).sequencer (known_at after home)
    still change after knows keeps a passed = subst (λ (k : ℕ). IsPassed (starts_in (starts_of history)) (change a).sequencer k) (sym (knows home)) (keeps a passed)

    -- it is not known any more who is blocked
    anew : (change : ArbiterValue → ArbiterValue) (after : GrantIndex) → LearnsAt home 0 services.grant_index after → (a : ArbiterValue) → IsPassed (starts_in (starts_of history)) (change a).sequencer (known_at after home)
    anew change after learns a = learns-here (starts_in (starts_of history)) home 0 services.grant_index after learns (Some (change a)) (known-none (starts_in (starts_of history)) (Some (change a)))

    -- a sequence requests, locks or grabs
    pub request-kept : (priority : Option ℕ) (more : ArbiterMap) → ChangesAt home (requested_if None id (request_priority (sequences_of history) id priority)) services.arbiters more → PassedStays → (after : GrantIndex) → after.nodes.items ≡ home ∷ [] → ((n : ℕ) → known_at after n ≡ known_at services.grant_index n) → Goes (Request priority) more after
    request-kept priority more changes stays after is knows =
        let request = item_request id (request_priority (sequences_of history) id priority) in
        let l = ledger_at history home in
        let live = live_by (starts_of history) (finished_of history) (ended_of history) in
        rw seat.performer_is
        (kept-there home seat.there (ledger_at (Did (who.Sequence home id) Done (Request priority) ∷ history)) more (at_sequencer (with_item id (request_priority (sequences_of history) id priority))) (λ n is. rw is refl)
        (rw (itself home) (asked-behind live (length history) l one-there.grants_within one-there.locks_within request seat.lives))
        (rw (itself home) (arbitrated-behind one-there request seat.here seat.moded)) changes after is (λ n other. knows n)
        (still (at_sequencer (with_item id (request_priority (sequences_of history) id priority))) after knows (λ a passed. stays.item (starts_in (starts_of history)) a.sequencer (known_at services.grant_index home) passed id (request_priority (sequences_of history) id priority))))

    pub lock-kept : (more : ArbiterMap) → ChangesAt home (locked_if None id) services.arbiters more → PassedStays → (after : GrantIndex) → after.nodes.items ≡ home ∷ [] → ((n : ℕ) → known_at after n ≡ known_at services.grant_index n) → Goes Lock more after
    lock-kept more changes stays after is knows =
        let l = ledger_at history home in
        let live = live_by (starts_of history) (finished_of history) (ended_of history) in
        rw seat.performer_is
        (kept-there home seat.there (ledger_at (Did (who.Sequence home id) Done Lock ∷ history)) more (at_sequencer (with_lock id)) (λ n is. rw is refl)
        (rw (itself home) (asked-behind live (length history) l one-there.grants_within one-there.locks_within (lock_request id) seat.lives))
        (rw (itself home) (arbitrated-behind one-there (lock_request id) seat.here seat.moded)) changes after is (λ n other. knows n)
        (still (at_sequencer (with_lock id)) after knows (λ a passed. stays.lock (starts_in (starts_of history)) a.sequencer (known_at services.grant_index home) passed id)))

    pub grab-kept : (more : ArbiterMap) → ChangesAt home (grabbed_if None id) services.arbiters more → (after : GrantIndex) → after.nodes.items ≡ home ∷ [] → LearnsAt home 0 services.grant_index after → Goes Grab more after
    grab-kept more changes after is learns =
        let l = ledger_at history home in
        let live = live_by (starts_of history) (finished_of history) (ended_of history) in
        rw seat.performer_is
        (kept-there home seat.there (ledger_at (Did (who.Sequence home id) Done Grab ∷ history)) more (at_sequencer (with_grab id)) (λ n is. rw is refl)
        (rw (itself home) (asked-before live (length history) l one-there.grants_within one-there.locks_within (lock_request id) seat.lives))
        (rw (itself home) (arbitrated-before one-there (lock_request id) seat.here seat.moded)) changes after is (learns-else home 0 services.grant_index after learns)
        (λ a passed. anew (at_sequencer (with_grab id)) after learns a))

    -- it gives a lock back
    pub unlock-kept : (more : ArbiterMap) → ChangesAt home (unlocked_if None id) services.arbiters more → (after : GrantIndex) → after.nodes.items ≡ home ∷ [] → LearnsAt home 0 services.grant_index after → Goes Unlock more after
    unlock-kept more changes after is learns =
        let l = ledger_at history home in
        let live = live_by (starts_of history) (finished_of history) (ended_of history) in
        rw seat.performer_is
        (kept-there home seat.there (ledger_at (Did (who.Sequence home id) Done Unlock ∷ history)) more (at_sequencer (unlocked id)) (λ n is. rw is refl)
        (rw (itself home) (unlocked-is live l id seat.lives))
        (rw (itself home) (arbitrated-unlocked one-there id seat.moded)) changes after is (learns-else home 0 services.grant_index after learns)
        (λ a passed. anew (at_sequencer (unlocked id)) after learns a))

    -- it sends its item
    pub send-kept : (item : Item) (way : How) (more : ArbiterMap) → grant_of id (ledger_at history home).driver ≡ Some way → ChangesAt home (sent_if (Some way) id) services.arbiters more → (after : GrantIndex) → after.nodes.items ≡ home ∷ [] → ((n : ℕ) → known_at after n ≡ known_at services.grant_index n) → Goes (Send item) more after
    send-kept item way more granted changes after is knows =
        let l = ledger_at history home in
        let live = live_by (starts_of history) (finished_of history) (ended_of history) in
        rw seat.performer_is
        (kept-there home seat.there (ledger_at (Did (who.Sequence home id) Done (Send item) ∷ history)) more (at_sequencer (after_send id way)) (λ n is. rw is refl)
        (rw (itself home, granted) (arbiter-changed live live l (record l { driver = sent id way }) (at_sequencer (after_send id way)) refl (λ mode. refl)))
        (rw (itself home, granted) (arbitrated-driver one-there (sent id way) l.requester seat.moded)) changes after is (λ n other. knows n) (still (at_sequencer (after_send id way)) after knows (λ a passed. record { within = passed.within; blocked = passed.blocked })))

-- a request is refused for its priority, or for what the sequencer says
pub request-out : (priority : Option ℕ) (refusal : Option Fatal) → is_none_at_all priority ≡ true → request_refusal priority refusal ≡ Some OutOfRange
unfolding request_refusal
request-out priority refusal none = rw none refl

pub request-in : (priority : Option ℕ) (refusal : Option Fatal) → is_none_at_all priority ≡ false → request_refusal priority refusal ≡ refusal
unfolding request_refusal
request-in priority None some = rw some refl
request-in priority (Some fatal) some = rw some refl

-- an act is done at a sequencer, unless memory is refused
pub when-done : (result : Result ActResult AllocError) (Q : ActResult → Type 0) {P : Type 0} → IfOk result (λ act_result. act_result ≡ Completed Done) → OnOk result P → (P → Q (Completed Done)) → IfOk result Q
when-done (Ok act_result) Q is kept comes = subst Q (sym is) (comes kept)
when-done (Err fault) Q is kept comes = tt

-- an act is refused, once nothing was done at a sequencer
pub unchanged : (node : ℕ) (arbiters more : ArbiterMap) → ChangesAt node (λ a. a) arbiters more → (n : ℕ) → get nat_eq more n ≡ get nat_eq arbiters n
unchanged node arbiters more changes n = changes n ∙ tested (node == n) (get nat_eq arbiters n)
  where
    tested : (b : Bool) (o : Option ArbiterValue) → (if b then option_map (λ a. a) o else o) ≡ o
    tested true None = refl
    tested true (Some a) = refl
    tested false o = refl

same-arbitrating : {script : ScriptValue} {history : List Entry} {services : Services} (more : ArbiterMap) → ((n : ℕ) → get nat_eq more n ≡ get nat_eq services.arbiters n) → ServicesMatch script history services
    → IsArbitrating (length history) (nodes_of history) (starts_of history) (finished_of history) (ended_of history) (ledger_at history) more services.grant_index
same-arbitrating more same m = record { arbiters_are = record { each = λ n. same n ∙ m.arbitrating.arbiters_are.each n }; arbitrated = m.arbitrating.arbitrated; contested_is = m.arbitrating.contested_is }

pub with-arbiters : {script : ScriptValue} {history : List Entry} {services : Services} (more : ArbiterMap) → ((n : ℕ) → get nat_eq more n ≡ get nat_eq services.arbiters n) → ServicesMatch script history services → ServicesMatch script history (record services { arbiters = more })
with-arbiters more same m = let arbitrating = same-arbitrating more same m in search (rules, arbitrating)

pub refused-still :
    (result : Result ActResult AllocError) (old new : Services) (more : ArbiterMap) (act : Act) (fatal : Fatal) (place : ℕ) → ((n : ℕ) → get nat_eq more n ≡ get nat_eq old.arbiters n) → IfOk result (λ act_result. act_result ≡ Completed (Refused fatal)) → OnOk result (IsRefusing fatal (record old { arbiters = more }) new)
    → ((script : ScriptValue) (history : List Entry) → IsActContext script history act place old → by_open script history old.answer.performer act ≡ Exactly (Did old.answer.performer (Refused fatal) act))
    → IfOk result (λ act_result. IsActResult act act_result place old new)
refused-still (Err fault) old new more act fatal place same is kept comes = tt
refused-still (Ok act_result) old new more act fatal place same is kept comes = rw is (record {
  comes = comes;
  kept = subst (λ (after : Services). PreservesMatchByAct act (Refused fatal) place old after) (sym kept.rest) (record {
    same_answer = refl;
    with_entry = λ script history s.
        let m = with-arbiters more same s.known in
        let left = s.left in
        let report_state = rw m.tree at (kept.report_state (report_commands script history) (newest_fate script history) m.report_state) in
        search (rules, acted);
  });
})

pub refused-all :
    (result : Result ActResult AllocError) (old new : Services) (more : ArbiterMap) (act : Act) (fatal : Fatal) → ((n : ℕ) → get nat_eq more n ≡ get nat_eq old.arbiters n) → IfOk result (λ act_result. act_result ≡ Completed (Refused fatal)) → OnOk result (IsRefusing fatal (record old { arbiters = more }) new)
    → ((script : ScriptValue) (history : List Entry) (place : ℕ) → IsActContext script history act place old → by_open script history old.answer.performer act ≡ Exactly (Did old.answer.performer (Refused fatal) act))
    → IfOk result (λ act_result. (place : ℕ) → IsActResult act act_result place old new)
refused-all (Err fault) old new more act fatal same is kept comes = tt
refused-all (Ok act_result) old new more act fatal same is kept comes = λ place. refused-still (Ok act_result) old new more act fatal place same is kept (λ script history s. comes script history place s)

-- a sequence may send where it was granted
module _ {script : ScriptValue} {history : List Entry} {services : Services} (m : ServicesMatch script history services) (id home : ℕ) where
  pub send-refused : IsSome (mode_at history home) → option_and_then (λ a. grant_of id a.sequencer.driver) (get nat_eq services.arbiters home) ≡ None → option_and_then (send_refusal id) (sequencer_at history home) ≡ Some NotGranted
  send-refused moded none = by (mode_at history home) moded (sym (said m home (λ s. grant_of id s.driver)) ∙ none)
    where
      by : (mode : Option Mode) → IsSome mode → option_and_then (λ s. grant_of id s.driver) (option_map (sequencer_with history home) mode) ≡ None → option_and_then (send_refusal id) (option_map (sequencer_with history home) mode) ≡ Some NotGranted
      by None moded e = cc
      by (Some mode) moded e = rw e refl

  pub send-allowed : (way : How) → option_and_then (λ a. grant_of id a.sequencer.driver) (get nat_eq services.arbiters home) ≡ Some way → option_and_then (send_refusal id) (sequencer_at history home) ≡ None
  send-allowed way granted = by (mode_at history home) (sym (said m home (λ s. grant_of id s.driver)) ∙ granted)
    where
      by : (mode : Option Mode) → option_and_then (λ s. grant_of id s.driver) (option_map (sequencer_with history home) mode) ≡ Some way → option_and_then (send_refusal id) (option_map (sequencer_with history home) mode) ≡ None
      by None e = cc
      by (Some mode) e = rw e refl

  -- who drives the sequencer of a mode
  driver-by : (mode : Option Mode) → IsSome mode → option_and_then (λ a. a.driver) (option_map (arbiter_with (live_by (starts_of history) (finished_of history) (ended_of history)) (ledger_at history home)) mode) ≡ driver_requester history home
  driver-by None moded = cc
  driver-by (Some mode) moded = refl

  pub driver-known : IsSome (mode_at history home) → option_and_then (λ a. a.driver) (get nat_eq services.arbiters home) ≡ driver_requester history home
  driver-known moded = ap (option_and_then (λ (a : ArbiterValue). a.driver)) (m.arbitrating.arbiters_are.each home) ∙ driver-by (mode_at history home) moded

  -- what is sent is told to the driver
  pub granted-known : (way : How) → option_and_then (λ a. grant_of id a.sequencer.driver) (get nat_eq services.arbiters home) ≡ Some way → grant_of id (ledger_at history home).driver ≡ Some way
  granted-known way granted = by (mode_at history home) (sym (said m home (λ s. grant_of id s.driver)) ∙ granted)
    where
      by : (mode : Option Mode) → option_and_then (λ s. grant_of id s.driver) (option_map (sequencer_with history home) mode) ≡ Some way → grant_of id (driver_state history home) ≡ Some way
      by None e = cc
      by (Some mode) e = e

pub sent-calls : (history : List Entry) (performer : Who) (id home : ℕ) (item : Item) (way : How) → performer ≡ who.Sequence home id → grant_of id (driver_state history home) ≡ Some way → calls_caused history performer Done (Send item) ≡ calls_of_send (act_phase history) performer (driver_requester history home) item (Some way)
sent-calls history performer id home item way is granted = subst (λ (w : Who). calls_caused history w Done (Send item) ≡ calls_of_send (act_phase history) w (driver_requester history home) item (Some way)) (sym is) (rw granted refl)

-- who is told of an item is a component, and hears of it in the phase in which it asked, which has not ended
pub item-told :
    (ended : List Phase) (finished : List Who) (steps : List (Option SeqStep)) (components : List ℕ) (requester : Option DriverPort) (item : Option Item) → IfSome requester (λ driver. IsComponent components driver.who) → HasNotEnded ended (option_and_then (λ driver. driver.phase) requester)
    → All (IsToldOpen (is_told steps) ended finished) (calls_of_item requester item)
item-told ended finished steps components None item has unended = All-nil _
item-told ended finished steps components (Some driver) item has unended = All-cons (IsToldOpen (is_told steps) ended finished) (call_in driver.phase driver.who (call.NextItem driver.name item)) [] (by driver.who driver.phase has unended) (All-nil _)
  where
    by : (w : Who) (phase : Option Phase) → IsComponent components w → HasNotEnded ended phase → IfSome phase (λ one. is_told steps w ≡ (not (list_any (same_phase one) ended) && not (is_of_one finished (Object w))))
    by w None has unended = tt
    by (who.Node node) (Some phase) has unended = rw unended refl
    by (who.Sequence home id) (Some phase) has unended = absurd has

module _ {script : ScriptValue} {history : List Entry} {act : Act} {place : ℕ} {services : Services} (s : IsActContext script history act place services) (id home : ℕ) (seat : IsSeated history services.answer.performer id home) where
  performer-told : is_of_one (finished_of history) (Object services.answer.performer) ≡ false → IsToldOpen (is_told services.sequences.steps) (ended_of history) (finished_of history) (call_in (act_phase history) services.answer.performer (call.ItemDone None))
  performer-told goes = by (act_phase history) s.in_phase.unended
    where
      told : is_told services.sequences.steps services.answer.performer ≡ true
      told = rw seat.performer_is (s.known.sequencing.living id ∙ seat.lives)

      by : (phase : Option Phase) → HasNotEnded (ended_of history) phase → IfSome phase (λ one. is_told services.sequences.steps services.answer.performer ≡ (not (list_any (same_phase one) (ended_of history)) && not (is_of_one (finished_of history) (Object services.answer.performer))))
      by None unended = tt
      by (Some phase) unended = rw (told, unended, goes) refl

  granted-busy : (way : How) (state : Driver) → grant_of id state ≡ Some way → is_idle state ≡ false
  granted-busy way driver.Idle e = cc
  granted-busy way (driver.Waiting other) e = refl
  granted-busy way (driver.Granted one other) e = refl
  granted-busy way (driver.InHand one) e = refl

  requester-told : (item : Item) (way : How) → grant_of id (driver_state history home) ≡ Some way → All (IsToldOpen (is_told services.sequences.steps) (ended_of history) (finished_of history)) (calls_of_item (driver_requester history home) (Some item))
  requester-told item way granted = item-told (ended_of history) (finished_of history) services.sequences.steps (components_of history) (driver_requester history home) (Some item) (s.driving.drivers home) (s.driving.asks home (granted-busy way (driver_state history home) granted))

  pub sends-told :
      (item : Item) (way : How) → grant_of id (driver_state history home) ≡ Some way → is_of_one (finished_of history) (Object services.answer.performer) ≡ false
      → All (IsToldOpen (is_told services.sequences.steps) (ended_of history) (finished_of history)) (calls_of_send (act_phase history) services.answer.performer (driver_requester history home) item (Some way))
  sends-told item how.Next granted goes = requester-told item how.Next granted
  sends-told item how.Try granted goes = requester-told item how.Try granted
  sends-told item how.Get granted goes =
      All-push (IsToldOpen (is_told services.sequences.steps) (ended_of history) (finished_of history)) (calls_of_item (driver_requester history home) (Some item)) (call_in (act_phase history) services.answer.performer (call.ItemDone None))
      (requester-told item how.Get granted) (performer-told goes)
