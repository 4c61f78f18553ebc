-- What drivers do at a sequencer, and what a sequence that finishes leaves there.
use Rattle.world_acts_sequencers.proofs.Common.{◌≡◌, ℕ, suc, ◌==◌, nat_eq, nat_lt, Bool, true, false, not, ◌&&◌, List, [], ◌∷◌, length, slice_get, All, Option, Some, None, IsSome, IfSome, is_none, is_some, option_map, option_and_then, Ok, Err, refl, ap, sym, ◌∙◌, subst, arith, rules, if◌then◌else◌, list_any, option_map_or, get, nat_tests, All-cons, All-nil, All-weaker, fault_if, unless, Phase, same_phase, AreInPathOrder, path_order, Item, Seq, WiringValue, is_closed, targets_of, Asked, Driver, Idle, Waiting, Granted, InHand, How, Mode, SeqStep, grant_of, hand_of, is_idle, is_try, left_by, SequencesValue, numbered, after_leave, answer, candidates_at, with_idle, same_who, Who, Act, Ask, EndStep, ItemDone, Fatal, NoPort, NothingOut, OutsideTask, Outcome, Done, Finished, Refused, Waits, Entry, Did, ScriptValue, DriverPort, Object, SequencerRequest, driver_requester, driver_state, if_arbitrated, mode_at, sequencer_at, sequencer_below, Exactly, by_open, by_effect, calls_caused, is_of_one, lapsed_by, calls_of_done, call_in, calls_of_item, act_phase, components_of, ended_of, remaining_acts, nodes_of, rest_of, in_task, port_below, ask_refusal, done_refusal, driving_refusal, StartRecord, starts_of, finished_of, phase_begun, sequences_of, starts_in, asked_effect, driven_at, Reached, Services, GrantIndex, LearnsAt, known_at, ArbiterValue, ArbiterMap, asked_at, asked_in, at_sequencer, IsArbitrated, IsArbitrating, Ledger, arbiter_of, arbiter_with, ledger_at, runs_on, if_kept, lapsed_calls, reached_at, reached_in, waiting_outcome, port_in, is_told, IsSequencing, live_by, lives_by, phase_at, phase-known, CanPerform, IsActContext, one_done, unreported, ServicesMatch, alike-is, arbitrated-driver, arbitrated-more, arbiter-changed, left-is, IsPlaced, arbitrating-one, known-none, learns-else, learns-here, none-locked, none-served, sequencer-is, acted, closed-same, port-known, IsToldOpen, Node, ChangesAt, itself}
use Rattle.uvm_sequencer.specs.declared.requests.Request.{Request}
use Rattle.world_acts_sequencers.proofs.Seated.{item-told, kept-there, placed}
use Rattle.uvm_sequencer.specs.declared.drivers.Asked.TheVariants as asked
use Rattle.uvm_sequencer.specs.declared.drivers.How.TheVariants as how
use Rattle.uvm_acts.specs.declared.acts.Who.TheVariants as who
use Rattle.uvm_acts.specs.declared.acts.Call.TheVariants as call
use Rattle.world_sequencing.specs.declared.start_records.StartRecord as kept

-- which sequencer is reached
module _ {script : ScriptValue} {history : List Entry} {services : Services} (m : ServicesMatch script history services) (name : List ℕ) (closed : is_closed services.wiring ≡ true) where
  node-reached : (port node : ℕ) → option_map (λ (r : Reached). r.sequencer) (if_kept services.arbiters port node) ≡ if_arbitrated history node
  node-reached port node = rw (m.arbitrating.arbiters_are.each node) (by (mode_at history node))
    where
      by : (mode : Option Mode) → option_map (λ (r : Reached). r.sequencer) (if is_some (option_map (arbiter_with (live_by (starts_of history) (finished_of history) (ended_of history)) (ledger_at history node)) mode) then Some (record { port = port; sequencer = node }) else None) ≡ option_map (λ mode. node) mode
      by None = refl
      by (Some mode) = refl

  target-reached : (port : ℕ) (target : Option ℕ) → option_map (λ (r : Reached). r.sequencer) (option_and_then (if_kept services.arbiters port) target) ≡ option_and_then (if_arbitrated history) target
  target-reached port None = refl
  target-reached port (Some node) = node-reached port node

  port-reached : (port : Option ℕ) → option_map (λ (r : Reached). r.sequencer) (option_and_then (reached_at services.wiring services.arbiters) port) ≡ option_and_then (λ port. option_and_then (if_arbitrated history) (slice_get (targets_of services.wiring port) 0)) port
  port-reached None = refl
  port-reached (Some port) = target-reached port (slice_get (targets_of services.wiring port) 0)

  pub reached-known : option_map (λ (r : Reached). r.sequencer) (reached_in services name) ≡ sequencer_below history services.answer.performer name
  unfolding sequencer_below
  reached-known =
      port-reached (port_in services.tree.nodes services.wiring services.answer.performer Seq name)
      ∙ ap (option_and_then (λ port. option_and_then (if_arbitrated history) (slice_get (targets_of services.wiring port) 0))) (sym (port-known m Seq name closed))
      ∙ ap (λ (w : WiringValue). option_and_then (λ port. option_and_then (if_arbitrated history) (slice_get (targets_of w port) 0)) (port_below history services.answer.performer Seq name)) (closed-same m.connecting closed)

-- why it is refused to ask there
pub driving-in : (phase : Option Phase) (refusal : Option Fatal) → in_task phase ≡ true → driving_refusal phase true refusal ≡ refusal
unfolding driving_refusal
driving-in phase None task = rw task refl
driving-in phase (Some fatal) task = rw task refl

pub driving-outside : (phase : Option Phase) (there : Bool) (refusal : Option Fatal) → in_task phase ≡ false → driving_refusal phase there refusal ≡ Some OutsideTask
unfolding driving_refusal
driving-outside phase there refusal outside = rw outside refl

pub driving-nowhere : (phase : Option Phase) (there : Bool) (refusal : Option Fatal) → in_task phase ≡ true → there ≡ false → driving_refusal phase there refusal ≡ Some NoPort
unfolding driving_refusal
driving-nowhere phase there refusal task none = rw (task, none) refl

driving-alike : (phase : Option Phase) (a b : Bool) (refusal : Option Fatal) → (in_task phase ≡ true → a ≡ b) → driving_refusal phase a refusal ≡ driving_refusal phase b refusal
unfolding driving_refusal
driving-alike phase a b refusal same = by (in_task phase) refl
  where
    by : (task : Bool) → in_task phase ≡ task → driving_refusal phase a refusal ≡ driving_refusal phase b refusal
    by true is = rw (same is) refl
    by false is = rw is refl

some-mapped : {A B : Type 0} (f : A → B) (o : Option A) → is_some (option_map f o) ≡ is_some o
some-mapped f None = refl
some-mapped f (Some a) = refl

pub driving-refuses :
    {script : ScriptValue} {history : List Entry} {services : Services} → ServicesMatch script history services → CanPerform services → (name : List ℕ) (fatal : Fatal) (refusal : Option Fatal)
    → driving_refusal services.answer.phase (is_some (reached_in services name)) refusal ≡ Some fatal → driving_refusal (act_phase history) (is_some (sequencer_below history services.answer.performer name)) refusal ≡ Some fatal
driving-refuses {history = history} {services} m can name fatal refusal why =
    ap (λ (phase : Option Phase). driving_refusal phase (is_some (sequencer_below history services.answer.performer name)) refusal) (sym m.answer.phase)
    ∙ driving-alike services.answer.phase (is_some (sequencer_below history services.answer.performer name)) (is_some (reached_in services name)) refusal (λ task. ap is_some (sym (reached-known m name (can.closed task))) ∙ some-mapped (λ (r : Reached). r.sequencer) (reached_in services name))
    ∙ why

-- an act is refused where no sequencer is reached
module _ (script : ScriptValue) (history : List Entry) (performer : Who) (name : List ℕ) where
  pub ask-unreached :
      (way : How) (fatal : Fatal) → ((refusal : Option Fatal) → driving_refusal (act_phase history) (is_some (sequencer_below history performer name)) refusal ≡ Some fatal)
      → by_open script history performer (Ask name way) ≡ Exactly (Did performer (Refused fatal) (Ask name way))
  ask-unreached way fatal why = rw (why (option_and_then ask_refusal (driven_at history performer name))) refl

  pub done-unreached :
      (response : Option Item) (fatal : Fatal) → ((refusal : Option Fatal) → driving_refusal (act_phase history) (is_some (sequencer_below history performer name)) refusal ≡ Some fatal)
      → by_open script history performer (ItemDone name response) ≡ Exactly (Did performer (Refused fatal) (ItemDone name response))
  done-unreached response fatal why = rw (why (option_and_then done_refusal (driven_at history performer name))) refl

-- a sequencer is reached after a log
pub record IsReaching (history : List Entry) (performer : Who) (name : List ℕ) (node : ℕ) : Type 0 where
  pub task : in_task (act_phase history) ≡ true
  pub leads : sequencer_below history performer name ≡ Some node
  pub moded : IsSome (mode_at history node)
  pub there : IsPlaced (path_order (nodes_of history)) node

moded-by : (history : List Entry) (node : ℕ) (mode : Option Mode) → IsSome (option_map (arbiter_with (live_by (starts_of history) (finished_of history) (ended_of history)) (ledger_at history node)) mode) → IsSome mode
moded-by history node None some = some
moded-by history node (Some mode) some = refl

pub reaching :
    {script : ScriptValue} {history : List Entry} {act : Act} {place : ℕ} {services : Services} (name : List ℕ) (reached : Reached) → IsActContext script history act place services → CanPerform services → ((nodes : List Node) → AreInPathOrder nodes (path_order nodes))
    → (in_task services.answer.phase ≡ true) × (reached_in services name ≡ Some reached) × IsSome (get nat_eq services.arbiters reached.sequencer) → IsReaching history services.answer.performer name reached.sequencer
reaching {history = history} {services = services} name reached s can order found =
    let m = s.known in
    let moded = moded-by history reached.sequencer (mode_at history reached.sequencer) (rw (m.arbitrating.arbiters_are.each reached.sequencer) at found.2) in
    record {
      task = ap (λ (phase : Option Phase). in_task phase) (sym m.answer.phase) ∙ found.0;
      leads = sym (reached-known m name (can.closed found.0)) ∙ rw found.1 refl;
      moded = moded;
      there = placed s reached.sequencer order moded;
    }

-- what comes of asking there
at-node : (history : List Entry) (node : ℕ) (kept : Option ArbiterValue) → kept ≡ arbiter_of (live_by (starts_of history) (finished_of history) (ended_of history)) (ledger_at history node) → sequencer_at history node ≡ option_map (λ a. a.sequencer) kept
at-node history node kept is = sequencer-is history node ∙ ap (option_map (λ (a : ArbiterValue). a.sequencer)) (sym is)

waits-comes : (performer : Who) (act : Act) (way : How) (requests : List Request) → answer way requests ≡ asked.Waits → by_effect performer act (asked_effect way (nat_lt 0 (length requests))) ≡ Exactly (Did performer (waiting_outcome way) act)
waits-comes performer act how.Try [] e = cc
waits-comes performer act how.Try (request ∷ requests) e = let some : nat_lt 0 (suc (length requests)) ≡ true = grind (arith, nat_tests) in rw some refl
waits-comes performer act how.Next requests e = refl
waits-comes performer act how.Get requests e = refl

none-comes : (performer : Who) (act : Act) (way : How) (requests : List Request) → answer way requests ≡ asked.Nothing → by_effect performer act (asked_effect way (nat_lt 0 (length requests))) ≡ Exactly (Did performer (Waits false) act)
none-comes performer act how.Try [] e = refl
none-comes performer act how.Try (request ∷ requests) e = cc
none-comes performer act how.Next requests e = cc
none-comes performer act how.Get requests e = cc

allowed : (refusal : Option Fatal) (a b : Asked) → unless refusal a ≡ Ok b → (refusal ≡ None) × (a ≡ b)
allowed None a b e = (refl, cc)
allowed (Some fatal) a b e = cc

module _ (script : ScriptValue) (history : List Entry) (performer : Who) (name : List ℕ) (node : ℕ) (r : IsReaching history performer name node) (kept : Option ArbiterValue) (is : kept ≡ arbiter_of (live_by (starts_of history) (finished_of history) (ended_of history)) (ledger_at history node)) (some : IsSome kept) where
  there-is : (a : ArbiterValue) × (kept ≡ Some a) × (sequencer_at history node ≡ Some a.sequencer)
  there-is = by kept refl some
    where
      by : (o : Option ArbiterValue) → kept ≡ o → IsSome o → (a : ArbiterValue) × (kept ≡ Some a) × (sequencer_at history node ≡ Some a.sequencer)
      by None e some = cc
      by (Some a) e some = (a, e, at-node history node kept is ∙ ap (option_map (λ (a : ArbiterValue). a.sequencer)) e)

  ask-open : (way : How) (a : ArbiterValue) → sequencer_at history node ≡ Some a.sequencer → ask_refusal a.sequencer ≡ None → by_open script history performer (Ask name way) ≡ by_effect performer (Ask name way) (asked_effect way (nat_lt 0 (length (candidates_at (sequences_of history) a.sequencer))))
  ask-open way a at none =
      let does : driving_refusal (act_phase history) true (ask_refusal a.sequencer) ≡ None = driving-in (act_phase history) (ask_refusal a.sequencer) r.task ∙ none in
      rw (r.leads, at, does) refl

  pub ask-waits : (way : How) → asked_in (sequences_of history) way kept ≡ Ok asked.Waits → by_open script history performer (Ask name way) ≡ Exactly (Did performer (waiting_outcome way) (Ask name way))
  ask-waits way e =
      let t = there-is in
      let told = allowed (ask_refusal t.0.sequencer) (answer way (candidates_at (sequences_of history) t.0.sequencer)) asked.Waits (rw t.1 at e) in
      ask-open way t.0 t.2 told.0 ∙ waits-comes performer (Ask name way) way (candidates_at (sequences_of history) t.0.sequencer) told.1

  pub ask-none : (way : How) → asked_in (sequences_of history) way kept ≡ Ok asked.Nothing → by_open script history performer (Ask name way) ≡ Exactly (Did performer (Waits false) (Ask name way))
  ask-none way e =
      let t = there-is in
      let told = allowed (ask_refusal t.0.sequencer) (answer way (candidates_at (sequences_of history) t.0.sequencer)) asked.Nothing (rw t.1 at e) in
      ask-open way t.0 t.2 told.0 ∙ none-comes performer (Ask name way) way (candidates_at (sequences_of history) t.0.sequencer) told.1

  refused-for : (refusal : Option Fatal) (value : Asked) (fatal : Fatal) → unless refusal value ≡ Err fatal → refusal ≡ Some fatal
  refused-for None value fatal e = cc
  refused-for (Some other) value fatal e = cc

  pub ask-refused : (way : How) (fatal : Fatal) → asked_in (sequences_of history) way kept ≡ Err fatal → by_open script history performer (Ask name way) ≡ Exactly (Did performer (Refused fatal) (Ask name way))
  ask-refused way fatal e =
      let t = there-is in
      let why = refused-for (ask_refusal t.0.sequencer) (answer way (candidates_at (sequences_of history) t.0.sequencer)) fatal (rw t.1 at e) in
      let refuses : driving_refusal (act_phase history) true (ask_refusal t.0.sequencer) ≡ Some fatal = driving-in (act_phase history) (ask_refusal t.0.sequencer) r.task ∙ why in
      rw (r.leads, t.2, refuses) refl

  -- and of being done
  done-allowed : (o : Option ℕ) (id : ℕ) → o ≡ Some id → fault_if (is_none o) NothingOut ≡ None
  done-allowed None id e = cc
  done-allowed (Some other) id e = refl

  pub done-comes : (response : Option Item) (id : ℕ) → option_and_then (λ a. hand_of a.sequencer.driver) kept ≡ Some id → by_open script history performer (ItemDone name response) ≡ Exactly (Did performer Done (ItemDone name response))
  done-comes response id e =
      let t = there-is in
      let hand : hand_of t.0.sequencer.driver ≡ Some id = rw t.1 at e in
      let does : driving_refusal (act_phase history) true (done_refusal t.0.sequencer) ≡ None = driving-in (act_phase history) (done_refusal t.0.sequencer) r.task ∙ done-allowed (hand_of t.0.sequencer.driver) id hand in
      rw (r.leads, t.2, does) refl

  pub done-refused : (response : Option Item) (fatal : Fatal) → option_and_then (λ a. done_refusal a.sequencer) kept ≡ Some fatal → by_open script history performer (ItemDone name response) ≡ Exactly (Did performer (Refused fatal) (ItemDone name response))
  done-refused response fatal e =
      let t = there-is in
      let why : done_refusal t.0.sequencer ≡ Some fatal = rw t.1 at e in
      let refuses : driving_refusal (act_phase history) true (done_refusal t.0.sequencer) ≡ Some fatal = driving-in (act_phase history) (done_refusal t.0.sequencer) r.task ∙ why in
      rw (r.leads, t.2, refuses) refl

  -- whose item is in hand
  hand-by : (mode : Option Mode) (id : ℕ) → option_and_then (λ a. hand_of a.sequencer.driver) (option_map (arbiter_with (live_by (starts_of history) (finished_of history) (ended_of history)) (ledger_at history node)) mode) ≡ Some id → hand_of (driver_state history node) ≡ Some id
  hand-by None id e = cc
  hand-by (Some mode) id e = e

  pub hand-known : (id : ℕ) → option_and_then (λ a. hand_of a.sequencer.driver) kept ≡ Some id → hand_of (driver_state history node) ≡ Some id
  hand-known id e = hand-by (mode_at history node) id (sym (ap (option_and_then (λ (a : ArbiterValue). hand_of a.sequencer.driver)) is) ∙ e)

-- a driver waits from now on
module _ {script : ScriptValue} {history : List Entry} {act : Act} {place : ℕ} {services : Services} (s : IsActContext script history act place services) (name : List ℕ) (node : ℕ) (r : IsReaching history services.answer.performer name node) where
  one-there : IsArbitrated (length history) (length (nodes_of history)) (starts_of history) node (ledger_at history node)
  one-there = s.known.arbitrating.arbitrated.each node

  asked-kept :
      (way : How) (outcome : Outcome) (more : ArbiterMap) → ((n : ℕ) → ledger_at (Did services.answer.performer outcome (Ask name way) ∷ history) n ≡ record (ledger_at history n) {
        driver = if option_map_or (λ other. other == n) (sequencer_below history services.answer.performer name) false then Waiting way else driver_state history n;
        requester = if option_map_or (λ other. other == n) (sequencer_below history services.answer.performer name) false then Some (record { who = services.answer.performer; name = name; phase = act_phase history }) else driver_requester history n;
      })
      → ChangesAt node (asked_at (record { who = services.answer.performer; name = name; phase = act_phase history }) way asked.Waits) services.arbiters more
      → (after : GrantIndex) → after.nodes.items ≡ node ∷ [] → ((n : ℕ) → known_at after n ≡ known_at services.grant_index n)
      → IsArbitrating (suc (length history)) (nodes_of history) (starts_of history) (finished_of history) (ended_of history) (ledger_at (Did services.answer.performer outcome (Ask name way) ∷ history)) more after
  asked-kept way outcome more are changes after is knows =
      let driver : DriverPort = record { who = services.answer.performer; name = name; phase = act_phase history } in
      let l = ledger_at history node in
      let live = live_by (starts_of history) (finished_of history) (ended_of history) in
      let here : ledger_at (Did services.answer.performer outcome (Ask name way) ∷ history) node ≡ record l { driver = Waiting way; requester = Some driver } = are node ∙ rw (r.leads, itself node) refl in
      kept-there s node r.there (ledger_at (Did services.answer.performer outcome (Ask name way) ∷ history)) more (asked_at driver way asked.Waits) (λ n other. are n ∙ rw (r.leads, other) refl)
      (ap (arbiter_of live) here ∙ arbiter-changed live live l (record l { driver = Waiting way; requester = Some driver }) (asked_at driver way asked.Waits) refl (λ mode. refl))
      (subst (λ (m : Ledger). IsArbitrated (suc (length history)) (length (nodes_of history)) (starts_of history) node m) (sym here) (arbitrated-driver one-there (Waiting way) (Some driver) r.moded)) changes
      after is (λ n other. knows n) (λ a passed. record { within = rw (knows node) passed.within; blocked = rw (knows node) passed.blocked })

  pub asked-goes :
      (way : How) (more : ArbiterMap) → remaining_acts script history ≡ Ask name way ∷ rest_of (remaining_acts script history) → ChangesAt node (asked_at (record { who = services.answer.performer; name = name; phase = act_phase history }) way asked.Waits) services.arbiters more
      → (after : GrantIndex) → after.nodes.items ≡ node ∷ [] → ((n : ℕ) → known_at after n ≡ known_at services.grant_index n)
      → ServicesMatch script (Did services.answer.performer (waiting_outcome way) (Ask name way) ∷ history) (one_done (unreported (record services { arbiters = more; grant_index = after })))
  asked-goes how.Next more left changes after is knows = let m = s.known in let arbitrating = asked-kept how.Next Done more (λ n. refl) changes after is knows in search (rules, acted)
  asked-goes how.Try more left changes after is knows = let m = s.known in let arbitrating = asked-kept how.Try (Waits true) more (λ n. refl) changes after is knows in search (rules, acted)
  asked-goes how.Get more left changes after is knows = let m = s.known in let arbitrating = asked-kept how.Get Done more (λ n. refl) changes after is knows in search (rules, acted)

  -- or is idle
  pub done-kept :
      (response : Option Item) (more : ArbiterMap) → ChangesAt node (at_sequencer with_idle) services.arbiters more
      → (after : GrantIndex) → after.nodes.items ≡ node ∷ [] → ((n : ℕ) → known_at after n ≡ known_at services.grant_index n)
      → IsArbitrating (suc (length history)) (nodes_of history) (starts_of history) (finished_of history) (ended_of history) (ledger_at (Did services.answer.performer Done (ItemDone name response) ∷ history)) more after
  done-kept response more changes after is knows =
      let l = ledger_at history node in
      let live = live_by (starts_of history) (finished_of history) (ended_of history) in
      let here : ledger_at (Did services.answer.performer Done (ItemDone name response) ∷ history) node ≡ record l { driver = Idle } = rw (r.leads, itself node) refl in
      kept-there s node r.there (ledger_at (Did services.answer.performer Done (ItemDone name response) ∷ history)) more (at_sequencer with_idle) (λ n other. rw (r.leads, other) refl)
      (ap (arbiter_of live) here ∙ arbiter-changed live live l (record l { driver = Idle }) (at_sequencer with_idle) refl (λ mode. refl))
      (subst (λ (m : Ledger). IsArbitrated (suc (length history)) (length (nodes_of history)) (starts_of history) node m) (sym here) (arbitrated-driver one-there Idle l.requester r.moded)) changes
      after is (λ n other. knows n) (λ a passed. record { within = rw (knows node) passed.within; blocked = rw (knows node) passed.blocked })

  -- whose item it was hears of it, if it lives, in the phase in which it was started
  pub done-told : (response : Option Item) (id : ℕ) → hand_of (driver_state history node) ≡ Some id → All (IsToldOpen (is_told services.sequences.steps) (ended_of history) (finished_of history)) (calls_of_done (phase_begun history) response node (Some id))
  done-told response id hand =
      All-cons (IsToldOpen (is_told services.sequences.steps) (ended_of history) (finished_of history)) (call_in (phase_begun history id) (who.Sequence node id) (call.ItemDone response)) []
      (rw (s.known.sequencing.living id) (found-told (numbered (starts_of history) id) (s.driving.hands node id hand))) (All-nil _)
    where
      swap : (a b : Bool) → a && b ≡ b && a
      swap true true = refl
      swap true false = refl
      swap false true = refl
      swap false false = refl

      found-told :
          (found : Option StartRecord) → option_map (λ start_record. start_record.start.home) found ≡ Some node
          → IfSome (option_and_then (λ start_record. start_record.phase) found) (λ phase. option_map_or (lives_by (finished_of history) (ended_of history) id) found false ≡ (not (list_any (same_phase phase) (ended_of history)) && not (is_of_one (finished_of history) (Object (who.Sequence node id)))))
      found-told None e = cc
      found-told (Some b) e = by b.phase refl
        where
          by : (phase : Option Phase) → b.phase ≡ phase → IfSome phase (λ one. lives_by (finished_of history) (ended_of history) id b ≡ (not (list_any (same_phase one) (ended_of history)) && not (is_of_one (finished_of history) (Object (who.Sequence node id)))))
          by None is = tt
          by (Some one) is =
              let at : b.start.home ≡ node = cc in
              rw (is, at) (swap (not (list_any (same_who (who.Sequence node id)) (finished_of history))) (not (list_any (same_phase one) (ended_of history))))

  pub done-calls : (response : Option Item) (id : ℕ) → hand_of (driver_state history node) ≡ Some id → calls_caused history services.answer.performer Done (ItemDone name response) ≡ calls_of_done (phase_begun history) response node (Some id)
  done-calls response id hand = rw (r.leads, hand) refl

-- the phase in which a sequence was started is kept
pub hand-phase :
    {begun : List StartRecord} {finished : List Who} {ended : List Phase} {enders : List Who} {old : SequencesValue} {start_records : List kept.StartRecord} → IsSequencing begun finished ended enders old start_records
    → (home id : ℕ) → option_map (λ start_record. start_record.start.home) (numbered begun id) ≡ Some home → phase_at start_records id ≡ option_and_then (λ start_record. start_record.phase) (numbered begun id)
hand-phase {begun = begun} {start_records = start_records} s home id hands = by (numbered begun id) refl hands
  where
    by : (found : Option StartRecord) → numbered begun id ≡ found → option_map (λ start_record. start_record.start.home) found ≡ Some home → phase_at start_records id ≡ option_and_then (λ start_record. start_record.phase) (numbered begun id)
    by None found e = cc
    by (Some b) found e = phase-known begun start_records id b s.are found

-- a sequence that has finished leaves its sequencer
module _ {script : ScriptValue} {history : List Entry} {act : Act} {place : ℕ} {services : Services} (s : IsActContext script history act place services) (id : ℕ) (b : StartRecord) (found : numbered (starts_of history) id ≡ Some b) (lives : lives_by (finished_of history) (ended_of history) id b ≡ true) (moded : IsSome (mode_at history b.start.home)) (there : IsPlaced (path_order (nodes_of history)) b.start.home) where
  abbrev home : ℕ
  home = b.start.home

  abbrev gone : ℕ → Bool
  gone = live_by (starts_of history) (who.Sequence b.start.home id ∷ finished_of history) (ended_of history)

  abbrev live : ℕ → Bool
  live = live_by (starts_of history) (finished_of history) (ended_of history)

  but-one : (n : ℕ) → gone n ≡ (live n && not (n == id))
  but-one n = tested (n == id) refl
    where
      and-false : (v : Bool) → v && false ≡ false
      and-false true = refl
      and-false false = refl

      and-true : (v : Bool) → v && true ≡ v
      and-true true = refl
      and-true false = refl

      others : (one : Option StartRecord) → (n == id) ≡ false → option_map_or (lives_by (who.Sequence b.start.home id ∷ finished_of history) (ended_of history) n) one false ≡ option_map_or (lives_by (finished_of history) (ended_of history) n) one false
      others None e = refl
      others (Some other) e = rw e refl

      tested : (v : Bool) → (n == id) ≡ v → gone n ≡ (live n && not (n == id))
      tested true is =
          let same : n ≡ id = grind (arith, nat_tests) in
          let dead : gone id ≡ false = rw (found, itself id, itself b.start.home) refl in
          rw is (ap gone same ∙ dead ∙ sym (and-false (live n)))
      tested false is = rw is (others (numbered (starts_of history) n) is ∙ sym (and-true (live n)))

  other-id : (n m : ℕ) → (home == n) ≡ false → runs_on (starts_of history) n m → (m == id) ≡ false
  other-id n m apart here = tested (m == id) refl
    where
      tested : (v : Bool) → (m == id) ≡ v → (m == id) ≡ false
      tested false is = is
      tested true is =
          let same : m ≡ id = grind (arith, nat_tests) in
          let at : option_map (λ (one : StartRecord). one.start.home) (numbered (starts_of history) id) ≡ Some n = subst (λ (k : ℕ). runs_on (starts_of history) n k) same here in
          let both : Some b.start.home ≡ Some n = sym (ap (option_map (λ (one : StartRecord). one.start.home)) found) ∙ at in
          let stands : b.start.home ≡ n = cc in
          let clash : (b.start.home == n) ≡ true = grind (arith, nat_tests) in
          cc

  alike-at : (n : ℕ) → (home == n) ≡ false → (m : ℕ) → runs_on (starts_of history) n m → gone m ≡ live m
  alike-at n apart m here = but-one m ∙ rw (other-id n m apart here) (and-true (live m))
    where
      and-true : (v : Bool) → v && true ≡ v
      and-true true = refl
      and-true false = refl

  elsewhere : (n : ℕ) → (home == n) ≡ false → arbiter_of gone (ledger_at history n) ≡ arbiter_of live (ledger_at history n)
  elsewhere n apart =
      let one = s.known.arbitrating.arbitrated.each n in
      alike-is live gone (ledger_at history n)
      (All-weaker (λ (w : SequencerRequest). runs_on (starts_of history) n w.request.seq) (λ (w : SequencerRequest). gone w.request.seq ≡ live w.request.seq) (λ w here. alike-at n apart w.request.seq here) (ledger_at history n).requests one.requests_here)
      (All-weaker (runs_on (starts_of history) n) (λ m. gone m ≡ live m) (λ m here. alike-at n apart m here) (ledger_at history n).held one.held_here)

  pub finish-kept : (more : ArbiterMap) → ChangesAt b.start.home (at_sequencer (after_leave id)) services.arbiters more → (after : GrantIndex) → after.nodes.items ≡ b.start.home ∷ [] → LearnsAt b.start.home 0 services.grant_index after
      → IsArbitrating (suc (length history)) (nodes_of history) (starts_of history) (who.Sequence b.start.home id ∷ finished_of history) (ended_of history) (ledger_at (Did (who.Sequence b.start.home id) Finished EndStep ∷ history)) more after
  finish-kept more changes after is learns =
      let l = ledger_at history b.start.home in
      let m = s.known in
      let here : ledger_at (Did (who.Sequence b.start.home id) Finished EndStep ∷ history) b.start.home ≡ record l { driver = left_by (grant_of id l.driver) l.driver } = rw (itself b.start.home) refl in
      arbitrating-one m.arbitrating (who.Sequence b.start.home id ∷ finished_of history) (ledger_at (Did (who.Sequence b.start.home id) Finished EndStep ∷ history)) more b.start.home (at_sequencer (after_leave id))
      (λ n apart. rw apart (elsewhere n apart)) (ap (arbiter_of gone) here ∙ left-is live gone l id but-one) changes (λ n. every n (b.start.home == n) refl) there
      (none-locked history m.arbitrating.contested_is s.settled.unlocked) (none-served history m.arbitrating.contested_is s.settled.unserved)
      after is (learns-else b.start.home 0 services.grant_index after learns) (learns-here (starts_in (starts_of history)) b.start.home 0 services.grant_index after learns _ (known-none (starts_in (starts_of history)) _))
    where
      every : (n : ℕ) (v : Bool) → (b.start.home == n) ≡ v → IsArbitrated (suc (length history)) (length (nodes_of history)) (starts_of history) n (ledger_at (Did (who.Sequence b.start.home id) Finished EndStep ∷ history) n)
      every n false is = rw is (arbitrated-more (s.known.arbitrating.arbitrated.each n))
      every n true is =
          let same : b.start.home ≡ n = grind (arith, nat_tests) in
          let l = ledger_at history b.start.home in
          subst (λ (k : ℕ). IsArbitrated (suc (length history)) (length (nodes_of history)) (starts_of history) k (ledger_at (Did (who.Sequence b.start.home id) Finished EndStep ∷ history) k)) same
          (rw (itself b.start.home) (arbitrated-driver (s.known.arbitrating.arbitrated.each b.start.home) (left_by (grant_of id l.driver) l.driver) l.requester moded))

  -- the driver of a `try` that lapses is told
  lapsed-by : (mode : Option Mode) → IsSome mode → lapsed_calls (option_map (arbiter_with live (ledger_at history b.start.home)) mode) id ≡ lapsed_by history b.start.home (Some id)
  lapsed-by None moded = cc
  lapsed-by (Some mode) moded = refl

  pub lapsed-known : lapsed_calls (get nat_eq services.arbiters b.start.home) id ≡ lapsed_by history b.start.home (Some id)
  lapsed-known = rw (s.known.arbitrating.arbiters_are.each b.start.home) (lapsed-by (mode_at history b.start.home) moded)

  pub lapsed-told : (finished : List Who) (steps : List (Option SeqStep)) → All (IsToldOpen (is_told steps) (ended_of history) finished) (lapsed_by history b.start.home (Some id))
  lapsed-told finished steps = by (is_try (grant_of id (driver_state history b.start.home))) refl
    where
      try-busy : (state : Driver) → is_try (grant_of id state) ≡ true → is_idle state ≡ false
      try-busy Idle e = cc
      try-busy (Waiting way) e = refl
      try-busy (Granted other way) e = refl
      try-busy (InHand other) e = refl

      by : (lapses : Bool) → is_try (grant_of id (driver_state history b.start.home)) ≡ lapses → All (IsToldOpen (is_told steps) (ended_of history) finished) (if lapses then calls_of_item (driver_requester history b.start.home) None else [])
      by true is = item-told (ended_of history) finished steps (components_of history) (driver_requester history b.start.home) None (s.driving.drivers b.start.home) (s.driving.asks b.start.home (try-busy (driver_state history b.start.home) is))
      by false is = All-nil _
