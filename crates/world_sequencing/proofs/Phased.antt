-- What is kept of sequencers, where a phase ends.
use Rattle.world_sequencing.proofs.Common.{◌≡◌, ℕ, suc, ◌<◌, nat_eq, Bool, true, false, not, ◌&&◌, ◌||◌, List, [], ◌∷◌, length, map, filter, Contains, Option, Some, None, IsSome, IfSome, option_map, option_and_then, refl, ap, sym, ◌∙◌, arith, if◌then◌else◌, nat_eq_equiv, flat_map, list_any, option_map_or, get, nat_tests, All-append, All-cons, All-contains_itself, All-nil, All-weaker, Contains-from_any, list_any-from_Contains, Phase, Run, is_runtime, same_phase, Node, path_order, Mode, SeqStep, How, Driver, readiness, is_idle, loses_try, wait_of, is_live_at, numbered, Who, Entry, End, ScriptValue, DriverPort, Object, DueCall, RunStage, Before, During, After, Ended, SequencerRequest, driver_requester, driver_state, ends_ask, waits_by, is_of_one, lapsed_at, calls_of_item, components_of, ended_of, in_progress, is_of_phase, nodes_of, running, stage_of, AsksAreInPhase, IsComponent, LivingRun, PhasesInProgressAreOpen, is_going, EachIsNext, IsNext, StartRecord, starts_of, finished_of, is_live, is_over_phase, phase_begun, starts_in, GrantIndex, ForgetsAll, IsKnown, known_at, ChangesEach, ArbiterMap, ended_at, lapsed_in, lapsed_with, lock_in, ready_in, AreContested, IsArbitrated, IsArbitrating, Ledger, arbiter_of, arbiter_with, ledger_at, queue_of, runs_on, live_by, lives_by, is_told, IsToldOpen, filter-all, filter-none, All}
use Rattle.uvm_sequencer.specs.declared.drivers.Driver.TheVariants as driver
use Rattle.uvm_acts.specs.declared.acts.Who.TheVariants as who
use Rattle.bench_history.specs.Dues as dues
use Rattle.world_sequencing.proofs.Arbited.{arbitrated-ended, ended-is, filter-empty}
use Rattle.world_sequencing.proofs.Contested.{known-none}

-- the sequencers at which the end of a phase may let something be granted: all, where others go on beside it
abbrev pub reopened : Phase → List Node → List ℕ
reopened phase nodes = if is_runtime phase then path_order nodes else []

-- the path order has each node besides the top
abbrev pub HoldsEach : List Node → Type 0
HoldsEach nodes = (n : ℕ) → 0 < n → n < length nodes → Contains (path_order nodes) n

-- who lives after the end of a phase lived before it
still-before : (f a b : Bool) → f && not (a || b) ≡ true → f && not b ≡ true
still-before true true b e = cc
still-before true false b e = e
still-before false a b e = cc

over-before : (f : Bool) (phase : Phase) (ended : List Phase) (started : Option Phase) → f && not (is_over_phase (phase ∷ ended) started) ≡ true → f && not (is_over_phase ended started) ≡ true
over-before f phase ended None e = e
over-before f phase ended (Some other) e = still-before f (same_phase other phase) (list_any (same_phase other) ended) e

live-before : (begun : List StartRecord) (finished : List Who) (ended : List Phase) (phase : Phase) (id : ℕ) → live_by begun finished (phase ∷ ended) id ≡ true → live_by begun finished ended id ≡ true
live-before begun finished ended phase id e = by (numbered begun id) e
  where
    by : (found : Option StartRecord) → option_map_or (lives_by finished (phase ∷ ended) id) found false ≡ true → option_map_or (lives_by finished ended id) found false ≡ true
    by None e = cc
    by (Some b) e = over-before _ phase ended b.phase e

-- all are looked at, or none
flat-none : {A B : Type 0} (f : A → List B) (xs : List A) → ((x : A) → f x ≡ []) → flat_map f xs ≡ []
flat-none f [] none = refl
flat-none f (x ∷ xs) none = rw none (flat-none f xs none)

none-ready : (mode : Mode) (waits : Option How) → readiness mode waits [] ≡ None
none-ready mode None = refl
none-ready mode (Some how) = refl

nat-same : (m n : ℕ) → nat_eq m n ≡ true → m ≡ n
nat-same m n e = grind (arith, nat_tests)

-- in a phase beside which none goes no other is in progress
going-alone : (stage : RunStage) (phase : Phase) → running stage ≡ Some phase → is_runtime phase ≡ false → in_progress stage ≡ phase ∷ []
going-alone Before phase runs common = cc
going-alone Ended phase runs common = cc
going-alone (During other) phase runs common = let same : other ≡ phase = cc in rw (same, common) refl
going-alone (After other) phase runs common = by (is_runtime other) runs
  where
    by : (b : Bool) → (if b then Some Run else None) ≡ Some phase → (if b then Run ∷ [] else []) ≡ phase ∷ []
    by true e = let same : Run ≡ phase = cc in rw same refl
    by false e = cc

-- of a phase beside which none goes no component or sequence lives behind it
alone : (phase : Phase) → is_runtime phase ≡ false → in_progress (After phase) ≡ []
alone phase common = rw common refl

none-going : (phase : Option Phase) → is_going phase [] ≡ true → ⊥
none-going phase e = cc

module _ (script : ScriptValue) (history : List Entry) (phase : Phase) (run : LivingRun) (each : EachIsNext script history) (next : IsNext script history (End phase)) where
  abbrev live : ℕ → Bool
  live = live_by (starts_of history) (finished_of history) (ended_of history)

  abbrev gone : ℕ → Bool
  gone = live_by (starts_of history) (finished_of history) (phase ∷ ended_of history)

  goes : After phase ≡ Ended → ⊥
  goes over = cc

  none-live : is_runtime phase ≡ false → (node id : ℕ) → runs_on (starts_of history) node id → gone id ≡ false
  unfolding is_live
  none-live common node id here = by (gone id) refl
    where
      by : (b : Bool) → gone id ≡ b → b ≡ false
      by false is = refl
      by true is =
          let going : is_going (phase_begun (End phase ∷ history) id) (in_progress (After phase)) ≡ true = run script (End phase ∷ history) id node (next, each) goes (record { lives = is; home_is = here }) in
          absurd (none-going (phase_begun (End phase ∷ history) id) (ap (is_going (phase_begun (End phase ∷ history) id)) (sym (alone phase common)) ∙ going))

  nobody : is_runtime phase ≡ false → (n : ℕ) (l : Ledger) → All (λ (w : SequencerRequest). runs_on (starts_of history) n w.request.seq) l.requests → queue_of gone l ≡ []
  nobody common n l here =
      ap (map (λ (w : SequencerRequest). w.request))
      (filter-empty (waits_by gone l.grants l.locks) l.requests
      (All-weaker (λ (w : SequencerRequest). runs_on (starts_of history) n w.request.seq) (λ w. waits_by gone l.grants l.locks w ≡ false) (λ w runs_here. rw (none-live common n w.request.seq runs_here) refl) l.requests here))

  module _ (steps : List (Option SeqStep)) (known : (n : ℕ) → is_live_at steps n ≡ gone n) where
    -- what the log says of a sequencer then
    ended-ledger : (n : ℕ) → arbiter_of gone (ledger_at (End phase ∷ history) n) ≡ option_map (ended_at phase steps) (arbiter_of live (ledger_at history n))
    unfolding is_live
    ended-ledger n = ended-is live gone (ledger_at history n) steps known (λ id. live-before (starts_of history) (finished_of history) (ended_of history) phase id) phase

    ended-arbitrated : (count nodes n : ℕ) → IsArbitrated count nodes (starts_of history) n (ledger_at history n) → IsArbitrated (suc count) nodes (starts_of history) n (ledger_at (End phase ∷ history) n)
    ended-arbitrated count nodes n a = arbitrated-ended a (ends_ask phase (driver_requester history n)) (is_live (End phase ∷ history))

    -- where no phase goes on beside it, no component or sequence waits
    module _ (common : is_runtime phase ≡ false) (each_is : (n : ℕ) → IsArbitrated (length history) (length (nodes_of history)) (starts_of history) n (ledger_at history n)) where
      none-locks : (n : ℕ) (mode : Option Mode) → lock_in (starts_in (starts_of history)) (option_map (arbiter_with gone (ledger_at (End phase ∷ history) n)) mode) ≡ None
      none-locks n None = refl
      none-locks n (Some mode) = rw (nobody common n (ledger_at history n) (each_is n).requests_here) refl

      none-serves : (n : ℕ) (mode : Option Mode) → ready_in (starts_in (starts_of history)) (option_map (arbiter_with gone (ledger_at (End phase ∷ history) n)) mode) ≡ None
      none-serves n None = refl
      none-serves n (Some mode) = rw (nobody common n (ledger_at history n) (each_is n).requests_here) (none-ready mode (wait_of (driver_state (End phase ∷ history) n)))

    forgotten : (n known : ℕ) → known ≡ 0 → IsKnown (starts_in (starts_of history)) known (arbiter_of gone (ledger_at (End phase ∷ history) n))
    forgotten n known none = rw none (known-none (starts_in (starts_of history)) (arbiter_of gone (ledger_at (End phase ∷ history) n)))

    -- else each sequencer is one of those that are looked at
    module _ (order : HoldsEach (nodes_of history)) (each_is : (n : ℕ) → IsArbitrated (length history) (length (nodes_of history)) (starts_of history) n (ledger_at history n)) where
      abbrev among : ℕ → Bool
      among n = list_any (nat_eq n) (path_order (nodes_of history))

      all-among : path_order (nodes_of history) ≡ filter among (path_order (nodes_of history))
      all-among =
          sym (filter-all among (path_order (nodes_of history))
          (All-weaker (Contains (path_order (nodes_of history))) (λ n. among n ≡ true) (λ n there. list_any-from_Contains nat_eq_equiv n (path_order (nodes_of history)) there) (path_order (nodes_of history)) (All-contains_itself (path_order (nodes_of history)))))

      stands-among : (n : ℕ) → IsSome (ledger_at history n).mode → among n ≡ true
      stands-among n some =
          let stands = (each_is n).stands some in
          list_any-from_Contains nat_eq_equiv n (path_order (nodes_of history)) (order n stands.0 stands.1)

      no-mode : (n : ℕ) → among n ≡ false → (ledger_at history n).mode ≡ None
      no-mode n other = by (ledger_at history n).mode (stands-among n)
        where
          by : (mode : Option Mode) → (IsSome mode → among n ≡ true) → mode ≡ None
          by None stands = refl
          by (Some mode) stands = let clash : true ≡ false = sym (stands refl) ∙ other in cc

      no-locks : (n : ℕ) → among n ≡ false → lock_in (starts_in (starts_of history)) (arbiter_of gone (ledger_at (End phase ∷ history) n)) ≡ None
      no-locks n other = rw (no-mode n other) refl

      no-serves : (n : ℕ) → among n ≡ false → ready_in (starts_in (starts_of history)) (arbiter_of gone (ledger_at (End phase ∷ history) n)) ≡ None
      no-serves n other = rw (no-mode n other) refl

    contested-ended :
        {after : GrantIndex} → HoldsEach (nodes_of history) → ((n : ℕ) → IsArbitrated (length history) (length (nodes_of history)) (starts_of history) n (ledger_at history n))
        → (b : Bool) → is_runtime phase ≡ b → after.nodes.items ≡ (if b then path_order (nodes_of history) else []) → ForgetsAll after
        → AreContested (starts_in (starts_of history)) gone (ledger_at (End phase ∷ history)) (path_order (nodes_of history)) after
    contested-ended {after = after} order each_is true beside nodes forgets = record {
      among = among order each_is;
      kept_are = nodes ∙ all-among order each_is;
      held = λ n e. Contains-from_any nat-same n (path_order (nodes_of history)) e;
      unlocked = λ n other. no-locks order each_is n other;
      unserved = λ n other. no-serves order each_is n other;
      known = λ n. forgotten n (known_at after n) (forgets n);
    }
    contested-ended {after = after} order each_is false common nodes forgets = record {
      among = λ n. false;
      kept_are = nodes ∙ sym (filter-none (path_order (nodes_of history)));
      held = λ n e. cc;
      unlocked = λ n other. none-locks common each_is n (ledger_at history n).mode;
      unserved = λ n other. none-serves common each_is n (ledger_at history n).mode;
      known = λ n. forgotten n (known_at after n) (forgets n);
    }

    pub arbitrating-ended :
        {arbiters new : ArbiterMap} {grant_index after : GrantIndex} → HoldsEach (nodes_of history) → ChangesEach (ended_at phase steps) arbiters new → after.nodes.items ≡ reopened phase (nodes_of history) → ForgetsAll after
        → IsArbitrating (length history) (nodes_of history) (starts_of history) (finished_of history) (ended_of history) (ledger_at history) arbiters grant_index
        → IsArbitrating (suc (length history)) (nodes_of history) (starts_of history) (finished_of history) (phase ∷ ended_of history) (ledger_at (End phase ∷ history)) new after
    arbitrating-ended {after = after} order changes nodes forgets a = record {
      arbiters_are = record { each = λ n. changes n ∙ ap (option_map (ended_at phase steps)) (a.arbiters_are.each n) ∙ sym (ended-ledger n) };
      arbitrated = record { each = λ n. ended-arbitrated (length history) (length (nodes_of history)) n (a.arbitrated.each n) };
      contested_is = contested-ended {after = after} order a.arbitrated.each (is_runtime phase) refl nodes forgets;
    }

    -- the drivers are told that the log names, in path order
    lapsed-with : (n : ℕ) (mode : Option Mode) → (mode ≡ None → driver_state history n ≡ driver.Idle) → lapsed_in phase steps (option_map (arbiter_with live (ledger_at history n)) mode) ≡ lapsed_at phase history n
    unfolding is_live
    lapsed-with n None idle = rw (idle refl) (none-lost (ends_ask phase (driver_requester history n)))
      where
        none-lost : (ends : Bool) → [] ≡ (if loses_try ends (is_live (End phase ∷ history)) driver.Idle then calls_of_item (driver_requester history n) None else [])
        none-lost true = refl
        none-lost false = refl
    lapsed-with n (Some mode) idle = by (λ i n. known n i)
      where
        by : is_live_at steps ≡ gone
            → (if loses_try (ends_ask phase (driver_requester history n)) (is_live_at steps) (driver_state history n) then calls_of_item (driver_requester history n) None else [])
            ≡ (if loses_try (ends_ask phase (driver_requester history n)) gone (driver_state history n) then calls_of_item (driver_requester history n) None else [])
        by same = ap (λ (test : ℕ → Bool). if loses_try (ends_ask phase (driver_requester history n)) test (driver_state history n) then calls_of_item (driver_requester history n) None else []) same

    module _ {arbiters : ArbiterMap} {grant_index : GrantIndex} (a : IsArbitrating (length history) (nodes_of history) (starts_of history) (finished_of history) (ended_of history) (ledger_at history) arbiters grant_index) (asks : AsksAreInPhase) (runs : running (stage_of history) ≡ Some phase) where
      lapsed-each : (n : ℕ) → lapsed_in phase steps (get nat_eq arbiters n) ≡ lapsed_at phase history n
      lapsed-each n = rw (a.arbiters_are.each n) (lapsed-with n (ledger_at history n).mode (λ none. ((a.arbitrated.each n).nothing none).2))

      on : stage_of history ≡ Ended → ⊥
      on ended = let none : None ≡ Some phase = ap running (sym ended) ∙ runs in cc

      lapsed-none : is_runtime phase ≡ false → (n : ℕ) → lapsed_at phase history n ≡ []
      lapsed-none common n = by (driver_state history n) refl
        where
          ends-going : (requester : Option DriverPort) → is_going (option_and_then (λ requester. requester.phase) requester) (phase ∷ []) ≡ true → ends_ask phase requester ≡ true
          ends-going None e = refl
          ends-going (Some requester) e = first (is_of_phase phase requester.phase) e
            where
              first : (b : Bool) → b || false ≡ true → b ≡ true
              first true e = refl
              first false e = cc

          ends-busy : is_idle (driver_state history n) ≡ false → ends_ask phase (driver_requester history n) ≡ true
          ends-busy busy =
              let going = (asks script history each on).going n busy in
              ends-going (driver_requester history n) (ap (is_going (option_and_then (λ requester. requester.phase) (driver_requester history n))) (sym (going-alone (stage_of history) phase runs common)) ∙ going)

          busy-none : (busy : is_idle (driver_state history n) ≡ false) → lapsed_at phase history n ≡ []
          busy-none busy = rw (ends-busy busy) refl

          idle-none : (ends : Bool) → (if loses_try ends (is_live (End phase ∷ history)) driver.Idle then calls_of_item (driver_requester history n) None else []) ≡ []
          idle-none true = refl
          idle-none false = refl

          by : (state : Driver) → driver_state history n ≡ state → lapsed_at phase history n ≡ []
          by driver.Idle is = rw is (idle-none (ends_ask phase (driver_requester history n)))
          by (driver.Waiting way) is = busy-none (ap is_idle is)
          by (driver.Granted id way) is = busy-none (ap is_idle is)
          by (driver.InHand id) is = busy-none (ap is_idle is)

      pub lapsed-known : lapsed_with phase steps arbiters (reopened phase (nodes_of history)) ≡ dues.lapsed_with phase history
      lapsed-known = by (is_runtime phase) refl
        where
          by : (b : Bool) → is_runtime phase ≡ b → lapsed_with phase steps arbiters (if b then path_order (nodes_of history) else []) ≡ dues.lapsed_with phase history
          by true beside = ap (λ (f : ℕ → List DueCall). flat_map f (path_order (nodes_of history))) (λ i n. lapsed-each n i)
          by false common = sym (flat-none (lapsed_at phase history) (path_order (nodes_of history)) (lapsed-none common))

      -- each of them is a component, and asked in a phase that goes on
      each-flat : {A B : Type 0} (P : B → Type 0) (g : A → List B) (xs : List A) → ((x : A) → All P (g x)) → All P (flat_map g xs)
      each-flat P g [] each = All-nil P
      each-flat P g (x ∷ xs) each = All-append P (g x) (flat_map g xs) (each x) (each-flat P g xs each)

      lapsed-busy : (ends : Bool) (test : ℕ → Bool) (state : Driver) → loses_try ends test state ≡ true → (ends ≡ false) × (is_idle state ≡ false)
      lapsed-busy true test state e = cc
      lapsed-busy false test driver.Idle e = cc
      lapsed-busy false test (driver.Waiting way) e = cc
      lapsed-busy false test (driver.Granted id way) e = (refl, refl)
      lapsed-busy false test (driver.InHand id) e = cc

      abbrev IsTold : DueCall → Type 0
      IsTold = IsToldOpen (is_told steps) (phase ∷ ended_of history) (finished_of history)

      pub lapsed-told : PhasesInProgressAreOpen → All (IsToldOpen (is_told steps) (phase ∷ ended_of history) (finished_of history)) (dues.lapsed_with phase history)
      lapsed-told opens = each-flat IsTold (lapsed_at phase history) (path_order (nodes_of history)) told
        where
          open-in : (asked : Option Phase) (node : ℕ) → is_of_phase phase asked ≡ false → is_going asked (in_progress (stage_of history)) ≡ true
              → IfSome asked (λ one. true ≡ (not (list_any (same_phase one) (phase ∷ ended_of history)) && not (is_of_one (finished_of history) (Object (who.Node node)))))
          open-in None node other going = tt
          open-in (Some one) node other going = let unended : list_any (same_phase one) (ended_of history) ≡ false = opens script history one each going in rw (other, unended) refl

          requester-told : (requester : Option DriverPort) → IfSome requester (λ requester. IsComponent (components_of history) requester.who) → ends_ask phase requester ≡ false → is_going (option_and_then (λ requester. requester.phase) requester) (in_progress (stage_of history)) ≡ true
              → All IsTold (calls_of_item requester None)
          requester-told None there other going = All-nil IsTold
          requester-told (Some requester) there other going = by requester.who refl there
            where
              by : (one : Who) → requester.who ≡ one → IsComponent (components_of history) one → All IsTold (calls_of_item (Some requester) None)
              by (who.Node node) is there = All-cons IsTold _ [] (rw is (open-in requester.phase node other going)) (All-nil IsTold)
              by (who.Sequence home id) is there = absurd there

          told : (n : ℕ) → All IsTold (lapsed_at phase history n)
          told n = by (loses_try (ends_ask phase (driver_requester history n)) (is_live (End phase ∷ history)) (driver_state history n)) refl
            where
              by : (b : Bool) → loses_try (ends_ask phase (driver_requester history n)) (is_live (End phase ∷ history)) (driver_state history n) ≡ b → All IsTold (if b then calls_of_item (driver_requester history n) None else [])
              by false is = All-nil IsTold
              by true is =
                  let busy = lapsed-busy (ends_ask phase (driver_requester history n)) (is_live (End phase ∷ history)) (driver_state history n) is in
                  let asking = asks script history each on in
                  requester-told (driver_requester history n) (asking.drivers n) busy.0 (asking.going n busy.1)
