-- What the services know of sequencers is what the log says.
use Rattle.world_services.proofs.Common.{◌≡◌, ℕ, ◌==◌, nat_eq, Bool, true, List, length, map, Option, Some, None, option_map, option_and_then, refl, ap, sym, subst, ◌∙◌, arith, option_map_or, get, nat_tests, first_given, waiting_count, Entry, ScriptValue, SequencerValue, next_locked, next_served, requests_at, sequencer_at, waiters_at, ended_of, nodes_of, FifoValue, Requester, fifo_state_at, starts_of, finished_of, starts_in, Services, ArbiterValue, lock_in, locked_in, ready_in, served_in, IsArbitrating, arbiter_of, ledger_at, AreKnown, IsKnown, known_at, GrantIndex, live_by, ServicesMatch, sequencer-is, locked-first, served-first}
use Rattle.uvm_sequences.specs.Sequences.{Start}

-- a node is itself
pub itself : (n : ℕ) → (n == n) ≡ true
itself n = grind (arith, nat_tests)

module _ {script : ScriptValue} {history : List Entry} {services : Services} (m : ServicesMatch script history services) where
  pub locked-known : first_given (map (locked_in services.sequences.started services.arbiters) services.grant_index.nodes.items) ≡ next_locked history
  locked-known =
      ap (λ (f : ℕ → Option (ℕ × ℕ)). first_given (map f services.grant_index.nodes.items)) (λ i n. option_map {U = ℕ × ℕ} (λ id. (n, id)) (lock_in (m.sequencing.started i) (m.arbitrating.arbiters_are.each n i)))
      ∙ sym (locked-first history m.arbitrating.contested_is)

  pub served-known : first_given (map (served_in services.sequences.started services.arbiters) services.grant_index.nodes.items) ≡ next_served history
  served-known =
      ap (λ (f : ℕ → Option (ℕ × Bool)). first_given (map f services.grant_index.nodes.items)) (λ i n. option_map {U = ℕ × Bool} (λ drawn. (n, drawn)) (ready_in (m.sequencing.started i) (m.arbitrating.arbiters_are.each n i)))
      ∙ sym (served-first history m.arbitrating.contested_is)

  -- who is blocked is known
  pub known-there : (n : ℕ) → IsKnown services.sequences.started (known_at services.grant_index n) (get nat_eq services.arbiters n)
  known-there n =
      subst (λ (started : List Start). IsKnown started (known_at services.grant_index n) (get nat_eq services.arbiters n)) (sym m.sequencing.started)
      (subst (λ (o : Option ArbiterValue). IsKnown (starts_in (starts_of history)) (known_at services.grant_index n) o) (sym (m.arbitrating.arbiters_are.each n)) (m.arbitrating.contested_is.known n))

  -- how many wait there
  pub requests-known : (n : ℕ) → option_map_or (λ a. length a.sequencer.queue) (get nat_eq services.arbiters n) 0 ≡ requests_at history n
  requests-known n =
      ap (λ (a : Option ArbiterValue). option_map_or (λ a. length a.sequencer.queue) a 0) (m.arbitrating.arbiters_are.each n)
      ∙ sym (ap (λ s. option_map_or (λ s. length s.queue) s 0) (sequencer-is history n) ∙ sized (arbiter_of (live_by (starts_of history) (finished_of history) (ended_of history)) (ledger_at history n)))
    where
      sized : (a : Option ArbiterValue) → option_map_or (λ s. length s.queue) (option_map (λ a. a.sequencer) a) 0 ≡ option_map_or (λ a. length a.sequencer.queue) a 0
      sized None = refl
      sized (Some a) = refl

  -- where no FIFO stands
  pub waiters-known : (n : ℕ) → option_map waiting_count (get nat_eq services.fifo_states n) ≡ None → requests_at history n ≡ waiters_at history n
  waiters-known n none = by (fifo_state_at history n) (rw (m.fifo_states.each n) at none)
    where
      by : (fifo_state : Option (FifoValue Requester)) → option_map waiting_count fifo_state ≡ None → requests_at history n ≡ option_map_or waiting_count fifo_state (requests_at history n)
      by None e = refl
      by (Some fifo_state) e = cc

-- what a sequencer says, as it is kept
module _ {script : ScriptValue} {history : List Entry} {services : Services} (m : ServicesMatch script history services) (node : ℕ) where
  pub said : {A : Type 0} (f : SequencerValue → Option A) → option_and_then (λ a. f a.sequencer) (get nat_eq services.arbiters node) ≡ option_and_then f (sequencer_at history node)
  said {A} f = ap (option_and_then (λ (a : ArbiterValue). f a.sequencer)) (m.arbitrating.arbiters_are.each node) ∙ sym (ap (option_and_then f) (sequencer-is history node) ∙ mapped (arbiter_of (live_by (starts_of history) (finished_of history) (ended_of history)) (ledger_at history node)))
    where
      mapped : (o : Option ArbiterValue) → option_and_then f (option_map (λ a. a.sequencer) o) ≡ option_and_then (λ a. f a.sequencer) o
      mapped None = refl
      mapped (Some a) = refl

-- more of it may be known
pub known-better :
    {script : ScriptValue} {history : List Entry} {services : Services} (after : GrantIndex) → after.nodes ≡ services.grant_index.nodes → AreKnown services.sequences.started services.arbiters after
    → ServicesMatch script history services → ServicesMatch script history (record services { grant_index = after })
known-better {history = history} {services} after same known m =
    let c = m.arbitrating.contested_is in
    let arbitrating : IsArbitrating (length history) (nodes_of history) (starts_of history) (finished_of history) (ended_of history) (ledger_at history) services.arbiters after = record {
      arbiters_are = m.arbitrating.arbiters_are;
      arbitrated = m.arbitrating.arbitrated;
      contested_is = record {
        among = c.among;
        kept_are = rw same c.kept_are;
        held = c.held;
        unlocked = c.unlocked;
        unserved = c.unserved;
        known = λ n.
            subst (λ (started : List Start). IsKnown started (known_at after n) (arbiter_of (live_by (starts_of history) (finished_of history) (ended_of history)) (ledger_at history n))) m.sequencing.started
            (subst (λ (o : Option ArbiterValue). IsKnown services.sequences.started (known_at after n) o) (m.arbitrating.arbiters_are.each n) (known n));
      };
    } in
    search
