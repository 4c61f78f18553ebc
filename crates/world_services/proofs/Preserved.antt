-- What is kept of FIFOs goes on where ends are connected and nodes are added.
use Rattle.world_services.proofs.Common.{◌≡◌, ℕ, ◌==◌, true, List, [], ◌∷◌, length, Option, None, option_map, option_and_then, ap, sym, ◌∙◌, subst, arith, nat_tests, path_order, Who, What, Passage, option_or, Add, Connect, Done, Entry, Did, ScriptValue, nodes_of, ended_of, end_of, node_below, wiring_of, with_both, fifo_size, size_of, FifoValue, Requester, answered_at, is_no_put, is_put, items_entered, items_left, next_passed, passage_in, passing_at, puts_asked, fifo_state_at, fifo_state_of, takes_asked, Services, AreFifoStates, ArePassed, AreToSettle, ServicesMatch, AddsFifoState, FifoMap}
use Rattle.world_services.proofs.Passages.{added-node, added-none, added-state, added_if, both-sizes, no-fifo_state, node-sized, size-more, fifos_to_settle-none, fifos_to_settle-same, settled-all}

-- what is kept of FIFOs is what a log says
pub record IsKept (entries : List Entry) (fifo_states : FifoMap) (fifos_to_settle : List ℕ) : Type 0 where
  pub fifo_states_are : AreFifoStates (fifo_state_at entries) fifo_states
  pub passed : ArePassed (length entries) (fifo_size (wiring_of entries)) (items_entered entries) (items_left entries) (puts_asked entries) (answered_at is_put entries) (takes_asked entries) (answered_at is_no_put entries)
  pub fifos_to_settle_are : AreToSettle (passing_at entries) (path_order (nodes_of entries)) fifos_to_settle

-- two ends are connected
pub joined-kept :
    {script : ScriptValue} {history : List Entry} {services : Services} (performer : Who) (from to : List (List ℕ)) → ServicesMatch script history services
    → IsKept (Did performer Done (Connect from to) ∷ history) services.fifo_states services.fifos_to_settle.items
joined-kept {history = history} performer from to m =
    let below = node_below (nodes_of history) performer in
    let same : (n : ℕ) → fifo_state_at (Did performer Done (Connect from to) ∷ history) n ≡ fifo_state_at history n = λ n. ap (λ (size : Option ℕ). option_map (fifo_state_of history n) size) (both-sizes (wiring_of history) (below from) (below to) n) in
    record {
      fifo_states_are = record { each = λ n. m.fifo_states.each n ∙ sym (same n) };
      passed = record { each = λ n. node-sized (fifo_size (with_both (below from) (below to) (wiring_of history)) n) (both-sizes (wiring_of history) (below from) (below to) n) (m.passed.each n) };
      fifos_to_settle_are = fifos_to_settle-same (λ n. ap (λ (fifo_state : Option (FifoValue Requester)). option_map {U = ℕ × Passage} (λ passage. (n, passage)) (option_and_then passage_in fifo_state)) (same n)) m.fifos_to_settle;
    }

-- a node is added, which may be a FIFO
pub added-kept :
    {script : ScriptValue} {history : List Entry} {services : Services} {new : FifoMap} {fifos_to_settle : List ℕ} (performer : Who) (name : List ℕ) (what : What) → ServicesMatch script history services → next_passed history ≡ None
    → fifo_size (wiring_of history) (length (nodes_of history)) ≡ None → AddsFifoState (size_of (end_of what)) (length (nodes_of history)) services.fifo_states new → fifos_to_settle ≡ []
    → IsKept (Did performer Done (Add name what) ∷ history) new fifos_to_settle
added-kept {history = history} performer name what m settled unused adds is =
    let count = length (nodes_of history) in
    let more = size_of (end_of what) in
    let new : (n : ℕ) → (count == n) ≡ true → fifo_size (wiring_of history) n ≡ None = λ n about. subst (λ (n : ℕ). fifo_size (wiring_of history) n ≡ None) (here count n about) unused in
    let changes : (n : ℕ) → option_or (added_if (count == n) more) (fifo_state_at history n) ≡ fifo_state_at (Did performer Done (Add name what) ∷ history) n =
    λ n. added-state (m.passed.each n) (count == n) more _ (ended_of history) (size-more count (end_of what) (wiring_of history) n) (new n) in
    record {
      fifo_states_are = record { each = λ n. adds n ∙ ap (λ (fifo_state : Option (FifoValue Requester)). option_or (added_if (count == n) more) fifo_state) (m.fifo_states.each n) ∙ changes n };
      passed = record { each = λ n. added-node (m.passed.each n) (count == n) more _ (size-more count (end_of what) (wiring_of history) n) (new n) };
      fifos_to_settle_are = rw is (fifos_to_settle-none _ (λ n.
          ap (λ (fifo_state : Option (FifoValue Requester)). option_map {U = ℕ × Passage} (λ passage. (n, passage)) (option_and_then passage_in fifo_state)) (sym (changes n))
          ∙ added-none n (count == n) more (fifo_state_at history n) (λ about. no-fifo_state history n (new n about)) (settled-all history m.fifos_to_settle settled n)));
    }
  where
    here : (m n : ℕ) → (m == n) ≡ true → m ≡ n
    here m n e = grind (arith, nat_tests)
