-- What is kept of sequencers, where nodes are added, sequences are started and end, and a phase ends.
use Rattle.world_sequencing.proofs.Common.{◌≡◌, ℕ, suc, ◌<◌, ◌≤◌, ◌==◌, nat_eq, Bool, true, false, List, [], ◌∷◌, ◌++◌, length, find, Option, Some, None, IsSome, IsTrue, option_map, option_to_list, refl, ap, sym, ◌∙◌, subst, arith, if◌then◌else◌, option_or, get, nat_tests, lookup, All-nil, All-weaker, Phase, Node, path_order, filter-none, Mode, readiness, wait_of, StartsChangeNothing, are_known, numbered, Who, What, Add, Done, Entry, Did, SequencerRequest, mode_at, mode_in, modes_of, ended_of, nodes_of, StartRecord, starts_of, finished_of, starts_in, GrantIndex, AddsGrantIndex, IsKnown, known_at, AddsArbiter, ArbiterValue, ArbiterMap, lock_in, mode_of, new_arbiter, ready_in, IsArbitrated, IsArbitrating, Ledger, arbiter_of, arbiter_with, ledger_at, queue_of, runs_on, live_by}
use Rattle.world_sequencing.proofs.Contested.{known-none}
use Rattle.world_sequencing.proofs.Arbited.{added-is, alike-is, arbitrated-added, arbitrated-begun, arbitrated-grown, known-all}
use Rattle.world_sequencing.proofs.Numbered.{numbered-more}
use Rattle.uvm_acts.specs.declared.acts.What.TheVariants as what

-- which sequences live after a log
abbrev live_in : List Entry → ℕ → Bool
live_in history = live_by (starts_of history) (finished_of history) (ended_of history)

-- before any entry
arbitrated-first : (nodes n : ℕ) → IsArbitrated 0 nodes [] n (ledger_at [] n)
arbitrated-first nodes n = record {
  requests_within = All-nil _;
  grants_within = All-nil _;
  locks_within = All-nil _;
  requests_here = All-nil _;
  held_here = All-nil _;
  stands = λ some. cc;
  nothing = λ none. (refl, refl, refl, refl);
}

pub arbitrating-first : {kept : ArbiterMap} {grant_index : GrantIndex} (nodes : List Node) → kept.entries ≡ [] → grant_index.nodes.items ≡ [] → IsArbitrating 0 nodes [] [] [] (ledger_at []) kept grant_index
arbitrating-first nodes empty nowhere = record {
  arbiters_are = record { each = λ n. ap (lookup (nat_eq n)) empty };
  arbitrated = record { each = λ n. arbitrated-first (length nodes) n };
  contested_is = record { among = λ n. false; kept_are = nowhere ∙ sym (filter-none (path_order nodes)); held = λ n e. cc; unlocked = λ n other. refl; unserved = λ n other. refl; known = λ n. tt };
}

-- where nothing is granted anywhere, nothing is with more nodes
pub arbitrating-grown :
    {count : ℕ} {nodes : List Node} {begun : List StartRecord} {finished : List Who} {ended : List Phase} {ledger : ℕ → Ledger} {arbiters : ArbiterMap} {grant_index after : GrantIndex} (more : List Node) → length nodes ≤ length more → after.nodes.items ≡ [] → ((n : ℕ) → known_at after n ≡ known_at grant_index n)
    → ((n : ℕ) → lock_in (starts_in begun) (arbiter_of (live_by begun finished ended) (ledger n)) ≡ None) → ((n : ℕ) → ready_in (starts_in begun) (arbiter_of (live_by begun finished ended) (ledger n)) ≡ None)
    → IsArbitrating count nodes begun finished ended ledger arbiters grant_index → IsArbitrating (suc count) more begun finished ended ledger arbiters after
arbitrating-grown {begun = begun} {finished} {ended} {ledger} more le nowhere knows unlocked unserved a = record {
  arbiters_are = a.arbiters_are;
  arbitrated = record { each = λ n. arbitrated-grown (a.arbitrated.each n) (length more) le };
  contested_is = record { among = λ n. false; kept_are = nowhere ∙ sym (filter-none (path_order more)); held = λ n e. cc; unlocked = λ n other. unlocked n; unserved = λ n other. unserved n; known = λ n. subst (λ (k : ℕ). IsKnown (starts_in begun) k (arbiter_of (live_by begun finished ended) (ledger n))) (sym (knows n)) (a.contested_is.known n) };
}

-- one of them may be a sequencer
found-added : (count n : ℕ) (adds : What) (name : List ℕ) (nodes : List Node) (modes : List (ℕ × Mode)) → length nodes ≡ count
    → option_map {U = Mode} (λ (found : ℕ × Mode). found.1) (find (λ found. found.0 == n) (option_to_list (mode_in nodes Done (Add name adds)) ++ modes))
    ≡ (if count == n then option_or (mode_of adds) (option_map (λ found. found.1) (find (λ found. found.0 == n) modes)) else option_map (λ found. found.1) (find (λ found. found.0 == n) modes))
found-added count n (what.Sequencer mode) name nodes modes is = rw is (tested (count == n))
  where
    tested : (b : Bool) → option_map {U = Mode} (λ (found : ℕ × Mode). found.1) (if b then Some (count, mode) else find (λ found. found.0 == n) modes)
        ≡ (if b then Some mode else option_map (λ found. found.1) (find (λ found. found.0 == n) modes))
    tested true = refl
    tested false = refl
found-added count n (what.Fifo size) name nodes modes is = same (count == n) _
  where
    same : (b : Bool) (m : Option Mode) → m ≡ (if b then option_or None m else m)
    same true None = refl
    same true (Some m) = refl
    same false m = refl
found-added count n (what.Port kind) name nodes modes is = same (count == n) _
  where
    same : (b : Bool) (m : Option Mode) → m ≡ (if b then option_or None m else m)
    same true None = refl
    same true (Some m) = refl
    same false m = refl
found-added count n (what.Export kind) name nodes modes is = same (count == n) _
  where
    same : (b : Bool) (m : Option Mode) → m ≡ (if b then option_or None m else m)
    same true None = refl
    same true (Some m) = refl
    same false m = refl
found-added count n what.Imp name nodes modes is = same (count == n) _
  where
    same : (b : Bool) (m : Option Mode) → m ≡ (if b then option_or None m else m)
    same true None = refl
    same true (Some m) = refl
    same false m = refl

none-moded : {A : Type 0} (o : Option A) (n : ℕ) → (IsSome o → n < n) → o ≡ None
none-moded None n stands = refl
none-moded (Some a) n stands = let lt = stands refl in absurd (omega (arith, lt))

module _ (history : List Entry) (performer : Who) (name : List ℕ) (adds : What) where
  abbrev grown : List Entry
  grown = Did performer Done (Add name adds) ∷ history

  pub arbitrating-added :
      {arbiters new : ArbiterMap} {grant_index after : GrantIndex} → 0 < length (nodes_of history) → length (nodes_of grown) ≡ suc (length (nodes_of history)) → AddsArbiter (mode_of adds) (length (nodes_of history)) arbiters new
      → ((n : ℕ) → lock_in (starts_in (starts_of history)) (arbiter_of (live_by (starts_of history) (finished_of history) (ended_of history)) (ledger_at history n)) ≡ None)
      → ((n : ℕ) → ready_in (starts_in (starts_of history)) (arbiter_of (live_by (starts_of history) (finished_of history) (ended_of history)) (ledger_at history n)) ≡ None)
      → after.nodes.items ≡ [] → AddsGrantIndex (mode_of adds) (length (nodes_of history)) grant_index after
      → IsArbitrating (length history) (nodes_of history) (starts_of history) (finished_of history) (ended_of history) (ledger_at history) arbiters grant_index
      → IsArbitrating (length grown) (nodes_of grown) (starts_of history) (finished_of history) (ended_of history) (ledger_at grown) new after
  arbitrating-added {arbiters} {new} {grant_index} {after} some longer adding unlocked unserved nowhere adds_grant_index a = record {
    arbiters_are = record { each = λ n. adding n ∙ at n (length (nodes_of history) == n) refl };
    arbitrated = record { each = λ n. every n (length (nodes_of history) == n) refl };
    contested_is = record { among = λ n. false; kept_are = nowhere ∙ sym (filter-none (path_order (nodes_of grown))); held = λ n e. cc; unlocked = λ n other. locks n (length (nodes_of history) == n) refl; unserved = λ n other. serves n (length (nodes_of history) == n) refl; known = λ n. knows n (length (nodes_of history) == n) refl };
  }
    where
      count : ℕ
      count = length (nodes_of history)

      mode-is : (n : ℕ) → mode_at grown n ≡ (if length (nodes_of history) == n then option_or (mode_of adds) (mode_at history n) else mode_at history n)
      mode-is n = found-added (length (nodes_of history)) n adds name (nodes_of history) (modes_of history) refl

      here : (n : ℕ) → (length (nodes_of history) == n) ≡ true → length (nodes_of history) ≡ n
      here n e = grind (arith, nat_tests)

      unmoded : (n : ℕ) → (length (nodes_of history) == n) ≡ true → mode_at history n ≡ None
      unmoded n is = let same = here n is in none-moded (mode_at history n) n (λ moded. let s = (a.arbitrated.each n).stands moded in omega (arith, s.1, same))

      or-none : {A : Type 0} (o : Option A) → option_or o None ≡ o
      or-none None = refl
      or-none (Some x) = refl

      mode-there : (n : ℕ) → (length (nodes_of history) == n) ≡ true → mode_at grown n ≡ mode_of adds
      mode-there n is = mode-is n ∙ rw (is, unmoded n is) (or-none (mode_of adds))

      mode-else : (n : ℕ) → (length (nodes_of history) == n) ≡ false → mode_at grown n ≡ mode_at history n
      mode-else n is = mode-is n ∙ rw is refl

      arbiter-there : (n : ℕ) → (length (nodes_of history) == n) ≡ true → arbiter_of (live_in history) (ledger_at grown n) ≡ option_map new_arbiter (mode_of adds)
      arbiter-there n is = rw (mode-there n is) (added-is (live_in history) (ledger_at history n) (mode_of adds) ((a.arbitrated.each n).nothing (unmoded n is)))

      arbiter-else : (n : ℕ) → (length (nodes_of history) == n) ≡ false → arbiter_of (live_in history) (ledger_at grown n) ≡ arbiter_of (live_in history) (ledger_at history n)
      arbiter-else n is = rw (mode-else n is) refl

      at : (n : ℕ) (b : Bool) → (length (nodes_of history) == n) ≡ b → option_or (if length (nodes_of history) == n then option_map new_arbiter (mode_of adds) else None) (get nat_eq arbiters n) ≡ arbiter_of (live_in history) (ledger_at grown n)
      at n true is =
          let before : get nat_eq arbiters n ≡ None = a.arbiters_are.each n ∙ rw (unmoded n is) refl in
          rw (is, before) (or-none (option_map new_arbiter (mode_of adds)) ∙ sym (arbiter-there n is))
      at n false is = rw is (a.arbiters_are.each n ∙ sym (arbiter-else n is))

      every : (n : ℕ) (b : Bool) → (length (nodes_of history) == n) ≡ b → IsArbitrated (suc (length history)) (length (nodes_of grown)) (starts_of history) n (ledger_at grown n)
      every n true is =
          let same = here n is in
          rw (mode-there n is) (arbitrated-added (a.arbitrated.each n) (mode_of adds) (length (nodes_of grown)) (unmoded n is) (λ moded. (omega (arith, some, same), omega (arith, longer, same))))
      every n false is = rw (mode-else n is) (arbitrated-grown (a.arbitrated.each n) (length (nodes_of grown)) (omega (arith, longer)))

      new-lock : (mode : Option Mode) → lock_in (starts_in (starts_of history)) (option_map new_arbiter mode) ≡ None
      new-lock None = refl
      new-lock (Some mode) = refl

      new-ready : (mode : Option Mode) → ready_in (starts_in (starts_of history)) (option_map new_arbiter mode) ≡ None
      new-ready None = refl
      new-ready (Some mode) = refl

      locks : (n : ℕ) (b : Bool) → (length (nodes_of history) == n) ≡ b → lock_in (starts_in (starts_of history)) (arbiter_of (live_in history) (ledger_at grown n)) ≡ None
      locks n true is = ap (lock_in (starts_in (starts_of history))) (arbiter-there n is) ∙ new-lock (mode_of adds)
      locks n false is = ap (lock_in (starts_in (starts_of history))) (arbiter-else n is) ∙ unlocked n

      serves : (n : ℕ) (b : Bool) → (length (nodes_of history) == n) ≡ b → ready_in (starts_in (starts_of history)) (arbiter_of (live_in history) (ledger_at grown n)) ≡ None
      serves n true is = ap (ready_in (starts_in (starts_of history))) (arbiter-there n is) ∙ new-ready (mode_of adds)
      serves n false is = ap (ready_in (starts_in (starts_of history))) (arbiter-else n is) ∙ unserved n

      new-known : (mode : Option Mode) (known : ℕ) → (IsSome mode → known ≡ 0) → IsKnown (starts_in (starts_of history)) known (option_map new_arbiter mode)
      new-known None known fresh = tt
      new-known (Some mode) known fresh = subst (λ (k : ℕ). IsKnown (starts_in (starts_of history)) k (Some (new_arbiter mode))) (sym (fresh refl)) (known-none (starts_in (starts_of history)) (Some (new_arbiter mode)))

      knows : (n : ℕ) (b : Bool) → (length (nodes_of history) == n) ≡ b → IsKnown (starts_in (starts_of history)) (known_at after n) (arbiter_of (live_in history) (ledger_at grown n))
      knows n true is =
          let same = here n is in
          subst (λ (o : Option ArbiterValue). IsKnown (starts_in (starts_of history)) (known_at after n) o) (sym (arbiter-there n is))
          (new-known (mode_of adds) (known_at after n) (λ some. subst (λ (k : ℕ). known_at after k ≡ 0) same (adds_grant_index.fresh some)))
      knows n false is =
          subst (λ (o : Option ArbiterValue). IsKnown (starts_in (starts_of history)) (known_at after n) o) (sym (arbiter-else n is))
          (subst (λ (k : ℕ). IsKnown (starts_in (starts_of history)) k (arbiter_of (live_in history) (ledger_at history n))) (sym (adds_grant_index.others n is)) (a.contested_is.known n))

-- one more sequence is started: for those that wait nothing changes
module _ {count : ℕ} {nodes : List Node} {begun : List StartRecord} {finished : List Who} {ended : List Phase} {ledger : ℕ → Ledger} {arbiters : ArbiterMap} {grant_index : GrantIndex} (a : IsArbitrating count nodes begun finished ended ledger arbiters grant_index) (changes : StartsChangeNothing) (x : StartRecord) where
  begun-alike : (node id : ℕ) → runs_on begun node id → live_by (x ∷ begun) finished ended id ≡ live_by begun finished ended id
  begun-alike node id here = by (numbered begun id) refl here
    where
      by : (found : Option StartRecord) → numbered begun id ≡ found → option_map (λ start_record. start_record.start.home) found ≡ Some node → live_by (x ∷ begun) finished ended id ≡ live_by begun finished ended id
      by None is e = cc
      by (Some b) is e = rw (numbered-more x begun id b is, is) refl

  begun-same : (n : ℕ) → arbiter_of (live_by (x ∷ begun) finished ended) (ledger n) ≡ arbiter_of (live_by begun finished ended) (ledger n)
  begun-same n =
      let one = a.arbitrated.each n in
      alike-is (live_by begun finished ended) (live_by (x ∷ begun) finished ended) (ledger n)
      (All-weaker (λ (w : SequencerRequest). runs_on begun n w.request.seq) (λ (w : SequencerRequest). live_by (x ∷ begun) finished ended w.request.seq ≡ live_by begun finished ended w.request.seq) (λ w here. begun-alike n w.request.seq here) (ledger n).requests one.requests_here)
      (All-weaker (runs_on begun n) (λ id. live_by (x ∷ begun) finished ended id ≡ live_by begun finished ended id) (λ id here. begun-alike n id here) (ledger n).held one.held_here)

  abbrev known : ℕ → Type 0
  known n = IsTrue (are_known (starts_in begun) (queue_of (live_by begun finished ended) (ledger n)))

  locks-still : (n : ℕ) (mode : Option Mode) → lock_in (starts_in (x ∷ begun)) (option_map (arbiter_with (live_by begun finished ended) (ledger n)) mode) ≡ lock_in (starts_in begun) (option_map (arbiter_with (live_by begun finished ended) (ledger n)) mode)
  locks-still n None = refl
  locks-still n (Some mode) = changes.locks x.start (starts_in begun) (arbiter_with (live_by begun finished ended) (ledger n) mode).sequencer (known-all (a.arbitrated.each n) (live_by begun finished ended))

  ready-still : (n : ℕ) (mode : Option Mode) → ready_in (starts_in (x ∷ begun)) (option_map (arbiter_with (live_by begun finished ended) (ledger n)) mode) ≡ ready_in (starts_in begun) (option_map (arbiter_with (live_by begun finished ended) (ledger n)) mode)
  ready-still n None = refl
  ready-still n (Some mode) =
      ap (readiness mode (wait_of (ledger n).driver)) (changes.items x.start (starts_in begun) (arbiter_with (live_by begun finished ended) (ledger n) mode).sequencer (known-all (a.arbitrated.each n) (live_by begun finished ended)))

  blocked-still : (n known : ℕ) (mode : Option Mode) → IsKnown (starts_in begun) known (option_map (arbiter_with (live_by begun finished ended) (ledger n)) mode) → IsKnown (starts_in (x ∷ begun)) known (option_map (arbiter_with (live_by begun finished ended) (ledger n)) mode)
  blocked-still n known None passed = tt
  blocked-still n known (Some mode) passed = record {
    within = passed.within;
    blocked = changes.blocked x.start (starts_in begun) (arbiter_with (live_by begun finished ended) (ledger n) mode).sequencer (known-all (a.arbitrated.each n) (live_by begun finished ended)) known ∙ passed.blocked;
  }

  pub arbitrating-begun : IsArbitrating (suc count) nodes (x ∷ begun) finished ended ledger arbiters grant_index
  arbitrating-begun = record {
    arbiters_are = record { each = λ n. a.arbiters_are.each n ∙ sym (begun-same n) };
    arbitrated = record { each = λ n. arbitrated-begun (a.arbitrated.each n) x };
    contested_is = record {
      unlocked = λ n other. ap (lock_in (starts_in (x ∷ begun))) (begun-same n) ∙ locks-still n (ledger n).mode ∙ a.contested_is.unlocked n other;
      unserved = λ n other. ap (ready_in (starts_in (x ∷ begun))) (begun-same n) ∙ ready-still n (ledger n).mode ∙ a.contested_is.unserved n other;
      among = a.contested_is.among;
      kept_are = a.contested_is.kept_are;
      held = a.contested_is.held;
      known = λ n. subst (λ (o : Option ArbiterValue). IsKnown (starts_in (x ∷ begun)) (known_at grant_index n) o) (sym (begun-same n)) (blocked-still n (known_at grant_index n) (ledger n).mode (a.contested_is.known n));
    };
  }
