-- A lock that is granted, and an item.
use Rattle.world_entries.proofs.Common.{◌≡◌, ℕ, suc, ◌==◌, nat_eq, Bool, true, false, List, [], ◌∷◌, length, map, Option, Some, None, IsSome, option_map, option_and_then, refl, ap, sym, ◌∙◌, subst, arith, get, nat_tests, first_given, Mode, choice_at, granted, locked, Grant, Entry, Granted, Locked, ScriptValue, mode_at, next_locked, next_served, chosen_at, ended_of, nodes_of, IsLiving, StartRecord, starts_of, finished_of, is_live, phase_begun, sequences_of, starts_in, Services, PassedStays, Start, numbered, GrantIndex, IsKnown, LearnsAt, known_at, ArbiterValue, ChangesAt, ArbiterMap, at_sequencer, lock_in, ready_in, IsArbitrated, IsArbitrating, arbiter_of, arbiter_with, ledger_at, live_by, phase_at, phase-known, ServicesMatch, arbitrated-granted, arbitrated-locked, arbitrated-more, granted-is, locked-is, arbitrating-there, changed-each, learns-else, learns-here, itself, locked-known, said, served-known}

-- what is found first is found at one of those that are kept
found-there : {A : Type 0} (at : ℕ → Option A) (kept : List ℕ) (node : ℕ) (a : A) → first_given (map (λ n. option_map {U = ℕ × A} (λ a. (n, a)) (at n)) kept) ≡ Some (node, a) → at node ≡ Some a
found-there at [] node a e = cc
found-there {A} at (n ∷ kept) node a e = by (at n) refl e (found-there at kept node a)
  where
    by : (found : Option A) → at n ≡ found → first_given (option_map {U = ℕ × A} (λ a. (n, a)) found ∷ map (λ n. option_map {U = ℕ × A} (λ a. (n, a)) (at n)) kept) ≡ Some (node, a)
        → (first_given (map (λ n. option_map {U = ℕ × A} (λ a. (n, a)) (at n)) kept) ≡ Some (node, a) → at node ≡ Some a) → at node ≡ Some a
    by None is e behind = behind e
    by (Some other) is e behind =
        let pair : (n, other) ≡ (node, a) = cc in
        let first : n ≡ node = ap (λ (p : ℕ × A). p.0) pair in
        let second : other ≡ a = ap (λ (p : ℕ × A). p.1) pair in
        subst (λ (k : ℕ). at k ≡ Some a) first (is ∙ ap (λ (x : A). Some x) second)

-- and so this is one of them
kept-there : {A : Type 0} (at : ℕ → Option A) (among : ℕ → Bool) (node : ℕ) (a : A) → ((n : ℕ) → among n ≡ false → at n ≡ None) → at node ≡ Some a → among node ≡ true
kept-there at among node a others found = by (among node) refl
  where
    by : (b : Bool) → among node ≡ b → among node ≡ true
    by true is = is
    by false is = let clash : Some a ≡ None = sym found ∙ others node is in cc

module _ {script : ScriptValue} {history : List Entry} {services : Services} (m : ServicesMatch script history services) where
  pub led-there : (node id : ℕ) → next_locked history ≡ Some (node, id) → lock_in services.sequences.started (get nat_eq services.arbiters node) ≡ Some id
  led-there node id e = found-there (λ n. lock_in services.sequences.started (get nat_eq services.arbiters n)) services.grant_index.nodes.items node id (locked-known m ∙ e)

  pub served-there : (node : ℕ) (drawn : Bool) → next_served history ≡ Some (node, drawn) → ready_in services.sequences.started (get nat_eq services.arbiters node) ≡ Some drawn
  served-there node drawn e = found-there (λ n. ready_in services.sequences.started (get nat_eq services.arbiters n)) services.grant_index.nodes.items node drawn (served-known m ∙ e)

  -- who is chosen
  pub chosen-known : (node id : ℕ) (word : Option ℕ) → option_and_then (λ a. choice_at services.sequences.started a.sequencer word) (get nat_eq services.arbiters node) ≡ Some id → chosen_at history node word ≡ Some id
  chosen-known node id word e = sym (said m node (λ s. choice_at (sequences_of history) s word)) ∙ rw m.sequencing.started at e

  -- the phase in which a sequence was started that lives is kept
  pub living-phase : (id : ℕ) {home : ℕ} → IsLiving history id home → phase_at services.start_records.items id ≡ phase_begun history id
  living-phase id {home} living = by (numbered (starts_of history) id) refl living.home_is
    where
      by : (found : Option StartRecord) → numbered (starts_of history) id ≡ found → option_map (λ start_record. start_record.start.home) found ≡ Some home → phase_at services.start_records.items id ≡ phase_begun history id
      by None found e = cc
      by (Some start_record) found e = phase-known (starts_of history) services.start_records.items id start_record m.sequencing.are found

  -- a sequencer is there, where something is found
  lock-moded : (mode : Option Mode) (node id : ℕ) → lock_in (starts_in (starts_of history)) (option_map (arbiter_with (live_by (starts_of history) (finished_of history) (ended_of history)) (ledger_at history node)) mode) ≡ Some id → IsSome mode
  lock-moded None node id e = cc
  lock-moded (Some mode) node id e = refl

  ready-moded : (mode : Option Mode) (node : ℕ) (drawn : Bool) → ready_in (starts_in (starts_of history)) (option_map (arbiter_with (live_by (starts_of history) (finished_of history) (ended_of history)) (ledger_at history node)) mode) ≡ Some drawn → IsSome mode
  ready-moded None node drawn e = cc
  ready-moded (Some mode) node drawn e = refl

  -- who is blocked stays so, once another is chosen
  chosen-passed : PassedStays → (known : ℕ) (grant : Grant) (o : Option ArbiterValue) → option_and_then (λ a. choice_at (starts_in (starts_of history)) a.sequencer grant.word) o ≡ Some grant.id
      → IsKnown (starts_in (starts_of history)) known o → IsKnown (starts_in (starts_of history)) known (option_map (at_sequencer (granted grant.id)) o)
  chosen-passed stays known grant None chosen passed = tt
  chosen-passed stays known grant (Some a) chosen passed = stays.granted (starts_in (starts_of history)) a.sequencer known passed grant.word grant.id chosen

  same-there : (node n : ℕ) → (node == n) ≡ true → node ≡ n
  same-there node n e = grind (arith, nat_tests)

  pub locked-kept : (node id : ℕ) (more : ArbiterMap) → next_locked history ≡ Some (node, id) → IsLiving history id node → ChangesAt node (at_sequencer (locked id)) services.arbiters more
      → (passed : ℕ) (after : GrantIndex) → IsKnown services.sequences.started passed (get nat_eq more node) → after.nodes ≡ services.grant_index.nodes → LearnsAt node passed services.grant_index after
      → IsArbitrating (suc (length history)) (nodes_of history) (starts_of history) (finished_of history) (ended_of history) (ledger_at (Locked node id ∷ history)) more after
  unfolding is_live
  locked-kept node id more next living changes passed after is-passed still learns =
      let found = rw (m.sequencing.started, m.arbitrating.arbiters_are.each node) at (led-there node id next) in
      let among = kept-there _ m.arbitrating.contested_is.among node id m.arbitrating.contested_is.unlocked found in
      let one = m.arbitrating.arbitrated.each node in
      let l = ledger_at history node in
      let live = live_by (starts_of history) (finished_of history) (ended_of history) in
      let moded = lock-moded (mode_at history node) node id found in
      let here : arbiter_of live (ledger_at (Locked node id ∷ history) node) ≡ option_map (at_sequencer (locked id)) (arbiter_of live (ledger_at history node)) = rw (itself node) (locked-is live (length history) l one.requests_within id living.lives) in
      arbitrating-there m.arbitrating (finished_of history) (ledger_at (Locked node id ∷ history)) more node (at_sequencer (locked id)) (λ n other. rw other refl)
      here changes (λ n. every n (node == n) refl moded) among after still (learns-else node passed services.grant_index after learns)
      (learns-here (starts_in (starts_of history)) node passed services.grant_index after learns (arbiter_of live (ledger_at (Locked node id ∷ history) node))
      (subst (λ (o : Option ArbiterValue). IsKnown (starts_in (starts_of history)) passed o) (changed-each live live (ledger_at history) (ledger_at (Locked node id ∷ history)) services.arbiters more node (at_sequencer (locked id)) (λ n other. rw other refl) here changes m.arbitrating.arbiters_are node)
      (subst (λ (started : List Start). IsKnown started passed (get nat_eq more node)) m.sequencing.started is-passed)))
    where
      every : (n : ℕ) (v : Bool) → (node == n) ≡ v → IsSome (mode_at history node) → IsArbitrated (suc (length history)) (length (nodes_of history)) (starts_of history) n (ledger_at (Locked node id ∷ history) n)
      every n false is moded = rw is (arbitrated-more (m.arbitrating.arbitrated.each n))
      every n true is moded =
          subst (λ (k : ℕ). IsArbitrated (suc (length history)) (length (nodes_of history)) (starts_of history) k (ledger_at (Locked node id ∷ history) k)) (same-there node n is)
          (rw (itself node) (arbitrated-locked (m.arbitrating.arbitrated.each node) id living.home_is moded))

  pub granted-kept : (node : ℕ) (drawn : Bool) (grant : Grant) (more : ArbiterMap) → next_served history ≡ Some (node, drawn) → ChangesAt node (at_sequencer (granted grant.id)) services.arbiters more → PassedStays
      → option_and_then (λ a. choice_at services.sequences.started a.sequencer grant.word) (get nat_eq services.arbiters node) ≡ Some grant.id
      → IsArbitrating (suc (length history)) (nodes_of history) (starts_of history) (finished_of history) (ended_of history) (ledger_at (Granted node grant ∷ history)) more services.grant_index
  granted-kept node drawn grant more next changes passed chosen =
      let found = rw (m.sequencing.started, m.arbitrating.arbiters_are.each node) at (served-there node drawn next) in
      let among = kept-there _ m.arbitrating.contested_is.among node drawn m.arbitrating.contested_is.unserved found in
      let one = m.arbitrating.arbitrated.each node in
      let l = ledger_at history node in
      let live = live_by (starts_of history) (finished_of history) (ended_of history) in
      let moded = ready-moded (mode_at history node) node drawn found in
      let here : arbiter_of live (ledger_at (Granted node grant ∷ history) node) ≡ option_map (at_sequencer (granted grant.id)) (arbiter_of live (ledger_at history node)) = rw (itself node) (granted-is live (length history) l one.requests_within grant.id) in
      arbitrating-there m.arbitrating (finished_of history) (ledger_at (Granted node grant ∷ history)) more node (at_sequencer (granted grant.id)) (λ n other. rw other refl)
      here changes (λ n. every n (node == n) refl moded) among services.grant_index refl (λ n other. refl)
      (subst (λ (o : Option ArbiterValue). IsKnown (starts_in (starts_of history)) (known_at services.grant_index node) o) (sym here)
      (chosen-passed passed (known_at services.grant_index node) grant (arbiter_of live (ledger_at history node)) (rw (m.sequencing.started, m.arbitrating.arbiters_are.each node) at chosen) (m.arbitrating.contested_is.known node)))
    where
      every : (n : ℕ) (v : Bool) → (node == n) ≡ v → IsSome (mode_at history node) → IsArbitrated (suc (length history)) (length (nodes_of history)) (starts_of history) n (ledger_at (Granted node grant ∷ history) n)
      every n false is moded = rw is (arbitrated-more (m.arbitrating.arbitrated.each n))
      every n true is moded =
          subst (λ (k : ℕ). IsArbitrated (suc (length history)) (length (nodes_of history)) (starts_of history) k (ledger_at (Granted node grant ∷ history) k)) (same-there node n is)
          (rw (itself node) (arbitrated-granted (m.arbitrating.arbitrated.each node) grant.id moded))
