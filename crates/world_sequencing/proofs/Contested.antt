-- The sequencers that a world keeps, and what a log says of them.
use Rattle.world_sequencing.proofs.Common.{◌≡◌, ℕ, suc, ◌==◌, nat_eq, Bool, true, false, List, [], ◌∷◌, length, map, filter, Contains, Option, Some, None, option_map, option_and_then, refl, ap, sym, ◌∙◌, subst, arith, if◌then◌else◌, option_map_or, get, nat_tests, All-contains, first_given, Phase, Node, path_order, Mode, IsPassed, Start, lock_at, ready_at, Who, Entry, locking_at, mode_at, next_locked, next_served, sequencer_at, sequencer_with, serving_at, nodes_of, ended_of, StartRecord, starts_of, finished_of, is_live, sequences_of, starts_in, ArbiterValue, ChangesAt, ArbiterMap, lock_in, ready_in, AreArbiters, AreContested, IsArbitrated, IsArbitrating, Ledger, arbiter_of, arbiter_with, ledger_at, GrantIndex, IsKnown, LearnsAt, known_at, live_by, first-kept, first-none}
use Rattle.world_sequencing.proofs.Arbited.{arbitrated-more}

-- a node stands in an order, and once
pub record IsPlaced (order : List ℕ) (node : ℕ) : Type 0 where
  pub there : Contains order node
  pub alone : filter (nat_eq node) order ≡ node ∷ []

-- a log's sequencer is that of its ledger
module _ (history : List Entry) (n : ℕ) where
  pub sequencer-is : sequencer_at history n ≡ option_map (λ a. a.sequencer) (arbiter_of (live_by (starts_of history) (finished_of history) (ended_of history)) (ledger_at history n))
  unfolding is_live
  sequencer-is = by (mode_at history n)
    where
      by : (mode : Option Mode) → option_map (sequencer_with history n) mode ≡ option_map (λ (a : ArbiterValue). a.sequencer) (option_map (arbiter_with (live_by (starts_of history) (finished_of history) (ended_of history)) (ledger_at history n)) mode)
      by None = refl
      by (Some mode) = refl

and-then-map : {A B C : Type 0} (f : A → B) (g : B → Option C) (o : Option A) → option_and_then g (option_map f o) ≡ option_and_then (λ a. g (f a)) o
and-then-map f g None = refl
and-then-map f g (Some a) = refl

unpaired : {A : Type 0} (n : ℕ) (o : Option A) → option_map {U = ℕ × A} (λ a. (n, a)) o ≡ None → o ≡ None
unpaired n None e = refl
unpaired n (Some a) e = cc

-- of one thing that is looked for at each sequencer
module _ {A : Type 0} (at : ℕ → Option A) (order : List ℕ) where
  abbrev pub paired : ℕ → Option (ℕ × A)
  paired n = option_map {U = ℕ × A} (λ a. (n, a)) (at n)

  pub kept-known : (among : ℕ → Bool) {kept : List ℕ} → kept ≡ filter among order → ((n : ℕ) → among n ≡ false → at n ≡ None) → first_given (map paired order) ≡ first_given (map paired kept)
  kept-known among is others = sym (first-kept paired among order (λ n out. rw (others n out) refl)) ∙ ap (λ (ns : List ℕ). first_given (map paired ns)) (sym is)

  pub none-known : (among : ℕ → Bool) → ((n : ℕ) → among n ≡ true → Contains order n) → ((n : ℕ) → among n ≡ false → at n ≡ None) → first_given (map paired order) ≡ None → (n : ℕ) → at n ≡ None
  none-known among held others none n = tested (among n) refl
    where
      tested : (b : Bool) → among n ≡ b → at n ≡ None
      tested true is = unpaired n (at n) (All-contains (λ n. paired n ≡ None) order n (first-none paired order none) (held n is))
      tested false is = others n is

-- the lock that leads, and the driver that is served, by what is kept
module _ (history : List Entry) where
  abbrev locks : ℕ → Option ℕ
  locks n = lock_in (starts_in (starts_of history)) (arbiter_of (live_by (starts_of history) (finished_of history) (ended_of history)) (ledger_at history n))

  abbrev serves : ℕ → Option Bool
  serves n = ready_in (starts_in (starts_of history)) (arbiter_of (live_by (starts_of history) (finished_of history) (ended_of history)) (ledger_at history n))

  locking-is : locking_at history ≡ paired locks (path_order (nodes_of history))
  locking-is = λ i n. option_map {U = ℕ × ℕ} (λ id. (n, id)) (at n i)
    where
      at : (n : ℕ) → option_and_then (lock_at (sequences_of history)) (sequencer_at history n) ≡ locks n
      at n = ap (option_and_then (lock_at (sequences_of history))) (sequencer-is history n) ∙ and-then-map (λ (a : ArbiterValue). a.sequencer) (lock_at (sequences_of history)) (arbiter_of (live_by (starts_of history) (finished_of history) (ended_of history)) (ledger_at history n))

  serving-is : serving_at history ≡ paired serves (path_order (nodes_of history))
  serving-is = λ i n. option_map {U = ℕ × Bool} (λ drawn. (n, drawn)) (at n i)
    where
      at : (n : ℕ) → option_and_then (ready_at (sequences_of history)) (sequencer_at history n) ≡ serves n
      at n = ap (option_and_then (ready_at (sequences_of history))) (sequencer-is history n) ∙ and-then-map (λ (a : ArbiterValue). a.sequencer) (ready_at (sequences_of history)) (arbiter_of (live_by (starts_of history) (finished_of history) (ended_of history)) (ledger_at history n))

  module _ {grant_index : GrantIndex} (c : AreContested (starts_in (starts_of history)) (live_by (starts_of history) (finished_of history) (ended_of history)) (ledger_at history) (path_order (nodes_of history)) grant_index) where
    pub locked-first : next_locked history ≡ first_given (map (paired locks (path_order (nodes_of history))) grant_index.nodes.items)
    unfolding next_locked
    locked-first = ap (λ (f : ℕ → Option (ℕ × ℕ)). first_given (map f (path_order (nodes_of history)))) locking-is ∙ kept-known locks (path_order (nodes_of history)) c.among c.kept_are c.unlocked

    pub served-first : next_served history ≡ first_given (map (paired serves (path_order (nodes_of history))) grant_index.nodes.items)
    unfolding next_served
    served-first = ap (λ (f : ℕ → Option (ℕ × Bool)). first_given (map f (path_order (nodes_of history)))) serving-is ∙ kept-known serves (path_order (nodes_of history)) c.among c.kept_are c.unserved

    pub none-locked : next_locked history ≡ None → (n : ℕ) → locks n ≡ None
    unfolding next_locked
    none-locked none = none-known locks (path_order (nodes_of history)) c.among c.held c.unlocked (sym (ap (λ (f : ℕ → Option (ℕ × ℕ)). first_given (map f (path_order (nodes_of history)))) locking-is) ∙ none)

    pub none-served : next_served history ≡ None → (n : ℕ) → serves n ≡ None
    unfolding next_served
    none-served none = none-known serves (path_order (nodes_of history)) c.among c.held c.unserved (sym (ap (λ (f : ℕ → Option (ℕ × Bool)). first_given (map f (path_order (nodes_of history)))) serving-is) ∙ none)

-- it is known of none; of so many, if that is kept; and of those of which it was known, if they still are
pub known-none : (started : List Start) (arbiter : Option ArbiterValue) → IsKnown started 0 arbiter
known-none started None = tt
known-none started (Some a) = record { within = omega (arith); blocked = refl }

pub learns-else : (home known : ℕ) (old new : GrantIndex) → LearnsAt home known old new → (n : ℕ) → (home == n) ≡ false → known_at new n ≡ known_at old n
learns-else home known old new learns n is = learns n ∙ rw is refl

pub learns-here : (started : List Start) (home known : ℕ) (old new : GrantIndex) → LearnsAt home known old new → (arbiter : Option ArbiterValue) → IsKnown started known arbiter → IsKnown started (known_at new home) arbiter
learns-here started home known old new learns arbiter is =
    let itself : (home == home) ≡ true = grind (arith, nat_tests) in
    subst (λ (k : ℕ). IsKnown started k arbiter) (sym (learns home ∙ rw itself refl)) (by (get nat_eq old.passed home))
  where
    by : (kept : Option ℕ) → IsKnown started (option_map_or (λ before. known) kept 0) arbiter
    by None = known-none started arbiter
    by (Some before) = is

pub known-changed :
    (started : List Start) (before after : ℕ) (change : ArbiterValue → ArbiterValue) (old new : Option ArbiterValue) → new ≡ option_map change old
    → ((a : ArbiterValue) → IsPassed started a.sequencer before → IsPassed started (change a).sequencer after) → IsKnown started before old → IsKnown started after new
known-changed started before after change old new is keeps known = subst (λ (o : Option ArbiterValue). IsKnown started after o) (sym is) (by old known)
  where
    by : (o : Option ArbiterValue) → IsKnown started before o → IsKnown started after (option_map change o)
    by None passed = tt
    by (Some a) passed = keeps a passed

-- with one more entry that says nothing of sequencers
pub arbitrating-later :
    {count : ℕ} {nodes : List Node} {begun : List StartRecord} {finished : List Who} {ended : List Phase} {ledger : ℕ → Ledger} {arbiters : ArbiterMap} {grant_index : GrantIndex}
    → IsArbitrating count nodes begun finished ended ledger arbiters grant_index → IsArbitrating (suc count) nodes begun finished ended ledger arbiters grant_index
arbitrating-later a = record { arbiters_are = a.arbiters_are; arbitrated = record { each = λ n. arbitrated-more (a.arbitrated.each n) }; contested_is = a.contested_is }

-- something is done at one sequencer
pub changed-each :
    (live gone : ℕ → Bool) (old new : ℕ → Ledger) (kept more : ArbiterMap) (home : ℕ) (change : ArbiterValue → ArbiterValue) → ((n : ℕ) → (home == n) ≡ false → arbiter_of gone (new n) ≡ arbiter_of live (old n))
    → arbiter_of gone (new home) ≡ option_map change (arbiter_of live (old home)) → ChangesAt home change kept more
    → AreArbiters live old kept → (n : ℕ) → get nat_eq more n ≡ arbiter_of gone (new n)
changed-each live gone old new kept more home change elsewhere here changes are n = changes n ∙ tested (home == n) refl
  where
    tested : (b : Bool) → (home == n) ≡ b → (if b then option_map change (get nat_eq kept n) else get nat_eq kept n) ≡ arbiter_of gone (new n)
    tested true is =
        let same : home ≡ n = grind (arith, nat_tests) in
        ap (option_map change) (are.each n) ∙ subst (λ (k : ℕ). option_map change (arbiter_of live (old k)) ≡ arbiter_of gone (new k)) same (sym here)
    tested false is = are.each n ∙ sym (elsewhere n is)

module _ {count : ℕ} {nodes : List Node} {begun : List StartRecord} {finished : List Who} {ended : List Phase} {old : ℕ → Ledger} {kept : ArbiterMap} {grant_index : GrantIndex} (a : IsArbitrating count nodes begun finished ended old kept grant_index) (gone : List Who) (new : ℕ → Ledger) (more : ArbiterMap) where
  -- of the others as much is known as before
  known-each :
      (home : ℕ) → ((n : ℕ) → (home == n) ≡ false → arbiter_of (live_by begun gone ended) (new n) ≡ arbiter_of (live_by begun finished ended) (old n))
      → (after : GrantIndex) → ((n : ℕ) → (home == n) ≡ false → known_at after n ≡ known_at grant_index n) → IsKnown (starts_in begun) (known_at after home) (arbiter_of (live_by begun gone ended) (new home))
      → (n : ℕ) → IsKnown (starts_in begun) (known_at after n) (arbiter_of (live_by begun gone ended) (new n))
  known-each home elsewhere after others known n = tested (home == n) refl
    where
      tested : (b : Bool) → (home == n) ≡ b → IsKnown (starts_in begun) (known_at after n) (arbiter_of (live_by begun gone ended) (new n))
      tested true is =
          let same : home ≡ n = grind (arith, nat_tests) in
          subst (λ (k : ℕ). IsKnown (starts_in begun) (known_at after k) (arbiter_of (live_by begun gone ended) (new k))) same known
      tested false is =
          subst (λ (o : Option ArbiterValue). IsKnown (starts_in begun) (known_at after n) o) (sym (elsewhere n is))
          (subst (λ (k : ℕ). IsKnown (starts_in begun) k (arbiter_of (live_by begun finished ended) (old n))) (sym (others n is)) (a.contested_is.known n))

  -- where no lock led and no component or sequence could be served, it may be so at that one now
  pub arbitrating-one :
      (home : ℕ) (change : ArbiterValue → ArbiterValue) → ((n : ℕ) → (home == n) ≡ false → arbiter_of (live_by begun gone ended) (new n) ≡ arbiter_of (live_by begun finished ended) (old n))
      → arbiter_of (live_by begun gone ended) (new home) ≡ option_map change (arbiter_of (live_by begun finished ended) (old home)) → ChangesAt home change kept more
      → ((n : ℕ) → IsArbitrated (suc count) (length nodes) begun n (new n)) → IsPlaced (path_order nodes) home
      → ((n : ℕ) → lock_in (starts_in begun) (arbiter_of (live_by begun finished ended) (old n)) ≡ None) → ((n : ℕ) → ready_in (starts_in begun) (arbiter_of (live_by begun finished ended) (old n)) ≡ None)
      → (after : GrantIndex) → after.nodes.items ≡ home ∷ [] → ((n : ℕ) → (home == n) ≡ false → known_at after n ≡ known_at grant_index n) → IsKnown (starts_in begun) (known_at after home) (arbiter_of (live_by begun gone ended) (new home))
      → IsArbitrating (suc count) nodes begun gone ended new more after
  arbitrating-one home change elsewhere here changes each there unlocked unserved after is others known = record {
    arbiters_are = record { each = changed-each (live_by begun finished ended) (live_by begun gone ended) old new kept more home change elsewhere here changes a.arbiters_are };
    arbitrated = record { each = each };
    contested_is = record {
      among = nat_eq home;
      kept_are = is ∙ sym there.alone;
      held = λ n at. (let same : home ≡ n = grind (arith, nat_tests) in subst (Contains (path_order nodes)) same there.there);
      unlocked = λ n other. ap (lock_in (starts_in begun)) (elsewhere n other) ∙ unlocked n;
      unserved = λ n other. ap (ready_in (starts_in begun)) (elsewhere n other) ∙ unserved n;
      known = λ n. known-each home elsewhere after others known n;
    };
  }

  -- and where it may be so at some, one of which this is, it may still be so there
  pub arbitrating-there :
      (home : ℕ) (change : ArbiterValue → ArbiterValue) → ((n : ℕ) → (home == n) ≡ false → arbiter_of (live_by begun gone ended) (new n) ≡ arbiter_of (live_by begun finished ended) (old n))
      → arbiter_of (live_by begun gone ended) (new home) ≡ option_map change (arbiter_of (live_by begun finished ended) (old home)) → ChangesAt home change kept more
      → ((n : ℕ) → IsArbitrated (suc count) (length nodes) begun n (new n)) → a.contested_is.among home ≡ true
      → (after : GrantIndex) → after.nodes ≡ grant_index.nodes → ((n : ℕ) → (home == n) ≡ false → known_at after n ≡ known_at grant_index n) → IsKnown (starts_in begun) (known_at after home) (arbiter_of (live_by begun gone ended) (new home))
      → IsArbitrating (suc count) nodes begun gone ended new more after
  arbitrating-there home change elsewhere here changes each is after still others known = record {
    arbiters_are = record { each = changed-each (live_by begun finished ended) (live_by begun gone ended) old new kept more home change elsewhere here changes a.arbiters_are };
    arbitrated = record { each = each };
    contested_is = record {
      among = a.contested_is.among;
      kept_are = rw still a.contested_is.kept_are;
      held = a.contested_is.held;
      unlocked = λ n other. ap (lock_in (starts_in begun)) (elsewhere n (apart n other)) ∙ a.contested_is.unlocked n other;
      unserved = λ n other. ap (ready_in (starts_in begun)) (elsewhere n (apart n other)) ∙ a.contested_is.unserved n other;
      known = λ n. known-each home elsewhere after others known n;
    };
  }
    where
      apart : (n : ℕ) → a.contested_is.among n ≡ false → (home == n) ≡ false
      apart n other = tested (home == n) refl
        where
          tested : (b : Bool) → (home == n) ≡ b → (home == n) ≡ false
          tested false at = at
          tested true at =
              let same : home ≡ n = grind (arith, nat_tests) in
              let here : a.contested_is.among n ≡ true = subst (λ (k : ℕ). a.contested_is.among k ≡ true) same is in
              let clash : true ≡ false = sym here ∙ other in
              cc
