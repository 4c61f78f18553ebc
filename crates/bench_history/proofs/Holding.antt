-- Who holds a sequencer, and to whom its grants go.
use Rattle.bench_history.proofs.Common.{◌≡◌, ◌≤◌, ◌<◌, ◌+◌, ℕ, zero, suc, Bool, true, false, not, ◌&&◌, ◌==◌, ◌⊎◌, inl, inr, List, [], ◌∷◌, ◌++◌, length, filter, Option, Some, None, IfSome, option_map, option_and_then, refl, sym, ap, subst, ◌∙◌, arith, if◌then◌else◌, and_from, and_parts, list_all, option_map_or, nat_tests, All-nil, All-cons, All-head, All-tail, All-push, All-weaker, All-contains, filter-append, OrderKeepsAll, path_order, Mode, choice, are_nested, is_held, is_under, numbered, candidates_at, choice_at, lock_at, Who, Call, Act, Unlock, Outcome, Done, Started, Entry, Did, Locked, Granted, ScriptValue, EventTarget, nodes_of, StartRecord, starts_of, is_live, lives, sequences_of, start_by, given_back, holders, locking_at, locks_held, mode_at, next_locked, sequence_on, sequencer_with, unlocks, chosen_at, next_of, IsNext, EachIsNext, IsLiving, Grants, HasKept, gets_lock, gives_back, is_one_of, length-append, All, Contains, Request}
use Rattle.uvm_sequencer.specs.Laws as sequencer
use Rattle.uvm_sequencer.specs.Queues.{released}
use Rattle.uvm_sequences.specs.Sequences.{Start}
use Rattle.bench_history.specs.LegalLogs.{LockExcludes}
use Rattle.bench_history.proofs.Asking.{given-holds}
use Rattle.bench_history.proofs.Driving.{lockers_are_there}
use Rattle.bench_history.proofs.Inversion.{comes, exactly}
use Rattle.bench_history.proofs.Leaving.{filter-has, living_lived}
use Rattle.bench_history.proofs.Living.{begun-count, numbered-within}
use Rattle.bench_history.proofs.Olders.{older-each}

itself : (n : ℕ) → (n == n) ≡ true
itself n = grind (arith, nat_tests)

all-from : {X : Type 0} (p : X → Bool) (xs : List X) → list_all p xs ≡ true → All (λ x. p x ≡ true) xs
all-from p [] e = All-nil (λ x. p x ≡ true)
all-from p (x ∷ xs) e = All-cons (λ x. p x ≡ true) x xs (and_parts (p x) (list_all p xs) e).0 (all-from p xs (and_parts (p x) (list_all p xs) e).1)

-- whatever is granted goes to a sequence that is each holder or descends from it
abbrev AreOver : List Entry → ℕ → ℕ → Type 0
AreOver history node id = All (λ holder. is_under (sequences_of history) id holder ≡ true) (holders history node)

-- a lock that leads
pub led-holds : (history : List Entry) (P : ℕ × ℕ → Type 0) → ((node : ℕ) (mode : Mode) (id : ℕ) → lock_at (sequences_of history) (sequencer_with history node mode) ≡ Some id → P (node, id)) → IfSome (next_locked history) P
unfolding next_locked
led-holds history P holds = given-holds (locking_at history) P (path_order (nodes_of history)) (λ node. by node (mode_at history node))
  where
    led : (node : ℕ) (mode : Mode) (found : Option ℕ) → lock_at (sequences_of history) (sequencer_with history node mode) ≡ found → IfSome {T = ℕ × ℕ} (option_map (λ (id : ℕ). (node, id)) found) P
    led node mode None is = tt
    led node mode (Some id) is = holds node mode id is

    by : (node : ℕ) (mode : Option Mode) → IfSome {T = ℕ × ℕ} (option_map (λ (id : ℕ). (node, id)) (option_and_then (lock_at (sequences_of history)) (option_map (sequencer_with history node) mode))) P
    by node None = tt
    by node (Some mode) = led node mode (lock_at (sequences_of history) (sequencer_with history node mode)) refl

module _ (excludes : sequencer.LockExcludes) where
  item-under : (before : List Entry) (node id : ℕ) (word : Option ℕ) → chosen_at before node word ≡ Some id → AreOver before node id
  item-under before node id word e = by (mode_at before node) e
    where
      picked : (mode : Mode) (found : Option Request) → choice mode (candidates_at (sequences_of before) (sequencer_with before node mode)) word ≡ found → option_map (λ (request : Request). request.seq) found ≡ Some id → AreOver before node id
      picked mode None is e = cc
      picked mode (Some request) is e =
          let same : request.seq ≡ id = cc in
          subst (AreOver before node) same (all-from (λ holder. is_under (sequences_of before) request.seq holder) (holders before node) (excludes.items (sequences_of before) (sequencer_with before node mode) word request is).1.under)

      by : (mode : Option Mode) → option_and_then (λ s. choice_at (sequences_of before) s word) (option_map (sequencer_with before node) mode) ≡ Some id → AreOver before node id
      by None e = cc
      by (Some mode) e = picked mode (choice mode (candidates_at (sequences_of before) (sequencer_with before node mode)) word) refl e

  lock-under : (history : List Entry) → IfSome (next_locked history) (λ led. AreOver history led.0 led.1)
  lock-under history = led-holds history (λ led. AreOver history led.0 led.1) (λ node mode id is. all-from (λ holder. is_under (sequences_of history) id holder) (holders history node) (excludes.locks (sequences_of history) (sequencer_with history node mode) id is).under)

-- fewer that are nested
abbrev IsWithin : (p q : ℕ → Bool) → ℕ → Type 0
IsWithin p q x = q x ≡ true → p x ≡ true

all-narrow : (r p q : ℕ → Bool) (xs : List ℕ) → All (IsWithin p q) xs → list_all r (filter p xs) ≡ true → list_all r (filter q xs) ≡ true
all-narrow r p q [] within all = refl
all-narrow r p q (x ∷ xs) within all = tested (p x) (q x) refl refl (All-head (IsWithin p q) x xs within) all (all-narrow r p q xs (All-tail (IsWithin p q) x xs within))
  where
    tested :
        (a b : Bool) → p x ≡ a → q x ≡ b → IsWithin p q x → list_all r (if a then x ∷ filter p xs else filter p xs) ≡ true → (list_all r (filter p xs) ≡ true → list_all r (filter q xs) ≡ true)
        → list_all r (if b then x ∷ filter q xs else filter q xs) ≡ true
    tested true true is at in_it all more = and_from (r x) (list_all r (filter q xs)) (and_parts (r x) (list_all r (filter p xs)) all).0 (more (and_parts (r x) (list_all r (filter p xs)) all).1)
    tested true false is at in_it all more = more (and_parts (r x) (list_all r (filter p xs)) all).1
    tested false true is at in_it all more = let passes : p x ≡ true = in_it at in cc
    tested false false is at in_it all more = more all

module _ (started : List Start) where
  abbrev over : ℕ → ℕ → Bool
  over first holder = is_under started holder first

  narrow : (p q : ℕ → Bool) (xs : List ℕ) → All (IsWithin p q) xs → are_nested started (filter p xs) ≡ true → are_nested started (filter q xs) ≡ true
  narrow p q [] within nested = refl
  narrow p q (x ∷ xs) within nested = tested (p x) (q x) refl refl (All-head (IsWithin p q) x xs within) (All-tail (IsWithin p q) x xs within) nested (narrow p q xs (All-tail (IsWithin p q) x xs within))
    where
      tested :
          (a b : Bool) → p x ≡ a → q x ≡ b → IsWithin p q x → All (IsWithin p q) xs → are_nested started (if a then x ∷ filter p xs else filter p xs) ≡ true → (are_nested started (filter p xs) ≡ true → are_nested started (filter q xs) ≡ true)
          → are_nested started (if b then x ∷ filter q xs else filter q xs) ≡ true
      tested true true is at in_it rest nested more =
          and_from (list_all (over x) (filter q xs)) (are_nested started (filter q xs)) (all-narrow (over x) p q xs rest (and_parts (list_all (over x) (filter p xs)) (are_nested started (filter p xs)) nested).0)
          (more (and_parts (list_all (over x) (filter p xs)) (are_nested started (filter p xs)) nested).1)
      tested true false is at in_it rest nested more = more (and_parts (list_all (over x) (filter p xs)) (are_nested started (filter p xs)) nested).1
      tested false true is at in_it rest nested more = let passes : p x ≡ true = in_it at in cc
      tested false false is at in_it rest nested more = more nested

  -- and without a lock that was given back
  all-freed : (r p : ℕ → Bool) (id : ℕ) (xs : List ℕ) → list_all r (filter p xs) ≡ true → list_all r (filter p (released id xs)) ≡ true
  all-freed r p id [] all = refl
  all-freed r p id (x ∷ xs) all = tested (p x) refl ((x == id) && not (is_held id xs)) all (all-freed r p id xs)
    where
      tested :
          (a : Bool) → p x ≡ a → (b : Bool) → list_all r (if a then x ∷ filter p xs else filter p xs) ≡ true → (list_all r (filter p xs) ≡ true → list_all r (filter p (released id xs)) ≡ true)
          → list_all r (filter p (if b then xs else x ∷ released id xs)) ≡ true
      tested true is true all more = (and_parts (r x) (list_all r (filter p xs)) all).1
      tested true is false all more = rw is (and_from (r x) (list_all r (filter p (released id xs))) (and_parts (r x) (list_all r (filter p xs)) all).0 (more (and_parts (r x) (list_all r (filter p xs)) all).1))
      tested false is true all more = all
      tested false is false all more = rw is (more all)

  freed : (p : ℕ → Bool) (id : ℕ) (xs : List ℕ) → are_nested started (filter p xs) ≡ true → are_nested started (filter p (released id xs)) ≡ true
  freed p id [] nested = refl
  freed p id (x ∷ xs) nested = tested (p x) refl ((x == id) && not (is_held id xs)) nested (freed p id xs)
    where
      tested :
          (a : Bool) → p x ≡ a → (b : Bool) → are_nested started (if a then x ∷ filter p xs else filter p xs) ≡ true → (are_nested started (filter p xs) ≡ true → are_nested started (filter p (released id xs)) ≡ true)
          → are_nested started (filter p (if b then xs else x ∷ released id xs)) ≡ true
      tested true is true nested more = (and_parts (list_all (over x) (filter p xs)) (are_nested started (filter p xs)) nested).1
      tested true is false nested more =
          rw is (and_from (list_all (over x) (filter p (released id xs))) (are_nested started (filter p (released id xs))) (all-freed (over x) p id xs (and_parts (list_all (over x) (filter p xs)) (are_nested started (filter p xs)) nested).0)
          (more (and_parts (list_all (over x) (filter p xs)) (are_nested started (filter p xs)) nested).1))
      tested false is true nested more = nested
      tested false is false nested more = rw is (more nested)

  back : (p : ℕ → Bool) (gives : Bool) (id : Option ℕ) (xs : List ℕ) → are_nested started (filter p xs) ≡ true → are_nested started (filter p (given_back gives id xs)) ≡ true
  back p false id xs nested = nested
  back p true None xs nested = nested
  back p true (Some id) xs nested = freed p id xs nested

  -- of two that are nested one is under the other
  one-of : (first : ℕ) (later : List ℕ) (x : ℕ) → list_all (over first) later ≡ true → Contains later x → is_under started x first ≡ true
  one-of first [] x all has = absurd (omega (arith, has.1))
  one-of first (y ∷ ys) x all (zero, low, at) = rw at at (and_parts (over first y) (list_all (over first) ys) all).0
  one-of first (y ∷ ys) x all (suc k, low, at) = one-of first ys x (and_parts (over first y) (list_all (over first) ys) all).1 (k, omega (arith, low), at)

  in-line : (xs : List ℕ) (a b : ℕ) → are_nested started xs ≡ true → Contains xs a → Contains xs b → (is_under started a b ≡ true) ⊎ (is_under started b a ≡ true)
  in-line [] a b nested has other = absurd (omega (arith, has.1))
  in-line (x ∷ xs) a b nested (zero, low, at) (zero, less, is) = let same : a ≡ b = sym at ∙ is in inl (rw same (rw (itself b) refl))
  in-line (x ∷ xs) a b nested (zero, low, at) (suc k, less, is) =
      let under = one-of x xs b (and_parts (list_all (over x) xs) (are_nested started xs) nested).0 (k, omega (arith, less), is) in
      inr (rw at at under)
  in-line (x ∷ xs) a b nested (suc k, low, at) (zero, less, is) =
      let under = one-of x xs a (and_parts (list_all (over x) xs) (are_nested started xs) nested).0 (k, omega (arith, low), at) in
      inl (rw is at under)
  in-line (x ∷ xs) a b nested (suc k, low, at) (suc n, less, is) = in-line xs a b (and_parts (list_all (over x) xs) (are_nested started xs) nested).1 (k, omega (arith, low), at) (n, omega (arith, less), is)

-- how many of some locks are those of a sequence
abbrev own : ℕ → List ℕ → ℕ
own id held = length (filter (λ (other : ℕ). other == id) held)

one-more : (x : ℕ) (held : List ℕ) (mine : Bool) → length (if mine then x ∷ held else held) ≤ suc (length held)
one-more x held true = omega arith
one-more x held false = omega arith

both-more : (x : ℕ) (held left : List ℕ) (more : ℕ) (mine : Bool) → length held ≤ more + length left → length (if mine then x ∷ held else held) ≤ more + length (if mine then x ∷ left else left)
both-more x held left more true low = omega (arith, low)
both-more x held left more false low = low

-- of these all but one stay when one is given back
freed-own : (id other : ℕ) (held : List ℕ) → own id held ≤ 1 + own id (released other held)
freed-own id other [] = omega arith
freed-own id other (x ∷ xs) = by ((x == other) && not (is_held other xs)) (freed-own id other xs)
  where
    by : (gone : Bool) → own id xs ≤ 1 + own id (released other xs) → own id (x ∷ xs) ≤ 1 + own id (if gone then xs else x ∷ released other xs)
    by true low = let more = one-more x (filter (λ (one : ℕ). one == id) xs) (x == id) in omega (arith, more)
    by false low = both-more x (filter (λ (one : ℕ). one == id) xs) (filter (λ (one : ℕ). one == id) (released other xs)) 1 (x == id) low

-- and all when another sequence gives one back
apart-from : (x id other : ℕ) → (x == other) ≡ true → (other == id) ≡ false → (x == id) ≡ false
apart-from x id other is apart = let same : x ≡ other = grind (arith, nat_tests, is) in rw same apart

kept-own : (id other : ℕ) (held : List ℕ) → (other == id) ≡ false → own id held ≤ 0 + own id (released other held)
kept-own id other [] apart = omega arith
kept-own id other (x ∷ xs) apart = by ((x == other) && not (is_held other xs)) refl (kept-own id other xs apart)
  where
    by : (gone : Bool) → ((x == other) && not (is_held other xs)) ≡ gone → own id xs ≤ 0 + own id (released other xs) → own id (x ∷ xs) ≤ 0 + own id (if gone then xs else x ∷ released other xs)
    by true is low = rw (apart-from x id other (and_parts (x == other) (not (is_held other xs)) is).0 apart) (omega arith)
    by false is low = both-more x (filter (λ (one : ℕ). one == id) xs) (filter (λ (one : ℕ). one == id) (released other xs)) 0 (x == id) low

pushed-own : (id seq : ℕ) (held : List ℕ) → own id (held ++ seq ∷ []) ≡ own id held + length (if seq == id then seq ∷ [] else [])
pushed-own id seq held = ap (λ (xs : List ℕ). length xs) (filter-append (λ (one : ℕ). one == id) held (seq ∷ [])) ∙ length-append (filter (λ (one : ℕ). one == id) held) (if seq == id then seq ∷ [] else [])

-- who was granted more locks than it gave back has one: what was granted, with the one lock, is no more than what was given back and what is held
own-did :
    (node id : ℕ) (performer : Who) (outcome : Outcome) (act : Act) (held : List ℕ) (granted back : List Entry) → suc (length granted) ≤ length back + own id held
    → suc (length granted) ≤ length (if gives_back node id (Did performer outcome act) then Did performer outcome act ∷ back else back) + own id (given_back (unlocks outcome act) (sequence_on node performer) held)
own-did node id performer Done Unlock held granted back low = by (sequence_on node performer)
  where
    tested : (other : ℕ) (same : Bool) → (other == id) ≡ same → suc (length granted) ≤ length (if same then Did performer Done Unlock ∷ back else back) + own id (released other held)
    tested other true is = let less = freed-own id other held in omega (arith, low, less)
    tested other false is = let less = kept-own id other held is in omega (arith, low, less)

    by : (found : Option ℕ) → suc (length granted) ≤ length (if is_one_of id found then Did performer Done Unlock ∷ back else back) + own id (given_back true found held)
    by None = low
    by (Some other) = tested other (other == id) refl
own-did node id performer outcome act held granted back low = low

own-locked : (id seq : ℕ) (entry : Entry) (here : Bool) (held : List ℕ) (granted back : List Entry) → suc (length granted) ≤ length back + own id held
    → suc (length (if here && (seq == id) then entry ∷ granted else granted)) ≤ length back + own id (if here then held ++ seq ∷ [] else held)
own-locked id seq entry false held granted back low = low
own-locked id seq entry true held granted back low = by (seq == id) (pushed-own id seq held)
  where
    by : (mine : Bool) → own id (held ++ seq ∷ []) ≡ own id held + length (if mine then seq ∷ [] else []) → suc (length (if mine then entry ∷ granted else granted)) ≤ length back + own id (held ++ seq ∷ [])
    by true is = omega (arith, low, is)
    by false is = omega (arith, low, is)

own-more : (node id : ℕ) (entry : Entry) (before : List Entry) (granted back : List Entry) → suc (length granted) ≤ length back + own id (locks_held before node)
    → suc (length (if gets_lock node id entry then entry ∷ granted else granted)) ≤ length (if gives_back node id entry then entry ∷ back else back) + own id (locks_held (entry ∷ before) node)
own-more node id (Did performer outcome act) before granted back low = own-did node id performer outcome act (locks_held before node) granted back low
own-more node id (Locked other seq) before granted back low = own-locked id seq (Locked other seq) (other == node) (locks_held before node) granted back low
own-more node id entry before granted back low = low

own-since : (between before : List Entry) (node id : ℕ) → suc (length (filter (gets_lock node id) between)) ≤ length (filter (gives_back node id) between) + own id (locks_held (between ++ Locked node id ∷ before) node)
own-since [] before node id = rw (itself node) (by (pushed-own id id (locks_held before node)))
  where
    by : own id (locks_held before node ++ id ∷ []) ≡ own id (locks_held before node) + length (if id == id then id ∷ [] else []) → 1 ≤ 0 + own id (locks_held before node ++ id ∷ [])
    by is = let one = rw (itself id) at is in omega (arith, one)
own-since (entry ∷ between) before node id = own-more node id entry (between ++ Locked node id ∷ before) (filter (gets_lock node id) between) (filter (gives_back node id) between) (own-since between before node id)

own-has : (id : ℕ) (held : List ℕ) → 0 < own id held → Contains held id
own-has id [] low = absurd (omega (arith, low))
own-has id (x ∷ xs) low = by (x == id) refl low (own-has id xs)
  where
    by : (mine : Bool) → (x == id) ≡ mine → 0 < length (if mine then x ∷ filter (λ (one : ℕ). one == id) xs else filter (λ (one : ℕ). one == id) xs) → (0 < own id xs → Contains xs id) → Contains (x ∷ xs) id
    by true is low more = let same : x ≡ id = grind (arith, nat_tests, is) in (0, omega arith, same)
    by false is low more = let rest = more low in let within = rest.1 in (suc rest.0, omega (arith, within), rest.2)

kept-holds : (between before : List Entry) (node id : ℕ) → HasKept between before node id → Contains (holders (between ++ Locked node id ∷ before) node) id
kept-holds between before node id kept =
    let log = between ++ Locked node id ∷ before in
    let low = own-since between before node id in
    let fewer = kept.kept in
    filter-has (is_live log) (locks_held log node) id kept.lives (own-has id (locks_held log node) (omega (arith, low, fewer)))

-- who lives was started on some sequencer
live-somewhere : (history : List Entry) (id : ℕ) → is_live history id ≡ true → (home : ℕ) × IsLiving history id home
unfolding is_live
live-somewhere history id lives_on = by (numbered (starts_of history) id) refl lives_on
  where
    by : (found : Option StartRecord) → numbered (starts_of history) id ≡ found → option_map_or (lives history id) found false ≡ true → (home : ℕ) × IsLiving history id home
    by None is alive = cc
    by (Some start_record) is alive = (start_record.start.home, record { lives = lives_on; home_is = ap (option_map (λ (one : StartRecord). one.start.home)) is })

lived : (entry : Entry) (before : List Entry) (id : ℕ) → id ≤ length (starts_of before) → is_live (entry ∷ before) id ≡ true → is_live before id ≡ true
lived entry before id low alive = let l = live-somewhere (entry ∷ before) id alive in (living_lived entry before id l.0 low l.1).lives

-- what is known of the locks that are held at a sequencer
record AreHolding (history : List Entry) (node : ℕ) : Type 0 where
  nested : are_nested (sequences_of history) (holders history node) ≡ true
  begun : All (λ id. id ≤ length (starts_of history)) (locks_held history node)

-- the lock that is granted leaves them nested
abbrev GrowsBy : List Entry → ℕ × ℕ → Type 0
GrowsBy before led = are_nested (sequences_of before) (holders before led.0) ≡ true → are_nested (sequences_of before) (holders before led.0 ++ led.1 ∷ []) ≡ true

module _ (keeps : OrderKeepsAll EventTarget (Option Call)) (excludes : sequencer.LockExcludes) (stay : sequencer.HoldersStayNested) where
  -- one more sequence
  still-nested : (entry : Entry) (before : List Entry) (held : List ℕ) → are_nested (sequences_of before) held ≡ true → are_nested (sequences_of (entry ∷ before)) held ≡ true
  still-nested (Did performer (Started id) act) before held nested = stay.starts (start_by (nodes_of before) (sequences_of before) performer act) (sequences_of before) held nested
  still-nested (Did performer outcome act) before held nested = nested
  still-nested entry before held nested = nested

  begun-still : (entry : Entry) (before : List Entry) (held : List ℕ) → All (λ id. id ≤ length (starts_of before)) held → All (λ id. id ≤ length (starts_of (entry ∷ before))) held
  begun-still entry before held all =
      let more = begun-count entry before in
      All-weaker (λ id. id ≤ length (starts_of before)) (λ id. id ≤ length (starts_of (entry ∷ before))) (λ id low. omega (arith, more, low)) held all

  -- whoever lives still, of those that are held
  fewer-live : (entry : Entry) (before : List Entry) (held : List ℕ) → All (λ id. id ≤ length (starts_of before)) held → are_nested (sequences_of before) (filter (is_live before) held) ≡ true → are_nested (sequences_of (entry ∷ before)) (filter (is_live (entry ∷ before)) held) ≡ true
  fewer-live entry before held all nested =
      narrow (sequences_of (entry ∷ before)) (is_live before) (is_live (entry ∷ before)) held (All-weaker (λ id. id ≤ length (starts_of before)) (IsWithin (is_live before) (is_live (entry ∷ before))) (lived entry before) held all)
      (still-nested entry before (filter (is_live before) held) nested)

  freed-all : (P : ℕ → Type 0) (id : ℕ) (xs : List ℕ) → All P xs → All P (released id xs)
  freed-all P id [] all = all
  freed-all P id (x ∷ xs) all = by ((x == id) && not (is_held id xs)) (freed-all P id xs (All-tail P x xs all))
    where
      by : (b : Bool) → All P (released id xs) → All P (if b then xs else x ∷ released id xs)
      by true rest = All-tail P x xs all
      by false rest = All-cons P x (released id xs) (All-head P x xs all) rest

  back-all : (P : ℕ → Type 0) (gives : Bool) (id : Option ℕ) (xs : List ℕ) → All P xs → All P (given_back gives id xs)
  back-all P false id xs all = all
  back-all P true None xs all = all
  back-all P true (Some id) xs all = freed-all P id xs all

  -- one more lock
  locked-low : (script : ScriptValue) (before : List Entry) (node id : ℕ) → EachIsNext script before → IsNext script before (Locked node id) → (is_live before id ≡ true) × (id ≤ length (starts_of before))
  locked-low script before node id each next = let there = lockers_are_there keeps excludes script before node id each (exactly (Locked node id) (next_of script before) tt next) in (there.lives, by (numbered (starts_of before) id) refl there.home_is)
    where
      by : (found : Option StartRecord) → numbered (starts_of before) id ≡ found → option_map (λ start_record. start_record.start.home) found ≡ Some node → id ≤ length (starts_of before)
      by None is e = cc
      by (Some start_record) is e = numbered-within (starts_of before) id start_record is

  pushed : (before : List Entry) (node id : ℕ) → next_locked before ≡ Some (node, id) → are_nested (sequences_of before) (holders before node) ≡ true → are_nested (sequences_of before) (holders before node ++ id ∷ []) ≡ true
  pushed before node id is =
      subst (λ (led : Option (ℕ × ℕ)). IfSome led (GrowsBy before)) is (led-holds before (GrowsBy before) (λ node mode id at nested. stay.locks (sequences_of before) (sequencer_with before node mode) id nested at))

  holding-locked : (script : ScriptValue) (before : List Entry) (node other id : ℕ) → EachIsNext script before → IsNext script before (Locked other id) → AreHolding before node → AreHolding (Locked other id ∷ before) node
  holding-locked script before node other id each next was = by (other == node) refl
    where
      low : (is_live before id ≡ true) × (id ≤ length (starts_of before))
      low = locked-low script before other id each next

      after : (held : List ℕ) → All (λ id. id ≤ length (starts_of before)) held → are_nested (sequences_of before) (filter (is_live before) held) ≡ true → are_nested (sequences_of (Locked other id ∷ before)) (filter (is_live (Locked other id ∷ before)) held) ≡ true
      after held all nested = fewer-live (Locked other id) before held all nested

      by : (here : Bool) → (other == node) ≡ here → AreHolding (Locked other id ∷ before) node
      by true is =
          let same : other ≡ node = grind (arith, nat_tests, is) in
          let led : next_locked before ≡ Some (node, id) = subst (λ (n : ℕ). next_locked before ≡ Some (n, id)) same (comes script before (Locked other id) next) in
          let more = pushed before node id led was.nested in
          let split : filter (is_live before) (locks_held before node ++ id ∷ []) ≡ holders before node ++ id ∷ [] = filter-append (is_live before) (locks_held before node) (id ∷ []) ∙ rw low.0 refl in
          let all = All-push (λ id. id ≤ length (starts_of before)) (locks_held before node) id was.begun low.1 in
          record { nested = rw is (after (locks_held before node ++ id ∷ []) all (rw split more)); begun = rw is all }
      by false is = record { nested = rw is (after (locks_held before node) was.begun was.nested); begun = rw is was.begun }

  holding-more : (script : ScriptValue) (before : List Entry) (entry : Entry) (node : ℕ) → EachIsNext script before → IsNext script before entry → AreHolding before node → AreHolding (entry ∷ before) node
  holding-more script before (Locked other id) node each next was = holding-locked script before node other id each next was
  holding-more script before (Did performer outcome act) node each next was =
      let entry = Did performer outcome act in
      let gives = unlocks outcome act in
      let id = sequence_on node performer in
      let all = back-all (λ id. id ≤ length (starts_of before)) gives id (locks_held before node) was.begun in
      record {
        nested = fewer-live entry before (given_back gives id (locks_held before node)) all (back (sequences_of before) (is_live before) gives id (locks_held before node) was.nested);
        begun = begun-still entry before (given_back gives id (locks_held before node)) all;
      }
  holding-more script before entry node each next was = record { nested = fewer-live entry before (locks_held before node) was.begun was.nested; begun = begun-still entry before (locks_held before node) was.begun }

  holding-of : (script : ScriptValue) (history : List Entry) (node : ℕ) → EachIsNext script history → AreHolding history node
  holding-of script [] node each = record { nested = refl; begun = All-nil _ }
  holding-of script (entry ∷ before) node each = holding-more script before entry node each.1 each.0 (holding-of script before node each.1)

  granted-over : (script : ScriptValue) (before : List Entry) (node to : ℕ) (entry : Entry) → IsNext script before entry → Grants node to entry → AreOver before node to
  granted-over script before node to (Granted other grant) next is = subst (λ (n : ℕ). AreOver before n to) is.0 (subst (AreOver before other) is.1 (item-under excludes before other grant.id grant.word (comes script before (Granted other grant) next).chosen))
  granted-over script before node to (Locked other id) next is =
      let over : AreOver before other id = subst (λ (led : Option (ℕ × ℕ)). IfSome led (λ led. AreOver before led.0 led.1)) (comes script before (Locked other id) next) (lock-under excludes before) in
      subst (λ (n : ℕ). AreOver before n to) is.0 (subst (AreOver before other) is.1 over)
  granted-over script before node to entry next is = absurd is

  pub lock_excludes : LockExcludes
  lock_excludes = record {
    holds = kept-holds;
    from_lock = λ script later between before node id to entry legal grants kept.
        let log = between ++ Locked node id ∷ before in
        let each = older-each script later (entry ∷ log) legal.each in
        All-contains (λ holder. is_under (sequences_of log) to holder ≡ true) (holders log node) id (granted-over script log node to entry each.0 grants) (kept-holds between before node id kept);
    grants = λ script later before node to entry legal grants. granted-over script before node to entry (older-each script later (entry ∷ before) legal.each).0 grants;
    nested = λ script history node one other legal has also. in-line (sequences_of history) (holders history node) one other (holding-of script history node legal.each).nested has also;
  }
