-- Drains that begin and end, with the events that are due.
use Rattle.world_state.proofs.Common.{length, ◌≡◌, ℕ, zero, suc, ◌+◌, ◌-◌, ◌<◌, Bool, true, false, not, ◌&&◌, ◌||◌, ◌==◌, nat_lt, List, [], ◌∷◌, ◌++◌, map, filter, find, slice_get, subst, Option, Some, None, All, refl, ap, ◌∙◌, sym, arith, if◌then◌else◌, ScriptValue, list_any, flat_map, option_map_or, option_to_list, nat_tests, All-nil, All-cons, All-head, All-tail, All-filter, AllPairs-filter, All-permutation, Phase, Cause, Build, Connect, EndOfElaboration, StartOfSimulation, Run, Extract, Check, Report, Final, PreReset, Reset, PostReset, PreConfigure, Configure, PostConfigure, PreMain, Main, PostMain, PreShutdown, Shutdown, PostShutdown, is_task, phase_number, phases, same_phase, same_cause, in_order, OrderKeepsAll, with_new, is_known, drain_of, held_of, due_of, changed_at, new_node, raised, dropped, released, with_drain, total, settled, held_after, drains_begun, drains_ended, places, AreNodes, PlacesStay, SettledGoByTotals, IsHeldUntilDue, Who, Call, Entry, Origin, EventTarget, Object, node_of, Event, is_drain_of, who_of, now_of, event_in, caused_at, drain_from, with_drains, is_of_one, is_open, due_events, IsDrainDue, AreEvents, IsDrainEvent, IsEvent, IsAgenda, Node}
use Rattle.bench_history.specs.declared.event_targets.EventTarget.TheVariants.{Drain}
use Rattle.world_state.proofs.Lists.{filter-twice, first-holds, one-heard-of, one-ended-of}
use Rattle.world_state.proofs.Scheduled.{open-finished, agenda-later, agenda-event}
use Rattle.uvm_objection.specs.declared.objections.Due as drain

-- one test after another, in either order
and-order : (a b : Bool) → (a && b) ≡ (b && a)
and-order true true = refl
and-order true false = refl
and-order false true = refl
and-order false false = refl

filter-order : {A : Type 0} (p q : A → Bool) (xs : List A) → filter p (filter q xs) ≡ filter q (filter p xs)
filter-order p q xs = sym (filter-twice p q (λ x. q x && p x) (λ x. refl) xs) ∙ filter-twice q p (λ x. q x && p x) (λ x. and-order (q x) (p x)) xs

-- some events are out
agenda-without :
    (caused : List Event) (heard : List Cause) (ended : List Phase) (finished : List Who) (count : ℕ) (dues : List Event) (p : Event → Bool) → IsAgenda caused heard ended finished count dues
    → IsAgenda (filter p caused) heard ended finished count (in_order (filter p (filter (is_open heard ended finished) caused)))
agenda-without caused heard ended finished count dues p a = record {
  are = ap in_order (filter-order p (is_open heard ended finished) caused);
  distinct = AllPairs-filter (λ one other. same_cause one.cause other.cause ≡ false) p caused a.distinct;
  caused_within = All-filter p (λ event. event.cause.place < count) caused a.caused_within;
  heard_within = a.heard_within;
}

-- and the end of a drain that began is due
agenda-moved :
    (phase : Phase) (began : Option drain.Due) (caused : List Event) (heard : List Cause) (ended : List Phase) (finished : List Who) (count : ℕ) (dues more : List Event) (p : Event → Bool)
    → list_any (same_phase phase) ended ≡ false → IsAgenda caused heard ended finished count dues
    → more ≡ in_order (flat_map (drain_from phase (caused_at count)) (option_to_list began) ++ filter p (filter (is_open heard ended finished) caused))
    → IsAgenda (flat_map (drain_from phase (caused_at count)) (option_to_list began) ++ filter p caused) heard ended finished (suc count) more
agenda-moved phase None caused heard ended finished count dues more p unended a is = rw is (agenda-later (agenda-without caused heard ended finished count dues p a))
agenda-moved phase (Some begun) caused heard ended finished count dues more p unended a is =
    agenda-event (Drain begun.node phase) None begun.at (Some phase) (filter p caused) heard ended finished count _ more unended refl (agenda-without caused heard ended finished count dues p a)
    (rw (filter-order p (is_open heard ended finished) caused) at is)

-- one more, if it passes a test
filter-more : {A : Type 0} (P : A → Type 0) (p : A → Bool) (x : A) (xs : List A) → P x → All P (filter p xs) → All P (filter p (x ∷ xs))
filter-more P p x xs here all = tested (p x)
  where
    tested : (b : Bool) → All P (if b then x ∷ filter p xs else filter p xs)
    tested true = All-cons P x (filter p xs) here all
    tested false = all

-- what passes a test holds for another reason
filter-weaker : {A : Type 0} (P Q : A → Type 0) (p : A → Bool) (xs : List A) → ((x : A) → p x ≡ true → P x → Q x) → All P xs → All Q (filter p xs)
filter-weaker P Q p [] weaker all = All-nil Q
filter-weaker P Q p (x ∷ xs) weaker all = tested (p x) refl (filter-weaker P Q p xs weaker (All-tail P x xs all))
  where
    tested : (b : Bool) → p x ≡ b → All Q (filter p xs) → All Q (if b then x ∷ filter p xs else filter p xs)
    tested true passes rest = All-cons Q x (filter p xs) (weaker x passes (All-head P x xs all)) rest
    tested false fails rest = rest

-- a component or sequence is to be called
pub events-told :
    (nodes : Phase → List Node) (awaited : Event → Bool) (phase : Option Phase) (time : ℕ) (cause : Cause) (who : Who) (call : Call) (caused : List Event)
    → AreEvents nodes (filter awaited caused) → AreEvents nodes (filter awaited (event_in phase time cause (Object who) (Some call) ++ caused))
events-told nodes awaited None time cause who call caused all = all
events-told nodes awaited (Some phase) time cause who call caused all = filter-more (λ event. IsEvent nodes event.phase event.owner event.notice event.time) awaited _ caused tt all

-- a drain has begun
events-begun :
    (nodes : Phase → List Node) (awaited : Event → Bool) (phase : Phase) (cause : Cause) (began : Option drain.Due) (caused : List Event)
    → is_task phase ≡ true → All (IsHeldUntilDue (nodes phase)) (option_to_list began) → AreEvents nodes (filter awaited caused)
    → AreEvents nodes (filter awaited (flat_map (drain_from phase cause) (option_to_list began) ++ caused))
events-begun nodes awaited phase cause None caused task held all = all
events-begun nodes awaited phase cause (Some begun) caused task held all =
    filter-more (λ event. IsEvent nodes event.phase event.owner event.notice event.time) awaited _ caused (record { of_is = refl; task = task; held = All-head (IsHeldUntilDue (nodes phase)) begun [] held }) all

-- fewer events are awaited
events-fewer : (nodes : Phase → List Node) (awaited fewer both : Event → Bool) (caused : List Event) → ((event : Event) → both event ≡ (awaited event && fewer event)) → AreEvents nodes (filter awaited caused) → AreEvents nodes (filter both caused)
events-fewer nodes awaited fewer both caused same all =
    rw (filter-twice fewer awaited both same caused) (All-filter fewer (λ event. IsEvent nodes event.phase event.owner event.notice event.time) (filter awaited caused) all)

pub events-heard :
    (cause : Cause) (nodes : Phase → List Node) (caused : List Event) (heard : List Cause) (ended : List Phase) (finished : List Who) → AreEvents nodes (filter (is_open heard ended finished) caused)
    → AreEvents nodes (filter (is_open (cause ∷ heard) ended finished) caused)
events-heard cause nodes caused heard ended finished all =
    events-fewer nodes (is_open heard ended finished) (λ event. not (same_cause event.cause cause)) (is_open (cause ∷ heard) ended finished) caused
    (λ event. one-heard-of (same_cause event.cause cause) (list_any (same_cause event.cause) heard) (not (list_any (same_phase event.phase) ended)) (not (is_of_one finished event.owner))) all

pub events-ended :
    (phase : Phase) (nodes : Phase → List Node) (caused : List Event) (heard : List Cause) (ended : List Phase) (finished : List Who) → AreEvents nodes (filter (is_open heard ended finished) caused)
    → AreEvents nodes (filter (is_open heard (phase ∷ ended) finished) caused)
events-ended phase nodes caused heard ended finished all =
    events-fewer nodes (is_open heard ended finished) (λ event. not (same_phase event.phase phase)) (is_open heard (phase ∷ ended) finished) caused
    (λ event. one-ended-of (not (list_any (same_cause event.cause) heard)) (same_phase event.phase phase) (list_any (same_phase event.phase) ended) (not (is_of_one finished event.owner))) all

pub events-finished :
    (who : Who) (nodes : Phase → List Node) (caused : List Event) (heard : List Cause) (ended : List Phase) (finished : List Who) → AreEvents nodes (filter (is_open heard ended finished) caused)
    → AreEvents nodes (filter (is_open heard ended (who ∷ finished)) caused)
events-finished who nodes caused heard ended finished all =
    events-fewer nodes (is_open heard ended finished) (λ event. not (is_of_one (who ∷ []) event.owner)) (is_open heard ended (who ∷ finished)) caused (open-finished who heard ended finished) all

-- at other nodes, but for the drains that have ended
events-at :
    (nodes others : Phase → List Node) (awaited kept : Event → Bool) (caused : List Event)
    → ((event : Event) → kept event ≡ true → IsEvent nodes event.phase event.owner event.notice event.time → IsEvent others event.phase event.owner event.notice event.time)
    → AreEvents nodes (filter awaited caused) → AreEvents others (filter awaited (filter kept caused))
events-at nodes others awaited kept caused stays all =
    rw (filter-order awaited kept caused) (filter-weaker (λ event. IsEvent nodes event.phase event.owner event.notice event.time) (λ event. IsEvent others event.phase event.owner event.notice event.time) kept (filter awaited caused) stays all)

-- at other nodes, all of them
pub events-all :
    (nodes others : Phase → List Node) (events : List Event) → ((phase : Phase) (node : ℕ) (time : ℕ) → IsHeldUntilDue (nodes phase) (record { node = node; at = time }) → IsHeldUntilDue (others phase) (record { node = node; at = time }))
    → AreEvents nodes events → AreEvents others events
events-all nodes others [] stays all = All-nil _
events-all nodes others (event ∷ events) stays all =
    All-cons (λ event. IsEvent others event.phase event.owner event.notice event.time) event events
    (one event.phase event.owner event.notice event.time (All-head (λ event. IsEvent nodes event.phase event.owner event.notice event.time) event events all))
    (events-all nodes others events stays (All-tail (λ event. IsEvent nodes event.phase event.owner event.notice event.time) event events all))
  where
    one : (phase : Phase) (owner : EventTarget) (notice : Option Call) (time : ℕ) → IsEvent nodes phase owner notice time → IsEvent others phase owner notice time
    one phase (Object who) (Some call) time is = tt
    one phase (Object who) None time is = is
    one phase (Drain node of) None time is = record { of_is = is.of_is; task = is.task; held = stays phase node time is.held }
    one phase (Drain node of) (Some call) time is = is

-- a number of a node, where the nodes are changed one by one
at-changed :
    (f : Node → ℕ) (change : Node → Node) (node k : ℕ) (nodes : List Node) → ((e : Node) → (change e).node ≡ e.node) → ((e : Node) → f (change e) ≡ f e)
    → option_map_or f (find (λ e. e.node == k) (changed_at node change nodes)) 0 ≡ option_map_or f (find (λ e. e.node == k) nodes) 0
at-changed f change node k [] same keeps = refl
at-changed f change node k (e ∷ nodes) same keeps = ap (λ n. option_map_or f (if n == k then Some (if node == e.node then change e else e) else find (λ e. e.node == k) (changed_at node change nodes)) 0) (node-is (node == e.node)) ∙ tested (e.node == k) (at-changed f change node k nodes same keeps)
  where
    node-is : (b : Bool) → (if b then change e else e).node ≡ e.node
    node-is true = same e
    node-is false = refl

    value-is : (b : Bool) → f (if b then change e else e) ≡ f e
    value-is true = keeps e
    value-is false = refl

    tested :
        (b : Bool) → option_map_or f (find (λ e. e.node == k) (changed_at node change nodes)) 0 ≡ option_map_or f (find (λ e. e.node == k) nodes) 0
        → option_map_or f (if b then Some (if node == e.node then change e else e) else find (λ e. e.node == k) (changed_at node change nodes)) 0 ≡ option_map_or f (if b then Some e else find (λ e. e.node == k) nodes) 0
    tested true rest = value-is (node == e.node)
    tested false rest = rest

-- the same holds elsewhere, whatever the change does
elsewhere :
    (f : Node → ℕ) (change : Node → Node) (node k : ℕ) (nodes : List Node) → ((e : Node) → (change e).node ≡ e.node) → (node == k) ≡ false
    → option_map_or f (find (λ e. e.node == k) (changed_at node change nodes)) 0 ≡ option_map_or f (find (λ e. e.node == k) nodes) 0
elsewhere f change node k [] same other = refl
elsewhere f change node k (e ∷ nodes) same other = ap (λ n. option_map_or f (if n == k then Some (if node == e.node then change e else e) else find (λ e. e.node == k) (changed_at node change nodes)) 0) (node-is (node == e.node)) ∙ tested (node == e.node) (e.node == k) refl refl (elsewhere f change node k nodes same other)
  where
    node-is : (b : Bool) → (if b then change e else e).node ≡ e.node
    node-is true = same e
    node-is false = refl

    tested :
        (here at : Bool) → (node == e.node) ≡ here → (e.node == k) ≡ at
        → option_map_or f (find (λ e. e.node == k) (changed_at node change nodes)) 0 ≡ option_map_or f (find (λ e. e.node == k) nodes) 0
        → option_map_or f (if at then Some (if here then change e else e) else find (λ e. e.node == k) (changed_at node change nodes)) 0 ≡ option_map_or f (if at then Some e else find (λ e. e.node == k) nodes) 0
    tested true true is found rest = absurd (grind (arith, nat_tests))
    tested false true is found rest = refl
    tested here false is found rest = rest

-- when a drain is due stays, where the total was 0 and something is held still
due-settled : SettledGoByTotals → (time : ℕ) (before : ℕ → ℕ) (nodes : List Node) (k : ℕ) → before k ≡ 0 → 0 < held_of k (settled time before nodes) → due_of k (settled time before nodes) ≡ due_of k nodes
due-settled settles time before nodes k none some =
    let goes = settles time before nodes k in
    let none_after = no-total (before k) (total (settled time before nodes) k) (drain_of k nodes) (held_of k nodes) (rw goes.held at some) in
    rw (none, none_after) at goes.due
  where
    no-total : (was now drain held : ℕ) → 0 < held_after was now drain held → now ≡ 0
    no-total was zero drain held some = refl
    no-total was (suc now) drain held some = let positive : nat_lt 0 (suc now) ≡ true = grind (arith, nat_tests) in let no : 0 < 0 = rw positive at some in absurd (omega (arith, no))

-- what was held is, unless its drain has ended
held-unless-ended :
    (was : ℕ → ℕ) (k : ℕ) (others : List Node) → 0 < was k → is_known k others ≡ true
    → list_any (λ other. other == k) (map (λ e. e.node) (filter (λ e. nat_lt 0 (was e.node) && (e.held == 0)) others)) ≡ false → 0 < held_of k others
held-unless-ended was k [] some known none = cc
held-unless-ended was k (e ∷ others) some known none = tested (e.node == k) (nat_lt 0 (was e.node) && (e.held == 0)) refl refl known none (held-unless-ended was k others some)
  where
    tested :
        (here ends : Bool) → (e.node == k) ≡ here → (nat_lt 0 (was e.node) && (e.held == 0)) ≡ ends → (here || is_known k others) ≡ true → list_any (λ other. other == k) (map (λ e. e.node) (if ends then e ∷ filter (λ e. nat_lt 0 (was e.node) && (e.held == 0)) others else filter (λ e. nat_lt 0 (was e.node) && (e.held == 0)) others)) ≡ false
        → (is_known k others ≡ true → list_any (λ other. other == k) (map (λ e. e.node) (filter (λ e. nat_lt 0 (was e.node) && (e.held == 0)) others)) ≡ false → 0 < held_of k others)
        → 0 < option_map_or (λ e. e.held) (if here then Some e else find (λ e. e.node == k) others) 0
    tested true true at ended known none rest = let no : true ≡ false = (rw at at none) in cc
    tested true false at going known none rest =
        let same : e.node ≡ k = grind (arith, nat_tests) in
        let before : 0 < was e.node = rw same some in
        let test : nat_lt 0 (was e.node) ≡ true = grind (arith, nat_tests) in
        let left : (e.held == 0) ≡ false = rw test at going in
        grind (arith, nat_tests)
    tested false true at ended known none rest = rest known (rw at at none)
    tested false false at going known none rest = rest known none

-- where something is held the total is 0
total-none : (total held : ℕ) → (0 < total → held ≡ 0) → 0 < held → total ≡ 0
total-none zero held none some = refl
total-none (suc total) held none some = let is = none (omega arith) in absurd (omega (arith, is, some))

-- what holds something is known
pub known-held : (k : ℕ) (nodes : List Node) → 0 < held_of k nodes → is_known k nodes ≡ true
known-held k [] some = absurd (omega arith)
known-held k (e ∷ nodes) some = tested (e.node == k) some (known-held k nodes)
  where
    tested : (b : Bool) → 0 < option_map_or (λ e. e.held) (if b then Some e else find (λ e. e.node == k) nodes) 0 → (0 < held_of k nodes → is_known k nodes ≡ true) → (b || is_known k nodes) ≡ true
    tested true some rest = refl
    tested false some rest = rest some

-- what was changed, and settled since, holds what it held, unless its drain has ended
held-settled :
    (time k at : ℕ) (nodes changed others : List Node) → SettledGoByTotals → PlacesStay → AreNodes nodes → places others ≡ places nodes → others ≡ settled time (total nodes) changed → due_of k changed ≡ due_of k nodes
    → list_any (λ other. other == k) (drains_ended nodes others) ≡ false → IsHeldUntilDue nodes (record { node = k; at = at }) → IsHeldUntilDue others (record { node = k; at = at })
held-settled time k at nodes changed others settles stay are same is keeps goes held = record {
  due = ap (due_of k) is ∙ due-settled settles time (total nodes) changed k (total-none (total nodes k) (held_of k nodes) (are.positive k) held.held) (rw is at still) ∙ keeps ∙ held.due;
  held = still;
}
  where
    still : 0 < held_of k others
    still = held-unless-ended (λ node. held_of node nodes) k others held.held (stay.known k nodes others same ∙ known-held k nodes held.held) goes

-- a phase is known by its number
phase-known : (phase : Phase) → slice_get phases (phase_number phase) ≡ Some phase
phase-known Build = refl
phase-known Connect = refl
phase-known EndOfElaboration = refl
phase-known StartOfSimulation = refl
phase-known Run = refl
phase-known Extract = refl
phase-known Check = refl
phase-known Report = refl
phase-known Final = refl
phase-known PreReset = refl
phase-known Reset = refl
phase-known PostReset = refl
phase-known PreConfigure = refl
phase-known Configure = refl
phase-known PostConfigure = refl
phase-known PreMain = refl
phase-known Main = refl
phase-known PostMain = refl
phase-known PreShutdown = refl
phase-known Shutdown = refl
phase-known PostShutdown = refl

pub same-phase : (a b : Phase) → same_phase a b ≡ true → a ≡ b
same-phase a b e =
    let number : phase_number a ≡ phase_number b = grind (arith, nat_tests) in
    let found : Some a ≡ Some b = sym (phase-known a) ∙ ap (slice_get phases) number ∙ phase-known b in
    cc

-- what the drains of the objection of a phase that began and ended make of what is due
pub record HasMoved (nodes others : Phase → List Node) (phase : Phase) (caused : List Event) (heard : List Cause) (ended : List Phase) (finished : List Who) (count : ℕ) (more : List Event) : Type 0 where
  pub agenda : IsAgenda (with_drains phase (caused_at count) (nodes phase) (others phase) caused) heard ended finished (suc count) more
  pub events : AreEvents others (filter (is_open heard ended finished) (with_drains phase (caused_at count) (nodes phase) (others phase) caused))

pub moved :
    (time : ℕ) (nodes others : Phase → List Node) (changed : List Node) (phase : Phase) (began : Option drain.Due) (ends : Option ℕ)
    (caused : List Event) (heard : List Cause) (ended : List Phase) (finished : List Who) (count : ℕ) (dues more : List Event)
    → SettledGoByTotals → PlacesStay → AreNodes (nodes phase) → places (others phase) ≡ places (nodes phase) → others phase ≡ settled time (total (nodes phase)) changed → ((other : Phase) → same_phase other phase ≡ false → others other ≡ nodes other)
    → ((k : ℕ) → list_any (λ other. other == k) (option_to_list ends) ≡ false → due_of k changed ≡ due_of k (nodes phase))
    → drains_begun (nodes phase) (others phase) ≡ option_to_list began → drains_ended (nodes phase) (others phase) ≡ option_to_list ends → is_task phase ≡ true → All (IsHeldUntilDue (others phase)) (option_to_list began)
    → list_any (same_phase phase) ended ≡ false → IsAgenda caused heard ended finished count dues → AreEvents nodes (filter (is_open heard ended finished) caused)
    → more ≡ in_order (flat_map (drain_from phase (caused_at count)) (option_to_list began) ++ filter (λ event. not (is_drain_of phase (option_to_list ends) event.owner)) (filter (is_open heard ended finished) caused))
    → HasMoved nodes others phase caused heard ended finished count more
moved time nodes others changed phase began ends caused heard ended finished count dues more settles stay are same is elsewhere keeps begun over task held unended a events due =
    let kept : Event → Bool = λ event. not (is_drain_of phase (option_to_list ends) event.owner) in
    record {
      agenda = rw (begun, over) (agenda-moved phase began caused heard ended finished count dues more kept unended a due);
      events = rw (begun, over) (events-begun others (is_open heard ended finished) phase (caused_at count) began (filter kept caused) task held
          (events-at nodes others (is_open heard ended finished) kept caused (λ event. one event.phase event.owner event.notice event.time) events));
    }
  where
    not-true : (b : Bool) → not b ≡ true → b ≡ false
    not-true true e = cc
    not-true false e = refl

    of-node :
        (node at : ℕ) (in_it : Phase) (here : Bool) → same_phase in_it phase ≡ here → not (here && list_any (λ other. other == node) (option_to_list ends)) ≡ true → IsHeldUntilDue (nodes in_it) (record { node = node; at = at })
        → IsHeldUntilDue (others in_it) (record { node = node; at = at })
    of-node node at in_it true here goes holds =
        let one : in_it ≡ phase = same-phase in_it phase here in
        subst (λ (p : Phase). IsHeldUntilDue (others p) (record { node = node; at = at })) (sym one)
        (held-settled time node at (nodes phase) changed (others phase) settles stay are same is (keeps node (not-true _ goes)) (rw over (not-true _ goes)) (subst (λ (p : Phase). IsHeldUntilDue (nodes p) (record { node = node; at = at })) one holds))
    of-node node at in_it false here goes holds = subst (λ (ns : List Node). IsHeldUntilDue ns (record { node = node; at = at })) (sym (elsewhere in_it here)) holds

    one : (in_it : Phase) (owner : EventTarget) (notice : Option Call) (at : ℕ) → not (is_drain_of phase (option_to_list ends) owner) ≡ true → IsEvent nodes in_it owner notice at → IsEvent others in_it owner notice at
    one in_it (Object who) (Some call) at goes holds = tt
    one in_it (Object who) None at goes holds = holds
    one in_it (Drain node of) None at goes holds = record {
      of_is = holds.of_is;
      task = holds.task;
      held = of-node node at in_it (same_phase in_it phase) refl (subst (λ (p : Phase). not (same_phase p phase && list_any (λ other. other == node) (option_to_list ends)) ≡ true) holds.of_is goes) holds.held;
    }
    one in_it (Drain node of) (Some call) at goes holds = holds

-- a number of a node stays with one more node
at-front : (f : Node → ℕ) (k : ℕ) (nodes more : List Node) → is_known k nodes ≡ true → option_map_or f (find (λ e. e.node == k) (nodes ++ more)) 0 ≡ option_map_or f (find (λ e. e.node == k) nodes) 0
at-front f k [] more known = cc
at-front f k (e ∷ nodes) more known = tested (e.node == k) known (at-front f k nodes more)
  where
    tested :
        (b : Bool) → (b || is_known k nodes) ≡ true
        → (is_known k nodes ≡ true → option_map_or f (find (λ e. e.node == k) (nodes ++ more)) 0 ≡ option_map_or f (find (λ e. e.node == k) nodes) 0)
        → option_map_or f (if b then Some e else find (λ e. e.node == k) (nodes ++ more)) 0 ≡ option_map_or f (if b then Some e else find (λ e. e.node == k) nodes) 0
    tested true known rest = refl
    tested false known rest = rest known

held-more : (node parent k at : ℕ) (nodes : List Node) → IsHeldUntilDue nodes (record { node = k; at = at }) → IsHeldUntilDue (nodes ++ new_node node parent ∷ []) (record { node = k; at = at })
held-more node parent k at nodes held =
    let known = known-held k nodes held.held in
    let same = at-front (λ e. e.held) k nodes (new_node node parent ∷ []) known in
    record {
      due = at-front (λ e. e.due) k nodes (new_node node parent ∷ []) known ∙ held.due;
      held = rw same held.held;
    }

-- the changes of a source, and of a drain time, leave when drains are due; a release does so at the other nodes
pub due-raised : (node count : ℕ) (nodes : List Node) (k : ℕ) → due_of k (raised node count nodes) ≡ due_of k nodes
due-raised node count nodes k = at-changed (λ e. e.due) (λ e. record e { source = e.source + count }) node k nodes (λ e. refl) (λ e. refl)

pub due-dropped : (node count : ℕ) (nodes : List Node) (k : ℕ) → due_of k (dropped node count nodes) ≡ due_of k nodes
due-dropped node count nodes k = at-changed (λ e. e.due) (λ e. record e { source = e.source - count }) node k nodes (λ e. refl) (λ e. refl)

pub due-released : (node : ℕ) (nodes : List Node) (k : ℕ) → list_any (λ other. other == k) (node ∷ []) ≡ false → due_of k (released node nodes) ≡ due_of k nodes
due-released node nodes k other = elsewhere (λ e. e.due) (λ e. record e { held = 0; due = 0 }) node k nodes (λ e. refl) (alone (node == k) other)
  where
    alone : (b : Bool) → (b || false) ≡ false → b ≡ false
    alone true other = cc
    alone false other = refl

pub held-with-drain : (node ticks k at : ℕ) (nodes : List Node) → IsHeldUntilDue nodes (record { node = k; at = at }) → IsHeldUntilDue (with_drain node ticks nodes) (record { node = k; at = at })
held-with-drain node ticks k at nodes held = record {
  due = at-changed (λ e. e.due) (λ e. record e { drain = ticks }) node k nodes (λ e. refl) (λ e. refl) ∙ held.due;
  held = rw (at-changed (λ e. e.held) (λ e. record e { drain = ticks }) node k nodes (λ e. refl) (λ e. refl)) held.held;
}

-- with a new node, whatever its drain time
pub held-made : (parent drain k at : ℕ) (nodes : List Node) → IsHeldUntilDue nodes (record { node = k; at = at }) → IsHeldUntilDue (with_new parent drain nodes) (record { node = k; at = at })
held-made parent drain k at nodes held = held-with-drain (length nodes) drain k at (nodes ++ new_node (length nodes) parent ∷ []) (held-more (length nodes) parent k at nodes held)

-- where no drain has ended all events stay
pub none-ended : (phase : Phase) (caused : List Event) → filter (λ event. not (is_drain_of phase [] event.owner)) caused ≡ caused
none-ended phase [] = refl
none-ended phase (event ∷ caused) = rw (none event.owner, none-ended phase caused) refl
  where
    and-false : (b : Bool) → b && false ≡ false
    and-false true = refl
    and-false false = refl

    none : (owner : EventTarget) → is_drain_of phase [] owner ≡ false
    none (Object who) = refl
    none (Drain node of) = and-false (same_phase of phase)

-- the drain that is due is of a phase that takes time, and its node holds something until now, in the objection of that phase
pub due-is-held :
    (script : ScriptValue) (nodes : Phase → List Node) (history : List Entry) (node : ℕ) (origin : Origin) → OrderKeepsAll EventTarget (Option Call) → AreEvents nodes (due_events script history) → IsDrainDue script history node origin
    → IsDrainEvent nodes origin.phase origin.phase node (now_of history)
due-is-held script nodes history node origin keeps all drained =
    let due = drained.due in
    let P : Event → Type 0 = λ event. IsEvent nodes event.phase event.owner event.notice event.time in
    let ordered : All P (in_order (due_events script history)) = All-permutation P (due_events script history) (in_order (due_events script history)) (keeps (due_events script history)) all in
    drain due.event.phase due.event.owner due.event.notice due.event.time (ap (λ (one : Origin). one.phase) due.origin_is) (rw due.hearer_is drained.stands) due.notice_is due.time (first-holds P (in_order (due_events script history)) due.event ordered due.first)
  where
    drain :
        (phase : Phase) (owner : EventTarget) (notice : Option Call) (time : ℕ) → phase ≡ origin.phase → node_of (who_of owner) ≡ node → notice ≡ None → time ≡ now_of history → IsEvent nodes phase owner notice time
        → IsDrainEvent nodes origin.phase origin.phase node (now_of history)
    drain phase (Object who) (Some call) time in_it same none now is = cc
    drain phase (Object who) None time in_it same none now is = absurd is
    drain phase (Drain other of) None time in_it same none now is = rw (← in_it, ← same, ← now) (record { of_is = refl; task = is.task; held = is.held })
    drain phase (Drain other of) (Some call) time in_it same none now is = absurd is
