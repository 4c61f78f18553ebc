-- What is due, over lists alone.
use Rattle.world_state.proofs.Common.{◌≡◌, ℕ, suc, ◌<◌, Bool, true, false, not, ◌&&◌, ◌||◌, List, [], ◌∷◌, ◌++◌, drop, filter, slice_get, Option, Some, None, All, refl, ap, ◌∙◌, sym, arith, nat_tests, list_any, All-cons, All-weaker, All-filter, list_any_none, All-permutation, AllPairs-cons, AllPairs-filter, Phase, Cause, same_phase, same_cause, in_order, OrderKeepsAll, OrderKeepsFilters, OrderLosesFirst, Call, Who, Sequence, same_who, EventTarget, Object, event_in, caused_at, is_of_one, is_open, Event, HasNotEnded, IsAgenda}
use Rattle.uvm_acts.specs.declared.acts.Who.TheVariants.{Node}
use Rattle.bench_history.specs.declared.event_targets.EventTarget.TheVariants.{Drain}
use Rattle.world_state.proofs.Lists.{filter-twice, one-ended, one-heard-of, one-ended-of, first-holds}

of-either : (who : Who) (finished : List Who) (owner : EventTarget) → is_of_one (who ∷ finished) owner ≡ (is_of_one (who ∷ []) owner || is_of_one finished owner)
of-either who finished (Object (Node node)) = refl
of-either who finished (Object (Sequence home id)) = more (same_who (Sequence home id) who) _
  where
    more : (a b : Bool) → (a || b) ≡ ((a || false) || b)
    more true b = refl
    more false b = refl
of-either who finished (Drain node phase) = refl

-- one more sequence has finished
pub open-finished : (who : Who) (heard : List Cause) (ended : List Phase) (finished : List Who) (event : Event) → is_open heard ended (who ∷ finished) event ≡ (is_open heard ended finished event && not (is_of_one (who ∷ []) event.owner))
open-finished who heard ended finished event =
    rw (of-either who finished event.owner) (one-ended (not (list_any (same_cause event.cause) heard) && not (list_any (same_phase event.phase) ended)) (is_of_one (who ∷ []) event.owner) (is_of_one finished event.owner))

-- the cause of a later entry was not heard
pub fresh : (heard : List Cause) (cause : Cause) → All (λ other. other.place < cause.place) heard → list_any (same_cause cause) heard ≡ false
fresh heard cause within =
    list_any_none (same_cause cause) heard (All-weaker (λ other. other.place < cause.place) (λ other. same_cause cause other ≡ false) (λ other lt. grind (arith, nat_tests)) heard within)

-- one more entry
pub agenda-later : {caused : List Event} {heard : List Cause} {ended : List Phase} {finished : List Who} {count : ℕ} {dues : List Event} → IsAgenda caused heard ended finished count dues → IsAgenda caused heard ended finished (suc count) dues
agenda-later {caused} {heard} {ended} {count} a = record {
  are = a.are;
  distinct = a.distinct;
  caused_within = All-weaker (λ due. due.cause.place < count) (λ due. due.cause.place < suc count) (λ due lt. omega (arith, lt)) caused a.caused_within;
  heard_within = All-weaker (λ cause. cause.place < count) (λ cause. cause.place < suc count) (λ cause lt. omega (arith, lt)) heard a.heard_within;
}

-- one that causes an event
agenda-caused :
    (caused : List Event) (heard : List Cause) (ended : List Phase) (finished : List Who) (dues more : List Event) (due : Event)
    → IsAgenda caused heard ended finished due.cause.place dues → list_any (same_phase due.phase) ended ≡ false → is_of_one finished due.owner ≡ false
    → more ≡ in_order (due ∷ filter (is_open heard ended finished) caused)
    → IsAgenda (due ∷ caused) heard ended finished (suc due.cause.place) more
agenda-caused caused heard ended finished dues more due a unended unfinished is =
    let l = agenda-later a in
    record {
      are = rw (fresh heard due.cause a.heard_within, unended, unfinished) is;
      distinct = AllPairs-cons (λ one other. same_cause one.cause other.cause ≡ false) due caused (All-weaker (λ other. other.cause.place < due.cause.place) (λ other. same_cause due.cause other.cause ≡ false) (λ other lt. grind (arith, nat_tests)) caused a.caused_within) a.distinct;
      caused_within = All-cons (λ other. other.cause.place < suc due.cause.place) due caused (omega arith) l.caused_within;
      heard_within = l.heard_within;
    }

-- an event of a phase is due
pub agenda-event :
    (owner : EventTarget) (notice : Option Call) (time : ℕ) (phase : Option Phase)
    (caused : List Event) (heard : List Cause) (ended : List Phase) (finished : List Who) (count : ℕ) (dues more : List Event)
    → HasNotEnded ended phase → is_of_one finished owner ≡ false → IsAgenda caused heard ended finished count dues
    → more ≡ in_order (event_in phase time (caused_at count) owner notice ++ filter (is_open heard ended finished) caused)
    → IsAgenda (event_in phase time (caused_at count) owner notice ++ caused) heard ended finished (suc count) more
agenda-event owner notice time (Some phase) caused heard ended finished count dues more unended unfinished a is =
    agenda-caused caused heard ended finished dues more (record { time = time; cause = caused_at count; phase = phase; owner = owner; notice = notice }) a unended unfinished is
agenda-event owner notice time None caused heard ended finished count dues more unended unfinished a is = rw (is, ← a.are) (agenda-later a)

-- one call is heard
pub agenda-heard :
    (caused : List Event) (heard : List Cause) (ended : List Phase) (finished : List Who) (count : ℕ) (dues left : List Event) (due : Event)
    → OrderKeepsAll EventTarget (Option Call) → OrderLosesFirst EventTarget (Option Call)
    → IsAgenda caused heard ended finished count dues → slice_get dues 0 ≡ Some due → left ≡ drop 1 dues
    → IsAgenda caused (due.cause ∷ heard) ended finished (suc count) left
agenda-heard caused heard ended finished count dues left due keeps loses a first is =
    let known = filter (is_open heard ended finished) caused in
    let apart = AllPairs-filter (λ one other. same_cause one.cause other.cause ≡ false) (is_open heard ended finished) caused a.distinct in
    let taken = loses known dues left (Some due) apart a.are (sym first) is in
    let within : All (λ other. other.cause.place < count) dues = rw a.are (All-permutation (λ other. other.cause.place < count) known (in_order known) (keeps known) (All-filter (is_open heard ended finished) (λ other. other.cause.place < count) caused a.caused_within)) in
    let here : due.cause.place < count = first-holds (λ other. other.cause.place < count) dues due within first in
    let l = agenda-later a in
    record {
      are = taken ∙ ap in_order (sym (filter-twice (λ other. not (same_cause other.cause due.cause)) (is_open heard ended finished) (is_open (due.cause ∷ heard) ended finished) (λ other. one-heard-of (same_cause other.cause due.cause) (list_any (same_cause other.cause) heard) (not (list_any (same_phase other.phase) ended)) (not (is_of_one finished other.owner))) caused));
      distinct = a.distinct;
      caused_within = l.caused_within;
      heard_within = All-cons (λ cause. cause.place < suc count) due.cause heard (omega (arith, here)) l.heard_within;
    }

-- a phase ends
pub agenda-ended :
    (caused : List Event) (heard : List Cause) (ended : List Phase) (finished : List Who) (count : ℕ) (dues left : List Event) (phase : Phase)
    → OrderKeepsFilters EventTarget (Option Call) → IsAgenda caused heard ended finished count dues → left ≡ filter (λ due. not (same_phase due.phase phase)) dues
    → IsAgenda caused heard (phase ∷ ended) finished count left
agenda-ended caused heard ended finished count dues left phase keeps a is =
    let known = filter (is_open heard ended finished) caused in
    record {
      are =
          is ∙ ap (filter (λ due. not (same_phase due.phase phase))) a.are
          ∙ keeps (λ due. not (same_phase due.phase phase)) known
          ∙ ap in_order (sym (filter-twice (λ due. not (same_phase due.phase phase)) (is_open heard ended finished) (is_open heard (phase ∷ ended) finished) (λ due. one-ended-of (not (list_any (same_cause due.cause) heard)) (same_phase due.phase phase) (list_any (same_phase due.phase) ended) (not (is_of_one finished due.owner))) caused));
      distinct = a.distinct;
      caused_within = a.caused_within;
      heard_within = a.heard_within;
    }

-- a sequence finishes, and what was due to it is out
pub agenda-finished :
    (who : Who) (caused : List Event) (heard : List Cause) (ended : List Phase) (finished : List Who) (count : ℕ) (dues : List Event) → IsAgenda caused heard ended finished count dues
    → IsAgenda caused heard ended (who ∷ finished) count (in_order (filter (λ event. not (is_of_one (who ∷ []) event.owner)) (filter (is_open heard ended finished) caused)))
agenda-finished who caused heard ended finished count dues a = record {
  are = ap in_order (sym (filter-twice (λ event. not (is_of_one (who ∷ []) event.owner)) (is_open heard ended finished) (is_open heard ended (who ∷ finished)) (open-finished who heard ended finished) caused));
  distinct = a.distinct;
  caused_within = a.caused_within;
  heard_within = a.heard_within;
}

-- an event of a sequence that has finished is never due
pub agenda-closed :
    (owner : EventTarget) (notice : Option Call) (time : ℕ) (phase : Option Phase)
    (caused : List Event) (heard : List Cause) (ended : List Phase) (finished : List Who) (count : ℕ) (dues : List Event)
    → is_of_one finished owner ≡ true → IsAgenda caused heard ended finished count dues
    → IsAgenda (event_in phase time (caused_at count) owner notice ++ caused) heard ended finished (suc count) dues
agenda-closed owner notice time (Some phase) caused heard ended finished count dues done a =
    let due : Event = record { time = time; cause = caused_at count; phase = phase; owner = owner; notice = notice } in
    let l = agenda-later a in
    record {
      are = rw (never (not (list_any (same_cause due.cause) heard) && not (list_any (same_phase phase) ended))) a.are;
      distinct = AllPairs-cons (λ one other. same_cause one.cause other.cause ≡ false) due caused (All-weaker (λ other. other.cause.place < count) (λ other. same_cause due.cause other.cause ≡ false) (λ other lt. grind (arith, nat_tests)) caused a.caused_within) a.distinct;
      caused_within = All-cons (λ other. other.cause.place < suc count) due caused (omega arith) l.caused_within;
      heard_within = l.heard_within;
    }
  where
    never : (g : Bool) → (g && not (is_of_one finished owner)) ≡ false
    never true = rw done refl
    never false = refl
agenda-closed owner notice time None caused heard ended finished count dues done a = agenda-later a
