-- What is due to a component or sequence who has not finished.
use Rattle.world_services.proofs.Common.{◌≡◌, ℕ, Bool, true, false, not, ◌&&◌, List, Option, Some, None, option_map, option_and_then, All, ◌⊎◌, inl, inr, refl, ap, subst, list_any, option_map_or, All-weaker, filter_passes, All-permutation, Phase, same_phase, in_order, same_cause, OrderKeepsAll, numbered, Who, Sequence, Act, Call, Entry, Origin, same_who, ScriptValue, EventTarget, Object, Event, scheduled_events, due_events, delivered_causes, is_of_one, is_open, components_of, ended_of, test_creation, performer_of, HasNotEnded, IsComponent, IsDrainDue, IsThere, StartRecord, starts_of, finished_of, is_live, is_over_phase, lives, phase_begun, Services, IsActContext, first-holds}
use Rattle.uvm_acts.specs.declared.acts.Who.TheVariants.{Node}

first-not : (a b : Bool) → not a && b ≡ true → a ≡ false
first-not true b e = cc
first-not false b e = refl

found-open :
    (history : List Entry) (id home : ℕ) (found : Option StartRecord) → option_map_or (lives history id) found false ≡ true → option_map (λ start_record. start_record.start.home) found ≡ Some home
    → list_any (same_who (Sequence home id)) (finished_of history) ≡ false
found-open history id home None lives e = cc
found-open history id home (Some start_record) lives e =
    let same : start_record.start.home ≡ home = cc in
    subst (λ (h : ℕ). list_any (same_who (Sequence h id)) (finished_of history) ≡ false) same (first-not _ _ lives)

-- who is there has not finished
pub there-open : (history : List Entry) (who : Who) → IsThere history who → is_of_one (finished_of history) (Object who) ≡ false
unfolding is_live
there-open history (Node node) there = refl
there-open history (Sequence home id) there = found-open history id home (numbered (starts_of history) id) there.lives there.home_is

-- nor has a component
pub component-open : (history : List Entry) (who : Who) → IsComponent (components_of history) who → is_of_one (finished_of history) (Object who) ≡ false
component-open history (Node node) has = refl
component-open history (Sequence home id) has = absurd has

-- nor who performs an act, other than the script
pub scene-open : {script : ScriptValue} {history : List Entry} {act : Act} {place : ℕ} {services : Services} → IsActContext script history act place services → (act ≡ test_creation script → ⊥) → is_of_one (finished_of history) (Object services.answer.performer) ≡ false
scene-open {script} {history} {act} s other = rw s.known.answer.performer (performs s.there)
  where
    performs : (act ≡ test_creation script) ⊎ IsThere history (performer_of history) → is_of_one (finished_of history) (Object (performer_of history)) ≡ false
    performs (inl opens) = absurd (other opens)
    performs (inr there) = there-open history (performer_of history) there

-- a sequence that lives was started in a phase that has not ended
found-unended : (history : List Entry) (id : ℕ) (found : Option StartRecord) → option_map_or (lives history id) found false ≡ true → HasNotEnded (ended_of history) (option_and_then (λ start_record. start_record.phase) found)
found-unended history id None lives = tt
found-unended history id (Some start_record) lives = by start_record.phase (second-not _ _ lives)
  where
    second-not : (a b : Bool) → not a && not b ≡ true → b ≡ false
    second-not true b e = cc
    second-not false true e = cc
    second-not false false e = refl

    by : (phase : Option Phase) → is_over_phase (ended_of history) phase ≡ false → HasNotEnded (ended_of history) phase
    by None over = tt
    by (Some phase) over = over

pub living-unended : (history : List Entry) (id : ℕ) → is_live history id ≡ true → HasNotEnded (ended_of history) (phase_begun history id)
unfolding is_live
living-unended history id lives = found-unended history id (numbered (starts_of history) id) lives

-- a drain that is due belongs to a phase that has not ended
unended-of : (a b c : Bool) → a && not b && c ≡ true → b ≡ false
unended-of true true c e = cc
unended-of true false c e = refl
unended-of false b c e = cc

pub drain-unended : (script : ScriptValue) (history : List Entry) (node : ℕ) (origin : Origin) → OrderKeepsAll EventTarget (Option Call) → IsDrainDue script history node origin → HasNotEnded (ended_of history) (Some origin.phase)
drain-unended script history node origin keeps drained =
    let due = drained.due in
    let P : Event → Type 0 = λ event. list_any (same_phase event.phase) (ended_of history) ≡ false in
    let opens : Event → Bool = is_open (delivered_causes history) (ended_of history) (finished_of history) in
    let all : All P (due_events script history) =
    All-weaker (λ event. opens event ≡ true) P (λ event is. unended-of (not (list_any (same_cause event.cause) (delivered_causes history))) (list_any (same_phase event.phase) (ended_of history)) (not (is_of_one (finished_of history) event.owner)) is) (due_events script history) (filter_passes opens (scheduled_events script history)) in
    let ordered : All P (in_order (due_events script history)) = All-permutation P (due_events script history) (in_order (due_events script history)) (keeps (due_events script history)) all in
    subst (λ (phase : Phase). list_any (same_phase phase) (ended_of history) ≡ false) (ap (λ (one : Origin). one.phase) due.origin_is) (first-holds P (in_order (due_events script history)) due.event ordered due.first)
