use Rattle.world_state.proofs.Common.{◌≡◌, ◌∷◌, ◌&&◌, ◌||◌, ◌==◌, ℕ, Bool, true, false, not, [], filter, ap, sym, refl, ◌∙◌, arith, rules, nat_tests, Phase, same_phase, in_order, EventTarget, Object, Event, is_drain_of}
use Rattle.bench_history.specs.declared.event_targets.EventTarget.TheVariants.{Drain}
use Rattle.bench_history.specs.contracts.event_targets.EventTargetPartialEq.TheImpl as target_eq
use Rattle.world_state.proofs.Drained.{none-ended}
use Rattle.world_state.proofs.events.end_drain.Goals as goal

-- the drain of a node is one of this one's
and-or : (a b c : Bool) → b ≡ c → (a && (b || false)) ≡ (c && a)
and-or true true c e = rw (← e) refl
and-or true false c e = rw (← e) refl
and-or false true c e = rw (← e) refl
and-or false false c e = rw (← e) refl

tags : (a b : Phase) → (target_eq.ghosts).eq (Drain 0 a) (Drain 0 b) ≡ same_phase a b
tags a b = search rules

alike : (phase : Phase) (node : ℕ) (owner : EventTarget) → is_drain_of phase (node ∷ []) owner ≡ (target_eq.ghosts).eq owner (Drain node phase)
alike phase node (Object who) = refl
alike phase node (Drain other of) = rw (tags of phase) (and-or (same_phase of phase) (node == other) (other == node) (grind (arith, nat_tests)))

pub returns-in-Some : goal.returns-in-Some
returns-in-Some c = λ caused is.
    let phase = c.args.phase in
    let node = c.in-Some.node in
    let same : (λ (due : Event). not ((target_eq.ghosts).eq due.owner (Drain node phase))) ≡ (λ (due : Event). not (is_drain_of phase (node ∷ []) due.owner)) = λ i due. not (sym (alike phase node due.owner) i) in
    rw c.in-Some.is (c.cancel.ensures.dues ∙ ap (filter _) is ∙ ap (λ (p : Event → Bool). filter p (in_order caused)) same ∙ c.order_keeps_filters.ensures _ caused)

pub returns-in_default : goal.returns-in_default
returns-in_default c = λ caused is. rw (c.in_default.is, none-ended c.args.phase caused) is
