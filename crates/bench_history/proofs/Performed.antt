-- Where an act, or a call that is due, is what comes next.
use Rattle.bench_history.proofs.Common.{◌≡◌, ℕ, List, ◌∷◌, Option, Some, None, refl, ap, sym, ◌∙◌, subst, Bool, false, IfSome, list_any, same_phase, node_of, Who, Act, Passage, Reason, Entry, Did, End, Locked, Passed, Drained, ScriptValue, RunStage, Before, During, After, Ended, ended_of, stage_of, performer_of, reason_of, next_passed, next_locked, next_served, Next, Exactly, Answer, Need, Grant, end_reached, giving_up, locking, serving, passing, by_act, by_effect, effect_of, first_next, next_of, IsAct, IsFirstAct, IsSettled, ActsGoInOrder, CallsGoInTurn, GrantsGoInOrder, LocksGoInOrder, PassagesGoInOrder, PassagesAreInPhase, RunningPhasesEnd, DueCallsGoInOrder, DrainsGoInOrder, AnswersAreSettled, IsNow}
use Rattle.bench_history.proofs.Asking.{passing-open}
use Rattle.bench_history.proofs.Inversion.{now-at}

-- where something passes, or a lock or an item is granted, no act is next
abbrev AreNone : Option (ℕ × ℕ) → Option (ℕ × Bool) → Option (ℕ × Passage) → Type 0
AreNone led served passed = (led ≡ None) × (served ≡ None) × (passed ≡ None)

-- what comes once nothing passes and nothing is granted: an answer, or an act
abbrev IsLate : Next → Type 0
IsLate (Answer performer call origin) = Unit {0}
IsLate next = IsAct next

late-act : (next : Next) → IsAct next → IsLate next
late-act (Answer performer call origin) is = tt
late-act next is = is

settled-led : (history : List Entry) (led : Option (ℕ × ℕ)) (served : Option (ℕ × Bool)) (passed : Option (ℕ × Passage)) (others : List (Option Next)) → IsLate (first_next (locking led ∷ serving history served ∷ passing passed ∷ others)) → AreNone led served passed
settled-led history (Some one) served passed others is = absurd is
settled-led history None (Some one) passed others is = absurd is
settled-led history None None (Some passed) others is = absurd is
settled-led history None None None others is = (refl, refl, refl)

settled-given :
    (history : List Entry) (reason : Option Reason) (led : Option (ℕ × ℕ)) (served : Option (ℕ × Bool)) (passed : Option (ℕ × Passage)) (others : List (Option Next))
    → IsLate (first_next (giving_up reason ∷ locking led ∷ serving history served ∷ passing passed ∷ others)) → AreNone led served passed
settled-given history (Some reason) led served passed others is = absurd is
settled-given history None led served passed others is = settled-led history led served passed others is

settled-after :
    (history : List Entry) (stage : RunStage) (reason : Option Reason) (led : Option (ℕ × ℕ)) (served : Option (ℕ × Bool)) (passed : Option (ℕ × Passage)) (others : List (Option Next))
    → IsLate (first_next (end_reached stage ∷ giving_up reason ∷ locking led ∷ serving history served ∷ passing passed ∷ others)) → AreNone led served passed
settled-after history Ended reason led served passed others is = absurd is
settled-after history Before reason led served passed others is = settled-given history reason led served passed others is
settled-after history (During phase) reason led served passed others is = settled-given history reason led served passed others is
settled-after history (After phase) reason led served passed others is = settled-given history reason led served passed others is

late-settled : (script : ScriptValue) (history : List Entry) → IsLate (next_of script history) → IsSettled history
unfolding next_of
late-settled script history is =
    let none = settled-after history (stage_of history) (reason_of script history) (next_locked history) (next_served history) (next_passed history) _ is in
    record { unlocked = none.0; unserved = none.1; unpassed = none.2 }

pub settled-of : (script : ScriptValue) (history : List Entry) → IsAct (next_of script history) → IsSettled history
settled-of script history is = late-settled script history (late-act (next_of script history) is)

pub answers_are_settled : AnswersAreSettled
answers_are_settled script history hearer call origin asks = late-settled script history (subst IsLate (sym asks) tt)

-- an act that is next is the first of those that are left
first-act : (script : ScriptValue) (history : List Entry) (next : Next) → next_of script history ≡ next → IsAct next → IsNow script history next → (act : Act) × IsFirstAct script history act
first-act script history (Exactly (Did performer outcome act)) e is now = (act, record { settled = settled-of script history (subst IsAct (sym e) is); left = now.left; next = e ∙ sym now.comes })
first-act script history (Need need made performer act) e is now =
    let by_need : Need need made performer act ≡ by_effect performer act (effect_of script history (performer_of history) act) = ap (by_effect performer act) (sym now.effect) in
    let his : Need need made performer act ≡ by_act script history (performer_of history) act = subst (λ (who : Who). Need need made performer act ≡ by_effect who act (effect_of script history (performer_of history) act)) now.performer_is by_need in
    (act, record { settled = settled-of script history (subst IsAct (sym e) is); left = now.left; next = e ∙ his })
first-act script history next e is now = absurd is

pub acts_go_in_order : ActsGoInOrder
acts_go_in_order script history did = first-act script history (next_of script history) refl did (now-at script history (next_of script history) refl)

pub due_calls_go_in_order : DueCallsGoInOrder
due_calls_go_in_order script history hearer call origin asks = now-at script history (Answer hearer call (Some origin)) asks

pub calls_go_in_turn : CallsGoInTurn
calls_go_in_turn script history hearer call asks =
    let turn = now-at script history (Answer hearer call None) asks in
    record { phase = turn.phase; call_is = turn.call_is; going = turn.going; next = turn.turn ∙ ap (λ (who : Who). Some (node_of who)) (sym turn.hearer_is) }

pub drains_go_in_order : DrainsGoInOrder
drains_go_in_order script history node origin ends = now-at script history (Exactly (Drained node origin)) ends

pub passages_go_in_order : PassagesGoInOrder
passages_go_in_order script history fifo passage passes = now-at script history (Exactly (Passed fifo passage)) passes

-- of a phase that has not ended
pub passages_are_in_phase : PassagesAreInPhase
passages_are_in_phase script history fifo passage is = subst (λ (passed : Option (ℕ × Passage)). IfSome passed (λ passed. list_any (same_phase passed.1.phase) (ended_of history) ≡ false)) (passages_go_in_order script history fifo passage is) (passing-open history)

-- so are locks and items that are granted
pub locks_go_in_order : LocksGoInOrder
locks_go_in_order script history node id is = now-at script history (Exactly (Locked node id)) is

pub grants_go_in_order : GrantsGoInOrder
grants_go_in_order script history node drawn chosen is = now-at script history (Grant node drawn chosen) is

-- the phase that ends is the one that was begun last, of those in progress
pub running_phases_end : RunningPhasesEnd
running_phases_end script history phase is = (now-at script history (Exactly (End phase)) is).runs
