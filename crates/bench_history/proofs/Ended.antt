-- The end of a run.
use Rattle.bench_history.proofs.Common.{◌≡◌, true, List, ◌∷◌, [], refl, ap, subst, Entry, Begin, End, Over, ScriptValue, Ended, stage_of, running, remaining_acts, is_over, in_progress, reason_of, due_now, next_passed, next_locked, next_served, Next, Nothing, end_reached, giving_up, locking, serving, passing, long_answer, first_act, event_due, phase_call, port_check, phase_end, phase_begin, phase_to_begin, finish, first_next, next_of, Allows, IsNext, EachIsNext, IsSomething, NothingAfterOver, SomethingBeforeOver, IsNow}
use Rattle.bench_history.proofs.Inversion.{now-at}

-- after the end nothing comes
pub nothing-comes : (script : ScriptValue) (history : List Entry) → stage_of history ≡ Ended → next_of script history ≡ Nothing
unfolding next_of
nothing-comes script history e =
    ap (λ stage. first_next (
    end_reached stage
    ∷ giving_up (reason_of script history)
    ∷ locking (next_locked history)
    ∷ serving history (next_served history)
    ∷ passing (next_passed history)
    ∷ long_answer history (remaining_acts script history)
    ∷ first_act script history (remaining_acts script history)
    ∷ event_due (due_now script history)
    ∷ phase_begin (phase_to_begin script.runtime (stage_of history))
    ∷ phase_call history (in_progress (stage_of history))
    ∷ port_check history (running (stage_of history))
    ∷ phase_end script history (running (stage_of history))
    ∷ finish
    ∷ [])) e

something : (script : ScriptValue) (history : List Entry) (next : Next) → (stage_of history ≡ Ended → ⊥) → IsNow script history next → IsSomething next
something script history Nothing on now = absurd (on now)
something script history next on now = tt

pub none-after : (script : ScriptValue) (before : List Entry) (entry : Entry) → IsNext script before entry → stage_of before ≡ Ended → ⊥
none-after script before entry next ended = subst (λ (comes : Next). Allows comes entry) (nothing-comes script before ended) next

-- where the stage is the end the entry that came last is it
over-more : (script : ScriptValue) (before : List Entry) (entry : Entry) → IsNext script before entry → stage_of (entry ∷ before) ≡ Ended → is_over (entry ∷ before) ≡ true
over-more script before (Begin phase) next ended = cc
over-more script before (End phase) next ended = cc
over-more script before (Over reason) next ended = refl
over-more script before entry next ended = absurd (none-after script before entry next ended)

-- a run that has ended is over
ended-is-over : (script : ScriptValue) (history : List Entry) → EachIsNext script history → stage_of history ≡ Ended → is_over history ≡ true
ended-is-over script [] each ended = cc
ended-is-over script (entry ∷ before) each ended = over-more script before entry each.0 ended

-- and one that is over has ended
over-is-ended : (history : List Entry) → is_over history ≡ true → stage_of history ≡ Ended
over-is-ended [] over = cc
over-is-ended (Over reason ∷ before) over = refl
over-is-ended (entry ∷ before) over = cc

pub nothing_after_over : NothingAfterOver
nothing_after_over script history over = nothing-comes script history (over-is-ended history over)

pub something_before_over : SomethingBeforeOver
something_before_over script history each on = something script history (next_of script history) (λ ended. let over = ended-is-over script history each ended in cc) (now-at script history (next_of script history) refl)
