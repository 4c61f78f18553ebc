-- Which case of the machine gives what comes next.
use Rattle.bench_history.proofs.Common.{◌≡◌, ℕ, Bool, true, false, List, [], ◌∷◌, length, nat_lt, Option, Some, None, option_map, inl, inr, refl, ap, sym, ◌∙◌, subst, arith, ◌==◌, if◌then◌else◌, map, ◌||◌, is_some, nat_tests, Phase, is_runtime, same_phase, Who, Call, Act, Ask, EndStep, How, Try, Fatal, TooManyActs, Timeout, NoObject, node_of, Outcome, Done, Refused, Finished, Reason, Passage, Entry, End, Time, Heard, Did, Granted, Note, ScriptValue, Build, Run, list_any, All-nil, All-cons, All-head, All-tail, first_given, RunStage, Before, During, After, Ended, Event, who_of, most_acts, stage_of, now_of, running, is_of_phase, next_call, remaining_acts, rest_of, performer_of, in_progress, reason_of, is_kept, first_due, due_at, due_now, next_unsound, next_passed, next_step, Effect, Needs, ComesTo, unless_refused, asked_effect, permitted_effect, effect_of, next_locked, next_served, Next, Exactly, Answer, Need, Grant, Nothing, end_reached, giving_up, locking, serving, passing, first_act, by_effect, by_call, event_due, phase_call, port_check, phase_end, time_passes, phase_begin, phase_to_begin, finish, origin_of, turn_in, first_next, next_of, Allows, IsNext, IsDue, IsAlone, IsActEntry, IsNeeding, IsNow, NotMade, Comes, Connect, All}
use Rattle.uvm_acts.specs.declared.acts.Who.TheVariants as who
use Rattle.uvm_acts.specs.declared.acts.Call.TheVariants as call
use Rattle.bench_history.specs.declared.needs.Need as declared

-- what is so of what comes next
at : (script : ScriptValue) (history : List Entry) (next other : Next) → next ≡ other → IsNow script history other → IsNow script history next
at script history next other e now = subst (IsNow script history) (sym e) now

-- the cases from the calls of phases on
abbrev turn_cases : ScriptValue → List Entry → List Phase → Option Phase → List (Option Next)
turn_cases script history going phase = phase_call history going ∷ port_check history phase ∷ phase_end script history phase ∷ finish ∷ []

abbrev phase_cases : ScriptValue → List Entry → List (Option Next)
phase_cases script history = phase_begin (phase_to_begin script.runtime (stage_of history)) ∷ turn_cases script history (in_progress (stage_of history)) (running (stage_of history))

-- and from the acts on
abbrev act_cases : ScriptValue → List Entry → List (Option Next)
act_cases script history = event_due (due_now script history) ∷ phase_cases script history

-- where time would pass
case-limit : (script : ScriptValue) (history : List Entry) (next : Next) (event : Event) (late : Bool) → first_due script history ≡ Some event → nat_lt script.time_limit event.time ≡ late → next ≡ Exactly (if late then Note Timeout 0 else Time event.time) → IsNow script history next
case-limit script history next event true first is e = at script history next _ e tt
case-limit script history next event false first is e = at script history next (Exactly (Time event.time)) e (record { within = grind (arith, nat_tests); event = event; first = first; time_is = refl })

case-time : (script : ScriptValue) (history : List Entry) (next : Next) (first : Option Event) → first_due script history ≡ first → next ≡ Exactly (time_passes script.time_limit first) → IsNow script history next
case-time script history next None is e = at script history next _ e tt
case-time script history next (Some event) is e = case-limit script history next event (nat_lt script.time_limit event.time) is refl e

-- where no port is unsound
case-ended :
    (script : ScriptValue) (history : List Entry) (next : Next) (phase : Phase) (kept : Bool) → (running (stage_of history) ≡ Some phase) × (phase_to_begin script.runtime (stage_of history) ≡ None) → is_kept script phase history ≡ kept
    → next ≡ Exactly (if kept then time_passes script.time_limit (first_due script history) else End phase) → IsNow script history next
case-ended script history next phase true runs is e = case-time script history next (first_due script history) refl e
case-ended script history next phase false runs is e = at script history next _ e (record { runs = runs.0; last = runs.1; quiet = is })

-- where each component had its call
case-check :
    (script : ScriptValue) (history : List Entry) (next : Next) (phase : Phase) (connects : Bool) (port : Option (ℕ × Fatal)) → (running (stage_of history) ≡ Some phase) × (phase_to_begin script.runtime (stage_of history) ≡ None)
    → next ≡ first_next ((if connects then option_map (λ port. Exactly (Note port.1 port.0)) port else None) ∷ phase_end script history (Some phase) ∷ finish ∷ []) → IsNow script history next
case-check script history next phase true (Some port) runs e = at script history next _ e tt
case-check script history next phase true None runs e = case-ended script history next phase (is_kept script phase history) runs refl e
case-check script history next phase false port runs e = case-ended script history next phase (is_kept script phase history) runs refl e

case-running :
    (script : ScriptValue) (history : List Entry) (next : Next) (phase : Option Phase) → running (stage_of history) ≡ phase → phase_to_begin script.runtime (stage_of history) ≡ None
    → next ≡ first_next (port_check history phase ∷ phase_end script history phase ∷ finish ∷ []) → IsNow script history next
case-running script history next (Some phase) runs none e = case-check script history next phase (is_of_phase Connect (Some phase)) (next_unsound history) (runs, none) e
case-running script history next None runs none e = at script history next _ e tt

-- where a phase in progress may have a call left
case-turns :
    (script : ScriptValue) (history : List Entry) (next : Next) (others : List (Option Next)) (phases : List Phase) → All (λ phase. list_any (same_phase phase) (in_progress (stage_of history)) ≡ true) phases
    → next ≡ first_next (first_given (map (turn_in history) phases) ∷ others) → (next ≡ first_next others → IsNow script history next) → IsNow script history next
case-turns script history next others [] all e rest = rest e
case-turns script history next others (phase ∷ phases) all e rest =
    by (next_call phase history) refl e (λ e. case-turns script history next others phases (All-tail (λ phase. list_any (same_phase phase) (in_progress (stage_of history)) ≡ true) phase phases all) e rest)
  where
    More : Type 0
    More = next ≡ first_next (first_given (map (turn_in history) phases) ∷ others) → IsNow script history next

    by : (turn : Option ℕ) → next_call phase history ≡ turn → next ≡ first_next (first_given (option_map (λ node. Answer (who.Node node) (call.Phase phase) None) turn ∷ map (turn_in history) phases) ∷ others) → More → IsNow script history next
    by (Some node) is e more = at script history next _ e (record { phase = phase; node = node; hearer_is = refl; call_is = refl; going = All-head (λ phase. list_any (same_phase phase) (in_progress (stage_of history)) ≡ true) phase phases all; turn = is })
    by None is e more = more e

any-itself : (phase : Phase) → same_phase phase phase ≡ true
any-itself Build = refl
any-itself phase = refl

going-two : (runtime : Bool) (phase : Phase) → All (λ one. list_any (same_phase one) (if runtime then Run ∷ phase ∷ [] else phase ∷ []) ≡ true) (if runtime then Run ∷ phase ∷ [] else phase ∷ [])
going-two true phase = All-cons (λ one. list_any (same_phase one) (Run ∷ phase ∷ []) ≡ true) Run (phase ∷ []) refl (All-cons (λ one. list_any (same_phase one) (Run ∷ phase ∷ []) ≡ true) phase [] (last (same_phase phase Run)) (All-nil _))
  where
    last : (b : Bool) → b || (same_phase phase phase || false) ≡ true
    last true = refl
    last false = rw any-itself refl
going-two false phase = All-cons (λ one. list_any (same_phase one) (phase ∷ []) ≡ true) phase [] (rw any-itself refl) (All-nil _)

going-one : (runtime : Bool) → All (λ one. list_any (same_phase one) (if runtime then Run ∷ [] else []) ≡ true) (if runtime then Run ∷ [] else [])
going-one true = All-cons (λ one. list_any (same_phase one) (Run ∷ []) ≡ true) Run [] refl (All-nil _)
going-one false = All-nil _

all-going : (stage : RunStage) → All (λ phase. list_any (same_phase phase) (in_progress stage) ≡ true) (in_progress stage)
all-going Before = All-nil _
all-going (During phase) = going-two (is_runtime phase) phase
all-going (After phase) = going-one (is_runtime phase)
all-going Ended = All-nil _

case-phase : (script : ScriptValue) (history : List Entry) (next : Next) (begins : Option Phase) → phase_to_begin script.runtime (stage_of history) ≡ begins → next ≡ first_next (phase_begin begins ∷ turn_cases script history (in_progress (stage_of history)) (running (stage_of history))) → IsNow script history next
case-phase script history next (Some phase) is e = at script history next _ e is
case-phase script history next None is e =
    case-turns script history next _ (in_progress (stage_of history)) (all-going (stage_of history)) e (case-running script history next (running (stage_of history)) refl is)

-- an event that is due now is due first
record IsFirst (now : ℕ) (first : Option Event) (event : Event) : Type 0 where
  first_is : first ≡ Some event
  time : event.time ≡ now

first-at : (now : ℕ) (first : Option Event) (event : Event) → due_at now first ≡ Some event → IsFirst now first event
first-at now None event e = cc
first-at now (Some other) event e = first-tested (other.time == now) refl e
  where
    first-tested : (b : Bool) → (other.time == now) ≡ b → (if b then Some other else None) ≡ Some event → IsFirst now (Some other) event
    first-tested true at e = let same : other ≡ event = cc in record { first_is = e; time = rw (← same) (grind (arith, nat_tests)) }
    first-tested false at e = cc

due-first : (script : ScriptValue) (history : List Entry) (event : Event) (notice : Option Call) → due_now script history ≡ Some event → event.notice ≡ notice → IsDue script history (who_of event.owner) notice (origin_of event)
unfolding due_now
due-first script history event notice e is =
    let f = first-at (now_of history) (first_due script history) event e in
    record { event = event; first = f.first_is; time = f.time; hearer_is = refl; notice_is = is; origin_is = refl }

-- a component or sequence hears its call, or a drain ends
case-event :
    (script : ScriptValue) (history : List Entry) (next : Next) (event : Event) (notice : Option Call) → due_now script history ≡ Some event → event.notice ≡ notice
    → next ≡ by_call event.owner notice (origin_of event) → IsNow script history next
case-event script history next event (Some call) now is e = at script history next _ e (due-first script history event (Some call) now is)
case-event script history next event None now is e = at script history next _ e (record { hearer = who_of event.owner; stands = refl; due = due-first script history event None now is })

case-due : (script : ScriptValue) (history : List Entry) (next : Next) (due : Option Event) → due_now script history ≡ due → next ≡ first_next (event_due due ∷ phase_cases script history) → IsNow script history next
case-due script history next (Some event) is e = case-event script history next event event.notice is refl e
case-due script history next None is e = case-phase script history next (phase_to_begin script.runtime (stage_of history)) refl e

-- what an act comes to at once makes no object
abbrev pub IsPlainEffect : Effect → Type 0
IsPlainEffect (ComesTo outcome) = NotMade outcome
IsPlainEffect effect = Unit {0}

plain-unless : (refusal : Option Fatal) (effect : Effect) → IsPlainEffect effect → IsPlainEffect (unless_refused refusal effect)
plain-unless None effect plain = plain
plain-unless (Some fatal) effect plain = tt

plain-asked : (how : How) (waits : Bool) → IsPlainEffect (asked_effect how waits)
plain-asked Try waits = tt
plain-asked how waits = tt

plain-step : (more : Bool) → NotMade (if more then Done else Finished)
plain-step true = tt
plain-step false = tt

plain-open : (script : ScriptValue) (history : List Entry) (performer : Who) (act : Act) → IsPlainEffect (permitted_effect script history performer act)
plain-open script history performer EndStep = plain-step (is_some (next_step history performer))
plain-open script history performer (Ask port how) = plain-unless _ _ (plain-asked how _)
plain-open script history performer act = search plain-unless

pub plain-effect : (script : ScriptValue) (history : List Entry) (performer : Who) (act : Act) → IsPlainEffect (effect_of script history performer act)
plain-effect script history performer act = plain-unless _ _ (plain-open script history performer act)

case-effect : (script : ScriptValue) (history : List Entry) (next : Next) (act : Act) (effect : Effect) → remaining_acts script history ≡ act ∷ rest_of (remaining_acts script history) → effect_of script history (performer_of history) act ≡ effect → next ≡ by_effect (performer_of history) act effect → IsNow script history next
case-effect script history next act (Needs need made) left is e = at script history next _ e (record { performer_is = refl; left = left; effect = is })
case-effect script history next act (ComesTo outcome) left is e =
    at script history next _ e (record { performer_is = refl; left = left; plain = subst IsPlainEffect is (plain-effect script history (performer_of history) act); comes = ap (by_effect (performer_of history) act) is })

-- the note of an answer of too many acts
abbrev noted : List Entry → Next
noted history = Exactly (Note TooManyActs (node_of (performer_of history)))

case-many :
    (script : ScriptValue) (history : List Entry) (next : Next) (act : Act) (acts : List Act) (many : Bool) → remaining_acts script history ≡ act ∷ acts
    → next ≡ first_next ((if many then Some (noted history) else None) ∷ first_act script history (act ∷ acts) ∷ act_cases script history) → IsNow script history next
case-many script history next act acts true left e = at script history next _ e tt
case-many script history next act acts false left e = case-effect script history next act (effect_of script history (performer_of history) act) (rw left refl) refl e

case-left :
    (script : ScriptValue) (history : List Entry) (next : Next) (left : List Act) → remaining_acts script history ≡ left
    → next ≡ first_next ((if nat_lt most_acts (length left) then Some (noted history) else None) ∷ first_act script history left ∷ act_cases script history) → IsNow script history next
case-left script history next [] is e = case-due script history next (due_now script history) refl e
case-left script history next (act ∷ acts) is e = case-many script history next act acts (nat_lt most_acts (length (act ∷ acts))) is e

-- from the run that is given up on
abbrev answer_cases : ScriptValue → List Entry → List Act → List (Option Next)
answer_cases script history left = (if nat_lt most_acts (length left) then Some (noted history) else None) ∷ first_act script history left ∷ act_cases script history

case-passing :
    (script : ScriptValue) (history : List Entry) (next : Next) (passed : Option (ℕ × Passage)) → next_passed history ≡ passed
    → next ≡ first_next (passing passed ∷ answer_cases script history (remaining_acts script history)) → IsNow script history next
case-passing script history next (Some passed) is e = at script history next _ e is
case-passing script history next None is e = case-left script history next (remaining_acts script history) refl e

case-serving :
    (script : ScriptValue) (history : List Entry) (next : Next) (served : Option (ℕ × Bool)) → next_served history ≡ served
    → next ≡ first_next (serving history served ∷ passing (next_passed history) ∷ answer_cases script history (remaining_acts script history)) → IsNow script history next
case-serving script history next (Some served) is e = at script history next _ e (record { served = is; chosen_is = refl })
case-serving script history next None is e = case-passing script history next (next_passed history) refl e

case-locking :
    (script : ScriptValue) (history : List Entry) (next : Next) (led : Option (ℕ × ℕ)) → next_locked history ≡ led
    → next ≡ first_next (locking led ∷ serving history (next_served history) ∷ passing (next_passed history) ∷ answer_cases script history (remaining_acts script history)) → IsNow script history next
case-locking script history next (Some led) is e = at script history next _ e is
case-locking script history next None is e = case-serving script history next (next_served history) refl e

case-reason :
    (script : ScriptValue) (history : List Entry) (next : Next) (why : Option Reason) → reason_of script history ≡ why
    → next ≡ first_next (giving_up why ∷ locking (next_locked history) ∷ serving history (next_served history) ∷ passing (next_passed history) ∷ answer_cases script history (remaining_acts script history)) → IsNow script history next
case-reason script history next (Some why) is e = at script history next _ e tt
case-reason script history next None is e = case-locking script history next (next_locked history) refl e

case-stage :
    (script : ScriptValue) (history : List Entry) (next : Next) (stage : RunStage) → stage_of history ≡ stage
    → next ≡ first_next (end_reached stage ∷ giving_up (reason_of script history) ∷ locking (next_locked history) ∷ serving history (next_served history) ∷ passing (next_passed history) ∷ answer_cases script history (remaining_acts script history)) → IsNow script history next
case-stage script history next Ended is e = at script history next _ e is
case-stage script history next Before is e = case-reason script history next (reason_of script history) refl e
case-stage script history next (During phase) is e = case-reason script history next (reason_of script history) refl e
case-stage script history next (After phase) is e = case-reason script history next (reason_of script history) refl e

-- what may come next shows this of the log
now-is : (script : ScriptValue) (history : List Entry) → IsNow script history (next_of script history)
unfolding next_of
now-is script history = case-stage script history _ (stage_of history) refl refl

pub now-at : (script : ScriptValue) (history : List Entry) (next : Next) → next_of script history ≡ next → IsNow script history next
now-at script history next e = subst (IsNow script history) e (now-is script history)

-- an entry of the machine's own comes alone
abbrev pub IsKernelEntry : Entry → Type 0
IsKernelEntry (Heard hearer origin call acts) = ⊥
IsKernelEntry (Did performer outcome act) = ⊥
IsKernelEntry (Granted node grant) = ⊥
IsKernelEntry entry = Unit {0}

pub exactly : (entry : Entry) (next : Next) → IsKernelEntry entry → Allows next entry → next ≡ Exactly entry
exactly entry (Exactly expected) own allows = rw allows refl
exactly entry (Answer hearer call origin) own allows = absurd (subst IsKernelEntry allows.1 own)
exactly entry (Need need made performer act) own (inl e) = absurd (subst IsKernelEntry e own)
exactly entry (Need need made performer act) own (inr e) = absurd (subst IsKernelEntry e own)
exactly entry (Grant node drawn chosen) own allows = absurd (subst IsKernelEntry allows.3 own)
exactly entry Nothing own allows = absurd allows

-- what comes shows as much as what may
alone : (script : ScriptValue) (history : List Entry) (entry : Entry) → IsAlone script history entry → Comes script history entry
alone script history (Heard hearer origin call acts) is = absurd is
alone script history (Did performer outcome act) is = record { performer_is = is.performer_is; left = is.left; comes = subst (λ (next : Next). Allows next (Did performer outcome act)) (sym is.comes) refl }
alone script history (Granted node grant) is = absurd is
alone script history entry is = is

-- an act that needs an object, made or declined
needing :
    (script : ScriptValue) (history : List Entry) (need : declared.Need) (made : Outcome) (performer : Who) (outcome : Outcome) (act : Act)
    → IsNeeding script history need made performer act → Allows (Need need made performer act) (Did performer outcome act) → IsActEntry script history performer outcome act
needing script history need made performer outcome act is allows =
    let effect = effect_of script history (performer_of history) act in
    let by_need : Allows (by_effect performer act effect) (Did performer outcome act) = subst (λ (u : Effect). Allows (by_effect performer act u) (Did performer outcome act)) (sym is.effect) allows in
    record { performer_is = is.performer_is; left = is.left; comes = subst (λ (who : Who). Allows (by_effect who act effect) (Did performer outcome act)) is.performer_is by_need }

came : (script : ScriptValue) (history : List Entry) (entry : Entry) (next : Next) → IsNow script history next → Allows next entry → Comes script history entry
came script history entry (Exactly expected) is allows = subst (Comes script history) (sym allows) (alone script history expected is)
came script history entry (Answer hearer call origin) is allows = subst (Comes script history) (sym allows.1) is
came script history entry (Need need made performer act) is (inl e) = subst (Comes script history) (sym e) (needing script history need made performer made act is (inl refl))
came script history entry (Need need made performer act) is (inr e) = subst (Comes script history) (sym e) (needing script history need made performer (Refused NoObject) act is (inr refl))
came script history entry (Grant node drawn chosen) is allows =
    subst (Comes script history) (sym allows.3) (record { served = rw allows.1 is.served; chosen = ap (λ (f : Option ℕ → Option ℕ). f (allows.0).word) (sym is.chosen_is) ∙ allows.2 })
came script history entry Nothing is allows = absurd allows

pub comes : (script : ScriptValue) (history : List Entry) (entry : Entry) → IsNext script history entry → Comes script history entry
comes script history entry next = came script history entry (next_of script history) (now-is script history) next
