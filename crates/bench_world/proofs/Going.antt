-- A world goes on with one more entry.
use Rattle.bench_world.proofs.Common.{◌≡◌, ◌<◌, ◌≤◌, ◌==◌, if◌then◌else◌, false, true, List, ◌∷◌, length, Option, None, Some, refl, ap, subst, ◌∙◌, arith, sym, Bool, Act, Who, Entry, LogValue, ScriptValue, Services, log_limit, leaving_of, leaving_after, Allows, EachIsNext, IsNext, IsLegal, next_of, IsAct, ServicesMatch, Comes, PreservesMatch, IsComing, IsEntryContext, IsWorld, Did, Outcome, Pending, Phase, Ended, act_phase, in_progress, in_task, remaining_acts, rest_of, performer_of, stage_of, Effect, Needs, ComesTo, effect_of, by_act, by_effect, DriversAreThere, IsSettled, PerformersAreThere, ActsAreInPhase, PreservesMatchByAct, IsPerformed, one_done, scene-of, same_phase, list_any}

-- a legal log goes on with an entry that is next
pub legal-more : {script : ScriptValue} {before : List Entry} (entry : Entry) → IsNext script before entry → length before < log_limit script → IsLegal script before → IsLegal script (entry ∷ before)
legal-more entry next room legal = record { each = (next, legal.each); few = omega arith }

-- a log is short, by either version of scripts
pub short : (script : ScriptValue) → log_limit script ≤ 8000000
unfolding log_limit
short script = tested (script.version == 2)
  where
    tested : (t : Bool) → (if t then 8000000 else 1000000) ≤ 8000000
    tested true = omega arith
    tested false = omega arith

-- a world is sound again once its services match
pub sound-again :
    {script : ScriptValue} {log : LogValue} {services : Services} {leaving : List Who} (entries : List Entry)
    → log.entries ≡ entries → log.limit ≡ log_limit script → IsLegal script entries → leaving ≡ leaving_of entries → ServicesMatch script entries services → IsWorld true script log services None leaving
sound-again {script} {log} {services} {leaving} entries is limit legal leaves match = record { limit = limit; legal = rw is legal; services_match = λ _. rw is match; leaves = λ _. rw is leaves; waits = λ _ e. cc; ready = λ _ e. cc }

-- what comes next in the log that there is
pub here : {script : ScriptValue} {history : List Entry} (comes : Comes) → EachIsNext script history → next_of script history ≡ comes history → IsComing script history comes (length history)
here comes each next = record { each = each; next = next; place_is = refl }

pub due-here :
    {P : Type 0} {sound : Bool} {script : ScriptValue} {log : LogValue} {services : Services} {pending : Option Pending} {left : List Who} (comes : Comes)
    → P × IsWorld sound script log services pending left → sound ≡ true → next_of script log.entries ≡ comes log.entries → IsEntryContext comes (length log.entries) services
due-here {script = script} {log} comes p sound next = record { script = script; history = log.entries; coming = here comes p.1.legal.each next; known = p.1.services_match sound }

-- a world goes on with an entry that is next
goes-on :
    {P : Type 0} {sound : Bool} {script : ScriptValue} {log more : LogValue} {old services : Services} {pending : Option Pending} {left leaving : List Who} (entry : Entry)
    → P × IsWorld sound script log old pending left → sound ≡ true → length log.entries < log_limit script → IsNext script log.entries entry
    → more.entries ≡ entry ∷ log.entries → more.limit ≡ log.limit → leaving ≡ leaving_of (entry ∷ log.entries)
    → (ServicesMatch script log.entries old → ServicesMatch script (entry ∷ log.entries) services)
    → P × IsWorld true script more services None leaving
goes-on {log} entry p sound room next is limit leaves match =
    (p.0, sound-again (entry ∷ log.entries) is (limit ∙ p.1.limit) (legal-more entry next room p.1.legal) leaves (match (p.1.services_match sound)))

-- with what the machine enters by itself, or the answer of a component or sequence
pub entered :
    {P : Type 0} {sound : Bool} {script : ScriptValue} {log more : LogValue} {old services : Services} {pending : Option Pending} {left leaving : List Who} (comes : Comes) (entry : Entry)
    → P × IsWorld sound script log old pending left → sound ≡ true → length log.entries < log_limit script → next_of script log.entries ≡ comes log.entries → Allows (comes log.entries) entry
    → more.entries ≡ entry ∷ log.entries → more.limit ≡ log.limit → (ServicesMatch script log.entries old → leaving ≡ leaving_of (entry ∷ log.entries)) → PreservesMatch comes entry (length log.entries) old services
    → P × IsWorld true script more services None leaving
entered {script = script} {log} comes entry p sound room next allowed is limit leaves goes_on =
    goes-on entry p sound room (rw next allowed) is limit (leaves (p.1.services_match sound)) (λ m. goes_on script log.entries (here comes p.1.legal.each next) m)

-- what an act comes to is the entry of an act, or a need
act-is : (performer : Who) (act : Act) (effect : Effect) → IsAct (by_effect performer act effect)
act-is performer act (Needs need made) = tt
act-is performer act (ComesTo outcome) = tt

pub act-next : (script : ScriptValue) (history : List Entry) (act : Act) → next_of script history ≡ by_act script history (performer_of history) act → IsAct (next_of script history)
act-next script history act next = subst IsAct (sym next) (act-is (performer_of history) act (effect_of script history (performer_of history) act))

-- where one is performed in a phase that takes time, the run has not ended
pub goes-still : (history : List Entry) → ((phase : Phase) → act_phase history ≡ Some phase → list_any (same_phase phase) (in_progress (stage_of history)) ≡ true) → in_task (act_phase history) ≡ true → stage_of history ≡ Ended → ⊥
goes-still history going task ended = by (act_phase history) refl task
  where
    by : (phase : Option Phase) → act_phase history ≡ phase → in_task phase ≡ true → ⊥
    by None is task = cc
    by (Some phase) is task = let still : list_any (same_phase phase) (in_progress Ended) ≡ true = rw ended at (going phase is) in cc

-- and with the entry of an act
pub acted-on :
    {P : Type 0} {sound : Bool} {script : ScriptValue} {log more : LogValue} {old new services : Services} {pending : Option Pending} {others leaving : List Who} (outcome : Outcome) (act : Act)
    → P × IsWorld sound script log old pending others → sound ≡ true → length log.entries < log_limit script
    → IsSettled log.entries → remaining_acts script log.entries ≡ act ∷ rest_of (remaining_acts script log.entries) → IsNext script log.entries (Did (performer_of log.entries) outcome act)
    → IsAct (next_of script log.entries) → ActsAreInPhase → PerformersAreThere → DriversAreThere → PreservesMatchByAct act outcome (length log.entries) old new
    → more.entries ≡ Did new.answer.performer outcome act ∷ log.entries → more.limit ≡ log.limit → leaving ≡ leaving_after old.answer.performer outcome → services ≡ one_done new
    → P × IsWorld true script more services None leaving
acted-on {script = script} {log} {old = old} {new} outcome act p sound room settled left next is_act phases performers drivers kept is limit leaves done =
    let m = p.1.services_match sound in
    let match = kept.with_entry script log.entries (scene-of act m p.1.legal.each settled left phases performers drivers is_act) in
    goes-on (Did old.answer.performer outcome act) p sound room (rw m.answer.performer next) (is ∙ ap (λ (s : Who). Did s outcome act ∷ log.entries) (ap (λ a. a.performer) kept.same_answer)) limit leaves (λ m. rw done match)

-- what an act comes to by itself is next
pub performed :
    {P : Type 0} {sound : Bool} {script : ScriptValue} {log more : LogValue} {old new services : Services} {pending : Option Pending} {others leaving : List Who} (outcome : Outcome) (act : Act)
    → P × IsWorld sound script log old pending others → sound ≡ true → length log.entries < log_limit script
    → IsSettled log.entries → remaining_acts script log.entries ≡ act ∷ rest_of (remaining_acts script log.entries) → next_of script log.entries ≡ by_act script log.entries (performer_of log.entries) act
    → ActsAreInPhase → PerformersAreThere → DriversAreThere → IsPerformed by_act act outcome (length log.entries) old new
    → more.entries ≡ Did new.answer.performer outcome act ∷ log.entries → more.limit ≡ log.limit → leaving ≡ leaving_after old.answer.performer outcome → services ≡ one_done new
    → P × IsWorld true script more services None leaving
performed {script = script} {log} {old = old} outcome act p sound room settled left next phases performers drivers did is limit leaves done =
    let m = p.1.services_match sound in
    let is_act = act-next script log.entries act next in
    let comes = next ∙ (rw m.answer.performer at (did.comes script log.entries (scene-of act m p.1.legal.each settled left phases performers drivers is_act))) in
    acted-on outcome act p sound room settled left (rw comes refl) is_act phases performers drivers did.kept is limit leaves done
