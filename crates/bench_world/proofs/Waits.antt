-- A world whose next act waits for an object.
use Rattle.bench_world.proofs.Common.{◌≡◌, ◌<◌, ◌∷◌, length, List, Option, Some, true, Bool, refl, ap, sym, subst, ◌∙◌, rules, LogValue, ScriptValue, log_limit, ended_of, remaining_acts, rest_of, performer_of, Act, Entry, Outcome, Next, Exactly, Need, by_act, Did, AnswerCursor, next_of, need_in, DriversAreThere, IsSettled, PerformersAreThere, ActsAreInPhase, scheduled_events, delivered_causes, finished_of, Who, PendingParts, Services, ServicesMatch, objectings-same, phase_cursors-same, IsAgenda, IsActContext, IsEntered, WaitsForObject, GiveTheSame, IsActed, IsWorld, IsPrepared, WorldValue, for-some, scene-of, sequencing-same, Pending, Creation, Standing, Nothing, Needed}
use Rattle.bench_world.proofs.Going.{act-next}
use Rattle.bench_history.specs.declared.needs.Need as needs

-- services that give the same are as good
same-match : {script : ScriptValue} {old new : Services} (log : LogValue) → GiveTheSame old new → ServicesMatch script log.entries old → ServicesMatch script log.entries new
same-match {script} {old} {new} log same m =
    let history = log.entries in
    let objections = objectings-same new.objections same.objections same.drains m.objections in
    let report_state = same.report_state _ _ m.report_state in
    let tree = same.nodes ∙ m.tree in
    let phase_cursors = phase_cursors-same same.phase_cursors m.phase_cursors in
    let sequencing = sequencing-same new.sequences new.start_records.items same.sequences same.start_records m.sequencing in
    let agenda : IsAgenda (scheduled_events script history) (delivered_causes history) (ended_of history) (finished_of history) (length history) new.agenda.dues = rw same.dues m.agenda in
    let match : ServicesMatch script history (record old { tree = new.tree; objections = new.objections; phase_cursors = new.phase_cursors; sequences = new.sequences; start_records = new.start_records; agenda = new.agenda; report_state = new.report_state }) = search (rules, tree, phase_cursors, objections, sequencing, agenda, report_state) in
    subst (ServicesMatch script history) (sym same.rest) match

need-comes :
    (script : ScriptValue) (history : List Entry) (act : Act) {need : needs.Need} {performer : Who} (other : Who) → performer ≡ other → (made : Outcome) × (by_act script history performer act ≡ Need need made performer act)
    → need_in (by_act script history other act) ≡ Some need
need-comes script history act {need} other same c = subst (λ (w : Who). need_in (by_act script history w act) ≡ Some need) same (ap need_in c.1)

-- an act that needs an object waits, with room for it
pub waits :
    {P : Type 0} {sound : Bool} {script : ScriptValue} {log more : LogValue} {old services : Services} {pending : Option Pending} {leaving : List Who} (act : Act) (wait : PendingParts)
    → P × IsWorld sound script log old pending leaving → sound ≡ true → length log.entries < log_limit script
    → IsSettled log.entries → remaining_acts script log.entries ≡ act ∷ rest_of (remaining_acts script log.entries) → next_of script log.entries ≡ by_act script log.entries (performer_of log.entries) act
    → ActsAreInPhase → PerformersAreThere → DriversAreThere → WaitsForObject act wait log more old services → more.limit ≡ log.limit
    → P × IsWorld true script more services (Some (Creation wait)) leaving
waits {script = script} {log} {more} {old} {services} act wait p sound room settled left next phases performers drivers w limit =
    let m = p.1.services_match sound in
    let scene = scene-of act m p.1.legal.each settled left phases performers drivers (act-next script log.entries act next) in
    let comes = ap need_in next ∙ need-comes script log.entries act (performer_of log.entries) m.answer.performer (w.need.comes script log.entries scene) in
    let matches : ServicesMatch script log.entries services = same-match log w.same m in
    let performer : services.answer.performer ≡ old.answer.performer = ap (λ (s : Services). s.answer.performer) w.same.rest in (
      p.0,
      record {
        limit = limit ∙ p.1.limit;
        legal = rw w.entries p.1.legal;
        services_match = λ _. rw w.entries matches;
        leaves = λ _. rw w.entries (p.1.leaves sound);
        waits = for-some (λ _. true ≡ true) (Creation wait) refl;
        ready = for-some (λ w. IsPrepared w script more services) (Creation wait) (record {
          left = rw (w.entries, w.stored_act) left;
          needed = rw w.entries comes;
          home = rw (w.same.nodes, performer, w.stored_act) w.need.home_is;
          room = rw w.entries room;
          declined = w.declined;
          has_room = w.has_room;
        });
      },
    )

pub need-by : (script : ScriptValue) (history : List Entry) (act : Act) {need : needs.Need} {made : Outcome} (performer other : Who) → performer ≡ other → by_act script history performer act ≡ Need need made performer act → by_act script history other act ≡ Need need made other act
need-by script history act {need} {made} performer other same comes = subst (λ (w : Who). by_act script history w act ≡ Need need made w act) same comes

-- the world waits for the object that is next
pub acted-waits :
    (script : ScriptValue) (before more : List Entry) (sound : Bool) (standing : Standing) {need kept : needs.Need} {made : Outcome} {performer : Who} {act : Act} → next_of script before ≡ Need need made performer act
    → more ≡ before → sound ≡ true → kept ≡ need
    → IsActed (next_of script before) (record { script = script; history = before; sound = sound; standing = standing }) (record { script = script; history = more; sound = true; standing = Needed kept })
acted-waits script before more sound standing {need} {kept} next same is_sound is =
    let old : WorldValue = record { script = script; history = before; sound = sound; standing = standing } in
    let new : WorldValue = record { script = script; history = more; sound = true; standing = Needed kept } in
    subst (λ (n : Next). IsActed n old new) (sym next) (rw (same, is_sound, is) refl)

-- by what an act of the performer comes to
pub acted-needs :
    (script : ScriptValue) (before more : List Entry) (sound : Bool) (standing : Standing) {need kept : needs.Need} {one performer : Who} {act : Act}
    → next_of script before ≡ by_act script before one act → performer ≡ one → (made : Outcome) × (by_act script before performer act ≡ Need need made performer act)
    → more ≡ before → sound ≡ true → kept ≡ need
    → IsActed (next_of script before) (record { script = script; history = before; sound = sound; standing = standing }) (record { script = script; history = more; sound = true; standing = Needed kept })
acted-needs script before more sound standing {need} {kept} {one} {performer} {act} next speaks comes same is_sound is =
    acted-waits script before more sound standing {need = need} {kept = kept} {made = comes.0} {performer = one} {act = act} (next ∙ need-by script before act {need = need} {made = comes.0} performer one speaks comes.1) same is_sound is

-- what stands in the log, where it was performed or refused
entered-by : {act : Act} {leaving : List Who} {log more : LogValue} {old new : Services} (performer : Who) (e : IsEntered act leaving log more old new) → old.answer.performer ≡ performer → more.entries ≡ Did performer e.outcome act ∷ log.entries
entered-by {act} {log = log} performer e speaks =
    e.entries ∙ ap (λ (s : Who). Did s e.outcome act ∷ log.entries) (ap (λ (a : AnswerCursor). a.performer) e.performed.kept.same_answer ∙ speaks)

-- the world has the entry that is next
pub acted-enters :
    (script : ScriptValue) (sound : Bool) (standing : Standing) {act : Act} {leaving : List Who} {log more : LogValue} {old new : Services} (performer : Who) (e : IsEntered act leaving log more old new)
    → next_of script log.entries ≡ by_act script log.entries performer act → old.answer.performer ≡ performer → IsActContext script log.entries act (length log.entries) old → sound ≡ true
    → IsActed (next_of script log.entries) (record { script = script; history = log.entries; sound = sound; standing = standing }) (record { script = script; history = more.entries; sound = true; standing = Nothing })
acted-enters script sound standing {act} {log = log} {more} {old} performer e next speaks scene is_sound =
    let before : WorldValue = record { script = script; history = log.entries; sound = sound; standing = standing } in
    let after : WorldValue = record { script = script; history = more.entries; sound = true; standing = Nothing } in
    let comes : next_of script log.entries ≡ Exactly (Did performer e.outcome act) =
    next ∙ subst (λ (s : Who). by_act script log.entries s act ≡ Exactly (Did s e.outcome act)) speaks (e.performed.comes script log.entries scene)
    in
    subst (λ (n : Next). IsActed n before after) (sym comes) (rw (entered-by performer e speaks, is_sound) refl)
