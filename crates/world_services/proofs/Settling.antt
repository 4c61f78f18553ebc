-- The objection of a phase changes, and the drains that begin and end with that.
use Rattle.world_services.proofs.Common.{◌≡◌, ◌<◌, ◌≤◌, ◌*◌, ◌∷◌, [], ℕ, suc, Bool, true, false, not, ◌==◌, List, length, filter, Option, Some, All, refl, sym, ap, ◌∙◌, subst, arith, if◌then◌else◌, ◌++◌, flat_map, list_any, option_to_list, nat_tests, Phase, is_task, phase_number, same_phase, in_order, due_of, new_node, released, with_drain, total, settled, drains_begun, drains_ended, BegunDrainsAreHeld, GrowsBy, IsHeldUntilDue, NodesGrow, PlacesStay, SettledGoByTotals, places, Entry, Drained, Origin, Drain, ScriptValue, caused_at, scheduled_events, drain_from, delivered_causes, is_open, with_drains_of, ended_of, nodes_of, now_of, objections_of, with_new, Event, is_drain_of, finished_of, ObjectionsValue, OthersStay, nodes_at, nodes_in, of-each, parted, IsAgenda, AreEvents, AreNumbered, IsObjecting, moved, same-phase, objecting-changed, objecting-later, objecting-made, objecting-same, Services, AreObjecting, ServicesMatch}
use Rattle.uvm_objection.specs.Nodes.{Node}
use Rattle.uvm_objection.specs.declared.objections.Due as drain

pub itself : (phase : Phase) → same_phase phase phase ≡ true
itself phase = grind (arith, nat_tests)

either : (a b : Phase) → same_phase a b ≡ false → same_phase b a ≡ false
either a b apart = tested (phase_number b == phase_number a) refl
  where
    tested : (t : Bool) → (phase_number b == phase_number a) ≡ t → t ≡ false
    tested false is = refl
    tested true is = let same : (phase_number a == phase_number b) ≡ true = grind (arith, nat_tests, is) in let no : true ≡ false = sym same ∙ apart in cc

-- the objection of a phase is this with one more entry, and the others are as they were
pub record ChangesOne (script : ScriptValue) (history : List Entry) (entry : Entry) (phase : Phase) (others : List Node) : Type 0 where
  pub one : objections_of script phase (entry ∷ history) ≡ others
  pub rest : (other : Phase) → same_phase phase other ≡ false → objections_of script other (entry ∷ history) ≡ objections_of script other history

-- the end of a drain does so
pub drain-changes : (script : ScriptValue) (history : List Entry) (node : ℕ) (origin : Origin) → ChangesOne script history (Drained node origin) origin.phase (settled (now_of history) (total (objections_of script origin.phase history)) (released node (objections_of script origin.phase history)))
drain-changes script history node origin = record {
  one = ap (λ (b : Bool). if b then settled (now_of history) (total (objections_of script origin.phase history)) (released node (objections_of script origin.phase history)) else objections_of script origin.phase history) (itself origin.phase);
  rest = λ other apart. ap (λ (b : Bool). if b then settled (now_of history) (total (objections_of script other history)) (released node (objections_of script other history)) else objections_of script other history) apart;
}

-- one more entry that changes none
pub objectings-later : {drains : List Drain} {nodes : Phase → List Node} {count entries : ℕ} {objections : ObjectionsValue} → AreObjecting drains nodes count entries objections → AreObjecting drains nodes count (suc entries) objections
objectings-later o = record { given = o.given; each = λ phase task. objecting-later (o.each phase task) }

-- what has the same nodes is as good
pub objectings-same : {drains : List Drain} {nodes : Phase → List Node} {count entries : ℕ} {old : ObjectionsValue} (new : ObjectionsValue) → ((phase : Phase) → nodes_in new phase ≡ nodes_in old phase) → new.given ≡ old.given → AreObjecting drains nodes count entries old → AreObjecting drains nodes count entries new
objectings-same new same stays o = record { given = stays ∙ o.given; each = λ phase task. objecting-same (nodes_in new phase) (same phase) (o.each phase task) }

-- one more node, with the drain time that is given in each phase
pub objectings-more :
    {drains : List Drain} {nodes : Phase → List Node} {count entries more : ℕ} {old : ObjectionsValue} (new : ObjectionsValue) (parent : ℕ) (given : Phase → ℕ) → PlacesStay → NodesGrow → parent < count
    → AreObjecting drains nodes count entries old → more ≡ suc count → new.given ≡ old.given
    → ((phase : Phase) → is_task phase ≡ true → nodes_in new phase ≡ with_drain count (given phase) (nodes_in old phase ++ new_node count parent ∷ []))
    → AreObjecting drains (λ phase. with_new parent (given phase) (nodes phase)) more (suc entries) new
objectings-more {count = count} new parent given stay grow below o is stays made = record {
  given = stays ∙ o.given;
  each = λ phase task.
      let was = o.each phase task in
      objecting-made (nodes_in new phase) parent (given phase) stay grow below was is (made phase task ∙ ap (λ (nodes : List Node). with_drain count (given phase) (nodes ++ new_node count parent ∷ [])) was.are);
}

-- a node is known in each of them, one that is not there in none; and one more count can be raised
pub each-numbered : {drains : List Drain} {nodes : Phase → List Node} {count entries : ℕ} {objections : ObjectionsValue} → AreObjecting drains nodes count entries objections → (phase : Phase) → AreNumbered (nodes_in objections phase) count
each-numbered {count = count} {objections = objections} o = of-each (λ n. AreNumbered (nodes_at objections.each n) count) (λ phase task. let was = o.each phase task in subst (λ (nodes : List Node). AreNumbered nodes count) (sym was.are) was.numbered)

pub each-few : {drains : List Drain} {nodes : Phase → List Node} {count entries : ℕ} {objections : ObjectionsValue} → AreObjecting drains nodes count entries objections → (phase : Phase) → total (nodes_in objections phase) 0 ≤ 65535 * entries
each-few {entries = entries} {objections = objections} o = of-each (λ n. total (nodes_at objections.each n) 0 ≤ 65535 * entries) (λ phase task. let was = o.each phase task in subst (λ (nodes : List Node). total nodes 0 ≤ 65535 * entries) (sym was.are) was.few)

-- the one that changes, and the others
objectings-one :
    (script : ScriptValue) {history : List Entry} {entry : Entry} {phase : Phase} {others : List Node} {old : ObjectionsValue} (new : ObjectionsValue) → PlacesStay
    → AreObjecting script.drains (λ p. objections_of script p history) (length (nodes_of history)) (length history) old → is_task phase ≡ true
    → ChangesOne script history entry phase others → places others ≡ places (objections_of script phase history) → nodes_in new phase ≡ others → OthersStay phase old new → new.given ≡ old.given
    → (raised : ℕ) → raised ≤ 65535 → GrowsBy raised (objections_of script phase history) others
    → AreObjecting script.drains (λ p. objections_of script p (entry ∷ history)) (length (nodes_of history)) (suc (length history)) new
objectings-one script {history} {entry} {phase} {others} {old} new stay was task changes same is rest stays raised low grown = record { given = stays ∙ was.given; each = λ other is_one. tested other is_one (same_phase phase other) refl }
  where
    P : Phase → Type 0
    P p = IsObjecting (objections_of script p (entry ∷ history)) (length (nodes_of history)) (suc (length history)) (nodes_in new p)

    tested : (other : Phase) → is_task other ≡ true → (t : Bool) → same_phase phase other ≡ t → P other
    tested other is_one true at =
        subst P (same-phase phase other at)
        (subst (λ (nodes : List Node). IsObjecting nodes (length (nodes_of history)) (suc (length history)) (nodes_in new phase)) (sym changes.one)
        (objecting-changed (nodes_in new phase) others stay same (was.each phase task) is raised low grown))
    tested other is_one false at =
        subst (λ (nodes : List Node). IsObjecting nodes (length (nodes_of history)) (suc (length history)) (nodes_in new other)) (sym (changes.rest other at))
        (objecting-later (objecting-same (nodes_in new other) (rest other (parted phase other task is_one at)) (was.each other is_one)))

-- what is due with the entry, if it is of this phase, and what is kept of objections
pub record HasSettled (script : ScriptValue) (history : List Entry) (entry : Entry) (acting : Option Phase) (objections : ObjectionsValue) (dues : List Event) : Type 0 where
  pub agenda : IsAgenda (with_drains_of script acting entry history (scheduled_events script history)) (delivered_causes history) (ended_of history) (finished_of history) (suc (length history)) dues
  pub events : AreEvents (λ phase. objections_of script phase (entry ∷ history)) (filter (is_open (delivered_causes history) (ended_of history) (finished_of history)) (with_drains_of script acting entry history (scheduled_events script history)))
  pub objecting : AreObjecting script.drains (λ phase. objections_of script phase (entry ∷ history)) (length (nodes_of history)) (suc (length history)) objections

pub settling :
    {script : ScriptValue} {history : List Entry} {services : Services} (entry : Entry) (phase : Phase) (acting : Option Phase) (changed : List Node) (began : Option drain.Due) (ends : Option ℕ)
    (new : ObjectionsValue) (more : List Event) (raised : ℕ)
    → SettledGoByTotals → PlacesStay → BegunDrainsAreHeld → ServicesMatch script history services → acting ≡ Some phase → is_task phase ≡ true
    → ChangesOne script history entry phase (settled (now_of history) (total (objections_of script phase history)) changed)
    → places (settled (now_of history) (total (objections_of script phase history)) changed) ≡ places (objections_of script phase history)
    → nodes_in new phase ≡ settled (now_of history) (total (objections_of script phase history)) changed → OthersStay phase services.objections new → new.given ≡ services.objections.given
    → raised ≤ 65535 → GrowsBy raised (objections_of script phase history) (settled (now_of history) (total (objections_of script phase history)) changed)
    → ((k : ℕ) → list_any (λ other. other == k) (option_to_list ends) ≡ false → due_of k changed ≡ due_of k (objections_of script phase history))
    → drains_begun (objections_of script phase history) (settled (now_of history) (total (objections_of script phase history)) changed) ≡ option_to_list began
    → drains_ended (objections_of script phase history) (settled (now_of history) (total (objections_of script phase history)) changed) ≡ option_to_list ends
    → list_any (same_phase phase) (ended_of history) ≡ false
    → more ≡ in_order (flat_map (drain_from phase (caused_at (length history))) (option_to_list began) ++ filter (λ event. not (is_drain_of phase (option_to_list ends) event.owner)) (filter (is_open (delivered_causes history) (ended_of history) (finished_of history)) (scheduled_events script history)))
    → HasSettled script history entry acting new more
settling {script} {history} entry phase acting changed began ends new more raised settles stay begins m acts task changes same is rest stays low grown keeps begun over unended dues =
    let nodes = objections_of script phase history in
    let others = settled (now_of history) (total nodes) changed in
    let held : All (IsHeldUntilDue others) (option_to_list began) = rw (← begun) (begins nodes others grown.nodes) in
    let drains = moved (now_of history) (λ p. objections_of script p history) (λ p. objections_of script p (entry ∷ history)) changed phase began ends (scheduled_events script history) (delivered_causes history) (ended_of history) (finished_of history) (length history) _ more
    settles stay (m.objections.each phase task).are_nodes (rw changes.one same) changes.one (λ other apart. changes.rest other (either other phase apart)) keeps (rw changes.one begun) (rw changes.one over) task (rw changes.one held) unended m.agenda m.events dues in
    subst (λ (a : Option Phase). HasSettled script history entry a new more) (sym acts) (record {
      agenda = drains.agenda;
      events = drains.events;
      objecting = objectings-one script {entry = entry} new stay m.objections task changes same is rest stays raised low grown;
    })
