-- The object of an act that waits.
use Rattle.bench_world.proofs.Common.{◌≡◌, ℕ, suc, List, [], length, Option, Some, None, IsSome, option_map, ◌⊎◌, inl, inr, refl, ap, sym, ◌∙◌, subst, Start, numbered, Node, node_at, node_of, LogValue, Who, Act, Entry, Outcome, Made, Started, ScriptValue, Need, nodes_of, test_creation, performer_of, IsBegun, IsCreated, IsCreation, IsMadeBy, IsThere, StartRecord, starts_of, home_asked, leaving_after, sequence_in, sequences_of, start_by, starting_now, PendingParts, Services, CanMake, outcome_made, who_made, home_for, ServicesMatch, IsReady, made_who, unrefused, each-numbered, there-begun, numbered-map}
use Rattle.uvm_acts.specs.declared.acts.Who.TheVariants as who
use Rattle.uvm_acts.specs.declared.acts.Act.TheVariants as act
use Rattle.bench_history.specs.declared.needs.Need as needs

-- there is room for it, and what it is
pub record IsMakeable (history : List Entry) (services : Services) (act : Act) (home : Option ℕ) (type_name : List ℕ) (need : needs.Need) (made : Outcome) : Type 0 where
  pub can : CanMake act home services
  pub made_is : made ≡ outcome_made services type_name home
  pub who_is : made_who history (Need need made (performer_of history) act) ≡ Some (who_made services home)

creation-home : (nodes : List Node) (performer : Who) (act : Act) → IsCreation act → home_for nodes performer act ≡ None
creation-home nodes performer (act.Create type_name name) is = refl
creation-home nodes performer act is = absurd is

parent-found : (found : Option StartRecord) (start_record : StartRecord) → found ≡ Some start_record → IsSome (option_map (λ b. b.start) found)
parent-found found start_record is = rw is refl

started-at : (nodes : List Node) (started : List Start) (performer : Who) (stored_act : Act) (asked name : List ℕ) (on : List (List ℕ)) (priority : Option ℕ) (home : ℕ) → stored_act ≡ act.Start asked name on priority → home_asked nodes performer on ≡ Some home → (start_by nodes started performer stored_act).home ≡ home
started-at nodes started performer stored_act asked name on priority home starts is = rw (starts, is) refl

module _ {script : ScriptValue} {log : LogValue} {services : Services} (pending : PendingParts) (m : ServicesMatch script log.entries services) (ready : IsReady pending script log services) where
  created : (need : needs.Need) (type_name : List ℕ) → need ≡ pending.need → IsCreated log.entries need type_name pending.stored_act → IsMakeable log.entries services pending.stored_act pending.home pending.need.type_name need (Made type_name)
  created need type_name same w =
      let none : pending.home ≡ None = ready.home ∙ creation-home services.tree.nodes services.answer.performer pending.stored_act w.creates in
      let there : IsSome (node_at services.tree.nodes (node_of services.answer.performer)) = rw (m.tree, m.answer.performer) w.performer in
      subst (λ (home : Option ℕ). IsMakeable log.entries services pending.stored_act home pending.need.type_name need (Made type_name)) (sym none) (record {
        can = record {
          creates = w.creates;
          free = rw (m.tree, m.answer.performer) w.free;
          building = m.built ∙ w.building;
          tree_spare = ready.has_room.tree_spare there;
          speaks = rw (m.tree, m.answer.performer) m.speaks;
          numbered = rw m.tree (each-numbered m.objections);
          objection_spare = ready.has_room.objection_spare;
          phase_cursors = ready.has_room.phase_cursors;
        };
        made_is = ap (λ (name : List ℕ). Made name) (w.type_is ∙ ap (λ (n : needs.Need). n.type_name) same);
        who_is = rw m.tree refl;
      })

  begun : (need : needs.Need) (id : ℕ) → (pending.stored_act ≡ test_creation script) ⊎ IsThere log.entries (performer_of log.entries) → IsBegun script log.entries id pending.stored_act → IsMakeable log.entries services pending.stored_act pending.home pending.need.type_name need (Started id)
  begun need id performs b =
      let history = log.entries in
      let u = unrefused (starting_now script history (performer_of history) b.asked b.name b.on b.priority) b.may in
      let asked : home_for services.tree.nodes services.answer.performer pending.stored_act ≡ Some u.home = rw (b.starts, m.tree, m.answer.performer) u.home_is in
      let some : pending.home ≡ Some u.home = ready.home ∙ asked in
      let number : id ≡ suc (length services.sequences.started) = b.number ∙ ap (λ (started : List Start). suc (length started)) (sym m.sequencing.started) in
      subst (λ (home : Option ℕ). IsMakeable history services pending.stored_act home pending.need.type_name need (Started id)) (sym some) (record {
        can = record {
          starts = rw b.starts tt;
          home_is = asked;
          task = rw m.answer.phase u.task;
          positive = rw b.starts u.positive;
          parent = λ above e. parent performs above (rw m.answer.performer at e);
          sequence_spare = ready.has_room.sequence_spare;
          start_records = ready.has_room.start_records;
          agenda_spare = ready.has_room.agenda_spare;
        };
        made_is = ap (λ (n : ℕ). Started n) number;
        who_is = ap (λ (h : ℕ). Some (who.Sequence h id)) (started-at (nodes_of history) (sequences_of history) (performer_of history) pending.stored_act b.asked b.name b.on b.priority u.home b.starts u.home_is) ∙ ap (λ (n : ℕ). Some (who.Sequence u.home n)) number;
      })
    where
      parent : (pending.stored_act ≡ test_creation script) ⊎ IsThere log.entries (performer_of log.entries) → (above : ℕ) → sequence_in (performer_of log.entries) ≡ Some above → IsSome (numbered services.sequences.started above)
      parent (inl opens) above e = let clash = sym b.starts ∙ opens in cc
      parent (inr there) above e =
          let p = there-begun log.entries (performer_of log.entries) above there e in
          rw (m.sequencing.started, numbered-map (λ (b : StartRecord). b.start) (starts_of log.entries) above) (parent-found (numbered (starts_of log.entries) above) p.start_record p.found)

  pub makeable : (need : needs.Need) (made : Outcome) → need ≡ pending.need → (pending.stored_act ≡ test_creation script) ⊎ IsThere log.entries (performer_of log.entries) → IsMadeBy script log.entries need made pending.stored_act → IsMakeable log.entries services pending.stored_act pending.home pending.need.type_name need made
  makeable need (Made type_name) same performs makes = created need type_name same makes
  makeable need (Started id) same performs makes = begun need id performs makes
  makeable need made same performs makes = absurd makes

-- what is made ends no sequence
pub made-leaves : (services : Services) (type_name : List ℕ) (home : Option ℕ) (performer : Who) → leaving_after performer (outcome_made services type_name home) ≡ []
made-leaves services type_name None performer = refl
made-leaves services type_name (Some home) performer = refl
