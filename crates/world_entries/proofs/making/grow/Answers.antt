use Rattle.world_entries.proofs.Common.{◌≡◌, ℕ, true, ◌<◌, arith, List, [], ◌∷◌, ◌++◌, length, ap, refl, sym, ◌∙◌, rules, Component, child, node_of, Phase, is_task, nodes_of, created_name, performer_of, due_events, given_below, objections_of, with_new, events-all, held-made, length-snoc, acted, objectings-more, building-open, connecting-grown, phase_cursors-made, path_order, passing_at, AreToSettle, GrantIndex, known_at, arbitrating-grown, none-locked, none-served, settled-all, fifos_to_settle-none}
use Rattle.uvm_objection.specs.Nodes as objection
use Rattle.world_entries.proofs.making.grow.Goals as goal

pub returns-clause-kept : goal.returns-clause-kept
returns-clause-kept c = λ type_name place. record {
  same_answer = refl;
  with_entry = λ script history s.
      let m = s.known in
      let left = s.left in
      let made = child (nodes_of history) (node_of c.args.services.now.answer.performer) (created_name c.args.act.now) Component in
      let tree = rw (c.node-parent.ensures, c.created_name-name.ensures, m.tree) at c.in-Ok.ensures.nodes in
      let grown = rw (tree, c.in-Ok.ensures.id, m.tree) at c.make.ensures in
      let phase_cursors = phase_cursors-made made m.phase_cursors grown in
      let performer = node_of c.args.services.now.answer.performer in
      let longer = length-snoc (nodes_of history) made in
      let speaks : node_of (performer_of history) < length (nodes_of history ++ made ∷ []) = omega (arith, m.speaks, longer) in
      let below : performer < length (nodes_of history) = rw m.answer.performer m.speaks in
      let given : Phase → ℕ = λ phase. given_below script phase history c.args.services.now.answer.performer (created_name c.args.act.now) in
      let is = λ (phase : Phase) (task : is_task phase ≡ true). rw (c.node-parent.ensures, c.created_name-name.ensures, m.tree, m.objections.given) at (c.in-Ok.ensures.objections phase task) in
      let nodes : Phase → List objection.Node = λ phase. with_new performer (given phase) (objections_of script phase history) in
      let events = events-all (λ phase. objections_of script phase history) nodes (due_events script history) (λ phase node at. held-made performer (given phase) node at (objections_of script phase history)) m.events in
      let open_ = building-open c.args.services.now.wiring m.closing (sym m.built ∙ c.requires.building) in
      let connecting = connecting-grown made open_ m.connecting in
      let objections = objectings-more c.add_node.new.objections performer given c.places_stay.ensures c.nodes_grow.ensures below m.objections longer c.in-Ok.ensures.given is in
      let fifos_to_settle : AreToSettle (passing_at history) (path_order (nodes_of history ++ made ∷ [])) c.clear.new.self.items = rw c.clear.ensures.items (fifos_to_settle-none (path_order (nodes_of history ++ made ∷ [])) (settled-all history m.fifos_to_settle s.settled.unpassed)) in
      let arbitrating = arbitrating-grown {after = c.close.new.self} (nodes_of history ++ made ∷ []) (omega (arith, longer)) c.close.ensures.nodes (λ n. ap (λ (one : GrantIndex). known_at one n) c.close.ensures.rest) (none-locked history m.arbitrating.contested_is s.settled.unlocked) (none-served history m.arbitrating.contested_is s.settled.unserved) m.arbitrating in
      search (rules, acted);
}
