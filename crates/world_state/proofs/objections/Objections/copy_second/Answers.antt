use Rattle.world_state.proofs.Common.{◌∙◌, List, ap, get_or, ObjectionValue, ObjectionsValue, nodes_at}
use Rattle.world_state.proofs.Listed.{second-copied}
use Rattle.world_state.proofs.objections.Objections.copy_second.Goals as goal

pub returns-clause-nodes : goal.returns-clause-nodes
returns-clause-nodes c = λ place.
    let second = c.in-Some.second.now in
    let found = c.in-Some.ensures.lookup.1 ∙ ap (λ (objections : List ObjectionValue). get_or objections 1 second) c.deref.ensures.value in
    ap (λ (objections : List ObjectionValue). nodes_at objections place) c.in_ok-push.ensures.items
    ∙ second-copied c.self.inside.each.items second c.in_ok-copied.copied c.self.invariant.least found c.in_ok-copied.ensures place
    ∙ ap (λ (o : ObjectionsValue). nodes_at o.each place) c.self.view_is
