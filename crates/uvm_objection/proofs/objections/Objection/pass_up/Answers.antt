use Rattle.uvm_objection.proofs.Common.{◌≡◌, ◌∷◌, map, refl, sym, subst, option_to_list, ObjectionValue, held_of, total, drains_begun, drains_ended, IsWithin, TellsOf, node_of}
use Rattle.uvm_objection.proofs.Objecting.{can_pass, kept_after, nodes_after, begun_after, ended_after, told_after, steady_after}
use Rattle.uvm_objection.proofs.objections.Objection.pass_up.Goals as goal

pub over-requires-clause-walk : goal.over-requires-clause-walk
over-requires-clause-walk c =
    let W : ObjectionValue → Type 0 = λ v. IsWithin c.args.kind (total v.nodes 0) in
    can_pass c.self.inside (record { node = c.args.node; kind = c.args.kind; time = c.args.time }) c.self.invariant (subst W (sym c.self.view_is) c.requires.within) c.requires.time

pub invariant_of-self : goal.invariant_of-self
invariant_of-self c =
    let W : ObjectionValue → Type 0 = λ v. IsWithin c.args.kind (total v.nodes 0) in
    kept_after c.self.inside (record { node = c.args.node; kind = c.args.kind; time = c.args.time }) c.self.invariant (subst W (sym c.self.view_is) c.requires.within) _ c.over.result c.over.ensures.entries c.over.ensures.walk refl

pub returns-clause-nodes : goal.returns-clause-nodes
returns-clause-nodes c =
    let W : ObjectionValue → Type 0 = λ v. IsWithin c.args.kind (total v.nodes 0) in
    rw (← c.self.view_is)
    (nodes_after c.self.inside (record { node = c.args.node; kind = c.args.kind; time = c.args.time }) c.self.invariant (subst W (sym c.self.view_is) c.requires.within) (record { top = c.over.new.top; entries = c.over.new.entries; places = c.self.inside.places }) c.over.result c.over.ensures.entries c.over.ensures.walk)

pub returns-clause-steady : goal.returns-clause-steady
returns-clause-steady c =
    let W : ObjectionValue → Type 0 = λ v. IsWithin c.args.kind (total v.nodes 0) in
    rw (← c.self.view_is)
    (steady_after c.self.inside (record { node = c.args.node; kind = c.args.kind; time = c.args.time }) c.self.invariant (subst W (sym c.self.view_is) c.requires.within) (record { top = c.over.new.top; entries = c.over.new.entries; places = c.self.inside.places }) c.over.result c.over.ensures.entries c.over.ensures.walk)

pub returns-clause-began : goal.returns-clause-began
returns-clause-began c =
    let W : ObjectionValue → Type 0 = λ v. IsWithin c.args.kind (total v.nodes 0) in
    let Told : ObjectionValue → Type 0 = λ v. drains_begun v.nodes (node_of c.over.new.top ∷ map node_of c.over.new.entries.items) ≡ option_to_list c.over.result.began in
    subst Told c.self.view_is
    (begun_after c.self.inside (record { node = c.args.node; kind = c.args.kind; time = c.args.time }) c.self.invariant (subst W (sym c.self.view_is) c.requires.within) (record { top = c.over.new.top; entries = c.over.new.entries; places = c.self.inside.places }) c.over.result c.over.ensures.entries c.over.ensures.walk)

pub returns-clause-ended : goal.returns-clause-ended
returns-clause-ended c =
    let W : ObjectionValue → Type 0 = λ v. IsWithin c.args.kind (total v.nodes 0) in
    let Told : ObjectionValue → Type 0 = λ v. drains_ended v.nodes (node_of c.over.new.top ∷ map node_of c.over.new.entries.items) ≡ option_to_list c.over.result.ended in
    subst Told c.self.view_is
    (ended_after c.self.inside (record { node = c.args.node; kind = c.args.kind; time = c.args.time }) c.self.invariant (subst W (sym c.self.view_is) c.requires.within) (record { top = c.over.new.top; entries = c.over.new.entries; places = c.self.inside.places }) c.over.result c.over.ensures.entries c.over.ensures.walk)

pub returns-clause-told : goal.returns-clause-told
returns-clause-told c =
    let W : ObjectionValue → Type 0 = λ v. IsWithin c.args.kind (total v.nodes 0) in
    let Told : ObjectionValue → Type 0 = λ v. TellsOf c.args.kind c.args.node (held_of c.args.node v.nodes) c.over.result in
    subst Told c.self.view_is
    (told_after c.self.inside (record { node = c.args.node; kind = c.args.kind; time = c.args.time }) c.self.invariant (subst W (sym c.self.view_is) c.requires.within) (record { top = c.over.new.top; entries = c.over.new.entries; places = c.self.inside.places }) c.over.result c.over.ensures.entries c.over.ensures.walk)
