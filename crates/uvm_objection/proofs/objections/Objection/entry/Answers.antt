use Rattle.uvm_objection.proofs.Common.{◌≡◌, ◌∙◌, sym, ap, subst, true, arith, is_known, ObjectionValue, AreNodes}
use Rattle.uvm_objection.proofs.Objecting.{entries_of, are_nodes}
use Rattle.uvm_objection.proofs.Places.{place_within}
use Rattle.uvm_objection.proofs.Finding.{found_node, found_kept, found_at, found_top}
use Rattle.uvm_objection.proofs.objections.Objection.entry.Goals as goal

pub index-requires : goal.index-requires
index-requires c =
    let o = c.self.inside in
    let low = place_within c.args.node o.entries.items c.in-Some.place.now (sym (c.self.invariant.placed c.args.node) ∙ sym c.in-Some.ensures.value) in
    omega (arith, low)

pub returns-in-Some-clause-node : goal.returns-in-Some-clause-node
returns-in-Some-clause-node c =
    let o = c.self.inside in
    rw (← c.self.view_is)
    (found_node c.args.node (entries_of o) c.index.result.now (found_at o c.args.node c.in-Some.place.now c.index.result.now c.self.invariant c.in-Some.ensures.value c.index.ensures))

pub returns-in-Some-clause-total : goal.returns-in-Some-clause-total
returns-in-Some-clause-total c =
    let o = c.self.inside in
    rw (← c.self.view_is)
    (found_kept o c.args.node c.index.result.now c.self.invariant (found_at o c.args.node c.in-Some.place.now c.index.result.now c.self.invariant c.in-Some.ensures.value c.index.ensures))

pub returns-in-Some-clause-nodes : goal.returns-in-Some-clause-nodes
returns-in-Some-clause-nodes c = let N : ObjectionValue → Type 0 = λ v. AreNodes v.nodes in subst N c.self.view_is (are_nodes c.self.inside c.self.invariant)

pub returns-in-None-clause-node : goal.returns-in-None-clause-node
returns-in-None-clause-node c =
    let o = c.self.inside in
    let known : is_known c.args.node c.args.self.now.nodes ≡ true = c.requires in
    let yes = ap (λ (v : ObjectionValue). is_known c.args.node v.nodes) c.self.view_is ∙ known in
    rw (← c.self.view_is) (found_node c.args.node (entries_of o) o.top (found_top o c.args.node c.self.invariant c.in-None.ensures.value yes))

pub returns-in-None-clause-total : goal.returns-in-None-clause-total
returns-in-None-clause-total c =
    let o = c.self.inside in
    let known : is_known c.args.node c.args.self.now.nodes ≡ true = c.requires in
    let yes = ap (λ (v : ObjectionValue). is_known c.args.node v.nodes) c.self.view_is ∙ known in
    rw (← c.self.view_is) (found_kept o c.args.node o.top c.self.invariant (found_top o c.args.node c.self.invariant c.in-None.ensures.value yes))

pub returns-in-None-clause-nodes : goal.returns-in-None-clause-nodes
returns-in-None-clause-nodes c = let N : ObjectionValue → Type 0 = λ v. AreNodes v.nodes in subst N c.self.view_is (are_nodes c.self.inside c.self.invariant)
