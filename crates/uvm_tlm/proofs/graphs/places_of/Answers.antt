use Rattle.uvm_tlm.proofs.Common.{◌≤◌, ◌∙◌, [], nat_eq, take, length, ap, sym, arith, keys_of, take_all, fold_more, insert_key, insert_all, keys_insert_entry}
use Rattle.uvm_tlm.proofs.Sets.{set-is}
use Rattle.uvm_tlm.proofs.graphs.places_of.Goals as goal

pub loop-node-preserved : goal.loop-node-preserved
loop-node-preserved c =
    ap keys_of c.in_ok-insert.ensures.entries
    ∙ keys_insert_entry nat_eq c.loop-node.places.entries c.node-item.result _
    ∙ ap (λ keys. insert_key nat_eq keys c.node-item.result) c.loop-node.invariant
    ∙ ap (insert_key nat_eq (insert_all nat_eq [] (take c.loop-node.node-index c.args.nodes.now))) c.node-item.is
    ∙ sym (fold_more (insert_key nat_eq) [] c.args.nodes.now c.loop-node.node-index c.node-item.result c.loop-node-test.true)

pub returns : goal.returns
returns c =
    let all : length c.args.nodes.now ≤ c.loop-node.node-index = omega arith in
    c.loop-node.invariant
    ∙ ap (insert_all nat_eq []) (take_all c.loop-node.node-index c.args.nodes.now all)
    ∙ set-is c.args.nodes.now c.requires
