use Rattle.uvm_tlm.proofs.Common.{nat_eq, take, ap, sym, ◌∙◌, fold_more, insert_key, insert_all}
use Rattle.uvm_tlm.proofs.graphs.insert_all.Goals as goal

pub loop-node-preserved : goal.loop-node-preserved
loop-node-preserved c =
    c.in_ok-insert.ensures.keys
    ∙ ap (λ keys. insert_key nat_eq keys c.node-item.result) c.loop-node.invariant
    ∙ ap (insert_key nat_eq (insert_all nat_eq c.args.set.now.keys (take c.loop-node.node-index c.args.nodes.now))) c.node-item.is
    ∙ sym (fold_more (insert_key nat_eq) c.args.set.now.keys c.args.nodes.now c.loop-node.node-index c.node-item.result c.loop-node-test.true)
