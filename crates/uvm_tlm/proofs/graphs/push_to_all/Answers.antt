use Rattle.uvm_tlm.proofs.Common.{length, get_or, ap, ◌∙◌, arith, list_of}
use Rattle.uvm_tlm.proofs.Noted.{element_noted}
use Rattle.uvm_tlm.proofs.graphs.push_to_all.Goals as goal

pub loop-node-preserved : goal.loop-node-preserved
loop-node-preserved c =
    let items = c.as_slice-node-items.ensures.keys in
    element_noted c.args.nodes.now.keys c.loop-node.node-index c.node-item.result c.args.element (list_of c.args.lists.now) (list_of c.loop-node.lists) (list_of c.push.new.self)
    c.as_slice-node-items.ensures.unique (omega (arith, ap length items)) (c.node-item.is ∙ ap (λ l. get_or l c.loop-node.node-index c.node-item.result) items)
    c.in_ok-push.ensures c.loop-node.invariant
