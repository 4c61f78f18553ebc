use Rattle.uvm_tree.proofs.Common.{◌∷◌, rules, IsPartitionPoint-from_clause, is_upto}
use Rattle.uvm_tree.proofs.Standing.{upto_parts}
use Rattle.uvm_tree.proofs.families.Families.count_upto.Goals as goal

pub returns : goal.returns
returns c =
    let s = c.args.self.now in
    let nodes = s.top.now ∷ s.nodes.now in
    IsPartitionPoint-from_clause (is_upto nodes (c.args.parent, c.args.name.now)) s.order.now c.partition_point.result c.partition_point.ensures.partitioned (upto_parts nodes s.order.now c.requires (c.args.parent, c.args.name.now)) (λ a r q k. search rules)
