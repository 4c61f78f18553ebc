use Rattle.uvm_tree.proofs.Common.{◌∷◌, rules, IsPartitionPoint-from_clause, is_in_front}
use Rattle.uvm_tree.proofs.Standing.{in_front_parts}
use Rattle.uvm_tree.proofs.families.Families.count_in_front.Goals as goal

pub returns-clause-parts : goal.returns-clause-parts
returns-clause-parts c =
    let s = c.args.self.now in
    let nodes = s.top.now ∷ s.nodes.now in
    IsPartitionPoint-from_clause (is_in_front nodes (c.args.parent, c.args.name.now)) s.order.now c.partition_point.result c.partition_point.ensures.partitioned (in_front_parts nodes s.order.now c.requires (c.args.parent, c.args.name.now)) (λ a r q k. search rules)
