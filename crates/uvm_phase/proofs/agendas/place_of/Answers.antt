use Rattle.uvm_phase.proofs.Common.{rules, IsPartitionPoint-from_clause}
use Rattle.uvm_phase.proofs.Places.{is_not_after, is_partitioned, stands-between}
use Rattle.uvm_phase.proofs.agendas.place_of.Goals as goal

pub returns-clause-place : goal.returns-clause-place
returns-clause-place g c =
    let parted = is_partitioned c.args.due.now c.args.dues.now.items c.requires in
    let point = IsPartitionPoint-from_clause (is_not_after c.args.due.now) c.args.dues.now.items c.partition_point.result c.partition_point.ensures.partitioned parted (λ a r q k. search rules) in
    stands-between c.args.due.now c.args.dues.now.items c.partition_point.result point
