use Rattle.world_entries.proofs.making.make.Goals as goal

pub returns-in-None-clause-kept : goal.returns-in-None-clause-kept
returns-in-None-clause-kept c = rw c.in-None.is (c.grow-node.ensures.kept c.args.type_name c.args.place)
