use Rattle.bus_objects.proofs.memory.Memory.hear.Goals as goal
use Rattle.bus_objects.proofs.Common.{rules}
use Rattle.bus_objects.proofs.Shown.{memories_show_themselves}

pub returns-clause-ok : goal.returns-clause-ok
returns-clause-ok c = rw (memories_show_themselves c.args.self.now) (search rules)
