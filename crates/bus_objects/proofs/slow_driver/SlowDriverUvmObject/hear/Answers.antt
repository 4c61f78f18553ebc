use Rattle.bus_objects.proofs.Common.{rules}
use Rattle.bus_objects.proofs.Shown.{items_show_themselves}
use Rattle.bus_objects.proofs.slow_driver.SlowDriverUvmObject.hear.Goals as goal

pub returns-in-Wake-clause-said : goal.returns-in-Wake-clause-said
returns-in-Wake-clause-said c = rw (items_show_themselves c.args.self.now.item) (search rules)

pub returns-in_default-clause-said : goal.returns-in_default-clause-said
returns-in_default-clause-said c = rw (items_show_themselves c.args.self.now.item) (search rules)
