use Rattle.bus_objects.proofs.Common.{rules}
use Rattle.bus_objects.proofs.Shown.{scores_show_themselves}
use Rattle.bus_objects.proofs.bus_scoreboard.BusScoreboardUvmObject.hear.Goals as goal

pub returns-clause-said : goal.returns-clause-said
returns-clause-said c = rw (scores_show_themselves c.args.self.now.score) (search rules)
