use Rattle.std.proofs.Common.{◌∙◌}
use Rattle.world_views.proofs.services.fifo.Goals as goal

pub returns : goal.returns
returns c = c.fifo_at.ensures ∙ c.services.ensures.fifo_states.each c.args.node
