use Rattle.world_entries.proofs.Common.{sym, ◌∙◌, closed-here}
use Rattle.world_entries.proofs.performing.perform.Goals as goal

pub returns-then-not-is_open_to : goal.returns-then-not-is_open_to
returns-then-not-is_open_to c = closed-here _ _ _ c.args.act.now c.args.place (sym c.is_open_to.ensures ∙ c.if-not-is_open_to.true) c.refused.ensures.act_result c.refused.ensures.services
