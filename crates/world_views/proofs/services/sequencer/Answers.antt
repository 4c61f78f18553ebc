use Rattle.std.proofs.Common.{◌∙◌, ap, sym, option_map}
use Rattle.world_sequencing.proofs.Contested.{sequencer-is}
use Rattle.world_sequencing.specs.Arbiters.{ArbiterValue}
use Rattle.world_views.proofs.Lent.{driver-lent, sequencer-lent}
use Rattle.world_views.proofs.services.sequencer.Goals as goal

pub returns-clause-sequencer : goal.returns-clause-sequencer
returns-clause-sequencer c =
    let m = c.services.ensures in
    let n = c.args.node in
    sequencer-lent c.arbiter_at.result ∙ ap (option_map (λ (a : ArbiterValue). a.sequencer)) (c.arbiter_at.ensures ∙ m.arbitrating.arbiters_are.each n) ∙ sym (sequencer-is c.args.world.now.history n)

pub returns-clause-driver : goal.returns-clause-driver
returns-clause-driver c = driver-lent _ c.args.world.now.history c.args.node c.arbiter_at.result (c.arbiter_at.ensures ∙ c.services.ensures.arbitrating.arbiters_are.each c.args.node)
