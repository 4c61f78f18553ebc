use Rattle.world_services.proofs.Common.{w64, ◌∙◌, to_z-of_z, precedence_of}
use mir.Val.{SFits}
use Rattle.world_services.proofs.Configured.{settings-more}
use Rattle.world_services.proofs.settings.set.Goals as goal

pub returns-in-Ok : goal.returns-in-Ok
returns-in-Ok c = λ given s.
    let fits : SFits w64 c.args.value = c.ranges.value in
    settings-more (record { scope = c.args.scope; field = c.args.field; precedence = precedence_of c.args.building c.args.depth; value = c.args.value }) c.answers_are_given.ensures (λ path asked. c.in-Ok.ensures.answers path asked ∙ simp to_z-of_z) c.in-Ok.ensures.accepted s
