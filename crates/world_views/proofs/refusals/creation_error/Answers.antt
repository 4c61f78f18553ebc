use Rattle.bench_history.specs.History.{overrides_of}
use Rattle.world_services.specs.Creations.{creation_in}
use Rattle.world_services.proofs.Creating.{creation_error-why}
use Rattle.world_views.proofs.refusals.creation_error.Goals as goal

pub returns : goal.returns
returns c =
    let m = c.services.ensures in
    let services = c.services.result.now in
    let script = c.args.world.now.script in
    let history = c.args.world.now.history in
    rw (← m.built, ← m.tree, c.err.ensures.value)
    (creation_error-why script.types (overrides_of script history) m.factory (λ types overrides. creation_in types overrides services c.args.performer.now c.args.type_name.now c.args.name.now) c.args.type_name.now c.args.name.now c.what_is_created.result c.what_is_created.ensures.ok c.what_is_created.ensures.err)
