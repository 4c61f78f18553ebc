use Rattle.std.proofs.Common.{◌≡◌, true, refl, sym, ◌∙◌}
use Rattle.uvm_phase.specs.Phases.{is_task}
use Rattle.world_views.proofs.status.source_in.Goals as goal

pub source-requires : goal.source-requires
source-requires c =
    let m = c.services.ensures in
    let task : is_task c.args.phase ≡ true = sym c.is_task.ensures ∙ c.if-not-is_task.false in
    let kept = m.objections.each c.args.phase task in
    rw kept.are (rw (kept.numbered c.args.node, ← c.is_there.ensures, c.if-not-is_there.false) refl)

pub returns : goal.returns
returns c =
    let m = c.services.ensures in
    let task : is_task c.args.phase ≡ true = sym c.is_task.ensures ∙ c.if-not-is_task.false in
    let kept = m.objections.each c.args.phase task in
    rw (task, ← c.is_there.ensures, c.if-not-is_there.false) (rw kept.are at c.source.ensures)
