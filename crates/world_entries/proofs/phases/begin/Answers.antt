use Rattle.world_entries.proofs.Common.{refl, rules, stage_of, Begin, later, phase_cursors-begun}
use Rattle.world_entries.proofs.phases.begin.Goals as goal

pub returns : goal.returns
returns c = λ place script history coming m.
    let stays = c.wiring_stays.ensures script history (Begin c.args.phase) (rw coming.next refl) in
    let phase_cursors = phase_cursors-begun (stage_of history) c.args.phase c.begin.ensures m.phase_cursors (c.phases_begin_behind.ensures script history c.args.phase coming.next) in
    search (rules, later)
