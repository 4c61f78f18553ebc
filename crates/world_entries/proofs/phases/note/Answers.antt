use Rattle.world_entries.proofs.Common.{refl, rules, Note, later}
use Rattle.world_entries.proofs.phases.note.Goals as goal

pub returns : goal.returns
returns c = λ place script history coming m.
    let stays = c.wiring_stays.ensures script history (Note c.args.fatal c.args.node) (rw coming.next refl) in
    let report_state = rw (c.in_ok-report.ensures, m.tree) at (c.in_ok-report_at.ensures.ok _ _ m.report_state) in
    rw c.in_ok-report_at.ensures.rest (search (rules, later))
