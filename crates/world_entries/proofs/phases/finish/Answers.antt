use Rattle.world_entries.proofs.Common.{refl, rules, Over, later, phase_cursors-over}
use Rattle.world_entries.proofs.phases.finish.Goals as goal

pub returns : goal.returns
returns c = λ reason place script history coming m.
    let stays = c.wiring_stays.ensures script history (Over reason) (rw coming.next refl) in
    let phase_cursors = phase_cursors-over m.phase_cursors in
    search (rules, later)
