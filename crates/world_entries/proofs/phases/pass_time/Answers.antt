use Rattle.world_entries.proofs.Common.{◌≤◌, ◌^◌, refl, rules, Time, later}
use Rattle.world_entries.proofs.phases.pass_time.Goals as goal

pub returns : goal.returns
returns c = λ place script history coming m.
    let stays = c.wiring_stays.ensures script history (Time c.args.time) (rw coming.next refl) in
    let early : c.args.time ≤ 10 ^ 18 = c.requires in
    search (rules, later)
