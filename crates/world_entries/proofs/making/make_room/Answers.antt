use Rattle.world_entries.proofs.Common.{◌≡◌, ◌∙◌, ap, rules, Services}
use Rattle.world_entries.proofs.making.make_room.Goals as goal

-- the report server is as it was before
pub returns-in_err-reserve_id-clause-same : goal.returns-in_err-reserve_id-clause-same
returns-in_err-reserve_id-clause-same c =
    let kept : c.reserve_sequence.new.services.report_state ≡ c.args.services.now.report_state = ap (λ (s : Services). s.report_state) c.in_ok-reserve_sequence.ensures.services ∙ ap (λ (s : Services). s.report_state) c.in_ok-reserve_component.ensures.services in
    let report_state = rw kept at c.reserve_id.ensures.same in
    search (rules, report_state)

pub returns-clause-same : goal.returns-clause-same
returns-clause-same c =
    let kept : c.reserve_sequence.new.services.report_state ≡ c.args.services.now.report_state = ap (λ (s : Services). s.report_state) c.in_ok-reserve_sequence.ensures.services ∙ ap (λ (s : Services). s.report_state) c.in_ok-reserve_component.ensures.services in
    let report_state = rw kept at c.reserve_id.ensures.same in
    search (rules, report_state)
