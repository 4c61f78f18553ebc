use Rattle.world_state.proofs.report_state.given_report_state.Goals as goal

pub returns : goal.returns
returns c =
    let limited = rw c.quit_limit.ensures at (c.set_quit_limit.ensures _ _ c.new-report_state.ensures) in
    let levels = rw c.verbosities.ensures.verbosities at (c.in_ok-set_verbosities.ensures _ limited) in
    let actions = rw c.actions.ensures at (c.in_ok-set_actions.ensures _ levels) in
    rw c.severities.ensures at (c.in_ok-change_severities.ensures _ actions)
