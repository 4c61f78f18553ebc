use Rattle.world_acts_sequencers.proofs.Common.{◌∙◌, ap, is_some, sym, option_and_then, reached_at, reached_in}
use Rattle.world_acts_sequencers.proofs.Driven.{driving-nowhere, driving-outside}
use Rattle.world_acts_sequencers.proofs.drivers.reached_through.Goals as goal

pub returns-then-not-in_task : goal.returns-then-not-in_task
returns-then-not-in_task c = λ refusal. driving-outside c.args.services.now.answer.phase (is_some (reached_in c.args.services.now c.args.name.now)) refusal (sym c.in_task.ensures ∙ c.if-not-in_task.true)

pub returns-in-None : goal.returns-in-None
returns-in-None c =
    let services = c.args.services.now in
    let found = ap (option_and_then (reached_at services.wiring services.arbiters)) (sym c.port_below-port.ensures) ∙ sym c.reached_at.ensures ∙ c.in-None.is in
    λ refusal. driving-nowhere services.answer.phase (is_some (reached_in services c.args.name.now)) refusal (sym c.in_task.ensures ∙ c.if-not-in_task.false) (ap is_some found)
