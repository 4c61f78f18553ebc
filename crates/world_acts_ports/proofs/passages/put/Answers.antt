use Rattle.world_acts_ports.proofs.Common.{◌≡◌, Some, None, is_some, refl, rules, Put, act_phase, fifo_port_below, passing_refusal, acted, refused-here}
use Rattle.uvm_tlm.specs.declared.ends.PortKind.TheVariants as through
use Rattle.world_acts_ports.proofs.FifoPorts.{fifo_port-open, open-does, open-refuses, put-kept}
use Rattle.world_acts_ports.proofs.passages.put.Goals as goal

pub returns-in-Err : goal.returns-in-Err
returns-in-Err c =
    let performer = c.args.services.now.answer.performer in
    let why = c.in-Err.ensures in
    refused-here _ _ _ (Put c.args.name.now c.args.item) c.in-Err.fatal c.args.place c.refused.ensures.act_result c.refused.ensures.services (λ script history m.
    let refuses : passing_refusal (act_phase history) (is_some (fifo_port_below history performer through.Put c.args.name.now)) ≡ Some c.in-Err.fatal = open-refuses m c.requires through.Put c.args.name.now c.in-Err.fatal why in
    rw refuses refl)

pub returns : goal.returns
returns c =
    let performer = c.args.services.now.answer.performer in
    let found = c.in-Ok.ensures in
    rw (c.done.ensures.act_result, c.done.ensures.services) (record {
      comes = λ script history s.
          let g = fifo_port-open s c.requires found in
          let does : passing_refusal (act_phase history) (is_some (fifo_port_below history performer through.Put c.args.name.now)) ≡ None = open-does g in
          rw does refl;
      kept = record {
        same_answer = refl;
        with_entry = λ script history s.
            let m = s.known in
            let left = s.left in
            let g = fifo_port-open s c.requires found in
            let k = put-kept s c.args.item c.ask_put.new.fifo_states g (rw c.requester-requester.ensures at c.in_ok-ask_put.ensures) c.in_ok-set_fifo_to_settle.ensures in
            let fifo_states = k.fifo_states_are in
            let passed = k.passed in
            let fifos_to_settle = k.fifos_to_settle_are in
            search (rules, acted);
      };
    })
