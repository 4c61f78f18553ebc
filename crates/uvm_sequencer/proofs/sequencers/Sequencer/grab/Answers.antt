use Rattle.uvm_sequencer.proofs.Common.{◌≤◌, ◌+◌, length, arith, common_steps, lock_request}
use Rattle.uvm_sequencer.proofs.Waiting.{room-first}
use Rattle.uvm_sequencer.proofs.sequencers.Sequencer.grab.Goals as goal

pub invariant_of-self-2 : goal.invariant_of-self-2
invariant_of-self-2 c =
    let room : length c.self.inside.queue + 1 ≤ c.reserve.new.self.spare =
    grind (arith, common_steps, c.in_ok-reserve.ensures.ok, c.len.ensures.count) in
    record { room = rw c.in_ok-put_grab.ensures.ok (room-first c.self.inside.queue (lock_request c.args.seq) c.reserve.new.self.spare room) }
