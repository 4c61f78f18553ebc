use Rattle.uvm_tlm.proofs.Common.{◌≡◌, ◌∙◌, true, sym, list_of, is_connected}
use Rattle.uvm_tlm.proofs.Noted.{made_noted, not-new, start_known, start_noted}
use Rattle.uvm_tlm.proofs.graphs.starts.Goals as goal
use Rattle.uvm_tlm.proofs.graphs.starts.Goals.{then-branch+in_ok-push, else-branch}

pub loop-connection-preserved : goal.loop-connection-preserved
loop-connection-preserved c =
    let connections = c.args.connections.now in
    let i = c.loop-connection.connection-index in
    let item = c.connection-item.result in
    let keys = c.loop-connection.made.keys in
    record {
      noted = elim c.if-branch.branch [
        | then-branch+in_ok-push w ↦ rw w.starts-is (start_noted connections i item (list_of c.loop-connection.starts) (list_of w.push.new.self) c.loop-connection-test.true c.connection-item.is w.in_ok-push.ensures c.loop-connection.invariant.noted)
        | else-branch w ↦
            let held : is_connected keys item.from item.to ≡ true = not-new c.in_ok-insert.field-0 (is_connected keys item.from item.to) c.in_ok-insert.ensures.added w.if-branch.false in
            rw w.starts-is (start_known connections i item (list_of c.loop-connection.starts) c.loop-connection-test.true c.connection-item.is (sym (c.loop-connection.invariant.made item.from item.to) ∙ held) c.loop-connection.invariant.noted)
      ];
      made = made_noted connections keys c.insert.new.self.keys i item c.loop-connection-test.true c.connection-item.is c.in_ok-insert.ensures.keys c.loop-connection.invariant.made;
    }
