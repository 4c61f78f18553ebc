use Rattle.uvm_tlm.proofs.Common.{rules, nat_eq, get}
use Rattle.uvm_tlm.proofs.Lists.{pushed}
use Rattle.uvm_tlm.proofs.node_lists.NodeLists.push.Goals as goal

pub returns-in-Some : goal.returns-in-Some
returns-in-Some c =
    pushed (λ list. list.items) (get nat_eq c.args.self.now.lists) (get nat_eq (c.get_mut.follows.lender c.push.new.self)) c.args.node c.args.element c.push.new.self
    ((c.get_mut.follows.holds c.push.new.self).3 (search rules)).0
    (search rules)

pub returns : goal.returns
returns c =
    pushed (λ list. list.items) (get nat_eq c.args.self.now.lists) (get nat_eq c.insert.new.self) c.args.node c.args.element c.push-2.new.self
    (rw c.get_mut.follows.holds-at-none at c.in_ok-insert.ensures.updates.0)
    (search rules)
