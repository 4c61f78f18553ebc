use Rattle.uvm_tree.proofs.Common.{rules, Some, subst, seen, ChildrenValue, GivesNextChild}
use Rattle.uvm_tree.proofs.Left.{fewer_left, gives_next_child}
use Rattle.uvm_tree.proofs.children.ChildrenIterator.next.Goals as goal

pub returns-clause-steps : goal.returns-clause-steps
returns-clause-steps c =
    let child = c.in_ok-child.child in
    let gives = gives_next_child c.self.inside.cursor (Some child) c.pass.new.self c.next_child.ensures.nodes c.in_ok-child.ensures.next c.pass.ensures in
    subst (λ (s : ChildrenValue). GivesNextChild s (Some child) (seen c.pass.new.self)) c.self.view_is gives

pub returns-clause-goes : goal.returns-clause-goes
returns-clause-goes c =
    let child = c.in_ok-child.child in
    let gives = gives_next_child c.self.inside.cursor (Some child) c.pass.new.self c.next_child.ensures.nodes c.in_ok-child.ensures.next c.pass.ensures in
    let from_self = subst (λ (s : ChildrenValue). GivesNextChild s (Some child) (seen c.pass.new.self)) c.self.view_is gives in
    record {
      on = λ _. (tt, search rules, fewer_left c.args.self.now child (seen c.pass.new.self) from_self);
      keeps = tt;
      rests = λ _. tt;
    }
