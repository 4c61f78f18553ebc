use Rattle.uvm_tlm.proofs.Common.{◌≤◌, length, ap, sym, ◌∙◌, arith, take_all, list_of, has, targets_in}
use Rattle.uvm_tlm.proofs.Noted.{no_targets, target_noted, no_target_noted}
use Rattle.uvm_tlm.proofs.graphs.Graph.targets.Goals as goal
use Rattle.uvm_tlm.proofs.graphs.Graph.targets.Goals.{then-is_target+in_ok-sources+in_ok-push_to_all, else-is_target}

pub loop-target-init : goal.loop-target-init
loop-target-init c n = c.new-targets.ensures n ∙ sym (no_targets c.args.self.now.ends c.args.self.now.connections n)

pub loop-target-preserved : goal.loop-target-preserved
loop-target-preserved c n = elim c.if-is_target.branch [
  | then-is_target+in_ok-sources+in_ok-push_to_all w ↦
      ap (λ l. list_of l n) w.targets-is
      ∙ w.in_ok-push_to_all.ensures n
      ∙ target_noted c.args.self.now.ends c.args.self.now.connections c.args.order.now c.loop-target.target-index n c.target-item.result
      (list_of c.loop-target.targets n) (has w.in_ok-sources.sources.keys n) c.loop-target-test.true c.target-item.is
      (sym c.is_target.ensures ∙ w.if-is_target.true) (w.in_ok-sources.ensures n) (c.loop-target.invariant n)
  | else-is_target w ↦
      ap (λ l. list_of l n) w.targets-is
      ∙ no_target_noted c.args.self.now.ends c.args.self.now.connections c.args.order.now c.loop-target.target-index n c.target-item.result
      (list_of c.loop-target.targets n) c.loop-target-test.true c.target-item.is
      (sym c.is_target.ensures ∙ w.if-is_target.false) (c.loop-target.invariant n)
]

pub returns : goal.returns
returns c n =
    let all : length c.args.order.now ≤ c.loop-target.target-index = omega arith in
    c.loop-target.invariant n ∙ ap (λ order. targets_in c.args.self.now.ends c.args.self.now.connections order n) (take_all c.loop-target.target-index c.args.order.now all)
