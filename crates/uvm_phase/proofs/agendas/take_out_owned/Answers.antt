use Rattle.uvm_phase.proofs.Common.{◌≡◌, ◌<◌, ◌∙◌, rules, length, filter, deque_len, HasAt}
use Rattle.uvm_phase.proofs.Owning.{times-due, without-only, has-within, removed}
use Rattle.uvm_phase.proofs.agendas.take_out_owned.Goals as goal

pub returns-in-Some-clause-left : goal.returns-in-Some-clause-left
returns-in-Some-clause-left g c =
    let items = c.args.dues.now.items in
    let has : HasAt (λ due. g.O.PartialEq.eq due.owner c.args.owner.now) items c.in-Some.place = c.in-Some.ensures in
    let one : length (filter (λ due. g.O.PartialEq.eq due.owner c.args.owner.now) items) ≡ 1 = times-due g.O.PartialEq.eq c.args.owner.now items ∙ search rules in
    let within : c.in-Some.place < length items = has-within (λ due. g.O.PartialEq.eq due.owner c.args.owner.now) items c.in-Some.place has in
    let gone = removed c.remove.result items c.remove.new.self.items c.in-Some.place (deque_len c.args.dues.now) c.remove.ensures.items c.remove.ensures.variant (search rules) in
    gone ∙ without-only (λ due. g.O.PartialEq.eq due.owner c.args.owner.now) items c.in-Some.place has one
