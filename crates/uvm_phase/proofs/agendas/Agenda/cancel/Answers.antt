use Rattle.uvm_phase.proofs.Common.{◌≡◌, true, None, rules, owners_of}
use Rattle.uvm_phase.proofs.Owning.{counted-left, nothing-due}
use Rattle.uvm_phase.proofs.Places.{left-in-order}
use Rattle.uvm_phase.proofs.agendas.Agenda.cancel.Goals as goal

pub invariant_of-self : goal.invariant_of-self
invariant_of-self g c = (left-in-order _ c.self.inside.dues.items c.take_out_owner.new.dues.items c.self.invariant.0 c.take_out_owner.ensures.left, c.count_anew.ensures)

pub invariant_of-self-in-Some : goal.invariant_of-self-in-Some
invariant_of-self-in-Some g c =
    let items = c.self.inside.dues.items in
    let left = c.take_out_owned.ensures.left in (
      left-in-order _ items c.take_out_owned.new.dues.items c.self.invariant.0 left,
      counted-left g.O.PartialEq.eq c.take.new.self c.args.owner.now items c.take_out_owned.new.dues.items left (c.take.ensures.left (owners_of items) c.self.invariant.1),
    )

pub returns-in_default-clause-dues : goal.returns-in_default-clause-dues
returns-in_default-clause-dues g c =
    let items = c.self.inside.dues.items in
    let complete : c.self.inside.owners.complete ≡ true = search rules in
    let none : c.take.result ≡ None = search rules in
    let counts = c.take.ensures.count (owners_of items) c.self.invariant.1 complete in
    rw (← c.self.view_is) (nothing-due g.O.PartialEq.eq c.args.owner.now items c.take.result none counts)

pub invariant_of-self-in_default : goal.invariant_of-self-in_default
invariant_of-self-in_default g c =
    let items = c.self.inside.dues.items in
    let complete : c.self.inside.owners.complete ≡ true = search rules in
    let none : c.take.result ≡ None = search rules in
    let counts = c.take.ensures.count (owners_of items) c.self.invariant.1 complete in
    let left = nothing-due g.O.PartialEq.eq c.args.owner.now items c.take.result none counts in
    (c.self.invariant.0, counted-left g.O.PartialEq.eq c.take.new.self c.args.owner.now items items left (c.take.ensures.left (owners_of items) c.self.invariant.1))
