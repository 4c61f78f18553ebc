use Rattle.std.proofs.Common.{rules, ◌∙◌}
use Rattle.std.proofs.lemmas.Result.{on_ok_weaker, on_err_weaker}
use Rattle.uvm_config.proofs.Asked.{answers-changed, answers-first, fields-same}
use Rattle.uvm_config.proofs.fields.add.Goals as goal

-- a field that has settings
pub returns-in-Some-clause-answers : goal.returns-in-Some-clause-answers
returns-in-Some-clause-answers c =
    let writes = c.get_mut.follows.holds c.add.new.self in
    on_ok_weaker c.add.result
    (answers-changed c.args.fields.now.entries (c.get_mut.follows.lender c.add.new.self).entries c.args.scope c.args.field c.args.resource.precedence c.args.resource.value c.in-Some.settings.now c.add.new.self c.in-Some.ensures.value (writes.3 (search rules)).0)
    c.add.ensures.answers

pub returns-in-Some-clause-unchanged : goal.returns-in-Some-clause-unchanged
returns-in-Some-clause-unchanged c =
    let writes = c.get_mut.follows.holds c.add.new.self in
    on_err_weaker c.add.result
    (λ same. writes.0 ∙ fields-same c.args.fields.now.entries c.args.field c.in-Some.settings.now c.add.new.self c.in-Some.ensures.value same)
    c.add.ensures.unchanged

-- a field that has none
pub returns-in_ok-insert-in-None-clause-answers : goal.returns-in_ok-insert-in-None-clause-answers
returns-in_ok-insert-in-None-clause-answers c =
    let updates = rw c.get_mut.follows.holds-at-none at c.in_ok-insert-in-None.ensures.updates in
    answers-first c.args.fields.now.entries c.insert.new.self.entries c.args.scope c.args.field c.args.resource.precedence c.args.resource.value c.add-in-None.new.self c.in-None.ensures.value updates.0 (rw c.new-settings.ensures at c.in_ok-add-in-None.ensures.answers)
