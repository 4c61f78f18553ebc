use Rattle.std.proofs.Common.{rules, ◌∙◌}
use Rattle.std.proofs.lemmas.Result.{on_ok_weaker, on_err_weaker}
use Rattle.uvm_factory.proofs.Standings.{steps-changed, steps-first, standings-same}
use Rattle.uvm_factory.proofs.standing.add.Goals as goal

-- a type that has overrides
pub returns-in-Some-clause-steps : goal.returns-in-Some-clause-steps
returns-in-Some-clause-steps c =
    let writes = c.get_mut.follows.holds c.add.new.self in
    on_ok_weaker c.add.result
    (steps-changed c.args.standings.now.entries (c.get_mut.follows.lender c.add.new.self).entries c.args.given c.in-Some.standing.now c.add.new.self (rw c.original-original.ensures at c.in-Some.ensures.value) (rw c.original-original.ensures at (writes.3 (search rules)).0))
    c.add.ensures.steps

pub returns-in-Some-clause-unchanged : goal.returns-in-Some-clause-unchanged
returns-in-Some-clause-unchanged c =
    let writes = c.get_mut.follows.holds c.add.new.self in
    on_err_weaker c.add.result
    (λ same. writes.0 ∙ standings-same c.args.standings.now.entries c.original-original.result c.in-Some.standing.now c.add.new.self c.in-Some.ensures.value same)
    c.add.ensures.unchanged

-- a type that has none
pub returns-in_ok-insert-in-None-clause-steps : goal.returns-in_ok-insert-in-None-clause-steps
returns-in_ok-insert-in-None-clause-steps c =
    let updates = rw c.get_mut.follows.holds-at-none at c.in_ok-insert-in-None.ensures.updates in
    steps-first c.args.standings.now.entries c.insert.new.self.entries c.args.given c.new-standing.result c.add-in-None.new.self (rw c.original-original.ensures at c.in-None.ensures.value) (rw c.original-original.ensures at updates.0) c.new-standing.ensures c.in_ok-add-in-None.ensures.steps
