use Rattle.std.proofs.Common.{sym, subst, ◌∙◌}
use Rattle.bench_history.specs.Next.{IsLegal}
use Rattle.bench_core.specs.Cores.{CoreValue}
use Rattle.bench_core.proofs.NextTurns.{told-there, next-there, next-over, next-room}
use Rattle.bench_core.proofs.cores.Core.turn_on.Goals as goal

pub returns-in-Some-clause-asked : goal.returns-in-Some-clause-asked
returns-in-Some-clause-asked g c =
    let told = rw (← c.self.view_is) at (sym c.turn.ensures ∙ c.in-Some.is) in
    rw (← c.self.view_is) (told-there c.asked_are_there.ensures _ _ _ c.in-Some.turn c.log-log.ensures.legal c.self.invariant.comes told)

pub returns-in-Good-clause-asked : goal.returns-in-Good-clause-asked
returns-in-Good-clause-asked g c =
    let legal = subst (λ (core : CoreValue). IsLegal core.script core.history) c.self.view_is c.log-log.ensures.legal in
    next-there c.asked_are_there.ensures c.args.self.now c.go_on.new.self c.go_on.result legal c.go_on.ensures.turn

pub returns-in-Good-clause-over : goal.returns-in-Good-clause-over
returns-in-Good-clause-over g c =
    let legal = subst (λ (core : CoreValue). IsLegal core.script core.history) c.self.view_is c.log-log.ensures.legal in
    next-over c.something_before_over.ensures c.args.self.now c.go_on.new.self c.go_on.result legal c.go_on.ensures.turn

pub returns-in-Good-clause-room : goal.returns-in-Good-clause-room
returns-in-Good-clause-room g c = next-room c.args.self.now c.go_on.new.self c.go_on.result c.go_on.ensures.turn
