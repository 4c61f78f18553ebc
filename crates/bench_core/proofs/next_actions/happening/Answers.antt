use Rattle.std.proofs.Common.{Some, refl, ap}
use Rattle.bench_core.specs.Worlds.{WorldValue}
use Rattle.bench_core.proofs.next_actions.happening.Goals as goal

pub returns-in-Some-clause-action : goal.returns-in-Some-clause-action
returns-in-Some-clause-action c = (c.who-who.result, c.in-Some.call, Some c.args.origin, ap (λ (world : WorldValue). world.standing) c.ask.ensures, rw (c.in-Some.is, c.who-who.ensures) refl)
