use Rattle.script_seeds.proofs.Made.{MadeSome}
use Rattle.script_seeds.proofs.runs.run_all.Given as goal

abbrev pub invariant-loop-number : goal.invariant-loop-number
invariant-loop-number g l = MadeSome l.bench l.seeds.first l.number (g.W.Write.contents l.initial.out) (g.W.Write.contents l.out) l.tally
