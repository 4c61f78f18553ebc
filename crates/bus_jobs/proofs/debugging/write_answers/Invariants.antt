use Rattle.bus_jobs.proofs.Common.{take, concat, Appends, debug_lines}
use Rattle.bus_jobs.proofs.debugging.write_answers.Given as goal

-- the lines of the probes so far were written
abbrev pub invariant-loop-probe : goal.invariant-loop-probe
invariant-loop-probe g l = record {
  wrote : Appends (g.S.Sink.contents l.fn.out) (g.S.Sink.contents l.out) (concat (take l.probe-index (debug_lines l.script)));
  steady : g.S.Sink.refuses l.out → g.S.Sink.refuses l.fn.out;
}
