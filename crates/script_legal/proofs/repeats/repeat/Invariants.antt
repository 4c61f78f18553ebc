use Rattle.std.proofs.Common.{◌≡◌, ◌++◌, ◌-◌, true, length}
use Rattle.bench_history.specs.Limits.{log_limit}
use Rattle.bench_core.specs.declared.cores.Health.TheVariants.{Good}
use Rattle.bench_run.specs.Running.{transcript}
use Rattle.script_legal.proofs.repeats.repeat.Given as goal

-- the text is that of the log so far, and what is left
abbrev pub invariant-loop-core : goal.invariant-loop-core
invariant-loop-core l = record {
  good : l.core.health ≡ Good;
  script : l.core.script ≡ l.fn.core.script;
  text : l.fn.text ≡ transcript true l.fn.core.script l.core.history ++ l.left;
}

-- the log grows
abbrev pub decreases-loop-core : goal.decreases-loop-core
decreases-loop-core l = log_limit l.fn.core.script - length l.core.history
