use Rattle.bench_run.proofs.Common.{Appends, ◌≡◌, ◌<◌, ◌-◌, true, length, log_limit, IsLegal, Good, AreKept, MayGive, AreDrawn, HaveFewLines, transcript, TookMore}
use Rattle.bench_run.proofs.running.run_to_end.Given as goal

-- the text of the log so far was written, one for each entry, which has room where the kernel has failed; its words were drawn, and its objects have
-- lived
abbrev pub invariant-loop-kernel : goal.invariant-loop-kernel
invariant-loop-kernel g l = record {
  good : l.kernel.core.health ≡ Good;
  script : l.kernel.core.script ≡ l.fn.kernel.core.script;
  legal : IsLegal l.kernel.core.script l.kernel.core.history;
  room : l.kernel.failed ≡ true → length l.kernel.core.history < log_limit l.fn.kernel.core.script;
  drawn : AreDrawn g.R.Rng.stream l.kernel.core.history l.fn.words l.words;
  objects : AreKept g.O.UvmObject.view g.O.UvmObject.name g.O.UvmObject.says (MayGive g.F.Fn l.fn.make) l.kernel;
  wrote : Appends (g.S.Sink.contents l.fn.out) (g.S.Sink.contents l.out) (transcript l.trace l.fn.kernel.core.script l.kernel.core.history);
  lines : HaveFewLines l.trace l.fn.kernel.core.script l.kernel.core.history;
  took : TookMore (length l.kernel.core.history) (g.S.Sink.taken l.fn.out) (g.S.Sink.taken l.out);
  steady : g.S.Sink.refuses l.out → g.S.Sink.refuses l.fn.out;
}

-- the log grows
abbrev pub decreases-loop-kernel : goal.decreases-loop-kernel
decreases-loop-kernel g l = log_limit l.fn.kernel.core.script - length l.kernel.core.history
