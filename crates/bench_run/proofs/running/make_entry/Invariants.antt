use Rattle.bench_run.proofs.Common.{◌≡◌, length, AreKept, MayGive, HasTold}
use Rattle.bench_run.proofs.running.make_entry.Given as goal

-- those who have ended were told, and nothing else changed
abbrev pub invariant-loop-kernel : goal.invariant-loop-kernel
invariant-loop-kernel g l = record {
  told : HasTold l.fn.kernel l.kernel;
  words : l.words ≡ l.fn.words;
  objects : AreKept g.O.UvmObject.view g.O.UvmObject.name g.O.UvmObject.says (MayGive g.F.Fn l.fn.make) l.fn.kernel
      → AreKept g.O.UvmObject.view g.O.UvmObject.name g.O.UvmObject.says (MayGive g.F.Fn l.fn.make) l.kernel;
}

-- one less is to be told
abbrev pub decreases-loop-kernel : goal.decreases-loop-kernel
decreases-loop-kernel g l = length l.kernel.core.leaving
