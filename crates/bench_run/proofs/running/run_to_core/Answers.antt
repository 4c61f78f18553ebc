use Rattle.bench_run.proofs.Common.{◌≡◌, ◌∙◌, [], ap, arith, lit≤, refl, subst, ScriptValue, IsLegal, KernelValue, HaveLived, MayGive, took-nothing}
use Rattle.bench_run.proofs.Goings.{never-ran}
use Rattle.bench_run.proofs.Lives.{none-lived}
use Rattle.std.proofs.Common.{◌≢◌, ℕ, Bool, true, false, List, Option, Result, Ok, Err, IfErr, IsSome}
use Rattle.uvm_object.specs.declared.entries.Entry.{Entry}
use Rattle.bench_run.specs.Running.{LeavesRun}
use Rattle.bench_run.specs.declared.run_results.RunResult.{RunResult}
use Rattle.bench_run.specs.declared.faults.RunFault.{RunFault}
use Rattle.bench_run.specs.declared.faults.RunFault.TheVariants.{Memory, LogFull, Output, NoTest}
use Rattle.bench_run.proofs.running.run_to_core.Goals as goal

-- a run of a script with a test does not lack it
tested : (script : ScriptValue) (trace : Bool) (history : List Entry) (old new : Option (List ℕ)) (result : Result RunResult RunFault) → LeavesRun script trace history old new result → IsSome script.test
    → IfErr result (λ fault. fault ≢ NoTest)
tested script trace history old new (Ok run_result) leaves some = tt
tested script trace history old new (Err Memory) leaves some = λ same. absurd (cc same)
tested script trace history old new (Err LogFull) leaves some = λ same. absurd (cc same)
tested script trace history old new (Err Output) leaves some = λ same. absurd (cc same)
tested script trace history old new (Err NoTest) leaves some = λ same. let no : false ≡ true = subst (λ test. IsSome test) leaves.0 some in absurd (cc no)

pub returns-clause-tested : goal.returns-clause-tested
returns-clause-tested g c = λ some.
    let script : c.in-Ok.kernel.core.script ≡ c.args.script = ap (λ (k : KernelValue g.row.O.Denot). k.core.script) c.in-Ok.ensures.ok.1 in
    tested c.args.script c.args.trace c.run_kernel-ended.new.kernel.core.history (g.S.Sink.contents c.args.out.now) (g.S.Sink.contents c.run_kernel-ended.new.out) c.run_kernel-ended.result
    (rw script at (c.run_kernel-ended.ensures.run)) some

-- the log is that of the kernel, which is of the script
pub returns-clause-run : goal.returns-clause-run
returns-clause-run g c =
    let script : c.in-Ok.kernel.core.script ≡ c.args.script = ap (λ (k : KernelValue g.row.O.Denot). k.core.script) c.in-Ok.ensures.ok.1 in
    let same : c.run_kernel-ended.new.kernel.core.script ≡ c.args.script = c.run_kernel-ended.ensures.script ∙ script in
    record {
      history = c.run_kernel-ended.new.kernel.core.history;
      legal = subst (λ (s : ScriptValue). IsLegal s c.run_kernel-ended.new.kernel.core.history) same c.log-log.ensures.legal;
      leaves = rw script at (c.run_kernel-ended.ensures.run);
      words = c.run_kernel-ended.ensures.words;
      given = c.run_kernel-ended.ensures.left;
      objects = subst (λ (s : ScriptValue). HaveLived g.O.UvmObject.view g.O.UvmObject.name g.O.UvmObject.says (MayGive g.F.Fn c.args.make) s c.run_kernel-ended.new.kernel.core.history) same c.run_kernel-ended.ensures.objects;
    }

-- there is no log
pub returns-in-Err-clause-run : goal.returns-in-Err-clause-run
returns-in-Err-clause-run g c = record {
  history = [];
  legal = record { each = tt; few = omega arith };
  leaves = never-ran c.args.script c.args.trace (g.S.Sink.contents c.args.out.now);
  words = refl;
  given = record { lost = 0; few = lit≤ tt; left = refl };
  objects = none-lived g.O.UvmObject.view g.O.UvmObject.name g.O.UvmObject.says _ c.args.script;
}

pub returns-in-Err-clause-texts : goal.returns-in-Err-clause-texts
returns-in-Err-clause-texts g c = took-nothing c.args.script (g.S.Sink.taken c.args.out.now)

pub returns-clause-texts : goal.returns-clause-texts
returns-clause-texts g c =
    let script : c.in-Ok.kernel.core.script ≡ c.args.script = ap (λ (k : KernelValue g.row.O.Denot). k.core.script) c.in-Ok.ensures.ok.1 in
    rw script at (c.run_kernel-ended.ensures.texts)

-- the core is that of the kernel
pub returns-clause-core : goal.returns-clause-core
returns-clause-core g c =
    let script : c.in-Ok.kernel.core.script ≡ c.args.script = ap (λ (k : KernelValue g.row.O.Denot). k.core.script) c.in-Ok.ensures.ok.1 in
    let same : c.run_kernel-ended.new.kernel.core.script ≡ c.args.script = c.run_kernel-ended.ensures.script ∙ script in
    rw c.into_core.ensures (record {
      same = same;
      legal = subst (λ (s : ScriptValue). IsLegal s c.run_kernel-ended.new.kernel.core.history) same c.log-log.ensures.legal;
      leaves = rw script at (c.run_kernel-ended.ensures.run);
      sound = c.run_kernel-ended.ensures.sound;
    })
