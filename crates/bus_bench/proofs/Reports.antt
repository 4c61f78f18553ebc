-- A report whose output was flushed.
use Rattle.std.proofs.Common.{◌≡◌, ◌⊎◌, ℕ, Bool, List, [], Option, Result, Ok, Err, OnErr, OnOk, inl, inr}
use Rattle.std.specs.Io.KnownBytes.{Keeps}
use Rattle.std.proofs.KnownBytes.{Appends-kept, Keeps-trans}
use Rattle.uvm_object.specs.declared.entries.Entry.{Entry}
use Rattle.bench_run.specs.declared.run_results.RunResult.{RunResult}
use Rattle.script_values.specs.declared.faults.ScriptFault.{ScriptFault}
use Rattle.bench_script.specs.Scripts.{ScriptValue}
use Rattle.rand_core.specs.Stream.{Stream}
use Rattle.bench_run.specs.Running.{LeavesRun, WroteLog}
use Rattle.bench_run.specs.declared.faults.RunFault.{RunFault}
use Rattle.bench_run.specs.declared.faults.RunFault.TheVariants as ran
use Rattle.bus_jobs.specs.Commands.{Asked, debug, run}
use Rattle.bus_jobs.specs.Debugging.{BrokeOff, IsDebugRun}
use Rattle.bus_bench.specs.Program.{IsJobDone, IsJobOn, IsWork}
use Rattle.bus_jobs.specs.Runs.{IsBenchRun, IsBusRun, script_to_run}
use Rattle.script_input.specs.Scripts.{words_of_seed}
use Rattle.bus_jobs.specs.Verdicts.{unflushed}
use Rattle.script_input.specs.declared.breakages.Breakage.{Breakage}
use Rattle.script_input.specs.declared.breakages.Breakage.TheVariants.{Memory, LogFull, Output, Unread}
use Rattle.bus_jobs.specs.declared.verdicts.Verdict.{Verdict}
use Rattle.bus_jobs.specs.declared.verdicts.Verdict.TheVariants.{Clean, Faulty, Refused, Broken}

-- what was written stays written

broke_off-kept : (lines : List (List ℕ)) (old mid new : Option (List ℕ)) (breakage : Breakage) → BrokeOff lines old mid breakage → Keeps mid new → BrokeOff lines old new breakage
broke_off-kept lines old mid new Memory (n, wrote) kept = (n, Appends-kept old mid new _ wrote kept)
broke_off-kept lines old mid new LogFull broke kept = broke
broke_off-kept lines old mid new Output broke kept = broke
broke_off-kept lines old mid new Unread broke kept = broke

debug_run-kept : (bytes : List ℕ) (old mid new : Option (List ℕ)) (verdict : Verdict) → IsDebugRun bytes old mid verdict → Keeps mid new → IsDebugRun bytes old new verdict
debug_run-kept bytes old mid new Clean done kept = (done.0, Appends-kept old mid new _ done.1 kept)
debug_run-kept bytes old mid new Faulty done kept = done
debug_run-kept bytes old mid new (Refused fault) done kept = (done.0, done.1, Keeps-trans old mid new done.2 kept)
debug_run-kept bytes old mid new (Broken breakage) done kept = broke_off-kept _ old mid new breakage done kept

wrote_log-kept : (script : ScriptValue) (trace : Bool) (old mid new : Option (List ℕ)) (history : List Entry) (more : List ℕ) → WroteLog script trace old mid history more → Keeps mid new → WroteLog script trace old new history more
wrote_log-kept script trace old mid new history more log kept = record { legal = log.legal; lines = log.lines; wrote = Appends-kept old mid new _ log.wrote kept }

leaves_run-kept : (script : ScriptValue) (trace : Bool) (history : List Entry) (old mid new : Option (List ℕ)) (result : Result RunResult RunFault) → LeavesRun script trace history old mid result → Keeps mid new → LeavesRun script trace history old new result
leaves_run-kept script trace history old mid new (Ok run_result) ran kept = (ran.0, wrote_log-kept script trace old mid new history _ ran.1 kept)
leaves_run-kept script trace history old mid new (Err ran.Memory) broke kept = record {
  unwritten = broke.unwritten;
  written = broke.written;
  log = broke.log;
  newest_alone = broke.newest_alone;
  lost = broke.lost;
  room = broke.room;
  wrote = wrote_log-kept script trace old mid new broke.written [] broke.wrote kept;
}
leaves_run-kept script trace history old mid new (Err ran.LogFull) broke kept = (broke.0, broke.1, wrote_log-kept script trace old mid new history [] broke.2 kept)
leaves_run-kept script trace history old mid new (Err ran.Output) broke kept = broke
leaves_run-kept script trace history old mid new (Err ran.NoTest) broke kept = (broke.0, broke.1, Keeps-trans old mid new broke.2 kept)

run-kept : (words : Stream) (script : ScriptValue) (trace : Bool) (old mid new : Option (List ℕ)) (result : Result RunResult RunFault) → IsBusRun words script trace old mid result → Keeps mid new → IsBusRun words script trace old new result
run-kept words script trace old mid new result left kept =
    (left.0, record { history = left.1.history; legal = left.1.legal; leaves = leaves_run-kept script trace left.1.history old mid new result left.1.leaves kept; words = left.1.words; given = left.1.given; objects = left.1.objects })

bench_run-kept : (asked : Result ScriptValue ScriptFault) (words : Stream) (trace : Bool) (old mid new : Option (List ℕ)) (verdict : Verdict) → IsBenchRun asked words trace old mid verdict → Keeps mid new → IsBenchRun asked words trace old new verdict
bench_run-kept asked words trace old mid new Clean done kept = (done.0, done.1, done.2, done.3, run-kept words done.0 trace old mid new (Ok done.2) done.4 kept)
bench_run-kept asked words trace old mid new Faulty done kept = (done.0, done.1, done.2, done.3, run-kept words done.0 trace old mid new (Ok done.2) done.4 kept)
bench_run-kept asked words trace old mid new (Refused fault) done kept = (done.0, done.1, Keeps-trans old mid new done.2 kept)
bench_run-kept asked words trace old mid new (Broken breakage) (inl none) kept = inl (none.0, Keeps-trans old mid new none.1 kept)
bench_run-kept asked words trace old mid new (Broken breakage) (inr done) kept = inr (done.0, done.1, done.2, done.3, run-kept words done.0 trace old mid new (Err done.2) done.4 kept)

pub work-kept : (asked : Asked) (bytes : List ℕ) (old mid new : Option (List ℕ)) (verdict : Verdict) → IsWork asked bytes old mid verdict → Keeps mid new → IsWork asked bytes old new verdict
work-kept (debug file) bytes old mid new verdict done kept = debug_run-kept bytes old mid new verdict done kept
work-kept (run trace seed test file) bytes old mid new verdict done kept = bench_run-kept (script_to_run bytes test) (words_of_seed seed) trace old mid new verdict done kept

-- the verdict is that on the work, or that on output that could not be flushed
pub flushed_or_not : {E : Type 0} (flush : Result (Unit {0}) E) (done verdict : Verdict) → OnOk flush (verdict ≡ done) → OnErr flush (verdict ≡ unflushed done) → (verdict ≡ done) ⊎ (verdict ≡ unflushed done)
flushed_or_not (Ok u) done verdict ok err = inl ok
flushed_or_not (Err e) done verdict ok err = inr err

-- what is said of the bytes of a file is said of some
pub done_of : (asked : Asked) (file old new : Option (List ℕ)) (verdict : Verdict) → IsJobOn asked file old new verdict → IsJobDone asked old new verdict
done_of asked file old new verdict (inl unread) = inl unread
done_of asked file old new verdict (inr done) = inr (done.0, done.2)
