use Rattle.std.specs.Prelude.{if◌then◌else◌}
use Rattle.std.proofs.Common.{Bool, false, refl, subst, sym, true}
use Rattle.rand_core.specs.Stream.{Stream}
use Rattle.bench_script.specs.Scripts.{ScriptValue}
use Rattle.script_values.specs.declared.faults.ScriptFault.{ScriptFault}
use Rattle.bench_run.specs.declared.run_results.RunResult.{RunResult}
use Rattle.script_input.specs.Scripts.{words_of_seed}
use Rattle.bus_jobs.proofs.Common.{◌≡◌, ℕ, List, Option, Result, Ok, is_clean, option_copied, took-nothing-of, script_to_run, Clean, Faulty, IsBenchRun, IsBusRun, Verdict}
use Rattle.bus_jobs.proofs.runs.run_bench.Goals as goal

pub returns-in-Err-Memory-clause-room : goal.returns-in-Err-Memory-clause-room
returns-in-Err-Memory-clause-room g c = λ same. took-nothing-of (script_to_run c.args.bytes.now (option_copied c.args.test)) (g.S.Sink.taken c.args.out.now)

-- the verdict on a run that has ended
judged : (asked : Result ScriptValue ScriptFault) (words : Stream) (trace : Bool) (old new : Option (List ℕ)) (script : ScriptValue) (run_result : RunResult) (clean : Bool) → is_clean run_result ≡ clean → asked ≡ Ok script
    → IsBusRun words script trace old new (Ok run_result) → IsBenchRun asked words trace old new (if clean then Clean else Faulty)
judged asked words trace old new script run_result true is given run = (script, given, run_result, is, run)
judged asked words trace old new script run_result false is given run = (script, given, run_result, is, run)

pub returns-in-Ok-run_objects-clause-run : goal.returns-in-Ok-run_objects-clause-run
returns-in-Ok-run_objects-clause-run g c =
    let asked = script_to_run c.args.bytes.now (option_copied c.args.test) in
    subst (IsBenchRun asked (words_of_seed c.args.seed) c.args.trace (g.S.Sink.contents c.args.out.now) (g.S.Sink.contents c.run_objects.new.out)) (sym c.verdict_on.ensures)
    (judged asked (words_of_seed c.args.seed) c.args.trace (g.S.Sink.contents c.args.out.now) (g.S.Sink.contents c.run_objects.new.out) c.in-Ok.script c.in-Ok-run_objects.run_result (is_clean c.in-Ok-run_objects.run_result) refl c.in-Ok.ensures.ok
    (rw c.seed_from_u64-words.ensures at c.in-Ok-run_objects.ensures.run))
