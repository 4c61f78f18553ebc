use Rattle.script_jobs.proofs.Common.{◌≡◌, rules, Ok, table_view, words_of_seed, took-nothing-of, HasBench, IsScriptRun, RanTo, script_to_run, option_copied}
use Rattle.script_jobs.proofs.Ran.{ended-of, verdict-to}
use Rattle.script_jobs.proofs.ReadRuns.{room-of}
use Rattle.script_jobs.proofs.runs.run_tree.Goals as goal

-- by the result of the run over the script and the answers of the bench
pub returns-clause-run : goal.returns-clause-run
returns-clause-run g c =
    let contents = g.S.Sink.contents in
    let ended = c.run_objects-ended.result.0 in
    let script = c.into_parts-script.result.0 in
    let answers = c.into_parts-script.result.1 in
    let bench : HasBench (table_view c.args.root.now) (option_copied c.args.test) script answers = rw c.into_parts-script.ensures.script (rw c.into_parts-script.ensures.answers c.in-Ok.ensures.ok) in
    let run : IsScriptRun answers (words_of_seed c.args.seed) script c.args.trace (contents c.args.out.now) (contents c.run_objects-ended.new.out) ended =
    search (rules, c.run_objects-ended.ensures.run, c.seed_from_u64-words.ensures) in
    let ran : RanTo (table_view c.args.root.now) (option_copied c.args.test) (words_of_seed c.args.seed) c.args.trace (contents c.args.out.now) (contents c.run_objects-ended.new.out) ended = record {
      script = script;
      types = answers;
      bench = bench;
      run = run;
    } in
    verdict-to (table_view c.args.root.now) (option_copied c.args.test) (words_of_seed c.args.seed) c.args.trace (contents c.args.out.now) (contents c.run_objects-ended.new.out) ended c.verdict_on.result ran c.verdict_on.ensures

-- the core has the log of that run
pub returns-clause-ended : goal.returns-clause-ended
returns-clause-ended g c =
    let contents = g.S.Sink.contents in
    let script = c.into_parts-script.result.0 in
    let answers = c.into_parts-script.result.1 in
    let bench : HasBench (table_view c.args.root.now) (option_copied c.args.test) script answers = rw c.into_parts-script.ensures.script (rw c.into_parts-script.ensures.answers c.in-Ok.ensures.ok) in
    rw c.ended_run.ensures
    (ended-of (table_view c.args.root.now) (option_copied c.args.test) script answers c.args.trace (contents c.args.out.now) (contents c.run_objects-ended.new.out) c.run_objects-ended.result.0 c.verdict_on.result
    bench c.verdict_on.ensures c.run_objects-ended.result.1 c.run_objects-ended.ensures.core)

-- the verdict on a document without a bench
pub returns-in-Err-clause-run : goal.returns-in-Err-clause-run
returns-in-Err-clause-run g c = c.in-Err.ensures.err (words_of_seed c.args.seed) c.args.trace (g.S.Sink.contents c.args.out.now)

-- nothing was written before the first entry
pub returns-in-Err-clause-room : goal.returns-in-Err-clause-room
returns-in-Err-clause-room g c = λ same. took-nothing-of (script_to_run (table_view c.args.root.now) (option_copied c.args.test)) (g.S.Sink.taken c.args.out.now)

-- the log was not full
pub returns-clause-room : goal.returns-clause-room
returns-clause-room g c =
    let asked : script_to_run (table_view c.args.root.now) (option_copied c.args.test) ≡ Ok c.into_parts-script.result.0 = rw c.into_parts-script.ensures.script c.in-Ok.ensures.ok.asked in
    room-of (script_to_run (table_view c.args.root.now) (option_copied c.args.test)) c.into_parts-script.result.0 c.run_objects-ended.result.0 c.verdict_on.result (g.S.Sink.taken c.args.out.now) (g.S.Sink.taken c.run_objects-ended.new.out) asked
    c.verdict_on.ensures c.run_objects-ended.ensures.texts
