use Rattle.std.proofs.Common.{option_copied}
use Rattle.script_seeds.proofs.Made.{runs-of-document}
use Rattle.script_seeds.proofs.runs.run_seeds.Goals as goal

-- by the law of benches that were read
pub returns-in-Ok-run_all-clause-ok : goal.returns-in-Ok-run_all-clause-ok
returns-in-Ok-run_all-clause-ok g c =
    let contents = g.W.Write.contents in
    runs-of-document c.args.bytes.now (option_copied c.args.test) c.in-Ok.bench c.args.seeds.first c.args.seeds.count (contents c.args.out.now) (contents c.run_all.new.out) c.in-Ok-run_all.status
    c.bench_runs_are_runs.ensures c.in-Ok.ensures.ok c.in-Ok-run_all.ensures.ok
