use Rattle.script_jobs.proofs.Common.{option_copied, table_view}
use Rattle.script_jobs.proofs.ReadRuns.{no-answers, no-script}
use Rattle.script_jobs.proofs.benches.Bench.of_tree.Goals as goal

-- the script has a fault
pub returns-in-Err-clause-err : goal.returns-in-Err-clause-err
returns-in-Err-clause-err c = no-script (table_view c.args.root.now) (option_copied c.args.test) c.in-Err.fault c.reported.result c.in-Err.ensures.err c.reported.ensures

-- the answers are rejected
pub returns-in-Err-answers_in-clause-err : goal.returns-in-Err-answers_in-clause-err
returns-in-Err-answers_in-clause-err c = no-answers (table_view c.args.root.now) (option_copied c.args.test) c.in-Ok.script c.in-Err-answers_in.verdict c.in-Ok.ensures.ok c.in-Err-answers_in.ensures.err
