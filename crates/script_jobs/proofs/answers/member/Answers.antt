use Rattle.script_jobs.proofs.Common.{table_get, codes}
use Rattle.script_jobs.proofs.answers.member.Goals as goal

-- what the map of the table finds
pub returns : goal.returns
returns c = table_get c.get.result (codes "answers") c.args.root.now.entries c.get.ensures.value
