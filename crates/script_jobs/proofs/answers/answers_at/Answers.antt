use Rattle.script_jobs.proofs.Common.{rules, ◌≡◌, Some, as_table, table_view, view}
use Rattle.script_jobs.proofs.answers.answers_at.Goals as goal

-- they are at fault in their table
pub returns-in-Err-clause-err : goal.returns-in-Err-clause-err
returns-in-Err-clause-err c =
    let is : as_table (view c.args.value.now) ≡ Some (table_view c.in-Some.table.now) = search (rules, c.as_table.ensures) in
    c.refused.ensures (view c.args.value.now) (table_view c.in-Some.table.now) c.args.script.now.types is c.in-Err.ensures.err
