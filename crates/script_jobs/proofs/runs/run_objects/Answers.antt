use Rattle.script_jobs.proofs.Common.{subst, run-as, name_of, says_of, view_of, GivesNamed}
use Rattle.script_jobs.proofs.runs.run_objects.Goals as goal

-- the closure gives what the document says
pub returns-clause-run : goal.returns-clause-run
returns-clause-run g c =
    let left = g.R.Rng.stream c.run_to_core.new.words in
    let types = c.args.answers.now in
    (left, run-as view_of name_of says_of _ (GivesNamed types) (λ type_name given gives. subst (λ name. GivesNamed types name given) gives.shows gives.says.met) (g.R.Rng.stream c.args.words.now) left c.args.script c.args.trace _ _ c.run_to_core.result.0 c.run_to_core.ensures.run)
