use Rattle.bus_jobs.proofs.Common.{◌≡◌, subst, name_of, object_named, says_of, view_of, GivesNamed, run-as}
use Rattle.bus_jobs.proofs.runs.run_objects.Goals as goal

-- the closure gives what the bench has
pub returns-clause-run : goal.returns-clause-run
returns-clause-run g c =
    let left = g.R.Rng.stream c.run_script.new.words in
    (left, run-as view_of name_of says_of _ GivesNamed (λ type_name given gives. subst (λ name. given ≡ object_named name) gives.shows gives.says.met) (g.R.Rng.stream c.args.words.now) left c.args.script c.args.trace _ _ c.run_script.result c.run_script.ensures.run)
