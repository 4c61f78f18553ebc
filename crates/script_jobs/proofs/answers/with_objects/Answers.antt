use Rattle.script_jobs.proofs.Common.{◌∙◌, sym, bare_types}
use Rattle.script_jobs.proofs.Firsts.{none_first}
use Rattle.script_jobs.proofs.answers.with_objects.Goals as goal

-- there is no first of them
pub returns-in-None-clause-objects : goal.returns-in-None-clause-objects
returns-in-None-clause-objects c = none_first (bare_types c.args.answers c.args.script.now.types) (sym c.bare_type.ensures ∙ c.in-None.is)
