use Rattle.script_jobs.proofs.Common.{◌∙◌, sym, unknown_types}
use Rattle.script_jobs.proofs.Firsts.{none_first}
use Rattle.script_jobs.proofs.answers.declared.Goals as goal

-- there is no first of them
pub returns-in-None-clause-known : goal.returns-in-None-clause-known
returns-in-None-clause-known c = none_first (unknown_types c.args.answers c.args.script.now.types) (sym c.unknown_type.ensures ∙ c.in-None.is)
