use Rattle.script_jobs.proofs.Common.{◌≡◌, drop, bare_types}
use Rattle.script_jobs.proofs.answers.bare_type.Given as goal

-- each type before the place has an object
abbrev pub invariant-loop-row : goal.invariant-loop-row
invariant-loop-row l = bare_types l.answers l.script.types ≡ bare_types l.answers (drop l.row-index l.row-items)
