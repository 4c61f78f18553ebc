use Rattle.script_jobs.proofs.Common.{◌≡◌, drop, unknown_types}
use Rattle.script_jobs.proofs.answers.unknown_type.Given as goal

-- the script has each type before the place
abbrev pub invariant-loop-rules : goal.invariant-loop-rules
invariant-loop-rules l = unknown_types l.answers l.script.types ≡ unknown_types (drop l.rules-index l.rules-items) l.script.types
