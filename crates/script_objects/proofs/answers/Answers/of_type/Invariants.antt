use Rattle.script_objects.proofs.Common.{◌≡◌, drop, rules_named}
use Rattle.script_objects.proofs.answers.Answers.of_type.Given as goal

-- no type before the place has the name
abbrev pub invariant-loop-rules : goal.invariant-loop-rules
invariant-loop-rules l = rules_named l.rules-items l.type_name ≡ rules_named (drop l.rules-index l.rules-items) l.type_name
