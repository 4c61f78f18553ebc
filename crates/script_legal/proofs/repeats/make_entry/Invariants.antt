use Rattle.std.proofs.Common.{◌≡◌, length}
use Rattle.script_legal.proofs.repeats.make_entry.Given as goal

-- only ended sequences were told
abbrev pub invariant-loop-core : goal.invariant-loop-core
invariant-loop-core l = l.core ≡ record l.fn.core { leaving = l.core.leaving }

-- one less is to be told
abbrev pub decreases-loop-core : goal.decreases-loop-core
decreases-loop-core l = length l.core.leaving
