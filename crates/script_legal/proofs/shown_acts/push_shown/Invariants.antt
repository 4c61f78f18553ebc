use Rattle.std.proofs.Common.{length}
use Rattle.script_legal.proofs.shown_acts.push_shown.Given as goal

abbrev pub invariant-loop-acts : goal.invariant-loop-acts
invariant-loop-acts l = Unit {0}

-- the text that is left gets shorter
abbrev pub decreases-loop-acts : goal.decreases-loop-acts
decreases-loop-acts l = length l.left
