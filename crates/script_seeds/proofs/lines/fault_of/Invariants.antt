use Rattle.std.proofs.Common.{◌≡◌, ◌==◌, None, length, take}
use Rattle.std.specs.Prelude.{find}
use Rattle.std.specs.List.{slice_split}
use Rattle.script_seeds.specs.SeedRuns.{is_fault_line}
use Rattle.script_seeds.proofs.lines.fault_of.Given as goal

-- none of the lines so far
abbrev pub invariant-loop-line : goal.invariant-loop-line
invariant-loop-line l = find is_fault_line (take (length l.yielded) (slice_split (λ byte. byte == 10) l.output)) ≡ None
