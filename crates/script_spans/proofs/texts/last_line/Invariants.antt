use Rattle.std.proofs.Common.{◌≡◌, ◌+◌, ◌≤◌, not, ◌==◌, length, take}
use Rattle.std.specs.List.{suffix_len}
use Rattle.script_spans.proofs.texts.last_line.Given as goal

abbrev pub invariant-loop-start : goal.invariant-loop-start
invariant-loop-start l =
    (l.start ≤ length l.bytes)
    × (l.start + suffix_len (λ byte. not (byte == 10)) l.bytes ≡ length l.bytes + suffix_len (λ byte. not (byte == 10)) (take l.start l.bytes))

abbrev pub decreases-loop-start : goal.decreases-loop-start
decreases-loop-start l = l.start
