use Rattle.uvm_report.proofs.Common.{◌≡◌, ◌++◌, take, flat_map, severity_line, ArePlainLines}
use Rattle.uvm_report.proofs.lines.push_severity_counts.Given as goal

-- the lines of the severities so far
abbrev pub invariant-loop-severity : goal.invariant-loop-severity
invariant-loop-severity l =
    (l.text.items ≡ l.initial.text.items ++ flat_map (severity_line l.tally.counts) (take l.severity-index l.severities))
    × ArePlainLines (flat_map (severity_line l.tally.counts) (take l.severity-index l.severities))
