use Rattle.uvm_report.proofs.Common.{◌≡◌, ◌++◌, flat_map, id_line, ArePlainLines}
use Rattle.uvm_report.proofs.lines.push_id_counts.Given as goal

-- the lines of the ids that are left complete the text, and if they are lines of a transcript, so are all
abbrev pub invariant-loop-id : goal.invariant-loop-id
invariant-loop-id l =
    (l.text.items ++ flat_map id_line l.id-iterator ≡ l.initial.text.items ++ flat_map id_line l.ids.entries)
    × (ArePlainLines (flat_map id_line l.id-iterator) → ArePlainLines (flat_map id_line l.ids.entries))
