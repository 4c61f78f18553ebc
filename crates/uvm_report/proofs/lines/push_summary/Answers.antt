use Rattle.uvm_report.proofs.Common.{◌≡◌, ℕ, List, ◌++◌, codes, append_assoc, flat_map, line, limit_line, severity_line, severities, id_line, summary_text}
use Rattle.uvm_report.proofs.lines.push_summary.Goals as goal

-- one part after another
parts : (out heading limit by_severity numbers by_id ids : List ℕ) → (((((out ++ heading) ++ limit) ++ by_severity) ++ numbers) ++ by_id) ++ ids ≡ out ++ (heading ++ limit ++ by_severity ++ numbers ++ by_id ++ ids)
parts out heading limit by_severity numbers by_id ids = simp append_assoc

pub returns-clause-text : goal.returns-clause-text
unfolding summary_text
returns-clause-text c =
    rw (c.in_ok-push_id_counts.ensures.text, c.in_ok-extend_from_slice-3.ensures.items, c.in_ok-push_severity_counts.ensures.text, c.in_ok-extend_from_slice-2.ensures.items, c.in_ok-push_limit.ensures.text, c.in_ok-extend_from_slice.ensures.items, c.quit.ensures, c.ids.ensures)
    (parts c.args.text.now.items (line (codes "--- UVM Report Summary ---")) (limit_line c.args.quit_limit c.args.tally.now.counts.quit) (line (codes "** Report counts by severity"))
    (flat_map (severity_line c.args.tally.now.counts) severities) (line (codes "** Report counts by id")) (flat_map id_line c.args.tally.now.counts.ids))
