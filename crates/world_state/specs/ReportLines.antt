-- The transcript lines of reports, as a report site writes them.
use Rattle.std.specs.Prelude.{ℕ, List, Some}
use Rattle.uvm_report.specs.Lines.{report_line}
use Rattle.uvm_report.specs.declared.messages.Report.{Report}
use Rattle.uvm_tree.specs.Nodes.{path_at}
use Rattle.uvm_acts.specs.Acts.{node_of}
use Rattle.uvm_acts.specs.declared.acts.Who.{Who}
use Rattle.uvm_acts.specs.declared.acts.Act.{Act}
use Rattle.uvm_object.specs.declared.entries.Outcome.{Outcome}
use Rattle.uvm_object.specs.declared.fatals.Fatal.{Fatal}
use Rattle.uvm_object.specs.Fatals.{fatal_report}
use Rattle.uvm_object.specs.Sources.{shown_path, source_text}
use Rattle.bench_history.specs.Reports.{line_under, outcome_command}
use Rattle.world_state.specs.declared.report_lines.ReportSite.{ReportSite}

-- the text of a component or sequence as the source of a report
abbrev pub source_at : ReportSite → Who → List ℕ
source_at site who = source_text site.tree.now.nodes site.sequences.now.started who

-- the line of a report from a source
abbrev pub line_at : ReportSite → List ℕ → Report → List ℕ
line_at site source report = report_line site.severity site.time source report.id report.text

-- the line of the report of an action; empty if its outcome has no report
abbrev pub act_line : ReportSite → Who → Outcome → Act → List ℕ
act_line site who outcome act = line_under site.time (source_at site who) (outcome_command (path_at site.tree.now.nodes (node_of who)) outcome act) (Some site.severity)

-- the line of the report of a note at a node
abbrev pub note_line : ReportSite → Fatal → ℕ → List ℕ
note_line site fatal node = line_at site (shown_path (path_at site.tree.now.nodes node)) (fatal_report fatal)
