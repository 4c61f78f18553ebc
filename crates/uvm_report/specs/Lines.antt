-- The line of a report, and the summary.
use Rattle.std.specs.Prelude.{ℕ, List, [], ◌∷◌, ◌++◌, ◌==◌, codes, if◌then◌else◌}
use Rattle.std.specs.List.{flat_map}
use Rattle.std.specs.Fmt.{decimal}
use Rattle.uvm_report.specs.declared.severities.Severity.{Severity}
use Rattle.uvm_report.specs.declared.severities.Severity.TheVariants.{Info, Warning, Error, Fatal}
use Rattle.uvm_report.specs.Severities.{severity_text}
use Rattle.uvm_report.specs.Counts.{Counts, number_of}

-- a text with a newline
abbrev pub line : List ℕ → List ℕ
line text = text ++ 10 ∷ []

-- the line of a report: `SEVERITY @ TIME: SOURCE [ID] TEXT`
unfoldable pub report_line : Severity → ℕ → List ℕ → List ℕ → List ℕ → List ℕ
report_line severity time source id text =
    line (severity_text severity ++ codes " @ " ++ decimal time ++ codes ": " ++ source ++ codes " [" ++ id ++ codes "] " ++ text)

-- the line of the summary for a severity: `SEVERITY : COUNT`
unfoldable pub severity_line : Counts → Severity → List ℕ
severity_line counts severity = line (severity_text severity ++ codes " : " ++ decimal (number_of counts severity))

-- all severities, in the order of the summary
abbrev pub severities : List Severity
severities = Info ∷ Warning ∷ Error ∷ Fatal ∷ []

-- the line of the summary for an id: `[ID] COUNT`
unfoldable pub id_line : List ℕ × ℕ → List ℕ
id_line counted = line (codes "[" ++ counted.0 ++ codes "] " ++ decimal counted.1)

-- the line of the summary for the quit count: `Quit count : COUNT of LIMIT`, empty if there is no limit
unfoldable pub limit_line : ℕ → ℕ → List ℕ
limit_line limit quit = if limit == 0 then [] else line (codes "Quit count : " ++ decimal quit ++ codes " of " ++ decimal limit)

-- the summary at the end of a run: the quit count if there is a limit, and the counts by severity and by id
unfoldable pub summary_text : ℕ → Counts → List ℕ
summary_text limit counts =
    line (codes "--- UVM Report Summary ---")
    ++ limit_line limit counts.quit
    ++ line (codes "** Report counts by severity")
    ++ flat_map (severity_line counts) severities
    ++ line (codes "** Report counts by id")
    ++ flat_map id_line counts.ids
