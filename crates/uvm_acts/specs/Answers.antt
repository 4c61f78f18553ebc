-- Actions in terms of the arguments of the functions that append them to an answer.
use Rattle.std.specs.Prelude.{ℕ, List, Option}
use Rattle.uvm_glob.specs.Paths.{names_of}
use Rattle.uvm_report.specs.declared.severities.Severity.{Severity}
use Rattle.uvm_acts.specs.declared.acts.Act.{Act}
use Rattle.uvm_acts.specs.declared.acts.Act.TheVariants.{Connect, Report, Start}

-- the action that connects two ends, given the texts of their paths
abbrev pub connecting : List ℕ → List ℕ → Act
connecting from to = Connect (names_of from) (names_of to)

-- the action that starts a sequence, given the text of the path of its sequencer
abbrev pub starting : List ℕ → List ℕ → List ℕ → Option ℕ → Act
starting type_name name on priority = Start type_name name (names_of on) priority

-- the action that issues a report with this severity, id, text and verbosity
abbrev pub reporting : Severity → List ℕ → List ℕ → ℕ → Act
reporting severity id text verbosity = Report (record { severity = severity; id = id; text = text; verbosity = verbosity })
