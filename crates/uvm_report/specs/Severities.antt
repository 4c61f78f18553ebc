-- Severities and their default actions.
use Rattle.std.specs.Prelude.{ℕ, Bool, true, false, not, ◌||◌, ◌==◌, ◌++◌, List, codes}
use Rattle.uvm_report.specs.declared.severities.Severity.{Severity}
use Rattle.uvm_report.specs.declared.severities.Severity.TheVariants.{Info, Warning, Error, Fatal}
use Rattle.uvm_report.specs.declared.severities.Actions.{Actions}

-- the position of a severity among all severities, from 0
abbrev pub severity_number : Severity → ℕ
severity_number Info = 0
severity_number Warning = 1
severity_number Error = 2
severity_number Fatal = 3

-- whether two severities are the same
abbrev pub same_severity : Severity → Severity → Bool
same_severity a b = severity_number a == severity_number b

-- the default actions for reports of a severity
abbrev pub default_actions : Severity → Actions
default_actions Error = record { display = true; count = true; exit = false }
default_actions Fatal = record { display = true; count = false; exit = true }
default_actions severity = record { display = true; count = false; exit = false }

-- whether a set of actions is empty
abbrev pub is_empty : Actions → Bool
is_empty actions = not (actions.display || actions.count || actions.exit)

-- the name of a severity without its prefix
abbrev pub severity_name : Severity → List ℕ
severity_name Info = codes "INFO"
severity_name Warning = codes "WARNING"
severity_name Error = codes "ERROR"
severity_name Fatal = codes "FATAL"

-- a severity as it is printed
abbrev pub severity_text : Severity → List ℕ
severity_text severity = codes "UVM_" ++ severity_name severity
