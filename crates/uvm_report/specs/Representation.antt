-- The stored data of a report server, and the results that contracts see.
use Rattle.std.specs.Prelude.{ℕ, Bool, List}
use Rattle.uvm_glob.specs.Paths.{path_text}
use Rattle.uvm_report.specs.declared.severities.Severity.{Severity}
use Rattle.uvm_report.specs.declared.severities.Actions.{Actions}
use Rattle.uvm_report.specs.ChosenValue.{Lookup}
use Rattle.uvm_report.specs.Settings.{Setting, choice_among}
use Rattle.uvm_report.specs.Counts.{Counts, can_count}

-- the settings of each kind, newest first, the quit limit, the counts, and the number of further ids that can be counted without an
-- allocation
pub record Representation : Type 0 where
  pub severities : List (Setting Severity)
  pub levels : List (Setting ℕ)
  pub actions : List (Setting Actions)
  pub limit : ℕ
  pub counts : Counts
  pub spare : ℕ

-- the severity chosen at a path, for reports of each severity and id
unfoldable pub severity_at : Representation → List (List ℕ) → Lookup Severity
severity_at kept path = choice_among kept.severities (path_text path)

-- the verbosity level chosen at a path, for reports of each severity and id
unfoldable pub level_at : Representation → List (List ℕ) → Lookup ℕ
level_at kept path = choice_among kept.levels (path_text path)

-- the actions chosen at a path, for reports of each severity and id
unfoldable pub actions_at : Representation → List (List ℕ) → Lookup Actions
actions_at kept path = choice_among kept.actions (path_text path)

-- the quit limit, 0 for none
unfoldable pub limit_of : Representation → ℕ
limit_of kept = kept.limit

-- the counts of issued reports
unfoldable pub counts_of : Representation → Counts
counts_of kept = kept.counts

-- whether an id can be counted without an allocation
unfoldable pub has_room : Representation → List ℕ → Bool
has_room kept id = can_count kept.counts kept.spare id
