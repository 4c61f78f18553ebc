-- The numbers of issued reports.
use Rattle.std.specs.Prelude.{◌≡◌, ℕ, ◌+◌, ◌≤◌, Bool, ◌||◌, nat_lt, sum_by, List, [], ◌∷◌, nat_eq, is_some, unwrap_or, if◌then◌else◌}
use Rattle.std.specs.Map.{lookup}
use Rattle.std.specs.Cmp.Lexicographic.{pointwise}
use Rattle.uvm_report.specs.declared.severities.Severity.{Severity}
use Rattle.uvm_report.specs.declared.severities.Severity.TheVariants.{Info, Warning, Error, Fatal}

-- the numbers of issued reports: of each severity, of each id in the order in which the ids were first counted, and of those with the
-- action `count`
pub record Counts : Type 0 where
  pub info : ℕ
  pub warning : ℕ
  pub error : ℕ
  pub fatal : ℕ
  pub ids : List (List ℕ × ℕ)
  pub quit : ℕ

-- the counts before any report is issued
abbrev pub no_counts : Counts
no_counts = record { info = 0; warning = 0; error = 0; fatal = 0; ids = []; quit = 0 }

-- the number of issued reports of a severity
abbrev pub number_of : Counts → Severity → ℕ
number_of counts Info = counts.info
number_of counts Warning = counts.warning
number_of counts Error = counts.error
number_of counts Fatal = counts.fatal

-- the number of all issued reports
abbrev pub issued_number : Counts → ℕ
issued_number counts = counts.info + counts.warning + counts.error + counts.fatal

-- whether reports with an id were counted
abbrev pub is_counted : Counts → List ℕ → Bool
is_counted counts id = is_some (lookup (pointwise nat_eq id) counts.ids)

-- how many reports with an id were counted
abbrev pub number_of_id : Counts → List ℕ → ℕ
number_of_id counts id = unwrap_or (lookup (pointwise nat_eq id) counts.ids) 0

-- the counts by id after one more report with an id; a new id is appended
abbrev pub with_id : List ℕ → List (List ℕ × ℕ) → List (List ℕ × ℕ)
with_id id [] = (id, 1) ∷ []
with_id id (counted ∷ ids) = if pointwise nat_eq id counted.0 then (counted.0, counted.1 + 1) ∷ ids else counted ∷ with_id id ids

-- the counts after one more report of a severity, with the counts by id unchanged
abbrev pub with_severity : Severity → Counts → Counts
with_severity Info counts = record counts { info = counts.info + 1 }
with_severity Warning counts = record counts { warning = counts.warning + 1 }
with_severity Error counts = record counts { error = counts.error + 1 }
with_severity Fatal counts = record counts { fatal = counts.fatal + 1 }

-- the counts after one more report of a severity and an id, with or without the action `count`
unfoldable pub with_report : Severity → List ℕ → Bool → Counts → Counts
with_report severity id count counts =
    record (with_severity severity counts) { ids = with_id id counts.ids; quit = counts.quit + (if count then 1 else 0) }

-- the counts agree: the counts by severity and those by id have the same sum, and the quit count is at most this sum
pub record Agree (counts : Counts) : Type 0 where
  pub ids : sum_by (λ counted. counted.1) counts.ids ≡ issued_number counts
  pub quit : counts.quit ≤ issued_number counts

-- whether an id can be counted without an allocation, if `spare` further ids can
abbrev pub can_count : Counts → ℕ → List ℕ → Bool
can_count counts spare id = is_counted counts id || nat_lt 0 spare

-- a tally as contracts see it: the counts, and the number of further ids that can be counted without an allocation
pub record Tallied : Type 0 where
  pub counts : Counts
  pub spare : ℕ
