-- The effect of one setting on the choice for a severity and an id at a path (IEEE 1800.2-2020, Clause 6).
use Rattle.std.specs.Prelude.{ℕ, Bool, true, List, Option, Some, None, ◌&&◌, nat_eq, nat_le, if◌then◌else◌}
use Rattle.std.specs.Cmp.Lexicographic.{pointwise}
use Rattle.uvm_glob.specs.Globs.{matches}
use Rattle.uvm_report.specs.declared.severities.Severity.{Severity}
use Rattle.uvm_report.specs.declared.settings.Which.{Which}
use Rattle.uvm_report.specs.declared.settings.Which.TheVariants as which
use Rattle.uvm_report.specs.declared.settings.Class.{Class}
use Rattle.uvm_report.specs.declared.settings.Class.TheVariants as class
use Rattle.uvm_report.specs.Severities.{same_severity}

-- whether `Which` names the reports of a severity with an id
abbrev pub names : Which → Severity → List ℕ → Bool
names which.All severity id = true
names (which.Severity named) severity id = same_severity named severity
names (which.Id named) severity id = pointwise nat_eq named id
names (which.Both named named_id) severity id = same_severity named severity && pointwise nat_eq named_id id

-- the class of a setting
abbrev pub class_of : Which → Class
class_of (which.Both severity id) = class.SeverityAndId
class_of (which.Id id) = class.Id
class_of (which.Severity severity) = class.Severity
class_of which.All = class.All

-- the position of a class in the order of precedence, from 0
abbrev pub class_number : Class → ℕ
class_number class.SeverityAndId = 0
class_number class.Id = 1
class_number class.Severity = 2
class_number class.All = 3

-- the class and the value of the setting that takes precedence
pub record ChosenValue (A : Type 0) : Type 0 where
  pub class : Class
  pub value : A

-- the choice for each severity and id, `None` if no setting applies
abbrev pub Lookup : Type 0 → Type 0
Lookup A = Severity → List ℕ → Option (ChosenValue A)

-- whether a setting of a class takes precedence over an earlier choice: if there is none, or if the choice's class does not precede it
abbrev pub gives_way : {A : Type 0} → Class → Option (ChosenValue A) → Bool
gives_way class None = true
gives_way class (Some choice) = nat_le (class_number class) (class_number choice.class)

-- the choice for a severity and an id at a path's text after one more setting, if `before` was the choice before it
unfoldable pub after_setting : {A : Type 0} → List ℕ → Which → A → List ℕ → Severity → List ℕ → Option (ChosenValue A) → Option (ChosenValue A)
after_setting scope which value text severity id before =
    if names which severity id && matches scope text && gives_way (class_of which) before
    then Some (record { class = class_of which; value = value })
    else before
