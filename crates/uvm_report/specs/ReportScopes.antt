-- The stored form of settings: each value with its scope.
use Rattle.uvm_report.specs.declared.settings.ReportScope.{ReportScope}
use Rattle.uvm_report.specs.Settings.{Setting}

-- the setting of a stored entry
abbrev pub setting_of : {A : Type 0} → ReportScope × A → Setting A
setting_of entry = record { scope = entry.0.scope; which = entry.0.which; value = entry.1 }
