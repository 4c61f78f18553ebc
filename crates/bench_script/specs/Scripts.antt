-- The values of a script, as contracts see them.
use Rattle.std.specs.Prelude.{ℕ, Bool, List, Option}
use Rattle.uvm_factory.specs.declared.overrides.Override.{Override}
use Rattle.uvm_factory.specs.Faults.{Types}
use Rattle.script_tables.specs.declared.drains.Drain.{Drain}
use Rattle.script_tables.specs.declared.rows.Probe.{Probe}
use Rattle.script_tables.specs.declared.rows.Setting.{Setting}
use Rattle.script_tables.specs.declared.report_settings.VerbositySetting.{VerbositySetting}
use Rattle.script_tables.specs.declared.report_settings.ActionSetting.{ActionSetting}
use Rattle.script_tables.specs.declared.report_settings.SeverityChange.{SeverityChange}

-- the values of a script: its version; its test, as the place of a type; its time limit in ticks and its quit limit; whether the
-- run-time phases run in parallel with the run phase; and the rows of its arrays, in order
pub record ScriptValue : Type 0 where
  pub version : ℕ
  pub test : Option ℕ
  pub time_limit : ℕ
  pub quit_limit : ℕ
  pub runtime : Bool
  pub types : Types
  pub overrides : List Override
  pub settings : List Setting
  pub verbosities : List VerbositySetting
  pub actions : List ActionSetting
  pub severities : List SeverityChange
  pub probes : List Probe
  pub drains : List Drain
