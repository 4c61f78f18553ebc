-- Properties of every script.
use Rattle.std.specs.Prelude.{◌≡◌, ℕ, ◌≤◌, [], length, Option, Some, None, All, slice_get, option_map}
use Rattle.uvm_factory.specs.declared.types.Kind.TheVariants.{Component}
use Rattle.uvm_factory.specs.Faults.{Types}
use Rattle.uvm_config.specs.Answers.{most_settings}
use Rattle.script_tables.specs.Drains.{CanDrain}
use Rattle.script_tables.specs.Rows.{CanRegister, CanOverride, CanProbe, HasLevelInRange}
use Rattle.bench_script.specs.Limits.{most_time, most_quit_limit}
use Rattle.bench_script.specs.Scripts.{ScriptValue}

-- the type of the test, if there is a test, is a component type
abbrev pub IsComponentAt : Types → Option ℕ → Type 0
IsComponentAt types None = Unit {0}
IsComponentAt types (Some place) = option_map (λ t. t.1) (slice_get types place) ≡ Some Component

-- the properties of every script: its test is a component type, its limits are in range, and its rows are valid
pub record IsSound (script : ScriptValue) : Type 0 where
  pub test : IsComponentAt script.types script.test
  pub time_limit : script.time_limit ≤ most_time
  pub quit_limit : script.quit_limit ≤ most_quit_limit
  pub types : CanRegister [] script.types
  pub overrides : All (CanOverride script.types) script.overrides
  pub settings : length script.settings ≤ most_settings
  pub verbosities : All HasLevelInRange script.verbosities
  pub probes : All (CanProbe script.types) script.probes
  pub drains : All CanDrain script.drains
