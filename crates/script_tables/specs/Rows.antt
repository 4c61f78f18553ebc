-- Properties of the rows of every script.
use Rattle.std.specs.Prelude.{◌≡◌, ℕ, ◌<◌, ◌≤◌, [], ◌∷◌, ◌++◌, length, None}
use Rattle.uvm_factory.specs.declared.overrides.Override.{Override}
use Rattle.uvm_factory.specs.Faults.{Types, register_fault, override_fault}
use Rattle.uvm_factory.specs.Steps.{original_of, new_of}
use Rattle.script_tables.specs.declared.rows.Probe.{Probe}
use Rattle.script_tables.specs.declared.report_settings.VerbositySetting.{VerbositySetting}

-- the maximum verbosity level
abbrev pub most_level : ℕ
most_level = 10000

-- each type can be registered after the types before it
abbrev pub CanRegister : Types → Types → Type 0
CanRegister before [] = Unit {0}
CanRegister before (t ∷ types) = (register_fault before t.0 ≡ None) × CanRegister (before ++ t ∷ []) types

-- both types of an override exist and are of the same kind
abbrev pub CanOverride : Types → Override → Type 0
CanOverride types o = override_fault types (original_of o) (new_of o) ≡ None

-- the type of a probe is one of the script's types
abbrev pub CanProbe : Types → Probe → Type 0
CanProbe types probe = probe.type_id < length types

-- the verbosity level of a setting is in range
abbrev pub HasLevelInRange : VerbositySetting → Type 0
HasLevelInRange setting = setting.level ≤ most_level
