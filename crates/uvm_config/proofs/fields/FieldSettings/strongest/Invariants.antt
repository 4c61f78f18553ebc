use Rattle.std.proofs.Common.{◌≡◌}
use Rattle.uvm_glob.specs.Paths.{path_text}
use Rattle.uvm_config.specs.Fields.{field_answer}
use Rattle.uvm_config.proofs.OneField.{after_all}
use Rattle.uvm_config.proofs.fields.FieldSettings.strongest.Given as goal

-- the settings that are left complete the answer
abbrev pub invariant-loop-scope : goal.invariant-loop-scope
invariant-loop-scope l = after_all (path_text l.path) l.strongest l.scope-iterator ≡ field_answer l.self (path_text l.path)
