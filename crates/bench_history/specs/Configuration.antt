-- The configuration settings of a log, the newest first.
use Rattle.std.specs.Prelude.{ℕ, Bool, true, false, List, [], ◌∷◌, length, map, reverse}
use Rattle.uvm_glob.specs.Paths.{path_text, dotted}
use Rattle.uvm_config.specs.ChosenValue.{precedence_of}
use Rattle.uvm_config.specs.Answers.{Setting}
use Rattle.uvm_phase.specs.declared.phases.Phase.TheVariants.{Build}
use Rattle.uvm_tree.specs.Nodes.{path_at}
use Rattle.uvm_acts.specs.Acts.{node_of}
use Rattle.uvm_acts.specs.declared.acts.Act.{Act}
use Rattle.uvm_acts.specs.declared.acts.Act.TheVariants.{Set}
use Rattle.uvm_object.specs.declared.entries.Outcome.{Outcome}
use Rattle.uvm_object.specs.declared.entries.Outcome.TheVariants.{Done}
use Rattle.uvm_object.specs.declared.entries.Entry.{Entry}
use Rattle.uvm_object.specs.declared.entries.Entry.TheVariants.{Did}
use Rattle.script_tables.specs.declared.rows.Setting as script
use Rattle.bench_script.specs.Scripts.{ScriptValue}
use Rattle.bench_history.specs.declared.stages.RunStage.{RunStage}
use Rattle.bench_history.specs.declared.stages.RunStage.TheVariants.{During}
use Rattle.bench_history.specs.History.{stage_of, nodes_of}

-- a setting of the script: it counts as a setting of the top node, with the empty path and depth 0, made while build does not run
abbrev pub given_setting : script.Setting → Setting
given_setting given = record { scope = given.scope; field = given.field; precedence = precedence_of false 0; value = given.value }

-- the build phase runs
abbrev pub is_building : RunStage → Bool
is_building (During Build) = true
is_building stage = false

-- the settings after an action: with one more, the newest, if it is a `Set` that is done
abbrev pub settings_after : Bool → List (List ℕ) → List Setting → Outcome → Act → List Setting
settings_after building path settings Done (Set glob field value) =
    record { scope = dotted (path_text path) glob; field = field; precedence = precedence_of building (length path); value = value } ∷ settings
settings_after building path settings outcome act = settings

-- the settings, the newest first: those of the accepted actions, each under the path of its performer, then those of the script
abbrev pub settings_of : ScriptValue → List Entry → List Setting
settings_of script [] = reverse (map given_setting script.settings)
settings_of script (Did performer outcome act ∷ before) =
    settings_after (is_building (stage_of before)) (path_at (nodes_of before) (node_of performer)) (settings_of script before) outcome act
settings_of script (entry ∷ before) = settings_of script before
