-- The type `loud`: it reports three errors in `build`. It has no state.
use Rattle.std.specs.Prelude.{◌≡◌, ℕ, List, [], ◌∷◌, Option, Some, None, codes, if◌then◌else◌, bytes_eq}
use Rattle.uvm_phase.specs.declared.phases.Phase.TheVariants.{Build}
use Rattle.uvm_report.specs.declared.severities.Severity.TheVariants.{Error}
use Rattle.uvm_object.specs.Objects.{View}
use Rattle.uvm_acts.specs.declared.acts.Call.{Call}
use Rattle.uvm_acts.specs.declared.acts.Call.TheVariants.{Phase}
use Rattle.uvm_acts.specs.declared.acts.Act.{Act}
use Rattle.uvm_acts.specs.declared.acts.Act.TheVariants.{Report}
use Rattle.bus_objects.specs.declared.loud.Loud.{Loud}

-- the view of a `loud`, which is empty
abbrev pub loud_view : Loud → View
loud_view loud = []

-- the action that reports an error with this text
abbrev pub error_act : List ℕ → Act
error_act text = Report (record { severity = Error; id = codes "E"; text = text; verbosity = 0 })

-- the answer of a `loud` to a call: three errors in `build`, otherwise no actions
abbrev pub loud_acts : Call → List Act
loud_acts (Phase Build) = error_act (codes "one") ∷ error_act (codes "two") ∷ error_act (codes "three") ∷ []
loud_acts call = []

-- the relation of a `loud`: it gives these answers, and its view stays the same
abbrev pub LoudSays : View → Call → List Act → View → Type 0
LoudSays before call acts after = (acts ≡ loud_acts call) × (after ≡ before)

-- a new object if the name is `loud`; `None` otherwise
abbrev pub loud_named : List ℕ → Option Loud
loud_named name = if bytes_eq name (codes "loud") then Some (record { type_name = name }) else None
