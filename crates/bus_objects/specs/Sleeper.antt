-- The type `sleeper`: it keeps the value of the field `at`, and delays the end of `run` for that many ticks.
use Rattle.std.specs.Prelude.{◌≡◌, ℕ, ℤ, pos, negsuc, List, [], ◌∷◌, Option, Some, None, codes, if◌then◌else◌, bytes_eq}
use Rattle.uvm_phase.specs.declared.phases.Phase.TheVariants.{Build, Run}
use Rattle.uvm_object.specs.Objects.{View}
use Rattle.uvm_acts.specs.declared.acts.Call.{Call}
use Rattle.uvm_acts.specs.declared.acts.Call.TheVariants.{Phase, Config, Wake}
use Rattle.uvm_acts.specs.declared.acts.Act.{Act}
use Rattle.uvm_acts.specs.declared.acts.Act.TheVariants.{Get, RaiseObjection, DropObjection, Wait}
use Rattle.bus_objects.specs.declared.sleeper.Sleeper.{Sleeper}

-- the view for the kept ticks: empty if there are none
abbrev pub shown : Option ℕ → View
shown None = []
shown (Some ticks) = ticks ∷ []

-- the view of a `sleeper`: the kept ticks
abbrev pub sleeper_view : Sleeper → View
sleeper_view sleeper = shown sleeper.ticks

-- the view for a value of the field `at`: 0 ticks if there is no value, and empty if it is negative
abbrev pub ticks_kept : Option ℤ → View
ticks_kept None = 0 ∷ []
ticks_kept (Some (pos ticks)) = ticks ∷ []
ticks_kept (Some (negsuc below)) = []

-- the action that looks up the field `at`
abbrev pub at_act : Act
at_act = Get (codes "at")

-- the action that waits for the kept ticks; no action if there are none
abbrev pub waits_for : View → List Act
waits_for [] = []
waits_for (ticks ∷ view) = Wait ticks 1 ∷ []

-- the answer of a `sleeper` to a call: in `run` it raises an objection and waits for its ticks; at `wake` it drops the objection
abbrev pub sleeper_acts : View → Call → List Act
sleeper_acts view (Phase Build) = at_act ∷ []
sleeper_acts view (Phase Run) = RaiseObjection 1 ∷ waits_for view
sleeper_acts view (Wake tag) = DropObjection 1 ∷ []
sleeper_acts view call = []

-- the view of a `sleeper` after a call: only a field value changes it
abbrev pub sleeper_after : View → Call → View
sleeper_after view (Config field value) = ticks_kept value
sleeper_after view call = view

-- the relation of a `sleeper`: its view determines its answer, and the next view is the one after the call
abbrev pub SleeperSays : View → Call → List Act → View → Type 0
SleeperSays before call acts after = (acts ≡ sleeper_acts before call) × (after ≡ sleeper_after before call)

-- the new object of type `sleeper`, with this type name; it has 0 ticks
abbrev pub new_sleeper : List ℕ → Sleeper
new_sleeper name = record { type_name = name; ticks = Some 0 }

-- a new object if the name is `sleeper`; `None` otherwise
abbrev pub sleeper_named : List ℕ → Option Sleeper
sleeper_named name = if bytes_eq name (codes "sleeper") then Some (new_sleeper name) else None
