-- The type `pulse`: in `run` it raises and drops an objection twice, the second time before the first has drained. It has no state.
use Rattle.std.specs.Prelude.{◌≡◌, ℕ, ◌==◌, List, [], ◌∷◌, Option, Some, None, codes, if◌then◌else◌, bytes_eq}
use Rattle.uvm_phase.specs.declared.phases.Phase.TheVariants.{Run}
use Rattle.uvm_object.specs.Objects.{View}
use Rattle.uvm_acts.specs.declared.acts.Call.{Call}
use Rattle.uvm_acts.specs.declared.acts.Call.TheVariants.{Phase, Wake}
use Rattle.uvm_acts.specs.declared.acts.Act.{Act}
use Rattle.uvm_acts.specs.declared.acts.Act.TheVariants.{RaiseObjection, DropObjection, SetDrain, Wait}
use Rattle.bus_objects.specs.declared.pulse.Pulse.{Pulse}

-- the view of a `pulse`, which is empty
abbrev pub pulse_view : Pulse → View
pulse_view pulse = []

-- the actions when a wait ends, by the tag of the wait
abbrev pub woken_acts : ℕ → List Act
woken_acts tag =
    if tag == 1 then DropObjection 1 ∷ Wait 2 2 ∷ []
    else if tag == 2 then RaiseObjection 1 ∷ Wait 8 3 ∷ []
    else if tag == 3 then DropObjection 1 ∷ []
    else []

-- the answer of a `pulse` to a call: in `run` it sets a drain time, raises an objection and waits; then `woken_acts`
abbrev pub pulse_acts : Call → List Act
pulse_acts (Phase Run) = SetDrain 5 ∷ RaiseObjection 1 ∷ Wait 10 1 ∷ []
pulse_acts (Wake tag) = woken_acts tag
pulse_acts call = []

-- the relation of a `pulse`: it gives these answers, and its view stays the same
abbrev pub PulseSays : View → Call → List Act → View → Type 0
PulseSays before call acts after = (acts ≡ pulse_acts call) × (after ≡ before)

-- a new object if the name is `pulse`; `None` otherwise
abbrev pub pulse_named : List ℕ → Option Pulse
pulse_named name = if bytes_eq name (codes "pulse") then Some (record { type_name = name }) else None
