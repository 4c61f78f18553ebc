-- Which objects still receive the calls that are due.
use Rattle.std.specs.Prelude.{ℕ, suc, Bool, true, is_some, List, [], ◌∷◌, ◌++◌, Option, Some, if◌then◌else◌}
use Rattle.uvm_acts.specs.declared.acts.Who.{Who}
use Rattle.bench_history.specs.declared.event_targets.EventTarget.TheVariants.{Object}
use Rattle.bench_history.specs.declared.event_targets.DueCall.{DueCall}
use Rattle.bench_history.specs.Dues.{event_in}
use Rattle.bench_history.specs.EventTargets.{Event}
use Rattle.uvm_sequences.specs.declared.starts.SeqStep.{SeqStep}
use Rattle.uvm_sequences.specs.Sequences.{step_at}
use Rattle.uvm_acts.specs.declared.acts.Who.TheVariants as who

-- the events if their receiver still receives calls, otherwise none
abbrev pub if_told : Bool → List Event → List Event
if_told told events = if told then events else []

-- the events of some calls, numbered in their order, the newest first; without those whose receiver no longer
-- receives calls
abbrev pub living_numbered : (Who → Bool) → ℕ → ℕ → ℕ → List DueCall → List Event
living_numbered told time place number [] = []
living_numbered told time place number (call ∷ calls) =
    living_numbered told time place (suc number) calls ++ if_told (told call.who) (event_in call.phase time (record { place = place; number = number }) (Object call.who) (Some call.call))

-- an object still receives calls: it is a component, or an active sequence
abbrev pub is_told : List (Option SeqStep) → Who → Bool
is_told steps (who.Node node) = true
is_told steps (who.Sequence home id) = is_some (step_at steps id)
