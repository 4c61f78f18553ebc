-- The targets of events.
use Rattle.std.specs.Prelude.{ℕ, Bool, false, ◌&&◌, ◌==◌, List, Option}
use Rattle.std.specs.List.{list_any}
use Rattle.uvm_phase.specs.declared.phases.Phase.{Phase}
use Rattle.uvm_phase.specs.Phases.{same_phase}
use Rattle.uvm_phase.specs.declared.agendas.Due.{Due}
use Rattle.uvm_acts.specs.declared.acts.Who.{Who}
use Rattle.uvm_acts.specs.declared.acts.Who.TheVariants as who
use Rattle.uvm_acts.specs.declared.acts.Call.{Call}
use Rattle.bench_history.specs.declared.event_targets.EventTarget.{EventTarget}
use Rattle.bench_history.specs.declared.event_targets.EventTarget.TheVariants.{Object, Drain}

-- an event that is due at a time: its target receives a call or, if there is no call, a drain ends
abbrev pub Event : Type 0
Event = Due EventTarget (Option Call)

-- the receiver of the call, or the node of the drain
abbrev pub who_of : EventTarget → Who
who_of (Object who) = who
who_of (Drain node phase) = who.Node node

-- the target is the drain of one of these nodes, in the objection of this phase
abbrev pub is_drain_of : Phase → List ℕ → EventTarget → Bool
is_drain_of phase nodes (Object who) = false
is_drain_of phase nodes (Drain node other) = same_phase other phase && list_any (λ other. other == node) nodes
