-- The agenda holds exactly the events that are due by the log. What changes in it.
use Rattle.std.specs.Prelude.{◌≡◌, ℕ, ◌<◌, ◌++◌, Bool, false, not, List, filter, All, AllPairs}
use Rattle.uvm_phase.specs.declared.phases.Phase.{Phase}
use Rattle.uvm_phase.specs.declared.agendas.Cause.{Cause}
use Rattle.uvm_phase.specs.declared.agendas.Due.{Due}
use Rattle.uvm_phase.specs.Dues.{same_cause, in_order}
use Rattle.uvm_acts.specs.declared.acts.Who.{Who}
use Rattle.bench_history.specs.EventTargets.{Event}
use Rattle.bench_history.specs.declared.event_targets.EventTarget.{EventTarget}
use Rattle.bench_history.specs.Dues.{is_open}

-- the events that are due, in their order: those that were caused and are open; no two have the same cause, and each cause is an earlier entry
pub record IsAgenda (caused : List Event) (heard : List Cause) (ended : List Phase) (finished : List Who) (count : ℕ) (dues : List Event) : Type 0 where
  pub are : dues ≡ in_order (filter (is_open heard ended finished) caused)
  pub distinct : AllPairs (λ due other. same_cause due.cause other.cause ≡ false) caused
  pub caused_within : All (λ due. due.cause.place < count) caused
  pub heard_within : All (λ cause. cause.place < count) heard

-- these events are scheduled, and no other event changes
abbrev pub Schedules : {O N : Type 0} → List (Due O N) → List (Due O N) → List (Due O N) → Type 0
Schedules {O} {N} events old new = (caused : List (Due O N)) → old ≡ in_order caused → new ≡ in_order (events ++ caused)

-- these events are scheduled, those with such a target are removed, and no other event changes
abbrev pub Reschedules : List Event → (EventTarget → Bool) → List Event → List Event → Type 0
Reschedules events removed old new = (caused : List Event) → old ≡ in_order caused → new ≡ in_order (events ++ filter (λ event. not (removed event.owner)) caused)
