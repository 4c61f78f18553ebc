-- Where a driver can be served, or something can pass, and nothing stands before that, it comes next.
use Rattle.std.proofs.Common.{◌≡◌, ℕ, Bool, List, Option, Some, None, IsSome, refl}
use Rattle.uvm_object.specs.declared.entries.Passage.{Passage}
use Rattle.uvm_object.specs.declared.entries.Entry.TheVariants.{Passed}
use Rattle.uvm_object.specs.declared.entries.Entry.{Entry}
use Rattle.bench_script.specs.Scripts.{ScriptValue}
use Rattle.bench_history.specs.declared.stages.RunStage.{RunStage}
use Rattle.bench_history.specs.declared.stages.RunStage.TheVariants.{Before, During, After, Ended}
use Rattle.bench_history.specs.History.{stage_of}
use Rattle.bench_history.specs.Reports.{reason_of}
use Rattle.bench_history.specs.Arbitration.{next_locked, next_served}
use Rattle.bench_history.specs.Passing.{next_passed}
use Rattle.bench_history.specs.Cases.{Exactly, Grant, chosen_at, end_reached}
use Rattle.bench_history.specs.Next.{next_of}

pub serves-next : (script : ScriptValue) (history : List Entry) (node : ℕ) (drawn : Bool) → end_reached (stage_of history) ≡ None → reason_of script history ≡ None → next_locked history ≡ None → next_served history ≡ Some (node, drawn)
    → next_of script history ≡ Grant node drawn (chosen_at history node)
unfolding next_of
serves-next script history node drawn on going unlocked served = rw (on, going, unlocked, served) refl

-- something passes
pub passes-next : (script : ScriptValue) (history : List Entry) → end_reached (stage_of history) ≡ None → reason_of script history ≡ None → next_locked history ≡ None → next_served history ≡ None → IsSome (next_passed history)
    → (fifo : ℕ) × (passage : Passage) × (next_of script history ≡ Exactly (Passed fifo passage))
unfolding next_of
passes-next script history on going unlocked unserved some = by (next_passed history) refl some
  where
    by : (found : Option (ℕ × Passage)) → next_passed history ≡ found → IsSome found → (fifo : ℕ) × (passage : Passage) × (next_of script history ≡ Exactly (Passed fifo passage))
    by None is none = absurd cc
    by (Some (fifo, passage)) is found = (fifo, passage, rw (on, going, unlocked, unserved, is) refl)

pub goes-on : (stage : RunStage) → (stage ≡ Ended → ⊥) → end_reached stage ≡ None
goes-on Before on = refl
goes-on (During phase) on = refl
goes-on (After phase) on = refl
goes-on Ended on = absurd (on refl)
