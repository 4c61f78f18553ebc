-- The end of a phase.
use Rattle.world_entries.proofs.Common.{◌≡◌, ◌<◌, ◌-◌, ℕ, Bool, true, false, ◌||◌, List, [], ◌∷◌, length, Contains, Option, Some, None, is_some, unwrap_or, refl, sym, subst, arith, if◌then◌else◌, list_any, ForSome, nat_tests, Phase, Run, is_runtime, same_phase, numbers_of, AreInPathOrder, path_order, WiringValue, is_closed, Entry, ScriptValue, RunStage, Before, During, After, Ended, in_progress, running, stage_of, TaskPhasesFollowConnect, EachIsNext, ends_connect, IsConnecting, permutation-contains, range-contains}
use Rattle.uvm_tree.specs.Nodes.{Node}

-- each node below the top stands in the path order
pub order-holds : (nodes : List Node) → AreInPathOrder nodes (path_order nodes) → (n : ℕ) → 0 < n → n < length nodes → Contains (path_order nodes) n
order-holds nodes order n low high = permutation-contains (numbers_of nodes) (path_order nodes) n order.whole (range-contains 1 (length nodes - 1) n low (omega (arith, high)))

-- the phase that was begun last is in progress
same-itself : (phase : Phase) → same_phase phase phase ≡ true
same-itself phase = grind (arith, nat_tests)

pub or-true : (a b : Bool) → b ≡ true → a || b ≡ true
or-true true b e = refl
or-true false b e = e

runs-going : (stage : RunStage) (phase : Phase) → running stage ≡ Some phase → list_any (same_phase phase) (in_progress stage) ≡ true
runs-going Before phase runs = cc
runs-going Ended phase runs = cc
runs-going (During other) phase runs = let same : other ≡ phase = cc in subst (λ (p : Phase). list_any (same_phase phase) (in_progress (During p)) ≡ true) (sym same) (by (is_runtime phase))
  where
    by : (b : Bool) → list_any (same_phase phase) (if b then Run ∷ phase ∷ [] else phase ∷ []) ≡ true
    by true = or-true (same_phase phase Run) (same_phase phase phase || false) (rw (same-itself phase) refl)
    by false = rw (same-itself phase) refl
runs-going (After other) phase runs = by (is_runtime other) runs
  where
    by : (b : Bool) → (if b then Some Run else None) ≡ Some phase → list_any (same_phase phase) (if b then Run ∷ [] else []) ≡ true
    by true e = let same : Run ≡ phase = cc in subst (λ (p : Phase). list_any (same_phase p) (Run ∷ []) ≡ true) same refl
    by false e = cc

-- a run-time phase comes after connect
pub beside-past : (script : ScriptValue) (history : List Entry) (phase : Phase) → TaskPhasesFollowConnect → EachIsNext script history → running (stage_of history) ≡ Some phase → is_runtime phase ≡ true → list_any ends_connect history ≡ true
beside-past script history phase follow each runs beside = follow script history phase each (runs-going (stage_of history) phase runs) (or-true (same_phase phase Run) (is_runtime phase) beside)

-- the sequencers that are looked at then, by the wiring
pub reopened-is : {nodes : List Node} {wiring kept : WiringValue} → IsConnecting nodes wiring kept → (b : Bool) → (b ≡ true → is_closed kept ≡ true) → (if b then unwrap_or kept.order [] else []) ≡ (if b then path_order nodes else [])
reopened-is {nodes} {wiring} {kept} c true closed = by kept.order (closed refl) c.order
  where
    by : (order : Option (List ℕ)) → is_some order ≡ true → ForSome order (λ order. order ≡ path_order nodes) → unwrap_or order [] ≡ path_order nodes
    by None some is = cc
    by (Some order) some is = is order refl
reopened-is c false closed = refl
