-- The cursor of the phases of one sort, of which at most one is active: which components wait for their callback.
use Rattle.std.specs.Prelude.{◌≡◌, ◌<◌, ℕ, Bool, true, false, not, ◌||◌, ◌==◌, List, [], ◌∷◌, ◌++◌, length, filter, All, Contains, Option, Some, None, IfSome, IfNone, if◌then◌else◌}
use Rattle.std.specs.List.{list_any}
use Rattle.uvm_glob.specs.declared.orders.Direction.{Direction}
use Rattle.uvm_glob.specs.Orders.{order_of}
use Rattle.uvm_tree.specs.Cursors.{is_after}
use Rattle.uvm_tree.specs.Nodes.{Node}
use Rattle.uvm_phase.specs.declared.phases.Phase.{Phase}
use Rattle.bench_history.specs.History.{had_call, phase_order}
use Rattle.bench_history.specs.Laws.{IsComponentNode}
use Rattle.world_services.specs.declared.phase_cursor.PhaseCursor.{PhaseCursor}

-- whether a component waits for its callback: it comes after the last one that received it, or is late
abbrev pub waits : List Node → PhaseCursor → ℕ → Bool
waits nodes phase_cursors node = is_after (order_of phase_cursors.direction) nodes phase_cursors.last node || list_any (λ late. late == node) phase_cursors.late.items

-- the first of the waiting components in an order; none if no component waits
pub record IsFirstWaiting (before : ℕ → ℕ → Bool) (nodes : List Node) (phase_cursors : PhaseCursor) (found : Option ℕ) : Type 0 where
  pub none : IfNone found ((n : ℕ) → IsComponentNode nodes n → waits nodes phase_cursors n ≡ false)
  pub is : IfSome found (λ c. IsComponentNode nodes c × (waits nodes phase_cursors c ≡ true))
  pub first : IfSome found (λ c. (n : ℕ) → IsComponentNode nodes n → waits nodes phase_cursors n ≡ true → before n c ≡ false)

-- all waiting components come after this node in a direction; without a node nothing is claimed
abbrev pub IsStart : Direction → PhaseCursor → Option ℕ → Type 0
IsStart direction phase_cursors None = Unit {0}
IsStart direction phase_cursors (Some start) = (direction ≡ phase_cursors.direction) × (phase_cursors.late.items ≡ []) × (phase_cursors.last ≡ Some start)

-- the last component that received its callback, after one more did: a late one does not count
abbrev pub last_heard : ℕ → List ℕ → Option ℕ → Option ℕ
last_heard node [] last = Some node
last_heard node (late ∷ others) last = last

-- after a component received its callback
pub record IsHeardIn (node : ℕ) (old new : PhaseCursor) : Type 0 where
  pub direction : new.direction ≡ old.direction
  pub last : new.last ≡ last_heard node old.late.items old.last
  pub late : new.late.items ≡ filter (λ late. not (late == node)) old.late.items

-- after a component was created: it is late if the phase has already passed its place
pub record IsMadeIn (nodes : List Node) (node : ℕ) (old new : PhaseCursor) : Type 0 where
  pub direction : new.direction ≡ old.direction
  pub last : new.last ≡ old.last
  pub late : new.late.items ≡ (if is_after (order_of old.direction) nodes old.last node then old.late.items else old.late.items ++ node ∷ [])

-- the components that wait are those without a callback since the phase began; the cursor has the direction of the phase, and its late components
-- precede `last`
pub record ArePhaseCursor (going : List Phase) (nodes : List Node) (components called : List ℕ) (kept : PhaseCursor) : Type 0 where
  pub direction : All (λ phase. order_of kept.direction ≡ phase_order phase) going
  pub waiting : All (λ node. not (had_call called node) ≡ waits nodes kept node) components
  pub behind : All (λ node. is_after (order_of kept.direction) nodes kept.last node ≡ false) kept.late.items
  pub known : All (Contains components) kept.late.items
  pub last : IfSome kept.last (λ node. node < length nodes)
  pub within : All (λ node. node < length nodes) components
  pub called_within : All (λ node. node < length nodes) called

-- nothing has changed, except the reserved capacity
pub record AreSamePhaseCursor (old new : PhaseCursor) : Type 0 where
  pub direction : new.direction ≡ old.direction
  pub last : new.last ≡ old.last
  pub late : new.late.items ≡ old.late.items
