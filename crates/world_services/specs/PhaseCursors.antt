-- The cursors of the active phases.
use Rattle.std.specs.Prelude.{◌≡◌, ◌<◌, ℕ, List, [], filter, None, vec_len, vec_capacity, if◌then◌else◌}
use Rattle.uvm_phase.specs.declared.phases.Phase.{Phase}
use Rattle.uvm_phase.specs.declared.phases.Phase.TheVariants.{PreReset, Run}
use Rattle.uvm_phase.specs.Phases.{is_runtime}
use Rattle.uvm_glob.specs.Orders.{order_of}
use Rattle.uvm_tree.specs.Nodes.{Node}
use Rattle.bench_history.specs.declared.stages.RunStage.{RunStage}
use Rattle.bench_history.specs.History.{in_progress, phase_order, same_sort}
use Rattle.world_services.specs.declared.phase_cursors.PhaseCursors.{PhaseCursors}
use Rattle.world_services.specs.declared.phase_cursor.PhaseCursor.{PhaseCursor}
use Rattle.world_services.specs.PhaseCursor.{AreSamePhaseCursor, ArePhaseCursor, IsHeardIn, IsMadeIn}

-- the cursor of the phases of the same sort as this phase
abbrev pub phase_cursor_in : Phase → PhaseCursors → PhaseCursor
phase_cursor_in phase phase_cursors = if is_runtime phase then phase_cursors.runtime else phase_cursors.common

-- the cursor of the phases of the other sort, which a change in this phase does not affect
abbrev pub phase_cursor_beside : Phase → PhaseCursors → PhaseCursor
phase_cursor_beside phase phase_cursors = if is_runtime phase then phase_cursors.common else phase_cursors.runtime

-- after a phase has begun: no component has received its callback
pub record HasBegunRound (phase : Phase) (old new : PhaseCursors) : Type 0 where
  pub beside : phase_cursor_beside phase new ≡ phase_cursor_beside phase old
  pub direction : order_of (phase_cursor_in phase new).direction ≡ phase_order phase
  pub last : (phase_cursor_in phase new).last ≡ None
  pub late : (phase_cursor_in phase new).late.items ≡ []

-- after a component received its callback in a phase
pub record IsHeardInPhaseCursors (phase : Phase) (node : ℕ) (old new : PhaseCursors) : Type 0 where
  pub beside : phase_cursor_beside phase new ≡ phase_cursor_beside phase old
  pub heard : IsHeardIn node (phase_cursor_in phase old) (phase_cursor_in phase new)

-- after a component was created
pub record IsMadeInPhaseCursors (nodes : List Node) (node : ℕ) (old new : PhaseCursors) : Type 0 where
  pub common : IsMadeIn nodes node old.common new.common
  pub runtime : IsMadeIn nodes node old.runtime new.runtime

-- nothing has changed, except the reserved capacity
pub record AreSamePhaseCursors (old new : PhaseCursors) : Type 0 where
  pub common : AreSamePhaseCursor old.common new.common
  pub runtime : AreSamePhaseCursor old.runtime new.runtime

-- capacity is reserved for one more component in each cursor
pub record HaveRoom (phase_cursors : PhaseCursors) : Type 0 where
  pub common : vec_len phase_cursors.common.late < vec_capacity phase_cursors.common.late
  pub runtime : vec_len phase_cursors.runtime.late < vec_capacity phase_cursors.runtime.late

-- the active phases of the same sort as this phase: there is at most one
abbrev pub going_like : Phase → RunStage → List Phase
going_like phase stage = filter (same_sort phase) (in_progress stage)

-- in each sort, the components that wait are those without a callback since its phase began
pub record ArePhaseCursors (stage : RunStage) (nodes : List Node) (components : List ℕ) (called : Phase → List ℕ) (kept : PhaseCursors) : Type 0 where
  pub common : ArePhaseCursor (going_like Run stage) nodes components (called Run) kept.common
  pub runtime : ArePhaseCursor (going_like PreReset stage) nodes components (called PreReset) kept.runtime
