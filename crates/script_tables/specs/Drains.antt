-- The drain times that a script sets.
use Rattle.std.specs.Prelude.{◌≡◌, ◌≤◌, ◌^◌, ◌&&◌, ℕ, Bool, true, nat_eq, List, [], ◌∷◌, reverse, Option, Result, Ok, ok_or}
use Rattle.std.specs.Cmp.Lexicographic.{pointwise}
use Rattle.std.specs.List.{find}
use Rattle.std.specs.Option.{option_map_or}
use Rattle.toml.specs.Data.{Data, Members}
use Rattle.uvm_phase.specs.declared.phases.Phase.{Phase}
use Rattle.uvm_phase.specs.declared.phases.Phase.TheVariants.{Run}
use Rattle.uvm_phase.specs.Phases.{is_task, phase_name, runtime_phases, same_phase}
use Rattle.script_values.specs.declared.places.Column.TheVariants as column
use Rattle.script_values.specs.declared.places.TableArray.TheVariants as array
use Rattle.script_values.specs.declared.reasons.FaultyRow.{FaultyRow}
use Rattle.script_values.specs.declared.reasons.FaultyScript.{FaultyScript}
use Rattle.script_values.specs.declared.reasons.Reason.{Reason}
use Rattle.script_values.specs.declared.reasons.Reason.TheVariants.{NotTaskPhase}
use Rattle.script_tables.specs.declared.drains.Drain.{Drain}
use Rattle.script_values.specs.Reading.{and_then}
use Rattle.script_values.specs.Values.{is_same_text, text_in, number_in, path_in}
use Rattle.script_values.specs.Keys.{cell}
use Rattle.script_values.specs.Elements.{rows_from, elements_at, numbered, row_of}

-- the maximum drain time in ticks
abbrev pub most_drain : ℕ
most_drain = 10 ^ 15

-- the phase of a drain time takes time, and the drain time is in range
unfoldable pub CanDrain : Drain → Type 0
CanDrain drain = (is_task drain.phase ≡ true) × (drain.ticks ≤ most_drain)

-- the phase with this name, of those that take time: the run phase and the run-time phases
abbrev pub task_named : List ℕ → Option Phase
task_named word = find (λ phase. is_same_text word (phase_name phase)) (Run ∷ runtime_phases)

-- the phase that a value names, of those that take time; `NotTaskPhase` if it names no such phase
abbrev pub task_in : Data → Result Phase Reason
task_in value = and_then (text_in value) (λ word. ok_or (task_named word) NotTaskPhase)

-- the drain time that an element of the array `drain` gives
abbrev pub drain_row : Data → Result Drain FaultyRow
drain_row element =
    and_then (row_of array.Drain element) (λ table.
    and_then (cell column.Path path_in table) (λ path.
    and_then (cell column.Phase task_in table) (λ phase.
    and_then (cell column.Ticks (number_in most_drain) table) (λ ticks.
    Ok (record { path = path; phase = phase; ticks = ticks })))))

-- the drain times that a script gives in the array `drain`
abbrev pub drains_in : Members → Result (List Drain) FaultyScript
drains_in root = and_then (elements_at array.Drain root) (rows_from (numbered array.Drain (λ _. drain_row)) [])

-- whether a drain time is that of a phase and of the component at a path
abbrev pub is_drain_at : Phase → List (List ℕ) → Drain → Bool
is_drain_at phase path drain = same_phase drain.phase phase && pointwise (pointwise nat_eq) drain.path path

-- the drain time of a phase and a path in ticks: the last one that is given for them, or 0 if none is given
abbrev pub drain_given : List Drain → Phase → List (List ℕ) → ℕ
drain_given drains phase path = option_map_or (λ drain. drain.ticks) (find (is_drain_at phase path) (reverse drains)) 0
