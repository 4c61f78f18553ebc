-- The objections of the phases that take time: that of the run phase, then one for all run-time phases, or one for each of them.
use Rattle.std.specs.Prelude.{◌≡◌, ◌≤◌, ◌-◌, ◌==◌, ◌⊎◌, ℕ, true, false, List, [], ◌∷◌, ◌++◌, All, Option, Some, None, length, slice_get, if◌then◌else◌}
use Rattle.std.specs.Option.{option_map_or, option_or}
use Rattle.uvm_phase.specs.declared.phases.Phase.{Phase}
use Rattle.uvm_phase.specs.Phases.{is_task, phase_number}
use Rattle.script_tables.specs.declared.drains.Drain.{Drain}
use Rattle.script_tables.specs.Drains.{CanDrain, drain_given, is_drain_at}
use Rattle.uvm_objection.specs.Nodes.{ObjectionValue, dropped, due_of, new_node, raised, released, with_drain}
use Rattle.uvm_objection.specs.Totals.{settled, total}
use Rattle.uvm_objection.specs.Nodes as objection

-- the objection of a place: the one that is stored there, otherwise the second
abbrev pub one_at : List ObjectionValue → ℕ → Option ObjectionValue
one_at objections place = option_or (slice_get objections place) (slice_get objections 1)

-- the nodes of the objection of a place
abbrev pub nodes_at : List ObjectionValue → ℕ → List objection.Node
nodes_at objections place = option_map_or (λ one. one.nodes) (one_at objections place) []

-- for how many more nodes the objection of a place has reserved capacity
abbrev pub spare_at : List ObjectionValue → ℕ → ℕ
spare_at objections place = option_map_or (λ one. one.spare) (one_at objections place) 0

-- the place of a phase: the run phase has the first, and the run-time phases follow it, in their order
abbrev pub place_in : Phase → ℕ
place_in phase = phase_number phase - 8

-- a place has an objection that no other place shares: the first always has, and each has if there are thirteen
abbrev pub HasOwnPlace : ℕ → List ObjectionValue → Type 0
HasOwnPlace place objections = (place ≡ 0) ⊎ (length objections ≡ 13)

-- the objection that is stored at a place may change, and no other
abbrev pub OthersStayAt : ℕ → List ObjectionValue → List ObjectionValue → Type 0
OthersStayAt place old new = (other : ℕ) → (place == other) ≡ false → slice_get new other ≡ slice_get old other

-- the value that contracts see: the objections, and the drain times that a script gives, in its order
pub record ObjectionsValue : Type 0 where
  pub each : List ObjectionValue
  pub given : List Drain

-- the nodes of the objection of a phase
abbrev pub nodes_in : ObjectionsValue → Phase → List objection.Node
nodes_in objections phase = nodes_at objections.each (place_in phase)

-- for how many more nodes the objection of a phase has reserved capacity
abbrev pub spare_in : ObjectionsValue → Phase → ℕ
spare_in objections phase = spare_at objections.each (place_in phase)

-- a phase has an objection that no other phase shares
abbrev pub HasOwn : Phase → ObjectionsValue → Type 0
HasOwn phase objections = HasOwnPlace (place_in phase) objections.each

-- the objection of one phase may change, and no other
abbrev pub OthersStay : Phase → ObjectionsValue → ObjectionsValue → Type 0
OthersStay phase old new = (other : Phase) → (place_in phase == place_in other) ≡ false → nodes_in new other ≡ nodes_in old other

-- no objection changes
abbrev pub SameNodes : ObjectionsValue → ObjectionsValue → Type 0
SameNodes old new = (phase : Phase) → nodes_in new phase ≡ nodes_in old phase

-- the nodes after a raise at a node, at a time
abbrev pub after_raise : ℕ → ℕ → ℕ → List objection.Node → List objection.Node
after_raise time node count nodes = settled time (total nodes) (raised node count nodes)

-- the nodes after a drop at a node, at a time
abbrev pub after_drop : ℕ → ℕ → ℕ → List objection.Node → List objection.Node
after_drop time node count nodes = settled time (total nodes) (dropped node count nodes)

-- the nodes after the end of a node's drain, at the time when it is due
abbrev pub after_drain : ℕ → List objection.Node → List objection.Node
after_drain node nodes = settled (due_of node nodes) (total nodes) (released node nodes)

-- a drain time of the script, if it is for this phase and this path, becomes that of the node
abbrev pub given_by : Option Drain → Phase → List (List ℕ) → ℕ → List objection.Node → List objection.Node
given_by None phase path node nodes = nodes
given_by (Some drain) phase path node nodes = if is_drain_at phase path drain then with_drain node drain.ticks nodes else nodes

-- each phase that takes time has one more node below a parent, with the drain time that is given for its path
abbrev pub HasNode : ℕ → ℕ → List (List ℕ) → ObjectionsValue → ObjectionsValue → Type 0
HasNode node parent path old new = (phase : Phase) → is_task phase ≡ true → nodes_in new phase ≡ with_drain node (drain_given old.given phase path) (nodes_in old phase ++ new_node node parent ∷ [])

-- from two to thirteen objections are stored, and drain times, each for a phase that has an objection of its own
pub record AreKept (each : List ObjectionValue) (given : List Drain) : Type 0 where
  pub least : 2 ≤ length each
  pub most : length each ≤ 13
  pub sound : All CanDrain given
  pub own : All (λ drain. HasOwnPlace (place_in drain.phase) each) given
