-- What a raise, a drop and a drain time make of the objections.
use Rattle.world_acts_tree.proofs.Common.{◌≡◌, ◌≤◌, ℕ, suc, Bool, true, false, not, List, ◌∷◌, Option, Some, refl, ap, ◌∙◌, arith, if◌then◌else◌, Drain, ScriptValue, Phase, is_task, same_phase, dropped, raised, with_drain, IsHeldUntilDue, NodesGrow, PlacesStay, settled, total, node_of, Who, Act, DropObjection, RaiseObjection, Entry, Did, Done, act_phase, now_of, in_task, is_of_phase, given_below, objections_after, objections_of, Event, ObjectionsValue, nodes_in, AreEvents, IsObjecting, events-all, held-with-drain, objecting-changed, objecting-later, objecting-same, AreObjecting, ChangesOne}
use Rattle.uvm_objection.specs.Nodes.{Node}
use Rattle.world_services.proofs.Settling.{itself}

-- where the act is of a phase
module _ (history : List Entry) (phase : Phase) (performer : Who) (acts : act_phase history ≡ Some phase) where
  after : (script : ScriptValue) (other : Phase) (act : Act) → objections_of script other (Did performer Done act ∷ history) ≡ objections_after (now_of history) (same_phase phase other) (not (is_task phase)) (given_below script other history performer) (objections_of script other history) performer Done act
  after script other act = ap (λ (acting : Option Phase). objections_after (now_of history) (is_of_phase other acting) (not (in_task acting)) (given_below script other history performer) (objections_of script other history) performer Done act) acts

  pub raise-changes : (script : ScriptValue) (count : ℕ) → ChangesOne script history (Did performer Done (RaiseObjection count)) phase (settled (now_of history) (total (objections_of script phase history)) (raised (node_of performer) count (objections_of script phase history)))
  raise-changes script count = record {
    one = rw (after script phase (RaiseObjection count), itself phase) refl;
    rest = λ other apart. rw (after script other (RaiseObjection count), apart) refl;
  }

  pub drop-changes : (script : ScriptValue) (count : ℕ) → ChangesOne script history (Did performer Done (DropObjection count)) phase (settled (now_of history) (total (objections_of script phase history)) (dropped (node_of performer) count (objections_of script phase history)))
  drop-changes script count = record {
    one = rw (after script phase (DropObjection count), itself phase) refl;
    rest = λ other apart. rw (after script other (DropObjection count), apart) refl;
  }

-- a drain time is set in the objection of some phases
module _ (node ticks : ℕ) (nodes : Phase → List Node) (is_set : Phase → Bool) where
  drained : Phase → List Node
  drained phase = if is_set phase then with_drain node ticks (nodes phase) else nodes phase

  pub drained-events : (events : List Event) → AreEvents nodes events → AreEvents (λ phase. if is_set phase then with_drain node ticks (nodes phase) else nodes phase) events
  unfolding drained
  drained-events events all = events-all nodes drained events (λ phase k at. tested phase k at (is_set phase)) all
    where
      tested : (phase : Phase) (k at : ℕ) (t : Bool) → IsHeldUntilDue (nodes phase) (record { node = k; at = at }) → IsHeldUntilDue (if t then with_drain node ticks (nodes phase) else nodes phase) (record { node = k; at = at })
      tested phase k at true held = held-with-drain node ticks k at (nodes phase) held
      tested phase k at false held = held

  pub drained-objections :
      {drains : List Drain} {count entries : ℕ} {old : ObjectionsValue} (new : ObjectionsValue) → PlacesStay → NodesGrow → AreObjecting drains nodes count entries old → new.given ≡ old.given
      → ((phase : Phase) → is_task phase ≡ true → nodes_in new phase ≡ (if is_set phase then with_drain node ticks (nodes_in old phase) else nodes_in old phase))
      → AreObjecting drains (λ phase. if is_set phase then with_drain node ticks (nodes phase) else nodes phase) count (suc entries) new
  drained-objections {count = count} {entries} {old} new stay grow o stays is = record { given = stays ∙ o.given; each = λ phase task. tested phase (is_set phase) (o.each phase task) (is phase task) }
    where
      tested :
          (phase : Phase) (t : Bool) → IsObjecting (nodes phase) count entries (nodes_in old phase) → nodes_in new phase ≡ (if t then with_drain node ticks (nodes_in old phase) else nodes_in old phase)
          → IsObjecting (if t then with_drain node ticks (nodes phase) else nodes phase) count (suc entries) (nodes_in new phase)
      tested phase true was is =
          let low : 0 ≤ 65535 = omega arith in
          objecting-changed (nodes_in new phase) (with_drain node ticks (nodes phase)) stay (stay.with_drain node ticks (nodes phase)) was (is ∙ ap (λ (ns : List Node). with_drain node ticks ns) was.are) 0 low ((grow.1 (nodes phase) was.are_nodes).with_drain node ticks)
      tested phase false was is = objecting-later (objecting-same (nodes_in new phase) is was)
