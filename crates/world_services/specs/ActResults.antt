-- The result of an attempt to perform an action.
use Rattle.std.specs.Prelude.{◌≡◌, ℕ, ◌<◌, ◌≤◌, ◌+◌, true, false, ◌==◌, ◌||◌, ◌^◌, List, ◌∷◌, length, Option, None, ◌⊎◌}
use Rattle.uvm_tree.specs.Nodes.{path_at}
use Rattle.uvm_acts.specs.Acts.{node_of}
use Rattle.uvm_object.specs.Fatals.{fatal_report}
use Rattle.uvm_acts.specs.declared.acts.Who.{Who}
use Rattle.uvm_acts.specs.declared.acts.Act.{Act}
use Rattle.uvm_object.specs.declared.fatals.Fatal.{Fatal}
use Rattle.uvm_object.specs.declared.entries.Entry.{Entry}
use Rattle.uvm_object.specs.declared.entries.Entry.TheVariants.{Did}
use Rattle.uvm_object.specs.declared.entries.Outcome.{Outcome}
use Rattle.bench_script.specs.Scripts.{ScriptValue}
use Rattle.world_services.specs.declared.act_results.ActResult.{ActResult}
use Rattle.world_services.specs.declared.act_results.ActResult.TheVariants.{Completed, Needed}
use Rattle.world_services.specs.declared.services.Services.{Services}
use Rattle.bench_history.specs.History.{test_creation, remaining_acts, rest_of, performer_of, in_task}
use Rattle.world_state.specs.ReportsMatch.{CanReport, IsReported}
use Rattle.uvm_phase.specs.declared.phases.Phase.{Phase}
use Rattle.world_state.specs.Phased.{nodes_in}
use Rattle.world_state.specs.ObjectionsMatch.{AreNumbered}
use Rattle.uvm_objection.specs.Totals.{total}
use Rattle.uvm_tlm.specs.Wirings.{end_at, is_closed, late_fault}
use Rattle.world_sequencing.specs.GrantIndexes.{AreKnown}
use Rattle.world_sequencing.specs.SequencesMatch.{home_for}
use Rattle.bench_history.specs.Cases.{Next, Exactly, Need, by_act, by_open}
use Rattle.bench_history.specs.Next.{EachIsNext}
use Rattle.bench_history.specs.Laws.{AreActsInPhase, IsDriving, IsSettled, IsThere}
use Rattle.world_services.specs.Services.{ServicesMatch}
use Rattle.bench_history.specs.declared.needs.Need as needs

-- an action can be performed. Its performer is at a node of the tree, the objections know all nodes, and one more report and one more raise can be
-- counted. The wiring is open before the ends of build and connect, and closed in phases that take time. The next node is no end of the wiring, and
-- requests that are known to be blocked are blocked
pub record CanPerform (services : Services) : Type 0 where
  pub speaks : node_of services.answer.performer < length services.tree.nodes
  pub numbered : (phase : Phase) → AreNumbered (nodes_in services.objections phase) (length services.tree.nodes)
  pub report : CanReport services.report_state
  pub few : (phase : Phase) → total (nodes_in services.objections phase) 0 + 65535 ≤ 10 ^ 18
  pub time : services.time ≤ 10 ^ 18
  pub building : services.built ≡ false → late_fault services.wiring ≡ None
  pub connectable : services.past_connect ≡ false → late_fault services.wiring ≡ None
  pub unused : end_at services.wiring.ends (length services.tree.nodes) ≡ None
  pub closed : in_task services.answer.phase ≡ true → is_closed services.wiring ≡ true
  pub known : AreKnown services.sequences.started services.arbiters services.grant_index

-- an action of the last answer is the next to perform, on a legal log which the services match. No transfer and no grant is pending, its phase is
-- active, and its performer is active or it creates the test. The drivers of the sequencers are as `IsDriving` states, and the entry of the action
-- gets this place
pub record IsActContext (script : ScriptValue) (history : List Entry) (act : Act) (place : ℕ) (services : Services) : Type 0 where
  pub each : EachIsNext script history
  pub known : ServicesMatch script history services
  pub settled : IsSettled history
  pub left : remaining_acts script history ≡ act ∷ rest_of (remaining_acts script history)
  pub place_is : length history ≡ place
  pub in_phase : AreActsInPhase script history act
  pub there : (act ≡ test_creation script) ⊎ IsThere history (performer_of history)
  pub driving : IsDriving history

-- after an action is refused: its fatal report is issued at the performer's path, and the test is refused if the performer is the root; nothing
-- else changes
pub record IsRefusing (fatal : Fatal) (old new : Services) : Type 0 where
  pub rest : new ≡ record old { report_state = new.report_state; test_refused = node_of old.answer.performer == 0 || old.test_refused }
  pub report_state : IsReported (path_at old.tree.nodes (node_of old.answer.performer)) (fatal_report fatal) old.report_state new.report_state

-- after an action that is performed without a report
abbrev pub unreported : Services → Services
unreported services = record services { report_state = record services.report_state { newest = None } }

-- after one more action of the answer
abbrev pub one_done : Services → Services
one_done services = record services { answer = record services.answer { done = services.answer.done + 1 } }

-- the services match the log with the entry of the action, once its action is counted; the answer cursor is the same, except for `noted`
pub record PreservesMatchByAct (act : Act) (outcome : Outcome) (place : ℕ) (old new : Services) : Type 0 where
  pub same_answer : new.answer ≡ record old.answer { noted = new.answer.noted }
  pub with_entry : (script : ScriptValue) (history : List Entry) → IsActContext script history act place old → ServicesMatch script (Did old.answer.performer outcome act ∷ history) (one_done new)

-- how the next entry or need follows from an action of a performer: `by_act` for any action, `by_open` for one that is open to its performer
abbrev pub ComesBy : Type 0
ComesBy = ScriptValue → List Entry → Who → Act → Next

-- an action is performed or refused with this outcome: the log demands exactly this entry, and the services match the log that has it
pub record IsPerformed (by : ComesBy) (act : Act) (outcome : Outcome) (place : ℕ) (old new : Services) : Type 0 where
  pub comes : (script : ScriptValue) (history : List Entry) → IsActContext script history act place old → by script history old.answer.performer act ≡ Exactly (Did old.answer.performer outcome act)
  pub kept : PreservesMatchByAct act outcome place old new

-- an action needs an object first, as the log demands; for a sequence `home` is its sequencer. Nothing has changed
pub record IsInNeed (by : ComesBy) (act : Act) (need : needs.Need) (home : Option ℕ) (place : ℕ) (old new : Services) : Type 0 where
  pub comes : (script : ScriptValue) (history : List Entry) → IsActContext script history act place old → (made : Outcome) × (by script history old.answer.performer act ≡ Need need made old.answer.performer act)
  pub home_is : home ≡ home_for old.tree.nodes old.answer.performer act
  pub same : new ≡ old

-- what holds after an attempt to perform an action: `IsPerformed` if it is completed, `IsInNeed` if it needs an object
abbrev pub IsTried : ComesBy → Act → ActResult → ℕ → Services → Services → Type 0
IsTried by act (Completed outcome) place old new = IsPerformed by act outcome place old new
IsTried by act (Needed need home) place old new = IsInNeed by act need home place old new

-- `IsTried` for an action that is open to its performer
abbrev pub IsActResult : Act → ActResult → ℕ → Services → Services → Type 0
IsActResult act act_result place old new = IsTried by_open act act_result place old new

-- `IsTried` for any action
abbrev pub IsActResultOfAny : Act → ActResult → ℕ → Services → Services → Type 0
IsActResultOfAny act act_result place old new = IsTried by_act act act_result place old new
