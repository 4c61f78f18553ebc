-- Once connect has nothing left, nothing is connected any more.
use Rattle.bench_history.proofs.Common.{◌≡◌, ℕ, Bool, true, false, ◌&&◌, ◌||◌, List, [], ◌∷◌, reverse, take, Option, Some, None, is_none, refl, ap, ◌∙◌, subst, ◌==◌, nat_lt, filter, sym, arith, OrderKeepsAll, Call, nat_tests, is_kept, EventTarget, is_live, next_locked, next_served, list_any, Phase, Build, EndOfElaboration, StartOfSimulation, Run, Extract, Check, Report, Final, PreReset, Reset, PostReset, PreConfigure, Configure, PostConfigure, PreMain, Main, PostMain, PreShutdown, Shutdown, PostShutdown, is_task, same_phase, phase_number, Act, Fatal, Reason, Passage, Entry, End, Note, Over, ScriptValue, RunStage, Before, During, After, Ended, Event, act_phase, stage_of, remaining_acts, head_of, next_call, is_built, ends_build, ended_of, in_task, in_progress, reason_of, due_now, is_past_connect, ends_connect, next_unsound, next_passed, Next, Exactly, next_of, Allows, IsNext, EachIsNext, WiringStays, ConnectFollowsBuild, TasksFollowConnect, is_connect_last, is_in_connect, has_nothing_left, next_number, ending_order, is_run, TaskPhasesFollowConnect, LockExcludes, Connect}
use Rattle.bench_history.proofs.Living.{Stands, Runs, HasEnded}
use Rattle.bench_history.proofs.Called.{acting-stands}
use Rattle.bench_history.proofs.Ended.{nothing-comes}
use Rattle.bench_history.proofs.Living.{Stands, Runs, HasEnded}
use Rattle.bench_history.proofs.Called.{acting-stands}
use Rattle.bench_history.proofs.Phased.{one-of, phases_go_in_order}

-- what it is to have nothing left
record IsIdle (script : ScriptValue) (history : List Entry) : Type 0 where
  none_led : next_locked history ≡ None
  none_served : next_served history ≡ None
  none_passes : next_passed history ≡ None
  left : remaining_acts script history ≡ []
  none_due : due_now script history ≡ None
  no_call : next_call Connect history ≡ None

module _ (script : ScriptValue) (history : List Entry) where
  idle-passed :
      (passed : Option (ℕ × Passage)) (left : List Act) (due : Option Event) (call : Option ℕ) → next_locked history ≡ None → next_served history ≡ None
      → next_passed history ≡ passed → remaining_acts script history ≡ left → due_now script history ≡ due → next_call Connect history ≡ call
      → is_none passed && is_none (head_of left) && is_none due && is_none call ≡ true → IsIdle script history
  idle-passed None [] None None led served passes left due call e = record { none_led = led; none_served = served; none_passes = passes; left = left; none_due = due; no_call = call }
  idle-passed None [] None (Some node) led served passes left due call e = cc
  idle-passed None [] (Some event) None led served passes left due call e = cc
  idle-passed None [] (Some event) (Some node) led served passes left due call e = cc
  idle-passed None (act ∷ acts) event turn led served passes left due call e = cc
  idle-passed (Some passed) acts event turn led served passes left due call e = cc

  idle-of :
      (led : Option (ℕ × ℕ)) (served : Option (ℕ × Bool)) (passed : Option (ℕ × Passage)) (left : List Act) (due : Option Event) (call : Option ℕ) → next_locked history ≡ led → next_served history ≡ served
      → next_passed history ≡ passed → remaining_acts script history ≡ left → due_now script history ≡ due → next_call Connect history ≡ call
      → is_none led && is_none served && is_none passed && is_none (head_of left) && is_none due && is_none call ≡ true → IsIdle script history
  idle-of None None passed left due call led served passes is now turn e = idle-passed passed left due call led served passes is now turn e
  idle-of (Some one) None passed left due call led served passes is now turn e = cc
  idle-of None (Some one) passed left due call led served passes is now turn e = cc
  idle-of (Some one) (Some other) passed left due call led served passes is now turn e = cc

idle-is : (script : ScriptValue) (history : List Entry) → IsIdle script history → has_nothing_left script history ≡ true
idle-is script history idle = rw (idle.none_led, idle.none_served, idle.none_passes, idle.left, idle.none_due, idle.no_call) refl

-- where connect runs, and nothing is left, the run is given up, or a port is reported, or connect ends
abbrev end_or : Option Reason → Option (ℕ × Fatal) → Entry
end_or (Some reason) port = Over reason
end_or None (Some port) = Note port.1 port.0
end_or None None = End Connect

idle-next : (script : ScriptValue) (history : List Entry) → stage_of history ≡ During Connect → IsIdle script history → (reason : Option Reason) → reason_of script history ≡ reason → (port : Option (ℕ × Fatal)) → next_unsound history ≡ port
    → next_of script history ≡ Exactly (end_or reason port)
unfolding next_of is_kept
idle-next script history runs idle (Some reason) given port is = rw (runs, given) refl
idle-next script history runs idle None given (Some port) is = rw (runs, given, idle.none_led, idle.none_served, idle.none_passes, idle.left, idle.none_due, idle.no_call, is) refl
idle-next script history runs idle None given None is = rw (runs, given, idle.none_led, idle.none_served, idle.none_passes, idle.left, idle.none_due, idle.no_call, is) refl

-- and then it is still so
idle-more : (script : ScriptValue) (history : List Entry) (reason : Option Reason) (port : Option (ℕ × Fatal)) → IsIdle script history → has_nothing_left script history ≡ true → is_past_connect (end_or reason port ∷ history) ≡ false
    → is_connect_last (stage_of history) ≡ true → is_connect_last (stage_of (end_or reason port ∷ history)) && has_nothing_left script (end_or reason port ∷ history) ≡ true
unfolding due_now next_call next_passed next_locked next_served is_live
idle-more script history (Some reason) port idle nothing past last = nothing
idle-more script history None (Some port) idle nothing past last = rw (last, idle.none_led, idle.none_served, idle.none_passes, idle.none_due, idle.no_call) refl
idle-more script history None None idle nothing past last = cc

-- what is built stays so
built-more : (entry : Entry) (history : List Entry) → is_built history ≡ true → is_built (entry ∷ history) ≡ true
built-more entry history built = or-true (ends_build entry) built
  where
    or-true : {x : Bool} (b : Bool) → x ≡ true → b || x ≡ true
    or-true true e = refl
    or-true false e = e

past-before : (entry : Entry) (history : List Entry) → is_past_connect (entry ∷ history) ≡ false → is_past_connect history ≡ false
past-before entry history past = or-false (ends_connect entry) past
  where
    or-false : {x : Bool} (b : Bool) → b || x ≡ false → x ≡ false
    or-false true e = cc
    or-false false e = e

both : (a b : Bool) → a && b ≡ true → (a ≡ true) × (b ≡ true)
both true b e = (refl, e)
both false b e = cc

quiet-more : (script : ScriptValue) (history : List Entry) (entry : Entry) (stage : RunStage) → stage_of history ≡ stage → is_connect_last stage ≡ true → has_nothing_left script history ≡ true → IsNext script history entry → is_past_connect (entry ∷ history) ≡ false
    → is_connect_last (stage_of (entry ∷ history)) && has_nothing_left script (entry ∷ history) ≡ true
quiet-more script history entry Ended is last nothing next past = absurd (subst (λ (comes : Next). Allows comes entry) (nothing-comes script history is) next)
quiet-more script history entry (During Connect) is last nothing next past =
    let idle = idle-of script history (next_locked history) (next_served history) (next_passed history) (remaining_acts script history) (due_now script history) (next_call Connect history) refl refl refl refl refl refl nothing in
    let comes = idle-next script history is idle (reason_of script history) refl (next_unsound history) refl in
    let entry_is : entry ≡ end_or (reason_of script history) (next_unsound history) = subst (λ (comes : Next). Allows comes entry) comes next in
    let past' : is_past_connect (end_or (reason_of script history) (next_unsound history) ∷ history) ≡ false = rw (← entry_is) past in
    let last' : is_connect_last (stage_of history) ≡ true = rw is refl in
    rw entry_is (idle-more script history (reason_of script history) (next_unsound history) idle nothing past' last')
quiet-more script history entry stage is last nothing next past = cc

pub wiring_stays : WiringStays
wiring_stays script history entry next = record {
  stays = λ wired. record {
    built = built-more entry history wired.built;
    quiet = λ past.
        let before = past-before entry history past in
        let q = both (is_connect_last (stage_of history)) (has_nothing_left script history) (wired.quiet before) in
        quiet-more script history entry (stage_of history) refl q.0 q.1 next past;
  };
}

-- build has ended where it is among the phases that have
built-ended : (history : List Entry) → is_built history ≡ list_any (λ phase. ends_build (End phase)) (ended_of history)
built-ended [] = refl
built-ended (End phase ∷ history) = ap (λ b. ends_build (End phase) || b) (built-ended history)
built-ended (entry ∷ history) = built-ended history

-- and so it is where connect runs, or has just ended
build-first : (runtime : Bool) (stage : RunStage) (ended : List Phase) → is_in_connect stage ≡ true → ((stage ≡ Ended → ⊥) → ended ≡ reverse (filter (is_run runtime) (take (next_number stage) ending_order))) → list_any (λ phase. ends_build (End phase)) ended ≡ true
build-first runtime (During Connect) ended runs are = rw (are (λ e. cc)) refl
build-first runtime (After Connect) ended runs are = rw (are (λ e. cc)) refl
build-first runtime stage ended runs are = cc

pub connect_follows_build : ConnectFollowsBuild
connect_follows_build script history each runs = built-ended history ∙ build-first script.runtime (stage_of history) (ended_of history) runs (phases_go_in_order script history each).are

-- so has connect
past-ended : (history : List Entry) → is_past_connect history ≡ list_any (λ phase. ends_connect (End phase)) (ended_of history)
past-ended [] = refl
past-ended (End phase ∷ history) = ap (λ b. ends_connect (End phase) || b) (past-ended history)
past-ended (entry ∷ history) = past-ended history

-- a phase that takes time has one of these numbers
task-number : (phase : Phase) → is_task phase ≡ ((phase_number phase == 4) || nat_lt 8 (phase_number phase))
task-number Build = refl
task-number phase = refl

no-task : (phase : Phase) (n : ℕ) → is_task phase ≡ true → (phase_number phase == n) ≡ true → ((n == 4) || nat_lt 8 n) ≡ true
no-task phase n task same =
    let at : phase_number phase ≡ n = grind (arith, nat_tests, same) in
    subst (λ (k : ℕ). ((k == 4) || nat_lt 8 k) ≡ true) at (sym (task-number phase) ∙ task)

-- and connect has ended where one is in progress
task-after : (runtime : Bool) (stage : RunStage) (ended : List Phase) (phase : Phase) → is_task phase ≡ true → list_any (same_phase phase) (in_progress stage) ≡ true → ended ≡ reverse (filter (is_run runtime) (take (next_number stage) ending_order)) → list_any (λ one. ends_connect (End one)) ended ≡ true
task-after runtime Before ended phase task going are = cc
task-after runtime (During Build) ended phase task going are = let none : false ≡ true = no-task phase (phase_number Build) task (one-of (same_phase phase Build) going) in cc
task-after runtime (During Connect) ended phase task going are = let none : false ≡ true = no-task phase (phase_number Connect) task (one-of (same_phase phase Connect) going) in cc
task-after runtime (During EndOfElaboration) ended phase task going are = let none : false ≡ true = no-task phase (phase_number EndOfElaboration) task (one-of (same_phase phase EndOfElaboration) going) in cc
task-after runtime (During StartOfSimulation) ended phase task going are = let none : false ≡ true = no-task phase (phase_number StartOfSimulation) task (one-of (same_phase phase StartOfSimulation) going) in cc
task-after runtime (During Extract) ended phase task going are = let none : false ≡ true = no-task phase (phase_number Extract) task (one-of (same_phase phase Extract) going) in cc
task-after runtime (During Check) ended phase task going are = let none : false ≡ true = no-task phase (phase_number Check) task (one-of (same_phase phase Check) going) in cc
task-after runtime (During Report) ended phase task going are = let none : false ≡ true = no-task phase (phase_number Report) task (one-of (same_phase phase Report) going) in cc
task-after runtime (During Final) ended phase task going are = let none : false ≡ true = no-task phase (phase_number Final) task (one-of (same_phase phase Final) going) in cc
task-after runtime (During Run) ended phase task going are = rw are refl
task-after true (During PreReset) ended phase task going are = rw are refl
task-after false (During PreReset) ended phase task going are = rw are refl
task-after true (During Reset) ended phase task going are = rw are refl
task-after false (During Reset) ended phase task going are = rw are refl
task-after true (During PostReset) ended phase task going are = rw are refl
task-after false (During PostReset) ended phase task going are = rw are refl
task-after true (During PreConfigure) ended phase task going are = rw are refl
task-after false (During PreConfigure) ended phase task going are = rw are refl
task-after true (During Configure) ended phase task going are = rw are refl
task-after false (During Configure) ended phase task going are = rw are refl
task-after true (During PostConfigure) ended phase task going are = rw are refl
task-after false (During PostConfigure) ended phase task going are = rw are refl
task-after true (During PreMain) ended phase task going are = rw are refl
task-after false (During PreMain) ended phase task going are = rw are refl
task-after true (During Main) ended phase task going are = rw are refl
task-after false (During Main) ended phase task going are = rw are refl
task-after true (During PostMain) ended phase task going are = rw are refl
task-after false (During PostMain) ended phase task going are = rw are refl
task-after true (During PreShutdown) ended phase task going are = rw are refl
task-after false (During PreShutdown) ended phase task going are = rw are refl
task-after true (During Shutdown) ended phase task going are = rw are refl
task-after false (During Shutdown) ended phase task going are = rw are refl
task-after true (During PostShutdown) ended phase task going are = rw are refl
task-after false (During PostShutdown) ended phase task going are = rw are refl
task-after true (After PreReset) ended phase task going are = rw are refl
task-after false (After PreReset) ended phase task going are = rw are refl
task-after true (After Reset) ended phase task going are = rw are refl
task-after false (After Reset) ended phase task going are = rw are refl
task-after true (After PostReset) ended phase task going are = rw are refl
task-after false (After PostReset) ended phase task going are = rw are refl
task-after true (After PreConfigure) ended phase task going are = rw are refl
task-after false (After PreConfigure) ended phase task going are = rw are refl
task-after true (After Configure) ended phase task going are = rw are refl
task-after false (After Configure) ended phase task going are = rw are refl
task-after true (After PostConfigure) ended phase task going are = rw are refl
task-after false (After PostConfigure) ended phase task going are = rw are refl
task-after true (After PreMain) ended phase task going are = rw are refl
task-after false (After PreMain) ended phase task going are = rw are refl
task-after true (After Main) ended phase task going are = rw are refl
task-after false (After Main) ended phase task going are = rw are refl
task-after true (After PostMain) ended phase task going are = rw are refl
task-after false (After PostMain) ended phase task going are = rw are refl
task-after true (After PreShutdown) ended phase task going are = rw are refl
task-after false (After PreShutdown) ended phase task going are = rw are refl
task-after true (After Shutdown) ended phase task going are = rw are refl
task-after false (After Shutdown) ended phase task going are = rw are refl
task-after true (After PostShutdown) ended phase task going are = rw are refl
task-after false (After PostShutdown) ended phase task going are = rw are refl
task-after runtime (After last) ended phase task going are = cc
task-after runtime Ended ended phase task going are = cc

-- or where one has ended
task-ended : (runtime : Bool) (stage : RunStage) (ended : List Phase) (phase : Phase) → (stage ≡ Ended → ⊥) → is_task phase ≡ true → ended ≡ reverse (filter (is_run runtime) (take (next_number stage) ending_order)) → list_any (same_phase phase) ended ≡ true → list_any (λ one. ends_connect (End one)) ended ≡ true
task-ended runtime Before ended phase on task are has = let none : false ≡ true = rw are at has in cc
task-ended runtime (During Build) ended phase on task are has = let none : false ≡ true = rw are at has in cc
task-ended runtime (After Build) ended phase on task are has = let one : same_phase phase Build || false ≡ true = rw are at has in let none : false ≡ true = no-task phase 0 task (one-of (same_phase phase Build) one) in cc
task-ended runtime (During Connect) ended phase on task are has = let one : same_phase phase Build || false ≡ true = rw are at has in let none : false ≡ true = no-task phase 0 task (one-of (same_phase phase Build) one) in cc
task-ended true (During EndOfElaboration) ended phase on task are has = rw are refl
task-ended false (During EndOfElaboration) ended phase on task are has = rw are refl
task-ended true (During StartOfSimulation) ended phase on task are has = rw are refl
task-ended false (During StartOfSimulation) ended phase on task are has = rw are refl
task-ended true (During Run) ended phase on task are has = rw are refl
task-ended false (During Run) ended phase on task are has = rw are refl
task-ended true (During Extract) ended phase on task are has = rw are refl
task-ended false (During Extract) ended phase on task are has = rw are refl
task-ended true (During Check) ended phase on task are has = rw are refl
task-ended false (During Check) ended phase on task are has = rw are refl
task-ended true (During Report) ended phase on task are has = rw are refl
task-ended false (During Report) ended phase on task are has = rw are refl
task-ended true (During Final) ended phase on task are has = rw are refl
task-ended false (During Final) ended phase on task are has = rw are refl
task-ended true (During PreReset) ended phase on task are has = rw are refl
task-ended false (During PreReset) ended phase on task are has = rw are refl
task-ended true (During Reset) ended phase on task are has = rw are refl
task-ended false (During Reset) ended phase on task are has = rw are refl
task-ended true (During PostReset) ended phase on task are has = rw are refl
task-ended false (During PostReset) ended phase on task are has = rw are refl
task-ended true (During PreConfigure) ended phase on task are has = rw are refl
task-ended false (During PreConfigure) ended phase on task are has = rw are refl
task-ended true (During Configure) ended phase on task are has = rw are refl
task-ended false (During Configure) ended phase on task are has = rw are refl
task-ended true (During PostConfigure) ended phase on task are has = rw are refl
task-ended false (During PostConfigure) ended phase on task are has = rw are refl
task-ended true (During PreMain) ended phase on task are has = rw are refl
task-ended false (During PreMain) ended phase on task are has = rw are refl
task-ended true (During Main) ended phase on task are has = rw are refl
task-ended false (During Main) ended phase on task are has = rw are refl
task-ended true (During PostMain) ended phase on task are has = rw are refl
task-ended false (During PostMain) ended phase on task are has = rw are refl
task-ended true (During PreShutdown) ended phase on task are has = rw are refl
task-ended false (During PreShutdown) ended phase on task are has = rw are refl
task-ended true (During Shutdown) ended phase on task are has = rw are refl
task-ended false (During Shutdown) ended phase on task are has = rw are refl
task-ended true (During PostShutdown) ended phase on task are has = rw are refl
task-ended false (During PostShutdown) ended phase on task are has = rw are refl
task-ended true (After Connect) ended phase on task are has = rw are refl
task-ended false (After Connect) ended phase on task are has = rw are refl
task-ended true (After EndOfElaboration) ended phase on task are has = rw are refl
task-ended false (After EndOfElaboration) ended phase on task are has = rw are refl
task-ended true (After StartOfSimulation) ended phase on task are has = rw are refl
task-ended false (After StartOfSimulation) ended phase on task are has = rw are refl
task-ended true (After Run) ended phase on task are has = rw are refl
task-ended false (After Run) ended phase on task are has = rw are refl
task-ended true (After Extract) ended phase on task are has = rw are refl
task-ended false (After Extract) ended phase on task are has = rw are refl
task-ended true (After Check) ended phase on task are has = rw are refl
task-ended false (After Check) ended phase on task are has = rw are refl
task-ended true (After Report) ended phase on task are has = rw are refl
task-ended false (After Report) ended phase on task are has = rw are refl
task-ended true (After Final) ended phase on task are has = rw are refl
task-ended false (After Final) ended phase on task are has = rw are refl
task-ended true (After PreReset) ended phase on task are has = rw are refl
task-ended false (After PreReset) ended phase on task are has = rw are refl
task-ended true (After Reset) ended phase on task are has = rw are refl
task-ended false (After Reset) ended phase on task are has = rw are refl
task-ended true (After PostReset) ended phase on task are has = rw are refl
task-ended false (After PostReset) ended phase on task are has = rw are refl
task-ended true (After PreConfigure) ended phase on task are has = rw are refl
task-ended false (After PreConfigure) ended phase on task are has = rw are refl
task-ended true (After Configure) ended phase on task are has = rw are refl
task-ended false (After Configure) ended phase on task are has = rw are refl
task-ended true (After PostConfigure) ended phase on task are has = rw are refl
task-ended false (After PostConfigure) ended phase on task are has = rw are refl
task-ended true (After PreMain) ended phase on task are has = rw are refl
task-ended false (After PreMain) ended phase on task are has = rw are refl
task-ended true (After Main) ended phase on task are has = rw are refl
task-ended false (After Main) ended phase on task are has = rw are refl
task-ended true (After PostMain) ended phase on task are has = rw are refl
task-ended false (After PostMain) ended phase on task are has = rw are refl
task-ended true (After PreShutdown) ended phase on task are has = rw are refl
task-ended false (After PreShutdown) ended phase on task are has = rw are refl
task-ended true (After Shutdown) ended phase on task are has = rw are refl
task-ended false (After Shutdown) ended phase on task are has = rw are refl
task-ended true (After PostShutdown) ended phase on task are has = rw are refl
task-ended false (After PostShutdown) ended phase on task are has = rw are refl
task-ended runtime Ended ended phase on task are has = absurd (on refl)

task-stands : (script : ScriptValue) (history : List Entry) (phase : Phase) → EachIsNext script history → (stage_of history ≡ Ended → ⊥) → is_task phase ≡ true → Stands history phase → is_past_connect history ≡ true
task-stands script history phase each on task (Runs runs) =
    let order = phases_go_in_order script history each in
    past-ended history ∙ task-after script.runtime (stage_of history) (ended_of history) phase task runs (order.are on)
task-stands script history phase each on task (HasEnded has) =
    let order = phases_go_in_order script history each in
    past-ended history ∙ task-ended script.runtime (stage_of history) (ended_of history) phase on task (order.are on) has

-- so it has where an act belongs to one
acting-task : (script : ScriptValue) (history : List Entry) (acting : Option Phase) → EachIsNext script history → (stage_of history ≡ Ended → ⊥) → in_task acting ≡ true → ((phase : Phase) → acting ≡ Some phase → Stands history phase) → is_past_connect history ≡ true
acting-task script history None each on task stands = cc
acting-task script history (Some phase) each on task stands = task-stands script history phase each on task (stands phase refl)

pub task_phases_follow_connect : TaskPhasesFollowConnect
task_phases_follow_connect script history phase each going task = task-stands script history phase each on task (Runs going)
  where
    on : stage_of history ≡ Ended → ⊥
    on ended = let none : false ≡ true = ap (λ stage. list_any (same_phase phase) (in_progress stage)) (sym ended) ∙ going in cc

module _ (keeps : OrderKeepsAll EventTarget (Option Call)) (excludes : LockExcludes) where
  pub tasks_follow_connect : TasksFollowConnect
  tasks_follow_connect script history each on task = acting-task script history (act_phase history) each on task (acting-stands keeps excludes script history each on)
