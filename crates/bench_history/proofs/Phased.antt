-- The phases go in their order.
use Rattle.bench_history.proofs.Common.{◌≡◌, ◌||◌, ◌==◌, ◌⊎◌, ℕ, ◌+◌, ◌<◌, ◌≤◌, true, false, List, [], ◌∷◌, reverse, take, Some, inl, inr, refl, ap, ◌∙◌, arith, Bool, None, filter, list_any, nat_tests, All-nil, All-cons, All-weaker, Phase, Build, EndOfElaboration, StartOfSimulation, Run, Extract, Check, Report, Final, PreReset, Reset, PostReset, PreConfigure, Configure, PostConfigure, PreMain, Main, PostMain, PreShutdown, Shutdown, PostShutdown, phase_number, same_phase, Entry, Begin, End, Over, ScriptValue, RunStage, Before, During, After, Ended, ended_of, in_progress, running, stage_of, phase_to_begin, IsNext, ArePhasesInOrder, PhasesGoInOrder, PhasesInProgressAreOpen, end_number, ending_order, is_run, is_run_at, next_number, Connect}
use Rattle.bench_history.proofs.Inversion.{comes}

-- the phase that begins is the one that may begin next
begin-number : (runtime : Bool) (stage : RunStage) (phase : Phase) → is_run_at runtime stage ≡ true → phase_to_begin runtime stage ≡ Some phase → (next_number (During phase) ≡ next_number stage) × (is_run runtime phase ≡ true)
begin-number runtime Before phase c e = let same : Build ≡ phase = cc in rw (← same) (refl, refl)
begin-number true (During Run) phase c e = let same : PreReset ≡ phase = cc in rw (← same) (refl, refl)
begin-number false (During Run) phase c e = cc
begin-number runtime (During running) phase c e = cc
begin-number runtime (After Build) phase c e = let same : Connect ≡ phase = cc in rw (← same) (refl, refl)
begin-number runtime (After Connect) phase c e = let same : EndOfElaboration ≡ phase = cc in rw (← same) (refl, refl)
begin-number runtime (After EndOfElaboration) phase c e = let same : StartOfSimulation ≡ phase = cc in rw (← same) (refl, refl)
begin-number runtime (After StartOfSimulation) phase c e = let same : Run ≡ phase = cc in rw (← same) (refl, refl)
begin-number runtime (After Run) phase c e = let same : Extract ≡ phase = cc in rw (← same) (refl, refl)
begin-number runtime (After Extract) phase c e = let same : Check ≡ phase = cc in rw (← same) (refl, refl)
begin-number runtime (After Check) phase c e = let same : Report ≡ phase = cc in rw (← same) (refl, refl)
begin-number runtime (After Report) phase c e = let same : Final ≡ phase = cc in rw (← same) (refl, refl)
begin-number true (After PreReset) phase c e = let same : Reset ≡ phase = cc in rw (← same) (refl, refl)
begin-number false (After PreReset) phase c e = cc
begin-number true (After Reset) phase c e = let same : PostReset ≡ phase = cc in rw (← same) (refl, refl)
begin-number false (After Reset) phase c e = cc
begin-number true (After PostReset) phase c e = let same : PreConfigure ≡ phase = cc in rw (← same) (refl, refl)
begin-number false (After PostReset) phase c e = cc
begin-number true (After PreConfigure) phase c e = let same : Configure ≡ phase = cc in rw (← same) (refl, refl)
begin-number false (After PreConfigure) phase c e = cc
begin-number true (After Configure) phase c e = let same : PostConfigure ≡ phase = cc in rw (← same) (refl, refl)
begin-number false (After Configure) phase c e = cc
begin-number true (After PostConfigure) phase c e = let same : PreMain ≡ phase = cc in rw (← same) (refl, refl)
begin-number false (After PostConfigure) phase c e = cc
begin-number true (After PreMain) phase c e = let same : Main ≡ phase = cc in rw (← same) (refl, refl)
begin-number false (After PreMain) phase c e = cc
begin-number true (After Main) phase c e = let same : PostMain ≡ phase = cc in rw (← same) (refl, refl)
begin-number false (After Main) phase c e = cc
begin-number true (After PostMain) phase c e = let same : PreShutdown ≡ phase = cc in rw (← same) (refl, refl)
begin-number false (After PostMain) phase c e = cc
begin-number true (After PreShutdown) phase c e = let same : Shutdown ≡ phase = cc in rw (← same) (refl, refl)
begin-number false (After PreShutdown) phase c e = cc
begin-number true (After Shutdown) phase c e = let same : PostShutdown ≡ phase = cc in rw (← same) (refl, refl)
begin-number false (After Shutdown) phase c e = cc
begin-number runtime (After last) phase c e = cc
begin-number runtime Ended phase c e = cc

begin-on : (runtime : Bool) (stage : RunStage) (phase : Phase) → phase_to_begin runtime stage ≡ Some phase → stage ≡ Ended → ⊥
begin-on runtime Before phase may ended = cc
begin-on runtime (During running) phase may ended = cc
begin-on runtime (After last) phase may ended = cc
begin-on runtime Ended phase may ended = cc

ended-not : (stage : RunStage) (phase : Phase) → running stage ≡ Some phase → stage ≡ Ended → ⊥
ended-not Before phase runs e = cc
ended-not (During other) phase runs e = cc
ended-not (After other) phase runs e = cc
ended-not Ended phase runs e = cc

few : (stage : RunStage) → next_number stage ≤ 21
few Before = omega arith
few (During Build) = omega arith
few (During phase) = omega arith
few (After Build) = omega arith
few (After phase) = omega arith
few Ended = omega arith

-- a phase that ends is the next of those that are run
ends-next :
    (runtime : Bool) (stage : RunStage) (phase : Phase) → is_run_at runtime stage ≡ true → running stage ≡ Some phase → phase_to_begin runtime stage ≡ None
    → phase ∷ reverse (filter (is_run runtime) (take (next_number stage) ending_order)) ≡ reverse (filter (is_run runtime) (take (end_number phase + 1) ending_order))
ends-next runtime Before phase c runs none = cc
ends-next true (During Run) phase c runs none = cc
ends-next true (During Build) phase c runs none = let same : Build ≡ phase = cc in rw (← same) refl
ends-next true (During Connect) phase c runs none = let same : Connect ≡ phase = cc in rw (← same) refl
ends-next true (During EndOfElaboration) phase c runs none = let same : EndOfElaboration ≡ phase = cc in rw (← same) refl
ends-next true (During StartOfSimulation) phase c runs none = let same : StartOfSimulation ≡ phase = cc in rw (← same) refl
ends-next true (During Extract) phase c runs none = let same : Extract ≡ phase = cc in rw (← same) refl
ends-next true (During Check) phase c runs none = let same : Check ≡ phase = cc in rw (← same) refl
ends-next true (During Report) phase c runs none = let same : Report ≡ phase = cc in rw (← same) refl
ends-next true (During Final) phase c runs none = let same : Final ≡ phase = cc in rw (← same) refl
ends-next true (During PreReset) phase c runs none = let same : PreReset ≡ phase = cc in rw (← same) refl
ends-next true (During Reset) phase c runs none = let same : Reset ≡ phase = cc in rw (← same) refl
ends-next true (During PostReset) phase c runs none = let same : PostReset ≡ phase = cc in rw (← same) refl
ends-next true (During PreConfigure) phase c runs none = let same : PreConfigure ≡ phase = cc in rw (← same) refl
ends-next true (During Configure) phase c runs none = let same : Configure ≡ phase = cc in rw (← same) refl
ends-next true (During PostConfigure) phase c runs none = let same : PostConfigure ≡ phase = cc in rw (← same) refl
ends-next true (During PreMain) phase c runs none = let same : PreMain ≡ phase = cc in rw (← same) refl
ends-next true (During Main) phase c runs none = let same : Main ≡ phase = cc in rw (← same) refl
ends-next true (During PostMain) phase c runs none = let same : PostMain ≡ phase = cc in rw (← same) refl
ends-next true (During PreShutdown) phase c runs none = let same : PreShutdown ≡ phase = cc in rw (← same) refl
ends-next true (During Shutdown) phase c runs none = let same : Shutdown ≡ phase = cc in rw (← same) refl
ends-next true (During PostShutdown) phase c runs none = let same : PostShutdown ≡ phase = cc in rw (← same) refl
ends-next false (During Build) phase c runs none = let same : Build ≡ phase = cc in rw (← same) refl
ends-next false (During Connect) phase c runs none = let same : Connect ≡ phase = cc in rw (← same) refl
ends-next false (During EndOfElaboration) phase c runs none = let same : EndOfElaboration ≡ phase = cc in rw (← same) refl
ends-next false (During StartOfSimulation) phase c runs none = let same : StartOfSimulation ≡ phase = cc in rw (← same) refl
ends-next false (During Run) phase c runs none = let same : Run ≡ phase = cc in rw (← same) refl
ends-next false (During Extract) phase c runs none = let same : Extract ≡ phase = cc in rw (← same) refl
ends-next false (During Check) phase c runs none = let same : Check ≡ phase = cc in rw (← same) refl
ends-next false (During Report) phase c runs none = let same : Report ≡ phase = cc in rw (← same) refl
ends-next false (During Final) phase c runs none = let same : Final ≡ phase = cc in rw (← same) refl
ends-next false (During other) phase c runs none = cc
ends-next true (After PostShutdown) phase c runs none = let same : Run ≡ phase = cc in rw (← same) refl
ends-next false (After PreReset) phase c runs none = cc
ends-next false (After Reset) phase c runs none = cc
ends-next false (After PostReset) phase c runs none = cc
ends-next false (After PreConfigure) phase c runs none = cc
ends-next false (After Configure) phase c runs none = cc
ends-next false (After PostConfigure) phase c runs none = cc
ends-next false (After PreMain) phase c runs none = cc
ends-next false (After Main) phase c runs none = cc
ends-next false (After PostMain) phase c runs none = cc
ends-next false (After PreShutdown) phase c runs none = cc
ends-next false (After Shutdown) phase c runs none = cc
ends-next false (After PostShutdown) phase c runs none = cc
ends-next true (After PreReset) phase c runs none = cc
ends-next true (After Reset) phase c runs none = cc
ends-next true (After PostReset) phase c runs none = cc
ends-next true (After PreConfigure) phase c runs none = cc
ends-next true (After Configure) phase c runs none = cc
ends-next true (After PostConfigure) phase c runs none = cc
ends-next true (After PreMain) phase c runs none = cc
ends-next true (After Main) phase c runs none = cc
ends-next true (After PostMain) phase c runs none = cc
ends-next true (After PreShutdown) phase c runs none = cc
ends-next true (After Shutdown) phase c runs none = cc
ends-next runtime (After last) phase c runs none = cc
ends-next runtime Ended phase c runs none = cc

ends-low : (stage : RunStage) (phase : Phase) → running stage ≡ Some phase → next_number stage ≤ end_number phase
ends-low Before phase runs = cc
ends-low (During Build) phase runs = let same : Build ≡ phase = cc in rw (← same) (omega arith)
ends-low (During Connect) phase runs = let same : Connect ≡ phase = cc in rw (← same) (omega arith)
ends-low (During EndOfElaboration) phase runs = let same : EndOfElaboration ≡ phase = cc in rw (← same) (omega arith)
ends-low (During StartOfSimulation) phase runs = let same : StartOfSimulation ≡ phase = cc in rw (← same) (omega arith)
ends-low (During Run) phase runs = let same : Run ≡ phase = cc in rw (← same) (omega arith)
ends-low (During Extract) phase runs = let same : Extract ≡ phase = cc in rw (← same) (omega arith)
ends-low (During Check) phase runs = let same : Check ≡ phase = cc in rw (← same) (omega arith)
ends-low (During Report) phase runs = let same : Report ≡ phase = cc in rw (← same) (omega arith)
ends-low (During Final) phase runs = let same : Final ≡ phase = cc in rw (← same) (omega arith)
ends-low (During PreReset) phase runs = let same : PreReset ≡ phase = cc in rw (← same) (omega arith)
ends-low (During Reset) phase runs = let same : Reset ≡ phase = cc in rw (← same) (omega arith)
ends-low (During PostReset) phase runs = let same : PostReset ≡ phase = cc in rw (← same) (omega arith)
ends-low (During PreConfigure) phase runs = let same : PreConfigure ≡ phase = cc in rw (← same) (omega arith)
ends-low (During Configure) phase runs = let same : Configure ≡ phase = cc in rw (← same) (omega arith)
ends-low (During PostConfigure) phase runs = let same : PostConfigure ≡ phase = cc in rw (← same) (omega arith)
ends-low (During PreMain) phase runs = let same : PreMain ≡ phase = cc in rw (← same) (omega arith)
ends-low (During Main) phase runs = let same : Main ≡ phase = cc in rw (← same) (omega arith)
ends-low (During PostMain) phase runs = let same : PostMain ≡ phase = cc in rw (← same) (omega arith)
ends-low (During PreShutdown) phase runs = let same : PreShutdown ≡ phase = cc in rw (← same) (omega arith)
ends-low (During Shutdown) phase runs = let same : Shutdown ≡ phase = cc in rw (← same) (omega arith)
ends-low (During PostShutdown) phase runs = let same : PostShutdown ≡ phase = cc in rw (← same) (omega arith)
ends-low (After PreReset) phase runs = let same : Run ≡ phase = cc in rw (← same) (omega arith)
ends-low (After Reset) phase runs = let same : Run ≡ phase = cc in rw (← same) (omega arith)
ends-low (After PostReset) phase runs = let same : Run ≡ phase = cc in rw (← same) (omega arith)
ends-low (After PreConfigure) phase runs = let same : Run ≡ phase = cc in rw (← same) (omega arith)
ends-low (After Configure) phase runs = let same : Run ≡ phase = cc in rw (← same) (omega arith)
ends-low (After PostConfigure) phase runs = let same : Run ≡ phase = cc in rw (← same) (omega arith)
ends-low (After PreMain) phase runs = let same : Run ≡ phase = cc in rw (← same) (omega arith)
ends-low (After Main) phase runs = let same : Run ≡ phase = cc in rw (← same) (omega arith)
ends-low (After PostMain) phase runs = let same : Run ≡ phase = cc in rw (← same) (omega arith)
ends-low (After PreShutdown) phase runs = let same : Run ≡ phase = cc in rw (← same) (omega arith)
ends-low (After Shutdown) phase runs = let same : Run ≡ phase = cc in rw (← same) (omega arith)
ends-low (After PostShutdown) phase runs = let same : Run ≡ phase = cc in rw (← same) (omega arith)
ends-low (After last) phase runs = cc
ends-low Ended phase runs = cc

ends-run : (runtime : Bool) (stage : RunStage) (phase : Phase) → is_run_at runtime stage ≡ true → running stage ≡ Some phase → is_run runtime phase ≡ true
ends-run runtime Before phase c runs = cc
ends-run runtime (During last) phase c runs = let same : last ≡ phase = cc in rw (← same) c
ends-run runtime (After PreReset) phase c runs = let same : Run ≡ phase = cc in rw (← same) refl
ends-run runtime (After Reset) phase c runs = let same : Run ≡ phase = cc in rw (← same) refl
ends-run runtime (After PostReset) phase c runs = let same : Run ≡ phase = cc in rw (← same) refl
ends-run runtime (After PreConfigure) phase c runs = let same : Run ≡ phase = cc in rw (← same) refl
ends-run runtime (After Configure) phase c runs = let same : Run ≡ phase = cc in rw (← same) refl
ends-run runtime (After PostConfigure) phase c runs = let same : Run ≡ phase = cc in rw (← same) refl
ends-run runtime (After PreMain) phase c runs = let same : Run ≡ phase = cc in rw (← same) refl
ends-run runtime (After Main) phase c runs = let same : Run ≡ phase = cc in rw (← same) refl
ends-run runtime (After PostMain) phase c runs = let same : Run ≡ phase = cc in rw (← same) refl
ends-run runtime (After PreShutdown) phase c runs = let same : Run ≡ phase = cc in rw (← same) refl
ends-run runtime (After Shutdown) phase c runs = let same : Run ≡ phase = cc in rw (← same) refl
ends-run runtime (After PostShutdown) phase c runs = let same : Run ≡ phase = cc in rw (← same) refl
ends-run runtime (After last) phase c runs = cc
ends-run runtime Ended phase c runs = cc

in-order-more : (script : ScriptValue) (before : List Entry) (entry : Entry) → IsNext script before entry → ArePhasesInOrder script.runtime before → ArePhasesInOrder script.runtime (entry ∷ before)
in-order-more script before (Begin phase) next order =
    let may = comes script before (Begin phase) next in
    let begins = begin-number script.runtime (stage_of before) phase order.run may in
    record { run = begins.1; are = λ on. rw begins.0 (order.are (begin-on script.runtime (stage_of before) phase may)); before = rw begins.0 order.before }
in-order-more script before (End phase) next order =
    let ends = comes script before (End phase) next in
    let low = ends-low (stage_of before) phase ends.runs in
    record {
      run = ends-run script.runtime (stage_of before) phase order.run ends.runs;
      are = λ going. ap (λ (ended : List Phase). phase ∷ ended) (order.are (ended-not (stage_of before) phase ends.runs)) ∙ ends-next script.runtime (stage_of before) phase order.run ends.runs ends.last;
      before = All-cons (λ other. end_number other < end_number phase + 1) phase (ended_of before) (omega arith) (All-weaker (λ other. end_number other < next_number (stage_of before)) (λ other. end_number other < end_number phase + 1) (λ other lt. omega (arith, lt, low)) (ended_of before) order.before);
    }
in-order-more script before (Over reason) next order =
    let most = few (stage_of before) in
    record { run = refl; are = λ on. absurd (on refl); before = All-weaker (λ phase. end_number phase < next_number (stage_of before)) (λ phase. end_number phase < 21) (λ phase lt. omega (arith, lt, most)) (ended_of before) order.before }
in-order-more script before entry next order = record { run = order.run; are = order.are; before = order.before }

pub phases_go_in_order : PhasesGoInOrder
phases_go_in_order script [] each = record { run = refl; are = λ on. refl; before = All-nil (λ phase. end_number phase < 0) }
phases_go_in_order script (entry ∷ before) each = in-order-more script before entry each.0 (phases_go_in_order script before each.1)

pub one-of : (b : Bool) → b || false ≡ true → b ≡ true
one-of true e = refl
one-of false e = cc

-- a phase in progress has not ended
number-is : (phase : Phase) (n : ℕ) → (phase_number phase == n) ≡ true → phase_number phase ≡ n
number-is phase n same = grind (arith, nat_tests, same)

either-of : (a b : Bool) → a || (b || false) ≡ true → (a ≡ true) ⊎ (b ≡ true)
either-of true b e = inl refl
either-of false true e = inr refl
either-of false false e = cc

open-going : (runtime : Bool) (stage : RunStage) (ended : List Phase) (phase : Phase) → list_any (same_phase phase) (in_progress stage) ≡ true → ended ≡ reverse (filter (is_run runtime) (take (next_number stage) ending_order)) → list_any (same_phase phase) ended ≡ false
open-going runtime Before ended phase going are = cc
open-going true (During Build) ended phase going are = rw are refl
open-going false (During Build) ended phase going are = rw are refl
open-going true (During Connect) ended phase going are = let at = number-is phase (phase_number Connect) (one-of (same_phase phase Connect) going) in rw (are, at) refl
open-going false (During Connect) ended phase going are = let at = number-is phase (phase_number Connect) (one-of (same_phase phase Connect) going) in rw (are, at) refl
open-going true (During EndOfElaboration) ended phase going are = let at = number-is phase (phase_number EndOfElaboration) (one-of (same_phase phase EndOfElaboration) going) in rw (are, at) refl
open-going false (During EndOfElaboration) ended phase going are = let at = number-is phase (phase_number EndOfElaboration) (one-of (same_phase phase EndOfElaboration) going) in rw (are, at) refl
open-going true (During StartOfSimulation) ended phase going are = let at = number-is phase (phase_number StartOfSimulation) (one-of (same_phase phase StartOfSimulation) going) in rw (are, at) refl
open-going false (During StartOfSimulation) ended phase going are = let at = number-is phase (phase_number StartOfSimulation) (one-of (same_phase phase StartOfSimulation) going) in rw (are, at) refl
open-going true (During Run) ended phase going are = let at = number-is phase (phase_number Run) (one-of (same_phase phase Run) going) in rw (are, at) refl
open-going false (During Run) ended phase going are = let at = number-is phase (phase_number Run) (one-of (same_phase phase Run) going) in rw (are, at) refl
open-going true (During Extract) ended phase going are = let at = number-is phase (phase_number Extract) (one-of (same_phase phase Extract) going) in rw (are, at) refl
open-going false (During Extract) ended phase going are = let at = number-is phase (phase_number Extract) (one-of (same_phase phase Extract) going) in rw (are, at) refl
open-going true (During Check) ended phase going are = let at = number-is phase (phase_number Check) (one-of (same_phase phase Check) going) in rw (are, at) refl
open-going false (During Check) ended phase going are = let at = number-is phase (phase_number Check) (one-of (same_phase phase Check) going) in rw (are, at) refl
open-going true (During Report) ended phase going are = let at = number-is phase (phase_number Report) (one-of (same_phase phase Report) going) in rw (are, at) refl
open-going false (During Report) ended phase going are = let at = number-is phase (phase_number Report) (one-of (same_phase phase Report) going) in rw (are, at) refl
open-going true (During Final) ended phase going are = let at = number-is phase (phase_number Final) (one-of (same_phase phase Final) going) in rw (are, at) refl
open-going false (During Final) ended phase going are = let at = number-is phase (phase_number Final) (one-of (same_phase phase Final) going) in rw (are, at) refl
open-going true (During PreReset) ended phase going are = by (either-of (same_phase phase Run) (same_phase phase PreReset) going)
  where
    by : (same_phase phase Run ≡ true) ⊎ (same_phase phase PreReset ≡ true) → list_any (same_phase phase) ended ≡ false
    by (inl same) = let at = number-is phase (phase_number Run) same in rw (are, at) refl
    by (inr same) = let at = number-is phase (phase_number PreReset) same in rw (are, at) refl
open-going false (During PreReset) ended phase going are = by (either-of (same_phase phase Run) (same_phase phase PreReset) going)
  where
    by : (same_phase phase Run ≡ true) ⊎ (same_phase phase PreReset ≡ true) → list_any (same_phase phase) ended ≡ false
    by (inl same) = let at = number-is phase (phase_number Run) same in rw (are, at) refl
    by (inr same) = let at = number-is phase (phase_number PreReset) same in rw (are, at) refl
open-going true (During Reset) ended phase going are = by (either-of (same_phase phase Run) (same_phase phase Reset) going)
  where
    by : (same_phase phase Run ≡ true) ⊎ (same_phase phase Reset ≡ true) → list_any (same_phase phase) ended ≡ false
    by (inl same) = let at = number-is phase (phase_number Run) same in rw (are, at) refl
    by (inr same) = let at = number-is phase (phase_number Reset) same in rw (are, at) refl
open-going false (During Reset) ended phase going are = by (either-of (same_phase phase Run) (same_phase phase Reset) going)
  where
    by : (same_phase phase Run ≡ true) ⊎ (same_phase phase Reset ≡ true) → list_any (same_phase phase) ended ≡ false
    by (inl same) = let at = number-is phase (phase_number Run) same in rw (are, at) refl
    by (inr same) = let at = number-is phase (phase_number Reset) same in rw (are, at) refl
open-going true (During PostReset) ended phase going are = by (either-of (same_phase phase Run) (same_phase phase PostReset) going)
  where
    by : (same_phase phase Run ≡ true) ⊎ (same_phase phase PostReset ≡ true) → list_any (same_phase phase) ended ≡ false
    by (inl same) = let at = number-is phase (phase_number Run) same in rw (are, at) refl
    by (inr same) = let at = number-is phase (phase_number PostReset) same in rw (are, at) refl
open-going false (During PostReset) ended phase going are = by (either-of (same_phase phase Run) (same_phase phase PostReset) going)
  where
    by : (same_phase phase Run ≡ true) ⊎ (same_phase phase PostReset ≡ true) → list_any (same_phase phase) ended ≡ false
    by (inl same) = let at = number-is phase (phase_number Run) same in rw (are, at) refl
    by (inr same) = let at = number-is phase (phase_number PostReset) same in rw (are, at) refl
open-going true (During PreConfigure) ended phase going are = by (either-of (same_phase phase Run) (same_phase phase PreConfigure) going)
  where
    by : (same_phase phase Run ≡ true) ⊎ (same_phase phase PreConfigure ≡ true) → list_any (same_phase phase) ended ≡ false
    by (inl same) = let at = number-is phase (phase_number Run) same in rw (are, at) refl
    by (inr same) = let at = number-is phase (phase_number PreConfigure) same in rw (are, at) refl
open-going false (During PreConfigure) ended phase going are = by (either-of (same_phase phase Run) (same_phase phase PreConfigure) going)
  where
    by : (same_phase phase Run ≡ true) ⊎ (same_phase phase PreConfigure ≡ true) → list_any (same_phase phase) ended ≡ false
    by (inl same) = let at = number-is phase (phase_number Run) same in rw (are, at) refl
    by (inr same) = let at = number-is phase (phase_number PreConfigure) same in rw (are, at) refl
open-going true (During Configure) ended phase going are = by (either-of (same_phase phase Run) (same_phase phase Configure) going)
  where
    by : (same_phase phase Run ≡ true) ⊎ (same_phase phase Configure ≡ true) → list_any (same_phase phase) ended ≡ false
    by (inl same) = let at = number-is phase (phase_number Run) same in rw (are, at) refl
    by (inr same) = let at = number-is phase (phase_number Configure) same in rw (are, at) refl
open-going false (During Configure) ended phase going are = by (either-of (same_phase phase Run) (same_phase phase Configure) going)
  where
    by : (same_phase phase Run ≡ true) ⊎ (same_phase phase Configure ≡ true) → list_any (same_phase phase) ended ≡ false
    by (inl same) = let at = number-is phase (phase_number Run) same in rw (are, at) refl
    by (inr same) = let at = number-is phase (phase_number Configure) same in rw (are, at) refl
open-going true (During PostConfigure) ended phase going are = by (either-of (same_phase phase Run) (same_phase phase PostConfigure) going)
  where
    by : (same_phase phase Run ≡ true) ⊎ (same_phase phase PostConfigure ≡ true) → list_any (same_phase phase) ended ≡ false
    by (inl same) = let at = number-is phase (phase_number Run) same in rw (are, at) refl
    by (inr same) = let at = number-is phase (phase_number PostConfigure) same in rw (are, at) refl
open-going false (During PostConfigure) ended phase going are = by (either-of (same_phase phase Run) (same_phase phase PostConfigure) going)
  where
    by : (same_phase phase Run ≡ true) ⊎ (same_phase phase PostConfigure ≡ true) → list_any (same_phase phase) ended ≡ false
    by (inl same) = let at = number-is phase (phase_number Run) same in rw (are, at) refl
    by (inr same) = let at = number-is phase (phase_number PostConfigure) same in rw (are, at) refl
open-going true (During PreMain) ended phase going are = by (either-of (same_phase phase Run) (same_phase phase PreMain) going)
  where
    by : (same_phase phase Run ≡ true) ⊎ (same_phase phase PreMain ≡ true) → list_any (same_phase phase) ended ≡ false
    by (inl same) = let at = number-is phase (phase_number Run) same in rw (are, at) refl
    by (inr same) = let at = number-is phase (phase_number PreMain) same in rw (are, at) refl
open-going false (During PreMain) ended phase going are = by (either-of (same_phase phase Run) (same_phase phase PreMain) going)
  where
    by : (same_phase phase Run ≡ true) ⊎ (same_phase phase PreMain ≡ true) → list_any (same_phase phase) ended ≡ false
    by (inl same) = let at = number-is phase (phase_number Run) same in rw (are, at) refl
    by (inr same) = let at = number-is phase (phase_number PreMain) same in rw (are, at) refl
open-going true (During Main) ended phase going are = by (either-of (same_phase phase Run) (same_phase phase Main) going)
  where
    by : (same_phase phase Run ≡ true) ⊎ (same_phase phase Main ≡ true) → list_any (same_phase phase) ended ≡ false
    by (inl same) = let at = number-is phase (phase_number Run) same in rw (are, at) refl
    by (inr same) = let at = number-is phase (phase_number Main) same in rw (are, at) refl
open-going false (During Main) ended phase going are = by (either-of (same_phase phase Run) (same_phase phase Main) going)
  where
    by : (same_phase phase Run ≡ true) ⊎ (same_phase phase Main ≡ true) → list_any (same_phase phase) ended ≡ false
    by (inl same) = let at = number-is phase (phase_number Run) same in rw (are, at) refl
    by (inr same) = let at = number-is phase (phase_number Main) same in rw (are, at) refl
open-going true (During PostMain) ended phase going are = by (either-of (same_phase phase Run) (same_phase phase PostMain) going)
  where
    by : (same_phase phase Run ≡ true) ⊎ (same_phase phase PostMain ≡ true) → list_any (same_phase phase) ended ≡ false
    by (inl same) = let at = number-is phase (phase_number Run) same in rw (are, at) refl
    by (inr same) = let at = number-is phase (phase_number PostMain) same in rw (are, at) refl
open-going false (During PostMain) ended phase going are = by (either-of (same_phase phase Run) (same_phase phase PostMain) going)
  where
    by : (same_phase phase Run ≡ true) ⊎ (same_phase phase PostMain ≡ true) → list_any (same_phase phase) ended ≡ false
    by (inl same) = let at = number-is phase (phase_number Run) same in rw (are, at) refl
    by (inr same) = let at = number-is phase (phase_number PostMain) same in rw (are, at) refl
open-going true (During PreShutdown) ended phase going are = by (either-of (same_phase phase Run) (same_phase phase PreShutdown) going)
  where
    by : (same_phase phase Run ≡ true) ⊎ (same_phase phase PreShutdown ≡ true) → list_any (same_phase phase) ended ≡ false
    by (inl same) = let at = number-is phase (phase_number Run) same in rw (are, at) refl
    by (inr same) = let at = number-is phase (phase_number PreShutdown) same in rw (are, at) refl
open-going false (During PreShutdown) ended phase going are = by (either-of (same_phase phase Run) (same_phase phase PreShutdown) going)
  where
    by : (same_phase phase Run ≡ true) ⊎ (same_phase phase PreShutdown ≡ true) → list_any (same_phase phase) ended ≡ false
    by (inl same) = let at = number-is phase (phase_number Run) same in rw (are, at) refl
    by (inr same) = let at = number-is phase (phase_number PreShutdown) same in rw (are, at) refl
open-going true (During Shutdown) ended phase going are = by (either-of (same_phase phase Run) (same_phase phase Shutdown) going)
  where
    by : (same_phase phase Run ≡ true) ⊎ (same_phase phase Shutdown ≡ true) → list_any (same_phase phase) ended ≡ false
    by (inl same) = let at = number-is phase (phase_number Run) same in rw (are, at) refl
    by (inr same) = let at = number-is phase (phase_number Shutdown) same in rw (are, at) refl
open-going false (During Shutdown) ended phase going are = by (either-of (same_phase phase Run) (same_phase phase Shutdown) going)
  where
    by : (same_phase phase Run ≡ true) ⊎ (same_phase phase Shutdown ≡ true) → list_any (same_phase phase) ended ≡ false
    by (inl same) = let at = number-is phase (phase_number Run) same in rw (are, at) refl
    by (inr same) = let at = number-is phase (phase_number Shutdown) same in rw (are, at) refl
open-going true (During PostShutdown) ended phase going are = by (either-of (same_phase phase Run) (same_phase phase PostShutdown) going)
  where
    by : (same_phase phase Run ≡ true) ⊎ (same_phase phase PostShutdown ≡ true) → list_any (same_phase phase) ended ≡ false
    by (inl same) = let at = number-is phase (phase_number Run) same in rw (are, at) refl
    by (inr same) = let at = number-is phase (phase_number PostShutdown) same in rw (are, at) refl
open-going false (During PostShutdown) ended phase going are = by (either-of (same_phase phase Run) (same_phase phase PostShutdown) going)
  where
    by : (same_phase phase Run ≡ true) ⊎ (same_phase phase PostShutdown ≡ true) → list_any (same_phase phase) ended ≡ false
    by (inl same) = let at = number-is phase (phase_number Run) same in rw (are, at) refl
    by (inr same) = let at = number-is phase (phase_number PostShutdown) same in rw (are, at) refl
open-going true (After PreReset) ended phase going are = let at = number-is phase (phase_number Run) (one-of (same_phase phase Run) going) in rw (are, at) refl
open-going false (After PreReset) ended phase going are = let at = number-is phase (phase_number Run) (one-of (same_phase phase Run) going) in rw (are, at) refl
open-going true (After Reset) ended phase going are = let at = number-is phase (phase_number Run) (one-of (same_phase phase Run) going) in rw (are, at) refl
open-going false (After Reset) ended phase going are = let at = number-is phase (phase_number Run) (one-of (same_phase phase Run) going) in rw (are, at) refl
open-going true (After PostReset) ended phase going are = let at = number-is phase (phase_number Run) (one-of (same_phase phase Run) going) in rw (are, at) refl
open-going false (After PostReset) ended phase going are = let at = number-is phase (phase_number Run) (one-of (same_phase phase Run) going) in rw (are, at) refl
open-going true (After PreConfigure) ended phase going are = let at = number-is phase (phase_number Run) (one-of (same_phase phase Run) going) in rw (are, at) refl
open-going false (After PreConfigure) ended phase going are = let at = number-is phase (phase_number Run) (one-of (same_phase phase Run) going) in rw (are, at) refl
open-going true (After Configure) ended phase going are = let at = number-is phase (phase_number Run) (one-of (same_phase phase Run) going) in rw (are, at) refl
open-going false (After Configure) ended phase going are = let at = number-is phase (phase_number Run) (one-of (same_phase phase Run) going) in rw (are, at) refl
open-going true (After PostConfigure) ended phase going are = let at = number-is phase (phase_number Run) (one-of (same_phase phase Run) going) in rw (are, at) refl
open-going false (After PostConfigure) ended phase going are = let at = number-is phase (phase_number Run) (one-of (same_phase phase Run) going) in rw (are, at) refl
open-going true (After PreMain) ended phase going are = let at = number-is phase (phase_number Run) (one-of (same_phase phase Run) going) in rw (are, at) refl
open-going false (After PreMain) ended phase going are = let at = number-is phase (phase_number Run) (one-of (same_phase phase Run) going) in rw (are, at) refl
open-going true (After Main) ended phase going are = let at = number-is phase (phase_number Run) (one-of (same_phase phase Run) going) in rw (are, at) refl
open-going false (After Main) ended phase going are = let at = number-is phase (phase_number Run) (one-of (same_phase phase Run) going) in rw (are, at) refl
open-going true (After PostMain) ended phase going are = let at = number-is phase (phase_number Run) (one-of (same_phase phase Run) going) in rw (are, at) refl
open-going false (After PostMain) ended phase going are = let at = number-is phase (phase_number Run) (one-of (same_phase phase Run) going) in rw (are, at) refl
open-going true (After PreShutdown) ended phase going are = let at = number-is phase (phase_number Run) (one-of (same_phase phase Run) going) in rw (are, at) refl
open-going false (After PreShutdown) ended phase going are = let at = number-is phase (phase_number Run) (one-of (same_phase phase Run) going) in rw (are, at) refl
open-going true (After Shutdown) ended phase going are = let at = number-is phase (phase_number Run) (one-of (same_phase phase Run) going) in rw (are, at) refl
open-going false (After Shutdown) ended phase going are = let at = number-is phase (phase_number Run) (one-of (same_phase phase Run) going) in rw (are, at) refl
open-going true (After PostShutdown) ended phase going are = let at = number-is phase (phase_number Run) (one-of (same_phase phase Run) going) in rw (are, at) refl
open-going false (After PostShutdown) ended phase going are = let at = number-is phase (phase_number Run) (one-of (same_phase phase Run) going) in rw (are, at) refl
open-going runtime (After last) ended phase going are = cc
open-going runtime Ended ended phase going are = cc

goes-on : (stage : RunStage) (phase : Phase) → list_any (same_phase phase) (in_progress stage) ≡ true → stage ≡ Ended → ⊥
goes-on Before phase going is = cc
goes-on (During other) phase going is = cc
goes-on (After other) phase going is = cc
goes-on Ended phase going is = cc

pub phases_in_progress_are_open : PhasesInProgressAreOpen
phases_in_progress_are_open script history phase each going =
    open-going script.runtime (stage_of history) (ended_of history) phase going ((phases_go_in_order script history each).are (goes-on (stage_of history) phase going))
