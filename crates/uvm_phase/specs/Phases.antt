-- The phases in order.
use Rattle.std.specs.Prelude.{ℕ, Bool, true, false, ◌||◌, ◌==◌, ◌+◌, nat_lt, List, [], ◌∷◌, ◌++◌, Option, Some, None, slice_get, codes}
use Rattle.uvm_phase.specs.declared.phases.Phase.{Phase}
use Rattle.uvm_phase.specs.declared.phases.Phase.TheVariants.{Build, Connect, EndOfElaboration, StartOfSimulation, Run, Extract, Check, Report, Final, PreReset, Reset, PostReset, PreConfigure, Configure, PostConfigure, PreMain, Main, PostMain, PreShutdown, Shutdown, PostShutdown}

-- the common phases in the order in which they run
abbrev pub common_phases : List Phase
common_phases = Build ∷ Connect ∷ EndOfElaboration ∷ StartOfSimulation ∷ Run ∷ Extract ∷ Check ∷ Report ∷ Final ∷ []

-- the run-time phases, which run one after another in parallel with run
abbrev pub runtime_phases : List Phase
runtime_phases = PreReset ∷ Reset ∷ PostReset ∷ PreConfigure ∷ Configure ∷ PostConfigure ∷ PreMain ∷ Main ∷ PostMain ∷ PreShutdown ∷ Shutdown ∷ PostShutdown ∷ []

-- all phases in the order of their numbers
abbrev pub phases : List Phase
phases = common_phases ++ runtime_phases

-- the number of a phase: its index among all phases
abbrev pub phase_number : Phase → ℕ
phase_number Build = 0
phase_number Connect = 1
phase_number EndOfElaboration = 2
phase_number StartOfSimulation = 3
phase_number Run = 4
phase_number Extract = 5
phase_number Check = 6
phase_number Report = 7
phase_number Final = 8
phase_number PreReset = 9
phase_number Reset = 10
phase_number PostReset = 11
phase_number PreConfigure = 12
phase_number Configure = 13
phase_number PostConfigure = 14
phase_number PreMain = 15
phase_number Main = 16
phase_number PostMain = 17
phase_number PreShutdown = 18
phase_number Shutdown = 19
phase_number PostShutdown = 20

-- whether two phases are the same
abbrev pub same_phase : Phase → Phase → Bool
same_phase a b = phase_number a == phase_number b

-- the phase after a common or run-time phase; extract follows run and the last run-time phase, none follows final
abbrev pub phase_after : Phase → Option Phase
phase_after Final = None
phase_after PostShutdown = Some Extract
phase_after phase = slice_get phases (phase_number phase + 1)

-- whether parents receive the calls of a phase before their children: build and final
abbrev pub is_top_down : Phase → Bool
is_top_down Build = true
is_top_down Final = true
is_top_down phase = false

-- whether a phase is a run-time phase, with a number above those of the common phases
abbrev pub is_runtime : Phase → Bool
is_runtime phase = nat_lt (phase_number Final) (phase_number phase)

-- whether a phase takes simulated time: run, or a run-time phase
abbrev pub is_task : Phase → Bool
is_task phase = same_phase phase Run || is_runtime phase

-- the name of a phase, as transcripts and scripts write it
abbrev pub phase_name : Phase → List ℕ
phase_name Build = codes "build"
phase_name Connect = codes "connect"
phase_name EndOfElaboration = codes "end_of_elaboration"
phase_name StartOfSimulation = codes "start_of_simulation"
phase_name Run = codes "run"
phase_name Extract = codes "extract"
phase_name Check = codes "check"
phase_name Report = codes "report"
phase_name Final = codes "final"
phase_name PreReset = codes "pre_reset"
phase_name Reset = codes "reset"
phase_name PostReset = codes "post_reset"
phase_name PreConfigure = codes "pre_configure"
phase_name Configure = codes "configure"
phase_name PostConfigure = codes "post_configure"
phase_name PreMain = codes "pre_main"
phase_name Main = codes "main"
phase_name PostMain = codes "post_main"
phase_name PreShutdown = codes "pre_shutdown"
phase_name Shutdown = codes "shutdown"
phase_name PostShutdown = codes "post_shutdown"
