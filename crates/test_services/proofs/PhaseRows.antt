-- The phases: the number and the name of each, the phase after it, whether it is top down, and whether it takes time.
use Rattle.std.proofs.Common.{◌≡◌, ℕ, List, Some, None, refl}
use Rattle.std.specs.Prelude.{codes, Bool, true, false, Option}
use Rattle.uvm_phase.specs.declared.phases.Phase.{Phase}
use Rattle.uvm_phase.specs.declared.phases.Phase.TheVariants.{Build, Connect, EndOfElaboration, StartOfSimulation, Run, Extract, Check, Report, Final, PreReset, Reset, PostReset, PreConfigure, Configure, PostConfigure, PreMain, Main, PostMain, PreShutdown, Shutdown, PostShutdown}
use Rattle.uvm_phase.specs.Phases.{phase_number, phase_name, phase_after, is_top_down, is_task}

-- what is said of a phase
abbrev said : Phase → ℕ × List ℕ × Option Phase × Bool × Bool
said phase = (phase_number phase, phase_name phase, phase_after phase, is_top_down phase, is_task phase)

build-is-first-and-top-down : said Build ≡ (0, codes "build", Some Connect, true, false)
build-is-first-and-top-down = refl

connect-comes-after-build : said Connect ≡ (1, codes "connect", Some EndOfElaboration, false, false)
connect-comes-after-build = refl

end-of-elaboration-comes-after-connect : said EndOfElaboration ≡ (2, codes "end_of_elaboration", Some StartOfSimulation, false, false)
end-of-elaboration-comes-after-connect = refl

start-of-simulation-comes-after-end-of-elaboration : said StartOfSimulation ≡ (3, codes "start_of_simulation", Some Run, false, false)
start-of-simulation-comes-after-end-of-elaboration = refl

run-comes-after-start-of-simulation-and-takes-time : said Run ≡ (4, codes "run", Some Extract, false, true)
run-comes-after-start-of-simulation-and-takes-time = refl

extract-comes-after-run : said Extract ≡ (5, codes "extract", Some Check, false, false)
extract-comes-after-run = refl

check-comes-after-extract : said Check ≡ (6, codes "check", Some Report, false, false)
check-comes-after-extract = refl

report-comes-after-check : said Report ≡ (7, codes "report", Some Final, false, false)
report-comes-after-check = refl

final-is-last-and-top-down : said Final ≡ (8, codes "final", None, true, false)
final-is-last-and-top-down = refl

pre-reset-comes-before-reset : said PreReset ≡ (9, codes "pre_reset", Some Reset, false, true)
pre-reset-comes-before-reset = refl

reset-comes-before-post-reset : said Reset ≡ (10, codes "reset", Some PostReset, false, true)
reset-comes-before-post-reset = refl

post-reset-comes-before-pre-configure : said PostReset ≡ (11, codes "post_reset", Some PreConfigure, false, true)
post-reset-comes-before-pre-configure = refl

pre-configure-comes-before-configure : said PreConfigure ≡ (12, codes "pre_configure", Some Configure, false, true)
pre-configure-comes-before-configure = refl

configure-comes-before-post-configure : said Configure ≡ (13, codes "configure", Some PostConfigure, false, true)
configure-comes-before-post-configure = refl

post-configure-comes-before-pre-main : said PostConfigure ≡ (14, codes "post_configure", Some PreMain, false, true)
post-configure-comes-before-pre-main = refl

pre-main-comes-before-main : said PreMain ≡ (15, codes "pre_main", Some Main, false, true)
pre-main-comes-before-main = refl

main-comes-before-post-main : said Main ≡ (16, codes "main", Some PostMain, false, true)
main-comes-before-post-main = refl

post-main-comes-before-pre-shutdown : said PostMain ≡ (17, codes "post_main", Some PreShutdown, false, true)
post-main-comes-before-pre-shutdown = refl

pre-shutdown-comes-before-shutdown : said PreShutdown ≡ (18, codes "pre_shutdown", Some Shutdown, false, true)
pre-shutdown-comes-before-shutdown = refl

shutdown-comes-before-post-shutdown : said Shutdown ≡ (19, codes "shutdown", Some PostShutdown, false, true)
shutdown-comes-before-post-shutdown = refl

post-shutdown-comes-before-extract-as-run-does : said PostShutdown ≡ (20, codes "post_shutdown", Some Extract, false, true)
post-shutdown-comes-before-extract-as-run-does = refl
