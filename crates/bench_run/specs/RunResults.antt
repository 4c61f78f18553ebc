-- The result of a run.
use Rattle.std.specs.Prelude.{ℕ, Bool, true, false, ◌&&◌, ◌==◌, Result, Ok, Err, if◌then◌else◌}
use Rattle.uvm_object.specs.declared.entries.Reason.{Reason}
use Rattle.uvm_object.specs.declared.entries.Reason.TheVariants.{Finished}
use Rattle.bench_run.specs.declared.run_results.RunResult.{RunResult}
use Rattle.bench_run.specs.declared.faults.RunFault.{RunFault}
use Rattle.bench_run.specs.declared.faults.RunFault.TheVariants.{NoTest}

-- the run ended because all phases were run
abbrev pub is_finished : Reason → Bool
is_finished Finished = true
is_finished reason = false

-- all phases were run, and no report was counted as ERROR or FATAL
abbrev pub is_clean : RunResult → Bool
is_clean run_result = is_finished run_result.reason && run_result.errors == 0 && run_result.fatals == 0

-- the exit status of a program that ran a script
abbrev pub exit_status : Result RunResult RunFault → ℕ
exit_status (Ok run_result) = if is_clean run_result then 0 else 1
exit_status (Err NoTest) = 2
exit_status (Err fault) = 3
