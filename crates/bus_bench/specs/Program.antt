-- The program `bus_bench`: its output and exit status.
use Rattle.std.specs.Prelude.{◌≡◌, ◌⊎◌, ℕ, List, take, IfSome, Option, Some, string_bytes}
use Rattle.std.specs.Io.KnownBytes.{Appends, Keeps}
use Rattle.clap.specs.Words.{IsAmong, Text, fault_of}
use Rattle.clap.specs.declared.error.kind.ErrorKind.{ErrorKind}
use Rattle.clap.specs.declared.error.kind.ErrorKind.TheVariants.{DisplayHelp, DisplayVersion}
use Rattle.bus_jobs.specs.Commands.{Asked, bus_bench_app, debug, named_job, run}
use Rattle.bus_jobs.specs.Faults.{IsJobFaultOf}
use Rattle.bus_jobs.specs.declared.jobs.JobFault.{JobFault}
use Rattle.bus_jobs.specs.declared.jobs.JobFault.TheVariants.{Help, Version, Refused, BadName, Memory}
use Rattle.bus_jobs.specs.Debugging.{IsDebugRun}
use Rattle.bus_jobs.specs.Runs.{IsBenchRun, script_to_run}
use Rattle.script_input.specs.Scripts.{words_of_seed}
use Rattle.script_input.specs.Files.{IsUnread, most_file_bytes}
use Rattle.bus_jobs.specs.Verdicts.{status_of, unflushed}
use Rattle.bus_jobs.specs.declared.verdicts.Verdict.{Verdict}
use Rattle.bus_jobs.specs.declared.verdicts.Verdict.TheVariants.{Broken}

-- what the verdict on a job states of the bytes of its file, and of the bytes that the writer holds before and after
abbrev pub IsWork : Asked → List ℕ → Option (List ℕ) → Option (List ℕ) → Verdict → Type 0
IsWork (debug file) bytes old new verdict = IsDebugRun bytes old new verdict
IsWork (run trace seed test file) bytes old new verdict = IsBenchRun (script_to_run bytes test) (words_of_seed seed) trace old new verdict

-- the same, after the output was flushed, or the flush failed
abbrev pub IsReport : Asked → List ℕ → Option (List ℕ) → Option (List ℕ) → Verdict → Type 0
IsReport asked bytes old new verdict = (done : Verdict) × IsWork asked bytes old new done × ((verdict ≡ done) ⊎ (verdict ≡ unflushed done))

-- the verdict on a job whose file is not read
abbrev pub IsUnreadFile : Verdict → Type 0
IsUnreadFile (Broken breakage) = IsUnread breakage
IsUnreadFile verdict = ⊥

-- A job on a file whose bytes may be known. Nothing was read and nothing written; or its bytes were read, up to the limit, and the job was
-- done.
abbrev pub IsJobOn : Asked → Option (List ℕ) → Option (List ℕ) → Option (List ℕ) → Verdict → Type 0
IsJobOn asked file old new verdict = (IsUnreadFile verdict × Keeps old new)
    ⊎ ((bytes : List ℕ) × IfSome file (λ all. bytes ≡ take most_file_bytes all) × IsReport asked bytes old new verdict)

-- A job on a file that is opened by its name, whose bytes contracts do not see. Nothing was read and nothing written; or some bytes were
-- read, and the job was done.
abbrev pub IsJobDone : Asked → Option (List ℕ) → Option (List ℕ) → Verdict → Type 0
IsJobDone asked old new verdict = (IsUnreadFile verdict × Keeps old new) ⊎ ((bytes : List ℕ) × IsReport asked bytes old new verdict)

-- such a job ended with this exit status
abbrev pub CameTo : Asked → Option (List ℕ) → Option (List ℕ) → ℕ → Type 0
CameTo asked old new status = (verdict : Verdict) × (status ≡ status_of verdict) × IsJobDone asked old new verdict

-- a text was written, or could not be, with this exit status: 0 or 3
abbrev pub IsShown : List ℕ → Option (List ℕ) → Option (List ℕ) → ℕ → Type 0
IsShown text old new status = ((status ≡ 0) × Appends old new text) ⊎ (status ≡ 3)

-- The arguments name no job. The requested text is written, or could not be; otherwise nothing is written to the output. The last argument is
-- the exit status.
abbrev pub IsTold : JobFault → Option (List ℕ) → Option (List ℕ) → ℕ → Type 0
IsTold (Help text) old new status = IsShown (string_bytes text) old new status
IsTold (Version text) old new status = IsShown (string_bytes text) old new status
IsTold (Refused error) old new status = (status ≡ 2) × Keeps old new
IsTold BadName old new status = (status ≡ 2) × Keeps old new
IsTold Memory old new status = (status ≡ 3) × Keeps old new

-- no job was done and nothing was written to the output; the exit status is 2 or 3
abbrev pub DidNothing : Option (List ℕ) → Option (List ℕ) → ℕ → Type 0
DidNothing old new status = ((status ≡ 2) ⊎ (status ≡ 3)) × Keeps old new

-- the arguments ask for help or for the version
abbrev pub AsksForText : ErrorKind → Type 0
AsksForText kind = (kind ≡ DisplayHelp) ⊎ (kind ≡ DisplayVersion)

-- some arguments asked for a text, which was written, or could not be
abbrev pub GaveText : Option (List ℕ) → Option (List ℕ) → ℕ → Type 0
GaveText old new status = (words : List Text) × (kind : ErrorKind) × IsAmong kind (fault_of bus_bench_app words) × AsksForText kind × (text : List ℕ) × IsShown text old new status

-- some arguments named a job, which ended with this exit status
abbrev pub DidJob : Option (List ℕ) → Option (List ℕ) → ℕ → Type 0
DidJob old new status = (words : List Text) × (asked : Asked) × (named_job words ≡ Some asked) × CameTo asked old new status

-- the result of these arguments: of the job that they name, or of the error why they name none
abbrev pub IsServed : List Text → Option (List ℕ) → Option (List ℕ) → ℕ → Type 0
IsServed words old new status =
    ((asked : Asked) × (named_job words ≡ Some asked) × CameTo asked old new status)
    ⊎ ((fault : JobFault) × IsJobFaultOf (fault_of bus_bench_app words) fault × IsTold fault old new status)
