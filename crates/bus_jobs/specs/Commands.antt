-- The command line of `bus_bench`: what clap reads, and the job that the arguments ask for.
use Rattle.std.specs.Prelude.{◌≡◌, ◌⊎◌, ◌==◌, ◌∷◌, [], ℕ, Bool, true, false, List, Option, None, Some, IfSome, codes, if◌then◌else◌, is_some, option_and_then, option_map, unwrap_or}
use Rattle.std.specs.Option.{option_map_or}
use Rattle.std.specs.Str.{bytes_eq}
use Rattle.std.specs.Str.Parse.{digits_value, without_leading_plus}
use Rattle.clap.specs.Words.{Accepts, App, Row, Rule, Text, first_of, new_app, new_rule, one_of}
use Rattle.clap.specs.Words.{subcommand_of, with_rule, with_subcommand}
use Rattle.clap.specs.Simple.{on_top}
use Rattle.clap.specs.Takes.{is_given}
use Rattle.clap.specs.declared.builder.action.ArgAction.TheVariants.{SetTrue}
use Rattle.clap.specs.declared.builder.value_parser.ValueParser.{ValueParser}
use Rattle.clap.specs.declared.builder.value_parser.ValueParser.TheVariants as parser
use Rattle.uvm_glob.specs.Names.{name_fault}
use Rattle.bus_jobs.specs.declared.jobs.Job.{Job}
use Rattle.bus_jobs.specs.declared.jobs.Job.TheVariants.{Debug, Run}

-- ---- the command line, as clap reads it

-- the rule of `FILE`, which is required
abbrev pub file_rule : Rule
file_rule = record (new_rule (codes "file")) { value_names = 1; required = true }

-- the rule of `--trace`
abbrev pub trace_rule : Rule
trace_rule = record (new_rule (codes "trace")) { long = Some (codes "trace"); action = Some SetTrue }

-- the parser of a number of 64 bits
abbrev pub seed_parser : ValueParser
seed_parser = parser.Unsigned 0 18446744073709551615

-- the rule of `--seed N`
abbrev pub seed_rule : Rule
seed_rule = record (new_rule (codes "seed")) { long = Some (codes "seed"); value_names = 1; parser = Some seed_parser }

-- the rule of `--test NAME`
abbrev pub test_rule : Rule
test_rule = record (new_rule (codes "test")) { long = Some (codes "test"); value_names = 1 }

-- the subcommand `debug FILE`
abbrev pub debug_app : App
debug_app = with_rule (new_app (codes "debug")) file_rule

-- the subcommand `run [--trace] [--seed N] [--test NAME] FILE`
abbrev pub run_app : App
run_app = with_rule (with_rule (with_rule (with_rule (new_app (codes "run")) trace_rule) seed_rule) test_rule) file_rule

-- `bus_bench` without subcommands: it has a version, as each subcommand then has, and requires a subcommand
abbrev pub top_app : App
top_app = on_top (λ s. record s {
  propagate_version = true;
  has_version = true;
  subcommand_required = true;
}) (new_app (codes "bus_bench"))

-- `bus_bench` with its subcommands
abbrev pub bus_bench_app : App
bus_bench_app = with_subcommand (with_subcommand top_app debug_app.top) run_app.top

-- ---- the job that the arguments ask for

-- a subcommand with the values that are given for it
pub data Asked : Type 0 where
  debug : (file : Text) → Asked
  run : (trace : Bool) (seed : ℕ) (test : Option Text) (file : Text) → Asked

-- the number that is given for `--seed`, or 1
abbrev pub seed_in : List Row → ℕ
seed_in rows = option_map_or (λ value. digits_value 10 (without_leading_plus value)) (one_of (codes "seed") rows) 1

-- a run: whether `--trace` is given, the seed, the text that is given for `--test`, and the file
abbrev pub run_in : List Row → Text → Asked
run_in rows = run (is_given (codes "trace") rows) (seed_in rows) (first_of (codes "test") rows)

-- the values that are given for the subcommand with this name; `None` if there is no such subcommand or no file
abbrev pub asked_in : Text → List Row → Option Asked
asked_in name rows =
    if bytes_eq name (codes "debug") then option_map debug (first_of (codes "file") rows)
    else if bytes_eq name (codes "run") then option_map (run_in rows) (first_of (codes "file") rows)
    else None

-- the values of a subcommand and its arguments, if there is one
abbrev pub job_named : Option (Text × List Row) → Option Asked
job_named = option_and_then (λ p. asked_in p.0 p.1)

-- what the arguments ask for, as clap's specification reads them; `None` if they ask for no job
abbrev pub named_job : List Text → Option Asked
named_job words = job_named (subcommand_of bus_bench_app words)

-- the subcommand and values of a job
abbrev pub words_of : Job → Asked
words_of (Debug file) = debug file.now
words_of (Run trace seed test file) = run trace seed test file.now

-- whether the text that is given for `--test` is not a name
abbrev pub is_bad_test : Option Text → Bool
is_bad_test test = option_map_or (λ text. is_some (name_fault text)) test false

-- whether a run is requested and the text that is given for its `--test` is not a name
abbrev pub has_bad_name : Option Asked → Bool
has_bad_name (Some (run trace seed test file)) = is_bad_test test
has_bad_name _ = false

-- ---- what clap has found can be read

-- a file is given
abbrev pub HasFile : List Row → Type 0
HasFile rows = is_some (first_of (codes "file") rows) ≡ true

-- the value that is read for `--trace` says whether it is given
abbrev pub ReadsTrace : List Row → Type 0
ReadsTrace rows = unwrap_or (one_of (codes "trace") rows) (codes "false")
    ≡ (if is_given (codes "trace") rows then codes "true" else codes "false")

-- the value that is read for `--seed` is a number of 64 bits
abbrev pub ReadsSeed : List Row → Type 0
ReadsSeed rows = IfSome (one_of (codes "seed") rows) (Accepts false seed_parser)

-- clap has found one of the two subcommands, with the values that it needs
abbrev pub NamesJob : Option (Text × List Row) → Type 0
NamesJob None = ⊥
NamesJob (Some p) = HasFile p.1 × ((p.0 ≡ codes "debug") ⊎ ((p.0 ≡ codes "run") × ReadsTrace p.1 × ReadsSeed p.1))

-- ---- the arguments that a user writes

-- whether an argument begins with a hyphen (45)
abbrev pub is_flag : Text → Bool
is_flag [] = false
is_flag (x ∷ rest) = x == 45

-- the arguments are `PROGRAM COMMAND FILE`, and `FILE` does not begin with a hyphen
abbrev pub AsksFor : Text → List Text → Text → Type 0
AsksFor command words file =
    (program : Text) × (words ≡ program ∷ command ∷ file ∷ []) × (is_flag file ≡ false)

-- the arguments are `PROGRAM FLAG ..`, `PROGRAM debug FLAG ..` or `PROGRAM run FLAG ..`
abbrev pub AsksBy : Text → List Text → Type 0
AsksBy flag words = (program : Text) × (rest : List Text)
    × ((words ≡ program ∷ flag ∷ rest)
    ⊎ ((words ≡ program ∷ codes "debug" ∷ flag ∷ rest) ⊎ (words ≡ program ∷ codes "run" ∷ flag ∷ rest)))

-- the arguments have a flag there that asks for help
abbrev pub AsksForHelp : List Text → Type 0
AsksForHelp words = AsksBy (codes "--help") words ⊎ AsksBy (codes "-h") words

-- the arguments have a flag there that asks for the version
abbrev pub AsksForVersion : List Text → Type 0
AsksForVersion words = AsksBy (codes "--version") words ⊎ AsksBy (codes "-V") words

-- the job is `debug` for this file
abbrev pub IsDebugOf : Text → Job → Type 0
IsDebugOf file job = words_of job ≡ debug file

-- the job is `run` for this file, with no trace, the seed 1 and the script's own test
abbrev pub IsRunOf : Text → Job → Type 0
IsRunOf file job = words_of job ≡ run false 1 None file
