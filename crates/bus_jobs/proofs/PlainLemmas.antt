-- The words `PROGRAM debug FILE` and `PROGRAM run FILE`.
use Rattle.bus_jobs.proofs.CommandNames.{◌≡◌, ◌∙◌, true, false, refl, ap, sym, List, [], ◌∷◌, None, Option, Some, Result, Ok, Err, IfOk, MatchResult, OnErr, codes, clap_on_literals, takes, AsksFor, Asked, bus_bench_app, debug, has_bad_name, is_flag, named_job, run, words_of, JobFault, BadName, Memory, Job, Text}

debug_taken : (program file : Text) → is_flag file ≡ false → takes bus_bench_app (program ∷ codes "debug" ∷ file ∷ []) ≡ true
unfolding clap_on_literals
debug_taken program [] plain = refl
debug_taken program (x ∷ rest) plain = simp plain

debug_named : (program file : Text) → is_flag file ≡ false → named_job (program ∷ codes "debug" ∷ file ∷ []) ≡ Some (debug file)
unfolding clap_on_literals
debug_named program [] plain = refl
debug_named program (x ∷ rest) plain = simp plain

run_taken : (program file : Text) → is_flag file ≡ false → takes bus_bench_app (program ∷ codes "run" ∷ file ∷ []) ≡ true
unfolding clap_on_literals
run_taken program [] plain = refl
run_taken program (x ∷ rest) plain = simp plain

run_named : (program file : Text) → is_flag file ≡ false → named_job (program ∷ codes "run" ∷ file ∷ []) ≡ Some (run false 1 None file)
unfolding clap_on_literals
run_named program [] plain = refl
run_named program (x ∷ rest) plain = simp plain

pub asks_debug : (words : List Text) (file : Text) → AsksFor (codes "debug") words file → (takes bus_bench_app words ≡ true) × (named_job words ≡ Some (debug file))
asks_debug words file asks = (rw asks.1 (debug_taken asks.0 file asks.2), rw asks.1 (debug_named asks.0 file asks.2))

pub asks_run : (words : List Text) (file : Text) → AsksFor (codes "run") words file → (takes bus_bench_app words ≡ true) × (named_job words ≡ Some (run false 1 None file))
asks_run words file asks = (rw asks.1 (run_taken asks.0 file asks.2), rw asks.1 (run_named asks.0 file asks.2))

-- the job is the one that is asked for, and where there is none, memory is wanting
abbrev pub AnswersAsked : Asked → Result Job JobFault → Type 0
AnswersAsked asked r = MatchResult r (λ job. words_of job ≡ asked) (λ fault. fault ≡ Memory)

-- words that name a job with no bad name give it
pub gives_job : (named : Option Asked) (asked : Asked) (r : Result Job JobFault) → named ≡ Some asked → has_bad_name (Some asked) ≡ false
    → IfOk r (λ job. named ≡ Some (words_of job)) → OnErr r ((r ≡ Err BadName) × (has_bad_name named ≡ true)) → AnswersAsked asked r
gives_job named asked (Ok job) is good made refused = let same : Some (words_of job) ≡ Some asked = sym made ∙ is in cc
gives_job named asked (Err fault) is good made refused = let bad : true ≡ false = sym refused.1 ∙ (ap has_bad_name is ∙ good) in cc
