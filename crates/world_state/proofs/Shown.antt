-- A line that is written has bytes.
use Rattle.world_state.proofs.Common.{◌≢◌, ℕ, List, [], ◌∷◌, ◌++◌, Result, Ok, Err, OnErr, Severity, codes, decimal, severity_text, report_line, most-none, most-one}

ended : (text : List ℕ) (byte : ℕ) → text ++ byte ∷ [] ≢ []
ended [] byte = λ none. cc
ended (first ∷ text) byte = λ none. cc

pub report_line_some : (severity : Severity) (time : ℕ) (source id text : List ℕ) → report_line severity time source id text ≢ []
unfolding report_line
report_line_some severity time source id text =
    ended (severity_text severity ++ codes " @ " ++ decimal time ++ codes ": " ++ source ++ codes " [" ++ id ++ codes "] " ++ text) 10

-- so memory is refused to it alone
pub line_lost : {A E : Type 0} (result : Result A E) (severity : Severity) (time : ℕ) (source id text : List ℕ) → OnErr result (report_line severity time source id text ≢ [])
line_lost (Ok value) severity time source id text = tt
line_lost (Err fault) severity time source id text = report_line_some severity time source id text

-- no line is written where there is no report, and otherwise one
pub ruleset plain = (most-none, most-one)
