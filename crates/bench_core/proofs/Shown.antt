-- The text of the newest entry, where it has one.
use Rattle.std.proofs.Common.{◌≢◌, ℕ, Bool, List, [], ◌∷◌, ◌++◌, refl}
use Rattle.uvm_report.specs.Plain.{ArePlainLines, IsLineAtMost, most-none, most-one, plain-append, plain-most, plain-none}
use Rattle.uvm_object.specs.declared.entries.Entry.{Entry}
use Rattle.bench_script.specs.Scripts.{ScriptValue}
use Rattle.bench_history.specs.Reports.{report_text}
use Rattle.bench_core.specs.Cores.{HasFewLines, last_line, last_text}

-- a line has its end
pub line_some : (text : List ℕ) (byte : ℕ) → text ++ byte ∷ [] ≢ []
line_some [] byte = λ none. cc
line_some (first ∷ text) byte = λ none. cc

-- what has something in front, or behind, is something
pub some_in_front : (front back : List ℕ) → front ≢ [] → front ++ back ≢ []
some_in_front [] back some = λ none. some refl
some_in_front (first ∷ front) back some = λ none. cc

pub some_behind : (front back : List ℕ) → back ≢ [] → front ++ back ≢ []
some_behind [] back some = λ none. some none
some_behind (first ∷ front) back some = λ none. cc

-- the line of an entry, if it is asked for
pub ruleset plain = (most-none, most-one)

-- the text of an entry is whole lines of a transcript
pub both : (trace : Bool) (script : ScriptValue) (history : List Entry) → IsLineAtMost (last_line trace history) → IsLineAtMost (report_text script history) → ArePlainLines (last_text trace script history)
both trace script history entry report = plain-append (last_line trace history) (report_text script history) (plain-most (last_line trace history) entry) (plain-most (report_text script history) report)

pub ruleset whole = (plain-none, both)

-- the text of an entry is its line and that of its report
pub few : (trace : Bool) (script : ScriptValue) (history : List Entry) → IsLineAtMost (last_line trace history) → IsLineAtMost (report_text script history) → HasFewLines trace script history
few trace script history entry report = record { entry = entry; report = report }
