-- The lines of actions.
use Rattle.std.specs.Prelude.{ℕ, List, [], ◌∷◌, ◌++◌, ◌==◌, ◌&&◌, length, if◌then◌else◌}
use Rattle.std.specs.Fmt.{decimal}
use Rattle.uvm_lines.specs.Lines.{act_text}
use Rattle.uvm_acts.specs.declared.acts.Act.{Act}
use Rattle.uvm_acts.specs.declared.acts.Act.TheVariants as act

-- a text after a blank; nothing if the text is empty
abbrev pub text_behind : List ℕ → List ℕ
text_behind text = if length text == 0 then [] else 32 ∷ text

-- what follows the id of a report: its verbosity and its text; nothing if these are 0 and empty
abbrev pub said_text : ℕ → List ℕ → List ℕ
said_text verbosity text = if (verbosity == 0) && (length text == 0) then [] else 32 ∷ decimal verbosity ++ text_behind text

-- the text that follows an action in its line: the verbosity and text of a report, and nothing for any other action
abbrev pub said_by : Act → List ℕ
said_by (act.Report report) = said_text report.verbosity report.text
said_by other = []

-- the line of an action in an answer document: its text in the transcript, and for a report also its verbosity and text
abbrev pub act_line : Act → List ℕ
act_line other = act_text other ++ said_by other
