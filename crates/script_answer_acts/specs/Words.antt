-- The words of the line of an action. The text of a report may have several.
use Rattle.std.specs.Prelude.{ℕ, Bool, true, false, ◌==◌, if◌then◌else◌, List, [], ◌∷◌, ◌++◌, codes}
use Rattle.std.specs.Fmt.{decimal, signed_decimal}
use Rattle.std.specs.List.{slice_split}
use Rattle.uvm_glob.specs.Paths.{path_text}
use Rattle.uvm_report.specs.declared.settings.Which.{Which}
use Rattle.uvm_report.specs.declared.settings.Which.TheVariants as which
use Rattle.uvm_report.specs.Severities.{severity_name}
use Rattle.uvm_acts.specs.declared.acts.What.{What}
use Rattle.uvm_acts.specs.declared.acts.What.TheVariants as what
use Rattle.uvm_acts.specs.declared.acts.Act.{Act}
use Rattle.uvm_acts.specs.declared.acts.Act.TheVariants as act
use Rattle.uvm_lines.specs.Lines.{item_text, some_item_text, priority_text, id_text, actions_text, how_text, mode_text, kind_text}

-- the words of a text: its parts between the blanks (32)
abbrev pub words_of : List ℕ → List (List ℕ)
words_of text = slice_split (λ b. b == 32) text

-- a text in parentheses
abbrev pub in_brackets : List ℕ → List ℕ
in_brackets text = 40 ∷ text ++ 41 ∷ []

-- the words of what a component adds
abbrev pub what_words : What → List (List ℕ)
what_words (what.Sequencer mode) = codes "sequencer" ∷ mode_text mode ∷ []
what_words (what.Fifo size) = codes "fifo" ∷ decimal size ∷ []
what_words (what.Port kind) = codes "port" ∷ kind_text kind ∷ []
what_words (what.Export kind) = codes "export" ∷ kind_text kind ∷ []
what_words what.Imp = codes "imp" ∷ []

-- the word `replace` if a type override replaces an earlier one; no word otherwise
abbrev pub replace_words : Bool → List (List ℕ)
replace_words true = codes "replace" ∷ []
replace_words false = []

-- the words that name the reports that a setting is for, and after them the last word of the setting
abbrev pub which_words : Which → List ℕ → List (List ℕ)
which_words which.All last = codes "all" ∷ last ∷ []
which_words (which.Severity severity) last = severity_name severity ∷ last ∷ []
which_words (which.Id id) last = codes "id" ∷ id ∷ last ∷ []
which_words (which.Both severity id) last = severity_name severity ∷ id ∷ last ∷ []

-- the words that follow the id of a report: its verbosity, and the words of its text; none if these are 0 and empty
abbrev pub said_words : ℕ → List ℕ → List (List ℕ)
said_words verbosity [] = if verbosity == 0 then [] else decimal verbosity ∷ []
said_words verbosity (b ∷ text) = decimal verbosity ∷ words_of (b ∷ text)

-- the first word of an action
abbrev pub keyword : Act → List ℕ
keyword (act.Create type_name name) = codes "create"
keyword (act.Add name what) = codes "add"
keyword (act.Set glob field value) = codes "set"
keyword (act.Get field) = codes "get"
keyword (act.OverrideType original new replace) = codes "override"
keyword (act.OverrideInst original new glob) = codes "override"
keyword (act.Connect from to) = codes "connect"
keyword (act.Put port item) = codes "put"
keyword (act.TryPut port item) = codes "try_put"
keyword (act.Take port) = codes "take"
keyword (act.TryTake port) = codes "try_take"
keyword (act.Peek port) = codes "peek"
keyword (act.Write port item) = codes "write"
keyword (act.Ask port how) = codes "ask"
keyword (act.ItemDone port response) = codes "item_done"
keyword (act.Start type_name name on priority) = codes "start"
keyword (act.Request priority) = codes "request"
keyword act.Lock = codes "lock"
keyword act.Grab = codes "grab"
keyword act.Unlock = codes "unlock"
keyword (act.Send item) = codes "send"
keyword act.EndStep = codes "end_step"
keyword (act.Report report) = codes "report"
keyword (act.Verbosity which level) = codes "verbosity"
keyword (act.Actions which actions) = codes "actions"
keyword (act.Severity from id to) = codes "severity"
keyword (act.RaiseObjection count) = codes "raise"
keyword (act.DropObjection count) = codes "drop"
keyword (act.SetDrain ticks) = codes "set_drain"
keyword (act.Wait ticks tag) = codes "wait"

-- the words of an action after its first
abbrev pub later_words : Act → List (List ℕ)
later_words (act.Create type_name name) = type_name ∷ name ∷ []
later_words (act.Add name what) = name ∷ what_words what
later_words (act.Set glob field value) = in_brackets glob ∷ field ∷ signed_decimal value ∷ []
later_words (act.Get field) = field ∷ []
later_words (act.OverrideType original new replace) = original ∷ new ∷ replace_words replace
later_words (act.OverrideInst original new glob) = original ∷ new ∷ codes "at" ∷ in_brackets glob ∷ []
later_words (act.Connect from to) = in_brackets (path_text from) ∷ in_brackets (path_text to) ∷ []
later_words (act.Put port item) = port ∷ item_text item ∷ []
later_words (act.TryPut port item) = port ∷ item_text item ∷ []
later_words (act.Take port) = port ∷ []
later_words (act.TryTake port) = port ∷ []
later_words (act.Peek port) = port ∷ []
later_words (act.Write port item) = port ∷ item_text item ∷ []
later_words (act.Ask port how) = port ∷ how_text how ∷ []
later_words (act.ItemDone port response) = port ∷ some_item_text response ∷ []
later_words (act.Start type_name name on priority) = type_name ∷ name ∷ in_brackets (path_text on) ∷ priority_text priority ∷ []
later_words (act.Request priority) = priority_text priority ∷ []
later_words (act.Send item) = item_text item ∷ []
later_words (act.Report report) = severity_name report.severity ∷ report.id ∷ said_words report.verbosity report.text
later_words (act.Verbosity which level) = which_words which (decimal level)
later_words (act.Actions which actions) = which_words which (actions_text actions)
later_words (act.Severity from id to) = severity_name from ∷ id_text id ∷ severity_name to ∷ []
later_words (act.RaiseObjection count) = decimal count ∷ []
later_words (act.DropObjection count) = decimal count ∷ []
later_words (act.SetDrain ticks) = decimal ticks ∷ []
later_words (act.Wait ticks tag) = decimal ticks ∷ decimal tag ∷ []
later_words other = []

-- the words of an action
abbrev pub act_words : Act → List (List ℕ)
act_words other = keyword other ∷ later_words other
