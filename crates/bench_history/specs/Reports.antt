-- What a log requests from the report server, and how its reports are handled (IEEE 1800.2-2020, Clause 6).
use Rattle.std.specs.Prelude.{ℕ, Bool, false, List, [], ◌∷◌, ◌++◌, reverse, map, Option, Some, None, option_and_then, ◌==◌}
use Rattle.std.specs.List.{list_any, cons_option}
use Rattle.uvm_glob.specs.Paths.{path_text}
use Rattle.uvm_glob.specs.Faults.{fault_if}
use Rattle.uvm_glob.specs.Lists.{newest, first_given}
use Rattle.uvm_report.specs.declared.severities.Severity.{Severity}
use Rattle.uvm_report.specs.declared.messages.Fate.{Fate}
use Rattle.uvm_report.specs.Fates.{displayed_as}
use Rattle.uvm_report.specs.Commands.{Command, SetVerbosity, SetAction, SetSeverity, SetQuitLimit, Issue, fate_in, is_exit_asked}
use Rattle.uvm_report.specs.Lines.{report_line}
use Rattle.uvm_sequences.specs.Sequences.{Start}
use Rattle.uvm_tree.specs.Nodes.{Node, path_at}
use Rattle.uvm_acts.specs.Acts.{node_of}
use Rattle.uvm_acts.specs.declared.acts.Act.{Act}
use Rattle.uvm_acts.specs.declared.acts.Act.TheVariants as act
use Rattle.uvm_object.specs.Fatals.{fatal_report}
use Rattle.uvm_object.specs.declared.fatals.Fatal.TheVariants as fatal
use Rattle.uvm_object.specs.Sources.{shown_path, source_text}
use Rattle.uvm_object.specs.declared.entries.Outcome.{Outcome}
use Rattle.uvm_object.specs.declared.entries.Outcome.TheVariants.{Done, Refused}
use Rattle.uvm_object.specs.declared.entries.Reason.{Reason}
use Rattle.uvm_object.specs.declared.entries.Reason.TheVariants as reason
use Rattle.uvm_object.specs.declared.entries.Entry.{Entry}
use Rattle.uvm_object.specs.declared.entries.Entry.TheVariants.{Did, Note}
use Rattle.script_tables.specs.declared.report_settings.VerbositySetting.{VerbositySetting}
use Rattle.script_tables.specs.declared.report_settings.ActionSetting.{ActionSetting}
use Rattle.script_tables.specs.declared.report_settings.SeverityChange.{SeverityChange}
use Rattle.bench_script.specs.Scripts.{ScriptValue}
use Rattle.bench_history.specs.History.{now_of, nodes_of}
use Rattle.bench_history.specs.Sequences.{sequences_of}

-- what a verbosity setting of a script requests from the report server
abbrev pub verbosity_command : VerbositySetting → Command
verbosity_command given = SetVerbosity given.scope given.which given.level

-- what an action setting of a script requests from the report server
abbrev pub action_command : ActionSetting → Command
action_command given = SetAction given.scope given.which given.actions

-- what a severity change of a script requests from the report server
abbrev pub severity_command : SeverityChange → Command
severity_command given = SetSeverity given.scope given.from given.id given.to

-- all requests of the script, the newest first: severity changes, action settings, verbosities, and last the quit limit
abbrev pub script_commands : ScriptValue → List Command
script_commands script =
    reverse (map severity_command script.severities) ++ (reverse (map action_command script.actions) ++ (reverse (map verbosity_command script.verbosities) ++ SetQuitLimit script.quit_limit ∷ []))

-- what an action that was performed requests; its settings apply exactly to the path of its performer
abbrev pub act_command : List (List ℕ) → Act → Option Command
act_command path (act.Report report) = Some (Issue path report)
act_command path (act.Verbosity which level) = Some (SetVerbosity (path_text path) which level)
act_command path (act.Actions which actions) = Some (SetAction (path_text path) which actions)
act_command path (act.Severity from id to) = Some (SetSeverity (path_text path) from id to)
act_command path other = None

-- what an action requests from the report server, by its outcome: if it was refused, its fatal report
abbrev pub outcome_command : List (List ℕ) → Outcome → Act → Option Command
outcome_command path Done act = act_command path act
outcome_command path (Refused fatal) act = Some (Issue path (fatal_report fatal))
outcome_command path outcome act = None

-- what an entry requests from the report server: that of an action, or the fatal report of a note
abbrev pub command_in : List Node → Entry → Option Command
command_in nodes (Did performer outcome act) = outcome_command (path_at nodes (node_of performer)) outcome act
command_in nodes (Note fatal node) = Some (Issue (path_at nodes node) (fatal_report fatal))
command_in nodes entry = None

-- all requests, the newest first: those of the entries, then those of the script
abbrev pub report_commands : ScriptValue → List Entry → List Command
report_commands script [] = script_commands script
report_commands script (entry ∷ before) = cons_option (command_in (nodes_of before) entry) (report_commands script before)

-- an entry refuses the test: the creation of the test is the only action of the top node
abbrev pub refuses_test : Entry → Bool
refuses_test (Did performer (Refused fatal) act) = node_of performer == 0
refuses_test entry = false

-- the reason for the end of the run that an entry notes: a timeout or a stall
abbrev pub noted_end : Entry → Option Reason
noted_end (Note fatal.Timeout node) = Some reason.Timeout
noted_end (Note fatal.Stall node) = Some reason.Stall
noted_end entry = None

-- why the run is aborted, if it is: the newest entry notes the reason, the test was refused, or a report asked for exit
abbrev pub reason_of : ScriptValue → List Entry → Option Reason
reason_of script history =
    first_given (
    option_and_then noted_end (newest history)
    ∷ fault_if (list_any refuses_test history) reason.NoTest
    ∷ fault_if (is_exit_asked (report_commands script history)) reason.Exit
    ∷ [])

-- how the report of the newest entry was handled, if it has one
abbrev pub newest_fate : ScriptValue → List Entry → Option Fate
newest_fate script [] = None
newest_fate script (entry ∷ before) = option_and_then (fate_in (report_commands script before)) (command_in (nodes_of before) entry)

-- the source that a report shows: the path of its performer, for a sequence that of its sequencer with its names; for a note the path of its node
abbrev pub source_in : List Node → List Start → Entry → List ℕ
source_in nodes started (Did performer outcome act) = source_text nodes started performer
source_in nodes started (Note fatal node) = shown_path (path_at nodes node)
source_in nodes started entry = []

-- the line of a report, if it is displayed under a severity
abbrev pub line_under : ℕ → List ℕ → Option Command → Option Severity → List ℕ
line_under time source (Some (Issue path report)) (Some severity) = report_line severity time source report.id report.text
line_under time source command severity = []

-- the line of the report of the newest entry, if it has one that is displayed
abbrev pub report_text : ScriptValue → List Entry → List ℕ
report_text script [] = []
report_text script (entry ∷ before) =
    line_under (now_of (entry ∷ before)) (source_in (nodes_of (entry ∷ before)) (sequences_of (entry ∷ before)) entry) (command_in (nodes_of before) entry) (option_and_then displayed_as (newest_fate script (entry ∷ before)))
