-- The texts of entries are printed, and begin as lines of a transcript.
use Rattle.std.proofs.Common.{◌≡◌, ℕ, Bool, true, false, List, ◌++◌, refl, ◌∙◌}
use Rattle.std.specs.List.{list_all}
use Rattle.std.proofs.lemmas.Bool.{and_from}
use Rattle.std.proofs.lemmas.List.Folds.{list_all-append}
use Rattle.uvm_glob.specs.Printed.{IsPrinted, is_printed_byte}
use Rattle.uvm_phase.specs.declared.phases.Phase.{Phase}
use Rattle.uvm_phase.specs.declared.phases.Phase.TheVariants.{Build, Connect, EndOfElaboration, StartOfSimulation, Run, Extract, Check, Report, Final, PreReset, Reset, PostReset, PreConfigure, Configure, PostConfigure, PreMain, Main, PostMain, PreShutdown, Shutdown, PostShutdown}
use Rattle.uvm_phase.specs.Phases.{phase_name}
use Rattle.uvm_report.specs.declared.severities.Actions.{Actions}
use Rattle.uvm_report.specs.declared.severities.Severity.{Severity}
use Rattle.uvm_report.specs.declared.severities.Severity.TheVariants as severity
use Rattle.uvm_report.specs.Plain.{IsPlainLine, begins_plain}
use Rattle.uvm_report.specs.Severities.{severity_name}
use Rattle.uvm_sequencer.specs.declared.drivers.How.{How}
use Rattle.uvm_sequencer.specs.declared.drivers.How.TheVariants as how
use Rattle.uvm_sequencer.specs.declared.modes.Mode.{Mode}
use Rattle.uvm_sequencer.specs.declared.modes.Mode.TheVariants as mode
use Rattle.uvm_sequences.specs.Sequences.{Start}
use Rattle.uvm_tlm.specs.declared.ends.PortKind.{PortKind}
use Rattle.uvm_tlm.specs.declared.ends.PortKind.TheVariants as port
use Rattle.uvm_tlm.specs.declared.fifos.MoveKind.{MoveKind}
use Rattle.uvm_tlm.specs.declared.fifos.MoveKind.TheVariants as move
use Rattle.uvm_tree.specs.Nodes.{Node}
use Rattle.uvm_object.specs.declared.entries.Entry.{Entry}
use Rattle.uvm_object.specs.declared.entries.Entry.TheVariants.{Begin, End, Time, Heard, Did, Locked, Granted, Passed, Drained, Note, Over}
use Rattle.uvm_object.specs.declared.entries.Reason.{Reason}
use Rattle.uvm_object.specs.declared.entries.Reason.TheVariants as reason
use Rattle.uvm_object.specs.declared.fatals.Fatal.{Fatal}
use Rattle.uvm_object.specs.declared.fatals.Fatal.TheVariants.{NotOpen, CreatedAfterBuild, TooManyActs, InvalidType, ChildTaken, TreeLimit, OverrideLoop, NoObject, TooManySettings, ConnectedTooLate, UnknownNode, KindsDiffer, TooFewConnections, TooManyConnections, NoPort, NoSequencer, NoDriver, AskedTwice, NothingOut, NotGranted, NotHeld, OutsideTask, ObjectionBelowZero, OutOfRange, Timeout, Stall}
use Rattle.uvm_object.specs.Fatals.{id_of}
use Rattle.uvm_lines.specs.Lines.{actions_text, answer_text, entry_line, entry_text, how_text, kind_text, mode_text, move_text, reason_text, replace_text}

pub printed-append : (front back : List ℕ) → IsPrinted front → IsPrinted back → IsPrinted (front ++ back)
printed-append front back one more = list_all-append is_printed_byte front back ∙ and_from (list_all is_printed_byte front) (list_all is_printed_byte back) one more

-- THE WORDS OF LINES

pub phase-printed : (phase : Phase) → IsPrinted (phase_name phase)
phase-printed Build = refl
phase-printed Connect = refl
phase-printed EndOfElaboration = refl
phase-printed StartOfSimulation = refl
phase-printed Run = refl
phase-printed Extract = refl
phase-printed Check = refl
phase-printed Report = refl
phase-printed Final = refl
phase-printed PreReset = refl
phase-printed Reset = refl
phase-printed PostReset = refl
phase-printed PreConfigure = refl
phase-printed Configure = refl
phase-printed PostConfigure = refl
phase-printed PreMain = refl
phase-printed Main = refl
phase-printed PostMain = refl
phase-printed PreShutdown = refl
phase-printed Shutdown = refl
phase-printed PostShutdown = refl

pub severity-printed : (one : Severity) → IsPrinted (severity_name one)
severity-printed severity.Info = refl
severity-printed severity.Warning = refl
severity-printed severity.Error = refl
severity-printed severity.Fatal = refl

pub fatal-printed : (fatal : Fatal) → IsPrinted (id_of fatal)
fatal-printed NotOpen = refl
fatal-printed CreatedAfterBuild = refl
fatal-printed TooManyActs = refl
fatal-printed InvalidType = refl
fatal-printed ChildTaken = refl
fatal-printed TreeLimit = refl
fatal-printed OverrideLoop = refl
fatal-printed NoObject = refl
fatal-printed TooManySettings = refl
fatal-printed ConnectedTooLate = refl
fatal-printed UnknownNode = refl
fatal-printed KindsDiffer = refl
fatal-printed TooFewConnections = refl
fatal-printed TooManyConnections = refl
fatal-printed NoPort = refl
fatal-printed NoSequencer = refl
fatal-printed NoDriver = refl
fatal-printed AskedTwice = refl
fatal-printed NothingOut = refl
fatal-printed NotGranted = refl
fatal-printed NotHeld = refl
fatal-printed OutsideTask = refl
fatal-printed ObjectionBelowZero = refl
fatal-printed OutOfRange = refl
fatal-printed Timeout = refl
fatal-printed Stall = refl

pub how-printed : (how : How) → IsPrinted (how_text how)
how-printed how.Next = refl
how-printed how.Try = refl
how-printed how.Get = refl

pub mode-printed : (mode : Mode) → IsPrinted (mode_text mode)
mode-printed mode.Fifo = refl
mode-printed mode.Weighted = refl
mode-printed mode.Random = refl
mode-printed mode.StrictFifo = refl
mode-printed mode.StrictRandom = refl

pub kind-printed : (kind : PortKind) → IsPrinted (kind_text kind)
kind-printed port.Put = refl
kind-printed port.Get = refl
kind-printed port.Analysis = refl
kind-printed port.Seq = refl

pub move-printed : (kind : MoveKind) → IsPrinted (move_text kind)
move-printed move.Put = refl
move-printed move.Take = refl
move-printed move.Peek = refl

pub answer-printed : (answer : Bool) → IsPrinted (answer_text answer)
answer-printed true = refl
answer-printed false = refl

pub replace-printed : (replace : Bool) → IsPrinted (replace_text replace)
replace-printed true = refl
replace-printed false = refl

pub reason-printed : (why : Reason) → IsPrinted (reason_text why)
reason-printed reason.Finished = refl
reason-printed reason.Exit = refl
reason-printed reason.NoTest = refl
reason-printed reason.Stall = refl
reason-printed reason.Timeout = refl

actions_by : (display count exit : Bool) → IsPrinted (actions_text (record { display = display; count = count; exit = exit }))
actions_by true true true = refl
actions_by true true false = refl
actions_by true false true = refl
actions_by true false false = refl
actions_by false true true = refl
actions_by false true false = refl
actions_by false false true = refl
actions_by false false false = refl

pub actions-printed : (actions : Actions) → IsPrinted (actions_text actions)
actions-printed actions = actions_by actions.display actions.count actions.exit

-- what a text of parts is printed by
pub ruleset printed = (
  printed-append,
  phase-printed,
  severity-printed,
  fatal-printed,
  how-printed,
  mode-printed,
  kind-printed,
  move-printed,
  answer-printed,
  replace-printed,
  reason-printed,
  actions-printed,
)

-- ENTRIES

entry-begins : (nodes : List Node) (started : List Start) (entry : Entry) → begins_plain (entry_text nodes started entry) ≡ true
entry-begins nodes started (Begin phase) = refl
entry-begins nodes started (End phase) = refl
entry-begins nodes started (Time time) = refl
entry-begins nodes started (Heard who origin call acts) = refl
entry-begins nodes started (Did who outcome act) = refl
entry-begins nodes started (Locked sequencer id) = refl
entry-begins nodes started (Granted sequencer grant) = refl
entry-begins nodes started (Passed fifo passage) = refl
entry-begins nodes started (Drained node origin) = refl
entry-begins nodes started (Note fatal node) = refl
entry-begins nodes started (Over why) = refl

-- the line of an entry is one of a transcript
pub entry_plain : (nodes : List Node) (started : List Start) (entry : Entry) → IsPrinted (entry_text nodes started entry) → IsPlainLine (entry_line nodes started entry)
entry_plain nodes started entry printed = record {
  shown = entry_text nodes started entry;
  plain = and_from (list_all is_printed_byte (entry_text nodes started entry)) (begins_plain (entry_text nodes started entry)) printed (entry-begins nodes started entry);
  joined = refl;
}
