-- The line of an entry of a log, and the texts in it.
use Rattle.std.specs.Prelude.{ℕ, ℤ, pos, Option, Some, None, is_some, Bool, true, false, List, [], ◌∷◌, ◌++◌, length, codes, slice_index_or, if◌then◌else◌}
use Rattle.std.specs.List.{join_with_byte}
use Rattle.std.specs.Fmt.{decimal, signed_decimal}
use Rattle.uvm_glob.specs.Paths.{path_text}
use Rattle.uvm_phase.specs.Phases.{phase_name}
use Rattle.uvm_report.specs.declared.severities.Actions.{Actions}
use Rattle.uvm_report.specs.declared.settings.Which.{Which}
use Rattle.uvm_report.specs.declared.settings.Which.TheVariants as which
use Rattle.uvm_report.specs.Severities.{severity_name, is_empty}
use Rattle.uvm_sequencer.specs.declared.drivers.How.{How}
use Rattle.uvm_sequencer.specs.declared.drivers.How.TheVariants as how
use Rattle.uvm_sequencer.specs.declared.modes.Mode.{Mode}
use Rattle.uvm_sequencer.specs.declared.modes.Mode.TheVariants as mode
use Rattle.uvm_sequences.specs.Sequences.{Start}
use Rattle.uvm_tlm.specs.declared.ends.PortKind.{PortKind}
use Rattle.uvm_tlm.specs.declared.ends.PortKind.TheVariants.{Put, Get, Analysis, Seq}
use Rattle.uvm_tlm.specs.declared.fifos.MoveKind.{MoveKind}
use Rattle.uvm_tlm.specs.declared.fifos.MoveKind.TheVariants as move
use Rattle.uvm_tlm.specs.declared.items.Item.{Item}
use Rattle.uvm_tree.specs.Nodes.{Node, path_at}
use Rattle.uvm_acts.specs.declared.acts.Who.{Who}
use Rattle.uvm_acts.specs.declared.acts.Who.TheVariants as who
use Rattle.uvm_acts.specs.declared.acts.Call.{Call}
use Rattle.uvm_acts.specs.declared.acts.Call.TheVariants as call
use Rattle.uvm_acts.specs.declared.acts.What.{What}
use Rattle.uvm_acts.specs.declared.acts.What.TheVariants as what
use Rattle.uvm_acts.specs.declared.acts.Act.{Act}
use Rattle.uvm_acts.specs.declared.acts.Act.TheVariants as act
use Rattle.uvm_object.specs.declared.entries.Outcome.{Outcome}
use Rattle.uvm_object.specs.declared.entries.Outcome.TheVariants as outcome
use Rattle.uvm_object.specs.declared.entries.Reason.{Reason}
use Rattle.uvm_object.specs.declared.entries.Reason.TheVariants.{Finished, Exit, NoTest, Stall, Timeout}
use Rattle.uvm_object.specs.declared.entries.Entry.{Entry}
use Rattle.uvm_object.specs.declared.entries.Entry.TheVariants.{Begin, End, Time, Heard, Did, Locked, Granted, Passed, Drained, Note, Over}
use Rattle.uvm_object.specs.Fatals.{id_of}
use Rattle.uvm_object.specs.Sources.{sequence_text, shown_path}

-- the text of a component or sequence in the lines of entries: its path, followed for a sequence by `#` and its number
abbrev pub who_text : List Node → List Start → Who → List ℕ
who_text nodes started (who.Node node) = shown_path (path_at nodes node)
who_text nodes started (who.Sequence home id) = sequence_text nodes started id home ++ 35 ∷ decimal id

-- the text of a value in decimal, or `none`
abbrev pub value_text : Option ℤ → List ℕ
value_text None = codes "none"
value_text (Some value) = signed_decimal value

-- the text `yes` or `no`
abbrev pub answer_text : Bool → List ℕ
answer_text true = codes "yes"
answer_text false = codes "no"

-- the text of one of the four values of an item, in decimal
abbrev pub word_text : Item → ℕ → List ℕ
word_text item place = signed_decimal (slice_index_or item.0 place (pos 0))

-- the text of an item: its four values in brackets, with commas between them, as `[1,0,10,0]`
abbrev pub item_text : Item → List ℕ
item_text item = 91 ∷ word_text item 0 ++ 44 ∷ word_text item 1 ++ 44 ∷ word_text item 2 ++ 44 ∷ word_text item 3 ++ 93 ∷ []

-- the text of an item, or `none`
abbrev pub some_item_text : Option Item → List ℕ
some_item_text None = codes "none"
some_item_text (Some item) = item_text item

-- the text of a call, as a `heard` line shows it
abbrev pub call_text : Call → List ℕ
call_text (call.Phase phase) = phase_name phase
call_text (call.Config field value) = codes "config " ++ field ++ 32 ∷ value_text value
call_text (call.Wake tag) = codes "wake " ++ decimal tag
call_text (call.Stored port) = codes "stored " ++ port
call_text (call.TryStored port stored) = codes "try_stored " ++ port ++ 32 ∷ answer_text stored
call_text (call.Taken port item) = codes "taken " ++ port ++ 32 ∷ item_text item
call_text (call.TryTaken port item) = codes "try_taken " ++ port ++ 32 ∷ some_item_text item
call_text (call.Peeked port item) = codes "peeked " ++ port ++ 32 ∷ item_text item
call_text (call.Written imp item) = codes "written " ++ imp ++ 32 ∷ item_text item
call_text (call.NextItem port item) = codes "next_item " ++ port ++ 32 ∷ some_item_text item
call_text call.PreStart = codes "pre_start"
call_text call.Body = codes "body"
call_text call.PostStart = codes "post_start"
call_text call.Grant = codes "grant"
call_text (call.ItemDone response) = codes "item_done " ++ some_item_text response
call_text call.Held = codes "held"
call_text (call.Finished name id) = codes "finished " ++ name ++ 32 ∷ decimal id

-- the text of the kind of a port or an export
abbrev pub kind_text : PortKind → List ℕ
kind_text Put = codes "put"
kind_text Get = codes "get"
kind_text Analysis = codes "analysis"
kind_text Seq = codes "seq"

-- the text of the arbitration mode of a sequencer
abbrev pub mode_text : Mode → List ℕ
mode_text mode.Fifo = codes "FIFO"
mode_text mode.Weighted = codes "WEIGHTED"
mode_text mode.Random = codes "RANDOM"
mode_text mode.StrictFifo = codes "STRICT_FIFO"
mode_text mode.StrictRandom = codes "STRICT_RANDOM"

-- the text of how a driver asks for an item
abbrev pub how_text : How → List ℕ
how_text how.Next = codes "next"
how_text how.Try = codes "try"
how_text how.Get = codes "get"

-- the text of what a component adds: a sequencer, a FIFO, a port, an export or an imp
abbrev pub what_text : What → List ℕ
what_text (what.Sequencer mode) = codes "sequencer " ++ mode_text mode
what_text (what.Fifo size) = codes "fifo " ++ decimal size
what_text (what.Port kind) = codes "port " ++ kind_text kind
what_text (what.Export kind) = codes "export " ++ kind_text kind
what_text what.Imp = codes "imp"

-- the text ` replace` for a type override that replaces an earlier one, otherwise the empty text
abbrev pub replace_text : Bool → List ℕ
replace_text true = codes " replace"
replace_text false = []

-- the text of the reports for which a verbosity level or report actions are set
abbrev pub which_text : Which → List ℕ
which_text which.All = codes "all"
which_text (which.Severity severity) = severity_name severity
which_text (which.Id id) = codes "id " ++ id
which_text (which.Both severity id) = severity_name severity ++ 32 ∷ id

-- a list of only this text if the condition holds, otherwise an empty list
abbrev pub word_if : Bool → List ℕ → List (List ℕ)
word_if true word = word ∷ []
word_if false word = []

-- the text of a set of report actions: their names with commas between them, or `none` if it is empty
abbrev pub actions_text : Actions → List ℕ
actions_text actions =
    if is_empty actions then codes "none"
    else join_with_byte 44 (word_if actions.display (codes "display") ++ word_if actions.count (codes "count") ++ word_if actions.exit (codes "exit"))

-- the text of an id, or `none`
abbrev pub id_text : Option (List ℕ) → List ℕ
id_text None = codes "none"
id_text (Some id) = id

-- the text of a priority in decimal, or `none`
abbrev pub priority_text : Option ℕ → List ℕ
priority_text None = codes "none"
priority_text (Some priority) = decimal priority

-- the text of an action, as a `did` line shows it before its outcome
abbrev pub act_text : Act → List ℕ
act_text (act.Create type_name name) = codes "create " ++ type_name ++ 32 ∷ name
act_text (act.Add name what) = codes "add " ++ name ++ 32 ∷ what_text what
act_text (act.Set glob field value) = codes "set (" ++ glob ++ codes ") " ++ field ++ 32 ∷ signed_decimal value
act_text (act.Get field) = codes "get " ++ field
act_text (act.OverrideType original new replace) = codes "override " ++ original ++ 32 ∷ new ++ replace_text replace
act_text (act.OverrideInst original new glob) = codes "override " ++ original ++ 32 ∷ new ++ codes " at (" ++ glob ++ codes ")"
act_text (act.Connect from to) = codes "connect (" ++ path_text from ++ codes ") (" ++ path_text to ++ codes ")"
act_text (act.Put port item) = codes "put " ++ port ++ 32 ∷ item_text item
act_text (act.TryPut port item) = codes "try_put " ++ port ++ 32 ∷ item_text item
act_text (act.Take port) = codes "take " ++ port
act_text (act.TryTake port) = codes "try_take " ++ port
act_text (act.Peek port) = codes "peek " ++ port
act_text (act.Write port item) = codes "write " ++ port ++ 32 ∷ item_text item
act_text (act.Ask port how) = codes "ask " ++ port ++ 32 ∷ how_text how
act_text (act.ItemDone port response) = codes "item_done " ++ port ++ 32 ∷ some_item_text response
act_text (act.Start type_name name on priority) = codes "start " ++ type_name ++ 32 ∷ name ++ codes " (" ++ path_text on ++ codes ") " ++ priority_text priority
act_text (act.Request priority) = codes "request " ++ priority_text priority
act_text act.Lock = codes "lock"
act_text act.Grab = codes "grab"
act_text act.Unlock = codes "unlock"
act_text (act.Send item) = codes "send " ++ item_text item
act_text act.EndStep = codes "end_step"
act_text (act.Report report) = codes "report " ++ severity_name report.severity ++ 32 ∷ report.id
act_text (act.Verbosity which level) = codes "verbosity " ++ which_text which ++ 32 ∷ decimal level
act_text (act.Actions which actions) = codes "actions " ++ which_text which ++ 32 ∷ actions_text actions
act_text (act.Severity from id to) = codes "severity " ++ severity_name from ++ 32 ∷ id_text id ++ 32 ∷ severity_name to
act_text (act.RaiseObjection count) = codes "raise " ++ decimal count
act_text (act.DropObjection count) = codes "drop " ++ decimal count
act_text (act.SetDrain ticks) = codes "set_drain " ++ decimal ticks
act_text (act.Wait ticks tag) = codes "wait " ++ decimal ticks ++ 32 ∷ decimal tag

-- the text of the outcome of an action, as a `did` line shows it
abbrev pub outcome_text : Outcome → List ℕ
outcome_text outcome.Done = codes "done"
outcome_text (outcome.Made type_name) = codes "made " ++ type_name
outcome_text (outcome.Started id) = codes "started " ++ decimal id
outcome_text (outcome.Value value) = codes "value " ++ value_text value
outcome_text (outcome.Stored stored) = answer_text stored
outcome_text (outcome.Taken item) = answer_text (is_some item)
outcome_text (outcome.Waits waits) = answer_text waits
outcome_text outcome.Finished = codes "finished"
outcome_text (outcome.Refused fatal) = codes "refused " ++ id_of fatal

-- the text of the kind of a FIFO transfer
abbrev pub move_text : MoveKind → List ℕ
move_text move.Put = codes "put"
move_text move.Take = codes "take"
move_text move.Peek = codes "peek"

-- the text of the reason why a run ended, as the `over` line shows it
abbrev pub reason_text : Reason → List ℕ
reason_text Finished = codes "finished"
reason_text Exit = codes "exit"
reason_text NoTest = codes "no_test"
reason_text Stall = codes "stall"
reason_text Timeout = codes "timeout"

-- ` word ` and the random number that decided a grant; the empty text if none was consumed
abbrev pub drawn_text : Option ℕ → List ℕ
drawn_text None = []
drawn_text (Some word) = codes " word " ++ decimal word

-- the line of an entry without its newline, given the nodes of the tree and the started sequences
abbrev pub entry_text : List Node → List Start → Entry → List ℕ
entry_text nodes started (Begin phase) = codes "begin " ++ phase_name phase
entry_text nodes started (End phase) = codes "end " ++ phase_name phase
entry_text nodes started (Time time) = codes "time " ++ decimal time
entry_text nodes started (Heard who origin call acts) = codes "heard " ++ who_text nodes started who ++ 32 ∷ call_text call ++ codes ": " ++ decimal (length acts)
entry_text nodes started (Did who outcome act) = codes "did " ++ who_text nodes started who ++ 32 ∷ act_text act ++ codes ": " ++ outcome_text outcome
entry_text nodes started (Locked sequencer id) = codes "locked " ++ shown_path (path_at nodes sequencer) ++ 32 ∷ who_text nodes started (who.Sequence sequencer id)
entry_text nodes started (Granted sequencer grant) = codes "granted " ++ shown_path (path_at nodes sequencer) ++ 32 ∷ who_text nodes started (who.Sequence sequencer grant.id) ++ drawn_text grant.word
entry_text nodes started (Passed fifo passage) = codes "passed " ++ shown_path (path_at nodes fifo) ++ 32 ∷ move_text passage.kind ++ 32 ∷ who_text nodes started passage.who
entry_text nodes started (Drained node origin) = codes "drained " ++ shown_path (path_at nodes node)
entry_text nodes started (Note fatal node) = codes "note " ++ id_of fatal ++ 32 ∷ shown_path (path_at nodes node)
entry_text nodes started (Over reason) = codes "over " ++ reason_text reason

-- the line of an entry with its newline, given the nodes of the tree and the started sequences
abbrev pub entry_line : List Node → List Start → Entry → List ℕ
entry_line nodes started entry = entry_text nodes started entry ++ 10 ∷ []
