-- The dialogue of a log: what the kernel says and what the client answers, in the order of time. It is a function of the log and of the types
-- that have answers. Their objects are scripted: the kernel holds them, and the client takes no part in requests for them.
use Rattle.std.specs.Prelude.{ℕ, ◌+◌, Bool, true, false, List, [], ◌∷◌, ◌++◌, length, All, Option, Some, None, filter, is_none, codes}
use Rattle.std.specs.List.{flat_map}
use Rattle.std.specs.Fmt.{decimal}
use Rattle.uvm_factory.specs.declared.types.Kind.{Kind}
use Rattle.uvm_factory.specs.declared.types.Kind.TheVariants as kind
use Rattle.uvm_acts.specs.declared.acts.Who.{Who}
use Rattle.uvm_acts.specs.declared.acts.Who.TheVariants as who
use Rattle.uvm_acts.specs.declared.acts.Call.{Call}
use Rattle.uvm_object.specs.declared.entries.Outcome.TheVariants.{Made, Started}
use Rattle.uvm_object.specs.declared.entries.Entry.{Entry}
use Rattle.uvm_object.specs.declared.entries.Entry.TheVariants.{Did, Heard, Time}
use Rattle.uvm_glob.specs.Lists.{newest}
use Rattle.uvm_glob.specs.Paths.{path_text}
use Rattle.uvm_lines.specs.Lines.{call_text, who_text}
use Rattle.bench_script.specs.Scripts.{ScriptValue}
use Rattle.bench_history.specs.declared.needs.Need as declared
use Rattle.bench_history.specs.History.{nodes_of}
use Rattle.bench_history.specs.Sequences.{sequences_of, leaving_of}
use Rattle.bench_history.specs.Cases as next
use Rattle.bench_core.specs.Cores.{last_text}
use Rattle.bench_core.specs.Worlds.{made_who}
use Rattle.serve_answers.specs.Answers.{IsTellingAct, answer_text, made_text}
use Rattle.script_objects.specs.Answers.{TypeValue}
use Rattle.serve_dialogue.specs.Scripted.{client_next, scripted_of}
use Rattle.serve_dialogue.specs.Spoken.{Spoken, answered, said}

-- WHAT THE KERNEL SAYS

-- the word for a component or a sequence, and a blank
abbrev pub kind_word : Kind → List ℕ
kind_word kind.Component = codes "component "
kind_word kind.Sequence = codes "sequence "

-- whether `Who` is a component or a sequence
abbrev pub kind_of : Who → Kind
kind_of (who.Node node) = kind.Component
kind_of (who.Sequence home id) = kind.Sequence

-- the text of a component or a sequence, after the word for its kind
abbrev pub kind_and_who : List Entry → Who → List ℕ
kind_and_who history one = kind_word (kind_of one) ++ who_text (nodes_of history) (sequences_of history) one

-- the line that requests an object (`need_line`), or the answer to a call (`ask_line`), with its newline
abbrev pub need_line : declared.Need → List ℕ
need_line need = codes "? need " ++ kind_word need.kind ++ need.type_name ++ 32 ∷ path_text need.path ++ 10 ∷ []

abbrev pub ask_line : List Entry → Who → Call → List ℕ
ask_line history hearer call = codes "? ask " ++ kind_and_who history hearer ++ 32 ∷ call_text call ++ 10 ∷ []

-- the request that comes next; empty if none does
abbrev pub question_in : List Entry → next.Next → List ℕ
question_in history (next.Answer hearer call origin) = ask_line history hearer call
question_in history (next.Need need made performer act) = need_line need
question_in history other = []

-- the notice that a sequence has ended
abbrev pub back_line : List Entry → Who → List ℕ
back_line history one = codes "! back " ++ kind_and_who history one ++ 10 ∷ []

-- whether the client holds the object of a component or a sequence: it is not scripted
abbrev pub is_clients : List TypeValue → ScriptValue → List Entry → Who → Bool
is_clients answers script history one = is_none (scripted_of answers script history one)

-- the notices of the sequences that ended with the newest entry and whose objects the client holds
abbrev pub backs_of : List TypeValue → ScriptValue → List Entry → List ℕ
backs_of answers script history = flat_map (back_line history) (filter (is_clients answers script history) (leaving_of history))

-- the notice of a new object; empty without one
abbrev pub new_line : List Entry → Option Who → List ℕ
new_line history None = []
new_line history (Some one) = codes "! new " ++ kind_and_who history one ++ 10 ∷ []

-- whether the entry for a requested object shows that it was made
abbrev pub says_made : Entry → Bool
says_made (Did performer (Made type_name) act) = true
says_made (Did performer (Started id) act) = true
says_made other = false

-- the notice of the requested object after an entry (`new_in`); empty if the entry does not show that it was made
abbrev pub new_if : Bool → Entry → List Entry → next.Next → List ℕ
new_if true entry before comes = new_line (entry ∷ before) (made_who before comes)
new_if false entry before comes = []

abbrev pub new_in : Entry → List Entry → next.Next → List ℕ
new_in entry before comes = new_if (says_made entry) entry before comes

-- WHAT THE CLIENT ANSWERS

-- the answer of the client to what came next, as the entry that follows from it shows
abbrev pub answer_of : next.Next → Entry → List ℕ
answer_of (next.Answer hearer call origin) (Heard one cause said acts) = answer_text acts
answer_of (next.Need need made performer act) entry = made_text (says_made entry)
answer_of other entry = []

-- the number of lines of that answer
abbrev pub lines_of : next.Next → Entry → ℕ
lines_of (next.Answer hearer call origin) (Heard one cause said acts) = length acts + 1
lines_of (next.Need need made performer act) entry = 1
lines_of other entry = 0

-- the number of lines of all answers of the client in a log
abbrev pub lines_answered : List TypeValue → ScriptValue → List Entry → ℕ
lines_answered answers script [] = 0
lines_answered answers script (entry ∷ before) = lines_answered answers script before + lines_of (client_next answers script before) entry

-- an entry for an answer has only actions that their lines determine
abbrev pub IsTold : next.Next → Entry → Type 0
IsTold (next.Answer hearer call origin) (Heard one cause said acts) = All IsTellingAct acts
IsTold other entry = Unit {0}

-- each answer of the client in a log has only such actions
abbrev pub AreTold : List TypeValue → ScriptValue → List Entry → Type 0
AreTold answers script [] = Unit {0}
AreTold answers script (entry ∷ before) = IsTold (client_next answers script before) entry × AreTold answers script before

-- THE DIALOGUE

-- the text before the next entry: the notices of the sequences that have ended, then the request
abbrev pub asked_in : List TypeValue → ScriptValue → List Entry → List ℕ
asked_in answers script history = backs_of answers script history ++ question_in history (client_next answers script history)

-- the notice of the new time in ticks, if the newest entry is a time entry; otherwise empty
abbrev pub time_in : Option Entry → List ℕ
time_in (Some (Time time)) = codes "! time " ++ decimal time ++ 10 ∷ []
time_in entry = []

-- the text for the newest entry: the notice of the time, the line of the entry, and the line of its report
abbrev pub told_last : Bool → ScriptValue → List Entry → List ℕ
told_last trace script history = time_in (newest history) ++ last_text trace script history

-- the text after an entry: the notice of the object that was made, then `told_last`
abbrev pub call_of_passage : List TypeValue → Bool → ScriptValue → Entry → List Entry → List ℕ
call_of_passage answers trace script entry before = new_in entry before (client_next answers script before) ++ told_last trace script (entry ∷ before)

-- the exchange for an entry: the text before it, the answer of the client, and the text after it
abbrev pub exchange : List TypeValue → Bool → ScriptValue → Entry → List Entry → List Spoken
exchange answers trace script entry before =
    said (asked_in answers script before) ++ answered (answer_of (client_next answers script before) entry) ++ said (call_of_passage answers trace script entry before)

-- the dialogue of a log: the exchange for each entry, in order
abbrev pub dialogue : List TypeValue → Bool → ScriptValue → List Entry → List Spoken
dialogue answers trace script [] = []
dialogue answers trace script (entry ∷ before) = dialogue answers trace script before ++ exchange answers trace script entry before
