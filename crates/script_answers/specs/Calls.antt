-- The words of calls.
use Rattle.std.specs.Prelude.{◌≡◌, ℕ, pos, Bool, true, false, ◌||◌, List, [], ◌∷◌, drop, Some, None, is_some, Result, Ok, Err, codes, bytes_eq, if◌then◌else◌}
use Rattle.std.specs.Fmt.{decimal}
use Rattle.uvm_tlm.specs.declared.items.Item.{Item}
use Rattle.uvm_acts.specs.declared.acts.Call.{Call}
use Rattle.uvm_acts.specs.declared.acts.Call.TheVariants as call
use Rattle.script_answers.specs.declared.faults.LineFault.{LineFault}
use Rattle.script_answers.specs.declared.faults.LineFault.TheVariants.{NoCall}
use Rattle.uvm_phase.specs.declared.phases.Phase.{Phase}
use Rattle.uvm_phase.specs.declared.phases.Phase.TheVariants as phase
use Rattle.uvm_phase.specs.Phases.{phase_name}
use Rattle.script_answers.specs.KeyWords.{Begins, but_star, ends_in_star, first_or}
use Rattle.script_answers.specs.Words.{words_of}
use Rattle.uvm_lines.specs.Lines.{call_text, value_text, answer_text, item_text, some_item_text}
use Rattle.script_answers.specs.Keys.{CanBeCall, item_in}

-- the first word of a call
abbrev pub keyword_of : Call → List ℕ
keyword_of (call.Phase which) = phase_name which
keyword_of (call.Config field value) = codes "config"
keyword_of (call.Wake tag) = codes "wake"
keyword_of (call.Stored port) = codes "stored"
keyword_of (call.TryStored port stored) = codes "try_stored"
keyword_of (call.Taken port item) = codes "taken"
keyword_of (call.TryTaken port item) = codes "try_taken"
keyword_of (call.Peeked port item) = codes "peeked"
keyword_of (call.Written imp item) = codes "written"
keyword_of (call.NextItem port item) = codes "next_item"
keyword_of call.PreStart = codes "pre_start"
keyword_of call.Body = codes "body"
keyword_of call.PostStart = codes "post_start"
keyword_of call.Grant = codes "grant"
keyword_of (call.ItemDone response) = codes "item_done"
keyword_of call.Held = codes "held"
keyword_of (call.Finished name id) = codes "finished"

-- the words after the first word of a call
abbrev pub later_words : Call → List (List ℕ)
later_words (call.Config field value) = field ∷ value_text value ∷ []
later_words (call.Wake tag) = decimal tag ∷ []
later_words (call.Stored port) = port ∷ []
later_words (call.TryStored port stored) = port ∷ answer_text stored ∷ []
later_words (call.Taken port item) = port ∷ item_text item ∷ []
later_words (call.TryTaken port item) = port ∷ some_item_text item ∷ []
later_words (call.Peeked port item) = port ∷ item_text item ∷ []
later_words (call.Written imp item) = imp ∷ item_text item ∷ []
later_words (call.NextItem port item) = port ∷ some_item_text item ∷ []
later_words (call.ItemDone response) = some_item_text response ∷ []
later_words (call.Finished name id) = name ∷ decimal id ∷ []
later_words other = []

-- the words of a call
abbrev pub call_words : Call → List (List ℕ)
call_words other = keyword_of other ∷ later_words other

-- whether a call reports that a sequence has finished
abbrev pub has_finished : Call → Bool
has_finished (call.Finished name id) = true
has_finished other = false

-- A reader reads each possible call except `finished`: if the words are those of a call, the result is that call.
abbrev pub ReadsCalls : List (List ℕ) → Result Call LineFault → Type 0
ReadsCalls words result = (call : Call) → CanBeCall call → has_finished call ≡ false → words ≡ call_words call → result ≡ Ok call

-- whether a name and one more word follow a keyword
abbrev pub is_named : List ℕ → Bool
is_named word =
    bytes_eq word (codes "config") || bytes_eq word (codes "try_stored") || bytes_eq word (codes "taken") || bytes_eq word (codes "try_taken")
    || bytes_eq word (codes "peeked") || bytes_eq word (codes "written") || bytes_eq word (codes "next_item")

-- whether exactly one word follows a keyword
abbrev pub is_short : List ℕ → Bool
is_short word = bytes_eq word (codes "wake") || bytes_eq word (codes "stored") || bytes_eq word (codes "item_done")

-- the phase with this name; `NoCall` if there is none
abbrev pub phase_of : List ℕ → Result Phase LineFault
phase_of name =
    if bytes_eq name (codes "build") then Ok phase.Build
    else if bytes_eq name (codes "connect") then Ok phase.Connect
    else if bytes_eq name (codes "end_of_elaboration") then Ok phase.EndOfElaboration
    else if bytes_eq name (codes "start_of_simulation") then Ok phase.StartOfSimulation
    else if bytes_eq name (codes "run") then Ok phase.Run
    else if bytes_eq name (codes "extract") then Ok phase.Extract
    else if bytes_eq name (codes "check") then Ok phase.Check
    else if bytes_eq name (codes "report") then Ok phase.Report
    else if bytes_eq name (codes "final") then Ok phase.Final
    else if bytes_eq name (codes "pre_reset") then Ok phase.PreReset
    else if bytes_eq name (codes "reset") then Ok phase.Reset
    else if bytes_eq name (codes "post_reset") then Ok phase.PostReset
    else if bytes_eq name (codes "pre_configure") then Ok phase.PreConfigure
    else if bytes_eq name (codes "configure") then Ok phase.Configure
    else if bytes_eq name (codes "post_configure") then Ok phase.PostConfigure
    else if bytes_eq name (codes "pre_main") then Ok phase.PreMain
    else if bytes_eq name (codes "main") then Ok phase.Main
    else if bytes_eq name (codes "post_main") then Ok phase.PostMain
    else if bytes_eq name (codes "pre_shutdown") then Ok phase.PreShutdown
    else if bytes_eq name (codes "shutdown") then Ok phase.Shutdown
    else if bytes_eq name (codes "post_shutdown") then Ok phase.PostShutdown
    else Err NoCall

-- the last word of the example call for a keyword
abbrev pub last_example : List ℕ → List ℕ
last_example word =
    if bytes_eq word (codes "config") then codes "none"
    else if bytes_eq word (codes "wake") then codes "0"
    else if bytes_eq word (codes "stored") then codes "a"
    else if bytes_eq word (codes "try_stored") then codes "yes"
    else codes "[0,0,0,0]"

-- the words that follow a keyword: the given words, and words of the example for those that are missing
abbrev pub words_behind : List ℕ → List (List ℕ) → List (List ℕ)
words_behind keyword given =
    if is_named keyword then first_or (codes "a") given ∷ first_or (last_example keyword) (drop 1 given) ∷ []
    else if is_short keyword then first_or (last_example keyword) given ∷ []
    else []

-- an item of four zeros
abbrev pub zeros : Item
zeros = record { 0 = pos 0 ∷ pos 0 ∷ pos 0 ∷ pos 0 ∷ [] }

-- a part of a call if its word is given; otherwise that part of the example
abbrev pub given_or : {A : Type 0} → A → List (List ℕ) → A → A
given_or example [] part = example
given_or example (word ∷ words) part = part

-- The example call of a key, from the given words after the keyword. It is the call with example parts in place of those that are not
-- given.
abbrev pub example_by : List (List ℕ) → Call → Call
example_by given (call.Config field value) = call.Config (given_or (codes "a") given field) (given_or None (drop 1 given) value)
example_by given (call.Wake tag) = call.Wake (given_or 0 given tag)
example_by given (call.Stored port) = call.Stored (given_or (codes "a") given port)
example_by given (call.TryStored port stored) = call.TryStored (given_or (codes "a") given port) (given_or true (drop 1 given) stored)
example_by given (call.Taken port item) = call.Taken (given_or (codes "a") given port) (given_or zeros (drop 1 given) item)
example_by given (call.TryTaken port item) = call.TryTaken (given_or (codes "a") given port) (given_or (Some zeros) (drop 1 given) item)
example_by given (call.Peeked port item) = call.Peeked (given_or (codes "a") given port) (given_or zeros (drop 1 given) item)
example_by given (call.Written imp item) = call.Written (given_or (codes "a") given imp) (given_or zeros (drop 1 given) item)
example_by given (call.NextItem port item) = call.NextItem (given_or (codes "a") given port) (given_or (Some zeros) (drop 1 given) item)
example_by given (call.ItemDone response) = call.ItemDone (given_or (Some zeros) given response)
example_by given (call.Finished name id) = call.Finished (given_or (codes "a") given name) (given_or 1 (drop 1 given) id)
example_by given other = other

-- The example call of a key, from all given words. If no word is given, it is `item_done` with an item of four zeros.
abbrev pub example_for : List (List ℕ) → Call → Call
example_for [] other = call.ItemDone (Some zeros)
example_for (keyword ∷ given) other = example_by given other

-- a line is the line of this call, and `has_item` says whether the call has an item
abbrev pub Tells : List ℕ → Bool → Call → Type 0
Tells line has_item other = (line ≡ call_text other) × (has_item ≡ is_some (item_in other))

-- A reader reads each possible call except `finished`. If the words after its keyword begin with the given words, the result is its
-- example.
abbrev pub ReadsBehind : List ℕ → List (List ℕ) → Bool → Result Call LineFault → Type 0
ReadsBehind keyword given goes_on result =
    (call : Call) → CanBeCall call → has_finished call ≡ false → keyword ≡ keyword_of call → Begins given goes_on (later_words call) → result ≡ Ok (example_by given call)

-- For each call that begins with this keyword and the given words, the line and `has_item` are those of its example.
abbrev pub TellsBehind : List ℕ → List (List ℕ) → Bool → List ℕ → Bool → Type 0
TellsBehind keyword given goes_on line has_item =
    (call : Call) → CanBeCall call → keyword ≡ keyword_of call → Begins given goes_on (later_words call) → Tells line has_item (example_by given call)

-- no call begins with this keyword and the given words
abbrev pub NoneBehind : List ℕ → List (List ℕ) → Bool → Type 0
NoneBehind keyword given goes_on = (call : Call) → CanBeCall call → keyword ≡ keyword_of call → Begins given goes_on (later_words call) → ⊥

-- the words of a call begin with those of a key
abbrev pub BeginsWith : List ℕ → Call → Type 0
BeginsWith key other = Begins (but_star (words_of key)) (ends_in_star (words_of key)) (call_words other)

-- For each call that begins with the words of a key, the line and `has_item` are those of its example.
abbrev pub TellsExamples : List ℕ → List ℕ → Bool → Type 0
TellsExamples key line has_item = (call : Call) → CanBeCall call → BeginsWith key call → Tells line has_item (example_for (but_star (words_of key)) call)

-- no call begins with the words of a key
abbrev pub HasNone : List ℕ → Type 0
HasNone key = (call : Call) → CanBeCall call → BeginsWith key call → ⊥
