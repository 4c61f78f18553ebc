-- An act comes back from the words of its line.
use Rattle.script_answer_acts.proofs.Common.{◌≡◌, ◌≢◌, ℕ, Bool, true, false, ◌==◌, if◌then◌else◌, List, [], ◌∷◌, get_or, drop, refl, sym, ap, ◌∙◌, codes, Some, None, same_text, decimal, list_any, join_with_byte, eqb-true, false_from_ne_true, join_with_byte-slice_split, Report, Actions, Severity, Which, severity_name, How, Mode, PortKind, What, Act, how_text, mode_text, kind_text, actions_text, HasPlainId, IsNumber, IsSound, IsWhat, act_words, said_words, what_words, which_words}
use Rattle.uvm_report.specs.declared.severities.Severity.TheVariants as severity
use Rattle.uvm_report.specs.declared.settings.Which.TheVariants as which
use Rattle.uvm_sequencer.specs.declared.drivers.How.TheVariants as how
use Rattle.uvm_sequencer.specs.declared.modes.Mode.TheVariants as mode
use Rattle.uvm_tlm.specs.declared.ends.PortKind.TheVariants as kind
use Rattle.uvm_acts.specs.declared.acts.What.TheVariants as what
use Rattle.uvm_acts.specs.declared.acts.Act.TheVariants as act
use Rattle.script_answer_acts.proofs.Parts.{number_in, number-back, signed_in, signed-back, inner, inner-back, path_in, path-back, item_in, item-back, is_word, given_in, some-item-back, priority-back}
use Rattle.script_answer_acts.proofs.Splits.{parts_at}

-- WORDS OF A FEW

abbrev severity_in : List ℕ → Severity
severity_in text =
    if is_word text (codes "INFO") then severity.Info
    else if is_word text (codes "WARNING") then severity.Warning
    else if is_word text (codes "ERROR") then severity.Error
    else severity.Fatal

severity-back : (severity : Severity) → severity_in (severity_name severity) ≡ severity
severity-back severity.Info = refl
severity-back severity.Warning = refl
severity-back severity.Error = refl
severity-back severity.Fatal = refl

abbrev mode_in : List ℕ → Mode
mode_in text =
    if is_word text (codes "FIFO") then mode.Fifo
    else if is_word text (codes "WEIGHTED") then mode.Weighted
    else if is_word text (codes "RANDOM") then mode.Random
    else if is_word text (codes "STRICT_FIFO") then mode.StrictFifo
    else mode.StrictRandom

mode-back : (mode : Mode) → mode_in (mode_text mode) ≡ mode
mode-back mode.Fifo = refl
mode-back mode.Weighted = refl
mode-back mode.Random = refl
mode-back mode.StrictFifo = refl
mode-back mode.StrictRandom = refl

abbrev kind_in : List ℕ → PortKind
kind_in text =
    if is_word text (codes "put") then kind.Put
    else if is_word text (codes "get") then kind.Get
    else if is_word text (codes "analysis") then kind.Analysis
    else kind.Seq

kind-back : (kind : PortKind) → kind_in (kind_text kind) ≡ kind
kind-back kind.Put = refl
kind-back kind.Get = refl
kind-back kind.Analysis = refl
kind-back kind.Seq = refl

abbrev how_in : List ℕ → How
how_in text = if is_word text (codes "next") then how.Next else if is_word text (codes "try") then how.Try else how.Get

how-back : (how : How) → how_in (how_text how) ≡ how
how-back how.Next = refl
how-back how.Try = refl
how-back how.Get = refl

abbrev has_word : List ℕ → List (List ℕ) → Bool
has_word word words = list_any (λ text. is_word text word) words

abbrev actions_in : List ℕ → Actions
actions_in text = record {
  display = has_word (codes "display") (parts_at 44 text);
  count = has_word (codes "count") (parts_at 44 text);
  exit = has_word (codes "exit") (parts_at 44 text);
}

sets-back : (display count exit : Bool) → actions_in (actions_text (record { display = display; count = count; exit = exit })) ≡ record { display = display; count = count; exit = exit }
sets-back true true true = refl
sets-back true true false = refl
sets-back true false true = refl
sets-back true false false = refl
sets-back false true true = refl
sets-back false true false = refl
sets-back false false true = refl
sets-back false false false = refl

actions-back : (actions : Actions) → actions_in (actions_text actions) ≡ actions
actions-back actions = sets-back actions.display actions.count actions.exit

-- an id, where it is not `none`
id-back : (id : List ℕ) → id ≢ codes "none" → given_in (λ text. text) id ≡ Some id
id-back id plain = rw (false_from_ne_true (is_word id (codes "none")) (λ same. plain (same_text id (codes "none") (sym same))))

-- ACTS WITH ONE KEYWORD AND SEVERAL FORMS

abbrev what_in : List (List ℕ) → What
what_in (word ∷ text ∷ []) =
    if is_word word (codes "sequencer") then what.Sequencer (mode_in text)
    else if is_word word (codes "fifo") then what.Fifo (number_in text)
    else if is_word word (codes "port") then what.Port (kind_in text)
    else what.Export (kind_in text)
what_in other = what.Imp

what-back : (what : What) → IsWhat what → what_in (what_words what) ≡ what
what-back (what.Sequencer mode) sound = ap what.Sequencer (mode-back mode)
what-back (what.Fifo size) sound = ap what.Fifo (number-back size sound)
what-back (what.Port kind) sound = ap what.Port (kind-back kind)
what-back (what.Export kind) sound = ap what.Export (kind-back kind)
what-back what.Imp sound = refl

abbrev override_in : List (List ℕ) → Act
override_in (original ∷ new ∷ []) = act.OverrideType original new false
override_in (original ∷ new ∷ word ∷ []) = act.OverrideType original new true
override_in (original ∷ new ∷ word ∷ glob ∷ []) = act.OverrideInst original new (inner glob)
override_in other = act.Lock

-- for all reports or for a severity, for an id or for both
abbrev setting_in : (Which → List ℕ → Act) → List (List ℕ) → Act
setting_in of (word ∷ last ∷ []) = of (if is_word word (codes "all") then which.All else which.Severity (severity_in word)) last
setting_in of (word ∷ id ∷ last ∷ []) = of (if is_word word (codes "id") then which.Id id else which.Both (severity_in word) id) last
setting_in of other = act.Lock

setting-back : (of : Which → List ℕ → Act) (which : Which) (last : List ℕ) → setting_in of (which_words which last) ≡ of which last
setting-back of which.All last = refl
setting-back of (which.Severity severity.Info) last = refl
setting-back of (which.Severity severity.Warning) last = refl
setting-back of (which.Severity severity.Error) last = refl
setting-back of (which.Severity severity.Fatal) last = refl
setting-back of (which.Id id) last = refl
setting-back of (which.Both severity.Info id) last = refl
setting-back of (which.Both severity.Warning id) last = refl
setting-back of (which.Both severity.Error id) last = refl
setting-back of (which.Both severity.Fatal id) last = refl

-- what a report says behind its id
abbrev verbosity_in : List (List ℕ) → ℕ
verbosity_in [] = 0
verbosity_in (word ∷ words) = number_in word

abbrev text_in : List (List ℕ) → List ℕ
text_in [] = []
text_in (word ∷ words) = join_with_byte 32 words

verbosity-back : (verbosity : ℕ) (text : List ℕ) → IsNumber verbosity → verbosity_in (said_words verbosity text) ≡ verbosity
verbosity-back verbosity (b ∷ text) fits = number-back verbosity fits
verbosity-back verbosity [] fits = by-zero (verbosity == 0) refl
  where
    by-zero : (z : Bool) → (verbosity == 0) ≡ z → verbosity_in (if z then [] else decimal verbosity ∷ []) ≡ verbosity
    by-zero true zero = sym (eqb-true verbosity 0 zero)
    by-zero false some = number-back verbosity fits

text-back : (verbosity : ℕ) (text : List ℕ) → text_in (said_words verbosity text) ≡ text
text-back verbosity (b ∷ text) = join_with_byte-slice_split 32 (b ∷ text)
text-back verbosity [] = by-zero (verbosity == 0)
  where
    by-zero : (z : Bool) → text_in (if z then [] else decimal verbosity ∷ []) ≡ []
    by-zero true = refl
    by-zero false = refl

-- ALL ACTS

abbrev word : List (List ℕ) → ℕ → List ℕ
word words place = get_or words place []

abbrev report_in : List (List ℕ) → Report
report_in words = record {
  severity = severity_in (word words 0);
  id = word words 1;
  text = text_in (drop 2 words);
  verbosity = verbosity_in (drop 2 words);
}

abbrev Reader : Type 0
Reader = List (List ℕ) → Act

-- how the words behind a keyword are read
readers : List (List ℕ × Reader)
readers =
    (codes "create", λ words. act.Create (word words 0) (word words 1))
    ∷ (codes "add", λ words. act.Add (word words 0) (what_in (drop 1 words)))
    ∷ (codes "set", λ words. act.Set (inner (word words 0)) (word words 1) (signed_in (word words 2)))
    ∷ (codes "get", λ words. act.Get (word words 0))
    ∷ (codes "override", override_in)
    ∷ (codes "connect", λ words. act.Connect (path_in (word words 0)) (path_in (word words 1)))
    ∷ (codes "put", λ words. act.Put (word words 0) (item_in (word words 1)))
    ∷ (codes "try_put", λ words. act.TryPut (word words 0) (item_in (word words 1)))
    ∷ (codes "take", λ words. act.Take (word words 0))
    ∷ (codes "try_take", λ words. act.TryTake (word words 0))
    ∷ (codes "peek", λ words. act.Peek (word words 0))
    ∷ (codes "write", λ words. act.Write (word words 0) (item_in (word words 1)))
    ∷ (codes "ask", λ words. act.Ask (word words 0) (how_in (word words 1)))
    ∷ (codes "item_done", λ words. act.ItemDone (word words 0) (given_in item_in (word words 1)))
    ∷ (codes "start", λ words. act.Start (word words 0) (word words 1) (path_in (word words 2)) (given_in number_in (word words 3)))
    ∷ (codes "request", λ words. act.Request (given_in number_in (word words 0)))
    ∷ (codes "grab", λ words. act.Grab)
    ∷ (codes "unlock", λ words. act.Unlock)
    ∷ (codes "send", λ words. act.Send (item_in (word words 0)))
    ∷ (codes "end_step", λ words. act.EndStep)
    ∷ (codes "report", λ words. act.Report (report_in words))
    ∷ (codes "verbosity", setting_in (λ which last. act.Verbosity which (number_in last)))
    ∷ (codes "actions", setting_in (λ which last. act.Actions which (actions_in last)))
    ∷ (codes "severity", λ words. act.Severity (severity_in (word words 0)) (given_in (λ text. text) (word words 1)) (severity_in (word words 2)))
    ∷ (codes "raise", λ words. act.RaiseObjection (number_in (word words 0)))
    ∷ (codes "drop", λ words. act.DropObjection (number_in (word words 0)))
    ∷ (codes "set_drain", λ words. act.SetDrain (number_in (word words 0)))
    ∷ (codes "wait", λ words. act.Wait (number_in (word words 0)) (number_in (word words 1)))
    ∷ []

read_by : List (List ℕ × Reader) → List ℕ → Reader
read_by [] keyword words = act.Lock
read_by (reader ∷ others) keyword words = if is_word keyword reader.0 then reader.1 words else read_by others keyword words

pub act_in : List (List ℕ) → Act
act_in [] = act.Lock
act_in (keyword ∷ words) = read_by readers keyword words

pub act-back : (other : Act) → IsSound other → HasPlainId other → act_in (act_words other) ≡ other
unfolding act_in read_by readers
act-back (act.Create type_name name) sound plain = refl
act-back (act.Add name what) sound plain = ap (act.Add name) (what-back what sound.1)
act-back (act.Set glob field value) sound plain = rw (inner-back 40 41 glob, signed-back value sound.2)
act-back (act.Get field) sound plain = refl
act-back (act.OverrideType original new true) sound plain = refl
act-back (act.OverrideType original new false) sound plain = refl
act-back (act.OverrideInst original new glob) sound plain = ap (act.OverrideInst original new) (inner-back 40 41 glob)
act-back (act.Connect from to) sound plain = rw (path-back from sound.0, path-back to sound.1)
act-back (act.Put port item) sound plain = ap (act.Put port) (item-back item sound.1)
act-back (act.TryPut port item) sound plain = ap (act.TryPut port) (item-back item sound.1)
act-back (act.Take port) sound plain = refl
act-back (act.TryTake port) sound plain = refl
act-back (act.Peek port) sound plain = refl
act-back (act.Write port item) sound plain = ap (act.Write port) (item-back item sound.1)
act-back (act.Ask port how) sound plain = ap (act.Ask port) (how-back how)
act-back (act.ItemDone port response) sound plain = ap (act.ItemDone port) (some-item-back response sound.1)
act-back (act.Start type_name name on priority) sound plain = rw (path-back on sound.2, priority-back priority sound.3)
act-back (act.Request priority) sound plain = ap act.Request (priority-back priority sound)
act-back act.Lock sound plain = refl
act-back act.Grab sound plain = refl
act-back act.Unlock sound plain = refl
act-back (act.Send item) sound plain = ap act.Send (item-back item sound)
act-back act.EndStep sound plain = refl
act-back (act.Report report) sound plain = rw (severity-back report.severity, text-back report.verbosity report.text, verbosity-back report.verbosity report.text sound.1)
act-back (act.Verbosity which level) sound plain = setting-back (λ which last. act.Verbosity which (number_in last)) which (decimal level) ∙ ap (act.Verbosity which) (number-back level sound.1)
act-back (act.Actions which actions) sound plain = setting-back (λ which last. act.Actions which (actions_in last)) which (actions_text actions) ∙ ap (act.Actions which) (actions-back actions)
act-back (act.Severity from None to) sound plain = rw (severity-back from, severity-back to)
act-back (act.Severity from (Some id) to) sound plain = rw (severity-back from, id-back id plain, severity-back to)
act-back (act.RaiseObjection count) sound plain = ap act.RaiseObjection (number-back count sound)
act-back (act.DropObjection count) sound plain = ap act.DropObjection (number-back count sound)
act-back (act.SetDrain ticks) sound plain = ap act.SetDrain (number-back ticks sound)
act-back (act.Wait ticks tag) sound plain = rw (number-back ticks sound.0, number-back tag sound.1)

-- the acts with an item, whatever the word of the item is
pub put-in : (port word : List ℕ) → act_in (codes "put" ∷ port ∷ word ∷ []) ≡ act.Put port (item_in word)
unfolding act_in read_by readers
put-in port word = refl

pub try-put-in : (port word : List ℕ) → act_in (codes "try_put" ∷ port ∷ word ∷ []) ≡ act.TryPut port (item_in word)
unfolding act_in read_by readers
try-put-in port word = refl

pub write-in : (port word : List ℕ) → act_in (codes "write" ∷ port ∷ word ∷ []) ≡ act.Write port (item_in word)
unfolding act_in read_by readers
write-in port word = refl

pub item-done-in : (port : List ℕ) → act_in (codes "item_done" ∷ port ∷ codes "*" ∷ []) ≡ act.ItemDone port (Some (item_in (codes "*")))
unfolding act_in read_by readers
item-done-in port = refl

pub send-in : act_in (codes "send" ∷ codes "*" ∷ []) ≡ act.Send (item_in (codes "*"))
unfolding act_in read_by readers
send-in = refl
