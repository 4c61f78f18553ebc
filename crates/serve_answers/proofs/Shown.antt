-- The bytes of the lines of actions: blanks and printed characters of ASCII.
use Rattle.std.proofs.Common.{◌≡◌, ℕ, suc, Bool, true, false, not, ◌&&◌, ◌==◌, if◌then◌else◌, List, [], ◌∷◌, ◌++◌, length, refl, arith, nat_lt, codes}
use Rattle.std.specs.Prelude.{ℤ, pos, negsuc, Option, Some, None, IfSome}
use Rattle.std.specs.Fmt.{decimal, signed_decimal}
use Rattle.std.specs.List.{All, list_all}
use Rattle.std.specs.Char.{is_ascii_digit}
use Rattle.std.specs.Str.{all_ascii_digits}
use Rattle.std.proofs.lemmas.Bool.{and_parts, and_from, not-false}
use Rattle.std.proofs.lemmas.Bool.Decides.{nat_tests}
use Rattle.std.proofs.lemmas.Fmt.{digits_decimal}
use Rattle.std.proofs.lemmas.Str.Parse.{numerals_by_value, tells_all_ascii_digits}
use Rattle.uvm_glob.specs.declared.faults.PathFault.TheVariants.{Empty, TooLong, BadByte, TooDeep}
use Rattle.uvm_glob.specs.Faults.{fault_if}
use Rattle.uvm_glob.specs.Globs.{is_glob_byte}
use Rattle.uvm_glob.specs.Limits.{most_name_bytes}
use Rattle.uvm_glob.specs.Lists.{first_given}
use Rattle.uvm_glob.specs.Names.{is_name_byte, name_fault}
use Rattle.uvm_glob.specs.Paths.{path_text, path_fault}
use Rattle.uvm_report.specs.Texts.{is_text_byte, text_fault}
use Rattle.uvm_report.specs.declared.faults.TextFault.TheVariants as fault
use Rattle.uvm_report.specs.declared.severities.Actions.{Actions}
use Rattle.uvm_report.specs.declared.severities.Severity.{Severity}
use Rattle.uvm_report.specs.declared.severities.Severity.TheVariants as severity
use Rattle.uvm_report.specs.declared.settings.Which.{Which}
use Rattle.uvm_report.specs.declared.settings.Which.TheVariants as which
use Rattle.uvm_report.specs.Severities.{severity_name}
use Rattle.uvm_sequencer.specs.declared.drivers.How.{How}
use Rattle.uvm_sequencer.specs.declared.drivers.How.TheVariants as how
use Rattle.uvm_sequencer.specs.declared.modes.Mode.{Mode}
use Rattle.uvm_sequencer.specs.declared.modes.Mode.TheVariants as mode
use Rattle.uvm_tlm.specs.declared.ends.PortKind.{PortKind}
use Rattle.uvm_tlm.specs.declared.ends.PortKind.TheVariants as kind
use Rattle.uvm_tlm.specs.declared.items.Item.{Item}
use Rattle.uvm_acts.specs.declared.acts.What.{What}
use Rattle.uvm_acts.specs.declared.acts.What.TheVariants as what
use Rattle.uvm_acts.specs.declared.acts.Act.{Act}
use Rattle.uvm_acts.specs.declared.acts.Act.TheVariants as act
use Rattle.uvm_lines.specs.Lines.{act_text, actions_text, how_text, id_text, item_text, kind_text, mode_text, priority_text, replace_text, some_item_text, what_text, which_text}
use Rattle.script_answer_acts.specs.Lines.{act_line, said_by, said_text}
use Rattle.script_answer_acts.specs.Sound.{IsGlob, IsItem, IsName, IsNumber, IsPath, IsSigned, IsSound, IsWhat, IsWhich}
use Rattle.script_answers.specs.Reading.{CanBeSaid}

-- a text of blanks and printed characters
abbrev pub shown : List ℕ → Bool
shown text = list_all is_text_byte text

pub both : (front back : List ℕ) → shown front ≡ true → shown back ≡ true → shown (front ++ back) ≡ true
both [] back first second = second
both (b ∷ front) back first second =
    let parts = and_parts (is_text_byte b) (shown front) first in
    and_from (is_text_byte b) (shown (front ++ back)) parts.0 (both front back parts.1 second)

-- what holds of fewer bytes
weaken : (test : ℕ → Bool) → ((b : ℕ) → test b ≡ true → is_text_byte b ≡ true) → (text : List ℕ) → list_all test text ≡ true → shown text ≡ true
weaken test less [] good = refl
weaken test less (b ∷ text) good =
    let parts = and_parts (test b) (list_all test text) good in
    and_from (is_text_byte b) (shown text) (less b parts.0) (weaken test less text parts.1)

name-byte : (b : ℕ) → is_name_byte b ≡ true → is_text_byte b ≡ true
name-byte b good = grind (arith, nat_tests)

glob-byte : (b : ℕ) → is_glob_byte b ≡ true → is_text_byte b ≡ true
glob-byte b good = grind (arith, nat_tests)

digit-byte : (b : ℕ) → is_ascii_digit b ≡ true → is_text_byte b ≡ true
digit-byte b good = grind (arith, nat_tests)

-- NUMBERS

all-digits : (text : List ℕ) → all_ascii_digits text ≡ true → list_all is_ascii_digit text ≡ true
all-digits [] good = refl
all-digits (b ∷ text) good =
    let parts = and_parts (is_ascii_digit b) (all_ascii_digits text) good in
    and_from (is_ascii_digit b) (list_all is_ascii_digit text) parts.0 (all-digits text parts.1)

number : (n : ℕ) → IsNumber n → shown (decimal n) ≡ true
number n fits = weaken is_ascii_digit digit-byte (decimal n) (all-digits (decimal n) (digits_decimal (numerals_by_value (λ ds. all_ascii_digits ds ≡ true) tells_all_ascii_digits) n fits))

signed : (z : ℤ) → IsSigned z → shown (signed_decimal z) ≡ true
signed (pos n) fits = number n (omega arith)
signed (negsuc n) fits = number (suc n) (omega arith)

priority : (given : Option ℕ) → IfSome given IsNumber → shown (priority_text given) ≡ true
priority None fits = refl
priority (Some n) fits = number n fits

-- NAMES, GLOBS, PATHS AND TEXTS

no_bad : (empty long bad : Bool) → first_given (fault_if empty Empty ∷ fault_if long TooLong ∷ fault_if bad BadByte ∷ []) ≡ None → bad ≡ false
no_bad true long bad none = cc
no_bad false true bad none = cc
no_bad false false true none = cc
no_bad false false false none = refl

name : (text : List ℕ) → IsName text → shown text ≡ true
unfolding name_fault
name text sound =
    weaken is_name_byte name-byte text (not-false (list_all is_name_byte text) (no_bad (length text == 0) (nat_lt most_name_bytes (length text)) (not (list_all is_name_byte text)) sound))

glob : (text : List ℕ) → IsGlob text → shown text ≡ true
glob text sound = weaken is_glob_byte glob-byte text sound

id : (given : Option (List ℕ)) → IfSome given IsName → shown (id_text given) ≡ true
id None sound = refl
id (Some text) sound = name text sound

no_fault : (empty long bad deep : Bool) → first_given (fault_if empty Empty ∷ fault_if long TooLong ∷ fault_if bad BadByte ∷ fault_if deep TooDeep ∷ []) ≡ None → bad ≡ false
no_fault true long bad deep none = cc
no_fault false true bad deep none = cc
no_fault false false true deep none = cc
no_fault false false false deep none = refl

joined : (names : List (List ℕ)) → list_all (list_all is_name_byte) names ≡ true → shown (path_text names) ≡ true
joined [] good = refl
joined (first ∷ []) good = weaken is_name_byte name-byte first (and_parts (list_all is_name_byte first) true good).0
joined (first ∷ next ∷ names) good =
    let parts = and_parts (list_all is_name_byte first) (list_all (list_all is_name_byte) (next ∷ names)) good in
    both first (46 ∷ path_text (next ∷ names)) (weaken is_name_byte name-byte first parts.0) (joined (next ∷ names) parts.1)

path : (names : List (List ℕ)) → IsPath names → shown (path_text names) ≡ true
unfolding path_fault
path names sound = joined names (not-false (list_all (list_all is_name_byte) names) (no_fault _ _ _ _ sound))

no_bad_text : (long bad : Bool) → (if long then Some fault.TooLong else (if bad then Some fault.BadByte else None)) ≡ None → bad ≡ false
no_bad_text true bad none = cc
no_bad_text false true none = cc
no_bad_text false false none = refl

text : (bytes : List ℕ) → text_fault bytes ≡ None → shown bytes ≡ true
unfolding text_fault
text bytes none = not-false (shown bytes) (no_bad_text (nat_lt 200 (length bytes)) (not (shown bytes)) none)

-- ITEMS

four : (s t u v : List ℕ) → shown s ≡ true → shown t ≡ true → shown u ≡ true → shown v ≡ true → shown (91 ∷ s ++ 44 ∷ t ++ 44 ∷ u ++ 44 ∷ v ++ 93 ∷ []) ≡ true
four s t u v first second third fourth =
    both (s ++ 44 ∷ t ++ 44 ∷ u ++ 44 ∷ v) (93 ∷ [])
    (both (s ++ 44 ∷ t ++ 44 ∷ u) (44 ∷ v) (both (s ++ 44 ∷ t) (44 ∷ u) (both s (44 ∷ t) first second) third) fourth) refl

item-words : (words : List ℤ) → length words ≡ 4 → All IsSigned words → shown (item_text (record { 0 = words })) ≡ true
item-words [] many fits = absurd (omega arith)
item-words (a ∷ []) many fits = absurd (omega arith)
item-words (a ∷ b ∷ []) many fits = absurd (omega arith)
item-words (a ∷ b ∷ c ∷ []) many fits = absurd (omega arith)
item-words (a ∷ b ∷ c ∷ d ∷ []) many fits =
    four (signed_decimal a) (signed_decimal b) (signed_decimal c) (signed_decimal d)
    (signed a (fits 0 a (omega arith))) (signed b (fits 1 b (omega arith))) (signed c (fits 2 c (omega arith))) (signed d (fits 3 d (omega arith)))
item-words (a ∷ b ∷ c ∷ d ∷ e ∷ words) many fits = absurd (omega arith)

item : (given : Item) → IsItem given → shown (item_text given) ≡ true
item given sound = item-words given.0 sound.0 sound.1

some-item : (given : Option Item) → IfSome given IsItem → shown (some_item_text given) ≡ true
some-item None sound = refl
some-item (Some given) sound = item given sound

-- WORDS

severity_shown : (given : Severity) → shown (severity_name given) ≡ true
severity_shown severity.Info = refl
severity_shown severity.Warning = refl
severity_shown severity.Error = refl
severity_shown severity.Fatal = refl

mode_shown : (given : Mode) → shown (mode_text given) ≡ true
mode_shown mode.Fifo = refl
mode_shown mode.Weighted = refl
mode_shown mode.Random = refl
mode_shown mode.StrictFifo = refl
mode_shown mode.StrictRandom = refl

kind_shown : (given : PortKind) → shown (kind_text given) ≡ true
kind_shown kind.Put = refl
kind_shown kind.Get = refl
kind_shown kind.Analysis = refl
kind_shown kind.Seq = refl

how_shown : (given : How) → shown (how_text given) ≡ true
how_shown how.Next = refl
how_shown how.Try = refl
how_shown how.Get = refl

replace_shown : (given : Bool) → shown (replace_text given) ≡ true
replace_shown true = refl
replace_shown false = refl

what_shown : (given : What) → IsWhat given → shown (what_text given) ≡ true
what_shown (what.Sequencer mode) sound = mode_shown mode
what_shown (what.Fifo size) sound = number size sound
what_shown (what.Port kind) sound = kind_shown kind
what_shown (what.Export kind) sound = kind_shown kind
what_shown what.Imp sound = refl

which_shown : (given : Which) → IsWhich given → shown (which_text given) ≡ true
which_shown which.All sound = refl
which_shown (which.Severity severity) sound = severity_shown severity
which_shown (which.Id id) sound = name id sound
which_shown (which.Both severity id) sound = both (severity_name severity) (32 ∷ id) (severity_shown severity) (name id sound)

sets-shown : (display count exit : Bool) → shown (actions_text (record { display = display; count = count; exit = exit })) ≡ true
sets-shown true true true = refl
sets-shown true true false = refl
sets-shown true false true = refl
sets-shown true false false = refl
sets-shown false true true = refl
sets-shown false true false = refl
sets-shown false false true = refl
sets-shown false false false = refl

actions_shown : (given : Actions) → shown (actions_text given) ≡ true
actions_shown given = sets-shown given.display given.count given.exit

-- ACTIONS

-- two texts with a blank between them
two : (front back : List ℕ) → shown front ≡ true → shown back ≡ true → shown (front ++ 32 ∷ back) ≡ true
two front back first second = both front (32 ∷ back) first second

text-shown : (other : Act) → IsSound other → shown (act_text other) ≡ true
text-shown (act.Create type_name new) sound = two type_name new (name type_name sound.0) (name new sound.1)
text-shown (act.Add new what) sound = two new (what_text what) (name new sound.0) (what_shown what sound.1)
text-shown (act.Set place field value) sound =
    both (place ++ codes ") " ++ field) (32 ∷ signed_decimal value)
    (both (place ++ codes ") ") field (both place (codes ") ") (glob place sound.0) refl) (name field sound.1)) (signed value sound.2)
text-shown (act.Get field) sound = name field sound
text-shown (act.OverrideType original new replace) sound =
    both (original ++ 32 ∷ new) (replace_text replace) (two original new (name original sound.0) (name new sound.1)) (replace_shown replace)
text-shown (act.OverrideInst original new place) sound =
    both (original ++ 32 ∷ new ++ codes " at (" ++ place) (codes ")")
    (both (original ++ 32 ∷ new ++ codes " at (") place (both (original ++ 32 ∷ new) (codes " at (") (two original new (name original sound.0) (name new sound.1)) refl) (glob place sound.2)) refl
text-shown (act.Connect from to) sound =
    both (path_text from ++ codes ") (" ++ path_text to) (codes ")")
    (both (path_text from ++ codes ") (") (path_text to) (both (path_text from) (codes ") (") (path from sound.0) refl) (path to sound.1)) refl
text-shown (act.Put port given) sound = two port (item_text given) (name port sound.0) (item given sound.1)
text-shown (act.TryPut port given) sound = two port (item_text given) (name port sound.0) (item given sound.1)
text-shown (act.Take port) sound = name port sound
text-shown (act.TryTake port) sound = name port sound
text-shown (act.Peek port) sound = name port sound
text-shown (act.Write port given) sound = two port (item_text given) (name port sound.0) (item given sound.1)
text-shown (act.Ask port how) sound = two port (how_text how) (name port sound) (how_shown how)
text-shown (act.ItemDone port response) sound = two port (some_item_text response) (name port sound.0) (some-item response sound.1)
text-shown (act.Start type_name new on given) sound =
    both (type_name ++ 32 ∷ new ++ codes " (" ++ path_text on ++ codes ") ") (priority_text given)
    (both (type_name ++ 32 ∷ new ++ codes " (" ++ path_text on) (codes ") ")
    (both (type_name ++ 32 ∷ new ++ codes " (") (path_text on)
    (both (type_name ++ 32 ∷ new) (codes " (") (two type_name new (name type_name sound.0) (name new sound.1)) refl) (path on sound.2)) refl) (priority given sound.3)
text-shown (act.Request given) sound = priority given sound
text-shown act.Lock sound = refl
text-shown act.Grab sound = refl
text-shown act.Unlock sound = refl
text-shown (act.Send given) sound = item given sound
text-shown act.EndStep sound = refl
text-shown (act.Report report) sound = two (severity_name report.severity) report.id (severity_shown report.severity) (name report.id sound.0)
text-shown (act.Verbosity which level) sound = two (which_text which) (decimal level) (which_shown which sound.0) (number level sound.1)
text-shown (act.Actions which actions) sound = two (which_text which) (actions_text actions) (which_shown which sound) (actions_shown actions)
text-shown (act.Severity from given to) sound =
    both (severity_name from ++ 32 ∷ id_text given) (32 ∷ severity_name to) (two (severity_name from) (id_text given) (severity_shown from) (id given sound)) (severity_shown to)
text-shown (act.RaiseObjection count) sound = number count sound
text-shown (act.DropObjection count) sound = number count sound
text-shown (act.SetDrain ticks) sound = number ticks sound
text-shown (act.Wait ticks tag) sound = two (decimal ticks) (decimal tag) (number ticks sound.0) (number tag sound.1)

-- what stands behind a report
behind : (verbosity : ℕ) (bytes : List ℕ) → shown (decimal verbosity) ≡ true → shown bytes ≡ true → shown (32 ∷ decimal verbosity ++ (if length bytes == 0 then [] else (32 ∷ bytes))) ≡ true
behind verbosity [] digits good = both (decimal verbosity) [] digits refl
behind verbosity (b ∷ bytes) digits good = behind-some (length (b ∷ bytes) == 0)
  where
    behind-some : (none : Bool) → shown (32 ∷ decimal verbosity ++ (if none then [] else (32 ∷ b ∷ bytes))) ≡ true
    behind-some true = both (decimal verbosity) [] digits refl
    behind-some false = both (decimal verbosity) (32 ∷ b ∷ bytes) digits good

said-if : (none : Bool) (said : List ℕ) → shown said ≡ true → shown (if none then [] else said) ≡ true
said-if true said good = refl
said-if false said good = good

said : (verbosity : ℕ) (bytes : List ℕ) → shown (decimal verbosity) ≡ true → shown bytes ≡ true → shown (said_text verbosity bytes) ≡ true
said verbosity bytes digits good = said-if ((verbosity == 0) && (length bytes == 0)) _ (behind verbosity bytes digits good)

said-shown : (other : Act) → CanBeSaid other → shown (said_by other) ≡ true
said-shown (act.Report report) can = said report.verbosity report.text (number report.verbosity can.0.1) (text report.text can.2.1)
said-shown (act.Create type_name new) can = refl
said-shown other can = refl

-- THE LINE OF AN ACTION

pub lines_are_shown : (other : Act) → CanBeSaid other → shown (act_line other) ≡ true
lines_are_shown other can = both (act_text other) (said_by other) (text-shown other can.0) (said-shown other can)
