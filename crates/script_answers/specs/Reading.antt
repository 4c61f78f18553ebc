-- What the readers of actions read: each action with valid parts.
use Rattle.std.specs.Prelude.{◌≡◌, ◌⊎◌, ◌<◌, ◌^◌, ℕ, Bool, true, List, [], ◌∷◌, None, IfSome, Result, Ok, Err, codes, bytes_eq}
use Rattle.std.specs.List.{list_any}
use Rattle.uvm_glob.specs.Globs.{glob_fault}
use Rattle.uvm_report.specs.Texts.{text_fault}
use Rattle.uvm_report.specs.declared.settings.Which.{Which}
use Rattle.uvm_acts.specs.declared.acts.What.{What}
use Rattle.uvm_acts.specs.declared.acts.What.TheVariants as what
use Rattle.uvm_acts.specs.declared.acts.Act.{Act}
use Rattle.uvm_acts.specs.declared.acts.Act.TheVariants as act
use Rattle.script_answer_acts.specs.Sound.{HasPlainId, IsSound, IsWhich}
use Rattle.script_answer_acts.specs.Words.{act_words, keyword, later_words, which_words}
use Rattle.script_answers.specs.declared.faults.LineFault.{LineFault}
use Rattle.script_answers.specs.declared.faults.LineFault.TheVariants.{Memory}

-- what a component adds fits its type: the size of a FIFO has 16 bits
abbrev pub FitsWhat : What → Type 0
FitsWhat (what.Fifo size) = size < 2 ^ 16
FitsWhat other = Unit {0}

-- The numbers of an action fit their types, its glob is valid, and the text of its report is valid.
abbrev pub FitsTypes : Act → Type 0
FitsTypes (act.Add name what) = FitsWhat what
FitsTypes (act.Set glob field value) = glob_fault glob ≡ None
FitsTypes (act.OverrideInst original new glob) = glob_fault glob ≡ None
FitsTypes (act.Start type_name name on priority) = IfSome priority (λ n. n < 2 ^ 16)
FitsTypes (act.Request priority) = IfSome priority (λ n. n < 2 ^ 16)
FitsTypes (act.Report report) = (report.verbosity < 2 ^ 16) × (text_fault report.text ≡ None)
FitsTypes (act.Verbosity which level) = level < 2 ^ 16
FitsTypes (act.RaiseObjection count) = count < 2 ^ 16
FitsTypes (act.DropObjection count) = count < 2 ^ 16
FitsTypes (act.Wait ticks tag) = tag < 2 ^ 32
FitsTypes other = Unit {0}

-- The glob in an action is valid. Other crates see only its text, so this is not known from its type.
abbrev pub HasGlob : Act → Type 0
HasGlob (act.Set glob field value) = glob_fault glob ≡ None
HasGlob (act.OverrideInst original new glob) = glob_fault glob ≡ None
HasGlob other = Unit {0}

-- An action can be read: its parts are valid and fit their types, and it does not change the severity for the id `none`.
abbrev pub CanBeSaid : Act → Type 0
CanBeSaid other = IsSound other × HasPlainId other × FitsTypes other

-- the result is this part, or memory ran out
abbrev pub IsRead : {A : Type 0} → A → Result A LineFault → Type 0
IsRead part result = (result ≡ Ok part) ⊎ (result ≡ Err Memory)

-- whether a text is one of these words
abbrev pub is_one_of : List ℕ → List (List ℕ) → Bool
is_one_of text words = list_any (λ word. bytes_eq text word) words

-- a reader of lines reads each action that can be read
abbrev pub ReadsAct : List (List ℕ) → Result Act LineFault → Type 0
ReadsAct words result = (other : Act) → CanBeSaid other → words ≡ act_words other → IsRead other result

-- a reader of lines reads each action that has one of these first words
abbrev pub ReadsOneOf : List (List ℕ) → List (List ℕ) → Result Act LineFault → Type 0
ReadsOneOf firsts words result = (other : Act) → is_one_of (keyword other) firsts ≡ true → CanBeSaid other → words ≡ act_words other → IsRead other result

-- a reader of the words after the first word reads each action that has this first word
abbrev pub ReadsAfter : List ℕ → List (List ℕ) → Result Act LineFault → Type 0
ReadsAfter first words result = (other : Act) → keyword other ≡ first → CanBeSaid other → words ≡ later_words other → IsRead other result

-- the result is the reports that a setting is for, and the last word of the setting is left
abbrev pub ReadsWhich : List (List ℕ) → List (List ℕ) → Result Which LineFault → Type 0
ReadsWhich before after result = (which : Which) (last : List ℕ) → IsWhich which → before ≡ which_words which last → (result ≡ Ok which) × (after ≡ last ∷ [])

-- the first words of the actions on objections and on time
abbrev pub time_words : List (List ℕ)
time_words = codes "raise" ∷ codes "drop" ∷ codes "set_drain" ∷ codes "wait" ∷ []

-- the first words of the actions on ports
abbrev pub port_words : List (List ℕ)
port_words = codes "put" ∷ codes "try_put" ∷ codes "write" ∷ codes "take" ∷ codes "try_take" ∷ codes "peek" ∷ []

-- the first words of the actions on reports
abbrev pub report_words : List (List ℕ)
report_words = codes "report" ∷ codes "verbosity" ∷ codes "actions" ∷ codes "severity" ∷ []

-- the first words of the actions of sequences and drivers
abbrev pub sequence_words : List (List ℕ)
sequence_words = codes "ask" ∷ codes "item_done" ∷ codes "start" ∷ codes "request" ∷ codes "lock" ∷ codes "grab" ∷ codes "unlock" ∷ codes "send" ∷ codes "end_step" ∷ []
