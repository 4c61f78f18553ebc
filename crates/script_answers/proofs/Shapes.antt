-- The forms of actions, by the first word of each.
use Rattle.script_answers.proofs.Common.{◌≡◌, ◌∙◌, ℕ, Bool, true, false, if◌then◌else◌, List, [], ◌∷◌, refl, sym, ap, subst, inl, inr, ℤ, Option, MatchBool, Result, Err, decimal, join_with_byte, false≢true, join_with_byte-slice_split, Report, Actions, Severity, Which, How, Mode, PortKind, Item, What, Act, kind_text, mode_text, act_words, keyword, said_words, what_words, CanBeSaid, LineFault, Memory, ◌==◌, codes, ◌⊎◌, Ok, bytes_eq, eqb-true}
use Rattle.uvm_acts.specs.declared.acts.What.TheVariants as what
use Rattle.uvm_acts.specs.declared.acts.Act.TheVariants as act
use Rattle.script_answer_acts.specs.Words.{later_words, words_of}

-- an action is this one, which can be said, and the words that follow its first are these
abbrev pub Says : Act → List (List ℕ) → Act → Type 0
Says other words this = (other ≡ this) × (words ≡ later_words this) × CanBeSaid this

-- what an action with this first word is, and the words that follow
abbrev pub Form : List ℕ → List (List ℕ) → Act → Type 0
Form first words other =
    MatchBool (bytes_eq first (codes "create")) ((type_name : List ℕ) × (name : List ℕ) × Says other words (act.Create type_name name))
    (MatchBool (bytes_eq first (codes "add")) ((name : List ℕ) × (what : What) × Says other words (act.Add name what))
    (MatchBool (bytes_eq first (codes "set")) ((glob : List ℕ) × (field : List ℕ) × (value : ℤ) × Says other words (act.Set glob field value))
    (MatchBool (bytes_eq first (codes "get")) ((field : List ℕ) × Says other words (act.Get field))
    (MatchBool (bytes_eq first (codes "override")) (((original : List ℕ) × (new : List ℕ) × (replace : Bool) × Says other words (act.OverrideType original new replace)) ⊎ ((original : List ℕ) × (new : List ℕ) × (glob : List ℕ) × Says other words (act.OverrideInst original new glob)))
    (MatchBool (bytes_eq first (codes "connect")) ((from : List (List ℕ)) × (to : List (List ℕ)) × Says other words (act.Connect from to))
    (MatchBool (bytes_eq first (codes "raise")) ((count : ℕ) × Says other words (act.RaiseObjection count))
    (MatchBool (bytes_eq first (codes "drop")) ((count : ℕ) × Says other words (act.DropObjection count))
    (MatchBool (bytes_eq first (codes "set_drain")) ((ticks : ℕ) × Says other words (act.SetDrain ticks))
    (MatchBool (bytes_eq first (codes "wait")) ((ticks : ℕ) × (tag : ℕ) × Says other words (act.Wait ticks tag))
    (MatchBool (bytes_eq first (codes "put")) ((port : List ℕ) × (item : Item) × Says other words (act.Put port item))
    (MatchBool (bytes_eq first (codes "try_put")) ((port : List ℕ) × (item : Item) × Says other words (act.TryPut port item))
    (MatchBool (bytes_eq first (codes "write")) ((port : List ℕ) × (item : Item) × Says other words (act.Write port item))
    (MatchBool (bytes_eq first (codes "take")) ((port : List ℕ) × Says other words (act.Take port))
    (MatchBool (bytes_eq first (codes "try_take")) ((port : List ℕ) × Says other words (act.TryTake port))
    (MatchBool (bytes_eq first (codes "peek")) ((port : List ℕ) × Says other words (act.Peek port))
    (MatchBool (bytes_eq first (codes "report")) ((report : Report) × Says other words (act.Report report))
    (MatchBool (bytes_eq first (codes "verbosity")) ((which : Which) × (level : ℕ) × Says other words (act.Verbosity which level))
    (MatchBool (bytes_eq first (codes "actions")) ((which : Which) × (actions : Actions) × Says other words (act.Actions which actions))
    (MatchBool (bytes_eq first (codes "severity")) ((from : Severity) × (id : Option (List ℕ)) × (to : Severity) × Says other words (act.Severity from id to))
    (MatchBool (bytes_eq first (codes "ask")) ((port : List ℕ) × (how : How) × Says other words (act.Ask port how))
    (MatchBool (bytes_eq first (codes "item_done")) ((port : List ℕ) × (response : Option Item) × Says other words (act.ItemDone port response))
    (MatchBool (bytes_eq first (codes "start")) ((type_name : List ℕ) × (name : List ℕ) × (on : List (List ℕ)) × (priority : Option ℕ) × Says other words (act.Start type_name name on priority))
    (MatchBool (bytes_eq first (codes "request")) ((priority : Option ℕ) × Says other words (act.Request priority))
    (MatchBool (bytes_eq first (codes "lock")) (Says other words act.Lock)
    (MatchBool (bytes_eq first (codes "grab")) (Says other words act.Grab)
    (MatchBool (bytes_eq first (codes "unlock")) (Says other words act.Unlock)
    (MatchBool (bytes_eq first (codes "send")) ((item : Item) × Says other words (act.Send item))
    (MatchBool (bytes_eq first (codes "end_step")) (Says other words act.EndStep)
    ⊥))))))))))))))))))))))))))))

-- each action has the form of its first word
form-of : (other : Act) → CanBeSaid other → Form (keyword other) (later_words other) other
form-of (act.Create type_name name) can = (type_name, name, (refl, refl, can))
form-of (act.Add name what) can = (name, what, (refl, refl, can))
form-of (act.Set glob field value) can = (glob, field, value, (refl, refl, can))
form-of (act.Get field) can = (field, (refl, refl, can))
form-of (act.OverrideType original new replace) can = inl (original, new, replace, (refl, refl, can))
form-of (act.OverrideInst original new glob) can = inr (original, new, glob, (refl, refl, can))
form-of (act.Connect from to) can = (from, to, (refl, refl, can))
form-of (act.Put port item) can = (port, item, (refl, refl, can))
form-of (act.TryPut port item) can = (port, item, (refl, refl, can))
form-of (act.Take port) can = (port, (refl, refl, can))
form-of (act.TryTake port) can = (port, (refl, refl, can))
form-of (act.Peek port) can = (port, (refl, refl, can))
form-of (act.Write port item) can = (port, item, (refl, refl, can))
form-of (act.Ask port how) can = (port, how, (refl, refl, can))
form-of (act.ItemDone port response) can = (port, response, (refl, refl, can))
form-of (act.Start type_name name on priority) can = (type_name, name, on, priority, (refl, refl, can))
form-of (act.Request priority) can = (priority, (refl, refl, can))
form-of act.Lock can = (refl, refl, can)
form-of act.Grab can = (refl, refl, can)
form-of act.Unlock can = (refl, refl, can)
form-of (act.Send item) can = (item, (refl, refl, can))
form-of act.EndStep can = (refl, refl, can)
form-of (act.Report report) can = (report, (refl, refl, can))
form-of (act.Verbosity which level) can = (which, level, (refl, refl, can))
form-of (act.Actions which actions) can = (which, actions, (refl, refl, can))
form-of (act.Severity from id to) can = (from, id, to, (refl, refl, can))
form-of (act.RaiseObjection count) can = (count, (refl, refl, can))
form-of (act.DropObjection count) can = (count, (refl, refl, can))
form-of (act.SetDrain ticks) can = (ticks, (refl, refl, can))
form-of (act.Wait ticks tag) can = (ticks, tag, (refl, refl, can))

-- the form of an action, by its first word and the words that follow
pub form-at : (first : List ℕ) (words : List (List ℕ)) (other : Act) → keyword other ≡ first → words ≡ later_words other → CanBeSaid other → Form first words other
form-at first words other is same can =
    subst (λ (later : List (List ℕ)). Form first later other) (sym same) (subst (λ (word : List ℕ). Form word (later_words other) other) is (form-of other can))

-- the first word of a line that was taken is that of the action, and the others are left
pub parts-of : (start line left : List (List ℕ)) (word : List ℕ) (other : Act)
    → start ≡ line → start ≡ word ∷ left → line ≡ act_words other → (keyword other ≡ word) × (left ≡ later_words other)
parts-of start line left word other is taken same =
    let words : word ∷ left ≡ keyword other ∷ later_words other = sym taken ∙ (is ∙ same) in
    (cc, cc)

-- two readings of one thing are one
pub is-read : {A : Type 0} (a b : A) → (◌≡◌ {A = Result A LineFault} (Ok a) (Ok b)) → a ≡ b
is-read a b same = cc

-- and no fault is a reading
pub not-read : {A : Type 0} (fault : LineFault) (a : A) → (◌≡◌ {A = Result A LineFault} (Err fault) (Ok a)) → ⊥
not-read fault a same = cc

-- nor is out of memory
pub no-memory : {A : Type 0} (a : A) → (◌≡◌ {A = Result A LineFault} (Ok a) (Err Memory)) → ⊥
no-memory a same = cc

-- memory ran out, whatever was to be read
pub memory-out : {A B : Type 0} (fault : LineFault) → (◌≡◌ {A = Result A LineFault} (Err fault) (Err Memory)) → (◌≡◌ {A = Result B LineFault} (Err fault) (Err Memory))
memory-out fault same = let is : fault ≡ Memory = cc in ap Err is

-- one first word is not another
other-word : (known other : List ℕ) (left words : List (List ℕ)) → bytes_eq known known ≡ true → bytes_eq known other ≡ false → known ∷ left ≡ other ∷ words → ⊥
other-word known other left words same differs is =
    let first : known ≡ other = cc in
    false≢true (sym differs ∙ (ap (λ (text : List ℕ). bytes_eq known text) (sym first) ∙ same))

-- the words that are left behind a known one
pub behind-of : (before left all : List (List ℕ)) (word known : List ℕ) → before ≡ word ∷ left → word ≡ known → before ≡ all → known ∷ left ≡ all
behind-of before left all word known taken same is = sym (ap (λ (first : List ℕ). first ∷ left) same) ∙ (sym taken ∙ is)

-- what a component adds, by the first of its words
pub sequencer-form : (added : What) (left : List (List ℕ)) → codes "sequencer" ∷ left ≡ what_words added → (mode : Mode) × (added ≡ what.Sequencer mode) × (left ≡ mode_text mode ∷ [])
sequencer-form (what.Sequencer mode) left is = (mode, refl, cc)
sequencer-form (what.Fifo size) left is = cc
sequencer-form (what.Port kind) left is = cc
sequencer-form (what.Export kind) left is = cc
sequencer-form what.Imp left is = cc

pub port-form : (added : What) (left : List (List ℕ)) → codes "port" ∷ left ≡ what_words added → (kind : PortKind) × (added ≡ what.Port kind) × (left ≡ kind_text kind ∷ [])
port-form (what.Sequencer mode) left is = cc
port-form (what.Fifo size) left is = absurd (other-word (codes "port") (codes "fifo") left (decimal size ∷ []) refl refl is)
port-form (what.Port kind) left is = (kind, refl, cc)
port-form (what.Export kind) left is = cc
port-form what.Imp left is = cc

pub export-form : (added : What) (left : List (List ℕ)) → codes "export" ∷ left ≡ what_words added → (kind : PortKind) × (added ≡ what.Export kind) × (left ≡ kind_text kind ∷ [])
export-form (what.Sequencer mode) left is = cc
export-form (what.Fifo size) left is = absurd (other-word (codes "export") (codes "fifo") left (decimal size ∷ []) refl refl is)
export-form (what.Port kind) left is = cc
export-form (what.Export kind) left is = (kind, refl, cc)
export-form what.Imp left is = cc

-- a report that says nothing behind its id
pub said-none : (verbosity : ℕ) (text : List ℕ) → [] ≡ said_words verbosity text → (verbosity ≡ 0) × (text ≡ [])
said-none verbosity (b ∷ text) is = cc
said-none verbosity [] is = by-zero (verbosity == 0) refl is
  where
    by-zero : (z : Bool) → (verbosity == 0) ≡ z → [] ≡ (if z then [] else decimal verbosity ∷ []) → (verbosity ≡ 0) × (◌≡◌ {A = List ℕ} [] [])
    by-zero true zero is = (eqb-true verbosity 0 zero, refl)
    by-zero false some is = cc

-- and one that says something: its verbosity first, and then its text
pub said-some : (verbosity : ℕ) (text : List ℕ) (words : List (List ℕ)) → words ≡ said_words verbosity text → (words ≡ [] → ⊥)
    → (others : List (List ℕ)) × (words ≡ decimal verbosity ∷ others) × (join_with_byte 32 others ≡ text)
said-some verbosity (b ∷ text) words is some = (words_of (b ∷ text), is, join_with_byte-slice_split 32 (b ∷ text))
said-some verbosity [] words is some = by-zero (verbosity == 0) is
  where
    by-zero : (z : Bool) → words ≡ (if z then [] else decimal verbosity ∷ []) → (others : List (List ℕ)) × (words ≡ decimal verbosity ∷ others) × (join_with_byte 32 others ≡ [])
    by-zero true is = absurd (some is)
    by-zero false is = ([], is, refl)
