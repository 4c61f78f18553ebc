-- The words of the line of an act: what stands between its blanks. The text of a report may have blanks of its own.
use Rattle.script_answer_acts.proofs.Common.{◌≡◌, ℕ, Bool, true, false, ◌&&◌, ◌==◌, if◌then◌else◌, List, [], ◌∷◌, ◌++◌, length, refl, ap, ◌∙◌, append_assoc, append-nil, codes, Option, Some, None, IfSome, decimal, join_with_byte, eqb-suc-zero, path_text, Actions, Severity, Which, severity_name, How, Mode, PortKind, What, Act, act_text, id_text, actions_text, which_text, what_text, how_text, mode_text, kind_text, act_line, said_text, IsSound, IsWhich, IsWhat, IsName, act_words, keyword, later_words, replace_words, said_words, what_words, which_words}
use Rattle.uvm_report.specs.declared.severities.Severity.TheVariants as severity
use Rattle.uvm_report.specs.declared.settings.Which.TheVariants as which
use Rattle.uvm_sequencer.specs.declared.drivers.How.TheVariants as how
use Rattle.uvm_sequencer.specs.declared.modes.Mode.TheVariants as mode
use Rattle.uvm_tlm.specs.declared.ends.PortKind.TheVariants as kind
use Rattle.uvm_acts.specs.declared.acts.What.TheVariants as what
use Rattle.uvm_acts.specs.declared.acts.Act.TheVariants as act
use Rattle.script_answer_acts.proofs.Splits.{lacks, AllLack, parts_at, parts-one, parts-more, parts-join}
use Rattle.script_answer_acts.proofs.Parts.{number-lacks, signed-lacks, name-lacks, brackets-lack, glob-lacks, path-lacks, item-lacks, some-item-lacks, priority-lacks}

-- NONE OF THEM HAS A BLANK

severity-lacks : (severity : Severity) → lacks 32 (severity_name severity) ≡ true
severity-lacks severity.Info = refl
severity-lacks severity.Warning = refl
severity-lacks severity.Error = refl
severity-lacks severity.Fatal = refl

mode-lacks : (mode : Mode) → lacks 32 (mode_text mode) ≡ true
mode-lacks mode.Fifo = refl
mode-lacks mode.Weighted = refl
mode-lacks mode.Random = refl
mode-lacks mode.StrictFifo = refl
mode-lacks mode.StrictRandom = refl

kind-lacks : (kind : PortKind) → lacks 32 (kind_text kind) ≡ true
kind-lacks kind.Put = refl
kind-lacks kind.Get = refl
kind-lacks kind.Analysis = refl
kind-lacks kind.Seq = refl

how-lacks : (how : How) → lacks 32 (how_text how) ≡ true
how-lacks how.Next = refl
how-lacks how.Try = refl
how-lacks how.Get = refl

what-lack : (what : What) → IsWhat what → AllLack 32 (what_words what)
what-lack (what.Sequencer mode) sound = (refl, (mode-lacks mode, tt))
what-lack (what.Fifo size) sound = (refl, (number-lacks 32 size refl sound, tt))
what-lack (what.Port kind) sound = (refl, (kind-lacks kind, tt))
what-lack (what.Export kind) sound = (refl, (kind-lacks kind, tt))
what-lack what.Imp sound = (refl, tt)

replace-lack : (replace : Bool) → AllLack 32 (replace_words replace)
replace-lack true = (refl, tt)
replace-lack false = tt

blankless : (name : List ℕ) → IsName name → lacks 32 name ≡ true
blankless name sound = name-lacks 32 refl name sound

which-lack : (which : Which) (last : List ℕ) → IsWhich which → lacks 32 last ≡ true → AllLack 32 (which_words which last)
which-lack which.All last sound plain = (refl, (plain, tt))
which-lack (which.Severity severity) last sound plain = (severity-lacks severity, (plain, tt))
which-lack (which.Id id) last sound plain = (refl, (blankless id sound, (plain, tt)))
which-lack (which.Both severity id) last sound plain = (severity-lacks severity, (blankless id sound, (plain, tt)))

sets-lack : (display count exit : Bool) → lacks 32 (actions_text (record { display = display; count = count; exit = exit })) ≡ true
sets-lack true true true = refl
sets-lack true true false = refl
sets-lack true false true = refl
sets-lack true false false = refl
sets-lack false true true = refl
sets-lack false true false = refl
sets-lack false false true = refl
sets-lack false false false = refl

actions-lack : (actions : Actions) → lacks 32 (actions_text actions) ≡ true
actions-lack actions = sets-lack actions.display actions.count actions.exit

id-lacks : (id : Option (List ℕ)) → IfSome id IsName → lacks 32 (id_text id) ≡ true
id-lacks None sound = refl
id-lacks (Some id) sound = blankless id sound

-- no report
IsPlain : Act → Type 0
IsPlain (act.Report report) = ⊥
IsPlain other = Unit {0}

later-lack : (other : Act) → IsPlain other → IsSound other → AllLack 32 (later_words other)
unfolding IsPlain
later-lack (act.Create type_name name) plain sound = (blankless type_name sound.0, (blankless name sound.1, tt))
later-lack (act.Add name what) plain sound = (blankless name sound.0, what-lack what sound.1)
later-lack (act.Set glob field value) plain sound = (brackets-lack glob (glob-lacks glob sound.0), (blankless field sound.1, (signed-lacks 32 value refl refl sound.2, tt)))
later-lack (act.Get field) plain sound = (blankless field sound, tt)
later-lack (act.OverrideType original new replace) plain sound = (blankless original sound.0, (blankless new sound.1, replace-lack replace))
later-lack (act.OverrideInst original new glob) plain sound = (blankless original sound.0, (blankless new sound.1, (refl, (brackets-lack glob (glob-lacks glob sound.2), tt))))
later-lack (act.Connect from to) plain sound = (brackets-lack (path_text from) (path-lacks from sound.0), (brackets-lack (path_text to) (path-lacks to sound.1), tt))
later-lack (act.Put port item) plain sound = (blankless port sound.0, (item-lacks item sound.1, tt))
later-lack (act.TryPut port item) plain sound = (blankless port sound.0, (item-lacks item sound.1, tt))
later-lack (act.Take port) plain sound = (blankless port sound, tt)
later-lack (act.TryTake port) plain sound = (blankless port sound, tt)
later-lack (act.Peek port) plain sound = (blankless port sound, tt)
later-lack (act.Write port item) plain sound = (blankless port sound.0, (item-lacks item sound.1, tt))
later-lack (act.Ask port how) plain sound = (blankless port sound, (how-lacks how, tt))
later-lack (act.ItemDone port response) plain sound = (blankless port sound.0, (some-item-lacks response sound.1, tt))
later-lack (act.Start type_name name on priority) plain sound = (blankless type_name sound.0, (blankless name sound.1, (brackets-lack (path_text on) (path-lacks on sound.2), (priority-lacks priority sound.3, tt))))
later-lack (act.Request priority) plain sound = (priority-lacks priority sound, tt)
later-lack act.Lock plain sound = tt
later-lack act.Grab plain sound = tt
later-lack act.Unlock plain sound = tt
later-lack (act.Send item) plain sound = (item-lacks item sound, tt)
later-lack act.EndStep plain sound = tt
later-lack (act.Report report) plain sound = absurd plain
later-lack (act.Verbosity which level) plain sound = which-lack which (decimal level) sound.0 (number-lacks 32 level refl sound.1)
later-lack (act.Actions which actions) plain sound = which-lack which (actions_text actions) sound (actions-lack actions)
later-lack (act.Severity from id to) plain sound = (severity-lacks from, (id-lacks id sound, (severity-lacks to, tt)))
later-lack (act.RaiseObjection count) plain sound = (number-lacks 32 count refl sound, tt)
later-lack (act.DropObjection count) plain sound = (number-lacks 32 count refl sound, tt)
later-lack (act.SetDrain ticks) plain sound = (number-lacks 32 ticks refl sound, tt)
later-lack (act.Wait ticks tag) plain sound = (number-lacks 32 ticks refl sound.0, (number-lacks 32 tag refl sound.1, tt))

keyword-lacks : (other : Act) → lacks 32 (keyword other) ≡ true
keyword-lacks (act.Create type_name name) = refl
keyword-lacks other = refl

-- JOINED THEY ARE THE LINE

what-joins : (name : List ℕ) (what : What) → codes "add " ++ name ++ 32 ∷ what_text what ≡ join_with_byte 32 (codes "add" ∷ name ∷ what_words what)
what-joins name (what.Sequencer mode) = refl
what-joins name (what.Fifo size) = refl
what-joins name (what.Port kind) = refl
what-joins name (what.Export kind) = refl
what-joins name what.Imp = refl

which-joins : (word : List ℕ) (which : Which) (last : List ℕ) → word ++ 32 ∷ which_text which ++ 32 ∷ last ≡ join_with_byte 32 (word ∷ which_words which last)
which-joins word which.All last = simp append_assoc
which-joins word (which.Severity severity) last = simp append_assoc
which-joins word (which.Id id) last = simp append_assoc
which-joins word (which.Both severity id) last = simp append_assoc

text-joins : (other : Act) → IsPlain other → act_text other ≡ join_with_byte 32 (act_words other)
unfolding IsPlain
text-joins (act.Report report) plain = absurd plain
text-joins (act.Add name what) plain = what-joins name what
text-joins (act.Set glob field value) plain = simp append_assoc
text-joins (act.OverrideType original new true) plain = simp append_assoc
text-joins (act.OverrideType original new false) plain = append-nil (codes "override " ++ original ++ 32 ∷ new)
text-joins (act.OverrideInst original new glob) plain = simp append_assoc
text-joins (act.Connect from to) plain = simp append_assoc
text-joins (act.Start type_name name on priority) plain = simp append_assoc
text-joins (act.Verbosity which level) plain = which-joins (codes "verbosity") which (decimal level)
text-joins (act.Actions which actions) plain = which-joins (codes "actions") which (actions_text actions)
text-joins (act.Severity from id to) plain = simp append_assoc
text-joins other plain = refl

-- THE LINE COMES APART INTO THE WORDS

module _ (id : List ℕ) (plain : lacks 32 id ≡ true) (verbosity : ℕ) (number : lacks 32 (decimal verbosity) ≡ true) where
  no-text : (z : Bool) → parts_at 32 (id ++ (if z && true then [] else (32 ∷ decimal verbosity ++ []))) ≡ id ∷ (if z then [] else decimal verbosity ∷ [])
  no-text true = ap (parts_at 32) (append-nil id) ∙ parts-one 32 id plain
  no-text false =
      parts-more 32 id (decimal verbosity ++ []) plain
      ∙ ap (λ words. id ∷ words) (ap (parts_at 32) (append-nil (decimal verbosity)) ∙ parts-one 32 (decimal verbosity) number)

  with-text : (b : ℕ) (text : List ℕ) (z : Bool) → parts_at 32 (id ++ (if z && false then [] else (32 ∷ decimal verbosity ++ 32 ∷ b ∷ text))) ≡ id ∷ decimal verbosity ∷ parts_at 32 (b ∷ text)
  with-text b text true = parts-more 32 id (decimal verbosity ++ 32 ∷ b ∷ text) plain ∙ ap (λ words. id ∷ words) (parts-more 32 (decimal verbosity) (b ∷ text) number)
  with-text b text false = parts-more 32 id (decimal verbosity ++ 32 ∷ b ∷ text) plain ∙ ap (λ words. id ∷ words) (parts-more 32 (decimal verbosity) (b ∷ text) number)

  said-parts : (text : List ℕ) → parts_at 32 (id ++ said_text verbosity text) ≡ id ∷ said_words verbosity text
  said-parts [] = no-text (verbosity == 0)
  said-parts (b ∷ text) = rw (eqb-suc-zero (length text)) (with-text b text (verbosity == 0))

plain-parts : (other : Act) → IsPlain other → IsSound other → parts_at 32 (act_text other ++ []) ≡ act_words other
plain-parts other plain sound =
    ap (parts_at 32) (append-nil (act_text other) ∙ text-joins other plain)
    ∙ parts-join 32 (keyword other) (later_words other) (keyword-lacks other, later-lack other plain sound)

report-parts : (severity id said : List ℕ) → lacks 32 severity ≡ true → parts_at 32 ((codes "report " ++ severity ++ 32 ∷ id) ++ said) ≡ codes "report" ∷ severity ∷ parts_at 32 (id ++ said)
report-parts severity id said plain =
    ap (λ rest. parts_at 32 (codes "report" ++ 32 ∷ rest)) (append_assoc severity (32 ∷ id) said)
    ∙ (parts-more 32 (codes "report") (severity ++ 32 ∷ (id ++ said)) refl
    ∙ ap (λ words. codes "report" ∷ words) (parts-more 32 severity (id ++ said) plain))

pub line-parts : (other : Act) → IsSound other → parts_at 32 (act_line other) ≡ act_words other
unfolding IsPlain
line-parts (act.Report report) sound =
    report-parts (severity_name report.severity) report.id (said_text report.verbosity report.text) (severity-lacks report.severity)
    ∙ ap (λ words. codes "report" ∷ severity_name report.severity ∷ words) (said-parts report.id (blankless report.id sound.0) report.verbosity (number-lacks 32 report.verbosity refl sound.1) report.text)
line-parts (act.Create type_name name) sound = plain-parts (act.Create type_name name) tt sound
line-parts other sound = plain-parts other tt sound
