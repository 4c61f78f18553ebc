-- The random numbers that the text of a log shows are those of the log.
use Rattle.std.specs.Prelude.{◌==◌, IfSome, codes}
use Rattle.std.specs.Fmt.{decimal}
use Rattle.std.specs.List.{All, AllByRecursion, cons_option, list_all}
use Rattle.std.proofs.Common.{◌≡◌, ◌∙◌, ◌<◌, ◌^◌, ℕ, zero, suc, true, false, List, [], ◌∷◌, ◌++◌, length, reverse, Option, Some, None, inl, inr, refl, sym, ap, subst, arith, append_assoc}
use Rattle.std.proofs.lemmas.Bool.{and_parts}
use Rattle.std.proofs.lemmas.Bool.Decides.{nat_tests}
use Rattle.std.proofs.lemmas.List.{append-nil, append_cancel_right}
use Rattle.std.proofs.lemmas.List.Elements.{All-cons, All-from_recursion, All-head, All-nil, All-tail}
use Rattle.rand_core.specs.Stream.{Stream}
use Rattle.uvm_glob.specs.Printed.{is_printed_byte}
use Rattle.uvm_report.specs.declared.severities.Severity.{Severity}
use Rattle.uvm_report.specs.declared.severities.Severity.TheVariants.{Info, Warning, Error, Fatal}
use Rattle.uvm_report.specs.Commands.{Command, SetVerbosity, SetAction, SetSeverity, SetQuitLimit, Issue}
use Rattle.uvm_report.specs.Lines.{report_line}
use Rattle.uvm_report.specs.Plain.{IsLineAtMost, begins_plain}
use Rattle.uvm_report.specs.Severities.{severity_text}
use Rattle.uvm_sequences.specs.Sequences.{Start}
use Rattle.uvm_tree.specs.Nodes.{Node, path_at}
use Rattle.uvm_object.specs.declared.entries.Entry.{Entry}
use Rattle.uvm_object.specs.declared.entries.Entry.TheVariants.{Begin, End, Time, Heard, Did, Locked, Granted, Passed, Drained, Note, Over}
use Rattle.uvm_object.specs.Sources.{sequence_text, shown_path}
use Rattle.uvm_lines.specs.Lines.{drawn_text, entry_text}
use Rattle.bench_script.specs.Scripts.{ScriptValue}
use Rattle.bench_history.specs.History.{nodes_of, now_of}
use Rattle.bench_history.specs.Reports.{command_in, line_under, report_text, source_in}
use Rattle.bench_history.specs.Sequences.{sequences_of}
use Rattle.bench_core.specs.Cores.{HasFewLines, last_line, last_text, word_in as word_made}
use Rattle.bench_run.specs.Running.{HaveFewLines, transcript}
use Rattle.bench_run.specs.Words.{HasWordsOf, log_words, words_drawn}
use Rattle.script_legal.proofs.Known.{in-front}
use Rattle.script_legal.proofs.Shown.{shown-line, word-drawn, word-undrawn}
use Rattle.script_legal.specs.Judgements.{AreWords}
use Rattle.script_legal.specs.ShownWords.{shown_words, word_in}

abbrev IsSmall : ℕ → Type 0
IsSmall word = word < 2 ^ 64

-- ---- whole lines

printed-whole : (byte : ℕ) → is_printed_byte byte ≡ true → (byte == 10) ≡ false
printed-whole byte printed = grind (arith, nat_tests, printed)

whole-by : (text : List ℕ) → list_all is_printed_byte text ≡ true → AllByRecursion (λ byte. (byte == 10) ≡ false) text
whole-by [] printed = tt
whole-by (byte ∷ text) printed =
    let both = and_parts (is_printed_byte byte) (list_all is_printed_byte text) printed in
    (printed-whole byte both.0, whole-by text both.1)

no_end : (text : List ℕ) → text ++ 10 ∷ [] ≡ [] → ⊥
no_end [] none = cc
no_end (byte ∷ text) none = cc

-- a line has no newline in it
whole : (text : List ℕ) → IsLineAtMost (text ++ 10 ∷ []) → All (λ byte. (byte == 10) ≡ false) text
whole text (inl none) = absurd (no_end text none)
whole text (inr one) =
    let printed = (and_parts (list_all is_printed_byte one.shown) (begins_plain one.shown) one.plain).0 in
    let same = append_cancel_right one.shown text (10 ∷ []) one.joined in
    All-from_recursion (λ byte. (byte == 10) ≡ false) text (whole-by text (subst (λ shown. list_all is_printed_byte shown ≡ true) same printed))

-- the random number in a line, and those in the lines behind it
shown-whole : (text rest : List ℕ) (word : Option ℕ) → IsLineAtMost (text ++ 10 ∷ []) → word_in text ≡ word → shown_words ((text ++ 10 ∷ []) ++ rest) ≡ cons_option word (shown_words rest)
shown-whole text rest word few is =
    ap shown_words (append_assoc text (10 ∷ []) rest) ∙ shown-line text rest (whole text few) ∙ ap (λ (w : Option ℕ). cons_option w (shown_words rest)) is

-- ---- the line of an entry

grant-word : (path source : List ℕ) (id : ℕ) (word : Option ℕ) → IfSome word IsSmall → word_in (103 ∷ 114 ∷ 97 ∷ 110 ∷ 116 ∷ 101 ∷ 100 ∷ 32 ∷ (path ++ 32 ∷ (source ++ 35 ∷ decimal id) ++ drawn_text word)) ≡ word
grant-word path source id None small =
    ap (λ text. word_in (103 ∷ 114 ∷ 97 ∷ 110 ∷ 116 ∷ 101 ∷ 100 ∷ 32 ∷ text)) (append-nil (path ++ 32 ∷ (source ++ 35 ∷ decimal id)) ∙ sym (append_assoc path (32 ∷ source) (35 ∷ decimal id)))
    ∙ word-undrawn (path ++ 32 ∷ source) id
grant-word path source id (Some word) small =
    let front = path ++ 32 ∷ (source ++ 35 ∷ decimal id) in
    ap (λ text. word_in (103 ∷ 114 ∷ 97 ∷ 110 ∷ 116 ∷ 101 ∷ 100 ∷ 32 ∷ text)) (sym (append_assoc front (32 ∷ 119 ∷ 111 ∷ 114 ∷ 100 ∷ []) (32 ∷ decimal word)))
    ∙ word-drawn (front ++ 32 ∷ 119 ∷ 111 ∷ 114 ∷ 100 ∷ []) word small

entry-word : (nodes : List Node) (started : List Start) (entry : Entry) (before : List Entry) → IfSome (word_made (entry ∷ before)) IsSmall → word_in (entry_text nodes started entry) ≡ word_made (entry ∷ before)
entry-word nodes started (Begin phase) before small = refl
entry-word nodes started (End phase) before small = refl
entry-word nodes started (Time time) before small = refl
entry-word nodes started (Heard who origin call acts) before small = refl
entry-word nodes started (Did who outcome act) before small = refl
entry-word nodes started (Locked sequencer id) before small = refl
entry-word nodes started (Granted sequencer grant) before small = grant-word (shown_path (path_at nodes sequencer)) (sequence_text nodes started grant.id sequencer) grant.id grant.word small
entry-word nodes started (Passed fifo passage) before small = refl
entry-word nodes started (Drained node origin) before small = refl
entry-word nodes started (Note fatal node) before small = refl
entry-word nodes started (Over why) before small = refl

-- ---- the line of a report

report-word : (severity : Severity) (rest : List ℕ) → word_in (severity_text severity ++ rest) ≡ None
report-word Info rest = refl
report-word Warning rest = refl
report-word Error rest = refl
report-word Fatal rest = refl

report-shown : (severity : Severity) (time : ℕ) (source id text rest : List ℕ) → IsLineAtMost (report_line severity time source id text) → shown_words (report_line severity time source id text ++ rest) ≡ shown_words rest
unfolding report_line
report-shown severity time source id text rest few =
    shown-whole (severity_text severity ++ codes " @ " ++ decimal time ++ codes ": " ++ source ++ codes " [" ++ id ++ codes "] " ++ text) rest None few
    (ap word_in (behind severity (codes " @ ") (decimal time) (codes ": ") source (codes " [") id (codes "] ") text) ∙ report-word severity (codes " @ " ++ (decimal time ++ (codes ": " ++ (source ++ (codes " [" ++ (id ++ (codes "] " ++ text))))))))
  where
    behind : (severity : Severity) (a b c d e f g h : List ℕ) → severity_text severity ++ a ++ b ++ c ++ d ++ e ++ f ++ g ++ h ≡ severity_text severity ++ (a ++ (b ++ (c ++ (d ++ (e ++ (f ++ (g ++ h)))))))
    behind severity a b c d e f g h = simp append_assoc refl

under-shown : (time : ℕ) (source : List ℕ) (command : Option Command) (severity : Option Severity) (rest : List ℕ) → IsLineAtMost (line_under time source command severity)
    → shown_words (line_under time source command severity ++ rest) ≡ shown_words rest
under-shown time source (Some (Issue path report)) (Some severity) rest few = report-shown severity time source report.id report.text rest few
under-shown time source (Some (Issue path report)) None rest few = refl
under-shown time source (Some (SetVerbosity scope which level)) severity rest few = refl
under-shown time source (Some (SetAction scope which actions)) severity rest few = refl
under-shown time source (Some (SetSeverity scope from id to)) severity rest few = refl
under-shown time source (Some (SetQuitLimit limit)) severity rest few = refl
under-shown time source None severity rest few = refl

-- ---- the text of a log

last-shown : (script : ScriptValue) (entry : Entry) (before : List Entry) (rest : List ℕ) → HasFewLines true script (entry ∷ before) → IfSome (word_made (entry ∷ before)) IsSmall
    → shown_words (last_text true script (entry ∷ before) ++ rest) ≡ cons_option (word_made (entry ∷ before)) (shown_words rest)
last-shown script entry before rest few small =
    let nodes = nodes_of (entry ∷ before) in
    let started = sequences_of (entry ∷ before) in
    ap shown_words (append_assoc (last_line true (entry ∷ before)) (report_text script (entry ∷ before)) rest)
    ∙ shown-whole (entry_text nodes started entry) (report_text script (entry ∷ before) ++ rest) (word_made (entry ∷ before)) few.entry (entry-word nodes started entry before small)
    ∙ ap (cons_option (word_made (entry ∷ before))) (under-shown (now_of (entry ∷ before)) (source_in nodes started entry) (command_in (nodes_of before) entry) _ rest few.report)

-- of some random numbers one is small, and so are the others
small-parts : (word : Option ℕ) (older : List ℕ) → All IsSmall (cons_option word older) → IfSome word IsSmall × All IsSmall older
small-parts None older small = (tt, small)
small-parts (Some word) older small = (All-head IsSmall word older small, All-tail IsSmall word older small)

joined : (word : Option ℕ) (older rest : List ℕ) → reverse older ++ cons_option word rest ≡ reverse (cons_option word older) ++ rest
joined None older rest = refl
joined (Some word) older rest = sym (in-front word older rest)

pub told : (script : ScriptValue) (history : List Entry) (rest : List ℕ) → HaveFewLines true script history → All IsSmall (log_words history) → shown_words (transcript true script history ++ rest) ≡ reverse (log_words history) ++ shown_words rest
told script [] rest few small = refl
told script (entry ∷ before) rest few small =
    let parts = small-parts (word_made (entry ∷ before)) (log_words before) small in
    ap shown_words (append_assoc (transcript true script before) (last_text true script (entry ∷ before)) rest)
    ∙ told script before (last_text true script (entry ∷ before) ++ rest) few.1 parts.1
    ∙ ap (λ shown. reverse (log_words before) ++ shown) (last-shown script entry before rest few.0 parts.0)
    ∙ joined (word_made (entry ∷ before)) (log_words before) (shown_words rest)

-- the numbers of a generator are small
drawn-small : (words : Stream) (count : ℕ) → AreWords words → All IsSmall (words_drawn count words)
drawn-small words zero are = All-nil IsSmall
drawn-small words (suc count) are = All-cons IsSmall _ (words_drawn count words) (are count) (drawn-small words count are)

pub log-small : (words : Stream) (history : List Entry) → AreWords words → HasWordsOf words history → All IsSmall (log_words history)
log-small words history are has = subst (All IsSmall) (sym has) (drawn-small words (length (log_words history)) are)
