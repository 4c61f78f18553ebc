-- The lines of reports and of the summary are lines of a transcript.
use Rattle.uvm_report.proofs.Common.{◌≡◌, ◌+◌, ◌<◌, get_or, take, subst, sym, ℕ, Bool, true, false, not, ◌==◌, List, [], ◌∷◌, ◌++◌, None, refl, ◌∙◌, codes, if◌then◌else◌, decimal, list_all, flat_map, and_from, not-false, flat_map-append, append-nil, take_more, list_all-append, IsPrinted, is_printed_byte, Severity, Info, Warning, Error, Fatal, TooLong, BadByte, Counts, number_of, severity_text, is_text_byte, text_fault, line, report_line, severity_line, id_line, limit_line, severities, summary_text, ArePlainLines, IsPlainLine, begins_plain, plain-append, plain-none, plain-one, nat_lt, length, Some}

-- two printed texts
pub printed-append : (front back : List ℕ) → IsPrinted front → IsPrinted back → IsPrinted (front ++ back)
printed-append front back one more = list_all-append is_printed_byte front back ∙ and_from (list_all is_printed_byte front) (list_all is_printed_byte back) one more

-- the lines of one more
pub plain-more : {X : Type 0} (f : X → List ℕ) (xs : List X) (i : ℕ) (d : X) → i < length xs → ArePlainLines (flat_map f (take i xs)) → ArePlainLines (f (get_or xs i d)) → ArePlainLines (flat_map f (take (i + 1) xs))
plain-more f xs i d within before one =
    subst (λ ys. ArePlainLines (flat_map f ys)) (sym (take_more xs i d within))
    (subst ArePlainLines (sym (flat_map-append f (take i xs) (get_or xs i d ∷ [])))
    (plain-append _ _ before (subst ArePlainLines (sym (append-nil (f (get_or xs i d)))) one)))

-- a text of a report is printed
no_fault : (long bad : Bool) → (if long then Some TooLong else if bad then Some BadByte else None) ≡ None → bad ≡ false
no_fault true bad none = cc
no_fault false true none = cc
no_fault false false none = refl

pub text_printed : (text : List ℕ) → text_fault text ≡ None → IsPrinted text
unfolding text_fault
text_printed text none = not-false (list_all is_text_byte text) (no_fault (nat_lt 200 (length text)) (not (list_all is_text_byte text)) none)

-- a printed line that begins so
plain : (text : List ℕ) → IsPrinted text → begins_plain text ≡ true → ArePlainLines (line text)
plain text printed begins = plain-one text (and_from (list_all is_printed_byte text) (begins_plain text) printed begins)

severity-printed : (severity : Severity) → IsPrinted (severity_text severity)
severity-printed Info = refl
severity-printed Warning = refl
severity-printed Error = refl
severity-printed Fatal = refl

abbrev report_text : Severity → ℕ → List ℕ → List ℕ → List ℕ → List ℕ
report_text severity time source id text =
    severity_text severity ++ codes " @ " ++ decimal time ++ codes ": " ++ source ++ codes " [" ++ id ++ codes "] " ++ text

report_begins : (severity : Severity) (time : ℕ) (source id text : List ℕ) → begins_plain (report_text severity time source id text) ≡ true
report_begins Info time source id text = refl
report_begins Warning time source id text = refl
report_begins Error time source id text = refl
report_begins Fatal time source id text = refl

report-printed : (severity : Severity) (time : ℕ) (source id text : List ℕ) → IsPrinted (decimal time) → IsPrinted source → IsPrinted id → IsPrinted text
    → IsPrinted (report_text severity time source id text)
report-printed severity time source id text at from name said = simp (list_all-append, severity-printed severity, at, from, name, said)

pub report_plain : (severity : Severity) (time : ℕ) (source id text : List ℕ) → IsPrinted (decimal time) → IsPrinted source → IsPrinted id → text_fault text ≡ None
    → IsPlainLine (report_line severity time source id text)
unfolding report_line
report_plain severity time source id text at from name none = record {
  shown = report_text severity time source id text;
  plain = and_from (list_all is_printed_byte (report_text severity time source id text)) (begins_plain (report_text severity time source id text)) (report-printed severity time source id text at from name (text_printed text none)) (report_begins severity time source id text);
  joined = refl;
}

abbrev severity_count : Counts → Severity → List ℕ
severity_count counts severity = severity_text severity ++ codes " : " ++ decimal (number_of counts severity)

severity_count-printed : (counts : Counts) (severity : Severity) → IsPrinted (decimal (number_of counts severity)) → IsPrinted (severity_count counts severity)
severity_count-printed counts severity number = simp (list_all-append, severity-printed severity, number)

severity_count-begins : (counts : Counts) (severity : Severity) → begins_plain (severity_count counts severity) ≡ true
severity_count-begins counts Info = refl
severity_count-begins counts Warning = refl
severity_count-begins counts Error = refl
severity_count-begins counts Fatal = refl

pub severity_plain : (counts : Counts) (severity : Severity) → IsPrinted (decimal (number_of counts severity)) → ArePlainLines (severity_line counts severity)
unfolding severity_line
severity_plain counts severity number =
    plain (severity_count counts severity) (severity_count-printed counts severity number) (severity_count-begins counts severity)

abbrev id_count : List ℕ → ℕ → List ℕ
id_count id number = codes "[" ++ id ++ codes "] " ++ decimal number

id_count-printed : (id : List ℕ) (number : ℕ) → IsPrinted id → IsPrinted (decimal number) → IsPrinted (id_count id number)
id_count-printed id number name digits = simp (list_all-append, name, digits)

pub id_plain : (id : List ℕ) (number : ℕ) → IsPrinted id → IsPrinted (decimal number) → ArePlainLines (id_line (id, number))
unfolding id_line
id_plain id number name digits = plain (id_count id number) (id_count-printed id number name digits) refl

abbrev quit_text : ℕ → ℕ → List ℕ
quit_text limit quit = codes "Quit count : " ++ decimal quit ++ codes " of " ++ decimal limit

quit-printed : (limit quit : ℕ) → IsPrinted (decimal quit) → IsPrinted (decimal limit) → IsPrinted (quit_text limit quit)
quit-printed limit quit number most = simp (list_all-append, number, most)

pub limit_plain : (limit quit : ℕ) → IsPrinted (decimal quit) → IsPrinted (decimal limit) → ArePlainLines (limit_line limit quit)
unfolding limit_line
limit_plain limit quit number most =
    elim (limit == 0) as (λ none. ArePlainLines (if none then [] else line (quit_text limit quit))) [
      | true ↦ plain-none
      | false ↦ plain (quit_text limit quit) (quit-printed limit quit number most) refl
    ]

pub summary_plain : (limit : ℕ) (counts : Counts) → ArePlainLines (limit_line limit counts.quit) → ArePlainLines (flat_map (severity_line counts) severities) → ArePlainLines (flat_map id_line counts.ids)
    → ArePlainLines (summary_text limit counts)
unfolding summary_text
summary_plain limit counts most by_severity by_id =
    plain-append _ (flat_map id_line counts.ids)
    (plain-append _ (line (codes "** Report counts by id"))
    (plain-append _ (flat_map (severity_line counts) severities)
    (plain-append _ (line (codes "** Report counts by severity"))
    (plain-append (line (codes "--- UVM Report Summary ---")) (limit_line limit counts.quit) (plain (codes "--- UVM Report Summary ---") refl refl) most)
    (plain (codes "** Report counts by severity") refl refl)) by_severity)
    (plain (codes "** Report counts by id") refl refl)) by_id
