-- What is said in two parts is told apart as a whole.
use Rattle.serve_dialogue.proofs.Common.{◌≡◌, ◌∙◌, ℕ, Bool, true, false, not, ◌&&◌, ◌==◌, List, [], ◌∷◌, ◌++◌, filter, ap, refl, subst, sym, arith, flat_map, list_all, and_from, and_parts, nat_tests, flat_map-append, filter-append, list_all-append, newest, is_printed_byte, line, ArePlainLines, begins_plain, is_plain, Entry, ScriptValue, last_text, transcript, AreMarkedLines, TellsApart, is_marked, is_marked_line, answer_of, asked_in, dialogue, new_in, time_in, call_of_passage, TypeValue, client_next, said_in-append, answered, said, said_in, append-nil}
use Rattle.serve_dialogue.proofs.PipeTalk.{said_in-answered, said_in-said}

abbrev unmarked : List (List ℕ) → List (List ℕ)
unmarked lines = filter (λ text. not (is_marked text)) lines

pub apart-none : TellsApart [] []
apart-none = record { lines = []; printed = refl; output_is = refl; transcript_is = refl }

pub apart-append : (output more_output transcript more_transcript : List ℕ) → TellsApart output transcript → TellsApart more_output more_transcript → TellsApart (output ++ more_output) (transcript ++ more_transcript)
apart-append output more_output transcript more_transcript one more = record {
  lines = one.lines ++ more.lines;
  printed = list_all-append (list_all is_printed_byte) one.lines more.lines ∙ and_from (list_all (list_all is_printed_byte) one.lines) (list_all (list_all is_printed_byte) more.lines) one.printed more.printed;
  output_is = flat_map-append line one.lines more.lines ∙ ap (λ text. text ++ flat_map line more.lines) one.output_is ∙ ap (λ text. output ++ text) more.output_is;
  transcript_is =
      ap (flat_map line) (filter-append (λ text. not (is_marked text)) one.lines more.lines)
      ∙ flat_map-append line (unmarked one.lines) (unmarked more.lines)
      ∙ ap (λ text. text ++ flat_map line (unmarked more.lines)) one.transcript_is
      ∙ ap (λ text. transcript ++ text) more.transcript_is;
}

-- of questions and notices nothing is left
all-printed : (lines : List (List ℕ)) → list_all is_marked_line lines ≡ true → list_all (list_all is_printed_byte) lines ≡ true
all-printed [] good = refl
all-printed (text ∷ lines) good =
    let both = and_parts (is_marked_line text) (list_all is_marked_line lines) good in
    and_from (list_all is_printed_byte text) (list_all (list_all is_printed_byte) lines) (and_parts (list_all is_printed_byte text) (is_marked text) both.0).0 (all-printed lines both.1)

none-left : (lines : List (List ℕ)) → list_all is_marked_line lines ≡ true → unmarked lines ≡ []
none-left [] good = refl
none-left (text ∷ lines) good =
    let both = and_parts (is_marked_line text) (list_all is_marked_line lines) good in
    rw (and_parts (list_all is_printed_byte text) (is_marked text) both.0).1 (none-left lines both.1)

pub marked-apart : (text : List ℕ) → AreMarkedLines text → TellsApart text []
marked-apart text marks = record { lines = marks.lines; printed = all-printed marks.lines marks.marked; output_is = marks.joined; transcript_is = ap (flat_map line) (none-left marks.lines marks.marked) }

-- of lines of a transcript all are left
plain-bytes : (b : ℕ) → not (b == 33) && not (b == 63) ≡ true → ((63 == b) ≡ false) × ((33 == b) ≡ false)
plain-bytes b good = grind (arith, nat_tests)

plain-unmarked : (text : List ℕ) → begins_plain text ≡ true → is_marked text ≡ false
plain-unmarked [] good = refl
plain-unmarked (b ∷ text) good =
    let other = plain-bytes b good in
    rw (other.0, other.1) refl

plain-printed : (lines : List (List ℕ)) → list_all is_plain lines ≡ true → list_all (list_all is_printed_byte) lines ≡ true
plain-printed [] good = refl
plain-printed (text ∷ lines) good =
    let both = and_parts (is_plain text) (list_all is_plain lines) good in
    and_from (list_all is_printed_byte text) (list_all (list_all is_printed_byte) lines) (and_parts (list_all is_printed_byte text) (begins_plain text) both.0).0 (plain-printed lines both.1)

all-left : (lines : List (List ℕ)) → list_all is_plain lines ≡ true → unmarked lines ≡ lines
all-left [] good = refl
all-left (text ∷ lines) good =
    let both = and_parts (is_plain text) (list_all is_plain lines) good in
    rw (plain-unmarked text (and_parts (list_all is_printed_byte text) (begins_plain text) both.0).1) (ap (λ rest. text ∷ rest) (all-left lines both.1))

pub plain-apart : (text : List ℕ) → ArePlainLines text → TellsApart text text
plain-apart text plain = record { lines = plain.lines; printed = plain-printed plain.lines plain.plain; output_is = plain.joined; transcript_is = ap (flat_map line) (all-left plain.lines plain.plain) ∙ plain.joined }

-- what is said of one more entry
said-exchange : (answers : List TypeValue) (trace : Bool) (script : ScriptValue) (entry : Entry) (before : List Entry) → said_in (dialogue answers trace script (entry ∷ before))
    ≡ said_in (dialogue answers trace script before) ++ (asked_in answers script before ++ call_of_passage answers trace script entry before)
said-exchange answers trace script entry before =
    let asked = said (asked_in answers script before) in
    let given = answered (answer_of (client_next answers script before) entry) in
    let told = said (call_of_passage answers trace script entry before) in
    said_in-append (dialogue answers trace script before) (asked ++ given ++ told)
    ∙ ap (λ text. said_in (dialogue answers trace script before) ++ text) (
    said_in-append (asked ++ given) told
    ∙ ap (λ text. text ++ said_in told) (said_in-append asked given ∙ ap (λ text. said_in asked ++ text) (said_in-answered (answer_of (client_next answers script before) entry)) ∙ append-nil (said_in asked))
    ∙ ap (λ text. text ++ said_in told) (said_in-said (asked_in answers script before))
    ∙ ap (λ text. asked_in answers script before ++ text) (said_in-said (call_of_passage answers trace script entry before))
    )

pub more_apart : (answers : List TypeValue) (trace : Bool) (script : ScriptValue) (entry : Entry) (before : List Entry) → TellsApart (said_in (dialogue answers trace script before)) (transcript trace script before) → AreMarkedLines (asked_in answers script before)
    → AreMarkedLines (new_in entry before (client_next answers script before)) → AreMarkedLines (time_in (newest (entry ∷ before))) → ArePlainLines (last_text trace script (entry ∷ before))
    → TellsApart (said_in (dialogue answers trace script (entry ∷ before))) (transcript trace script (entry ∷ before))
more_apart answers trace script entry before so_far asks notes time text =
    let told = apart-append _ _ [] _ (marked-apart (new_in entry before (client_next answers script before)) notes) (apart-append _ _ [] _ (marked-apart (time_in (newest (entry ∷ before))) time) (plain-apart (last_text trace script (entry ∷ before)) text)) in
    let all = apart-append _ _ (transcript trace script before) _ so_far (apart-append _ _ [] _ (marked-apart (asked_in answers script before) asks) told) in
    subst (λ output. TellsApart output (transcript trace script (entry ∷ before))) (sym (said-exchange answers trace script entry before)) all

-- the end of a run
pub end_apart : (asked summary : List ℕ) → AreMarkedLines asked → ArePlainLines summary → TellsApart (asked ++ summary) summary
end_apart asked summary asks plain = apart-append asked summary [] summary (marked-apart asked asks) (plain-apart summary plain)
