-- Questions and notices are printed lines that begin as such.
use Rattle.serve_dialogue.proofs.Common.{◌≡◌, ◌∙◌, ℕ, true, List, [], ◌∷◌, ◌++◌, Some, Result, Ok, Err, OnOk, ap, refl, subst, sym, codes, decimal, flat_map, list_all, and_from, flat_map-append, list_all-append, Kind, Who, Call, Entry, Time, path_text, IsPrinted, is_printed_byte, call_text, who_text, line, nodes_of, sequences_of, AreMarkedLines, is_marked, is_marked_line, ask_line, back_line, kind_and_who, kind_of, kind_word, need_line, new_line, time_in, append-nil}
use Rattle.uvm_factory.specs.declared.types.Kind.TheVariants as kind
use Rattle.bench_history.specs.declared.needs.Need as declared

pub marked-none : AreMarkedLines []
marked-none = record { lines = []; marked = refl; joined = refl }

marked-one : (text : List ℕ) → IsPrinted text → is_marked text ≡ true → AreMarkedLines (line text)
marked-one text printed begins = record {
  lines = text ∷ [];
  marked = and_from (is_marked_line text) true (and_from (list_all is_printed_byte text) (is_marked text) printed begins) refl;
  joined = append-nil (line text);
}

pub marked-append : (front back : List ℕ) → AreMarkedLines front → AreMarkedLines back → AreMarkedLines (front ++ back)
marked-append front back one more = record {
  lines = one.lines ++ more.lines;
  marked = list_all-append is_marked_line one.lines more.lines ∙ and_from (list_all is_marked_line one.lines) (list_all is_marked_line more.lines) one.marked more.marked;
  joined = flat_map-append line one.lines more.lines ∙ ap (λ text. text ++ flat_map line more.lines) one.joined ∙ ap (λ text. front ++ text) more.joined;
}

kind_word-printed : (one : Kind) → IsPrinted (kind_word one)
kind_word-printed kind.Component = refl
kind_word-printed kind.Sequence = refl

pub who-printed : (history : List Entry) (one : Who) → IsPrinted (who_text (nodes_of history) (sequences_of history) one) → IsPrinted (kind_and_who history one)
who-printed history one printed = simp (list_all-append, kind_word-printed (kind_of one), printed)

abbrev need_words : declared.Need → List ℕ
need_words need = codes "? need " ++ kind_word need.kind ++ need.type_name ++ 32 ∷ path_text need.path

need_words-printed : (need : declared.Need) → IsPrinted need.type_name → IsPrinted (path_text need.path) → IsPrinted (need_words need)
need_words-printed need name place = simp (list_all-append, kind_word-printed need.kind, name, place)

pub need-marked : (need : declared.Need) → IsPrinted need.type_name → IsPrinted (path_text need.path) → AreMarkedLines (need_line need)
need-marked need name place = marked-one (need_words need) (need_words-printed need name place) refl

abbrev ask_words : List Entry → Who → Call → List ℕ
ask_words history hearer call = codes "? ask " ++ kind_and_who history hearer ++ 32 ∷ call_text call

ask_words-printed : (history : List Entry) (hearer : Who) (call : Call) → IsPrinted (kind_and_who history hearer) → IsPrinted (call_text call) → IsPrinted (ask_words history hearer call)
ask_words-printed history hearer call one asked = simp (list_all-append, one, asked)

pub ask-marked : (history : List Entry) (hearer : Who) (call : Call) → IsPrinted (kind_and_who history hearer) → IsPrinted (call_text call) → AreMarkedLines (ask_line history hearer call)
ask-marked history hearer call one asked = marked-one (ask_words history hearer call) (ask_words-printed history hearer call one asked) refl

pub back-marked : (history : List Entry) (one : Who) → IsPrinted (kind_and_who history one) → AreMarkedLines (back_line history one)
back-marked history one printed = marked-one (codes "! back " ++ kind_and_who history one) printed refl

pub new-marked : (history : List Entry) (one : Who) → IsPrinted (kind_and_who history one) → AreMarkedLines (new_line history (Some one))
new-marked history one printed = marked-one (codes "! new " ++ kind_and_who history one) printed refl

pub time-marked : (time : ℕ) → IsPrinted (decimal time) → AreMarkedLines (time_in (Some (Time time)))
time-marked time printed = marked-one (codes "! time " ++ decimal time) printed refl

-- by which lines a text is questions and notices
pub ruleset marked = (marked-none, marked-append, who-printed, need-marked, ask-marked, back-marked, new-marked, time-marked)

-- a line more, if memory suffices
pub more_marked : {A E : Type 0} (result : Result A E) (old new more : List ℕ) → OnOk result (new ≡ old ++ more) → OnOk result (AreMarkedLines more) → OnOk result (AreMarkedLines old → AreMarkedLines new)
more_marked (Ok value) old new more is marks = λ before. subst AreMarkedLines (sym is) (marked-append old more before marks)
more_marked (Err error) old new more is marks = tt
