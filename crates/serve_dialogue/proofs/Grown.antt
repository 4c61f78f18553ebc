-- The run after one more entry.
use Rattle.serve_dialogue.proofs.Common.{◌≡◌, ◌∙◌, ◌+◌, ℕ, Bool, true, length, Ok, List, ◌∷◌, ◌++◌, Option, Some, None, arith, refl, sym, ap, subst, cons_option, Stream, next_u64, Entry, newest, ArePlainLines, ScriptValue, MachineEntriesAreSilent, EachIsNext, IsLegal, next_of, CoreValue, IsDrawn, core_after, last_text, word_in, MadeAreNew, NobodyIsMadeTwice, OthersMakeNobody, IsRunResult, summary_of, transcript, AreDrawn, HasWordsOf, log_words, stream_after, word_made, words_drawn, RunResult, count_after, TypeValue, rules_named, RuleValue, SeatsValue, AreMarkedLines, TellsApart, AreTold, answer_of, asked_in, dialogue, exchange, lines_answered, lines_of, new_in, time_in, told_last, call_of_passage, AreByScript, AreSeated, IsByScript, client_next, NeedFollows, SeatsFollow, IsServed, SpokeLog, Spoken, answered, said, said_in, Grows, HasEndedRun}
use Rattle.bench_history.specs.Cases as next
use Rattle.serve_dialogue.proofs.ApartLines.{end_apart, more_apart}
use Rattle.serve_dialogue.proofs.Seated.{seats_follow}

-- the answers of the types stay
pub follow_answers : (history : List Entry) (comes : next.Next) (old new : SeatsValue) → SeatsFollow history comes old new → new.answers ≡ old.answers
follow_answers history (next.Answer hearer call origin) old new follow = follow.answers
follow_answers history (next.Need need made performer act) old new follow = go (rules_named old.answers need.type_name) follow
  where
    go : (rules : Option (List RuleValue)) → NeedFollows history need made performer act old new rules → new.answers ≡ old.answers
    go None same = ap (λ (s : SeatsValue). s.answers) same
    go (Some rules) taken = taken.2.answers
follow_answers history (next.Exactly entry) old new follow = ap (λ (s : SeatsValue). s.answers) follow
follow_answers history (next.Grant sequencer drawn chosen) old new follow = ap (λ (s : SeatsValue). s.answers) follow
follow_answers history next.Nothing old new follow = ap (λ (s : SeatsValue). s.answers) follow

-- more lines were read
count-more : (first count more : ℕ) → count_after (count_after first count) more ≡ count_after first (count + more)
count-more first count more = omega arith

module _ {C : Type 0} (spoke : C → C → List Spoken → Type 0) (ended : C → C → Type 0) (line : C → ℕ) (answers : List TypeValue) (script : ScriptValue) (trace : Bool) (old new : CoreValue) (same_script : old.script ≡ script) where
  -- the history of the entry
  abbrev pub IsGrown : C → C → List ℕ → Type 0
  IsGrown client client' left = Grows spoke ended line answers old new client client' left

  grown-history : (client client' : C) (left : List ℕ) (grows : IsGrown client client' left) → new.history ≡ grows.entry ∷ old.history
  grown-history client client' left grows = ap (λ (c : CoreValue). c.history) grows.is

  pub told_more : (client client' : C) (left : List ℕ) → IsGrown client client' left → AreTold answers script old.history → AreTold answers script new.history
  told_more client client' left grows told =
      subst (AreTold answers script) (sym (grown-history client client' left grows))
      (subst (λ (s : ScriptValue). AreTold answers s (grows.entry ∷ old.history)) same_script (grows.told, subst (λ (s : ScriptValue). AreTold answers s old.history) (sym same_script) told))

  pub script_more : (client client' : C) (left : List ℕ) → IsGrown client client' left → AreByScript answers script old.history → AreByScript answers script new.history
  script_more client client' left grows before =
      subst (AreByScript answers script) (sym (grown-history client client' left grows))
      (subst (λ (s : ScriptValue). AreByScript answers s (grows.entry ∷ old.history)) same_script (grows.by_script, subst (λ (s : ScriptValue). AreByScript answers s old.history) (sym same_script) before))

  pub apart_more : (client client' : C) (left : List ℕ) → IsGrown client client' left → AreMarkedLines (time_in (newest new.history)) → ArePlainLines (last_text trace new.script new.history)
      → TellsApart (said_in (dialogue answers trace script old.history)) (transcript trace script old.history) → TellsApart (said_in (dialogue answers trace script new.history)) (transcript trace script new.history)
  apart_more client client' left grows time text before =
      let history = grown-history client client' left grows in
      let named : new.script ≡ script = ap (λ (c : CoreValue). c.script) grows.is ∙ same_script in
      subst (λ (h : List Entry). TellsApart (said_in (dialogue answers trace script h)) (transcript trace script h)) (sym history)
      (more_apart answers trace script grows.entry old.history before
      (subst (λ (s : ScriptValue). AreMarkedLines (asked_in answers s old.history)) same_script grows.asks)
      (subst (λ (s : ScriptValue). AreMarkedLines (new_in grows.entry old.history (client_next answers s old.history))) same_script (subst AreMarkedLines grows.left_is grows.notes))
      (subst (λ (h : List Entry). AreMarkedLines (time_in (newest h))) history time)
      (subst (λ (s : ScriptValue). ArePlainLines (last_text trace s (grows.entry ∷ old.history))) named (subst (λ (h : List Entry). ArePlainLines (last_text trace new.script h)) history text)))

  pub spoke_more : ((first half last : C) (front back : List Spoken) → spoke first half front → spoke half last back → spoke first last (front ++ back)) → (first client client' last : C) (left : List ℕ) → IsGrown client client' left
      → spoke client' last (said (left ++ told_last trace new.script new.history)) → line last ≡ line client' → SpokeLog spoke ended line answers script trace old.history first client → SpokeLog spoke ended line answers script trace new.history first last
  spoke_more joined first client client' last left grows told still before =
      let history = grown-history client client' left grows in
      let named : new.script ≡ script = ap (λ (c : CoreValue). c.script) grows.is ∙ same_script in
      let asked = said (asked_in answers old.script old.history) in
      let given = answered (answer_of (client_next answers old.script old.history) grows.entry) in
      let told_so : spoke client' last (said (call_of_passage answers trace script grows.entry old.history)) =
      subst (λ text. spoke client' last (said text)) (
      ap (λ text. text ++ told_last trace new.script new.history) grows.left_is
      ∙ ap (λ (s : ScriptValue). new_in grows.entry old.history (client_next answers s old.history) ++ told_last trace new.script new.history) same_script
      ∙ ap (λ (s : ScriptValue). new_in grows.entry old.history (client_next answers script old.history) ++ told_last trace s new.history) named
      ∙ ap (λ (h : List Entry). new_in grows.entry old.history (client_next answers script old.history) ++ told_last trace script h) history
      ) told in
      let one : spoke client client' (said (asked_in answers script old.history) ++ answered (answer_of (client_next answers script old.history) grows.entry)) =
      subst (λ (s : ScriptValue). spoke client client' (said (asked_in answers s old.history) ++ answered (answer_of (client_next answers s old.history) grows.entry))) same_script grows.talk in
      let both : spoke client last (exchange answers trace script grows.entry old.history) = joined client client' last _ (said (call_of_passage answers trace script grows.entry old.history)) one told_so in
      record {
        talk = subst (λ (h : List Entry). spoke first last (dialogue answers trace script h)) (sym history) (joined first client last (dialogue answers trace script old.history) (exchange answers trace script grows.entry old.history) before.talk both);
        lines =
            still ∙ (grows.lines ∙ (ap (λ count. count_after count (lines_of (client_next answers old.script old.history) grows.entry)) before.lines
            ∙ (count-more (line first) (lines_answered answers script old.history) (lines_of (client_next answers old.script old.history) grows.entry)
            ∙ (ap (λ (s : ScriptValue). count_after (line first) (lines_answered answers script old.history + lines_of (client_next answers s old.history) grows.entry)) same_script
            ∙ ap (λ (h : List Entry). count_after (line first) (lines_answered answers script h)) (sym history)))));
      }

  pub seated_more : MachineEntriesAreSilent → MadeAreNew → OthersMakeNobody → NobodyIsMadeTwice → (client client' : C) (left : List ℕ) → IsGrown client client' left → EachIsNext new.script new.history → (seats later : SeatsValue)
      → seats.answers ≡ answers → AreSeated old.script old.history seats → SeatsFollow old.history (next_of old.script old.history) seats later → AreSeated new.script new.history later
  seated_more silent made others once client client' left grows each seats later same seated follow =
      let all : EachIsNext old.script (grows.entry ∷ old.history) = subst (λ (c : CoreValue). EachIsNext c.script c.history) grows.is each in
      subst (λ (c : CoreValue). AreSeated c.script c.history later) (sym grows.is)
      (seats_follow silent made others once old.script old.history grows.entry seats later all seated follow (subst (λ (a : List TypeValue). IsByScript a old.script old.history (next_of old.script old.history) grows.entry) (sym same) grows.by_script))

-- one more random number was drawn, or none
module _ {Words : Type 0} (stream : Words → Stream) where
  drawn-step : (entry : Entry) (before : List Entry) (first half last : Words) (word : Option ℕ) → word_in (entry ∷ before) ≡ word → AreDrawn stream before first half → IsDrawn stream word half last → AreDrawn stream (entry ∷ before) first last
  drawn-step entry before first half last None none drawn same =
      let words : log_words (entry ∷ before) ≡ log_words before = ap (λ w. cons_option w (log_words before)) none in
      record {
        words = subst (λ ws. ws ≡ words_drawn (length ws) (stream first)) (sym words) drawn.words;
        left = ap stream same ∙ (drawn.left ∙ ap (λ ws. stream_after (length ws) (stream first)) (sym words));
      }
  drawn-step entry before first half last (Some word) some drawn given =
      let words : log_words (entry ∷ before) ≡ word ∷ log_words before = ap (λ w. cons_option w (log_words before)) some in
      let next : (word, stream last) ≡ next_u64 (stream_after (length (log_words before)) (stream first)) = given ∙ ap next_u64 drawn.left in
      record {
        words = subst (λ ws. ws ≡ words_drawn (length ws) (stream first)) (sym words) (ap (λ (pair : ℕ × Stream). pair.0 ∷ log_words before) next ∙ ap (λ ws. (next_u64 (stream_after (length (log_words before)) (stream first))).0 ∷ ws) drawn.words);
        left = subst (λ ws. stream last ≡ stream_after (length ws) (stream first)) (sym words) (ap (λ (pair : ℕ × Stream). pair.1) next);
      }

  pub drawn_more : (old new : CoreValue) (entry : Entry) → new ≡ core_after entry old → (first half last : Words) → AreDrawn stream old.history first half → IsDrawn stream (word_made true new.history) half last → AreDrawn stream new.history first last
  drawn_more old new entry is first half last drawn given =
      let history : new.history ≡ entry ∷ old.history = ap (λ (c : CoreValue). c.history) is in
      subst (λ (h : List Entry). AreDrawn stream h first last) (sym history)
      (drawn-step entry old.history first half last (word_in (entry ∷ old.history)) refl drawn (subst (λ (h : List Entry). IsDrawn stream (word_in h) half last) history given))

-- the run as a whole
pub served_whole : {C : Type 0} (spoke : C → C → List Spoken → Type 0) (ended : C → C → Type 0) (line : C → ℕ) (answers : List TypeValue)
    → ((first half last : C) (front back : List Spoken) → spoke first half front → spoke half last back → spoke first last (front ++ back)) → (stream : Stream) (script : ScriptValue) (trace : Bool) (old new : CoreValue) (first client client' last : C) (run_result : RunResult)
    → old.script ≡ script → IsLegal old.script old.history → HasWordsOf stream old.history → AreTold answers script old.history → AreByScript answers script old.history → TellsApart (said_in (dialogue answers trace script old.history)) (transcript trace script old.history)
    → spoke first client (dialogue answers trace script old.history) → HasEndedRun spoke ended line answers old new client client' → spoke client' last (said (summary_of new.script new.history)) → ArePlainLines (summary_of new.script new.history)
    → IsRunResult run_result new.script new.history → IsServed spoke ended line answers stream script trace first last (Ok run_result)
served_whole spoke ended line answers joined stream script trace old new first client client' last run_result same legal words told by_script apart talk ends summed plain run_result_is =
    let names : new.script ≡ script = ap (λ (c : CoreValue). c.script) ends.is ∙ same in
    let history : new.history ≡ old.history = ap (λ (c : CoreValue). c.history) ends.is in
    let summary : summary_of new.script new.history ≡ summary_of script old.history = ap (λ (s : ScriptValue). summary_of s new.history) names ∙ ap (summary_of script) history in
    let asked : asked_in answers old.script old.history ≡ asked_in answers script old.history = ap (λ (s : ScriptValue). asked_in answers s old.history) same in
    let asked_so : spoke client client' (said (asked_in answers script old.history)) = subst (λ text. spoke client client' (said text)) asked ends.talk in
    let summed_so : spoke client' last (said (summary_of script old.history)) = subst (λ text. spoke client' last (said text)) summary summed in
    record {
      history = old.history;
      legal = subst (λ (s : ScriptValue). IsLegal s old.history) same legal;
      words = words;
      told = told;
      by_script = by_script;
      apart = apart;
      leaves = (
        subst (λ (s : ScriptValue). IsRunResult run_result s old.history) names (subst (λ (h : List Entry). IsRunResult run_result new.script h) history run_result_is),
        joined first client' last (dialogue answers trace script old.history ++ said (asked_in answers script old.history)) (said (summary_of script old.history))
            (joined first client client' (dialogue answers trace script old.history) (said (asked_in answers script old.history)) talk asked_so) summed_so,
        end_apart (asked_in answers script old.history) (summary_of script old.history) (subst AreMarkedLines asked ends.asks) (subst ArePlainLines summary plain),
      );
    }
