-- How the words of a run go on.
use Rattle.bench_run.proofs.Common.{◌≡◌, ◌∙◌, ◌+◌, ℕ, suc, true, List, [], ◌∷◌, length, Option, Some, None, Result, Ok, Err, refl, sym, ap, subst, arith, lit≤, IsErrAnd, cons_option, Stream, next_u64, Entry, CoreValue, IsDrawn, word_in, IsSameLog, Grows, RunResult, RunFault, Memory, LogFull, Output, NoTest, AreDrawn, HasGiven, HasLost, HasWordsOf, lost_at, may_lose, word_made, stream_after, words_drawn, log_words}

module _ {Words : Type 0} (stream : Words → Stream) where
  -- nothing was drawn
  pub drawn-none : (words : Words) → AreDrawn stream [] words words
  drawn-none words = record { words = refl; left = refl }

  -- one more entry, with its word
  pub drawn-more : (entry : Entry) (history : List Entry) (first half last : Words) → IsDrawn stream (word_in (entry ∷ history)) half last → AreDrawn stream history first half → AreDrawn stream (entry ∷ history) first last
  drawn-more entry history first half last drawn were =
      let all = go (word_in (entry ∷ history)) drawn in
      record { words = all.0; left = all.1 }
    where
      go : (word : Option ℕ) → IsDrawn stream word half last
          → (cons_option word (log_words history) ≡ words_drawn (length (cons_option word (log_words history))) (stream first)) × (stream last ≡ stream_after (length (cons_option word (log_words history))) (stream first))
      go None same = (were.words, ap stream same ∙ were.left)
      go (Some word) next =
          let from : (word, stream last) ≡ next_u64 (stream_after (length (log_words history)) (stream first)) = next ∙ ap next_u64 were.left in (
            ap (λ w. w ∷ log_words history) (ap (λ (p : ℕ × Stream). p.0) from) ∙ ap (λ ws. (next_u64 (stream_after (length (log_words history)) (stream first))).0 ∷ ws) were.words,
            ap (λ (p : ℕ × Stream). p.1) from,
          )

  -- where nothing was drawn before
  pub drawn-from : (word : Option ℕ) (first half last : Words) → half ≡ first → IsDrawn stream word half last → IsDrawn stream word first last
  drawn-from word first half last same drawn = subst (λ w. IsDrawn stream word w last) same drawn

  -- and where nothing is
  pub drawn-nothing : (word : Option ℕ) (first half last : Words) → word ≡ None → half ≡ first → last ≡ half → IsDrawn stream word first last
  drawn-nothing word first half last none same still = subst (λ w. IsDrawn stream w first last) (sym none) (still ∙ same)

  -- the log has grown by an entry, with its word
  pub drawn-grown : (old new : CoreValue) (first half last : Words) → Grows old new → IsDrawn stream (word_made true new.history) half last → AreDrawn stream old.history first half → AreDrawn stream new.history first last
  drawn-grown old new first half last grown drawn were =
      let is : new.history ≡ grown.entry ∷ old.history = ap (λ (core : CoreValue). core.history) grown.is in
      subst (λ history. AreDrawn stream history first last) (sym is) (drawn-more grown.entry old.history first half last (subst (λ history. IsDrawn stream (word_in history) half last) is drawn) were)

  -- nothing more was drawn for the same log
  pub drawn-told : (old new : CoreValue) (first half last : Words) → IsSameLog old new → last ≡ half → AreDrawn stream old.history first half → AreDrawn stream new.history first last
  drawn-told old new first half last same still were =
      subst (λ history. AreDrawn stream history first last) (sym same.history) (subst (λ w. AreDrawn stream old.history first w) (sym still) were)

  -- all that was drawn stands in the log
  pub given-all : (most : ℕ) (history : List Entry) (first last : Words) → AreDrawn stream history first last → HasGiven most history (stream first) (stream last)
  given-all most history first last drawn =
      let same : length (log_words history) ≡ 0 + length (log_words history) = omega arith in
      record { lost = 0; few = omega arith; left = drawn.left ∙ ap (λ (n : ℕ). stream_after n (stream first)) same }

  -- or but for what was lost with a fault
  pub given-lost : (fault : RunFault) (history : List Entry) (first half last : Words) → AreDrawn stream history first half → HasLost stream fault half last → HasGiven (lost_at fault) history (stream first) (stream last)
  given-lost Memory history first half last were lost = go lost.0 lost.1
    where
      one_more : suc (length (log_words history)) ≡ 1 + length (log_words history)
      one_more = omega arith

      go : (word : Option ℕ) → IsDrawn stream word half last → HasGiven 1 history (stream first) (stream last)
      go None same = given-all 1 history first last (subst (λ w. AreDrawn stream history first w) (sym same) were)
      go (Some word) next =
          let from : (word, stream last) ≡ next_u64 (stream_after (length (log_words history)) (stream first)) = next ∙ ap next_u64 were.left in
          record { lost = 1; few = lit≤ tt; left = ap (λ (p : ℕ × Stream). p.1) from ∙ ap (λ (n : ℕ). stream_after n (stream first)) one_more }
  given-lost LogFull history first half last were same = given-all 0 history first last (subst (λ w. AreDrawn stream history first w) (sym same) were)
  given-lost Output history first half last were same = given-all 0 history first last (subst (λ w. AreDrawn stream history first w) (sym same) were)
  given-lost NoTest history first half last were same = given-all 0 history first last (subst (λ w. AreDrawn stream history first w) (sym same) were)

-- the fault is that of the run
pub given-broken : (result : Result RunResult RunFault) (why : RunFault) (old new : CoreValue) (first last : Stream) → IsErrAnd result (λ told. told ≡ why) → IsSameLog old new → HasGiven (lost_at why) old.history first last → HasGiven (may_lose result) new.history first last
given-broken (Ok run_result) why old new first last told same given = absurd told
given-broken (Err fault) why old new first last told same given =
    subst (λ (history : List Entry). HasGiven (lost_at fault) history first last) (sym same.history) (subst (λ (f : RunFault). HasGiven (lost_at f) old.history first last) (sym told) given)

-- the log is the same
pub words-same : (stream : Stream) (old new : CoreValue) → IsSameLog old new → HasWordsOf stream old.history → HasWordsOf stream new.history
words-same stream old new same has = subst (HasWordsOf stream) (sym same.history) has
