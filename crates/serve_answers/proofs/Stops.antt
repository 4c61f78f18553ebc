-- Where the reading of actions stops.
use Rattle.std.proofs.Common.{◌≡◌, ◌+◌, ◌≤◌, ℕ, List, [], ◌∷◌, ◌++◌, All, Option, Some, None, IfSome, OnSome, is_none, false, length, length-append, refl, sym, ap, subst, ◌∙◌, arith}
use Rattle.std.specs.List.{flat_map}
use Rattle.std.specs.Io.KnownBytes.{Consumes, IsAtEnd}
use Rattle.std.proofs.KnownBytes.{Consumes-trans}
use Rattle.std.proofs.lemmas.List.{flat_map_more}
use Rattle.std.proofs.lemmas.List.Elements.{All-push}
use Rattle.uvm_acts.specs.declared.acts.Act.{Act}
use Rattle.serve_answers.specs.Lines.{HasEnded}
use Rattle.serve_answers.specs.declared.lines.errors.LineError.TheVariants.{TooLong, Ended, Unreadable, Memory}
use Rattle.serve_answers.specs.Answers.{BreaksOff, HasStopped, IsTellingAct, IsStop, act_row, count_after}
use Rattle.serve_answers.specs.declared.errors.AnswerError.{AnswerError}
use Rattle.serve_answers.specs.declared.errors.AnswerError.TheVariants.{NoAct, NeitherMadeNorDeclined, TooManyActs, Unread}

-- bytes that are known at the start are known later
on-some-before : (old mid : Option (List ℕ)) (bs : List ℕ) (P : Type 0) → Consumes old mid bs → OnSome mid P → OnSome old P
on-some-before None mid bs P gone holds = tt
on-some-before (Some all) None bs P gone holds = absurd gone
on-some-before (Some all) (Some rest) bs P gone holds = holds

-- why it stops at an action, it stops behind others
stop-after : (error : AnswerError) (count : ℕ) (text bs : List ℕ) (old mid new : Option (List ℕ)) → Consumes old mid bs → IsStop error 0 text (HasEnded mid new) → IsStop error count text (HasEnded old new)
stop-after (NoAct number) count text bs old mid new gone why = why
stop-after (TooManyActs number) count text bs old mid new gone why = absurd (omega (arith, why.0))
stop-after (NeitherMadeNorDeclined number) count text bs old mid new gone why = absurd why
stop-after (Unread number TooLong) count text bs old mid new gone why = why
stop-after (Unread number Ended) count text bs old mid new gone why = (why.0, (why.1.0, on-some-before old mid bs (IsAtEnd new) gone why.1.1))
stop-after (Unread number Unreadable) count text bs old mid new gone why = why
stop-after (Unread number Memory) count text bs old mid new gone why = tt

-- one line more
count-more : (count some new old : ℕ) → new ≡ count_after old some → count ≡ count_after new 1 → count ≡ count_after old (some + 1)
count-more count some new old before after = omega (arith, before, after)

pub breaks_off : (error : AnswerError) (acts : List Act) (old mid new : Option (List ℕ)) (count between count' : ℕ)
    → All IsTellingAct acts → length acts ≤ 1000 → Consumes old mid (flat_map act_row acts) → between ≡ count_after count (length acts)
    → HasStopped error (Consumes mid new) (HasEnded mid new) → count' ≡ count_after between 1 → BreaksOff error (Consumes old new) (HasEnded old new) count count'
breaks_off error acts old mid new count between count' alone few gone before stopped after =
    record {
      acts = acts;
      text = stopped.text;
      alone = alone;
      few = few;
      gone = Consumes-trans old mid new (flat_map act_row acts) stopped.text gone stopped.gone;
      why = stop-after error (length acts) stopped.text (flat_map act_row acts) old mid new gone stopped.why;
      line = count-more count' (length acts) between count before after;
    }

-- what holds of what an option has
pub given : {A : Type 0} (P : A → Type 0) (found : Option A) (one : A) → found ≡ Some one → IfSome found P → P one
given P found one is holds = subst (λ (o : Option _). IfSome o P) is holds

-- the actions of some rows, and of one row more
pub record IsRead (acts : List Act) (old new : Option (List ℕ)) (count count' : ℕ) : Type 0 where
  pub alone : All IsTellingAct acts
  pub gone : Consumes old new (flat_map act_row acts)
  pub line : count' ≡ count_after count (length acts)

pub one_more : (acts acts' : List Act) (act : Act) (old mid new : Option (List ℕ)) (count between count' : ℕ) → acts' ≡ acts ++ act ∷ []
    → All IsTellingAct acts → Consumes old mid (flat_map act_row acts) → between ≡ count_after count (length acts)
    → IsTellingAct act → Consumes mid new (act_row act) → count' ≡ count_after between 1 → IsRead acts' old new count count'
one_more acts acts' act old mid new count between count' is alone gone before one row after =
    record {
      alone = subst (All IsTellingAct) (sym is) (All-push IsTellingAct acts act alone one);
      gone = subst (λ all. Consumes old new (flat_map act_row all)) (sym is)
          (subst (Consumes old new) (flat_map_more act_row [] acts act) (Consumes-trans old mid new (flat_map act_row acts) (act_row act) gone row));
      line = subst (λ (all : List Act). count' ≡ count_after count (length all)) (sym is)
          (count-more count' (length acts) between count before after ∙ ap (λ n. count_after count n) (sym (length-append acts (act ∷ []))));
    }

-- memory runs out for an action
pub no_memory : (error : AnswerError) (number : ℕ) (acts : List Act) (act : Act) (old mid new : Option (List ℕ)) (count between count' : ℕ) → error ≡ Unread number Memory
    → All IsTellingAct acts → length acts ≤ 1000 → Consumes old mid (flat_map act_row acts) → between ≡ count_after count (length acts)
    → Consumes mid new (act_row act) → count' ≡ count_after between 1 → BreaksOff error (Consumes old new) (HasEnded old new) count count'
no_memory error number acts act old mid new count between count' is alone few gone before row after =
    breaks_off error acts old mid new count between count' alone few gone before
    (record { text = act_row act; gone = row; why = subst (λ e. IsStop e 0 (act_row act) (HasEnded mid new)) (sym is) tt }) after

-- one action too many
pub too_many : (number : ℕ) (acts : List Act) (next : Option Act) (old mid new : Option (List ℕ)) (count between count' : ℕ) → is_none next ≡ false
    → All IsTellingAct acts → length acts ≡ 1000 → Consumes old mid (flat_map act_row acts) → between ≡ count_after count (length acts)
    → IfSome next IsTellingAct → IfSome next (λ act. Consumes mid new (act_row act)) → count' ≡ count_after between 1 → BreaksOff (TooManyActs number) (Consumes old new) (HasEnded old new) count count'
too_many number acts None old mid new count between count' some alone all gone before one row after = cc
too_many number acts (Some act) old mid new count between count' some alone all gone before one row after =
    record {
      acts = acts;
      text = act_row act;
      alone = alone;
      few = omega (arith, all);
      gone = Consumes-trans old mid new (flat_map act_row acts) (act_row act) gone row;
      why = (all, record { act = act; is = refl; alone = one });
      line = count-more count' (length acts) between count before after;
    }
