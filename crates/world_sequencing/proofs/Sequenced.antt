-- The sequences that were started, with one more entry.
use Rattle.world_sequencing.proofs.Common.{◌≡◌, ◌≤◌, ◌==◌, ℕ, suc, zero, Bool, true, false, not, ◌&&◌, List, [], ◌∷◌, ◌++◌, length, filter, slice_get, Option, Some, None, is_some, option_map, option_and_then, refl, ap, sym, ◌∙◌, subst, arith, if◌then◌else◌, list_any, option_map_or, nat_tests, All-nil, All-cons, All-head, All-tail, All-weaker, list_any_none, Phase, SeqStep, PreStart, Body, PostStart, StepsChangeAlone, SequencesValue, Start, numbered, step_after, step_at, with_step, Who, StartRecord, all_steps, is_over_phase, is_sequence, sequence_in, Object, is_of_one, same_who, number_of, IsSequencing, IsStarter, live_by, lives_by, step_by, steps_ended, is_told, All}
use Rattle.world_sequencing.proofs.Starters.{has-parent}
use Rattle.world_sequencing.proofs.Numbered.{numbered-within}
use Rattle.uvm_sequences.specs.Sequences as service
use Rattle.uvm_acts.specs.declared.acts.Who.TheVariants as who
use Rattle.world_sequencing.specs.declared.start_records.StartRecord as kept

-- no sequence was started yet
pub sequencing-first : {sequences : SequencesValue} → sequences.started ≡ [] → sequences.steps ≡ [] → IsSequencing [] [] [] [] sequences []
sequencing-first started steps = record {
  started = started;
  many = ap length steps;
  are = refl;
  steps = λ id. ap (λ (list : List (Option SeqStep)). step_at list id) steps;
  living = λ id. ap (λ (list : List (Option SeqStep)). is_some (step_at list id)) steps;
  finished_within = All-nil _;
  enders_within = All-nil _;
  starters = tt;
}

-- what has the same sequences is as good
pub sequencing-same :
    {begun : List StartRecord} {finished : List Who} {ended : List Phase} {enders : List Who} {old : SequencesValue} {start_records : List kept.StartRecord} (new : SequencesValue) (others : List kept.StartRecord)
    → (new.started ≡ old.started) × (new.steps ≡ old.steps) → others ≡ start_records
    → IsSequencing begun finished ended enders old start_records → IsSequencing begun finished ended enders new others
sequencing-same new others same items s = record {
  started = same.0 ∙ s.started;
  many = ap length same.1 ∙ s.many;
  are = items ∙ s.are;
  steps = λ id. ap (λ (steps : List (Option SeqStep)). step_at steps id) same.1 ∙ s.steps id;
  living = λ id. ap (λ (steps : List (Option SeqStep)). is_some (step_at steps id)) same.1 ∙ s.living id;
  finished_within = s.finished_within;
  enders_within = s.enders_within;
  starters = s.starters;
}

pub length-step : (id : ℕ) (step : Option SeqStep) (steps : List (Option SeqStep)) → length (with_step id step steps) ≡ length steps
length-step id step [] = refl
length-step id step (other ∷ older) = tested (id == length (other ∷ older)) (length-step id step older)
  where
    tested : (same : Bool) → length (with_step id step older) ≡ length older → length (if same then step ∷ older else other ∷ with_step id step older) ≡ length (other ∷ older)
    tested true e = refl
    tested false e = ap suc e

-- the step of a sequence, where one has come to another
pub step-changed : StepsChangeAlone → (steps : List (Option SeqStep)) (id : ℕ) (step : Option SeqStep) (other : ℕ) → step_at (with_step id step steps) other ≡ (if other == id then option_and_then (λ _. step) (numbered steps other) else step_at steps other)
step-changed alone steps id step other = ap (option_and_then (λ step. step)) (alone steps id step other) ∙ tested (other == id)
  where
    mapped : (found : Option (Option SeqStep)) → option_and_then (λ step. step) (option_map (λ _. step) found) ≡ option_and_then (λ _. step) found
    mapped None = refl
    mapped (Some old) = refl

    tested : (same : Bool) → option_and_then (λ step. step) (if same then option_map (λ _. step) (numbered steps other) else numbered steps other) ≡ (if same then option_and_then (λ _. step) (numbered steps other) else step_at steps other)
    tested true = mapped (numbered steps other)
    tested false = refl

found-step : (found : Option (Option SeqStep)) (old : SeqStep) (step : Option SeqStep) → option_and_then (λ step. step) found ≡ Some old → option_and_then (λ _. step) found ≡ step
found-step None old step e = cc
found-step (Some before) old step e = refl

next-listed : (n : ℕ) (old : SeqStep) → slice_get all_steps n ≡ Some old → slice_get all_steps (suc n) ≡ step_after old
next-listed zero old e = let same : PreStart ≡ old = cc in ap step_after same
next-listed (suc zero) old e = let same : Body ≡ old = cc in ap step_after same
next-listed (suc (suc zero)) old e = let same : PostStart ≡ old = cc in ap step_after same
next-listed (suc (suc (suc n))) old e = cc

-- one of the steps of a sequence has ended
module _ {begun : List StartRecord} {finished : List Who} {ended : List Phase} {enders : List Who} {old : SequencesValue} {start_records : List kept.StartRecord} (s : IsSequencing begun finished ended enders old start_records) where
  pub sequencing-stepped :
      StepsChangeAlone → (id home : ℕ) (before step : SeqStep) → step_at old.steps id ≡ Some before → step_after before ≡ Some step → id ≤ length begun
      → IsSequencing begun finished ended (who.Sequence home id ∷ enders) (record old { steps = with_step id (Some step) old.steps }) start_records
  sequencing-stepped alone id home before step at next low = record {
    started = s.started;
    many = length-step id (Some step) old.steps ∙ s.many;
    are = s.are;
    steps = λ other. step-changed alone old.steps id (Some step) other ∙ changed other (other == id) refl;
    living = λ other. ap is_some (step-changed alone old.steps id (Some step) other) ∙ lives other (other == id) refl;
    finished_within = s.finished_within;
    enders_within = All-cons (λ (who : Who). number_of who ≤ length begun) (who.Sequence home id) enders low s.enders_within;
    starters = s.starters;
  }
    where
      at-it : (other : ℕ) → (other == id) ≡ true → other ≡ id
      at-it other e = grind (arith, nat_tests)

      lived : live_by begun finished ended id ≡ true
      lived = sym (s.living id) ∙ ap is_some at

      listed : slice_get all_steps (steps_ended enders id) ≡ Some before
      listed = let e : step_by begun finished ended enders id ≡ Some before = sym (s.steps id) ∙ at in (rw lived at e)

      more : (b : Bool) → b ≡ true → length (if b then who.Sequence home id ∷ filter (is_sequence id) enders else filter (is_sequence id) enders) ≡ suc (steps_ended enders id)
      more true e = refl
      more false e = cc

      itself : (n : ℕ) → (n == n) ≡ true
      itself n = grind (arith, nat_tests)

      here : Some step ≡ step_by begun finished ended (who.Sequence home id ∷ enders) id
      here = rw (lived, more (id == id) (itself id)) (sym (next-listed (steps_ended enders id) before listed ∙ next))

      fewer : (other : ℕ) → (id == other) ≡ false → steps_ended (who.Sequence home id ∷ enders) other ≡ steps_ended enders other
      fewer other e = rw e refl

      changed : (other : ℕ) (same : Bool) → (other == id) ≡ same → (if same then option_and_then (λ _. Some step) (numbered old.steps other) else step_at old.steps other) ≡ step_by begun finished ended (who.Sequence home id ∷ enders) other
      changed other true e =
          let is : id ≡ other = sym (at-it other e) in
          subst (λ (n : ℕ). option_and_then (λ _. Some step) (numbered old.steps n) ≡ step_by begun finished ended (who.Sequence home id ∷ enders) n) is (found-step (numbered old.steps id) before (Some step) at ∙ here)
      changed other false e =
          let apart : (id == other) ≡ false = grind (arith, nat_tests) in
          s.steps other ∙ ap (λ (n : ℕ). if live_by begun finished ended other then slice_get all_steps n else None) (sym (fewer other apart))

      lives : (other : ℕ) (same : Bool) → (other == id) ≡ same → is_some (if same then option_and_then (λ _. Some step) (numbered old.steps other) else step_at old.steps other) ≡ live_by begun finished ended other
      lives other true e =
          let is : id ≡ other = sym (at-it other e) in
          subst (λ (n : ℕ). is_some (option_and_then (λ _. Some step) (numbered old.steps n)) ≡ live_by begun finished ended n) is (ap is_some (found-step (numbered old.steps id) before (Some step) at) ∙ sym lived)
      lives other false e = s.living other

  -- who lives was started
  pub started-within : (id : ℕ) (step : SeqStep) → step_at old.steps id ≡ Some step → (start_record : StartRecord) × (numbered begun id ≡ Some start_record) × (lives_by finished ended id start_record ≡ true)
  started-within id step at = found (numbered begun id) refl (sym (s.living id) ∙ ap is_some at)
    where
      found : (one : Option StartRecord) → numbered begun id ≡ one → option_map_or (lives_by finished ended id) one false ≡ true → (start_record : StartRecord) × (numbered begun id ≡ Some start_record) × (lives_by finished ended id start_record ≡ true)
      found None is e = cc
      found (Some start_record) is e = (start_record, is, e)

  pub sequencing-step :
      StepsChangeAlone → (performer : Who) (id : ℕ) (step : SeqStep) → sequence_in performer ≡ Some id → option_and_then step_after (step_at old.steps id) ≡ Some step
      → IsSequencing begun finished ended (performer ∷ enders) (record old { steps = with_step id (Some step) old.steps }) start_records
  sequencing-step alone (who.Node node) id step e next = cc
  sequencing-step alone (who.Sequence home other) id step e next =
      let same : other ≡ id = cc in
      subst (λ (n : ℕ). IsSequencing begun finished ended (who.Sequence home n ∷ enders) (record old { steps = with_step id (Some step) old.steps }) start_records) (sym same) (was (step_at old.steps id) refl next)
    where
      was : (found : Option SeqStep) → step_at old.steps id ≡ found → option_and_then step_after found ≡ Some step → IsSequencing begun finished ended (who.Sequence home id ∷ enders) (record old { steps = with_step id (Some step) old.steps }) start_records
      was None is e = cc
      was (Some before) is e =
          let b = started-within id before is in
          sequencing-stepped alone id home before step is e (numbered-within begun id b.0 b.1)

  -- one has finished
  module _ (alone : StepsChangeAlone) (id : ℕ) (start_record : StartRecord) (found : numbered begun id ≡ Some start_record) (lives : lives_by finished ended id start_record ≡ true) where
    itself-is : (n : ℕ) → (n == n) ≡ true
    itself-is n = grind (arith, nat_tests)

    dead : live_by begun (who.Sequence start_record.start.home id ∷ finished) ended id ≡ false
    dead = rw (found, itself-is id, itself-is start_record.start.home) refl

    others-live : (other : ℕ) → (other == id) ≡ false → (one : Option StartRecord) → option_map_or (lives_by (who.Sequence start_record.start.home id ∷ finished) ended other) one false ≡ option_map_or (lives_by finished ended other) one false
    others-live other e None = refl
    others-live other e (Some b) = rw e refl

    none-there : (one : Option (Option SeqStep)) (step : Option SeqStep) → step ≡ None → option_and_then (λ _. step) one ≡ None
    none-there None step e = refl
    none-there (Some old) step e = e

    pub sequencing-finished : IsSequencing begun (who.Sequence start_record.start.home id ∷ finished) ended enders (service.finished id old) start_records
    sequencing-finished = record {
      started = s.started;
      many = length-step id None old.steps ∙ s.many;
      are = s.are;
      steps = λ other. step-changed alone old.steps id None other ∙ changed other (other == id) refl;
      living = λ other. ap is_some (step-changed alone old.steps id None other) ∙ left other (other == id) refl;
      finished_within = All-cons (λ (who : Who). number_of who ≤ length begun) (who.Sequence start_record.start.home id) finished (numbered-within begun id start_record found) s.finished_within;
      enders_within = s.enders_within;
      starters = s.starters;
    }
      where
        changed : (other : ℕ) (same : Bool) → (other == id) ≡ same → (if same then option_and_then (λ _. None) (numbered old.steps other) else step_at old.steps other) ≡ step_by begun (who.Sequence start_record.start.home id ∷ finished) ended enders other
        changed other true e =
            let is : id ≡ other = grind (arith, nat_tests) in
            subst (λ (n : ℕ). option_and_then (λ _. None) (numbered old.steps n) ≡ step_by begun (who.Sequence start_record.start.home id ∷ finished) ended enders n) is (none-there (numbered old.steps id) None refl ∙ rw dead refl)
        changed other false e = s.steps other ∙ ap (λ (b : Bool). if b then slice_get all_steps (steps_ended enders other) else None) (sym (others-live other e (numbered begun other)))

        left : (other : ℕ) (same : Bool) → (other == id) ≡ same → is_some {T = SeqStep} (if same then option_and_then (λ _. None) (numbered old.steps other) else step_at old.steps other) ≡ live_by begun (who.Sequence start_record.start.home id ∷ finished) ended other
        left other true e =
            let is : id ≡ other = grind (arith, nat_tests) in
            subst (λ (n : ℕ). is_some {T = SeqStep} (option_and_then (λ _. None) (numbered old.steps n)) ≡ live_by begun (who.Sequence start_record.start.home id ∷ finished) ended n) is (ap (is_some {T = SeqStep}) (none-there (numbered old.steps id) None refl) ∙ sym dead)
        left other false e = s.living other ∙ sym (others-live other e (numbered begun other))

    runs-on : (a b : Bool) → a && not b ≡ true → b ≡ false
    runs-on true true e = cc
    runs-on true false e = refl
    runs-on false b e = cc

    -- who started it is told, unless he has finished
    pub starter-open : (starter : Who) → start_record.starter ≡ starter → is_told (service.finished id old).steps starter ≡ not (is_of_one (who.Sequence start_record.start.home id ∷ finished) (Object starter))
    starter-open (who.Node node) is = refl
    starter-open (who.Sequence home parent) is =
        let p = has-parent begun id start_record parent home s.starters found is in
        let other : (parent == id) ≡ false = grind (arith, nat_tests, p.before) in
        let same : step_at (with_step id None old.steps) parent ≡ step_at old.steps parent = rw other at (step-changed alone old.steps id None parent) in
        let goes : is_over_phase ended start_record.phase ≡ false = runs-on _ _ lives in
        let lived : live_by begun finished ended parent ≡ not (list_any (same_who (who.Sequence home parent)) finished) = rw (p.found, p.home_is, p.phase_is, goes) (and-true _) in
        ap is_some same ∙ s.living parent ∙ lived ∙ rw other refl
      where
        and-true : (b : Bool) → b && true ≡ b
        and-true true = refl
        and-true false = refl

  -- one more is started
  pub sequencing-begun :
      (b : StartRecord) (new : SequencesValue) → new.started ≡ b.start ∷ old.started → new.steps ≡ Some PreStart ∷ old.steps → is_over_phase ended b.phase ≡ false → IsStarter begun b.phase b.starter
      → IsSequencing (b ∷ begun) finished ended enders new (start_records ++ record { who = who.Sequence b.start.home (suc (length begun)); starter = b.starter; phase = b.phase } ∷ [])
  sequencing-begun b new starts steps goes starter = record {
    started = starts ∙ ap (λ (l : List Start). b.start ∷ l) s.started;
    many = ap length steps ∙ ap suc s.many;
    are = ap (λ (l : List kept.StartRecord). l ++ record { who = who.Sequence b.start.home (suc (length begun)); starter = b.starter; phase = b.phase } ∷ []) s.are;
    steps = λ id. ap (λ (l : List (Option SeqStep)). step_at l id) steps ∙ rw s.many (step id (id == suc (length begun)) refl);
    living = λ id. ap (λ (l : List (Option SeqStep)). is_some (step_at l id)) steps ∙ rw s.many (live id (id == suc (length begun)) refl);
    finished_within = All-weaker (λ (one : Who). number_of one ≤ length begun) (λ (one : Who). number_of one ≤ suc (length begun)) (λ one low. omega (arith, low)) finished s.finished_within;
    enders_within = All-weaker (λ (one : Who). number_of one ≤ length begun) (λ (one : Who). number_of one ≤ suc (length begun)) (λ one low. omega (arith, low)) enders s.enders_within;
    starters = (starter, s.starters);
  }
    where
      not-same : (id home : ℕ) (one : Who) → id ≡ suc (length begun) → number_of one ≤ length begun → same_who (who.Sequence home id) one ≡ false
      not-same id home (who.Node node) is low = refl
      not-same id home (who.Sequence there other) is low = let differs : (id == other) ≡ false = grind (arith, nat_tests, is, low) in rw differs refl

      not-of : (id : ℕ) (one : Who) → id ≡ suc (length begun) → number_of one ≤ length begun → is_sequence id one ≡ false
      not-of id (who.Node node) is low = refl
      not-of id (who.Sequence there other) is low = grind (arith, nat_tests, is, low)

      unfinished : (id home : ℕ) → id ≡ suc (length begun) → list_any (same_who (who.Sequence home id)) finished ≡ false
      unfinished id home is = list_any_none (same_who (who.Sequence home id)) finished (All-weaker (λ (one : Who). number_of one ≤ length begun) (λ (one : Who). same_who (who.Sequence home id) one ≡ false) (λ one low. not-same id home one is low) finished s.finished_within)

      none-ended : (id : ℕ) (whos : List Who) → id ≡ suc (length begun) → All (λ who. number_of who ≤ length begun) whos → filter (is_sequence id) whos ≡ []
      none-ended id [] is all = refl
      none-ended id (one ∷ whos) is all =
          let here : is_sequence id one ≡ false = not-of id one is (All-head (λ (one : Who). number_of one ≤ length begun) one whos all) in
          rw here (none-ended id whos is (All-tail (λ (one : Who). number_of one ≤ length begun) one whos all))

      at-last : (id : ℕ) → (id == suc (length begun)) ≡ true → id ≡ suc (length begun)
      at-last id e = grind (arith, nat_tests)

      step : (id : ℕ) (same : Bool) → (id == suc (length begun)) ≡ same → option_and_then (λ step. step) (if id == suc (length begun) then Some (Some PreStart) else numbered old.steps id) ≡ step_by (b ∷ begun) finished ended enders id
      step id true e = rw (e, unfinished id b.start.home (at-last id e), goes, none-ended id enders (at-last id e) s.enders_within) refl
      step id false e = rw e (s.steps id)

      live : (id : ℕ) (same : Bool) → (id == suc (length begun)) ≡ same → is_some (option_and_then (λ step. step) (if id == suc (length begun) then Some (Some PreStart) else numbered old.steps id)) ≡ live_by (b ∷ begun) finished ended id
      live id true e = rw (e, unfinished id b.start.home (at-last id e), goes) refl
      live id false e = rw e (s.living id)
