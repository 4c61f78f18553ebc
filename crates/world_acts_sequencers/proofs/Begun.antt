-- Sequences that are started.
use Rattle.world_acts_sequencers.proofs.Common.{◌≡◌, ◌≤◌, ◌+◌, ◌==◌, ℕ, suc, true, false, List, [], ◌∷◌, ◌++◌, length, Option, Some, None, option_map, option_and_then, ◌⊎◌, inl, inr, refl, ap, sym, ◌∙◌, subst, arith, add-one, nat_tests, length-map, All-weaker, list_any_none, Phase, SequencesValue, numbered, Act, Who, same_who, Entry, Started, ScriptValue, Need, is_of_one, act_phase, test_creation, overrides_of, performer_of, in_task, HasNotEnded, IsInPhase, IsThere, number_of, place_of, Starting, starting_refusal, StartRecord, starts_of, is_over_phase, sequence_in, start_by, start_priority, starts_in, Needs, needed_sequence, starting_now, starting_effect, Services, Object, IsSequencing, IsStart, IsStarter, home_for, name_started, priority_given, IsActContext, ServicesMatch, starting_in, sequencing-begun, Start, Node}
use Rattle.uvm_sequences.specs.declared.starts.SeqStep.TheVariants.{PreStart}
use Rattle.uvm_acts.specs.declared.acts.Act.TheVariants as act
use Rattle.uvm_acts.specs.declared.acts.Who.TheVariants as who
use Rattle.world_sequencing.specs.declared.start_records.StartRecord as kept

-- a start, as the services know it
pub starting-known :
    {script : ScriptValue} {history : List Entry} {services : Services} → ServicesMatch script history services → (performer : Who) (type_name name : List ℕ) (on : List (List ℕ)) (priority : Option ℕ)
    → starting_now script history performer type_name name on priority ≡ starting_in script.types (overrides_of script history) services performer type_name name on priority
starting-known m performer type_name name on priority = rw (m.answer.phase, m.tree, m.sequencing.started) refl

-- one that is not refused needs a sequence
pub unrefused-needs : (starting : Starting) {need : Need} (count : ℕ) → starting_refusal starting ≡ None → needed_sequence starting ≡ need → starting_effect count starting ≡ Needs need (Started (suc count))
unrefused-needs starting count free is = rw (free, is) refl

-- how an act starts a sequence, once its sequencer is known
pub start-of :
    (nodes : List Node) (started : List Start) (performer : Who) (stored_act : Act) (home : ℕ) → IsStart stored_act → home_for nodes performer stored_act ≡ Some home
    → start_by nodes started performer stored_act ≡ record { home = home; parent = sequence_in performer; name = name_started stored_act; priority = start_priority started (sequence_in performer) (priority_given stored_act) }
start-of nodes started performer (act.Start type_name name on priority) home is asked = rw asked refl
start-of nodes started performer stored_act home is asked = absurd is

-- a sequence that was started before has another number than the next
not-next : (n home : ℕ) (one : Who) → number_of one ≤ n → same_who (who.Sequence home (suc n)) one ≡ false
not-next n home (who.Node node) low = refl
not-next n home (who.Sequence there other) low = let differs : (suc n == other) ≡ false = grind (arith, nat_tests, low) in rw differs refl

module _ {begun : List StartRecord} {finished : List Who} {ended : List Phase} {enders : List Who} {old : SequencesValue} {start_records : List kept.StartRecord} (s : IsSequencing begun finished ended enders old start_records) where
  -- how many were started
  pub started-count : length old.started ≡ length begun
  started-count = ap length s.started ∙ length-map begun (λ (b : StartRecord). b.start)

  -- the next sequence has not finished
  pub next-unfinished : (id home : ℕ) → id ≡ suc (length old.started) → is_of_one finished (Object (who.Sequence home id)) ≡ false
  next-unfinished id home is =
      rw (is, started-count) (list_any_none (same_who (who.Sequence home (suc (length begun)))) finished (All-weaker (λ (one : Who). number_of one ≤ length begun) (λ (one : Who). same_who (who.Sequence home (suc (length begun))) one ≡ false) (λ one low. not-next (length begun) home one low) finished s.finished_within))

  -- an act has started it
  pub sequencing-started :
      (nodes : List Node) (performer : Who) (stored_act : Act) (home id : ℕ) (phase : Option Phase) (name : List ℕ) (given : Option ℕ) (new : SequencesValue) (items : List kept.StartRecord)
      → IsStart stored_act → home_for nodes performer stored_act ≡ Some home → name ≡ name_started stored_act → given ≡ priority_given stored_act
      → new.started ≡ record { home = home; parent = sequence_in performer; name = name; priority = start_priority old.started (sequence_in performer) given } ∷ old.started
      → new.steps ≡ Some PreStart ∷ old.steps → id ≡ length old.started + 1 → items ≡ start_records ++ record { who = who.Sequence home id; starter = performer; phase = phase } ∷ []
      → is_over_phase ended phase ≡ false → IsStarter begun phase performer
      → IsSequencing (record { start = start_by nodes (starts_in begun) performer stored_act; starter = performer; phase = phase } ∷ begun) finished ended enders new items
  sequencing-started nodes performer stored_act home id phase name given new items is asked name_is given_is started steps number are goes starter =
      let start_record : StartRecord = record { start = start_by nodes (starts_in begun) performer stored_act; starter = performer; phase = phase } in
      let start = start-of nodes (starts_in begun) performer stored_act home is asked in
      let same_home : (start_by nodes (starts_in begun) performer stored_act).home ≡ home = ap (λ (x : Start). x.home) start in
      let count : id ≡ suc (length begun) = number ∙ add-one (length old.started) ∙ ap suc started-count in
      let first : new.started ≡ start_by nodes (starts_in begun) performer stored_act ∷ old.started = started ∙ ap (λ (x : Start). x ∷ old.started) (rw (name_is, given_is, s.started) (sym start)) in
      let whole : items ≡ start_records ++ record { who = who.Sequence start_record.start.home (suc (length begun)); starter = performer; phase = phase } ∷ [] =
      are ∙ ap (λ (n : ℕ). start_records ++ record { who = who.Sequence home n; starter = performer; phase = phase } ∷ []) count ∙ ap (λ (h : ℕ). start_records ++ record { who = who.Sequence h (suc (length begun)); starter = performer; phase = phase } ∷ []) (sym same_home) in
      rw whole (sequencing-begun s start_record new first steps goes starter)

-- a phase that takes time has not ended, if there is one that has not
pub task-goes : (ended : List Phase) (phase : Option Phase) → in_task phase ≡ true → HasNotEnded ended phase → is_over_phase ended phase ≡ false
task-goes ended None task unended = cc
task-goes ended (Some phase) task unended = unended

there-starts : (history : List Entry) (performer : Who) → IsInPhase history performer → IsThere history performer → IsStarter (starts_of history) (act_phase history) performer
there-starts history (who.Node node) own there = tt
there-starts history (who.Sequence home id) own there = by (numbered (starts_of history) id) there.home_is own
  where
    by : (found : Option StartRecord) → option_map (λ start_record. start_record.start.home) found ≡ Some home → option_and_then (λ start_record. start_record.phase) found ≡ act_phase history → place_of found ≡ Some (home, act_phase history)
    by None at e = cc
    by (Some start_record) at e = let same : start_record.start.home ≡ home = cc in rw (same, e) refl

starts-none : (script : ScriptValue) (stored_act : Act) → IsStart stored_act → stored_act ≡ test_creation script → ⊥
starts-none script stored_act is opens = let P : Act → Type 0 = IsStart in subst P opens is

-- who starts a sequence is a component, or a sequence that was started in the phase of the act
pub scene-starts : {script : ScriptValue} {history : List Entry} {stored_act : Act} {place : ℕ} {services : Services} → IsActContext script history stored_act place services → IsStart stored_act → IsStarter (starts_of history) (act_phase history) services.answer.performer
scene-starts {script} {history} {stored_act} {services = services} s is = rw s.known.answer.performer (by s.in_phase.own s.there)
  where
    by : (stored_act ≡ test_creation script) ⊎ IsInPhase history (performer_of history) → (stored_act ≡ test_creation script) ⊎ IsThere history (performer_of history) → IsStarter (starts_of history) (act_phase history) (performer_of history)
    by (inl opens) there = absurd (starts-none script stored_act is opens)
    by (inr own) (inl opens) = absurd (starts-none script stored_act is opens)
    by (inr own) (inr there) = there-starts history (performer_of history) own there
