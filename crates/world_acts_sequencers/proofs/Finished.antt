-- A sequence that finishes.
use Rattle.world_acts_sequencers.proofs.Common.{◌≡◌, ℕ, suc, Bool, true, false, not, ◌&&◌, List, [], ◌∷◌, ◌++◌, length, filter, All, Option, Some, None, IfSome, option_map, ◌⊎◌, inl, inr, refl, ap, sym, subst, list_any, option_map_or, All-cons, Phase, same_phase, in_order, StepsChangeAlone, name_at, numbered, Who, Act, EndStep, Entry, Did, Finished, ScriptValue, Object, calls_caused, scheduled_events, due_events, delivered_causes, is_of_one, is_open, lapsed_by, call_in, ended_of, now_of, test_creation, performer_of, IsThere, objections_of, DueCall, Event, StartRecord, starts_of, finished_of, is_live, is_over_phase, sequence_in, Services, AreEvents, finished_calls, living_numbered, is_told, start_record_at, lives_by, IsAgenda, IsActContext, ServicesMatch, events-finished, IsToldOpen, agenda-living, events-calls, numbered-map, starter-open, kept-at, agenda-finished, open-finished, filter-twice}
use Rattle.uvm_sequences.specs.Sequences as service
use Rattle.uvm_acts.specs.declared.acts.Who.TheVariants as who
use Rattle.uvm_acts.specs.declared.acts.Call.TheVariants as call

-- a sequence that is there was started, and lives
pub record IsBegunLiving (history : List Entry) (performer : Who) (id : ℕ) : Type 0 where
  pub start_record : StartRecord
  pub found : numbered (starts_of history) id ≡ Some start_record
  pub lives : lives_by (finished_of history) (ended_of history) id start_record ≡ true
  pub performer_is : performer ≡ who.Sequence start_record.start.home id

pub there-begun : (history : List Entry) (performer : Who) (id : ℕ) → IsThere history performer → sequence_in performer ≡ Some id → IsBegunLiving history performer id
unfolding is_live
there-begun history (who.Node node) id there is = cc
there-begun history (who.Sequence home other) id there is = by (numbered (starts_of history) other) refl there.lives there.home_is
  where
    by : (one : Option StartRecord) → numbered (starts_of history) other ≡ one → option_map_or (lives_by (finished_of history) (ended_of history) other) one false ≡ true → option_map (λ start_record. start_record.start.home) one ≡ Some home → IsBegunLiving history (who.Sequence home other) id
    by None found lives e = cc
    by (Some start_record) found lives e =
        let same : other ≡ id = cc in
        let at : start_record.start.home ≡ home = cc in
        subst (λ (n : ℕ). IsBegunLiving history (who.Sequence home other) n) same (record { start_record = start_record; found = found; lives = lives; performer_is = ap (λ (h : ℕ). who.Sequence h other) (sym at) })

pub scene-begun : {script : ScriptValue} {history : List Entry} {act : Act} {place : ℕ} {services : Services} (id : ℕ) → IsActContext script history act place services → (act ≡ test_creation script → ⊥) → sequence_in services.answer.performer ≡ Some id → IsBegunLiving history services.answer.performer id
scene-begun {script} {history} {act} {services = services} id s other is = by s.there
  where
    by : (act ≡ test_creation script) ⊎ IsThere history (performer_of history) → IsBegunLiving history services.answer.performer id
    by (inl opens) = absurd (other opens)
    by (inr there) = there-begun history services.answer.performer id (rw s.known.answer.performer there) is

-- what is due once it has finished
pub record HasFinished (script : ScriptValue) (history : List Entry) (performer : Who) (more : List Event) : Type 0 where
  pub agenda : IsAgenda (scheduled_events script (Did performer Finished EndStep ∷ history)) (delivered_causes history) (ended_of history) (performer ∷ finished_of history) (suc (length history)) more
  pub events : AreEvents (λ phase. objections_of script phase history) (due_events script (Did performer Finished EndStep ∷ history))

module _
    {script : ScriptValue} {history : List Entry} {services : Services} (m : ServicesMatch script history services) (alone : StepsChangeAlone) (id : ℕ) (start_record : StartRecord) (found : numbered (starts_of history) id ≡ Some start_record) (lives : lives_by (finished_of history) (ended_of history) id start_record ≡ true)
    (lapse : List DueCall) (lapses : lapse ≡ lapsed_by history start_record.start.home (Some id)) where
  name-known : name_at services.sequences.started id ≡ Some start_record.start.name
  name-known = rw (m.sequencing.started, numbered-map (λ (b : StartRecord). b.start) (starts_of history) id, found) refl

  calls-known : finished_calls (start_record_at services.start_records.items id) (name_at services.sequences.started id) id ++ lapse ≡ calls_caused history (who.Sequence start_record.start.home id) Finished EndStep
  calls-known = rw (m.sequencing.are, kept-at (starts_of history) id start_record found, name-known, lapses, found) refl

  pub has-finished :
      (more : List Event)
      → All (IsToldOpen (is_told (service.finished id services.sequences).steps) (ended_of history) (who.Sequence start_record.start.home id ∷ finished_of history)) (lapsed_by history start_record.start.home (Some id))
      → more ≡ in_order (living_numbered (is_told (service.finished id services.sequences).steps) (now_of history) (length history) 0
      (finished_calls (start_record_at services.start_records.items id) (name_at services.sequences.started id) id ++ lapse)
      ++ filter (λ event. not (is_of_one (who.Sequence start_record.start.home id ∷ []) event.owner)) (filter (is_open (delivered_causes history) (ended_of history) (finished_of history)) (scheduled_events script history)))
      → HasFinished script history (who.Sequence start_record.start.home id) more
  has-finished more lapsed is = record {
    agenda = agenda-living (is_told (service.finished id services.sequences).steps) (delivered_causes history) (ended_of history) (who.Sequence start_record.start.home id ∷ finished_of history) (now_of history) (calls_caused history (who.Sequence start_record.start.home id) Finished EndStep) (scheduled_events script history) (length history) _ more told left (rw (calls-known, ← twice) at is);
    events = events-calls (λ phase. objections_of script phase history) (is_open (delivered_causes history) (ended_of history) (who.Sequence start_record.start.home id ∷ finished_of history)) (now_of history) (length history) 0 (calls_caused history (who.Sequence start_record.start.home id) Finished EndStep) (scheduled_events script history)
        (events-finished (who.Sequence start_record.start.home id) (λ phase. objections_of script phase history) (scheduled_events script history) (delivered_causes history) (ended_of history) (finished_of history) m.events);
  }
    where
      told : All (IsToldOpen (is_told (service.finished id services.sequences).steps) (ended_of history) (who.Sequence start_record.start.home id ∷ finished_of history)) (calls_caused history (who.Sequence start_record.start.home id) Finished EndStep)
      told = rw found (All-cons (IsToldOpen (is_told (service.finished id services.sequences).steps) (ended_of history) (who.Sequence start_record.start.home id ∷ finished_of history)) (call_in start_record.phase start_record.starter (call.Finished start_record.start.name id)) _
          (by start_record.phase (goes-on _ _ lives)) lapsed)
        where
          goes-on : (a b : Bool) → not a && not b ≡ true → b ≡ false
          goes-on true b e = cc
          goes-on false true e = cc
          goes-on false false e = refl

          by : (phase : Option Phase) → is_over_phase (ended_of history) phase ≡ false
              → IfSome phase (λ one. is_told (service.finished id services.sequences).steps start_record.starter ≡ (not (list_any (same_phase one) (ended_of history)) && not (is_of_one (who.Sequence start_record.start.home id ∷ finished_of history) (Object start_record.starter))))
          by None goes = tt
          by (Some one) goes = rw goes (starter-open m.sequencing alone id start_record found lives start_record.starter refl)

      twice : filter (is_open (delivered_causes history) (ended_of history) (who.Sequence start_record.start.home id ∷ finished_of history)) (scheduled_events script history) ≡ filter (λ event. not (is_of_one (who.Sequence start_record.start.home id ∷ []) event.owner)) (filter (is_open (delivered_causes history) (ended_of history) (finished_of history)) (scheduled_events script history))
      twice = filter-twice (λ event. not (is_of_one (who.Sequence start_record.start.home id ∷ []) event.owner)) (is_open (delivered_causes history) (ended_of history) (finished_of history)) (is_open (delivered_causes history) (ended_of history) (who.Sequence start_record.start.home id ∷ finished_of history)) (open-finished (who.Sequence start_record.start.home id) (delivered_causes history) (ended_of history) (finished_of history)) (scheduled_events script history)

      left : IsAgenda (scheduled_events script history) (delivered_causes history) (ended_of history) (who.Sequence start_record.start.home id ∷ finished_of history) (length history) (in_order (filter (λ event. not (is_of_one (who.Sequence start_record.start.home id ∷ []) event.owner)) (filter (is_open (delivered_causes history) (ended_of history) (finished_of history)) (scheduled_events script history))))
      left = agenda-finished (who.Sequence start_record.start.home id) (scheduled_events script history) (delivered_causes history) (ended_of history) (finished_of history) (length history) services.agenda.dues m.agenda
