-- The step at which a sequence is, as the log says and as it is kept.
use Rattle.world_acts_sequencers.proofs.Common.{◌≡◌, ℕ, suc, Bool, true, false, List, [], ◌∷◌, length, filter, slice_get, count_by, Some, None, is_some, option_and_then, refl, ap, sym, ◌∙◌, if◌then◌else◌, length-filter, step_after, step_at, Who, EndStep, Done, Entry, Did, ScriptValue, all_steps, ends_step, is_live, is_sequence, next_step, sequence_in, step_of, Services, enders_of, steps_ended, ServicesMatch}

filtered : (id : ℕ) (history : List Entry) → length (filter (ends_step id) history) ≡ steps_ended (enders_of history) id
filtered id [] = refl
filtered id (Did performer Done EndStep ∷ before) = one (is_sequence id performer) (filtered id before)
  where
    one : (b : Bool) → length (filter (ends_step id) before) ≡ steps_ended (enders_of before) id → length (if b then Did performer Done EndStep ∷ filter (ends_step id) before else filter (ends_step id) before) ≡ length (if b then performer ∷ filter (is_sequence id) (enders_of before) else filter (is_sequence id) (enders_of before))
    one true e = ap suc e
    one false e = e
filtered id (entry ∷ before) = filtered id before

counted : (id : ℕ) (history : List Entry) → count_by (ends_step id) history ≡ steps_ended (enders_of history) id
counted id history = sym (length-filter (ends_step id) history) ∙ filtered id history

module _ {script : ScriptValue} {history : List Entry} {services : Services} (m : ServicesMatch script history services) where
  pub live-known : (id : ℕ) → is_some (step_at services.sequences.steps id) ≡ is_live history id
  unfolding is_live
  live-known id = m.sequencing.living id

  pub step-known : (id : ℕ) → step_at services.sequences.steps id ≡ step_of history id
  unfolding step_of is_live
  step-known id = m.sequencing.steps id ∙ ap (λ (n : ℕ). if is_live history id then slice_get all_steps n else None) (sym (counted id history))

  -- so is the next one
  pub next-known : (performer : Who) (id : ℕ) → sequence_in performer ≡ Some id → option_and_then step_after (step_at services.sequences.steps id) ≡ next_step history performer
  next-known performer id is = rw (is, step-known id) refl
