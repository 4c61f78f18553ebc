-- Writes: what enters several FIFOs, and the calls that are numbered.
use Rattle.world_state.proofs.Common.{◌≡◌, ℕ, suc, ◌<◌, Bool, true, false, not, ◌&&◌, IfSome, List, [], ◌∷◌, ◌++◌, filter, Option, Some, None, option_map, ◌⊎◌, inl, inr, All, refl, ap, sym, ◌∙◌, subst, arith, append_assoc, if◌then◌else◌, AllPairs, filter_map, cons_option, list_any, nat_tests, All-nil, All-cons, All-head, All-tail, All-weaker, AllPairs-cons, Phase, Cause, same_phase, in_order, same_cause, Item, Call, Who, under_at, Object, DueCall, HasNotEnded, calls_numbered, event_in, is_of_one, is_open, call_in, written_to, Event, if_told, living_numbered, AreEvents, IsAgenda}
use Rattle.world_state.proofs.Drained.{events-told}
use Rattle.world_state.proofs.Scheduled.{fresh}
use Rattle.uvm_objection.specs.Nodes as objection
use Rattle.uvm_acts.specs.declared.acts.Who.TheVariants as who
use Rattle.uvm_acts.specs.declared.acts.Call.TheVariants as call
use Rattle.uvm_tree.specs.Nodes as tree

-- one more call is due
pub numbered-one :
    (time place number : ℕ) (calls rest : List DueCall) (told : DueCall) (others whole : List Event) → calls ≡ told ∷ rest → calls_numbered time place number calls ++ others ≡ whole
    → calls_numbered time place (suc number) rest ++ (event_in told.phase time (record { place = place; number = number }) (Object told.who) (Some told.call) ++ others) ≡ whole
numbered-one time place number calls rest told others whole is e =
    sym (append_assoc (calls_numbered time place (suc number) rest) (event_in told.phase time (record { place = place; number = number }) (Object told.who) (Some told.call)) others)
    ∙ ap (λ (calls : List DueCall). calls_numbered time place number calls ++ others) (sym is) ∙ e

-- a cause is an earlier entry, or has an earlier number in the entry at a place
IsEarlier : ℕ → ℕ → Cause → Type 0
IsEarlier place number cause = (cause.place < place) ⊎ ((cause.place ≡ place) × (cause.number < number))

earlier-apart : (place number : ℕ) (cause : Cause) → IsEarlier place number cause → same_cause (record { place = place; number = number }) cause ≡ false
unfolding IsEarlier
earlier-apart place number cause (inl before) = grind (arith, nat_tests)
earlier-apart place number cause (inr (same, before)) = grind (arith, nat_tests)

earlier-more : (place number : ℕ) (cause : Cause) → IsEarlier place number cause → IsEarlier place (suc number) cause
unfolding IsEarlier
earlier-more place number cause (inl before) = inl before
earlier-more place number cause (inr (same, before)) = inr (same, omega (arith, before))

earlier-within : (place number : ℕ) (cause : Cause) → IsEarlier place number cause → cause.place < suc place
unfolding IsEarlier
earlier-within place number cause (inl before) = omega (arith, before)
earlier-within place number cause (inr (same, before)) = omega (arith, same)

-- the numbered calls have causes of their own
record AreApart (place : ℕ) (caused : List Event) : Type 0 where
  pairs : AllPairs (λ due other. same_cause due.cause other.cause ≡ false) caused
  within : All (λ due. due.cause.place < suc place) caused

numbered-apart :
    (time place number : ℕ) (calls : List DueCall) (caused : List Event) → AllPairs (λ due other. same_cause due.cause other.cause ≡ false) caused → All (λ due. IsEarlier place number due.cause) caused
    → AreApart place (calls_numbered time place number calls ++ caused)
unfolding IsEarlier
numbered-apart time place number [] caused pairs earlier = record { pairs = pairs; within = All-weaker (λ due. IsEarlier place number due.cause) (λ due. due.cause.place < suc place) (λ due e. earlier-within place number due.cause e) caused earlier }
numbered-apart time place number (told ∷ calls) caused pairs earlier =
    let cause : Cause = record { place = place; number = number } in
    subst (AreApart place) (sym (append_assoc (calls_numbered time place (suc number) calls) (event_in told.phase time cause (Object told.who) (Some told.call)) caused)) (by told.phase (numbered-apart time place (suc number) calls))
  where
    more : All (λ due. IsEarlier place (suc number) due.cause) caused
    more = All-weaker (λ due. IsEarlier place number due.cause) (λ due. IsEarlier place (suc number) due.cause) (λ due e. earlier-more place number due.cause e) caused earlier

    by : (phase : Option Phase) → ((others : List Event) → AllPairs (λ due other. same_cause due.cause other.cause ≡ false) others → All (λ due. IsEarlier place (suc number) due.cause) others → AreApart place (calls_numbered time place (suc number) calls ++ others))
        → AreApart place (calls_numbered time place (suc number) calls ++ (event_in phase time (record { place = place; number = number }) (Object told.who) (Some told.call) ++ caused))
    by None rest = rest caused pairs more
    by (Some phase) rest =
        let cause : Cause = record { place = place; number = number } in
        let event : Event = record { time = time; cause = cause; phase = phase; owner = Object told.who; notice = Some told.call } in
        let here : IsEarlier place (suc number) cause = inr (refl, omega arith) in
        rest (event ∷ caused)
        (AllPairs-cons (λ due other. same_cause due.cause other.cause ≡ false) event caused (All-weaker (λ due. IsEarlier place number due.cause) (λ due. same_cause cause due.cause ≡ false) (λ due e. earlier-apart place number due.cause e) caused earlier) pairs)
        (All-cons (λ due. IsEarlier place (suc number) due.cause) event caused here more)

-- of which some may be told to no component or sequence
pub living-one :
    (told : Who → Bool) (time place number : ℕ) (calls rest : List DueCall) (call : DueCall) (others whole : List Event) → calls ≡ call ∷ rest → living_numbered told time place number calls ++ others ≡ whole
    → living_numbered told time place (suc number) rest ++ (if_told (told call.who) (event_in call.phase time (record { place = place; number = number }) (Object call.who) (Some call.call)) ++ others) ≡ whole
living-one told time place number calls rest call others whole is e =
    sym (append_assoc (living_numbered told time place (suc number) rest) (if_told (told call.who) (event_in call.phase time (record { place = place; number = number }) (Object call.who) (Some call.call))) others)
    ∙ ap (λ (calls : List DueCall). living_numbered told time place number calls ++ others) (sym is) ∙ e

-- who is called is told, where its call is open: its phase has not ended, and the sequence that it is has not finished
abbrev pub IsToldOpen : (Who → Bool) → List Phase → List Who → DueCall → Type 0
IsToldOpen told ended finished call = IfSome call.phase (λ phase. told call.who ≡ (not (list_any (same_phase phase) ended) && not (is_of_one finished (Object call.who))))

module _ (told : Who → Bool) (heard : List Cause) (ended : List Phase) (finished : List Who) where
  one-open :
      (time : ℕ) (cause : Cause) (phase : Option Phase) (who : Who) (call : Call) (caused : List Event) → All (λ other. other.place < cause.place) heard
      → IfSome phase (λ one. told who ≡ (not (list_any (same_phase one) ended) && not (is_of_one finished (Object who))))
      → filter (is_open heard ended finished) (event_in phase time cause (Object who) (Some call) ++ caused) ≡ if_told (told who) (event_in phase time cause (Object who) (Some call)) ++ filter (is_open heard ended finished) caused
  one-open time cause None who call caused within open_ = by (told who)
    where
      by : (b : Bool) → filter (is_open heard ended finished) caused ≡ if_told b [] ++ filter (is_open heard ended finished) caused
      by true = refl
      by false = refl
  one-open time cause (Some phase) who call caused within open_ =
      let event : Event = record { time = time; cause = cause; phase = phase; owner = Object who; notice = Some call } in
      rw (fresh heard cause within, ← open_) (one event (filter (is_open heard ended finished) caused) (told who))
    where
      one : (event : Event) (rest : List Event) (b : Bool) → (if b then event ∷ rest else rest) ≡ if_told b (event ∷ []) ++ rest
      one event rest true = refl
      one event rest false = refl

  -- of the calls those are open that are told
  living-open :
      (time place number : ℕ) (calls : List DueCall) (caused : List Event) → All (λ cause. cause.place < place) heard → All (IsToldOpen told ended finished) calls
      → filter (is_open heard ended finished) (calls_numbered time place number calls ++ caused) ≡ living_numbered told time place number calls ++ filter (is_open heard ended finished) caused
  living-open time place number [] caused within all = refl
  living-open time place number (call ∷ calls) caused within all =
      let cause : Cause = record { place = place; number = number } in
      let event : List Event = event_in call.phase time cause (Object call.who) (Some call.call) in
      let others = calls_numbered time place (suc number) calls in
      let living = living_numbered told time place (suc number) calls in
      let open_ = one-open time cause call.phase call.who call.call caused within (All-head (IsToldOpen told ended finished) call calls all) in
      ap (filter (is_open heard ended finished)) (append_assoc others event caused)
      ∙ living-open time place (suc number) calls (event ++ caused) within (All-tail (IsToldOpen told ended finished) call calls all)
      ∙ ap (λ (events : List Event). living ++ events) open_
      ∙ sym (append_assoc living (if_told (told call.who) event) (filter (is_open heard ended finished) caused))

  -- several calls are due at once
  pub agenda-living :
      (time : ℕ) (calls : List DueCall) (caused : List Event) (count : ℕ) (dues more : List Event) → All (IsToldOpen told ended finished) calls → IsAgenda caused heard ended finished count dues
      → more ≡ in_order (living_numbered told time count 0 calls ++ filter (is_open heard ended finished) caused)
      → IsAgenda (calls_numbered time count 0 calls ++ caused) heard ended finished (suc count) more
  unfolding IsEarlier
  agenda-living time calls caused count dues more all a is =
      let apart = numbered-apart time count 0 calls caused a.distinct (All-weaker (λ due. due.cause.place < count) (λ due. IsEarlier count 0 due.cause) (λ due lt. inl lt) caused a.caused_within) in
      record {
        are = is ∙ ap in_order (sym (living-open time count 0 calls caused a.heard_within all));
        distinct = apart.pairs;
        caused_within = apart.within;
        heard_within = All-weaker (λ cause. cause.place < count) (λ cause. cause.place < suc count) (λ cause lt. omega (arith, lt)) heard a.heard_within;
      }

-- all of them are told
told-all : (time place number : ℕ) (calls : List DueCall) → living_numbered (λ who. true) time place number calls ≡ calls_numbered time place number calls
told-all time place number [] = refl
told-all time place number (call ∷ calls) = ap (λ (events : List Event). events ++ event_in call.phase time (record { place = place; number = number }) (Object call.who) (Some call.call)) (told-all time place (suc number) calls)

-- a call to a component or sequence of a phase that has not ended, and who has not finished
abbrev pub IsOpenCall : List Phase → List Who → DueCall → Type 0
IsOpenCall ended finished call = HasNotEnded ended call.phase × (is_of_one finished (Object call.who) ≡ false)

pub agenda-written :
    (time : ℕ) (calls : List DueCall) (caused : List Event) (heard : List Cause) (ended : List Phase) (finished : List Who) (count : ℕ) (dues more : List Event) → All (IsOpenCall ended finished) calls → IsAgenda caused heard ended finished count dues
    → more ≡ in_order (calls_numbered time count 0 calls ++ filter (is_open heard ended finished) caused)
    → IsAgenda (calls_numbered time count 0 calls ++ caused) heard ended finished (suc count) more
agenda-written time calls caused heard ended finished count dues more all a is =
    agenda-living (λ who. true) heard ended finished time calls caused count dues more (All-weaker (IsOpenCall ended finished) (IsToldOpen (λ who. true) ended finished) (λ call. one call.phase call.who) calls all) a
    (is ∙ ap (λ (events : List Event). in_order (events ++ filter (is_open heard ended finished) caused)) (sym (told-all time count 0 calls)))
  where
    one : (phase : Option Phase) (who : Who) → HasNotEnded ended phase × (is_of_one finished (Object who) ≡ false) → IfSome phase (λ one. true ≡ (not (list_any (same_phase one) ended) && not (is_of_one finished (Object who))))
    one None who open_ = tt
    one (Some phase) who open_ = rw (open_.0, open_.1) refl

-- who owns an imp is a component
pub written-open : (phase : Option Phase) (nodes : List tree.Node) (item : Item) (ended : List Phase) (finished : List Who) (imps : List ℕ) → HasNotEnded ended phase → All (IsOpenCall ended finished) (filter_map (written_to phase nodes item) imps)
written-open phase nodes item ended finished [] unended = All-nil _
written-open phase nodes item ended finished (imp ∷ imps) unended = added (under_at nodes imp) (written-open phase nodes item ended finished imps unended)
  where
    added : (under : Option (ℕ × List ℕ)) → All (IsOpenCall ended finished) (filter_map (written_to phase nodes item) imps)
        → All (IsOpenCall ended finished) (cons_option (option_map {U = DueCall} (λ (under : ℕ × List ℕ). call_in phase (who.Node under.0) (call.Written under.1 item)) under) (filter_map (written_to phase nodes item) imps))
    added None all = all
    added (Some under) all = All-cons (IsOpenCall ended finished) _ (filter_map (written_to phase nodes item) imps) (unended, refl) all

pub events-calls :
    (nodes : Phase → List objection.Node) (awaited : Event → Bool) (time place number : ℕ) (calls : List DueCall) (caused : List Event) → AreEvents nodes (filter awaited caused)
    → AreEvents nodes (filter awaited (calls_numbered time place number calls ++ caused))
events-calls nodes awaited time place number [] caused all = all
events-calls nodes awaited time place number (told ∷ calls) caused all =
    let cause : Cause = record { place = place; number = number } in
    subst (λ (events : List Event). AreEvents nodes (filter awaited events)) (sym (append_assoc (calls_numbered time place (suc number) calls) (event_in told.phase time cause (Object told.who) (Some told.call)) caused))
    (events-calls nodes awaited time place (suc number) calls (event_in told.phase time cause (Object told.who) (Some told.call) ++ caused) (events-told nodes awaited told.phase time cause told.who told.call caused all))
