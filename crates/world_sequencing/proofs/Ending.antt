-- The sequences that end with a phase.
use Rattle.world_sequencing.proofs.Common.{◌≡◌, ◌<◌, ◌==◌, ℕ, suc, Bool, true, false, not, ◌&&◌, ◌||◌, List, [], ◌∷◌, ◌++◌, length, map, filter, slice_get, Option, Some, None, is_some, option_and_then, refl, ap, sym, ◌∙◌, arith, if◌then◌else◌, list_any, option_map_or, nat_tests, All-nil, All-cons, All-head, All-tail, All-append, list_any-append, map-append, Phase, same_phase, SeqStep, StepsChangeAlone, SequencesValue, numbered, step_at, Who, Entry, End, ended_of, StartRecord, all_begun, all_steps, starts_of, finished_of, is_live, is_living, is_over_phase, is_sequence, leaving_of, AreEnded, IsSequencing, ends_with, finished_by, is_in_phase, kept_start_records, leaving_with, live_by, lives_by, steps_ended, one-ended, map-filter, All}
use Rattle.world_sequencing.proofs.Numbered.{numbered-more, numbered-none}
use Rattle.world_sequencing.proofs.Sequenced.{length-step, step-changed}
use Rattle.world_sequencing.proofs.Starters.{kept_as}
use Rattle.uvm_acts.specs.declared.acts.Who.TheVariants as who
use Rattle.world_sequencing.specs.declared.start_records.StartRecord as kept

itself : (n : ℕ) → (n == n) ≡ true
itself n = grind (arith, nat_tests)

or-false : (b : Bool) → (b || false) ≡ b
or-false true = refl
or-false false = refl

or-true : (b : Bool) → (b || true) ≡ true
or-true true = refl
or-true false = refl

-- none has ended
pub ended-none : (sequences : SequencesValue) → AreEnded [] sequences sequences
ended-none sequences = record { started = refl; many = refl; steps = λ id. refl }

any-last : {X : Type 0} (p : X → Bool) (xs : List X) (x : X) → list_any p (xs ++ x ∷ []) ≡ (list_any p xs || p x)
any-last p xs x = list_any-append p xs (x ∷ []) ∙ ap (λ b. list_any p xs || b) (or-false (p x))

-- one more has
pub ended-more : StepsChangeAlone → (leaving : List Who) (who : Who) {old mid : SequencesValue} → AreEnded leaving old mid → AreEnded (leaving ++ who ∷ []) old (finished_by who mid)
ended-more alone leaving (who.Node node) {old} {mid} a = record {
  started = a.started;
  many = a.many;
  steps = λ id. a.steps id ∙ ap (λ (b : Bool). if b then None else step_at old.steps id) (sym (any-last (is_sequence id) leaving (who.Node node) ∙ or-false (list_any (is_sequence id) leaving)));
}
ended-more alone leaving (who.Sequence home id) {old} {mid} a = record {
  started = a.started;
  many = length-step id None mid.steps ∙ a.many;
  steps = λ other. step-changed alone mid.steps id None other ∙ changed other (other == id) refl;
}
  where
    none-there : (one : Option (Option SeqStep)) (step : Option SeqStep) → step ≡ None → option_and_then (λ _. step) one ≡ None
    none-there None step e = refl
    none-there (Some old) step e = e

    none-left : (b : Bool) (step : Option SeqStep) → None ≡ (if b || true then None else step)
    none-left true step = refl
    none-left false step = refl

    changed :
        (other : ℕ) (same : Bool) → (other == id) ≡ same
        → (if same then option_and_then (λ _. None) (numbered mid.steps other) else step_at mid.steps other) ≡ (if list_any (is_sequence other) (leaving ++ who.Sequence home id ∷ []) then None else step_at old.steps other)
    changed other true e =
        let is : (id == other) ≡ true = grind (arith, nat_tests) in
        none-there (numbered mid.steps other) None refl ∙ rw (any-last (is_sequence other) leaving (who.Sequence home id), is) (none-left (list_any (is_sequence other) leaving) (step_at old.steps other))
    changed other false e =
        let is : (id == other) ≡ false = grind (arith, nat_tests) in
        a.steps other ∙ rw (any-last (is_sequence other) leaving (who.Sequence home id), is, or-false (list_any (is_sequence other) leaving)) refl

-- a component or sequence among those that end is this sequence
any-kept : (f : kept.StartRecord → Bool) (id : ℕ) (xs : List kept.StartRecord) → list_any (is_sequence id) (map (λ b. b.who) (filter f xs)) ≡ list_any (λ b. f b && is_sequence id b.who) xs
any-kept f id [] = refl
any-kept f id (x ∷ xs) = tested (f x) (any-kept f id xs)
  where
    tested :
        (b : Bool) → list_any (is_sequence id) (map (λ b. b.who) (filter f xs)) ≡ list_any (λ b. f b && is_sequence id b.who) xs
        → list_any (is_sequence id) (map (λ b. b.who) (if b then x ∷ filter f xs else filter f xs)) ≡ ((b && is_sequence id x.who) || list_any (λ b. f b && is_sequence id b.who) xs)
    tested true e = ap (λ r. is_sequence id x.who || r) e
    tested false e = e

-- the one of a number ends with a phase, if it lives in it
abbrev ends_at : List (Option SeqStep) → Phase → ℕ → StartRecord → Bool
ends_at steps phase id start_record = is_in_phase phase start_record.phase && is_some (step_at steps id)

ends-here : (phase : Phase) (steps : List (Option SeqStep)) (start_record : StartRecord) (m id : ℕ) → m ≡ id → ((is_in_phase phase start_record.phase && is_some (step_at steps m)) && (m == id)) ≡ ends_at steps phase id start_record
ends-here phase steps start_record m id is = rw (is, itself id) (and-true (is_in_phase phase start_record.phase && is_some (step_at steps id)))
  where
    and-true : (b : Bool) → b && true ≡ b
    and-true true = refl
    and-true false = refl

any-one : (steps : List (Option SeqStep)) (phase : Phase) (id : ℕ) (begun : List StartRecord) → list_any (λ b. ends_with steps phase b && is_sequence id b.who) (kept_start_records begun) ≡ option_map_or (ends_at steps phase id) (numbered begun id) false
any-one steps phase id [] = refl
any-one steps phase id (start_record ∷ older) =
    any-last (λ b. ends_with steps phase b && is_sequence id b.who) (kept_start_records older) (kept_as (length (start_record ∷ older)) start_record)
    ∙ tested (id == suc (length older)) refl (any-one steps phase id older)
  where
    and-false : (b : Bool) → b && false ≡ false
    and-false true = refl
    and-false false = refl

    tested :
        (same : Bool) → (id == suc (length older)) ≡ same
        → list_any (λ b. ends_with steps phase b && is_sequence id b.who) (kept_start_records older) ≡ option_map_or (ends_at steps phase id) (numbered older id) false
        → (list_any (λ b. ends_with steps phase b && is_sequence id b.who) (kept_start_records older) || ((is_in_phase phase start_record.phase && is_some (step_at steps (suc (length older)))) && (suc (length older) == id)))
        ≡ option_map_or (ends_at steps phase id) (if same then Some start_record else numbered older id) false
    tested true e older_is =
        let is : suc (length older) ≡ id = grind (arith, nat_tests) in
        let low : length older < id = omega (arith, is) in
        let none : list_any (λ b. ends_with steps phase b && is_sequence id b.who) (kept_start_records older) ≡ false = older_is ∙ rw (numbered-none older id low) refl in
        rw none (ends-here phase steps start_record (suc (length older)) id is)
    tested false e older_is =
        let differs : (suc (length older) == id) ≡ false = grind (arith, nat_tests) in
        rw (differs, and-false (is_in_phase phase start_record.phase && is_some (step_at steps (suc (length older))))) (or-false _ ∙ older_is)

any-ends : (steps : List (Option SeqStep)) (phase : Phase) (id : ℕ) (begun : List StartRecord) → list_any (is_sequence id) (leaving_with steps phase (kept_start_records begun)) ≡ option_map_or (ends_at steps phase id) (numbered begun id) false
any-ends steps phase id begun = any-kept (ends_with steps phase) id (kept_start_records begun) ∙ any-one steps phase id begun

-- a sequence lives after a phase, if it lived and was started in another
over-phase : (phase : Phase) (ended : List Phase) (f : Bool) (started : Option Phase) → (f && not (is_over_phase (phase ∷ ended) started)) ≡ ((f && not (is_over_phase ended started)) && not (is_in_phase phase started))
over-phase phase ended true None = refl
over-phase phase ended false None = refl
over-phase phase ended f (Some other) = one-ended f (same_phase other phase) (list_any (same_phase other) ended)

lives-on : (finished : List Who) (ended : List Phase) (phase : Phase) (id : ℕ) (b : StartRecord) → lives_by finished (phase ∷ ended) id b ≡ (lives_by finished ended id b && not (is_in_phase phase b.phase))
lives-on finished ended phase id b = over-phase phase ended _ b.phase

step-left : (i l : Bool) (step now : Option SeqStep) → now ≡ (if l then step else None) → is_some now ≡ l → (if i && is_some now then None else now) ≡ (if l && not i then step else None)
step-left true true step now e d = rw d refl
step-left false true step now e d = e
step-left true false step now e d = rw d e
step-left false false step now e d = e

live-left : (i l : Bool) (now : Option SeqStep) → is_some now ≡ l → is_some {T = SeqStep} (if i && is_some now then None else now) ≡ (l && not i)
live-left true true now d = rw d refl
live-left false true now d = d
live-left true false now d = rw d d
live-left false false now d = d

-- with a phase its sequences end
pub sequencing-ended :
    {begun : List StartRecord} {finished : List Who} {ended : List Phase} {enders : List Who} {old : SequencesValue} {start_records : List kept.StartRecord} (phase : Phase) (new : SequencesValue)
    → AreEnded (leaving_with old.steps phase start_records) old new → IsSequencing begun finished ended enders old start_records → IsSequencing begun finished (phase ∷ ended) enders new start_records
sequencing-ended {begun} {finished} {ended} {enders} {old} {start_records} phase new a s = record {
  started = a.started ∙ s.started;
  many = a.many ∙ s.many;
  are = s.are;
  steps = λ id. a.steps id ∙ rw (any id) (step id (numbered begun id) (s.steps id) (s.living id));
  living = λ id. ap is_some (a.steps id) ∙ rw (any id) (live id (numbered begun id) (s.living id));
  finished_within = s.finished_within;
  enders_within = s.enders_within;
  starters = s.starters;
}
  where
    any : (id : ℕ) → list_any (is_sequence id) (leaving_with old.steps phase start_records) ≡ option_map_or (ends_at old.steps phase id) (numbered begun id) false
    any id = ap (λ (l : List kept.StartRecord). list_any (is_sequence id) (leaving_with old.steps phase l)) s.are ∙ any-ends old.steps phase id begun

    step :
        (id : ℕ) (found : Option StartRecord) → step_at old.steps id ≡ (if option_map_or (lives_by finished ended id) found false then slice_get all_steps (steps_ended enders id) else None) → is_some (step_at old.steps id) ≡ option_map_or (lives_by finished ended id) found false
        → (if option_map_or (ends_at old.steps phase id) found false then None else step_at old.steps id) ≡ (if option_map_or (lives_by finished (phase ∷ ended) id) found false then slice_get all_steps (steps_ended enders id) else None)
    step id None at lives = at
    step id (Some b) at lives = rw (lives-on finished ended phase id b) (step-left (is_in_phase phase b.phase) (lives_by finished ended id b) (slice_get all_steps (steps_ended enders id)) (step_at old.steps id) at lives)

    live :
        (id : ℕ) (found : Option StartRecord) → is_some (step_at old.steps id) ≡ option_map_or (lives_by finished ended id) found false
        → is_some {T = SeqStep} (if option_map_or (ends_at old.steps phase id) found false then None else step_at old.steps id) ≡ option_map_or (lives_by finished (phase ∷ ended) id) found false
    live id None lives = lives
    live id (Some b) lives = rw (lives-on finished ended phase id b) (live-left (is_in_phase phase b.phase) (lives_by finished ended id b) (step_at old.steps id) lives)

-- those that were started, as they are kept
all-kept : (begun : List StartRecord) → all_begun begun ≡ map (λ b. b.who) (kept_start_records begun)
all-kept [] = refl
all-kept (b ∷ older) = ap (λ (l : List Who). l ++ who.Sequence b.start.home (suc (length older)) ∷ []) (all-kept older) ∙ sym (map-append (λ (k : kept.StartRecord). k.who) (kept_start_records older) (kept_as (suc (length older)) b ∷ []))

-- what holds of each that was started holds of all as they are kept
kept-all : (P : kept.StartRecord → Type 0) (begun : List StartRecord) → ((id : ℕ) (b : StartRecord) → numbered begun id ≡ Some b → P (kept_as id b)) → All P (kept_start_records begun)
kept-all P [] each = All-nil P
kept-all P (b ∷ older) each =
    All-append P (kept_start_records older) (kept_as (suc (length older)) b ∷ []) (kept-all P older (λ id x e. each id x (numbered-more b older id x e))) (All-cons P (kept_as (suc (length older)) b) [] (each (suc (length older)) b (rw (itself (suc (length older))) refl)) (All-nil P))

filter-same : {X : Type 0} (p q : X → Bool) (xs : List X) → All (λ x. p x ≡ q x) xs → filter p xs ≡ filter q xs
filter-same p q [] all = refl
filter-same {X = X} p q (x ∷ xs) all =
    let here : p x ≡ q x = All-head (λ (x : X). p x ≡ q x) x xs all in
    rw here (ap (λ (l : List X). if q x then x ∷ l else l) (filter-same p q xs (All-tail (λ (x : X). p x ≡ q x) x xs all)))

is-live : (history : List Entry) (id : ℕ) → is_live history id ≡ live_by (starts_of history) (finished_of history) (ended_of history) id
unfolding is_live
is-live history id = refl

left-out : (i l : Bool) → (i && l) ≡ (l && not (l && not i))
left-out true true = refl
left-out false true = refl
left-out true false = refl
left-out false false = refl

-- a component or sequence lives before the end of a phase, and not after it
abbrev leaves : List Entry → Phase → Who → Bool
leaves before phase who = is_living before who && not (is_living (End phase ∷ before) who)

-- the sequences that live in a phase end with it
module _ (before : List Entry) (phase : Phase) {enders : List Who} {old : SequencesValue} {start_records : List kept.StartRecord} (s : IsSequencing (starts_of before) (finished_of before) (ended_of before) enders old start_records) where
  ends-leaves : (id : ℕ) (b : StartRecord) → numbered (starts_of before) id ≡ Some b → ends_with old.steps phase (kept_as id b) ≡ leaves before phase (who.Sequence b.start.home id)
  ends-leaves id b found =
      let lived : is_some (step_at old.steps id) ≡ lives_by (finished_of before) (ended_of before) id b = s.living id ∙ rw found refl in
      rw (lived, is-live before id, is-live (End phase ∷ before) id, found, lives-on (finished_of before) (ended_of before) phase id b) (left-out (is_in_phase phase b.phase) (lives_by (finished_of before) (ended_of before) id b))

  pub leaving-known : leaving_with old.steps phase start_records ≡ leaving_of (End phase ∷ before)
  leaving-known =
      ap (leaving_with old.steps phase) s.are
      ∙ ap (map (λ (k : kept.StartRecord). k.who)) (filter-same (ends_with old.steps phase) (λ k. leaves before phase k.who) (kept_start_records (starts_of before)) (kept-all (λ k. ends_with old.steps phase k ≡ leaves before phase k.who) (starts_of before) ends-leaves))
      ∙ map-filter (λ (k : kept.StartRecord). k.who) (leaves before phase) (kept_start_records (starts_of before))
      ∙ ap (filter (leaves before phase)) (sym (all-kept (starts_of before)))
