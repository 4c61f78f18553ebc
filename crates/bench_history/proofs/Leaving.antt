-- The sequences that end lived until then.
use Rattle.bench_history.proofs.Common.{◌≡◌, ℕ, zero, suc, ◌<◌, ◌≤◌, ◌==◌, Bool, true, false, not, ◌&&◌, filter, if◌then◌else◌, List, [], ◌∷◌, ◌++◌, length, Option, Some, None, option_map, refl, ap, ◌∙◌, sym, subst, arith, and_parts, or_parts, option_map_or, list_any, nat_tests, All-nil, All-cons, All-head, All-tail, All-push, All-weaker, All-filter, Contains-append_left, Contains-push, filter_passes, Phase, same_phase, OrderKeepsAll, numbered, same_who, Who, Call, Act, Outcome, Started, Finished, Entry, End, Did, EventTarget, nodes_of, ended_of, ended_in, act_phase, StartRecord, all_begun, begun_after, starts_of, finished_of, finished_in, is_live, is_living, is_over_phase, leaving_of, leaving_after, lives, IsNext, IsLiving, IsLivingSequence, LivingLived, AreRising, LeaversLived, number_of, LockExcludes, All, Contains, Node}
use Rattle.uvm_acts.specs.declared.acts.Who.TheVariants as who
use Rattle.bench_history.proofs.Living.{begun-more, numbered-more, numbered-newest}
use Rattle.bench_history.proofs.Expected.{both-hold}
use Rattle.bench_history.proofs.Called.{finisher_lives}

-- the sequence of each number stays
numbered-before : {X : Type 0} (y : X) (xs : List X) (n : ℕ) → n ≤ length xs → numbered (y ∷ xs) n ≡ numbered xs n
numbered-before y xs n low =
    let differs : (n == length (y ∷ xs)) ≡ false = grind (arith, nat_tests, low) in
    rw differs refl

begun-after-before : (nodes : List Node) (phase : Option Phase) (begun : List StartRecord) (performer : Who) (outcome : Outcome) (act : Act) (id : ℕ) → id ≤ length begun → numbered (begun_after nodes phase begun performer outcome act) id ≡ numbered begun id
begun-after-before nodes phase begun performer (Started new) act id low = numbered-before _ begun id low
begun-after-before nodes phase begun performer outcome act id low = refl

begun-before : (entry : Entry) (before : List Entry) (id : ℕ) → id ≤ length (starts_of before) → numbered (starts_of (entry ∷ before)) id ≡ numbered (starts_of before) id
begun-before (Did performer outcome act) before id low = begun-after-before (nodes_of before) (act_phase before) (starts_of before) performer outcome act id low
begun-before entry before id low = refl

-- what is not among more is not among fewer
none-fewer : {X : Type 0} (p : X → Bool) (xs ys : List X) → list_any p (xs ++ ys) ≡ false → list_any p ys ≡ false
none-fewer p [] ys e = e
none-fewer p (x ∷ xs) ys e = none-fewer p xs ys (or_parts (p x) (list_any p (xs ++ ys)) e).1

not-fewer : (b c : Bool) → (b ≡ false → c ≡ false) → not b ≡ true → not c ≡ true
not-fewer true c fewer e = cc
not-fewer false c fewer e = rw (fewer refl) refl

and-both : (a b c d : Bool) → (a ≡ true → c ≡ true) → (b ≡ true → d ≡ true) → a && b ≡ true → c && d ≡ true
and-both true true c d first second e = rw (first refl, second refl) refl
and-both true false c d first second e = cc
and-both false b c d first second e = cc

-- who lives after an entry has lived, if he was started
over-fewer : (entry : Entry) (before : List Entry) (phase : Option Phase) → not (is_over_phase (ended_of (entry ∷ before)) phase) ≡ true → not (is_over_phase (ended_of before) phase) ≡ true
over-fewer entry before None e = cc
over-fewer entry before (Some phase) e = not-fewer (list_any (same_phase phase) (ended_of (entry ∷ before))) (list_any (same_phase phase) (ended_of before)) (none-fewer (same_phase phase) (ended_in entry) (ended_of before)) e

lives-fewer : (entry : Entry) (before : List Entry) (id : ℕ) (start_record : StartRecord) → lives (entry ∷ before) id start_record ≡ true → lives before id start_record ≡ true
lives-fewer entry before id start_record e =
    and-both _ (not (is_over_phase (ended_of (entry ∷ before)) start_record.phase)) _ (not (is_over_phase (ended_of before) start_record.phase))
    (not-fewer (list_any (same_who (who.Sequence start_record.start.home id)) (finished_of (entry ∷ before))) (list_any (same_who (who.Sequence start_record.start.home id)) (finished_of before))
    (none-fewer (same_who (who.Sequence start_record.start.home id)) (finished_in entry) (finished_of before)))
    (over-fewer entry before start_record.phase) e

live-fewer : (entry : Entry) (before : List Entry) (id : ℕ) (found : Option StartRecord) → option_map_or (lives (entry ∷ before) id) found false ≡ true → option_map_or (lives before id) found false ≡ true
live-fewer entry before id None e = e
live-fewer entry before id (Some start_record) e = lives-fewer entry before id start_record e

pub living_lived : LivingLived
unfolding is_live
living_lived entry before id home low living =
    let same = begun-before entry before id low in
    record {
      lives = live-fewer entry before id (numbered (starts_of before) id) (rw same at living.lives);
      home_is = ap (option_map (λ (start_record : StartRecord). start_record.start.home)) (sym same) ∙ living.home_is;
    }

-- all that were started go in rising number
rising-push : (xs : List Who) (last : Who) → AreRising xs → All (λ x. number_of x < number_of last) xs → AreRising (xs ++ last ∷ [])
rising-push [] last rising below = (All-nil _, tt)
rising-push (x ∷ xs) last rising below =
    (All-push (λ other. number_of x < number_of other) xs last rising.0 (All-head (λ x. number_of x < number_of last) x xs below), rising-push xs last rising.1 (All-tail (λ x. number_of x < number_of last) x xs below))

rising-filter : (p : Who → Bool) (xs : List Who) → AreRising xs → AreRising (filter p xs)
rising-filter p [] rising = tt
rising-filter p (x ∷ xs) rising = tested (p x) (All-filter p (λ other. number_of x < number_of other) xs rising.0) (rising-filter p xs rising.1)
  where
    tested : (b : Bool) → All (λ other. number_of x < number_of other) (filter p xs) → AreRising (filter p xs) → AreRising (if b then x ∷ filter p xs else filter p xs)
    tested true above rest = (above, rest)
    tested false above rest = rest

begun-numbers : (begun : List StartRecord) → All (λ who. number_of who ≤ length begun) (all_begun begun)
begun-numbers [] = All-nil _
begun-numbers (start_record ∷ older) =
    All-push (λ who. number_of who ≤ length (start_record ∷ older)) (all_begun older) _
    (All-weaker (λ who. number_of who ≤ length older) (λ who. number_of who ≤ length (start_record ∷ older)) (λ who low. omega (arith, low)) (all_begun older) (begun-numbers older)) (omega arith)

begun-rising : (begun : List StartRecord) → AreRising (all_begun begun)
begun-rising [] = tt
begun-rising (start_record ∷ older) =
    rising-push (all_begun older) _ (begun-rising older)
    (All-weaker (λ who. number_of who ≤ length older) (λ who. number_of who < length (start_record ∷ older)) (λ who low. omega (arith, low)) (all_begun older) (begun-numbers older))

-- each was started on its sequencer
abbrev HasHome : List StartRecord → Who → Type 0
HasHome begun (who.Node node) = ⊥
HasHome begun (who.Sequence home id) = option_map (λ start_record. start_record.start.home) (numbered begun id) ≡ Some home

home-more : (start_record : StartRecord) (older : List StartRecord) (who : Who) → HasHome older who → HasHome (start_record ∷ older) who
home-more start_record older (who.Node node) has = absurd has
home-more start_record older (who.Sequence home id) has = by (numbered older id) refl has
  where
    by : (found : Option StartRecord) → numbered older id ≡ found → option_map (λ start_record. start_record.start.home) found ≡ Some home → HasHome (start_record ∷ older) (who.Sequence home id)
    by None is has = cc
    by (Some first) is has = ap (option_map (λ (start_record : StartRecord). start_record.start.home)) (numbered-more start_record older id first is) ∙ has

begun-homes : (begun : List StartRecord) → All (HasHome begun) (all_begun begun)
begun-homes [] = All-nil _
begun-homes (start_record ∷ older) =
    All-push (HasHome (start_record ∷ older)) (all_begun older) _ (All-weaker (HasHome older) (HasHome (start_record ∷ older)) (home-more start_record older) (all_begun older) (begun-homes older))
    (ap (option_map (λ (one : StartRecord). one.start.home)) (numbered-newest start_record older (length (start_record ∷ older)) (omega arith)))

-- those that end with a phase
abbrev ends_then : List Entry → Phase → Who → Bool
ends_then before phase who = is_living before who && not (is_living (End phase ∷ before) who)

ends-living : (before : List Entry) (phase : Phase) (who : Who) → HasHome (starts_of before) who → ends_then before phase who ≡ true → IsLivingSequence before who
ends-living before phase (who.Node node) has is = absurd has
ends-living before phase (who.Sequence home id) has is = record { lives = (and_parts (is_live before id) _ is).0; home_is = has }

ended-lived : (before : List Entry) (phase : Phase) → All (IsLivingSequence before) (leaving_of (End phase ∷ before))
ended-lived before phase =
    both-hold (HasHome (starts_of before)) (λ who. ends_then before phase who ≡ true) (IsLivingSequence before) (filter (ends_then before phase) (all_begun (starts_of before))) (ends-living before phase)
    (All-filter (ends_then before phase) (HasHome (starts_of before)) (all_begun (starts_of before)) (begun-homes (starts_of before))) (filter_passes (ends_then before phase) (all_begun (starts_of before)))

both-not : (a b : Bool) → a && not b ≡ true → b ≡ true → ⊥
both-not true true e d = cc
both-not true false e d = cc
both-not false b e d = cc

ends-gone : (before : List Entry) (phase : Phase) (who : Who) → ends_then before phase who ≡ true → IsLivingSequence (End phase ∷ before) who → ⊥
ends-gone before phase (who.Node node) is living = living
ends-gone before phase (who.Sequence home id) is living = both-not (is_live before id) (is_live (End phase ∷ before) id) is living.lives

ended-gone : (before : List Entry) (phase : Phase) → All (λ who. IsLivingSequence (End phase ∷ before) who → ⊥) (leaving_of (End phase ∷ before))
ended-gone before phase =
    All-weaker (λ who. ends_then before phase who ≡ true) (λ who. IsLivingSequence (End phase ∷ before) who → ⊥) (ends-gone before phase) (filter (ends_then before phase) (all_begun (starts_of before))) (filter_passes (ends_then before phase) (all_begun (starts_of before)))

-- and the one that finishes
finished-live : (before : List Entry) (performer : Who) (act : Act) (id : ℕ) → is_live (Did performer Finished act ∷ before) id ≡ option_map_or (lives (Did performer Finished act ∷ before) id) (numbered (starts_of before) id) false
unfolding is_live
finished-live before performer act id = refl

finished-gone : (before : List Entry) (performer : Who) (act : Act) → IsLivingSequence (Did performer Finished act ∷ before) performer → ⊥
finished-gone before (who.Node node) act living = living
finished-gone before (who.Sequence home id) act living = by (numbered (starts_of before) id) (sym (finished-live before (who.Sequence home id) act id) ∙ living.lives) living.home_is
  where
    itself : (n : ℕ) → (n == n) ≡ true
    itself n = grind (arith, nat_tests)

    by : (found : Option StartRecord) → option_map_or (lives (Did (who.Sequence home id) Finished act ∷ before) id) found false ≡ true → option_map (λ start_record. start_record.start.home) found ≡ Some home → ⊥
    by None alive at = cc
    by (Some start_record) alive at =
        let same : start_record.start.home ≡ home = cc in
        let dead = rw (same, itself id, itself home) at alive in
        cc

left-gone : (before : List Entry) (performer : Who) (outcome : Outcome) (act : Act) → All (λ who. IsLivingSequence (Did performer outcome act ∷ before) who → ⊥) (leaving_after performer outcome)
left-gone before performer Finished act = All-cons (λ who. IsLivingSequence (Did performer Finished act ∷ before) who → ⊥) performer [] (finished-gone before performer act) (All-nil _)
left-gone before performer outcome act = All-nil _

left-after : (before : List Entry) (performer : Who) (outcome : Outcome) → (outcome ≡ Finished → IsLivingSequence before performer) → All (IsLivingSequence before) (leaving_after performer outcome)
left-after before performer Finished lives = All-cons (IsLivingSequence before) performer [] (lives refl) (All-nil _)
left-after before performer outcome lives = All-nil _

rising-after : (performer : Who) (outcome : Outcome) → AreRising (leaving_after performer outcome)
rising-after performer Finished = (All-nil _, tt)
rising-after performer outcome = tt

-- a sequence whose life an entry does not end lives on
found-stays :
    (entry : Entry) (before : List Entry) (id home : ℕ) (found : Option StartRecord) → ((start_record : StartRecord) → lives before id start_record ≡ true → start_record.start.home ≡ home → lives (entry ∷ before) id start_record ≡ true)
    → numbered (starts_of before) id ≡ found → option_map_or (lives before id) found false ≡ true → option_map (λ start_record. start_record.start.home) found ≡ Some home → IsLiving (entry ∷ before) id home
unfolding is_live
found-stays entry before id home None on is alive at = cc
found-stays entry before id home (Some start_record) on is alive at =
    let same : start_record.start.home ≡ home = cc in
    let still = begun-more entry before id start_record is in
    record { lives = rw still (on start_record alive same); home_is = ap (option_map (λ (one : StartRecord). one.start.home)) still ∙ at }

stays-living :
    (entry : Entry) (before : List Entry) (id home : ℕ) → ((start_record : StartRecord) → lives before id start_record ≡ true → start_record.start.home ≡ home → lives (entry ∷ before) id start_record ≡ true)
    → IsLiving before id home → IsLiving (entry ∷ before) id home
unfolding is_live
stays-living entry before id home on living = found-stays entry before id home (numbered (starts_of before) id) on refl living.lives living.home_is

-- so one that an entry ends is among those that finish with it
plain-all : (entry : Entry) (before : List Entry) (id home : ℕ) → finished_in entry ≡ [] → ended_in entry ≡ [] → IsLiving before id home → (IsLiving (entry ∷ before) id home → ⊥) → Contains [] (who.Sequence home id)
plain-all entry before id home finished ended living gone = absurd (gone (stays-living entry before id home (λ start_record alive at. rw (finished, ended) alive) living))

same-is : (performer : Who) (id home : ℕ) → same_who (who.Sequence home id) performer ≡ true → performer ≡ who.Sequence home id
same-is (who.Node node) id home same = cc
same-is (who.Sequence there other) id home same =
    let first = (and_parts (id == other) (home == there) same).0 in
    let second = (and_parts (id == other) (home == there) same).1 in
    let number : other ≡ id = grind (arith, nat_tests, first) in
    let place : there ≡ home = grind (arith, nat_tests, second) in
    rw (number, place) refl

other-stays :
    (before : List Entry) (performer : Who) (act : Act) (id home : ℕ) → same_who (who.Sequence home id) performer ≡ false → (start_record : StartRecord) → lives before id start_record ≡ true → start_record.start.home ≡ home
    → lives (Did performer Finished act ∷ before) id start_record ≡ true
other-stays before performer act id home other start_record alive at =
    let differs : same_who (who.Sequence start_record.start.home id) performer ≡ false = rw at other in
    rw differs alive

left-all :
    (before : List Entry) (performer : Who) (outcome : Outcome) (act : Act) (id home : ℕ) → IsLiving before id home → (IsLiving (Did performer outcome act ∷ before) id home → ⊥)
    → Contains (leaving_after performer outcome) (who.Sequence home id)
left-all before performer Finished act id home living gone = by (same_who (who.Sequence home id) performer) refl
  where
    by : (same : Bool) → same_who (who.Sequence home id) performer ≡ same → Contains (performer ∷ []) (who.Sequence home id)
    by true same = (0, omega arith, same-is performer id home same)
    by false other = absurd (gone (stays-living (Did performer Finished act) before id home (other-stays before performer act id home other) living))
left-all before performer outcome act id home living gone = plain-all (Did performer outcome act) before id home refl refl living gone

-- or with its phase: who was started is among all that were
started-there : (begun : List StartRecord) (id home : ℕ) → option_map (λ start_record. start_record.start.home) (numbered begun id) ≡ Some home → Contains (all_begun begun) (who.Sequence home id)
started-there [] id home e = cc
started-there (start_record ∷ older) id home e = tested (id == length (start_record ∷ older)) refl e (started-there older id home)
  where
    tested : (newest : Bool) → (id == length (start_record ∷ older)) ≡ newest → option_map (λ start_record. start_record.start.home) (if newest then Some start_record else numbered older id) ≡ Some home
        → (option_map (λ start_record. start_record.start.home) (numbered older id) ≡ Some home → Contains (all_begun older) (who.Sequence home id)) → Contains (all_begun (start_record ∷ older)) (who.Sequence home id)
    tested true is at earlier =
        let number : id ≡ length (start_record ∷ older) = grind (arith, nat_tests, is) in
        let place : start_record.start.home ≡ home = cc in
        rw (number, ← place) (Contains-push (all_begun older) (who.Sequence start_record.start.home (length (start_record ∷ older))))
    tested false is at earlier = Contains-append_left (all_begun older) _ (who.Sequence home id) (earlier at)

pub filter-has : {X : Type 0} (p : X → Bool) (xs : List X) (x : X) → p x ≡ true → Contains xs x → Contains (filter p xs) x
filter-has p [] x passes has = absurd (omega (arith, has.1))
filter-has p (y ∷ ys) x passes (zero, low, at) = let first : p y ≡ true = rw at passes in rw first (zero, omega arith, at)
filter-has p (y ∷ ys) x passes (suc k, low, at) = behind (p y) (filter-has p ys x passes (k, omega (arith, low), at))
  where
    behind : (b : Bool) → Contains (filter p ys) x → Contains (if b then y ∷ filter p ys else filter p ys) x
    behind true has = let within = has.1 in (suc has.0, omega (arith, within), has.2)
    behind false has = has

ended-all : (before : List Entry) (phase : Phase) (id home : ℕ) → IsLiving before id home → (IsLiving (End phase ∷ before) id home → ⊥) → Contains (leaving_of (End phase ∷ before)) (who.Sequence home id)
ended-all before phase id home living gone = by (is_live (End phase ∷ before) id) refl
  where
    by : (lives_on : Bool) → is_live (End phase ∷ before) id ≡ lives_on → Contains (leaving_of (End phase ∷ before)) (who.Sequence home id)
    by true on = absurd (gone (record { lives = on; home_is = living.home_is }))
    by false dead =
        let ends : ends_then before phase (who.Sequence home id) ≡ true = rw (living.lives, dead) refl in
        filter-has (ends_then before phase) (all_begun (starts_of before)) (who.Sequence home id) ends (started-there (starts_of before) id home living.home_is)

module _ (keeps : OrderKeepsAll EventTarget (Option Call)) (excludes : LockExcludes) where
  pub leavers_lived : LeaversLived
  leavers_lived script before (Did performer outcome act) each next = record {
    lived = left-after before performer outcome (λ finishes. finisher_lives keeps excludes script before performer act each (subst (λ (o : Outcome). IsNext script before (Did performer o act)) finishes next));
    gone = left-gone before performer outcome act;
    all = left-all before performer outcome act;
    rising = rising-after performer outcome;
  }
  leavers_lived script before (End phase) each next = record { lived = ended-lived before phase; gone = ended-gone before phase; all = ended-all before phase; rising = rising-filter _ (all_begun (starts_of before)) (begun-rising (starts_of before)) }
  leavers_lived script before entry each next = record { lived = All-nil _; gone = All-nil _; all = λ id home. plain-all entry before id home refl refl; rising = tt }
