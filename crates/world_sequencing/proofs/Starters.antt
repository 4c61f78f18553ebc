-- Who started a sequence, and what is kept of it.
use Rattle.world_sequencing.proofs.Common.{◌≡◌, ◌<◌, ◌==◌, ℕ, suc, zero, Bool, true, false, List, [], ◌∷◌, ◌++◌, length, slice_get, Option, Some, None, option_and_then, refl, ap, ◌∙◌, subst, arith, length-append, if◌then◌else◌, nat_tests, option_map_or, Phase, numbered, StartRecord, place_of, AreStarters, start_record_at, kept_start_records, phase_at}
use Rattle.world_sequencing.proofs.Numbered.{numbered-more, numbered-within}
use Rattle.uvm_acts.specs.declared.acts.Who.TheVariants as who
use Rattle.world_sequencing.specs.declared.start_records.StartRecord as kept

-- the starter of a sequence is a sequence that was started before, in the same phase
pub record HasParent (begun : List StartRecord) (id : ℕ) (phase : Option Phase) (parent home : ℕ) : Type 0 where
  pub start_record : StartRecord
  pub found : numbered begun parent ≡ Some start_record
  pub home_is : start_record.start.home ≡ home
  pub phase_is : start_record.phase ≡ phase
  pub before : parent < id

parent-placed : (x : StartRecord) (older : List StartRecord) (id : ℕ) (phase : Option Phase) (parent home : ℕ) (one : Option StartRecord) → numbered older parent ≡ one → place_of one ≡ Some (home, phase) → length older < id → HasParent (x ∷ older) id phase parent home
parent-placed x older id phase parent home None is e low = cc
parent-placed x older id phase parent home (Some start_record) is e low =
    let within = numbered-within older parent start_record is in
    record { start_record = start_record; found = numbered-more x older parent start_record is; home_is = ap (λ (o : Option (ℕ × Option Phase)). option_map_or (λ p. p.0) o 0) e; phase_is = ap (λ (o : Option (ℕ × Option Phase)). option_map_or (λ p. p.1) o None) e; before = omega (arith, within, low) }

parent-more : (x : StartRecord) (older : List StartRecord) (id : ℕ) (phase : Option Phase) (parent home : ℕ) → HasParent older id phase parent home → HasParent (x ∷ older) id phase parent home
parent-more x older id phase parent home h = record { start_record = h.start_record; found = numbered-more x older parent h.start_record h.found; home_is = h.home_is; phase_is = h.phase_is; before = h.before }

pub has-parent : (begun : List StartRecord) (id : ℕ) (start_record : StartRecord) (parent home : ℕ) → AreStarters begun → numbered begun id ≡ Some start_record → start_record.starter ≡ who.Sequence home parent → HasParent begun id start_record.phase parent home
has-parent [] id start_record parent home are e starts = cc
has-parent (x ∷ older) id start_record parent home are e starts = tested (id == length (x ∷ older)) refl e (has-parent older id start_record parent home are.1)
  where
    tested :
        (same : Bool) → (id == length (x ∷ older)) ≡ same → (if same then Some x else numbered older id) ≡ Some start_record → (numbered older id ≡ Some start_record → start_record.starter ≡ who.Sequence home parent → HasParent older id start_record.phase parent home)
        → HasParent (x ∷ older) id start_record.phase parent home
    tested true is found rest =
        let here : x ≡ start_record = cc in
        let starter : x.starter ≡ who.Sequence home parent = ap (λ (b : StartRecord). b.starter) here ∙ starts in
        let placed : place_of (numbered older parent) ≡ Some (home, x.phase) = rw starter at are.0 in
        let low : length older < id = grind (arith, nat_tests) in
        subst (λ (b : StartRecord). HasParent (x ∷ older) id b.phase parent home) here (parent-placed x older id x.phase parent home (numbered older parent) refl placed low)
    tested false is found rest = parent-more x older id start_record.phase parent home (rest found starts)

pub kept-length : (begun : List StartRecord) → length (kept_start_records begun) ≡ length begun
kept-length [] = refl
kept-length (x ∷ older) = length-append (kept_start_records older) _ ∙ omega (arith, kept-length older)

get-front : {X : Type 0} (xs ys : List X) (k : ℕ) → k < length xs → slice_get (xs ++ ys) k ≡ slice_get xs k
get-front [] ys k lt = absurd (omega arith)
get-front (x ∷ xs) ys zero lt = refl
get-front (x ∷ xs) ys (suc k) lt = get-front xs ys k (omega arith)

get-end : {X : Type 0} (xs : List X) (x : X) (n : ℕ) → length xs ≡ n → slice_get (xs ++ x ∷ []) n ≡ Some x
get-end [] x zero e = refl
get-end [] x (suc n) e = absurd (omega arith)
get-end (y ∷ ys) x zero e = absurd (omega arith)
get-end (y ∷ ys) x (suc n) e = get-end ys x n (omega arith)

-- a sequence as it is kept
abbrev pub kept_as : ℕ → StartRecord → kept.StartRecord
kept_as id start_record = record { who = who.Sequence start_record.start.home id; starter = start_record.starter; phase = start_record.phase }

pub kept-at : (begun : List StartRecord) (id : ℕ) (start_record : StartRecord) → numbered begun id ≡ Some start_record → start_record_at (kept_start_records begun) id ≡ Some (kept_as id start_record)
kept-at [] id start_record e = cc
kept-at (x ∷ older) zero start_record e = kept-at-none (x ∷ older) start_record e
  where
    kept-at-none : (older : List StartRecord) (start_record : StartRecord) → numbered older zero ≡ Some start_record → None ≡ Some (kept_as zero start_record)
    kept-at-none [] start_record e = cc
    kept-at-none (y ∷ others) start_record e = let differs : (0 == suc (length others)) ≡ false = grind (arith, nat_tests) in kept-at-none others start_record (rw differs at e)
kept-at (x ∷ older) (suc n) start_record e = tested (suc n == length (x ∷ older)) refl e (kept-at older (suc n) start_record)
  where
    tested :
        (same : Bool) → (suc n == length (x ∷ older)) ≡ same → (if same then Some x else numbered older (suc n)) ≡ Some start_record → (numbered older (suc n) ≡ Some start_record → slice_get (kept_start_records older) n ≡ Some (kept_as (suc n) start_record))
        → slice_get (kept_start_records older ++ kept_as (length (x ∷ older)) x ∷ []) n ≡ Some (kept_as (suc n) start_record)
    tested true is found rest =
        let here : x ≡ start_record = cc in
        let at : suc (length older) ≡ suc n = grind (arith, nat_tests) in
        let end : length (kept_start_records older) ≡ n = omega (arith, kept-length older, at) in
        get-end (kept_start_records older) (kept_as (length (x ∷ older)) x) n end ∙ ap (λ (k : ℕ). Some (kept_as k x)) at ∙ ap (λ (b : StartRecord). Some (kept_as (suc n) b)) here
    tested false is found rest =
        let within = numbered-within older (suc n) start_record found in
        let low : n < length (kept_start_records older) = omega (arith, kept-length older, within) in
        get-front (kept_start_records older) (kept_as (length (x ∷ older)) x ∷ []) n low ∙ rest found

-- the phase in which a sequence was started is kept
pub phase-known : (begun : List StartRecord) (start_records : List kept.StartRecord) (id : ℕ) (start_record : StartRecord) → start_records ≡ kept_start_records begun → numbered begun id ≡ Some start_record → phase_at start_records id ≡ option_and_then (λ one. one.phase) (numbered begun id)
phase-known begun start_records id start_record are found = rw (are, kept-at begun id start_record found, found) refl
