-- The locks of holders that are kept as runs, and the last lock of a sequence.
use Rattle.uvm_sequencer_holders.proofs.Common.{◌≡◌, ◌≢◌, ◌∙◌, ◌≤◌, ◌<◌, ◌+◌, ◌-◌, ℕ, zero, suc, Bool, true, false, not, List, [], ◌∷◌, ◌++◌, length, get_or, set, filter, All, refl, sym, ap, arith, replicate, if◌then◌else◌, ◌==◌, ◌||◌, ◌&&◌, remove, list_any, nat_tests, append_assoc, All-head, All-tail, list_any-append, Held, Holds, held_by, locks_of, is_held, released}

or_true : (a : Bool) {b : Bool} → b ≡ true → (a || b) ≡ true
or_true true e = refl
or_true false e = e

or_same : (a b : Bool) → (a || (a || b)) ≡ (a || b)
or_same true b = refl
or_same false b = refl

and_false : (a : Bool) → (a && false) ≡ false
and_false true = refl
and_false false = refl

differs : (holder seq : ℕ) → holder ≢ seq → (holder == seq) ≡ false
differs holder seq h = grind (arith, nat_tests)

agrees : (holder seq : ℕ) → holder ≡ seq → (holder == seq) ≡ true
agrees holder seq h = grind (arith, nat_tests)

-- any test holds of some lock exactly if it holds of some run
any_times : (p : ℕ → Bool) (n a : ℕ) (rest : List ℕ) → list_any p (replicate (suc n) a ++ rest) ≡ (p a || list_any p rest)
any_times p zero a rest = refl
any_times p (suc n) a rest = ap (λ b. p a || b) (any_times p n a rest) ∙ or_same (p a) (list_any p rest)

any_by : (p : ℕ → Bool) (times a : ℕ) (rest : List ℕ) → 0 < times → list_any p (replicate times a ++ rest) ≡ (p a || list_any p rest)
any_by p zero a rest some = absurd (omega arith)
any_by p (suc n) a rest some = any_times p n a rest

pub any-held : (p : ℕ → Bool) (runs : List Held) → All Holds runs → list_any p (held_by runs) ≡ list_any (λ held. p held.seq) runs
any-held p [] all = refl
any-held p (held ∷ later) all =
    any_by p held.times held.seq (held_by later) (All-head Holds held later all)
    ∙ ap (λ b. p held.seq || b) (any-held p later (All-tail Holds held later all))

-- the locks that are kept are those of the runs that are kept
filter_by : (keep : ℕ → Bool) (n a : ℕ) (rest : List ℕ) (b : Bool) → keep a ≡ b → filter keep (replicate n a ++ rest) ≡ (if b then replicate n a ++ filter keep rest else filter keep rest)
filter_by keep zero a rest true e = refl
filter_by keep zero a rest false e = refl
filter_by keep (suc n) a rest true e = rw e (ap (λ l. a ∷ l) (filter_by keep n a rest true e))
filter_by keep (suc n) a rest false e = rw e (filter_by keep n a rest false e)

left_by : (keep : ℕ → Bool) (held : Held) (later : List Held) (b : Bool) → keep held.seq ≡ b → filter keep (held_by later) ≡ held_by (filter (λ h. keep h.seq) later)
    → (if b then locks_of held ++ filter keep (held_by later) else filter keep (held_by later)) ≡ held_by (if b then held ∷ filter (λ h. keep h.seq) later else filter (λ h. keep h.seq) later)
left_by keep held later true e rest = ap (λ l. locks_of held ++ l) rest
left_by keep held later false e rest = rest

pub filter-held : (keep : ℕ → Bool) (runs : List Held) → filter keep (held_by runs) ≡ held_by (filter (λ held. keep held.seq) runs)
filter-held keep [] = refl
filter-held keep (held ∷ later) =
    filter_by keep held.times held.seq (held_by later) (keep held.seq) refl
    ∙ left_by keep held later (keep held.seq) refl (filter-held keep later)

-- one lock more, as a run of its own or in the last
pub held-last : (runs : List Held) (seq : ℕ) → held_by (runs ++ record { seq = seq; times = 1 } ∷ []) ≡ held_by runs ++ seq ∷ []
held-last [] seq = refl
held-last (held ∷ later) seq = ap (λ l. locks_of held ++ l) (held-last later seq) ∙ sym (append_assoc (locks_of held) (held_by later) (seq ∷ []))

one_more : (n seq : ℕ) → replicate (suc n) seq ++ [] ≡ (replicate n seq ++ []) ++ seq ∷ []
one_more zero seq = refl
one_more (suc n) seq = ap (λ l. seq ∷ l) (one_more n seq)

pub held-more : (runs : List Held) (place : ℕ) (d : Held) (seq times : ℕ) → place + 1 ≡ length runs → get_or runs place d ≡ record { seq = seq; times = times }
    → held_by (set runs place (record { seq = seq; times = suc times })) ≡ held_by runs ++ seq ∷ []
held-more [] place d seq times last is = absurd (omega arith)
held-more (held ∷ []) zero d seq times last is = rw is (one_more times seq)
held-more (held ∷ (next ∷ later)) zero d seq times last is = absurd (omega arith)
held-more (held ∷ later) (suc place) d seq times last is =
    ap (λ l. locks_of held ++ l) (held-more later place d seq times (omega arith) is)
    ∙ sym (append_assoc (locks_of held) (held_by later) (seq ∷ []))

-- whether a run is of a sequence
none-run : (seq : ℕ) (runs : List Held) (d : Held) → ((k : ℕ) → k < length runs → (get_or runs k d).seq ≢ seq) → list_any (λ held. held.seq == seq) runs ≡ false
none-run seq [] d none = refl
none-run seq (held ∷ later) d none =
    let other : (held.seq == seq) ≡ false = differs held.seq seq (none 0 (omega arith)) in
    rw other (none-run seq later d (λ k within. none (suc k) (omega arith)))

some-run : (seq : ℕ) (runs : List Held) (d : Held) (place : ℕ) → place < length runs → (get_or runs place d).seq ≡ seq → list_any (λ held. held.seq == seq) runs ≡ true
some-run seq [] d place within own = absurd (omega arith)
some-run seq (held ∷ later) d zero within own = rw (agrees held.seq seq own) refl
some-run seq (held ∷ later) d (suc place) within own = or_true (held.seq == seq) (some-run seq later d place (omega arith) own)

-- the last lock of a sequence stands in its last run
held_behind : (seq : ℕ) (before later : List ℕ) → is_held seq later ≡ true → released seq (before ++ later) ≡ before ++ released seq later
held_behind seq [] later held = refl
held_behind seq (x ∷ before) later held =
    let in_rest : is_held seq (before ++ later) ≡ true = list_any-append (λ holder. holder == seq) before later ∙ or_true (is_held seq before) held in
    rw (in_rest, and_false (x == seq)) (ap (λ l. x ∷ l) (held_behind seq before later held))

last_of_run : (seq n : ℕ) (later : List ℕ) → is_held seq later ≡ false → released seq (replicate (suc n) seq ++ later) ≡ replicate n seq ++ later
last_of_run seq zero later none = rw (agrees seq seq refl, none) refl
last_of_run seq (suc n) later none =
    let more : is_held seq (replicate (suc n) seq ++ later) ≡ true = any_times (λ holder. holder == seq) n seq later ∙ rw (agrees seq seq refl) refl in
    held_behind seq (seq ∷ []) (replicate (suc n) seq ++ later) more ∙ ap (λ l. seq ∷ l) (last_of_run seq n later none)

pub none-held : (seq : ℕ) (runs : List Held) (d : Held) → All Holds runs → ((k : ℕ) → k < length runs → (get_or runs k d).seq ≢ seq) → is_held seq (held_by runs) ≡ false
none-held seq runs d all none = any-held (λ holder. holder == seq) runs all ∙ none-run seq runs d none

pub some-held : (seq : ℕ) (runs : List Held) (d : Held) (place : ℕ) → All Holds runs → place < length runs → (get_or runs place d).seq ≡ seq → is_held seq (held_by runs) ≡ true
some-held seq runs d place all within own = any-held (λ holder. holder == seq) runs all ∙ some-run seq runs d place within own

released_by : (seq holder : ℕ) (later : List ℕ) (b : Bool) → (holder == seq) ≡ b → (b || is_held seq later) ≡ false → (is_held seq later ≡ false → released seq later ≡ later)
    → (if b && not (is_held seq later) then later else holder ∷ released seq later) ≡ holder ∷ later
released_by seq holder later true e none rest = absurd cc
released_by seq holder later false e none rest = ap (λ l. holder ∷ l) (rest none)

pub none-released : (seq : ℕ) (holders : List ℕ) → is_held seq holders ≡ false → released seq holders ≡ holders
none-released seq [] none = refl
none-released seq (holder ∷ later) none = released_by seq holder later (holder == seq) refl none (λ h. none-released seq later h)

pub one-less : (seq n : ℕ) (runs : List Held) (d : Held) (place : ℕ) → All Holds runs → place < length runs → get_or runs place d ≡ record { seq = seq; times = suc n }
    → ((k : ℕ) → place + 1 ≤ k → k < length runs → (get_or runs k d).seq ≢ seq)
    → released seq (held_by runs) ≡ held_by (set runs place (record { seq = seq; times = n }))
one-less seq n [] d place all within is none = absurd (omega arith)
one-less seq n (held ∷ later) d zero all within is none =
    rw is (last_of_run seq n (held_by later) (none-held seq later d (All-tail Holds held later all) (λ k below. none (suc k) (omega arith) (omega arith))))
one-less seq n (held ∷ later) d (suc place) all within is none =
    held_behind seq (locks_of held) (held_by later) (some-held seq later d place (All-tail Holds held later all) (omega arith) (ap (λ (h : Held). h.seq) is))
    ∙ ap (λ l. locks_of held ++ l) (one-less seq n later d place (All-tail Holds held later all) (omega arith) is (λ k above below. none (suc k) (omega arith) (omega arith)))

-- a run of no lock is none
pub none-left : (seq : ℕ) (runs : List Held) (place : ℕ) → place < length runs → held_by (set runs place (record { seq = seq; times = 0 })) ≡ held_by (remove runs place)
none-left seq [] place within = absurd (omega arith)
none-left seq (held ∷ later) zero within = refl
none-left seq (held ∷ later) (suc place) within = ap (λ l. locks_of held ++ l) (none-left seq later place (omega arith))

-- a run of so many locks
pub of_times : (held : Held) (seq : ℕ) → held.seq ≡ seq → 0 < held.times → held ≡ record { seq = seq; times = suc (held.times - 1) }
of_times held seq own some =
    let times : held.times ≡ suc (held.times - 1) = omega arith in
    ap (λ (s : ℕ). let h : Held = record { seq = s; times = held.times } in h) own ∙ ap (λ (t : ℕ). let h : Held = record { seq = seq; times = t } in h) times

-- there are no locks exactly if there are no runs
some_by : (times a : ℕ) (rest : List ℕ) → 0 < times → (length (replicate times a ++ rest) == 0) ≡ false
some_by zero a rest some = absurd (omega arith)
some_by (suc n) a rest some = differs (length (replicate (suc n) a ++ rest)) 0 (omega arith)

pub none-there : (runs : List Held) → All Holds runs → (length runs == 0) ≡ (length (held_by runs) == 0)
none-there [] all = refl
none-there (held ∷ later) all =
    differs (length (held ∷ later)) 0 (omega arith)
    ∙ sym (some_by held.times held.seq (held_by later) (All-head Holds held later all))
