-- Nested holders stay nested.
use Rattle.uvm_sequencer.proofs.Common.{◌≡◌, ◌<◌, ℕ, Bool, true, false, not, List, [], ◌∷◌, ◌++◌, length, filter, refl, sym, ap, ◌∙◌, arith, if◌then◌else◌, ◌==◌, ◌||◌, ◌&&◌, nat_tests, list_all, list_any, option_map_or, Start, ancestors_of, is_under, is_held, released, is_live_at, are_nested, HoldersStayNested}
use Rattle.uvm_sequencer.proofs.Granting.{lock-free}
use Rattle.uvm_sequencer.proofs.Waiting.{all-filter}

and_left : (a b : Bool) → (a && b) ≡ true → a ≡ true
and_left true b e = refl
and_left false b e = e

and_right : (a b : Bool) → (a && b) ≡ true → b ≡ true
and_right true b e = e
and_right false b e = absurd cc

both : {a b : Bool} → a ≡ true → b ≡ true → (a && b) ≡ true
both {a} {b} e f = ap (λ x. x && b) e ∙ f

-- one more of which the test holds
all-push : (p : ℕ → Bool) (xs : List ℕ) (x : ℕ) → list_all p xs ≡ true → p x ≡ true → list_all p (xs ++ x ∷ []) ≡ true
all-push p [] x all pass = both pass refl
all-push p (y ∷ xs) x all pass = both (and_left (p y) (list_all p xs) all) (all-push p xs x (and_right (p y) (list_all p xs) all) pass)

-- fewer after a lock was given back
released_by : (p : ℕ → Bool) (seq x : ℕ) (xs : List ℕ) (b : Bool) → list_all p (released seq xs) ≡ true → (p x && list_all p xs) ≡ true → list_all p (if b then xs else x ∷ released seq xs) ≡ true
released_by p seq x xs true rest all = and_right (p x) (list_all p xs) all
released_by p seq x xs false rest all = both (and_left (p x) (list_all p xs) all) rest

all-released : (p : ℕ → Bool) (seq : ℕ) (xs : List ℕ) → list_all p xs ≡ true → list_all p (released seq xs) ≡ true
all-released p seq [] all = refl
all-released p seq (x ∷ xs) all = released_by p seq x xs ((x == seq) && not (is_held seq xs)) (all-released p seq xs (and_right (p x) (list_all p xs) all)) all

module _ (started : List Start) where
  abbrev over : ℕ → ℕ → Bool
  over first holder = is_under started holder first

  nested-push : (holders : List ℕ) (seq : ℕ) → are_nested started holders ≡ true → list_all (λ holder. is_under started seq holder) holders ≡ true → are_nested started (holders ++ seq ∷ []) ≡ true
  nested-push [] seq nested under = refl
  nested-push (first ∷ later) seq nested under =
      both (all-push (over first) later seq (and_left (list_all (over first) later) (are_nested started later) nested) (and_left (is_under started seq first) (list_all (λ holder. is_under started seq holder) later) under))
      (nested-push later seq (and_right (list_all (over first) later) (are_nested started later) nested) (and_right (is_under started seq first) (list_all (λ holder. is_under started seq holder) later) under))

  nested_by : (seq first : ℕ) (later : List ℕ) (b : Bool) → (list_all (over first) later && are_nested started later) ≡ true → are_nested started (released seq later) ≡ true → are_nested started (if b then later else first ∷ released seq later) ≡ true
  nested_by seq first later true nested rest = and_right (list_all (over first) later) (are_nested started later) nested
  nested_by seq first later false nested rest = both (all-released (over first) seq later (and_left (list_all (over first) later) (are_nested started later) nested)) rest

  nested-released : (seq : ℕ) (holders : List ℕ) → are_nested started holders ≡ true → are_nested started (released seq holders) ≡ true
  nested-released seq [] nested = refl
  nested-released seq (first ∷ later) nested =
      nested_by seq first later ((first == seq) && not (is_held seq later)) nested (nested-released seq later (and_right (list_all (over first) later) (are_nested started later) nested))

  left_by : (keep : ℕ → Bool) (first : ℕ) (later : List ℕ) (b : Bool) → keep first ≡ b → (list_all (over first) later && are_nested started later) ≡ true → are_nested started (filter keep later) ≡ true → are_nested started (filter keep (first ∷ later)) ≡ true
  left_by keep first later true e nested rest = rw e (both (all-filter (over first) keep later (and_left (list_all (over first) later) (are_nested started later) nested)) rest)
  left_by keep first later false e nested rest = rw e rest

  nested-left : (keep : ℕ → Bool) (holders : List ℕ) → are_nested started holders ≡ true → are_nested started (filter keep holders) ≡ true
  nested-left keep [] nested = refl
  nested-left keep (first ∷ later) nested = left_by keep first later (keep first) refl nested (nested-left keep later (and_right (list_all (over first) later) (are_nested started later) nested))

-- one is among some ancestors
abbrev is_among : ℕ → List ℕ → Bool
is_among above ancestors = list_any (λ ancestor. ancestor == above) ancestors

-- who stands under another still does, whoever is started
out_by : (start : Start) (older : List Start) (id : ℕ) (b : Bool) → (id == length (start ∷ older)) ≡ b → length (start ∷ older) < id → ancestors_of older id ≡ []
    → (if b then option_map_or (λ parent. parent ∷ ancestors_of older parent) start.parent [] else ancestors_of older id) ≡ []
out_by start older id true e past rest = let is : id ≡ length (start ∷ older) = grind (arith, nat_tests) in absurd (omega arith)
out_by start older id false e past rest = rest

out : (started : List Start) (id : ℕ) → length started < id → ancestors_of started id ≡ []
out [] id past = refl
out (start ∷ older) id past = out_by start older id (id == length (start ∷ older)) refl past (out older id (omega arith))

own : (a : Bool) (above : ℕ) (ancestors : List ℕ) → ancestors ≡ [] → (a || is_among above ancestors) ≡ true → a ≡ true
own true above ancestors none is = refl
own false above ancestors none is = ap (is_among above) (sym none) ∙ is

under_by : (start : Start) (older : List Start) (id above : ℕ) (b : Bool) → (id == length (start ∷ older)) ≡ b → is_under older id above ≡ true
    → ((id == above) || is_among above (if b then option_map_or (λ parent. parent ∷ ancestors_of older parent) start.parent [] else ancestors_of older id)) ≡ true
under_by start older id above true e is =
    let last : id ≡ length (start ∷ older) = grind (arith, nat_tests) in
    let past : length older < id = omega arith in
    ap (λ a. a || is_among above (option_map_or (λ parent. parent ∷ ancestors_of older parent) start.parent [])) (own (id == above) above (ancestors_of older id) (out older id past) is)
under_by start older id above false e is = is

under-started : (start : Start) (older : List Start) (id above : ℕ) → is_under older id above ≡ true → is_under (start ∷ older) id above ≡ true
under-started start older id above is = under_by start older id above (id == length (start ∷ older)) refl is

all-started : (start : Start) (older : List Start) (first : ℕ) (later : List ℕ) → list_all (λ holder. is_under older holder first) later ≡ true → list_all (λ holder. is_under (start ∷ older) holder first) later ≡ true
all-started start older first [] all = refl
all-started start older first (x ∷ xs) all =
    both (under-started start older x first (and_left (is_under older x first) (list_all (λ holder. is_under older holder first) xs) all))
    (all-started start older first xs (and_right (is_under older x first) (list_all (λ holder. is_under older holder first) xs) all))

nested-started : (start : Start) (older : List Start) (holders : List ℕ) → are_nested older holders ≡ true → are_nested (start ∷ older) holders ≡ true
nested-started start older [] nested = refl
nested-started start older (first ∷ later) nested =
    both (all-started start older first later (and_left (list_all (λ holder. is_under older holder first) later) (are_nested older later) nested))
    (nested-started start older later (and_right (list_all (λ holder. is_under older holder first) later) (are_nested older later) nested))

pub holders_stay_nested : HoldersStayNested
holders_stay_nested = record {
  begins = λ started mode. refl;
  locks = λ started s seq nested is. nested-push started s.holders seq nested (lock-free started s seq is).under;
  unlocks = λ started s seq nested. nested-released started seq s.holders nested;
  leaves = λ started s seq nested. nested-left started (λ holder. not (holder == seq)) s.holders nested;
  phase_ends = λ started s steps ends nested. nested-left started (is_live_at steps) s.holders nested;
  starts = λ start started holders nested. nested-started start started holders nested;
}
