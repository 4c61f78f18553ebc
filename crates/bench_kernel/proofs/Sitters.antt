-- What stays true of the seats of sequences.
use Rattle.bench_kernel.proofs.Common.{◌≡◌, ◌≢◌, ◌∙◌, ◌<◌, ◌≤◌, ◌+◌, ℕ, zero, suc, List, [], ◌∷◌, ◌++◌, length, map, take, drop, slice_set, Option, Some, None, refl, sym, ap, subst, arith, cond, length-append, map-append, filter_map-append, IsPermutation-middle, IsPermutation-sym, sum_by-set, same_Some, Contains, count_by, is_some, cons_option, slice_index_or, IsPermutation, keys_of, Slab, Updates, get, slab_len, with_value, ContainsKey-within, Updates-with_value, Who, Sequence, SequenceSeat, AreRisingWithin, IsWithout, AreNumbered, AreSequenceSeats, IsLeft, IsNumbered, key_of, place_in, place_of, sitter_at, sitter_of, sitters_in, IfNone, IfSome, IsSome}
use Rattle.bench_kernel.specs.Numbered.{SitsAt}
use Rattle.bench_kernel.proofs.Lists.{Contains-filter_map, Contains-map}

cons-append : {Y : Type 0} (found : Option Y) (xs ys : List Y) → cons_option found (xs ++ ys) ≡ cons_option found xs ++ ys
cons-append None xs ys = refl
cons-append (Some y) xs ys = refl

-- within a list the default is not read
other-default : {X : Type 0} (xs : List X) (k : ℕ) (d e : X) → k < length xs → slice_index_or xs k d ≡ slice_index_or xs k e
other-default [] k d e within = absurd (omega (arith, within))
other-default (x ∷ xs) zero d e within = refl
other-default (x ∷ xs) (suc k) d e within = other-default xs k d e (omega (arith, within))

-- what stands at each place, after a key was added behind, or taken
read-append : (keys more : List (Option ℕ)) (place : ℕ) → place < length keys → slice_index_or (keys ++ more) place None ≡ slice_index_or keys place None
read-append [] more place within = absurd (omega (arith, within))
read-append (entry ∷ keys) more zero within = refl
read-append (entry ∷ keys) more (suc place) within = read-append keys more place (omega (arith, within))

set-empty : (keys : List (Option ℕ)) (place other : ℕ) → slice_index_or keys other None ≡ None → slice_index_or (slice_set keys place None) other None ≡ None
set-empty [] place other none = none
set-empty (entry ∷ keys) zero zero none = refl
set-empty (entry ∷ keys) zero (suc other) none = none
set-empty (entry ∷ keys) (suc place) zero none = none
set-empty (entry ∷ keys) (suc place) (suc other) none = set-empty keys place other none

length-slice_set : (keys : List (Option ℕ)) (place : ℕ) → length (slice_set keys place None) ≡ length keys
length-slice_set [] place = refl
length-slice_set (entry ∷ keys) zero = refl
length-slice_set (entry ∷ keys) (suc place) = ap suc (length-slice_set keys place)

same-slice_set : (keys : List (Option ℕ)) (place : ℕ) → slice_index_or keys place None ≡ None → slice_set keys place None ≡ keys
same-slice_set [] place none = refl
same-slice_set (entry ∷ keys) zero none = rw none refl
same-slice_set (entry ∷ keys) (suc place) none = ap (λ rest. entry ∷ rest) (same-slice_set keys place none)

-- what was written over something is counted as that was
count-set : {X : Type 0} (slots : List (Option X)) (k : ℕ) (was is : X) → k < length slots → slice_index_or slots k None ≡ Some was → count_by is_some (slice_set slots k (Some is)) ≡ count_by is_some slots
count-set slots k was is within at =
    let counts = rw at at (sum_by-set (λ slot. cond (is_some slot) 1 0) slots k (Some is) None within) in
    omega (arith, counts)

-- who was taken out, and the others, were there
pub permutation-of : {X : Type 0} (back : X) (old new : List X) → IsWithout back old new → IsPermutation (back ∷ new) old
permutation-of back old new without = rw (without.was, without.is) (IsPermutation-sym (without.front ++ back ∷ without.behind) (back ∷ (without.front ++ without.behind)) (IsPermutation-middle without.front back without.behind))

module _ {O : Type 0} where
  -- the sequence at a place has the number of the place
  pub number-at : (slab : Slab (SequenceSeat O)) (number : ℕ) (keys : List (Option ℕ)) (place key : ℕ) → AreNumbered slab number keys → slice_index_or keys place None ≡ Some key → SitsAt slab key (number + place)
  number-at slab number [] place key numbered at = let bad = at in cc
  number-at slab number (entry ∷ keys) zero key numbered at =
      let sits : SitsAt slab key number = subst (IsNumbered slab number) at numbered.0 in
      record { seat = sits.seat; there = sits.there; is = omega (arith, sits.is) }
  number-at slab number (entry ∷ keys) (suc place) key numbered at =
      let sits = number-at slab (suc number) keys place key numbered.1 at in
      record { seat = sits.seat; there = sits.there; is = omega (arith, sits.is) }

  -- the same sit where each key finds what it found
  record AreSame (slab new : Slab (SequenceSeat O)) (number : ℕ) (keys : List (Option ℕ)) : Type 0 where
    pub sitters : sitters_in new keys ≡ sitters_in slab keys
    pub numbered : AreNumbered new number keys

  record IsSame (slab new : Slab (SequenceSeat O)) (number : ℕ) (entry : Option ℕ) : Type 0 where
    pub sitter : sitter_at new entry ≡ sitter_at slab entry
    pub numbered : IsNumbered new number entry

  entry-same : (slab new : Slab (SequenceSeat O)) (number : ℕ) (entry : Option ℕ) → IsNumbered slab number entry → ((key : ℕ) → SitsAt slab key number → get new key ≡ get slab key) → IsSame slab new number entry
  entry-same slab new number None sits same = record { sitter = refl; numbered = tt }
  entry-same slab new number (Some key) sits same =
      record { sitter = rw (same key sits) refl; numbered = record { seat = sits.seat; there = same key sits ∙ sits.there; is = sits.is } }

  all-same : (slab new : Slab (SequenceSeat O)) (number : ℕ) (keys : List (Option ℕ)) → AreNumbered slab number keys → ((key other : ℕ) → number ≤ other → SitsAt slab key other → get new key ≡ get slab key)
      → AreSame slab new number keys
  all-same slab new number [] numbered same = record { sitters = refl; numbered = tt }
  all-same slab new number (entry ∷ keys) numbered same =
      let first = entry-same slab new number entry numbered.0 (λ key sits. same key number (omega arith) sits) in
      let rest = all-same slab new (suc number) keys numbered.1 (λ key other over sits. same key other (omega (arith, over)) sits) in
      record { sitters = rw (first.sitter, rest.sitters) refl; numbered = (first.numbered, rest.numbered) }

  -- there is more room
  pub AreSequenceSeats-room : (slab new : Slab (SequenceSeat O)) (keys : List (Option ℕ)) (first : ℕ) → ((key : ℕ) → get new key ≡ get slab key) → slab_len new ≡ slab_len slab → AreSequenceSeats slab keys first → AreSequenceSeats new keys first
  AreSequenceSeats-room slab new keys first same size seats =
      let all = all-same slab new 1 keys seats.numbered (λ key other over sits. same key) in
      record { numbered = all.numbered; full = ap (λ (sitters : List (Who × O)). length sitters) all.sitters ∙ seats.full ∙ sym size; within = seats.within; empty = seats.empty }

  -- one more is numbered
  numbered-append : (slab : Slab (SequenceSeat O)) (number : ℕ) (keys : List (Option ℕ)) (key : ℕ) → AreNumbered slab number keys → SitsAt slab key (number + length keys) → AreNumbered slab number (keys ++ Some key ∷ [])
  numbered-append slab number [] key numbered sits = (record { seat = sits.seat; there = sits.there; is = omega (arith, sits.is) }, tt)
  numbered-append slab number (entry ∷ keys) key numbered sits =
      (numbered.0, numbered-append slab (suc number) keys key numbered.1 (record { seat = sits.seat; there = sits.there; is = omega (arith, sits.is) }))

  -- the seats with one more
  module _ (slab new : Slab (SequenceSeat O)) (keys : List (Option ℕ)) (first key : ℕ) (seat : SequenceSeat O) (free : get slab key ≡ None) (seated : Updates slab new key (Some seat)) (next : seat.id ≡ length keys + 1)
      (more : slab_len new ≡ slab_len slab + 1) (seats : AreSequenceSeats slab keys first) where
    all-stay : AreSame slab new 1 keys
    all-stay =
        all-same slab new 1 keys seats.numbered
        (λ other number over sits. seated.others other (λ e. let bad = sym (ap (get slab) e ∙ free) ∙ sits.there in cc))

    pub sitters-insert : sitters_in new (keys ++ Some key ∷ []) ≡ sitters_in slab keys ++ sitter_of seat ∷ []
    sitters-insert = filter_map-append (sitter_at new) keys (Some key ∷ []) ∙ (rw (all-stay.sitters, seated.changed) refl)

    pub AreSequenceSeats-insert : AreSequenceSeats new (keys ++ Some key ∷ []) first
    AreSequenceSeats-insert = record {
      numbered = numbered-append new 1 keys key all-stay.numbered (record { seat = seat; there = seated.changed; is = omega (arith, next) });
      full =
          let sitters : length (sitters_in new (keys ++ Some key ∷ [])) ≡ length (sitters_in slab keys) + 1 =
          ap (λ (sitters : List (Who × O)). length sitters) sitters-insert ∙ length-append (sitters_in slab keys) (sitter_of seat ∷ []) in
          omega (arith, sitters, seats.full, more);
      within = let size : length (keys ++ Some key ∷ []) ≡ length keys + 1 = length-append keys (Some key ∷ []) in omega (arith, size, seats.within);
      empty = λ place below. read-append keys (Some key ∷ []) place (omega (arith, below, seats.within)) ∙ seats.empty place below;
    }

  -- the seats around the one at a place
  was-around : (slab : Slab (SequenceSeat O)) (keys : List (Option ℕ)) (place key : ℕ) (seat : SequenceSeat O) → slice_index_or keys place None ≡ Some key → get slab key ≡ Some seat
      → sitters_in slab keys ≡ sitters_in slab (take place keys) ++ sitter_of seat ∷ sitters_in slab (drop (suc place) keys)
  was-around slab [] place key seat at there = let bad = at in cc
  was-around slab (entry ∷ keys) zero key seat at there = rw (at, there) refl
  was-around slab (entry ∷ keys) (suc place) key seat at there =
      ap (cons_option (sitter_at slab entry)) (was-around slab keys place key seat at there)
      ∙ cons-append (sitter_at slab entry) (sitters_in slab (take place keys)) (sitter_of seat ∷ sitters_in slab (drop (suc place) keys))

  -- what the seat at a key has changed to, and the others are what they were
  module _ (slab new : Slab (SequenceSeat O)) (key : ℕ) (seat : SequenceSeat O) (there : get slab key ≡ Some seat) (others : (other : ℕ) → other ≢ key → get new other ≡ get slab other) where
    unlike : (other number : ℕ) → SitsAt slab other number → seat.id ≢ number → other ≢ key
    unlike other number sits apart e = apart (ap (λ (s : SequenceSeat O). s.id) (same_Some seat sits.seat (sym there ∙ ap (get slab) (sym e) ∙ sits.there)) ∙ sits.is)

    later-stay : (number : ℕ) (keys : List (Option ℕ)) → seat.id < number → AreNumbered slab number keys → AreSame slab new number keys
    later-stay number keys below numbered = all-same slab new number keys numbered (λ other at over sits. others other (unlike other at sits (λ e. omega (arith, e, over, below))))

    earlier-stays : (number : ℕ) (entry : Option ℕ) → number < seat.id → IsNumbered slab number entry → IsSame slab new number entry
    earlier-stays number entry below numbered = entry-same slab new number entry numbered (λ other sits. others other (unlike other number sits (λ e. omega (arith, e, below))))

    record IsEmptied (number : ℕ) (keys : List (Option ℕ)) (place : ℕ) : Type 0 where
      pub sitters : sitters_in new (slice_set keys place None) ≡ sitters_in slab (take place keys) ++ sitters_in slab (drop (suc place) keys)
      pub numbered : AreNumbered new number (slice_set keys place None)

    emptied : (number : ℕ) (keys : List (Option ℕ)) (place : ℕ) → slice_index_or keys place None ≡ Some key → seat.id ≡ number + place → AreNumbered slab number keys → IsEmptied number keys place
    emptied number [] place at is numbered = let bad = at in cc
    emptied number (entry ∷ keys) zero at is numbered =
        let later = later-stay (suc number) keys (omega (arith, is)) numbered.1 in
        record { sitters = later.sitters; numbered = (tt, later.numbered) }
    emptied number (entry ∷ keys) (suc place) at is numbered =
        let first = earlier-stays number entry (omega (arith, is)) numbered.0 in
        let rest = emptied (suc number) keys place at (omega (arith, is)) numbered.1 in
        record {
          sitters =
              ap (λ found. cons_option found (sitters_in new (slice_set keys place None))) first.sitter
              ∙ ap (cons_option (sitter_at slab entry)) rest.sitters
              ∙ cons-append (sitter_at slab entry) (sitters_in slab (take place keys)) (sitters_in slab (drop (suc place) keys));
          numbered = (first.numbered, rest.numbered);
        }

    module _ (other : SequenceSeat O) (changed : get new key ≡ Some other) (same : other.id ≡ seat.id) where
      record IsRewritten (number : ℕ) (keys : List (Option ℕ)) (place : ℕ) : Type 0 where
        pub sitters : sitters_in new keys ≡ sitters_in slab (take place keys) ++ sitter_of other ∷ sitters_in slab (drop (suc place) keys)
        pub numbered : AreNumbered new number keys

      rewritten : (number : ℕ) (keys : List (Option ℕ)) (place : ℕ) → slice_index_or keys place None ≡ Some key → seat.id ≡ number + place → AreNumbered slab number keys → IsRewritten number keys place
      rewritten number [] place at is numbered = let bad = at in cc
      rewritten number (entry ∷ keys) zero at is numbered =
          let later = later-stay (suc number) keys (omega (arith, is)) numbered.1 in
          record {
            sitters = rw (at, changed, later.sitters) refl;
            numbered = (subst (IsNumbered new number) (sym at) (record { seat = other; there = changed; is = omega (arith, same, is) }), later.numbered);
          }
      rewritten number (entry ∷ keys) (suc place) at is numbered =
          let first = earlier-stays number entry (omega (arith, is)) numbered.0 in
          let rest = rewritten (suc number) keys place at (omega (arith, is)) numbered.1 in
          record {
            sitters =
                ap (λ found. cons_option found (sitters_in new keys)) first.sitter
                ∙ ap (cons_option (sitter_at slab entry)) rest.sitters
                ∙ cons-append (sitter_at slab entry) (sitters_in slab (take place keys)) (sitter_of other ∷ sitters_in slab (drop (suc place) keys));
            numbered = (first.numbered, rest.numbered);
          }

  -- who sits at a place has its number
  id-at : (slab : Slab (SequenceSeat O)) (keys : List (Option ℕ)) (place key : ℕ) (seat : SequenceSeat O) → AreNumbered slab 1 keys → slice_index_or keys place None ≡ Some key → get slab key ≡ Some seat → seat.id ≡ suc place
  id-at slab keys place key seat numbered at there =
      let sits = number-at slab 1 keys place key numbered at in
      let same : sits.seat.id ≡ seat.id = ap (λ (s : SequenceSeat O). s.id) (same_Some sits.seat seat (sym sits.there ∙ there)) in
      omega (arith, same, sits.is)

  -- a component or sequence leaves
  pub leaves : (slab new : Slab (SequenceSeat O)) (keys : List (Option ℕ)) (place key : ℕ) (seat : SequenceSeat O) → AreNumbered slab 1 keys → slice_index_or keys place None ≡ Some key → get slab key ≡ Some seat → Updates slab new key None
      → slab_len new + 1 ≡ slab_len slab → IsLeft (sitter_of seat) slab new keys place
  leaves slab new keys place key seat numbered at there freed fewer =
      let id = id-at slab keys place key seat numbered at there in
      let rest = emptied slab new key seat there freed.others 1 keys place at (omega (arith, id)) numbered in
      record { found = rw (at, there) refl; was = was-around slab keys place key seat at there; is = rest.sitters; numbered = rest.numbered; fewer = fewer }

  pub AreSequenceSeats-left : (back : Who × O) (slab new : Slab (SequenceSeat O)) (keys : List (Option ℕ)) (first place : ℕ) → first ≤ length keys → ((other : ℕ) → other < first → slice_index_or keys other None ≡ None)
      → length (sitters_in slab keys) ≡ slab_len slab → IsLeft back slab new keys place → AreSequenceSeats new (slice_set keys place None) first
  AreSequenceSeats-left back slab new keys first place within empty full left = record {
    numbered = left.numbered;
    full =
        let front = sitters_in slab (take place keys) in
        let behind = sitters_in slab (drop (suc place) keys) in
        let was : length (sitters_in slab keys) ≡ length front + length (back ∷ behind) = ap (λ (sitters : List (Who × O)). length sitters) left.was ∙ length-append front (back ∷ behind) in
        let is : length (sitters_in new (slice_set keys place None)) ≡ length front + length behind = ap (λ (sitters : List (Who × O)). length sitters) left.is ∙ length-append front behind in
        omega (arith, was, is, full, left.fewer);
    within = let size = length-slice_set keys place in omega (arith, size, within);
    empty = λ other below. set-empty keys place other (empty other below);
  }

  -- no component or sequence sits where there are no keys
  none-before : (slab : Slab (SequenceSeat O)) (keys : List (Option ℕ)) (place : ℕ) → ((other : ℕ) → other < place → slice_index_or keys other None ≡ None) → sitters_in slab (take place keys) ≡ []
  none-before slab [] zero empty = refl
  none-before slab [] (suc place) empty = refl
  none-before slab (entry ∷ keys) zero empty = refl
  none-before slab (entry ∷ keys) (suc place) empty =
      let none : entry ≡ None = empty 0 (omega arith) in
      let rest = none-before slab keys place (λ other below. empty (suc other) (omega (arith, below))) in
      rw (none, rest) refl

  none-at-all : (slab : Slab (SequenceSeat O)) (keys : List (Option ℕ)) → ((other : ℕ) → other < length keys → slice_index_or keys other None ≡ None) → sitters_in slab keys ≡ []
  none-at-all slab [] empty = refl
  none-at-all slab (entry ∷ keys) empty =
      let none : entry ≡ None = empty 0 (omega arith) in
      let rest = none-at-all slab keys (λ other below. empty (suc other) (omega (arith, below))) in
      rw (none, rest) refl

  -- the first leaves
  first-left : (back : Who × O) (slab new : Slab (SequenceSeat O)) (keys : List (Option ℕ)) (place : ℕ) → ((other : ℕ) → other < place → slice_index_or keys other None ≡ None) → IsLeft back slab new keys place
      → sitters_in slab keys ≡ back ∷ sitters_in new (slice_set keys place None)
  first-left back slab new keys place empty left =
      let none = none-before slab keys place empty in
      let was : sitters_in slab keys ≡ back ∷ sitters_in slab (drop (suc place) keys) = rw none at left.was in
      let is : sitters_in new (slice_set keys place None) ≡ sitters_in slab (drop (suc place) keys) = rw none at left.is in
      was ∙ ap (λ rest. back ∷ rest) (sym is)

  pub some-left : (result : Option (Who × O)) (slab new : Slab (SequenceSeat O)) (keys left : List (Option ℕ)) (place : ℕ) → left ≡ slice_set keys place None → ((other : ℕ) → other < place → slice_index_or keys other None ≡ None)
      → IfSome result (λ back. IsLeft back slab new keys place) → IfSome result (λ back. sitters_in slab keys ≡ back ∷ sitters_in new left)
  some-left None slab new keys left place written empty some = tt
  some-left (Some back) slab new keys left place written empty some = rw written (first-left back slab new keys place empty some)

  pub none-left : (result : Option (Who × O)) (slab : Slab (SequenceSeat O)) (keys : List (Option ℕ)) (place : ℕ) → ((other : ℕ) → other < place → slice_index_or keys other None ≡ None)
      → (place < length keys → IsSome (slice_index_or keys place None)) → place ≤ length keys → IfNone result (slice_index_or keys place None ≡ None) → IfNone result (sitters_in slab keys ≡ [])
  none-left None slab keys place empty key within none =
      let end : (place < length keys) → ⊥ = λ below. let bad = rw none at (key below) in cc in
      none-at-all slab keys (λ other below. empty other (omega (arith, below, within, end)))
  none-left (Some back) slab keys place empty key within none = tt

  -- whether or not a component or sequence left
  pub AreSequenceSeats-pop : (result : Option (Who × O)) (slab new : Slab (SequenceSeat O)) (keys left : List (Option ℕ)) (first place : ℕ) → left ≡ slice_set keys place None → ((other : ℕ) → other < place → slice_index_or keys other None ≡ None)
      → place ≤ length keys → IfSome result (λ back. IsLeft back slab new keys place) → IfNone result (slice_index_or keys place None ≡ None) → IfNone result (new ≡ slab) → AreSequenceSeats slab keys first → AreSequenceSeats new left place
  AreSequenceSeats-pop None slab new keys left first place written empty within some none same seats =
      rw (same, written ∙ same-slice_set keys place none) (record { numbered = seats.numbered; full = seats.full; within = within; empty = empty })
  AreSequenceSeats-pop (Some back) slab new keys left first place written empty within some none same seats =
      rw written (AreSequenceSeats-left back slab new keys place place within empty seats.full some)

  -- their numbers rise
  pub rising : (slab : Slab (SequenceSeat O)) (low high number : ℕ) (keys : List (Option ℕ)) → low < number → number + length keys ≤ suc high → AreNumbered slab number keys → AreRisingWithin low high (keys_of (sitters_in slab keys))
  rising slab low high number [] below over numbered = tt
  rising slab low high number (None ∷ keys) below over numbered = rising slab low high (suc number) keys (omega (arith, below)) (omega (arith, over)) numbered.1
  rising slab low high number (Some key ∷ keys) below over numbered =
      let sits = numbered.0 in
      rw sits.there (omega (arith, sits.is, below), omega (arith, sits.is, over), rising slab sits.seat.id high (suc number) keys (omega (arith, sits.is)) (omega (arith, over)) numbered.1)

  -- the seat of a component or sequence who sits
  pub record HasSeat (slab : Slab (SequenceSeat O)) (keys : List (Option ℕ)) (who : Who) : Type 0 where
    pub place : ℕ
    pub key : ℕ
    pub seat : SequenceSeat O
    pub at : slice_index_or keys place None ≡ Some key
    pub there : get slab key ≡ Some seat
    pub id : seat.id ≡ suc place
    pub sits : Sequence seat.home seat.id ≡ who
    pub found : place_of who ≡ Some place

  seat-by : (slab : Slab (SequenceSeat O)) (keys : List (Option ℕ)) (who : Who) (held : Who × O) (entry : Option ℕ) → AreNumbered slab 1 keys → held.0 ≡ who → Contains keys entry → sitter_at slab entry ≡ Some held → HasSeat slab keys who
  seat-by slab keys who held None numbered is contained found = let bad = found in cc
  seat-by slab keys who held (Some key) numbered is contained found =
      let at : slice_index_or keys contained.0 None ≡ Some key = other-default keys contained.0 None (Some key) contained.1 ∙ contained.2 in
      let sits = number-at slab 1 keys contained.0 key numbered at in
      let same : sitter_of sits.seat ≡ held = same_Some (sitter_of sits.seat) held (rw sits.there at found) in
      let who_is : Sequence sits.seat.home sits.seat.id ≡ who = ap (λ (h : Who × O). h.0) same ∙ is in
      let id : sits.seat.id ≡ suc contained.0 = omega (arith, sits.is) in
      record { place = contained.0; key = key; seat = sits.seat; at = at; there = sits.there; id = id; sits = who_is; found = ap place_of (sym who_is) ∙ ap place_in id }

  pub seat-of : (slab : Slab (SequenceSeat O)) (keys : List (Option ℕ)) (who : Who) → AreNumbered slab 1 keys → Contains (keys_of (sitters_in slab keys)) who → HasSeat slab keys who
  seat-of slab keys who numbered sits =
      let held = Contains-map (λ (held : Who × O). held.0) (sitters_in slab keys) who sits in
      let entry = Contains-filter_map (sitter_at slab) keys held.0 held.1 in
      seat-by slab keys who held.0 entry.0 numbered held.2 entry.1 entry.2

  pub key-of-seat : (slab : Slab (SequenceSeat O)) (keys : List (Option ℕ)) (who : Who) (seat : HasSeat slab keys who) → key_of keys who ≡ Some seat.key
  key-of-seat slab keys who seat = rw seat.found seat.at

  -- who leaves the place of a component or sequence is that one
  pub same-left : (back : Who × O) (slab new : Slab (SequenceSeat O)) (keys : List (Option ℕ)) (who : Who) (place : ℕ) → place_of who ≡ Some place → AreNumbered slab 1 keys → Contains (keys_of (sitters_in slab keys)) who
      → IsLeft back slab new keys place → back.0 ≡ who
  same-left back slab new keys who place found numbered sits left =
      let seat = seat-of slab keys who numbered sits in
      let same_place : seat.place ≡ place = same_Some seat.place place (sym seat.found ∙ found) in
      let at : sitter_at slab (slice_index_or keys place None) ≡ Some (sitter_of seat.seat) = rw (← same_place, seat.at, seat.there) refl in
      let same : sitter_of seat.seat ≡ back = same_Some (sitter_of seat.seat) back (sym at ∙ left.found) in
      sym (ap (λ (h : Who × O). h.0) same) ∙ seat.sits

  -- the seats after another object was put in the place of one
  module _ (slab : Slab (SequenceSeat O)) (keys : List (Option ℕ)) (first place key : ℕ) (seat : SequenceSeat O) (object : O) (at : slice_index_or keys place None ≡ Some key) (there : get slab key ≡ Some seat)
      (seats : AreSequenceSeats slab keys first) where
    abbrev other : SequenceSeat O
    other = record { home = seat.home; id = seat.id; object = object }

    abbrev written : Slab (SequenceSeat O)
    written = with_value slab key other

    write : Updates slab written key (Some other)
    write = Updates-with_value slab key other (rw there refl)

    after : IsRewritten slab written key seat there write.others other write.changed refl 1 keys place
    after = rewritten slab written key seat there write.others other write.changed refl 1 keys place at (omega (arith, id-at slab keys place key seat seats.numbered at there)) seats.numbered

    pub record IsWritten (front behind : List (Who × O)) : Type 0 where
      pub was : sitters_in slab keys ≡ front ++ sitter_of seat ∷ behind
      pub is : sitters_in written keys ≡ front ++ sitter_of other ∷ behind

    pub sitters-write : IsWritten (sitters_in slab (take place keys)) (sitters_in slab (drop (suc place) keys))
    sitters-write = record { was = was-around slab keys place key seat at there; is = after.sitters }

    pub keys-write : keys_of (sitters_in written keys) ≡ keys_of (sitters_in slab keys)
    keys-write =
        let by-key : Who × O → Who = λ held. held.0 in
        let front = sitters_in slab (take place keys) in
        let behind = sitters_in slab (drop (suc place) keys) in
        ap (map by-key) sitters-write.is
        ∙ map-append by-key front (sitter_of other ∷ behind)
        ∙ sym (map-append by-key front (sitter_of seat ∷ behind))
        ∙ ap (map by-key) (sym sitters-write.was)

    pub AreSequenceSeats-write : AreSequenceSeats written keys first
    AreSequenceSeats-write = record {
      numbered = after.numbered;
      full =
          let front = sitters_in slab (take place keys) in
          let behind = sitters_in slab (drop (suc place) keys) in
          let was : length (sitters_in slab keys) ≡ length front + length (sitter_of seat ∷ behind) = ap (λ (sitters : List (Who × O)). length sitters) sitters-write.was ∙ length-append front (sitter_of seat ∷ behind) in
          let is : length (sitters_in written keys) ≡ length front + length (sitter_of other ∷ behind) = ap (λ (sitters : List (Who × O)). length sitters) sitters-write.is ∙ length-append front (sitter_of other ∷ behind) in
          let size : slab_len written ≡ slab_len slab = count-set slab.slots key seat other (ContainsKey-within slab key (rw there refl)) there in
          omega (arith, was, is, size, seats.full);
      within = seats.within;
      empty = seats.empty;
    }
