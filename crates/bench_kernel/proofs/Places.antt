-- What stays true of the seats.
use Rattle.bench_kernel.proofs.Common.{◌≡◌, ◌≢◌, ◌∙◌, ℕ, Bool, true, false, nat_eq, cond, List, ◌∷◌, length, map, remove, get_or, Option, Some, None, refl, sym, ap, subst, arith, nat_tests, All-cons, All-contains, All-head, All-tail, All-map, All-weaker, All-permutation, IsPermutation-map, IsPermutation-remove, IsPermutation-sym, IsDistinct-cons, IsDistinct-head, IsDistinct-tail, IsDistinct-IsPermutation, same_Some, All, Contains, IsDistinct, IsPermutation, keys_of, lookup, IsHeap, IsUpperBound, is_lt, nat_cmp, ordering_then, Ordering, Less, Equal, Greater, down_cmp, Slab, get, with_value, Updates, Updates-with_value, node_of, Who, Node, Seat, Taken, held_in, AreSeats, IsSeat, Place, place_cmp, seat_at, taken_in, IsSome}
use Rattle.bench_kernel.specs.Places.{SitsAt}
use Rattle.bench_kernel.proofs.Numbers.{apart-eq, eq-apart, eq-flips, eq-self}
use Rattle.bench_kernel.proofs.Lists.{All-filter_map, All-from_recursion, All-places, All-unmap, Contains-filter_map, Contains-map, filter_map-IsPermutation, filter_map-same, length-filter_map, recursion-from_All}

module _ {O : Type 0} where
  -- at each place a component or sequence is found
  all-found : (slab : Slab (Seat O)) (table : List (ℕ × ℕ)) (places : List Place) → All (λ place. IsSeat slab table place.1) places → All (λ place. IsSome (seat_at slab place)) places
  all-found slab table places seated =
      All-weaker (λ (place : Place). IsSeat slab table place.1) (λ place. IsSome (seat_at slab place)) (λ place seat. rw seat.there refl) places seated

  pub length-taken_in : (slab : Slab (Seat O)) (table : List (ℕ × ℕ)) (places : List Place) → AreSeats slab table places → length (taken_in slab places) ≡ length places
  length-taken_in slab table places seats = length-filter_map (seat_at slab) places (all-found slab table places seats.seated)

  -- where each key finds what it found, the same seats are taken
  taken_in-same : (slab new : Slab (Seat O)) (places : List Place) → All (λ place. get new place.1 ≡ get slab place.1) places → taken_in new places ≡ taken_in slab places
  taken_in-same slab new places same =
      filter_map-same (seat_at slab) (seat_at new) places
      (All-weaker (λ (place : Place). get new place.1 ≡ get slab place.1) (λ place. seat_at new place ≡ seat_at slab place) (λ place e. rw e refl) places same)

  -- there is more room
  pub AreSeats-room : (slab new : Slab (Seat O)) (table more : List (ℕ × ℕ)) (places : List Place) → ((key : ℕ) → get new key ≡ get slab key) → ((node : ℕ) → lookup (nat_eq node) more ≡ lookup (nat_eq node) table)
      → AreSeats slab table places → AreSeats new more places
  AreSeats-room slab new table more places same found seats = record {
    heap = seats.heap;
    seated =
        All-weaker (λ (place : Place). IsSeat slab table place.1) (λ place. IsSeat new more place.1)
        (λ place seat. record { seat = seat.seat; there = same place.1 ∙ seat.there; found = found seat.seat.node ∙ seat.found }) places seats.seated;
    apart = seats.apart;
    exact = λ node key at. let was = seats.exact node key (sym (found node) ∙ at) in record { seat = was.seat; there = same key ∙ was.there; is = was.is };
  }

  pub taken_in-room : (slab new : Slab (Seat O)) (places : List Place) → ((key : ℕ) → get new key ≡ get slab key) → taken_in new places ≡ taken_in slab places
  taken_in-room slab new places same = taken_in-same slab new places (λ k d h. same _)

  -- the seats with one more
  module _ (slab new : Slab (Seat O)) (table more : List (ℕ × ℕ)) (places next : List Place) (path : List (List ℕ)) (sitter : ℕ) (object : O) (key : ℕ)
      (free : get slab key ≡ None) (seated : Updates slab new key (Some (record { node = sitter; object = object })))
      (found : (node : ℕ) → lookup (nat_eq node) more ≡ cond (nat_eq sitter node) (Some key) (lookup (nat_eq node) table))
      (same : IsPermutation ((record { 0 = path }, key) ∷ places) next) (fresh : All (λ other. other ≢ Node sitter) (keys_of (held_in (taken_in slab places)))) (seats : AreSeats slab table places) where
    abbrev first : Place
    first = (record { 0 = path }, key)

    others-differ : All (λ (taken : Taken O). Node taken.node ≢ Node sitter) (taken_in slab places)
    others-differ =
        All-unmap (λ (held : Who × O). held.0 ≢ Node sitter) (λ (taken : Taken O). (Node taken.node, taken.object)) (taken_in slab places)
        (All-unmap (λ other. other ≢ Node sitter) (λ (held : Who × O). held.0) (held_in (taken_in slab places)) fresh)

    -- each of the others is who was there
    other-same : All (λ place. (get new place.1 ≡ get slab place.1) × IsSeat new more place.1) places
    other-same k d h = go (get_or places k d) (seats.seated k d h) (All-places (seat_at slab) (λ seat. Node seat.node ≢ Node sitter) places others-differ k d h)
      where
        go : (place : Place) → IsSeat slab table place.1 → ((taken : Taken O) → seat_at slab place ≡ Some taken → Node taken.node ≢ Node sitter) → (get new place.1 ≡ get slab place.1) × IsSeat new more place.1
        go place seat unlike =
            let other : place.1 ≢ key = λ e. let bad = sym (ap (get slab) e ∙ free) ∙ seat.there in cc in
            let stays : get new place.1 ≡ get slab place.1 = seated.others place.1 other in
            let apart : sitter ≢ seat.seat.node = λ e. unlike (record { path = place.0.0; node = seat.seat.node; object = seat.seat.object }) (rw seat.there refl) (ap Node (sym e)) in
            (stays, record { seat = seat.seat; there = stays ∙ seat.there; found = found seat.seat.node ∙ (rw (eq-apart sitter seat.seat.node apart) seat.found) })

    all-seated : All (λ place. IsSeat new more place.1) (first ∷ places)
    all-seated =
        All-cons (λ place. IsSeat new more place.1) first places (record { seat = record { node = sitter; object = object }; there = seated.changed; found = found sitter ∙ (rw (eq-self sitter) refl) })
        (λ k d h. (other-same k d h).1)

    keys-apart : IsDistinct nat_eq (key ∷ map (λ place. place.1) places)
    keys-apart =
        IsDistinct-cons nat_eq key (map (λ place. place.1) places)
        (recursion-from_All (λ y. nat_eq key y ≡ false) (map (λ place. place.1) places)
        (All-map (λ y. nat_eq key y ≡ false) (λ (place : Place). place.1) places
        (All-weaker (λ (place : Place). IsSeat slab table place.1) (λ place. nat_eq key place.1 ≡ false)
        (λ place seat. eq-apart key place.1 (λ e. let bad = sym (ap (get slab) (sym e) ∙ free) ∙ seat.there in cc)) places seats.seated)))
        seats.apart

    exact-more : (node at : ℕ) → lookup (nat_eq node) more ≡ Some at → SitsAt new at node
    exact-more node at leads = go (nat_eq sitter node) refl
      where
        go : (b : Bool) → nat_eq sitter node ≡ b → SitsAt new at node
        go true e =
            let is : sitter ≡ node = grind (arith, nat_tests) in
            let same_key : key ≡ at = same_Some key at (sym (rw e at (found node)) ∙ leads) in
            record { seat = record { node = sitter; object = object }; there = rw (← same_key) seated.changed; is = is }
        go false e =
            let was = seats.exact node at (sym (rw e at (found node)) ∙ leads) in
            let other : at ≢ key = λ same_key. let bad = sym (ap (get slab) same_key ∙ free) ∙ was.there in cc in
            record { seat = was.seat; there = seated.others at other ∙ was.there; is = was.is }

    pub AreSeats-insert : IsHeap place_cmp next → AreSeats new more next
    AreSeats-insert heap = record {
      heap = heap;
      seated = All-permutation (λ place. IsSeat new more place.1) (first ∷ places) next same all-seated;
      apart =
          IsDistinct-IsPermutation nat_eq eq-flips (key ∷ map (λ place. place.1) places) (map (λ place. place.1) next)
          (IsPermutation-map (λ (place : Place). place.1) (first ∷ places) next same) keys-apart;
      exact = exact-more;
    }

    pub taken_in-insert : IsPermutation (record { path = path; node = sitter; object = object } ∷ taken_in slab places) (taken_in new next)
    taken_in-insert =
        let taken : Taken O = record { path = path; node = sitter; object = object } in
        let others : taken_in new places ≡ taken_in slab places = taken_in-same slab new places (λ k d h. (other-same k d h).0) in
        let front : taken_in new (first ∷ places) ≡ taken ∷ taken_in slab places = rw (seated.changed, others) refl in
        rw (← front) (filter_map-IsPermutation (seat_at new) taken (first ∷ places) next (all-found new more (first ∷ places) all-seated) same)

  -- the seats with one less
  module _ (slab new : Slab (Seat O)) (table more : List (ℕ × ℕ)) (places next : List Place) (place : Place) (seat : Seat O)
      (same : IsPermutation places (place ∷ next)) (there : get slab place.1 ≡ Some seat) (freed : Updates slab new place.1 None)
      (found : (node : ℕ) → lookup (nat_eq node) more ≡ cond (nat_eq seat.node node) None (lookup (nat_eq node) table)) (seats : AreSeats slab table places) where
    were-seated : All (λ place. IsSeat slab table place.1) (place ∷ next)
    were-seated = All-permutation (λ place. IsSeat slab table place.1) places (place ∷ next) same seats.seated

    were-apart : IsDistinct nat_eq (place.1 ∷ map (λ place. place.1) next)
    were-apart =
        IsDistinct-IsPermutation nat_eq eq-flips (map (λ place. place.1) places) (place.1 ∷ map (λ place. place.1) next)
        (IsPermutation-map (λ (place : Place). place.1) places (place ∷ next) same) seats.apart

    others-apart : All (λ other. nat_eq place.1 other.1 ≡ false) next
    others-apart = All-unmap (λ y. nat_eq place.1 y ≡ false) (λ (place : Place). place.1) next
        (All-from_recursion (λ y. nat_eq place.1 y ≡ false) (map (λ place. place.1) next) (IsDistinct-head nat_eq place.1 (map (λ place. place.1) next) were-apart))

    found-there : lookup (nat_eq seat.node) table ≡ Some place.1
    found-there =
        let was = All-head (λ place. IsSeat slab table place.1) place next were-seated in
        let same_seat : was.seat ≡ seat = same_Some was.seat seat (sym was.there ∙ there) in
        rw (← same_seat) was.found

    -- each of the others is who was there
    other-stays : All (λ other. (get new other.1 ≡ get slab other.1) × IsSeat new more other.1) next
    other-stays k d h = go (get_or next k d) (All-tail (λ place. IsSeat slab table place.1) place next were-seated k d h) (others-apart k d h)
      where
        go : (other : Place) → IsSeat slab table other.1 → nat_eq place.1 other.1 ≡ false → (get new other.1 ≡ get slab other.1) × IsSeat new more other.1
        go other was apart =
            let unlike : other.1 ≢ place.1 = λ e. apart-eq place.1 other.1 apart (sym e) in
            let stays : get new other.1 ≡ get slab other.1 = freed.others other.1 unlike in
            let elsewhere : seat.node ≢ was.seat.node = λ e. unlike (same_Some other.1 place.1 (sym was.found ∙ ap (λ n. lookup (nat_eq n) table) (sym e) ∙ found-there)) in
            (stays, record { seat = was.seat; there = stays ∙ was.there; found = found was.seat.node ∙ (rw (eq-apart seat.node was.seat.node elsewhere) was.found) })

    exact-less : (node at : ℕ) → lookup (nat_eq node) more ≡ Some at → SitsAt new at node
    exact-less node at leads = go (nat_eq seat.node node) refl
      where
        go : (b : Bool) → nat_eq seat.node node ≡ b → SitsAt new at node
        go true e = let bad = sym (rw e at (found node)) ∙ leads in cc
        go false e =
            let was = seats.exact node at (sym (rw e at (found node)) ∙ leads) in
            let unlike : at ≢ place.1 = λ same_key. apart-eq seat.node node e (ap (λ (s : Seat O). s.node) (same_Some seat was.seat (sym there ∙ ap (get slab) (sym same_key) ∙ was.there)) ∙ was.is) in
            record { seat = was.seat; there = freed.others at unlike ∙ was.there; is = was.is }

    pub AreSeats-pop : IsHeap place_cmp next → AreSeats new more next
    AreSeats-pop heap = record {
      heap = heap;
      seated = λ k d h. (other-stays k d h).1;
      apart = IsDistinct-tail nat_eq place.1 (map (λ place. place.1) next) were-apart;
      exact = exact-less;
    }

    pub taken_in-pop : IsPermutation (record { path = place.0.0; node = seat.node; object = seat.object } ∷ taken_in new next) (taken_in slab places)
    taken_in-pop =
        let taken : Taken O = record { path = place.0.0; node = seat.node; object = seat.object } in
        let others : taken_in new next ≡ taken_in slab next = taken_in-same slab new next (λ k d h. (other-stays k d h).0) in
        let front : taken_in slab (place ∷ next) ≡ taken ∷ taken_in new next = rw (there, others) refl in
        rw (← front) (IsPermutation-sym (taken_in slab places) (taken_in slab (place ∷ next)) (filter_map-IsPermutation (seat_at slab) taken places (place ∷ next) (all-found slab table places seats.seated) same))

  -- of the places that are left none has a path before that of the greatest
  pub least-of : (slab : Slab (Seat O)) (place : Place) (next : List Place) → IsUpperBound place_cmp place next → All (λ (taken : Taken O). is_lt (down_cmp taken.path place.0.0) ≡ false) (taken_in slab next)
  least-of slab place next bound =
      All-filter_map (seat_at slab) (λ other. is_lt (place_cmp place other) ≡ false) (λ taken. is_lt (down_cmp taken.path place.0.0) ≡ false) next
      (λ other taken at low. path-of other taken (get slab other.1) refl at (not-lt (down_cmp other.0.0 place.0.0) (nat_cmp place.1 other.1) low))
      (All-from_recursion (λ other. is_lt (place_cmp place other) ≡ false) next bound)
    where
      not-lt : (o p : Ordering) → is_lt (ordering_then o p) ≡ false → is_lt o ≡ false
      not-lt Less p e = e
      not-lt Equal p e = refl
      not-lt Greater p e = refl

      path-of : (other : Place) (taken : Taken O) (found : Option (Seat O)) → get slab other.1 ≡ found → seat_at slab other ≡ Some taken → is_lt (down_cmp other.0.0 place.0.0) ≡ false
          → is_lt (down_cmp taken.path place.0.0) ≡ false
      path-of other taken None is at low = let bad = rw is at at in cc
      path-of other taken (Some seat) is at low =
          let same : other.0.0 ≡ taken.path = ap (λ (t : Taken O). t.path) (same_Some (record { path = other.0.0; node = seat.node; object = seat.object }) taken (rw is at at)) in
          subst (λ p. is_lt (down_cmp p place.0.0) ≡ false) same low

  -- the place of a component or sequence who sits
  pub record HasPlace (slab : Slab (Seat O)) (table : List (ℕ × ℕ)) (places : List Place) (who : Who) : Type 0 where
    pub place : Place
    pub others : List Place
    pub is : IsPermutation places (place ∷ others)
    pub seat : Seat O
    pub there : get slab place.1 ≡ Some seat
    pub same_who : Node seat.node ≡ who
    pub found : lookup (nat_eq (node_of who)) table ≡ Some place.1

  pub place-of : (slab : Slab (Seat O)) (table : List (ℕ × ℕ)) (places : List Place) (who : Who) → AreSeats slab table places → Contains (keys_of (held_in (taken_in slab places))) who → HasPlace slab table places who
  place-of slab table places who seats sits =
      let held = Contains-map (λ (held : Who × O). held.0) (held_in (taken_in slab places)) who sits in
      let taken = Contains-map (λ (taken : Taken O). (Node taken.node, taken.object)) (taken_in slab places) held.0 held.1 in
      let found = Contains-filter_map (seat_at slab) places taken.0 taken.1 in
      let place = found.0 in
      let there = found.1 in
      let sat = All-contains (λ (place : Place). IsSeat slab table place.1) places place seats.seated there in
      let same : record { path = place.0.0; node = sat.seat.node; object = sat.seat.object } ≡ taken.0 = same_Some (record { path = place.0.0; node = sat.seat.node; object = sat.seat.object }) taken.0 (rw sat.there at (found.2)) in
      let same_who : Node sat.seat.node ≡ who = ap (λ (t : Taken O). Node t.node) same ∙ ap (λ (h : Who × O). h.0) taken.2 ∙ held.2 in
      record {
        place = place;
        others = remove places there.0;
        is = IsPermutation-remove places there.0 place there.1 (sym there.2);
        seat = sat.seat;
        there = sat.there;
        same_who = same_who;
        found = subst (λ w. lookup (nat_eq (node_of w)) table ≡ Some place.1) same_who sat.found;
      }

  -- the seats after another object was put in the place of one
  module _ (slab : Slab (Seat O)) (table : List (ℕ × ℕ)) (places : List Place) (key : ℕ) (seat : Seat O) (object : O) (there : get slab key ≡ Some seat) (seats : AreSeats slab table places) where
    abbrev written : Slab (Seat O)
    written = with_value slab key (record { node = seat.node; object = object })

    write : Updates slab written key (Some (record { node = seat.node; object = object }))
    write = Updates-with_value slab key (record { node = seat.node; object = object }) (rw there refl)

    by-key : (at node : ℕ) → SitsAt slab at node → SitsAt written at node
    by-key at node was = go (nat_eq at key) refl
      where
        go : (b : Bool) → nat_eq at key ≡ b → SitsAt written at node
        go true e =
            let same : at ≡ key = grind (arith, nat_tests) in
            let same_seat : was.seat ≡ seat = same_Some was.seat seat (sym was.there ∙ ap (get slab) same ∙ there) in
            record { seat = record { node = seat.node; object = object }; there = ap (get written) same ∙ write.changed; is = rw (← same_seat) was.is }
        go false e = record { seat = was.seat; there = write.others at (apart-eq at key e) ∙ was.there; is = was.is }

    pub AreSeats-write : AreSeats written table places
    AreSeats-write = record {
      heap = seats.heap;
      seated =
          All-weaker (λ (place : Place). IsSeat slab table place.1) (λ place. IsSeat written table place.1)
          (λ place was.
          let now = by-key place.1 was.seat.node (record { seat = was.seat; there = was.there; is = refl }) in
          record { seat = now.seat; there = now.there; found = rw now.is was.found }) places seats.seated;
      apart = seats.apart;
      exact = λ node at leads. by-key at node (seats.exact node at leads);
    }

    -- the others are who they were
    pub record IsWritten (path : List (List ℕ)) (others : List (Taken O)) : Type 0 where
      pub was : IsPermutation (record { path = path; node = seat.node; object = seat.object } ∷ others) (taken_in slab places)
      pub is : IsPermutation (record { path = path; node = seat.node; object = object } ∷ others) (taken_in written places)

    pub taken_in-write : (place : Place) (others : List Place) → place.1 ≡ key → IsPermutation places (place ∷ others) → IsWritten place.0.0 (taken_in slab others)
    taken_in-write place others same_key same =
        let apart : IsDistinct nat_eq (place.1 ∷ map (λ place. place.1) others) =
        IsDistinct-IsPermutation nat_eq eq-flips (map (λ place. place.1) places) (place.1 ∷ map (λ place. place.1) others) (IsPermutation-map (λ (place : Place). place.1) places (place ∷ others) same) seats.apart in
        let unlike : All (λ other. nat_eq place.1 other.1 ≡ false) others =
        All-unmap (λ y. nat_eq place.1 y ≡ false) (λ (place : Place). place.1) others
        (All-from_recursion (λ y. nat_eq place.1 y ≡ false) (map (λ place. place.1) others) (IsDistinct-head nat_eq place.1 (map (λ place. place.1) others) apart)) in
        let rest : taken_in written others ≡ taken_in slab others =
        taken_in-same slab written others
        (All-weaker (λ (other : Place). nat_eq place.1 other.1 ≡ false) (λ other. get written other.1 ≡ get slab other.1) (λ other e. write.others other.1 (λ s. apart-eq place.1 other.1 e (same_key ∙ sym s))) others unlike) in
        let before : taken_in slab (place ∷ others) ≡ record { path = place.0.0; node = seat.node; object = seat.object } ∷ taken_in slab others = rw (same_key, there) refl in
        let after : taken_in written (place ∷ others) ≡ record { path = place.0.0; node = seat.node; object = object } ∷ taken_in slab others = rw (same_key, write.changed, rest) refl in
        record {
          was =
              rw (← before)
              (IsPermutation-sym (taken_in slab places) (taken_in slab (place ∷ others))
              (filter_map-IsPermutation (seat_at slab) (record { path = place.0.0; node = seat.node; object = seat.object }) places (place ∷ others) (all-found slab table places seats.seated) same));
          is =
              rw (← after)
              (IsPermutation-sym (taken_in written places) (taken_in written (place ∷ others))
              (filter_map-IsPermutation (seat_at written) (record { path = place.0.0; node = seat.node; object = object }) places (place ∷ others) (all-found written table places AreSeats-write.seated) same));
        }
