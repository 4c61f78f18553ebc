-- Where those sit who are held, after each change.
use Rattle.bench_kernel.proofs.Common.{◌≡◌, ◌≢◌, ◌∙◌, ◌<◌, ◌+◌, ℕ, suc, List, [], ◌∷◌, ◌++◌, length, Some, sym, ap, subst, arith, map-append, All-cons, All-map, All-tail, All-weaker, All-permutation, IsPermutation-map, IsPermutation-sym, same_Some, All, IsPermutation, keys_of, Who, Node, Sequence, Act, Outcome, Made, Started, Entry, Did, ScriptValue, nodes_of, StartRecord, starts_of, sequences_of, start_by, next_of, HasGrown, made_who, LogLaws, AreSeated, IsFree, IsSeated, IsTakenOut, Taken, held_in, paths_in, AreRisingWithin, IsWithout, SequenceSeatsValue, Need}
use Rattle.bench_history.specs.Cases as next
use Rattle.bench_kernel.proofs.Held.{Sits, placed-later}
use Rattle.bench_kernel.proofs.Lists.{All-unmap}
use Rattle.bench_kernel.proofs.Rising.{rising-push, rising-rest, rising-without}

-- who is asked stands at the same node
pub nodes-asked : (history : List Entry) (paths others : List (List (List ℕ) × ℕ)) → IsPermutation paths others → All (λ (place : List (List ℕ) × ℕ). place.1 < length (nodes_of history)) paths
    → All (λ (place : List (List ℕ) × ℕ). place.1 < length (nodes_of history)) others
nodes-asked history paths others same under = All-permutation (λ (place : List (List ℕ) × ℕ). place.1 < length (nodes_of history)) paths others same under

module _ {O : Type 0} where
  -- a component or sequence was asked
  pub seated-asked : (history : List Entry) (paths others : List (List (List ℕ) × ℕ)) (count more : ℕ) (sequences asked : List (Who × O)) → IsPermutation paths others → more ≡ count → keys_of asked ≡ keys_of sequences → AreSeated history paths count sequences
      → AreSeated history others more asked
  seated-asked history paths others count more sequences asked same count_is keys seated = record {
    placed = All-permutation (Sits history) paths others same seated.placed;
    rising = rw (keys, count_is) seated.rising;
    started = count_is ∙ seated.started;
  }

  -- a sequence left its seat
  pub seated-told : (history : List Entry) (paths : List (List (List ℕ) × ℕ)) (count less : ℕ) (back : Who × O) (sequences left : List (Who × O)) → less ≡ count → IsWithout back sequences left → AreSeated history paths count sequences
      → AreSeated history paths less left
  seated-told history paths count less back sequences left count_is without seated = record {
    placed = seated.placed;
    rising = rw count_is (rising-without 0 count back sequences left without seated.rising);
    started = count_is ∙ seated.started;
  }

  -- the first of them did
  pub seated-first : (history : List Entry) (paths : List (List (List ℕ) × ℕ)) (count less : ℕ) (back : Who × O) (sequences left : List (Who × O)) → less ≡ count → sequences ≡ back ∷ left → AreSeated history paths count sequences
      → AreSeated history paths less left
  seated-first history paths count less back sequences left count_is is seated = record {
    placed = seated.placed;
    rising = rw count_is (rising-rest 0 count back.0 (keys_of left) (subst (λ (held : List (Who × O)). AreRisingWithin 0 count (keys_of held)) is seated.rising));
    started = count_is ∙ seated.started;
  }

  -- a component did
  pub seated-out : (history : List Entry) (old new : List (Taken O)) (count same : ℕ) (back : Who × O) (sequences still : List (Who × O)) → same ≡ count → still ≡ sequences → IsTakenOut back old new → AreSeated history (paths_in old) count sequences
      → AreSeated history (paths_in new) same still
  seated-out history old new count same back sequences still count_is still_is out seated = rw (count_is, still_is) (record {
    placed =
        All-tail (Sits history) (out.path, out.node) (paths_in new)
        (All-permutation (Sits history) (paths_in old) ((out.path, out.node) ∷ paths_in new)
        (IsPermutation-map (λ (seat : Taken O). (seat.path, seat.node)) old (record { path = out.path; node = out.node; object = back.1 } ∷ new)
        (IsPermutation-sym (record { path = out.path; node = out.node; object = back.1 } ∷ new) old out.taken)) seated.placed);
    rising = seated.rising;
    started = seated.started;
  })

module _ (laws : LogLaws) {O : Type 0} where
  -- an entry that starts no sequence
  pub seated-later : (history : List Entry) (entry : Entry) (paths : List (List (List ℕ) × ℕ)) (count : ℕ) (sequences : List (Who × O)) → starts_of (entry ∷ history) ≡ starts_of history → All (λ (place : List (List ℕ) × ℕ). place.1 < length (nodes_of history)) paths
      → AreSeated history paths count sequences → AreSeated (entry ∷ history) paths count sequences
  seated-later history entry paths count sequences begun under seated = record {
    placed = placed-later laws.nodes entry history paths under seated.placed;
    rising = seated.rising;
    started = seated.started ∙ ap (λ (b : List StartRecord). length b) (sym begun);
  }

  -- a component or sequence was seated who was made
  component-seated : (history : List Entry) (entry : Entry) (path : List (List ℕ)) (object : O) (old new : List (Taken O)) (were are : SequenceSeatsValue O) → HasGrown history path entry
      → IsSeated (Node (length (nodes_of history))) path object old new were are → All (λ (place : List (List ℕ) × ℕ). place.1 < length (nodes_of history)) (paths_in old)
      → AreSeated history (paths_in old) were.count were.held → AreSeated (entry ∷ history) (paths_in new) are.count are.held
  component-seated history entry path object old new were are grown seats under seated =
      let node : ℕ = length (nodes_of history) in
      rw (seats.1.held, seats.1.count) (record {
        placed =
            All-permutation (Sits (entry ∷ history)) ((path, node) ∷ paths_in old) (paths_in new)
            (IsPermutation-map (λ (seat : Taken O). (seat.path, seat.node)) (record { path = path; node = node; object = object } ∷ old) new seats.0)
            (All-cons (Sits (entry ∷ history)) (path, node) (paths_in old) grown.path_is (placed-later laws.nodes entry history (paths_in old) under seated.placed));
        rising = seated.rising;
        started = seated.started ∙ ap (λ (b : List StartRecord). length b) (sym grown.starts_none);
      })

  sequence-seated : (history : List Entry) (performer : Who) (act : Act) (id home : ℕ) (path : List (List ℕ)) (object : O) (old new : List (Taken O)) (were are : SequenceSeatsValue O) → id ≡ suc (length (starts_of history))
      → IsSeated (Sequence home id) path object old new were are → All (λ (place : List (List ℕ) × ℕ). place.1 < length (nodes_of history)) (paths_in old)
      → AreSeated history (paths_in old) were.count were.held → AreSeated (Did performer (Started id) act ∷ history) (paths_in new) are.count are.held
  sequence-seated history performer act id home path object old new were are number seats under seated =
      let started = seated.started in
      let next : id ≡ were.count + 1 = omega (arith, number, started) in
      let keys : keys_of (were.held ++ (Sequence home id, object) ∷ []) ≡ keys_of were.held ++ Sequence home id ∷ [] = map-append (λ (held : Who × O). held.0) were.held ((Sequence home id, object) ∷ []) in
      rw (seats.0, seats.1.held, seats.1.count) (record {
        placed = placed-later laws.nodes (Did performer (Started id) act) history (paths_in old) under seated.placed;
        rising = rw (keys, next) (rising-push 0 were.count home (keys_of were.held) (omega arith) seated.rising);
        started = omega (arith, started);
      })

  pub seated-come : (history : List Entry) (need : Need) (made : Outcome) (performer : Who) (act : Act) (who : Who) (path : List (List ℕ)) (object : O) (old new : List (Taken O)) (were are : SequenceSeatsValue O) (script : ScriptValue)
      → next_of script history ≡ next.Need need made performer act → made_who history (next.Need need made performer act) ≡ Some who → path ≡ need.path → IsSeated who path object old new were are
      → All (λ (place : List (List ℕ) × ℕ). place.1 < length (nodes_of history)) (paths_in old) → AreSeated history (paths_in old) were.count were.held → AreSeated (Did performer made act ∷ history) (paths_in new) are.count are.held
  seated-come history need (Made type_name) performer act who path object old new were are script needs is path_is seats under seated =
      let grown = laws.made script history need (Made type_name) performer act needs in
      component-seated history (Did performer (Made type_name) act) path object old new were are (subst (λ p. HasGrown history p (Did performer (Made type_name) act)) (sym path_is) grown)
      (subst (λ w. IsSeated w path object old new were are) (sym (same_Some (Node (length (nodes_of history))) who is)) seats) under seated
  seated-come history need (Started id) performer act who path object old new were are script needs is path_is seats under seated =
      let begun = laws.made script history need (Started id) performer act needs in
      let home : ℕ = (start_by (nodes_of history) (sequences_of history) performer act).home in
      sequence-seated history performer act id home path object old new were are begun.number
      (subst (λ w. IsSeated w path object old new were are) (sym (same_Some (Sequence home id) who is)) seats) under seated
  seated-come history need made performer act who path object old new were are script needs is path_is seats under seated = cc

  -- there is a seat for who was made
  pub free-for : (history : List Entry) (need : Need) (made : Outcome) (performer : Who) (act : Act) (who : Who) (taken : List (Taken O)) (sequences : SequenceSeatsValue O) (script : ScriptValue)
      → next_of script history ≡ next.Need need made performer act → made_who history (next.Need need made performer act) ≡ Some who → sequences.count ≡ length (starts_of history)
      → All (λ (place : List (List ℕ) × ℕ). place.1 < length (nodes_of history)) (paths_in taken) → IsFree who taken sequences
  free-for history need (Made type_name) performer act who taken sequences script needs is started under =
      subst (λ w. IsFree w taken sequences) (same_Some (Node (length (nodes_of history))) who is) (free-node (length (nodes_of history)) taken under)
    where
      free-node : (node : ℕ) (taken : List (Taken O)) → All (λ (place : List (List ℕ) × ℕ). place.1 < node) (paths_in taken) → All (λ other. other ≢ Node node) (keys_of (held_in taken))
      free-node node taken under =
          let all = All-unmap (λ (place : List (List ℕ) × ℕ). place.1 < node) (λ (seat : Taken O). (seat.path, seat.node)) taken under in
          All-map (λ other. other ≢ Node node) (λ (held : Who × O). held.0) (held_in taken)
          (All-map (λ (held : Who × O). held.0 ≢ Node node) (λ (seat : Taken O). (Node seat.node, seat.object)) taken
          (All-weaker (λ (seat : Taken O). seat.node < node) (λ seat. Node seat.node ≢ Node node) (λ seat low e. let same : seat.node ≡ node = cc in omega (arith, low, same)) taken all))
  free-for history need (Started id) performer act who taken sequences script needs is started under =
      let begun = laws.made script history need (Started id) performer act needs in
      let number = begun.number in
      subst (λ w. IsFree w taken sequences) (same_Some (Sequence (start_by (nodes_of history) (sequences_of history) performer act).home id) who is) (omega (arith, number, started))
  free-for history need made performer act who taken sequences script needs is started under = cc
