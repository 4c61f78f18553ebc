-- Who is held: the components that sit, and the sequences that do.
use Rattle.bench_kernel.proofs.Common.{◌≡◌, ◌∙◌, ℕ, List, [], ◌∷◌, ◌++◌, Result, inl, inr, sym, ap, subst, map-append, All-append, All-cons, All-contains, All-head, All-map, All-nil, All-tail, All-weaker, Contains-append_cases, All-permutation, IsPermutation-append_comm, IsPermutation-append_left, IsPermutation-append_right, IsPermutation-map, IsPermutation-middle, IsPermutation-sym, IsPermutation-trans, All, Contains, IsPermutation, keys_of, AllocError, path_at, View, Says, Who, Node, Sequence, Call, Act, Entry, IsAsked, HasEnded, GoesBefore, IsFirstBack, IsSeated, all_held, IsTakenOut, Taken, held_in, paths_in, AreRisingWithin, SequenceSeatsValue, ◌⊎◌}
use Rattle.uvm_tree.specs.Nodes as declared
use Rattle.bench_kernel.proofs.Lists.{All-unmap, Contains-map}
use Rattle.bench_kernel.proofs.Rising.{IsBetween, all-between}

-- one that goes first goes first behind others too
pub permuted-behind : {X : Type 0} (front old new : List X) (x : X) → IsPermutation (x ∷ new) old → IsPermutation (x ∷ (front ++ new)) (front ++ old)
permuted-behind front old new x same =
    IsPermutation-trans (x ∷ (front ++ new)) (front ++ x ∷ new) (front ++ old)
    (IsPermutation-sym (front ++ x ∷ new) (x ∷ (front ++ new)) (IsPermutation-middle front x new))
    (IsPermutation-append_right front (x ∷ new) old same)

-- one of the first is left
All-left : {X : Type 0} (P : X → Type 0) (xs ys : List X) → All P (xs ++ ys) → All P xs
All-left P [] ys all = All-nil P
All-left P (x ∷ xs) ys all = All-cons P x xs (All-head P x (xs ++ ys) all) (All-left P xs ys (All-tail P x (xs ++ ys) all))

module _ {O : Type 0} where
  keys-all : (taken : List (Taken O)) (sequences : List (Who × O)) → keys_of (all_held taken sequences) ≡ keys_of (held_in taken) ++ keys_of sequences
  keys-all taken sequences = map-append (λ (held : Who × O). held.0) (held_in taken) sequences

  -- a component that is held sits among the components
  pub component-sits : (taken : List (Taken O)) (sequences : List (Who × O)) (count node : ℕ) → AreRisingWithin 0 count (keys_of sequences) → Contains (keys_of (all_held taken sequences)) (Node node) → Contains (keys_of (held_in taken)) (Node node)
  component-sits taken sequences count node rising there =
      go (Contains-append_cases (keys_of (held_in taken)) (keys_of sequences) (Node node) (subst (λ keys. Contains keys (Node node)) (keys-all taken sequences) there))
    where
      go : Contains (keys_of (held_in taken)) (Node node) ⊎ Contains (keys_of sequences) (Node node) → Contains (keys_of (held_in taken)) (Node node)
      go (inl here) = here
      go (inr here) =
          let between = All-contains (IsBetween 0 count) (keys_of sequences) (Node node) (all-between 0 count (keys_of sequences) rising) here in
          let bad = between.is in cc

  -- and a sequence among the sequences
  pub sequence-sits : (taken : List (Taken O)) (sequences : List (Who × O)) (id home : ℕ) → Contains (keys_of (all_held taken sequences)) (Sequence home id) → Contains (keys_of sequences) (Sequence home id)
  sequence-sits taken sequences id home there =
      go (Contains-append_cases (keys_of (held_in taken)) (keys_of sequences) (Sequence home id) (subst (λ keys. Contains keys (Sequence home id)) (keys-all taken sequences) there))
    where
      go : Contains (keys_of (held_in taken)) (Sequence home id) ⊎ Contains (keys_of sequences) (Sequence home id) → Contains (keys_of sequences) (Sequence home id)
      go (inl here) =
          let held = Contains-map (λ (held : Who × O). held.0) (held_in taken) (Sequence home id) here in
          let seat = Contains-map (λ (seat : Taken O). (Node seat.node, seat.object)) taken held.0 held.1 in
          let bad : Node seat.0.node ≡ Sequence home id = ap (λ (held : Who × O). held.0) seat.2 ∙ held.2 in cc
      go (inr here) = here

  -- so one that has ended does
  pub ended-sits : (history : List Entry) (who : Who) (taken : List (Taken O)) (sequences : List (Who × O)) → HasEnded history who → Contains (keys_of (all_held taken sequences)) who → Contains (keys_of sequences) who
  ended-sits history (Node node) taken sequences ended there = absurd ended
  ended-sits history (Sequence home id) taken sequences ended there = sequence-sits taken sequences id home there

  -- what holds of all that are held holds of each component that sits
  pub components-hold : (P : Who → Type 0) (taken : List (Taken O)) (sequences : List (Who × O)) → All P (keys_of (all_held taken sequences)) → All (λ (place : List (List ℕ) × ℕ). P (Node place.1)) (paths_in taken)
  components-hold P taken sequences all =
      All-map (λ (place : List (List ℕ) × ℕ). P (Node place.1)) (λ (seat : Taken O). (seat.path, seat.node)) taken
      (All-unmap (λ (held : Who × O). P held.0) (λ (seat : Taken O). (Node seat.node, seat.object)) taken
      (All-unmap P (λ (held : Who × O). held.0) (held_in taken) (All-left P (keys_of (held_in taken)) (keys_of sequences) (subst (All P) (keys-all taken sequences) all))))

  -- one of them was asked
  module _ (view : O → View) (name : O → List ℕ) (says : O → Says) (who : Who) (call : Call) (answer : Result (List Act) AllocError) where
    pub asked-before : (rest old new : List (Who × O)) → IsAsked view name says who call answer old new → IsAsked view name says who call answer (old ++ rest) (new ++ rest)
    asked-before rest old new asked = record {
      before = asked.before;
      after = asked.after;
      others = asked.others ++ rest;
      was = IsPermutation-append_left rest ((who, asked.before) ∷ asked.others) old asked.was;
      is = IsPermutation-append_left rest ((who, asked.after) ∷ asked.others) new asked.is;
      same_name = asked.same_name;
      same_says = asked.same_says;
      said = asked.said;
    }

    pub asked-behind : (front old new : List (Who × O)) → IsAsked view name says who call answer old new → IsAsked view name says who call answer (front ++ old) (front ++ new)
    asked-behind front old new asked = record {
      before = asked.before;
      after = asked.after;
      others = front ++ asked.others;
      was = permuted-behind front old asked.others (who, asked.before) asked.was;
      is = permuted-behind front new asked.others (who, asked.after) asked.is;
      same_name = asked.same_name;
      same_says = asked.same_says;
      said = asked.said;
    }

  -- a component or sequence was seated
  pub seated-held : (who : Who) (path : List (List ℕ)) (object : O) (old new : List (Taken O)) (were are : SequenceSeatsValue O) → IsSeated who path object old new were are
      → IsPermutation ((who, object) ∷ all_held old were.held) (all_held new are.held)
  seated-held (Node node) path object old new were are seated =
      rw seated.1.held
      (IsPermutation-append_left were.held ((Node node, object) ∷ held_in old) (held_in new)
      (IsPermutation-map (λ (seat : Taken O). (Node seat.node, seat.object)) (record { path = path; node = node; object = object } ∷ old) new seated.0))
  seated-held (Sequence home id) path object old new were are seated =
      rw (seated.0, seated.1.held)
      (permuted-behind (held_in old) (were.held ++ (Sequence home id, object) ∷ []) were.held (Sequence home id, object) (IsPermutation-append_comm ((Sequence home id, object) ∷ []) were.held))

  -- one was taken out of its seat
  pub out-held : (back : Who × O) (old new : List (Taken O)) (sequences : List (Who × O)) → IsTakenOut back old new → IsPermutation (back ∷ all_held new sequences) (all_held old sequences)
  out-held back old new sequences out =
      let held : IsPermutation ((Node out.node, back.1) ∷ held_in new) (held_in old) =
      IsPermutation-map (λ (seat : Taken O). (Node seat.node, seat.object)) (record { path = out.path; node = out.node; object = back.1 } ∷ new) old out.taken in
      IsPermutation-append_left sequences (back ∷ held_in new) (held_in old) (subst (λ who. IsPermutation ((who, back.1) ∷ held_in new) (held_in old)) (sym out.who) held)

  -- the first of the sequences goes before all others
  pub first-sequence : (nodes : List declared.Node) (count : ℕ) (back : Who × O) (taken : List (Taken O)) (old new : List (Who × O)) → old ≡ back ∷ new → AreRisingWithin 0 count (keys_of old) → IsFirstBack nodes back.0 (keys_of (all_held taken new))
  first-sequence nodes count back taken old new is rising = go back.0 (subst (λ (held : List (Who × O)). AreRisingWithin 0 count (keys_of held)) is rising)
    where
      go : (who : Who) → AreRisingWithin 0 count (who ∷ keys_of new) → IsFirstBack nodes who (keys_of (all_held taken new))
      go (Node node) rising = absurd rising
      go (Sequence home id) rising =
          subst (All (GoesBefore nodes (Sequence home id))) (sym (keys-all taken new))
          (All-append (GoesBefore nodes (Sequence home id)) (keys_of (held_in taken)) (keys_of new)
          (All-map (GoesBefore nodes (Sequence home id)) (λ (held : Who × O). held.0) (held_in taken)
          (All-map (λ (held : Who × O). GoesBefore nodes (Sequence home id) held.0) (λ (seat : Taken O). (Node seat.node, seat.object)) taken (λ k d h. tt)))
          (All-weaker (IsBetween id count) (GoesBefore nodes (Sequence home id)) (λ other between. subst (GoesBefore nodes (Sequence home id)) (sym between.is) between.over) (keys_of new)
          (all-between id count (keys_of new) rising.2)))

  -- and where there are none the first Down of the components does
  pub first-component : (nodes : List declared.Node) (back : Who × O) (old new : List (Taken O)) (sequences : List (Who × O)) → sequences ≡ [] → IsTakenOut back old new
      → All (λ (place : List (List ℕ) × ℕ). path_at nodes place.1 ≡ place.0) (paths_in old) → IsFirstBack nodes back.0 (keys_of (all_held new sequences))
  first-component nodes back old new sequences none out placed =
      let all : All (λ (place : List (List ℕ) × ℕ). path_at nodes place.1 ≡ place.0) ((out.path, out.node) ∷ paths_in new) =
      All-permutation (λ (place : List (List ℕ) × ℕ). path_at nodes place.1 ≡ place.0) (paths_in old) ((out.path, out.node) ∷ paths_in new)
      (IsPermutation-map (λ (seat : Taken O). (seat.path, seat.node)) old (record { path = out.path; node = out.node; object = back.1 } ∷ new)
      (IsPermutation-sym (record { path = out.path; node = out.node; object = back.1 } ∷ new) old out.taken)) placed in
      let here : path_at nodes out.node ≡ out.path = All-head (λ (place : List (List ℕ) × ℕ). path_at nodes place.1 ≡ place.0) (out.path, out.node) (paths_in new) all in
      let others = All-unmap (λ (place : List (List ℕ) × ℕ). path_at nodes place.1 ≡ place.0) (λ (seat : Taken O). (seat.path, seat.node)) new
      (All-tail (λ (place : List (List ℕ) × ℕ). path_at nodes place.1 ≡ place.0) (out.path, out.node) (paths_in new) all) in
      let before : All (GoesBefore nodes (Node out.node)) (keys_of (held_in new)) =
      All-map (GoesBefore nodes (Node out.node)) (λ (held : Who × O). held.0) (held_in new)
      (All-map (λ (held : Who × O). GoesBefore nodes (Node out.node) held.0) (λ (seat : Taken O). (Node seat.node, seat.object)) new
      (λ k d h. rw (others k d h, here) (out.least k d h))) in
      subst (λ who. IsFirstBack nodes who (keys_of (all_held new sequences))) (sym out.who)
      (subst (All (GoesBefore nodes (Node out.node))) (sym (keys-all new sequences))
      (All-append (GoesBefore nodes (Node out.node)) (keys_of (held_in new)) (keys_of sequences) before
      (subst (λ (held : List (Who × O)). All (GoesBefore nodes (Node out.node)) (keys_of held)) (sym none) (All-nil (GoesBefore nodes (Node out.node))))))
