-- Who waits at a FIFO and what is in it, over lists alone.
use Rattle.world_wiring.proofs.Common.{◌≡◌, ℕ, suc, ◌<◌, ◌≤◌, ◌+◌, ◌==◌, nat_eq, Bool, true, false, not, List, [], ◌∷◌, ◌++◌, length, filter, drop, All, refl, ap, sym, ◌∙◌, subst, arith, AllPairs, list_any, nat_tests, map-append, drop-drop, drop-append-le, All-cons, All-head, All-push, All-weaker, All-filter, filter-append, list_any_none, AllPairs-filter, all_pairs_push, Phase, same_phase, Item, with_put, Request, is_waiting, fifo_state_with, waiting_put, waiting_take, AreAsked, with_taker, without_waits}
use Rattle.world_state.proofs.Lists.{filter-twice, one-heard, one-ended, map-filter, filter-all}

-- the place of a later entry is none of those that came to pass
fresh-place : (answered : List ℕ) (count : ℕ) → All (λ place. place < count) answered → list_any (nat_eq count) answered ≡ false
fresh-place answered count within = list_any_none (nat_eq count) answered (All-weaker (λ place. place < count) (λ place. nat_eq count place ≡ false) (λ place lt. grind (arith, nat_tests)) answered within)

module _ {Payload : Type 0} where
  -- what is asked for later waits
  pub waits-now :
      (answered : List ℕ) (ended : List Phase) (request : Request Payload) → All (λ place. place < request.requester.place) answered → list_any (same_phase request.requester.phase) ended ≡ false
      → is_waiting answered ended request ≡ true
  waits-now answered ended request within unended = rw (fresh-place answered request.requester.place within, unended) refl

  -- one more request waits behind the others
  pub waiting-more :
      (answered : List ℕ) (ended : List Phase) (asked : List (Request Payload)) (request : Request Payload) → is_waiting answered ended request ≡ true
      → filter (is_waiting answered ended) (asked ++ request ∷ []) ≡ filter (is_waiting answered ended) asked ++ request ∷ []
  waiting-more answered ended asked request waits = filter-append (is_waiting answered ended) asked (request ∷ []) ∙ rw waits refl

  -- those behind the first have other places
  apart-behind : (request : Request Payload) (rest : List (Request Payload)) → AllPairs (λ request other. (request.requester.place == other.requester.place) ≡ false) (request ∷ rest) → All (λ other. not (nat_eq other.requester.place request.requester.place) ≡ true) rest
  apart-behind request rest apart = λ k d lt. let e = apart 0 (suc k) d (omega arith) (omega (arith, lt)) in flipped _ _ e
    where
      flipped : (a b : ℕ) → (a == b) ≡ false → not (nat_eq b a) ≡ true
      flipped a b e = let f : nat_eq b a ≡ false = grind (arith, nat_tests) in rw f refl

  -- the first that waits does so no more once it came to pass
  pub waiting-less :
      (answered : List ℕ) (ended : List Phase) (asked rest : List (Request Payload)) (request : Request Payload)
      → AllPairs (λ request other. (request.requester.place == other.requester.place) ≡ false) asked → filter (is_waiting answered ended) asked ≡ request ∷ rest
      → filter (is_waiting (request.requester.place ∷ answered) ended) asked ≡ rest
  waiting-less answered ended asked rest request apart is =
      let gone : Request Payload → Bool = λ other. not (nat_eq other.requester.place request.requester.place) in
      let twice = filter-twice gone (is_waiting answered ended) (is_waiting (request.requester.place ∷ answered) ended) (λ other. one-heard (nat_eq other.requester.place request.requester.place) (list_any (nat_eq other.requester.place) answered) (not (list_any (same_phase other.requester.phase) ended))) asked in
      let pairs = subst (AllPairs (λ request other. (request.requester.place == other.requester.place) ≡ false)) is (AllPairs-filter (λ request other. (request.requester.place == other.requester.place) ≡ false) (is_waiting answered ended) asked apart) in
      let itself : nat_eq request.requester.place request.requester.place ≡ true = grind (arith, nat_tests) in
      twice ∙ ap (filter gone) is ∙ rw itself (filter-all gone rest (apart-behind request rest pairs))

  -- the waits end that were asked in a phase
  pub waiting-ended :
      (answered : List ℕ) (ended : List Phase) (asked : List (Request Payload)) (phase : Phase)
      → filter (is_waiting answered (phase ∷ ended)) asked ≡ filter (λ request. not (same_phase request.requester.phase phase)) (filter (is_waiting answered ended) asked)
  waiting-ended answered ended asked phase =
      filter-twice (λ request. not (same_phase request.requester.phase phase)) (is_waiting answered ended) (is_waiting answered (phase ∷ ended)) (λ request. one-ended (not (list_any (nat_eq request.requester.place) answered)) (same_phase request.requester.phase phase) (list_any (same_phase request.requester.phase) ended)) asked

  -- with one more entry
  pub asked-later : {count : ℕ} {asked : List (Request Payload)} {answered : List ℕ} → AreAsked count asked answered → AreAsked (suc count) asked answered
  asked-later {count} {asked} {answered} a = record {
    apart = a.apart;
    within = All-weaker (λ request. request.requester.place < count) (λ request. request.requester.place < suc count) (λ request lt. omega (arith, lt)) asked a.within;
    answered_within = All-weaker (λ place. place < count) (λ place. place < suc count) (λ place lt. omega (arith, lt)) answered a.answered_within;
  }

  -- which asks for something
  pub asked-more : {count : ℕ} {asked : List (Request Payload)} {answered : List ℕ} (request : Request Payload) → request.requester.place ≡ count → AreAsked count asked answered → AreAsked (suc count) (asked ++ request ∷ []) answered
  asked-more {count} {asked} {answered} request at a =
      let l = asked-later a in
      record {
        apart = all_pairs_push (λ request other. (request.requester.place == other.requester.place) ≡ false) asked request a.apart (λ k d lt. let w = a.within k d lt in grind (arith, nat_tests));
        within = All-push (λ request. request.requester.place < suc count) asked request l.within (omega (arith, at));
        answered_within = l.answered_within;
      }

  -- or in which the first that waits completes
  pub asked-answered :
      {count : ℕ} {asked rest : List (Request Payload)} {answered : List ℕ} (ended : List Phase) (request : Request Payload) → filter (is_waiting answered ended) asked ≡ request ∷ rest
      → AreAsked count asked answered → AreAsked (suc count) asked (request.requester.place ∷ answered)
  asked-answered {count} {asked} {rest} {answered} ended request is a =
      let l = asked-later a in
      let within = subst (All (λ (one : Request Payload). one.requester.place < count)) is (All-filter (is_waiting answered ended) (λ one. one.requester.place < count) asked a.within) in
      let here : request.requester.place < count = All-head (λ (one : Request Payload). one.requester.place < count) request rest within in
      record { apart = l.apart; within = l.within; answered_within = All-cons (λ place. place < suc count) request.requester.place answered (omega (arith, here)) l.answered_within }

-- a FIFO at which one more put waits
pub fifo_state-put :
    (size : ℕ) (items : List Item) (puts : List (Request Item)) (takes : List (Request Bool)) (request : Request Item)
    → with_put request.requester request.wish (fifo_state_with size items puts takes) ≡ fifo_state_with size items (puts ++ request ∷ []) takes
fifo_state-put size items puts takes request = rw (map-append waiting_put puts (request ∷ [])) refl

pub fifo_state-take :
    (size : ℕ) (items : List Item) (puts : List (Request Item)) (takes : List (Request Bool)) (request : Request Bool)
    → with_taker request.requester request.wish (fifo_state_with size items puts takes) ≡ fifo_state_with size items puts (takes ++ request ∷ [])
fifo_state-take size items puts takes request = rw (map-append waiting_take takes (request ∷ [])) refl

-- at which the waits of a phase end
pub fifo_state-ended :
    (phase : Phase) (size : ℕ) (items : List Item) (puts : List (Request Item)) (takes : List (Request Bool))
    → without_waits phase (fifo_state_with size items puts takes) ≡ fifo_state_with size items (filter (λ request. not (same_phase request.requester.phase phase)) puts) (filter (λ request. not (same_phase request.requester.phase phase)) takes)
fifo_state-ended phase size items puts takes =
    rw (map-filter waiting_put (λ put. not (same_phase put.owner.phase phase)) puts, map-filter waiting_take (λ take. not (same_phase take.owner.phase phase)) takes) refl

-- an item behind those that are there
pub items-more : (left : ℕ) (entered : List Item) (item : Item) → left ≤ length entered → drop left (entered ++ item ∷ []) ≡ drop left entered ++ item ∷ []
items-more left entered item few = drop-append-le left entered (item ∷ []) few

pub items-less : (left : ℕ) (entered : List Item) → drop (suc left) entered ≡ drop 1 (drop left entered)
items-less left entered = sym (drop-drop 1 left entered ∙ ap (λ (n : ℕ). drop n entered) (more left))
  where
    more : (n : ℕ) → n + 1 ≡ suc n
    more n = omega arith
