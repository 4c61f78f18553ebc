-- What is in a FIFO and who waits at it, with one more entry: over lists alone.
use Rattle.world_wiring.proofs.Common.{◌≡◌, ℕ, suc, ◌<◌, ◌≤◌, Bool, true, false, not, List, [], ◌∷◌, ◌++◌, length, map, filter, drop, Option, Some, None, option_map, ◌⊎◌, inl, inr, refl, ap, sym, ◌∙◌, arith, length-append, if◌then◌else◌, length-drop, Phase, same_phase, Item, Put, Take, Peek, FifoValue, with_put, next_move, first_take, first_put, has_room, Passage, Requester, Request, is_no_put, is_put, is_take, is_waiting, passage_by, passage_in, fifo_state_with, waiting_put, waiting_take, with_last, after_passage, with_stored_if, with_taker, without_first_if, without_waits, AreAsked}
use Rattle.world_wiring.proofs.Waiting.{asked-answered, asked-later, items-less, items-more, fifo_state-ended, fifo_state-put, fifo_state-take, waiting-ended, waiting-less, waiting-more}

-- a FIFO of a size, if there is one: what entered it, less what left, and who waits
abbrev pub state : Option ℕ → List Item → ℕ → List (Request Item) → List ℕ → List (Request Bool) → List ℕ → List Phase → Option (FifoValue Requester)
state sizes entered left puts puts_answered takes takes_answered ended =
    option_map (λ size. fifo_state_with size (drop left entered) (filter (is_waiting puts_answered ended) puts) (filter (is_waiting takes_answered ended) takes)) sizes

-- it changes where the entry is about it
abbrev pub changed_if : Bool → (FifoValue Requester → FifoValue Requester) → Option (FifoValue Requester) → Option (FifoValue Requester)
changed_if about change fifo_state = if about then option_map change fifo_state else fifo_state

module _ (sizes : Option ℕ) (entered : List Item) (left : ℕ) (puts : List (Request Item)) (puts_answered : List ℕ) (takes : List (Request Bool)) (takes_answered : List ℕ) (ended : List Phase) where
  abbrev before : Option (FifoValue Requester)
  before = state sizes entered left puts puts_answered takes takes_answered ended

  -- a put is asked for
  pub put-asked :
      (asked : Option (Request Item)) (about : Bool) (request : Request Item) → asked ≡ (if about then Some request else None) → is_waiting puts_answered ended request ≡ true
      → state sizes entered left (with_last puts asked) puts_answered takes takes_answered ended ≡ changed_if about (with_put request.requester request.wish) before
  put-asked asked false request is waits = rw is refl
  put-asked asked true request is waits = rw (is, waiting-more puts_answered ended puts request waits) (sized sizes)
    where
      sized : (sizes : Option ℕ)
          → option_map (λ size. fifo_state_with size (drop left entered) (filter (is_waiting puts_answered ended) puts ++ request ∷ []) (filter (is_waiting takes_answered ended) takes)) sizes
          ≡ option_map (with_put request.requester request.wish) (state sizes entered left puts puts_answered takes takes_answered ended)
      sized None = refl
      sized (Some size) = ap Some (sym (fifo_state-put size (drop left entered) (filter (is_waiting puts_answered ended) puts) (filter (is_waiting takes_answered ended) takes) request))

  -- a take or a peek is
  pub take-asked :
      (asked : Option (Request Bool)) (about : Bool) (request : Request Bool) → asked ≡ (if about then Some request else None) → is_waiting takes_answered ended request ≡ true
      → state sizes entered left puts puts_answered (with_last takes asked) takes_answered ended ≡ changed_if about (with_taker request.requester request.wish) before
  take-asked asked false request is waits = rw is refl
  take-asked asked true request is waits = rw (is, waiting-more takes_answered ended takes request waits) (sized sizes)
    where
      sized : (sizes : Option ℕ)
          → option_map (λ size. fifo_state_with size (drop left entered) (filter (is_waiting puts_answered ended) puts) (filter (is_waiting takes_answered ended) takes ++ request ∷ [])) sizes
          ≡ option_map (with_taker request.requester request.wish) (state sizes entered left puts puts_answered takes takes_answered ended)
      sized None = refl
      sized (Some size) = ap Some (sym (fifo_state-take size (drop left entered) (filter (is_waiting puts_answered ended) puts) (filter (is_waiting takes_answered ended) takes) request))

  -- an item is put at once
  pub item-stored :
      (stored : Option Item) (about : Bool) (item : Item) → stored ≡ (if about then Some item else None) → left ≤ length entered
      → state sizes (with_last entered stored) left puts puts_answered takes takes_answered ended ≡ changed_if about (with_stored_if true item) before
  item-stored stored false item is few = rw is refl
  item-stored stored true item is few = rw (is, items-more left entered item few) (sized sizes)
    where
      sized : (sizes : Option ℕ)
          → option_map (λ size. fifo_state_with size (drop left entered ++ item ∷ []) (filter (is_waiting puts_answered ended) puts) (filter (is_waiting takes_answered ended) takes)) sizes
          ≡ option_map (with_stored_if true item) (state sizes entered left puts puts_answered takes takes_answered ended)
      sized None = refl
      sized (Some size) = refl

  -- an item is taken at once
  pub item-taken :
      (taken about : Bool) (item : Item) → taken ≡ about
      → state sizes entered (if taken then suc left else left) puts puts_answered takes takes_answered ended ≡ changed_if about (without_first_if (Some item)) before
  item-taken false false item is = refl
  item-taken true false item is = cc
  item-taken false true item is = cc
  item-taken true true item is = rw (items-less left entered) (sized sizes)
    where
      sized : (sizes : Option ℕ)
          → option_map (λ size. fifo_state_with size (drop 1 (drop left entered)) (filter (is_waiting puts_answered ended) puts) (filter (is_waiting takes_answered ended) takes)) sizes
          ≡ option_map (without_first_if (Some item)) (state sizes entered left puts puts_answered takes takes_answered ended)
      sized None = refl
      sized (Some size) = refl

  -- a phase ends
  pub phase-ended : (phase : Phase) → state sizes entered left puts puts_answered takes takes_answered (phase ∷ ended) ≡ option_map (without_waits phase) before
  phase-ended phase = rw (waiting-ended puts_answered ended puts phase, waiting-ended takes_answered ended takes phase) (sized sizes)
    where
      sized : (sizes : Option ℕ)
          → option_map (λ size. fifo_state_with size (drop left entered) (filter (λ request. not (same_phase request.requester.phase phase)) (filter (is_waiting puts_answered ended) puts)) (filter (λ request. not (same_phase request.requester.phase phase)) (filter (is_waiting takes_answered ended) takes))) sizes
          ≡ option_map (without_waits phase) (state sizes entered left puts puts_answered takes takes_answered ended)
      sized None = refl
      sized (Some size) = ap Some (sym (fifo_state-ended phase size (drop left entered) (filter (is_waiting puts_answered ended) puts) (filter (is_waiting takes_answered ended) takes)))

-- nothing passes at a FIFO where no take or peek waits, or no item is there, and no put waits, or there is no room
no-take : (takes : List (Request Bool)) (items : List Item) → (takes ≡ []) ⊎ (items ≡ []) → first_take (map waiting_take takes) items ≡ None
no-take takes items (inl none) = rw none refl
no-take [] items (inr none) = refl
no-take (take ∷ takes) items (inr none) = rw none refl

no-put : (room : Bool) (puts : List (Request Item)) → (puts ≡ []) ⊎ (room ≡ false) → (if room then first_put (map waiting_put puts) else None) ≡ None
no-put true puts (inl none) = rw none refl
no-put true puts (inr none) = cc
no-put false puts why = refl

pub blocked : (size : ℕ) (items : List Item) (puts : List (Request Item)) (takes : List (Request Bool)) → (takes ≡ []) ⊎ (items ≡ []) → (puts ≡ []) ⊎ (has_room (fifo_state_with size items puts takes) ≡ false) → passage_in (fifo_state_with size items puts takes) ≡ None
unfolding next_move
blocked size items puts takes no_takes no_puts = rw (no-take takes items no_takes, no-put (has_room (fifo_state_with size items puts takes)) puts no_puts) refl

-- and else something does
pub record IsBlocked (size : ℕ) (items : List Item) (puts : List (Request Item)) (takes : List (Request Bool)) : Type 0 where
  pub takes_are : (takes ≡ []) ⊎ (items ≡ [])
  pub puts_are : (puts ≡ []) ⊎ (has_room (fifo_state_with size items puts takes) ≡ false)

take-passes :
    (size : ℕ) (item : Item) (items : List Item) (puts : List (Request Item)) (take : Request Bool) (takes : List (Request Bool)) (peeks : Bool) → take.wish ≡ peeks
    → passage_in (fifo_state_with size (item ∷ items) puts (take ∷ takes)) ≡ Some (passage_by (record { kind = if peeks then Peek else Take; owner = take.requester; item = item }))
unfolding next_move
take-passes size item items puts take takes true is = rw is refl
take-passes size item items puts take takes false is = rw is refl

put-blocked : (size : ℕ) (items : List Item) (puts : List (Request Item)) (takes : List (Request Bool)) (room : Bool) → has_room (fifo_state_with size items puts takes) ≡ room → (takes ≡ []) ⊎ (items ≡ []) → passage_in (fifo_state_with size items puts takes) ≡ None → (puts ≡ []) ⊎ (room ≡ false)
unfolding next_move
put-blocked size items [] takes room is no_takes none = inl refl
put-blocked size items puts takes false is no_takes none = inr refl
put-blocked size items (put ∷ puts) takes true is no_takes none = let e = rw (no-take takes items no_takes, is) at none in cc

pub blocked-is : (size : ℕ) (items : List Item) (puts : List (Request Item)) (takes : List (Request Bool)) → passage_in (fifo_state_with size items puts takes) ≡ None → IsBlocked size items puts takes
blocked-is size items puts [] none = record { takes_are = inl refl; puts_are = put-blocked size items puts [] (has_room (fifo_state_with size items puts [])) refl (inl refl) none }
blocked-is size [] puts (take ∷ takes) none = record { takes_are = inr refl; puts_are = put-blocked size [] puts (take ∷ takes) (has_room (fifo_state_with size [] puts (take ∷ takes))) refl (inr refl) none }
blocked-is size (item ∷ items) puts (take ∷ takes) none = let e = sym (take-passes size item items puts take takes take.wish refl) ∙ none in cc

-- so nothing passes once fewer wait
none-left : {A : Type 0} {Q : Type 0} (p : A → Bool) (xs : List A) → (xs ≡ []) ⊎ Q → (filter p xs ≡ []) ⊎ Q
none-left p xs (inl none) = inl (rw none refl)
none-left p xs (inr why) = inr why

pub fewer-blocked :
    (size : ℕ) (items : List Item) (puts : List (Request Item)) (takes : List (Request Bool)) (p : Request Item → Bool) (q : Request Bool → Bool)
    → passage_in (fifo_state_with size items puts takes) ≡ None → passage_in (fifo_state_with size items (filter p puts) (filter q takes)) ≡ None
fewer-blocked size items puts takes p q none =
    let b = blocked-is size items puts takes none in
    blocked size items (filter p puts) (filter q takes) (none-left q takes b.takes_are) (none-left p puts b.puts_are)

-- what passes at a FIFO: the first put that waits, or with the first item the first take or peek
pub data IsPassing (size : ℕ) (items : List Item) (puts : List (Request Item)) (takes : List (Request Bool)) (passage : Passage) : Type 0 where
  ByPut :
      (request : Request Item) → (rest : List (Request Item)) → puts ≡ request ∷ rest → passage.kind ≡ Put → passage.request ≡ request.requester.place
      → after_passage (fifo_state_with size items puts takes) ≡ fifo_state_with size (items ++ passage.item ∷ []) rest takes
      → IsPassing size items puts takes passage
  ByTake :
      (request : Request Bool) → (rest : List (Request Bool)) → takes ≡ request ∷ rest → passage.kind ≡ Take → passage.request ≡ request.requester.place → 0 < length items
      → after_passage (fifo_state_with size items puts takes) ≡ fifo_state_with size (drop 1 items) puts rest
      → IsPassing size items puts takes passage
  ByPeek :
      (request : Request Bool) → (rest : List (Request Bool)) → takes ≡ request ∷ rest → passage.kind ≡ Peek → passage.request ≡ request.requester.place
      → after_passage (fifo_state_with size items puts takes) ≡ fifo_state_with size items puts rest
      → IsPassing size items puts takes passage

passes-take :
    (size : ℕ) (item : Item) (items : List Item) (puts : List (Request Item)) (take : Request Bool) (takes : List (Request Bool)) (peeks : Bool) (passage : Passage) → take.wish ≡ peeks
    → passage_in (fifo_state_with size (item ∷ items) puts (take ∷ takes)) ≡ Some passage → IsPassing size (item ∷ items) puts (take ∷ takes) passage
unfolding next_move
passes-take size item items puts take takes true passage is e =
    let same : Some (passage_by (record { kind = Peek; owner = take.requester; item = item })) ≡ Some passage = sym (take-passes size item items puts take takes true is) ∙ e in
    let p : passage_by (record { kind = Peek; owner = take.requester; item = item }) ≡ passage = cc in
    ByPeek take takes refl (ap (λ (p : Passage). p.kind) (sym p)) (ap (λ (p : Passage). p.request) (sym p)) (rw is refl)
passes-take size item items puts take takes false passage is e =
    let same : Some (passage_by (record { kind = Take; owner = take.requester; item = item })) ≡ Some passage = sym (take-passes size item items puts take takes false is) ∙ e in
    let p : passage_by (record { kind = Take; owner = take.requester; item = item }) ≡ passage = cc in
    ByTake take takes refl (ap (λ (p : Passage). p.kind) (sym p)) (ap (λ (p : Passage). p.request) (sym p)) (omega arith) (rw is refl)

passes-put :
    (size : ℕ) (items : List Item) (puts : List (Request Item)) (takes : List (Request Bool)) (room : Bool) (passage : Passage) → has_room (fifo_state_with size items puts takes) ≡ room
    → (takes ≡ []) ⊎ (items ≡ []) → passage_in (fifo_state_with size items puts takes) ≡ Some passage → IsPassing size items puts takes passage
unfolding next_move
passes-put size items [] takes room passage is no_takes e = let none = sym (blocked size items [] takes no_takes (inl refl)) ∙ e in cc
passes-put size items (put ∷ puts) takes false passage is no_takes e = let none = sym (blocked size items (put ∷ puts) takes no_takes (inr is)) ∙ e in cc
passes-put size items (put ∷ puts) takes true passage is no_takes e =
    let same : Some (passage_by (record { kind = Put; owner = put.requester; item = put.wish })) ≡ Some passage = sym (rw (no-take takes items no_takes, is) refl) ∙ e in
    let p : passage_by (record { kind = Put; owner = put.requester; item = put.wish }) ≡ passage = cc in
    ByPut put puts refl (ap (λ (p : Passage). p.kind) (sym p)) (ap (λ (p : Passage). p.request) (sym p)) (rw (no-take takes items no_takes, is, ← ap (λ (p : Passage). p.item) p) refl)

pub passing-is : (size : ℕ) (items : List Item) (puts : List (Request Item)) (takes : List (Request Bool)) (passage : Passage) → passage_in (fifo_state_with size items puts takes) ≡ Some passage → IsPassing size items puts takes passage
passing-is size items puts [] passage e = passes-put size items puts [] (has_room (fifo_state_with size items puts [])) passage refl (inl refl) e
passing-is size [] puts (take ∷ takes) passage e = passes-put size [] puts (take ∷ takes) (has_room (fifo_state_with size [] puts (take ∷ takes))) passage refl (inr refl) e
passing-is size (item ∷ items) puts (take ∷ takes) passage e = passes-take size item items puts take takes take.wish passage refl e

-- what there is of a FIFO once something passed
pub record HasPassed (count : ℕ) (size : ℕ) (entered more : List Item) (left gone : ℕ) (puts : List (Request Item)) (puts_answered puts_more : List ℕ) (takes : List (Request Bool)) (takes_answered takes_more : List ℕ) (ended : List Phase) : Type 0 where
  pub fifo_state : state (Some size) more gone puts puts_more takes takes_more ended ≡ option_map after_passage (state (Some size) entered left puts puts_answered takes takes_answered ended)
  pub few : gone ≤ length more
  pub are_puts : AreAsked (suc count) puts puts_more
  pub are_takes : AreAsked (suc count) takes takes_more

pub has-passed :
    (count size : ℕ) (entered : List Item) (left : ℕ) (puts : List (Request Item)) (puts_answered : List ℕ) (takes : List (Request Bool)) (takes_answered : List ℕ) (ended : List Phase) (passage : Passage)
    → left ≤ length entered → AreAsked count puts puts_answered → AreAsked count takes takes_answered
    → IsPassing size (drop left entered) (filter (is_waiting puts_answered ended) puts) (filter (is_waiting takes_answered ended) takes) passage
    → HasPassed count size entered (if is_put passage.kind then entered ++ passage.item ∷ [] else entered) left (if is_take passage.kind then suc left else left)
    puts puts_answered (if is_put passage.kind then passage.request ∷ puts_answered else puts_answered) takes takes_answered (if is_no_put passage.kind then passage.request ∷ takes_answered else takes_answered) ended
has-passed count size entered left puts puts_answered takes takes_answered ended passage few are_puts are_takes (ByPut request rest is kind place after) = rw (kind, place) (record {
  fifo_state = rw (items-more left entered passage.item few, waiting-less puts_answered ended puts rest request are_puts.apart is) (ap Some (sym after));
  few = omega (arith, few, length-append entered (passage.item ∷ []));
  are_puts = asked-answered ended request is are_puts;
  are_takes = asked-later are_takes;
})
has-passed count size entered left puts puts_answered takes takes_answered ended passage few are_puts are_takes (ByTake request rest is kind place some after) = rw (kind, place) (record {
  fifo_state = rw (items-less left entered, waiting-less takes_answered ended takes rest request are_takes.apart is) (ap Some (sym after));
  few = omega (arith, some, length-drop left entered);
  are_puts = asked-later are_puts;
  are_takes = asked-answered ended request is are_takes;
})
has-passed count size entered left puts puts_answered takes takes_answered ended passage few are_puts are_takes (ByPeek request rest is kind place after) = rw (kind, place) (record {
  fifo_state = rw (waiting-less takes_answered ended takes rest request are_takes.apart is) (ap Some (sym after));
  few = few;
  are_puts = asked-later are_puts;
  are_takes = asked-answered ended request is are_takes;
})
