-- The drain times that a script gives, and the nodes that have them.
use Rattle.world_state.proofs.Common.{◌≡◌, ◌<◌, ◌==◌, ◌&&◌, ◌||◌, ◌+◌, ◌++◌, ◌∷◌, ◌∙◌, ◌⊎◌, ◌≤◌, ℕ, suc, Bool, true, false, List, [], All, Option, Some, None, find, nat_eq, length, slice_get, get_or, take, reverse, inl, inr, refl, sym, ap, subst, arith, if◌then◌else◌, pointwise, option_map_or, take-suc, nat_tests, reverse-append, All-get_or, slice_get_cases, slice_get_read, Phase, is_task, phase_number, same_phase, drain_given, is_drain_at, ObjectionValue, is_known, new_node, with_drain, HasOwnPlace, OthersStayAt, given_by, nodes_at, place_in, Drain, Node}
use Rattle.world_state.proofs.Listed.{alone}
use Rattle.world_state.proofs.Placed.{parted}

-- the drain time of a node that was set twice is the later one
drain-twice : (node earlier later : ℕ) (nodes : List Node) → with_drain node later (with_drain node earlier nodes) ≡ with_drain node later nodes
drain-twice node earlier later [] = refl
drain-twice node earlier later (e ∷ nodes) = λ i. one (node == e.node) refl i ∷ drain-twice node earlier later nodes i
  where
    one :
        (t : Bool) → (node == e.node) ≡ t
        → (if node == (if t then record e { drain = earlier } else e).node then record (if t then record e { drain = earlier } else e) { drain = later } else (if t then record e { drain = earlier } else e)) ≡ (if t then record e { drain = later } else e)
    one true is = rw is refl
    one false is = rw is refl

-- a new node has none
pub drain-none : (node parent : ℕ) (nodes : List Node) → is_known node nodes ≡ false → with_drain node 0 (nodes ++ new_node node parent ∷ []) ≡ nodes ++ new_node node parent ∷ []
drain-none node parent [] unknown = λ i. last (node == node) i ∷ []
  where
    last : (t : Bool) → (if t then record (new_node node parent) { drain = 0 } else new_node node parent) ≡ new_node node parent
    last true = refl
    last false = refl
drain-none node parent (e ∷ nodes) unknown = tested (e.node == node) refl unknown (drain-none node parent nodes)
  where
    tested :
        (t : Bool) → (e.node == node) ≡ t → (t || is_known node nodes) ≡ false → (is_known node nodes ≡ false → with_drain node 0 (nodes ++ new_node node parent ∷ []) ≡ nodes ++ new_node node parent ∷ [])
        → with_drain node 0 ((e ∷ nodes) ++ new_node node parent ∷ []) ≡ (e ∷ nodes) ++ new_node node parent ∷ []
    tested true is none rest = cc
    tested false is none rest =
        let apart : (node == e.node) ≡ false = grind (arith, nat_tests, is) in
        λ i. (if apart i then record e { drain = 0 } else e) ∷ rest none i

-- it is known
pub new-known : (node parent : ℕ) (nodes : List Node) → is_known node (nodes ++ new_node node parent ∷ []) ≡ true
new-known node parent [] = let same : (node == node) ≡ true = grind (arith, nat_tests) in rw same refl
new-known node parent (e ∷ nodes) = rw (new-known node parent nodes) (or-true (e.node == node))
  where
    or-true : (b : Bool) → (b || true) ≡ true
    or-true true = refl
    or-true false = refl

-- who is known stays so
pub drain-known : (k node ticks : ℕ) (nodes : List Node) → is_known k (with_drain node ticks nodes) ≡ is_known k nodes
drain-known k node ticks [] = refl
drain-known k node ticks (e ∷ nodes) = λ i. (one (node == e.node) i == k) || drain-known k node ticks nodes i
  where
    one : (t : Bool) → (if t then record e { drain = ticks } else e).node ≡ e.node
    one true = refl
    one false = refl

-- a later row for the same path and phase holds
given-more : (done : List Drain) (drain : Drain) (phase : Phase) (path : List (List ℕ)) → drain_given (done ++ drain ∷ []) phase path ≡ (if is_drain_at phase path drain then drain.ticks else drain_given done phase path)
given-more done drain phase path =
    ap (λ (rows : List Drain). option_map_or (λ (d : Drain). d.ticks) (find (is_drain_at phase path) rows) 0) (reverse-append done (drain ∷ [])) ∙ tested (is_drain_at phase path drain)
  where
    tested : (t : Bool) → option_map_or (λ (d : Drain). d.ticks) (if t then Some drain else find (is_drain_at phase path) (reverse done)) 0 ≡ (if t then drain.ticks else drain_given done phase path)
    tested true = refl
    tested false = refl

-- with one row more
pub drain-step :
    (rows : List Drain) (row : ℕ) (phase : Phase) (path : List (List ℕ)) (node : ℕ) (base mid new : List Node) → row < length rows → mid ≡ with_drain node (drain_given (take row rows) phase path) base
    → new ≡ given_by (slice_get rows row) phase path node mid → new ≡ with_drain node (drain_given (take (row + 1) rows) phase path) base
drain-step rows row phase path node base mid new low was is = by (slice_get_cases rows row).1 ∙ (let next : suc row ≡ row + 1 = omega arith in ap (λ (n : ℕ). with_drain node (drain_given (take n rows) phase path) base) next)
  where
    more : (drain : Drain) (t : Bool) → (if t then with_drain node drain.ticks (with_drain node (drain_given (take row rows) phase path) base) else with_drain node (drain_given (take row rows) phase path) base) ≡ with_drain node (if t then drain.ticks else drain_given (take row rows) phase path) base
    more drain true = drain-twice node (drain_given (take row rows) phase path) drain.ticks base
    more drain false = refl

    by : ((x : Drain) × (row < length rows) × (slice_get rows row ≡ Some x) × (get_or rows row x ≡ x)) ⊎ ((length rows ≤ row) × (slice_get rows row ≡ None)) → new ≡ with_drain node (drain_given (take (suc row) rows) phase path) base
    by (inl found) =
        let drain = found.0 in
        let next : take (suc row) rows ≡ take row rows ++ drain ∷ [] = take-suc rows row drain low ∙ ap (λ (d : Drain). take row rows ++ d ∷ []) found.3 in
        let given = ap (λ (done : List Drain). drain_given done phase path) next ∙ given-more (take row rows) drain phase path in
        is ∙ ap (λ (f : Option Drain). given_by f phase path node mid) found.2 ∙ ap (λ (nodes : List Node). given_by (Some drain) phase path node nodes) was ∙ more drain (is_drain_at phase path drain) ∙ ap (λ (ticks : ℕ). with_drain node ticks base) (sym given)
    by (inr past) = absurd (omega (arith, low, past.0))

-- a row that is found stands at its place, and what holds of each holds of it
pub row-at : (rows : List Drain) (row : ℕ) (drain : Drain) → row < length rows → drain ≡ get_or rows row drain → slice_get rows row ≡ Some drain
row-at rows row drain low is = slice_get_read rows (length rows) row drain refl low is

pub row-is : (P : Drain → Type 0) (rows : List Drain) (row : ℕ) (drain : Drain) → row < length rows → drain ≡ get_or rows row drain → All P rows → P drain
row-is P rows row drain low is all = subst P (sym is) (All-get_or P rows row drain low all)

-- two phases that take time are the same where their places are
placed : (a b : Phase) → is_task a ≡ true → is_task b ≡ true → (place_in a == place_in b) ≡ same_phase a b
placed a b one other = by (same_phase a b) refl
  where
    by : (t : Bool) → same_phase a b ≡ t → (place_in a == place_in b) ≡ t
    by true is =
        let numbers : phase_number a ≡ phase_number b = grind (arith, nat_tests, is) in
        rw numbers (grind (arith, nat_tests))
    by false is = parted a b one other is

-- the objection of the phase of a row changes, and no other
row-places :
    (drain : Drain) (place node : ℕ) (old new : List ObjectionValue) → place ≡ place_in drain.phase → HasOwnPlace (place_in drain.phase) old → nodes_at new place ≡ with_drain node drain.ticks (nodes_at old place)
    → OthersStayAt place old new → (phase : Phase) (t : Bool) → (place_in drain.phase == place_in phase) ≡ t
    → nodes_at new (place_in phase) ≡ (if t then with_drain node drain.ticks (nodes_at old (place_in phase)) else nodes_at old (place_in phase))
row-places drain place node old new here own is others phase true same =
    let there : place ≡ place_in phase = grind (arith, nat_tests, here, same) in
    subst (λ (n : ℕ). nodes_at new n ≡ with_drain node drain.ticks (nodes_at old n)) there is
row-places drain place node old new here own is others phase false apart = alone drain.phase old new own (subst (λ (n : ℕ). OthersStayAt n old new) here others) phase apart

-- a row that is for a path sets the drain time in its phase
pub row-sets :
    (rows : List Drain) (row : ℕ) (drain : Drain) (path : List (List ℕ)) (place node : ℕ) (old new : List ObjectionValue) → slice_get rows row ≡ Some drain → pointwise (pointwise nat_eq) drain.path path ≡ true
    → is_task drain.phase ≡ true → place ≡ place_in drain.phase → HasOwnPlace (place_in drain.phase) old → nodes_at new place ≡ with_drain node drain.ticks (nodes_at old place) → OthersStayAt place old new
    → (phase : Phase) → is_task phase ≡ true → nodes_at new (place_in phase) ≡ given_by (slice_get rows row) phase path node (nodes_at old (place_in phase))
row-sets rows row drain path place node old new found equal takes here own is others phase task =
    row-places drain place node old new here own is others phase (place_in drain.phase == place_in phase) refl
    ∙ ap (λ (t : Bool). if t then with_drain node drain.ticks (nodes_at old (place_in phase)) else nodes_at old (place_in phase)) (placed drain.phase phase takes task ∙ sym (and-true (same_phase drain.phase phase)) ∙ ap (λ (b : Bool). same_phase drain.phase phase && b) (sym equal))
    ∙ ap (λ (f : Option Drain). given_by f phase path node (nodes_at old (place_in phase))) (sym found)
  where
    and-true : (b : Bool) → (b && true) ≡ b
    and-true true = refl
    and-true false = refl

-- one that is for another path does not
pub row-leaves :
    (rows : List Drain) (row : ℕ) (drain : Drain) (path : List (List ℕ)) (node : ℕ) (nodes : List Node) → slice_get rows row ≡ Some drain → pointwise (pointwise nat_eq) drain.path path ≡ false
    → (phase : Phase) → nodes ≡ given_by (slice_get rows row) phase path node nodes
row-leaves rows row drain path node nodes found apart phase =
    ap (λ (t : Bool). if t then with_drain node drain.ticks nodes else nodes) (sym (ap (λ (b : Bool). same_phase drain.phase phase && b) apart ∙ and-false (same_phase drain.phase phase)))
    ∙ ap (λ (f : Option Drain). given_by f phase path node nodes) (sym found)
  where
    and-false : (b : Bool) → (b && false) ≡ false
    and-false true = refl
    and-false false = refl

-- who is known stays so in each
pub row-knows :
    (drain : Drain) (k place node : ℕ) (old new : List ObjectionValue) → place ≡ place_in drain.phase → HasOwnPlace (place_in drain.phase) old → nodes_at new place ≡ with_drain node drain.ticks (nodes_at old place)
    → OthersStayAt place old new → (phase : Phase) → is_known k (nodes_at new (place_in phase)) ≡ is_known k (nodes_at old (place_in phase))
row-knows drain k place node old new here own is others phase =
    ap (λ (nodes : List Node). is_known k nodes) (row-places drain place node old new here own is others phase (place_in drain.phase == place_in phase) refl) ∙ tested (place_in drain.phase == place_in phase)
  where
    tested : (t : Bool) → is_known k (if t then with_drain node drain.ticks (nodes_at old (place_in phase)) else nodes_at old (place_in phase)) ≡ is_known k (nodes_at old (place_in phase))
    tested true = drain-known k node drain.ticks (nodes_at old (place_in phase))
    tested false = refl
