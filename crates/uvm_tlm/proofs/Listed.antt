-- The connections among nodes as a list.
use Rattle.uvm_tlm.proofs.Common.{◌≡◌, ◌⊎◌, ℕ, Bool, true, false, cond, ◌&&◌, ◌||◌, eqb, List, [], ◌∷◌, ◌++◌, map, filter, find, All, Some, is_some, refl, sym, ap, ◌∙◌, inl, inr, flat_map, and_from, and_parts, eqb-true, false≢true, true≢false, or_cases, or_left, or_right, All-append, All-map, All-nil, All-weaker, filter_passes, list_any-append, End, Connection, has, Route, over, along, connection, connections_among, connections_from, driven_by, driver_in, end_at, is_some_of, is_target_at, kind_at, reaches, targets_in}
use Rattle.uvm_tlm.specs.Wirings.{is_connected}
use Rattle.uvm_tlm.proofs.Lists.{eqb-same, same_answer}
use Rattle.uvm_tlm.proofs.Reached.{reaches_connected, reaches_through}
use Rattle.uvm_tlm.proofs.Routes.{connected, route_of}

abbrev test : ℕ → ℕ → Connection → Bool
test from to c = eqb from c.from && eqb to c.to

-- what is listed is connected
row-sound : (p : ℕ → ℕ → Bool) (nodes : List ℕ) (start from to : ℕ) → is_connected (connections_from p nodes start) from to ≡ true → p from to ≡ true
row-sound p [] start from to h = absurd (false≢true h)
row-sound p (node ∷ nodes) start from to h = by (p start node) refl h (row-sound p nodes start from to)
  where
    by : (linked : Bool) → p start node ≡ linked → is_connected (map (connection start) (cond linked (node ∷ filter (p start) nodes) (filter (p start) nodes))) from to ≡ true
        → (is_connected (connections_from p nodes start) from to ≡ true → p from to ≡ true) → p from to ≡ true
    by true is h rest = elim (or_cases (eqb from start && eqb to node) (is_connected (connections_from p nodes start) from to) h) [
      | inl this ↦
          let same = and_parts (eqb from start) (eqb to node) this in
          ap (λ n. p n to) (eqb-true from start same.0) ∙ ap (p start) (eqb-true to node same.1) ∙ is
      | inr other ↦ rest other
    ]
    by false is h rest = rest h

sound : (p : ℕ → ℕ → Bool) (nodes starts : List ℕ) (from to : ℕ) → is_connected (flat_map (connections_from p nodes) starts) from to ≡ true → p from to ≡ true
sound p nodes [] from to h = absurd (false≢true h)
sound p nodes (start ∷ starts) from to h =
    elim (or_cases (is_connected (connections_from p nodes start) from to) (is_connected (flat_map (connections_from p nodes) starts) from to) (sym (list_any-append (test from to) (connections_from p nodes start) (flat_map (connections_from p nodes) starts)) ∙ h)) [
      | inl here ↦ row-sound p nodes start from to here
      | inr later ↦ sound p nodes starts from to later
    ]

-- and what is connected is listed
row-full : (p : ℕ → ℕ → Bool) (nodes : List ℕ) (from to : ℕ) → has nodes to ≡ true → p from to ≡ true → is_connected (connections_from p nodes from) from to ≡ true
row-full p [] from to there h = absurd (false≢true there)
row-full p (node ∷ nodes) from to there h = by (p from node) refl (or_cases (eqb to node) (has nodes to) there) (λ later. row-full p nodes from to later h)
  where
    by : (linked : Bool) → p from node ≡ linked → (eqb to node ≡ true) ⊎ (has nodes to ≡ true) → (has nodes to ≡ true → is_connected (connections_from p nodes from) from to ≡ true)
        → is_connected (map (connection from) (cond linked (node ∷ filter (p from) nodes) (filter (p from) nodes))) from to ≡ true
    by true is (inl same) rest = or_left _ _ (and_from _ _ (eqb-same from) same)
    by true is (inr later) rest = or_right _ _ (rest later)
    by false is (inl same) rest = absurd (false≢true (sym is ∙ ap (p from) (sym (eqb-true to node same)) ∙ h))
    by false is (inr later) rest = rest later

full : (p : ℕ → ℕ → Bool) (nodes starts : List ℕ) (from to : ℕ) → has starts from ≡ true → has nodes to ≡ true → p from to ≡ true → is_connected (flat_map (connections_from p nodes) starts) from to ≡ true
full p nodes [] from to here there h = absurd (false≢true here)
full p nodes (start ∷ starts) from to here there h =
    list_any-append (test from to) (connections_from p nodes start) (flat_map (connections_from p nodes) starts)
    ∙ elim (or_cases (eqb from start) (has starts from) here) [
      | inl same ↦ or_left (is_connected (connections_from p nodes start) from to) (is_connected (flat_map (connections_from p nodes) starts) from to)
          (ap (λ n. is_connected (connections_from p nodes n) from to) (sym (eqb-true from start same)) ∙ row-full p nodes from to there h)
      | inr later ↦ or_right (is_connected (connections_from p nodes start) from to) (is_connected (flat_map (connections_from p nodes) starts) from to) (full p nodes starts from to later there h)
    ]

-- what is connected goes between some nodes
abbrev pub AreBetween : (ℕ → ℕ → Bool) → List ℕ → Type 0
AreBetween p nodes = (from to : ℕ) → p from to ≡ true → (has nodes from ≡ true) × (has nodes to ≡ true)

-- the list of what is connected shows all of it
pub listed : (p : ℕ → ℕ → Bool) (nodes : List ℕ) → AreBetween p nodes → (from to : ℕ) → is_connected (connections_among p nodes) from to ≡ p from to
listed p nodes between from to =
    same_answer (is_connected (connections_among p nodes) from to) (p from to)
    (sound p nodes nodes from to)
    (λ h. full p nodes nodes from to (between from to h).0 (between from to h).1 h)

-- what holds of all that is connected holds of the list
all-from : (P : ℕ → ℕ → Type 0) (p : ℕ → ℕ → Bool) → ((from to : ℕ) → p from to ≡ true → P from to) → (nodes starts : List ℕ) → All (λ c. P c.from c.to) (flat_map (connections_from p nodes) starts)
all-from P p holds nodes [] = All-nil (λ c. P c.from c.to)
all-from P p holds nodes (start ∷ starts) =
    All-append (λ c. P c.from c.to) (connections_from p nodes start) (flat_map (connections_from p nodes) starts)
    (All-map (λ c. P c.from c.to) (connection start) (filter (p start) nodes)
    (All-weaker (λ n. p start n ≡ true) (P start) (λ n h. holds start n h) (filter (p start) nodes) (filter_passes (p start) nodes)))
    (all-from P p holds nodes starts)

pub all-among : (P : ℕ → ℕ → Type 0) (p : ℕ → ℕ → Bool) (nodes : List ℕ) → ((from to : ℕ) → p from to ≡ true → P from to) → All (λ c. P c.from c.to) (connections_among p nodes)
all-among P p nodes holds = all-from P p holds nodes nodes

-- where the same is connected the list is the same
pub among-same : (p q : ℕ → ℕ → Bool) (nodes : List ℕ) → ((from to : ℕ) → p from to ≡ q from to) → connections_among p nodes ≡ connections_among q nodes
among-same p q nodes same = λ j. connections_among (λ from to. same from to j) nodes

not-there : (b known : Bool) → known ≡ false → (b ≡ true → known ≡ true) → b ≡ false
not-there false known unknown there = refl
not-there true known unknown there = absurd (true≢false (sym (there refl) ∙ unknown))

filter-none : (p : ℕ → Bool) (xs : List ℕ) → ((x : ℕ) → p x ≡ false) → filter p xs ≡ []
filter-none p [] none = refl
filter-none p (x ∷ xs) none = ap (λ b. cond b (x ∷ filter p xs) (filter p xs)) (none x) ∙ filter-none p xs none

-- one more node, at which nothing is connected
pub among-more : (p : ℕ → ℕ → Bool) (node : ℕ) (nodes : List ℕ) → AreBetween p nodes → has nodes node ≡ false → connections_among p (node ∷ nodes) ≡ connections_among p nodes
among-more p node nodes between unknown =
    let from_it : (to : ℕ) → p node to ≡ false = λ to. not-there (p node to) (has nodes node) unknown (λ h. (between node to h).0) in
    let to_it : (from : ℕ) → p from node ≡ false = λ from. not-there (p from node) (has nodes node) unknown (λ h. (between from node h).1) in
    ap (λ (to : List ℕ). map (connection node) to ++ flat_map (connections_from p (node ∷ nodes)) nodes) (filter-none (p node) (node ∷ nodes) from_it)
    ∙ (λ j. flat_map (λ from. map (connection from) (cond (to_it from j) (node ∷ filter (p from) nodes) (filter (p from) nodes))) nodes)

-- a node at which something stands is one of those that were added, and at any other nothing does
pub added-there : (ends : List (ℕ × End)) (n : ℕ) → is_some (end_at ends n) ≡ has (map (λ e. e.0) ends) n
added-there [] n = refl
added-there (e ∷ ends) n = by (eqb n e.0) (added-there ends n)
  where
    by : (b : Bool) → is_some (end_at ends n) ≡ has (map (λ e. e.0) ends) n → is_some (cond b (Some e.1) (end_at ends n)) ≡ (b || has (map (λ e. e.0) ends) n)
    by true rest = refl
    by false rest = rest

-- two lists of the same connections
module _ (xs ys : List Connection) (same : (from to : ℕ) → is_connected xs from to ≡ is_connected ys from to) where
  reached : {from to : ℕ} → Route xs from to → reaches ys from to ≡ true
  reached (over c member) = reaches_connected ys c.from c.to (sym (same c.from c.to) ∙ connected xs c member)
  reached (along c to member rest) = reaches_through ys c.from c.to to (sym (same c.from c.to) ∙ connected xs c member) (reached rest)

-- reach the same
pub reaches-same : (xs ys : List Connection) (same : (from to : ℕ) → is_connected xs from to ≡ is_connected ys from to) (from to : ℕ) → reaches xs from to ≡ reaches ys from to
reaches-same xs ys same from to =
    same_answer (reaches xs from to) (reaches ys from to)
    (λ h. reached xs ys same (route_of xs from to h))
    (λ h. reached ys xs (λ a b. sym (same a b)) (route_of ys from to h))

pub targets-same : (xs ys : List Connection) (same : (from to : ℕ) → is_connected xs from to ≡ is_connected ys from to) (ends : List (ℕ × End)) (order : List ℕ) (node : ℕ) → targets_in ends xs order node ≡ targets_in ends ys order node
unfolding targets_in
targets-same xs ys same ends order node = λ j. filter (λ n. is_target_at ends n && reaches-same xs ys same node n j) order

pub driver-same : (xs ys : List Connection) (same : (from to : ℕ) → is_connected xs from to ≡ is_connected ys from to) (ends : List (ℕ × End)) (order : List ℕ) (sequencer : ℕ) → driver_in ends xs order sequencer ≡ driver_in ends ys order sequencer
unfolding driver_in
driver-same xs ys same ends order sequencer = λ j. find (λ port. is_some_of sequencer (driven_by (kind_at ends port) (targets-same xs ys same ends order port j))) order
