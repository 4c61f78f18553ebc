-- What each call keeps of a wiring.
use Rattle.uvm_tlm.proofs.Common.{◌≡◌, ℕ, Bool, true, false, ◌&&◌, ◌||◌, cond, eqb, inl, inr, nat_eq, not, List, [], ◌∷◌, ◌++◌, map, reverse, Option, Some, None, is_some, option_map, refl, sym, ap, subst, ◌∙◌, AllByRecursion, ForSome, and_parts, eqb-true, false≢true, or_cases, or_right, reverse-append, All-weaker, IsDistinct-cons, none-some, same_Some, fault_if, first_given, End, KindDiffers, Late, Unknown, Connection, Inside, has, connections_of, nodes_of, value_of, WiringValue, IsWiring, IsPathOrder, end_at, connections_among, is_closed, are_known, connect_fault, may_connect, with_end, with_connection}
use Rattle.std.specs.HashMap.{keys as keys_in}
use Rattle.uvm_tlm.specs.Wirings.{is_connected}
use Rattle.uvm_tlm.proofs.Listed.{AreBetween, added-there, all-among, among-more, among-same, listed}
use Rattle.uvm_tlm.proofs.Lists.{any_follows, same_answer}

-- what holds of a value holds of the one that there is
pub for_some : {X : Type 0} (P : X → Type 0) (x : X) → P x → ForSome (Some x) P
for_some P x here y same = subst P (same_Some x y same) here

pub for_none : {X : Type 0} (P : X → Type 0) (found : Option X) → found ≡ None → ForSome found P
for_none P found none x some = absurd (none-some x (sym none ∙ some))

-- a node at which nothing stands is none of those at which something does
not_known : (ends : List (ℕ × End)) (node : ℕ) → end_at ends node ≡ None → AllByRecursion (λ m. nat_eq node m ≡ false) (map (λ e. e.0) ends)
not_known [] node none = tt
not_known (e ∷ ends) node none = by (nat_eq node e.0) refl none (not_known ends node)
  where
    by : (b : Bool) → nat_eq node e.0 ≡ b → cond b (Some e.1) (end_at ends node) ≡ None → (end_at ends node ≡ None → AllByRecursion (λ m. nat_eq node m ≡ false) (map (λ e. e.0) ends))
        → (nat_eq node e.0 ≡ false) × AllByRecursion (λ m. nat_eq node m ≡ false) (map (λ e. e.0) ends)
    by true is none rest = absurd (none-some e.1 (sym none))
    by false is none rest = (is, rest none)

-- where something stands at a node, one more node leaves it there
still_there : (ends : List (ℕ × End)) (node : ℕ) (end : End) (n : ℕ) (there : Option End) → end_at ends node ≡ None → end_at ends n ≡ there
    → (b : Bool) → nat_eq n node ≡ b → (there ≡ None → ⊥) → cond b (Some end) (end_at ends n) ≡ end_at ends n
still_there ends node end n there none is true same some = absurd (some (sym is ∙ ap (end_at ends) (eqb-true n node same) ∙ none))
still_there ends node end n there none is false same some = refl

some_from : (from to : Option End) → may_connect from to ≡ true → from ≡ None → ⊥
some_from None to h none = false≢true h
some_from (Some from) to h none = none-some from (sym none)

some_to : (from to : Option End) → may_connect from to ≡ true → to ≡ None → ⊥
some_to None to h none = false≢true h
some_to (Some from) None h none = false≢true h
some_to (Some from) (Some to) h none = none-some to (sym none)

pub added : (w : WiringValue) (node : ℕ) (end : End) → w.order ≡ None → end_at w.ends node ≡ None → IsWiring w → IsWiring (with_end node end w)
added w node end unclosed none is = record {
  apart = IsDistinct-cons nat_eq node (map (λ e. e.0) w.ends) (not_known w.ends node none) is.apart;
  allowed = All-weaker (λ c. may_connect (end_at w.ends c.from) (end_at w.ends c.to) ≡ true) (λ c. may_connect (end_at ((node, end) ∷ w.ends) c.from) (end_at ((node, end) ∷ w.ends) c.to) ≡ true)
      (λ c h.
      let from = still_there w.ends node end c.from (end_at w.ends c.from) none refl (nat_eq c.from node) refl (some_from (end_at w.ends c.from) (end_at w.ends c.to) h) in
      let to = still_there w.ends node end c.to (end_at w.ends c.to) none refl (nat_eq c.to node) refl (some_to (end_at w.ends c.from) (end_at w.ends c.to) h) in
      ap (λ o. may_connect o (end_at ((node, end) ∷ w.ends) c.to)) from ∙ ap (may_connect (end_at w.ends c.from)) to ∙ h)
      w.connections is.allowed;
  ordered = for_none (λ order. IsPathOrder order ((node, end) ∷ w.ends)) w.order unclosed;
}

pub connected : (w : WiringValue) (from to : ℕ) → may_connect (end_at w.ends from) (end_at w.ends to) ≡ true → IsWiring w → IsWiring (with_connection from to w)
connected w from to allowed is = record {
  apart = is.apart;
  allowed = all-among (λ a b. may_connect (end_at w.ends a) (end_at w.ends b) ≡ true) (λ a b. (eqb a from && eqb b to) || is_connected w.connections a b) (map (λ e. e.0) w.ends) (λ a b h.
      elim (or_cases (eqb a from && eqb b to) (is_connected w.connections a b) h) [
        | inl this ↦
            let same = and_parts (eqb a from) (eqb b to) this in
            ap (λ n. may_connect (end_at w.ends n) (end_at w.ends b)) (eqb-true a from same.0) ∙ ap (λ n. may_connect (end_at w.ends from) (end_at w.ends n)) (eqb-true b to same.1) ∙ allowed
        | inr earlier ↦
            any_follows (λ c. eqb a c.from && eqb b c.to) (may_connect (end_at w.ends a) (end_at w.ends b)) w.connections
            (All-weaker (λ c. may_connect (end_at w.ends c.from) (end_at w.ends c.to) ≡ true) (λ c. (eqb a c.from && eqb b c.to) ≡ true → may_connect (end_at w.ends a) (end_at w.ends b) ≡ true)
            (λ c allowed both.
            let same = and_parts (eqb a c.from) (eqb b c.to) both in
            ap (λ n. may_connect (end_at w.ends n) (end_at w.ends b)) (eqb-true a c.from same.0) ∙ ap (λ n. may_connect (end_at w.ends c.from) (end_at w.ends n)) (eqb-true b c.to same.1) ∙ allowed)
            w.connections is.allowed)
            earlier
      ]);
  ordered = is.ordered;
}

pub closed : (w : WiringValue) (order : List ℕ) → IsPathOrder order w.ends → IsWiring w → IsWiring (record w { order = Some order })
closed w order whole is = record {
  apart = is.apart;
  allowed = is.allowed;
  ordered = for_some (λ order. IsPathOrder order w.ends) order whole;
}

-- one more stands in front where the list is turned round
pub reverse-push : {X : Type 0} (xs : List X) (x : X) → reverse (xs ++ x ∷ []) ≡ x ∷ reverse xs
reverse-push xs x = reverse-append xs (x ∷ [])

-- where nothing is seen of what was found, nothing was found
pub nothing_found : {X Y : Type 0} (see : X → Y) (found : Option X) → is_some (option_map see found) ≡ false → found ≡ None
nothing_found see None h = refl
nothing_found see (Some x) h = absurd (false≢true (sym h))

-- what is seen of a wiring by its nodes, its connections and the order
abbrev seen : List (ℕ × End) → List Connection → Option (List ℕ) → WiringValue
seen ends connections order = record { ends = ends; connections = connections_among (is_connected connections) (map (λ e. e.0) ends); order = order }

-- with one more node
pub seen-more : (w new : Inside) (node : ℕ) (end : End) → reverse new.ends.entries ≡ (node, end) ∷ reverse w.ends.entries → new.connections.items ≡ w.connections.items → option_map (λ closed. keys_in closed.order) new.closed ≡ option_map (λ closed. keys_in closed.order) w.closed
    → end_at (reverse w.ends.entries) node ≡ None → AreBetween (is_connected w.connections.items) (nodes_of w) → value_of new ≡ with_end node end (value_of w)
seen-more w new node end turned keys order unknown between =
    let more = among-more (is_connected w.connections.items) node (nodes_of w) between (sym (added-there (reverse w.ends.entries) node) ∙ ap is_some unknown) in
    (λ j. seen (turned j) (keys j) (order j))
    ∙ ap (λ (cs : List Connection). record { ends = (node, end) ∷ reverse w.ends.entries; connections = cs; order = option_map (λ closed. keys_in closed.order) w.closed }) more

-- some connections with one more, which may be among them already
abbrev pub IsConnectedMore : List Connection → ℕ → ℕ → List Connection → Type 0
IsConnectedMore old from to new = (a b : ℕ) → is_connected new a b ≡ ((eqb a from && eqb b to) || is_connected old a b)

-- with one more connection
pub seen-connected : (w : Inside) (connections : List Connection) (from to : ℕ) → IsConnectedMore w.connections.items from to connections → AreBetween (is_connected w.connections.items) (nodes_of w)
    → seen (reverse w.ends.entries) connections (option_map (λ closed. keys_in closed.order) w.closed) ≡ with_connection from to (value_of w)
seen-connected w connections from to more between =
    let same = among-same (is_connected connections) (λ a b. (eqb a from && eqb b to) || is_connected (connections_of w) a b) (nodes_of w)
    (λ a b. more a b ∙ ap (λ c. (eqb a from && eqb b to) || c) (sym (listed (is_connected w.connections.items) (nodes_of w) between a b))) in
    ap (λ (cs : List Connection). record { ends = reverse w.ends.entries; connections = cs; order = option_map (λ closed. keys_in closed.order) w.closed }) same

-- which changes nothing where it is there
pub seen-again : (w : Inside) (connections : List Connection) (from to : ℕ) → IsConnectedMore w.connections.items from to connections → AreBetween (is_connected w.connections.items) (nodes_of w) → is_connected (connections_of w) from to ≡ true
    → seen (reverse w.ends.entries) connections (option_map (λ closed. keys_in closed.order) w.closed) ≡ value_of w
seen-again w connections from to more between there =
    let known : is_connected w.connections.items from to ≡ true = sym (listed (is_connected w.connections.items) (nodes_of w) between from to) ∙ there in
    let same = among-same (is_connected connections) (is_connected w.connections.items) (nodes_of w)
    (λ a b. more a b
    ∙ same_answer ((eqb a from && eqb b to) || is_connected w.connections.items a b) (is_connected w.connections.items a b)
    (λ h. elim (or_cases (eqb a from && eqb b to) (is_connected w.connections.items a b) h) [
      | inl this ↦
          let at = and_parts (eqb a from) (eqb b to) this in
          ap (λ n. is_connected w.connections.items n b) (eqb-true a from at.0) ∙ ap (is_connected w.connections.items from) (eqb-true b to at.1) ∙ known
      | inr earlier ↦ earlier
    ])
    (λ h. or_right (eqb a from && eqb b to) (is_connected w.connections.items a b) h)) in
    ap (λ (cs : List Connection). record { ends = reverse w.ends.entries; connections = cs; order = option_map (λ closed. keys_in closed.order) w.closed }) same

-- which goes between nodes
pub between-more : (ends : List (ℕ × End)) (old new : List Connection) (from to : ℕ) → IsConnectedMore old from to new → may_connect (end_at ends from) (end_at ends to) ≡ true → AreBetween (is_connected old) (map (λ e. e.0) ends)
    → AreBetween (is_connected new) (map (λ e. e.0) ends)
between-more ends old new from to more allowed between a b h = elim (or_cases (eqb a from && eqb b to) (is_connected old a b) (sym (more a b) ∙ h)) [
  | inl this ↦
      let same = and_parts (eqb a from) (eqb b to) this in (
        ap (has (map (λ e. e.0) ends)) (eqb-true a from same.0) ∙ sym (added-there ends from) ∙ is-there (end_at ends from) (some_from (end_at ends from) (end_at ends to) allowed),
        ap (has (map (λ e. e.0) ends)) (eqb-true b to same.1) ∙ sym (added-there ends to) ∙ is-there (end_at ends to) (some_to (end_at ends from) (end_at ends to) allowed),
      )
  | inr earlier ↦ between a b earlier
]
  where
    is-there : (end : Option End) → (end ≡ None → ⊥) → is_some end ≡ true
    is-there None some = absurd (some refl)
    is-there (Some end) some = refl

-- where a connection has no fault it is allowed, and the wiring is open
pub unfaulted : (w : WiringValue) (from to : ℕ) → connect_fault w from to ≡ None → (is_closed w ≡ false) × (may_connect (end_at w.ends from) (end_at w.ends to) ≡ true)
unfolding connect_fault
unfaulted w from to none = by (is_closed w) (are_known (end_at w.ends from) (end_at w.ends to)) (may_connect (end_at w.ends from) (end_at w.ends to)) none
  where
    by : (closed known allowed : Bool) → first_given (fault_if closed Late ∷ fault_if (not known) Unknown ∷ fault_if (not allowed) KindDiffers ∷ []) ≡ None → (closed ≡ false) × (allowed ≡ true)
    by true known allowed none = cc
    by false false allowed none = cc
    by false true false none = cc
    by false true true none = (refl, refl)
