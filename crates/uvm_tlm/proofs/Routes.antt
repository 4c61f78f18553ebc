-- Routes, and the test that finds them.
use Rattle.uvm_tlm.proofs.Common.{◌≡◌, ℕ, Bool, true, ◌&&◌, eqb, List, [], ◌∷◌, Contains, ◌⊎◌, inl, inr, sym, ap, subst, ◌∙◌, list_any, and_from, and_parts, eqb-true, false≢true, or_cases, Contains-append_left, Contains-append_right, Contains-push, list_any_at, Connection, Route, over, along, leads, reaches, is_connected}
use Rattle.uvm_tlm.proofs.Leads.{ways}
use Rattle.uvm_tlm.proofs.Lists.{eqb-same}
use Rattle.uvm_tlm.proofs.Reached.{reaches_connected, reaches_through}

-- an element that passes a test
pub any_member : {X : Type 0} (test : X → Bool) (xs : List X) (x : X) → Contains xs x → test x ≡ true → list_any test xs ≡ true
any_member test xs x member passes = list_any_at test xs member.0 x member.1 (ap test member.2 ∙ passes)

-- and such an element where there is one
pub member_of_any : {X : Type 0} (test : X → Bool) (xs : List X) → list_any test xs ≡ true → (x : X) × (Contains xs x × (test x ≡ true))
member_of_any test [] h = absurd (false≢true h)
member_of_any test (x ∷ xs) h = by (or_cases (test x) (list_any test xs) h) (member_of_any test xs)
  where
    by : (test x ≡ true) ⊎ (list_any test xs ≡ true) → (list_any test xs ≡ true → (y : _) × (Contains xs y × (test y ≡ true))) → (y : _) × (Contains (x ∷ xs) y × (test y ≡ true))
    by (inl here) rest = (x, (Contains-append_left (x ∷ []) xs x (Contains-push [] x), here))
    by (inr later) rest = let found = rest later in (found.0, (Contains-append_right (x ∷ []) xs found.0 found.1.0, found.1.1))

-- each connection is found
pub connected : (connections : List Connection) (c : Connection) → Contains connections c → is_connected connections c.from c.to ≡ true
connected connections c member = any_member (λ d. eqb c.from d.from && eqb c.to d.to) connections c member (and_from _ _ (eqb-same c.from) (eqb-same c.to))

-- a route is found
pub found : (connections : List Connection) {from to : ℕ} → Route connections from to → reaches connections from to ≡ true
found connections (over c member) = reaches_connected connections c.from c.to (connected connections c member)
found connections (along c to member rest) = reaches_through connections c.from c.to to (connected connections c member) (found connections rest)

-- a route, or none is needed
abbrev Way : List Connection → ℕ → ℕ → Type 0
Way connections from to = (from ≡ to) ⊎ Route connections from to

joined : (connections : List Connection) {from between : ℕ} (to : ℕ) → Route connections from between → Route connections between to → Route connections from to
joined connections to (over c member) more = along c to member more
joined connections to (along c between member rest) more = along c to member (joined connections to rest more)

wider : (first : Connection) (connections : List Connection) {from to : ℕ} → Route connections from to → Route (first ∷ connections) from to
wider first connections (over c member) = over c (Contains-append_right (first ∷ []) connections c member)
wider first connections (along c to member rest) = along c to (Contains-append_right (first ∷ []) connections c member) (wider first connections rest)

wider_way : (first : Connection) (connections : List Connection) (from to : ℕ) → Way connections from to → Way (first ∷ connections) from to
wider_way first connections from to (inl same) = inl same
wider_way first connections from to (inr route) = inr (wider first connections route)

-- a way to the start of a connection, the connection, and a way from its end
over_way : (connections : List Connection) (c : Connection) (from to : ℕ) → Contains connections c → Way connections from c.from → Way connections c.to to → Route connections from to
over_way connections c from to member before after = before_it before (after_it after)
  where
    after_it : Way connections c.to to → Route connections c.from to
    after_it (inl same) = subst (Route connections c.from) same (over c member)
    after_it (inr route) = along c to member route

    before_it : Way connections from c.from → Route connections c.from to → Route connections from to
    before_it (inl same) rest = subst (λ n. Route connections n to) (sym same) rest
    before_it (inr route) rest = joined connections to route rest

way_of : (connections : List Connection) (from to : ℕ) → leads connections from to ≡ true → Way connections from to
unfolding leads
way_of [] from to h = inl (eqb-true from to h)
way_of (first ∷ connections) from to h = elim (ways first connections from to h) [
  | inl past ↦ wider_way first connections from to (way_of connections from to past)
  | inr both ↦
      inr (over_way (first ∷ connections) first from to (Contains-append_left (first ∷ []) connections first (Contains-push [] first))
      (wider_way first connections from first.from (way_of connections from first.from both.0))
      (wider_way first connections first.to to (way_of connections first.to to both.1)))
]

-- what is found is a route
pub route_of : (connections : List Connection) (from to : ℕ) → reaches connections from to ≡ true → Route connections from to
unfolding reaches
route_of connections from to h =
    let first = member_of_any (λ c. eqb from c.from && leads connections c.to to) connections h in
    let parts = and_parts (eqb from first.0.from) (leads connections first.0.to to) first.1.1 in
    over_way connections first.0 from to first.1.0 (inl (eqb-true from first.0.from parts.0)) (way_of connections first.0.to to parts.1)
