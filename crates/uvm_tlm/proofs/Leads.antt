-- What connections lead to.
use Rattle.uvm_tlm.proofs.Common.{◌≡◌, ◌⊎◌, ℕ, Bool, true, ◌&&◌, eqb, List, [], ◌∷◌, All, inl, inr, ap, ◌∙◌, and_from, and_parts, eqb-true, or_cases, or_left, or_right, All-nil, All-cons, All-head, All-tail, All-weaker, Connection, leads}
use Rattle.uvm_tlm.proofs.Lists.{eqb-same}

pub leads_itself : (connections : List Connection) (n : ℕ) → leads connections n n ≡ true
unfolding leads
leads_itself [] n = eqb-same n
leads_itself (first ∷ connections) n = or_left _ _ (leads_itself connections n)

-- a way past the first connection, or over it
pub ways : (first : Connection) (connections : List Connection) (from to : ℕ) → leads (first ∷ connections) from to ≡ true
    → (leads connections from to ≡ true) ⊎ ((leads connections from first.from ≡ true) × (leads connections first.to to ≡ true))
unfolding leads
ways first connections from to h = elim (or_cases (leads connections from to) (leads connections from first.from && leads connections first.to to) h) [
  | inl past ↦ inl past
  | inr over ↦ inr (and_parts (leads connections from first.from) (leads connections first.to to) over)
]

past : (first : Connection) (connections : List Connection) (from to : ℕ) → leads connections from to ≡ true → leads (first ∷ connections) from to ≡ true
unfolding leads
past first connections from to h = or_left _ _ h

over : (first : Connection) (connections : List Connection) (from to : ℕ) → leads connections from first.from ≡ true → leads connections first.to to ≡ true → leads (first ∷ connections) from to ≡ true
unfolding leads
over first connections from to before after = or_right _ _ (and_from _ _ before after)

pub leads-leads : (connections : List Connection) (a b c : ℕ) → leads connections a b ≡ true → leads connections b c ≡ true → leads connections a c ≡ true
unfolding leads
leads-leads [] a b c p q = ap (λ n. eqb n c) (eqb-true a b p) ∙ q
leads-leads (first ∷ connections) a b c p q = elim (ways first connections a b p) [
  | inl ab ↦ elim (ways first connections b c q) [
    | inl bc ↦ past first connections a c (leads-leads connections a b c ab bc)
    | inr on ↦ over first connections a c (leads-leads connections a b first.from ab on.0) on.1
  ]
  | inr back ↦ elim (ways first connections b c q) [
    | inl bc ↦ over first connections a c back.0 (leads-leads connections first.to b c back.1 bc)
    | inr on ↦ over first connections a c back.0 on.1
  ]
]

-- each connection leads from its start to its end
pub leads_along : (connections : List Connection) → All (λ c. leads connections c.from c.to ≡ true) connections
leads_along [] = All-nil (λ c. leads [] c.from c.to ≡ true)
leads_along (first ∷ connections) =
    All-cons (λ c. leads (first ∷ connections) c.from c.to ≡ true) first connections
    (over first connections first.from first.to (leads_itself connections first.from) (leads_itself connections first.to))
    (All-weaker (λ c. leads connections c.from c.to ≡ true) (λ c. leads (first ∷ connections) c.from c.to ≡ true)
    (λ c h. past first connections c.from c.to h) connections (leads_along connections))

-- the start of a connection is in where its end is
abbrev pub is_closed_at : (ℕ → Bool) → Connection → Type 0
is_closed_at p c = p c.to ≡ true → p c.from ≡ true

-- what is closed under connections has all that leads to what it has
pub leads_closed : (p : ℕ → Bool) (connections : List Connection) (from to : ℕ) → All (is_closed_at p) connections → p to ≡ true → leads connections from to ≡ true → p from ≡ true
unfolding leads
leads_closed p [] from to closed has h = ap p (eqb-true from to h) ∙ has
leads_closed p (first ∷ connections) from to closed has h =
    let rest = All-tail (is_closed_at p) first connections closed in
    elim (ways first connections from to h) [
      | inl way ↦ leads_closed p connections from to rest has way
      | inr both ↦ leads_closed p connections from first.from rest (All-head (is_closed_at p) first connections closed (leads_closed p connections first.to to rest has both.1)) both.0
    ]
