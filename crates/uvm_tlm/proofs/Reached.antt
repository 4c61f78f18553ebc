-- What connections reach.
use Rattle.uvm_tlm.proofs.Common.{◌≡◌, ℕ, Bool, true, ◌&&◌, ◌||◌, eqb, List, All, sym, ap, ◌∙◌, list_any, and_from, and_parts, eqb-true, or_left, or_right, All-weaker, Connection, leads, reaches, is_connected}
use Rattle.uvm_tlm.proofs.Leads.{is_closed_at, leads_along, leads_closed, leads_itself, leads-leads}
use Rattle.uvm_tlm.proofs.Lists.{any_follows, any_weaker}

-- the first connection of those that reach a node
abbrev starts : List Connection → ℕ → ℕ → Connection → Bool
starts connections from to c = eqb from c.from && leads connections c.to to

pub reaches_leads : (connections : List Connection) (from to : ℕ) → reaches connections from to ≡ true → leads connections from to ≡ true
unfolding reaches
reaches_leads connections from to h =
    any_follows (starts connections from to) (leads connections from to) connections
    (All-weaker (λ c. leads connections c.from c.to ≡ true) (λ c. starts connections from to c ≡ true → leads connections from to ≡ true)
    (λ c along both.
    let parts = and_parts (eqb from c.from) (leads connections c.to to) both in
    leads-leads connections from c.to to (ap (λ n. leads connections n c.to) (eqb-true from c.from parts.0) ∙ along) parts.1)
    connections (leads_along connections))
    h

-- a connection and what leads on from its end
over : (connections : List Connection) (from between to : ℕ) → is_connected connections from between ≡ true → leads connections between to ≡ true → reaches connections from to ≡ true
unfolding reaches
over connections from between to h on =
    any_weaker (λ c. eqb from c.from && eqb between c.to) (starts connections from to) connections
    (λ k d _ both.
    let parts = and_parts _ _ both in
    and_from _ _ parts.0 (ap (λ n. leads connections n to) (sym (eqb-true _ _ parts.1)) ∙ on))
    h

pub reaches_connected : (connections : List Connection) (from to : ℕ) → is_connected connections from to ≡ true → reaches connections from to ≡ true
reaches_connected connections from to h = over connections from to to h (leads_itself connections to)

pub reaches_through : (connections : List Connection) (from between to : ℕ) → is_connected connections from between ≡ true → reaches connections between to ≡ true → reaches connections from to ≡ true
reaches_through connections from between to h on = over connections from between to h (reaches_leads connections between to on)

-- what reaches a node is the start of a connection
pub reaches_starts : (connections : List Connection) (from to : ℕ) → reaches connections from to ≡ true → list_any (λ c. eqb from c.from) connections ≡ true
unfolding reaches
reaches_starts connections from to h =
    any_weaker (starts connections from to) (λ c. eqb from c.from) connections
    (λ k d _ both. (and_parts _ _ both).0)
    h

-- of some nodes that have the start of each connection to the target or one of them, all that reach the target are some
pub reached_all : (connections : List Connection) (target n : ℕ) (some : ℕ → Bool)
    → All (λ c. (eqb c.to target || some c.to) ≡ true → some c.from ≡ true) connections
    → eqb target target ≡ true
    → reaches connections n target ≡ true → some n ≡ true
unfolding reaches
reached_all connections target n some closed itself h =
    let member : ℕ → Bool = λ m. eqb m target || some m in
    any_follows (starts connections n target) (some n) connections
    (All-weaker (λ c. member c.to ≡ true → some c.from ≡ true) (λ c. starts connections n target c ≡ true → some n ≡ true)
    (λ c inward both.
    let parts = and_parts (eqb n c.from) (leads connections c.to target) both in
    ap some (eqb-true n c.from parts.0)
    ∙ inward (leads_closed member connections c.to target
    (All-weaker (λ c. member c.to ≡ true → some c.from ≡ true) (is_closed_at member) (λ d inward k. or_right (eqb d.from target) (some d.from) (inward k)) connections closed)
    (or_left (eqb target target) (some target) itself) parts.1))
    connections closed)
    h
