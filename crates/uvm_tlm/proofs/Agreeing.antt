-- The kind of a port, along routes.
use Rattle.uvm_tlm.proofs.Common.{◌≡◌, ℕ, true, false, not, ◌&&◌, List, [], All, Contains, Option, Some, None, filter, option_and_then, refl, sym, ap, ◌∙◌, option_map_or, and_parts, false≢true, All-contains, All-nil, All-weaker, filter_passes, none-some, same_Some, End, Port, Export, Imp, Fifo, Sequencer, PortKind, Put, Get, Analysis, Seq, Connection, accepts, agrees, is_port, port_kind, same_kind, Route, over, along, accepts_at, WiringValue, IsWiring, end_at, is_target_at, kind_at, may_connect, reaches, targets_in, targets_of}
use Rattle.uvm_tlm.proofs.Routes.{route_of}

-- the kind in which a port or an export asks
asks : End → Option PortKind
asks (Port kind) = Some kind
asks (Export kind) = Some kind
asks end = None

same : (a b : PortKind) → same_kind a b ≡ true → a ≡ b
same Put Put h = refl
same Get Get h = refl
same Analysis Analysis h = refl
same Seq Seq h = refl
same Put Get h = absurd (false≢true h)
same Put Analysis h = absurd (false≢true h)
same Put Seq h = absurd (false≢true h)
same Get Put h = absurd (false≢true h)
same Get Analysis h = absurd (false≢true h)
same Get Seq h = absurd (false≢true h)
same Analysis Put h = absurd (false≢true h)
same Analysis Get h = absurd (false≢true h)
same Analysis Seq h = absurd (false≢true h)
same Seq Put h = absurd (false≢true h)
same Seq Get h = absurd (false≢true h)
same Seq Analysis h = absurd (false≢true h)

-- a connection goes to what accepts its kind
accepted : (from to : End) (kind : PortKind) → agrees from to ≡ true → asks from ≡ Some kind → accepts to kind ≡ true
unfolding asks
accepted (Port own) to kind h is = ap (accepts to) (sym (same_Some own kind is)) ∙ h
accepted (Export own) to kind h is = ap (accepts to) (sym (same_Some own kind is)) ∙ (and_parts (not (is_port to)) (accepts to own) h).1
accepted Imp to kind h is = absurd (false≢true h)
accepted (Fifo size) to kind h is = absurd (false≢true h)
accepted Sequencer to kind h is = absurd (false≢true h)

-- what accepts a kind and asks itself asks in that kind
asks_on : (from to : End) (kind : PortKind) → accepts from kind ≡ true → agrees from to ≡ true → asks from ≡ Some kind
unfolding asks
asks_on (Port own) to kind is h = ap (λ k. Some k) (same own kind is)
asks_on (Export own) to kind is h = ap (λ k. Some k) (same own kind is)
asks_on Imp to kind is h = absurd (false≢true h)
asks_on (Fifo size) to kind is h = absurd (false≢true h)
asks_on Sequencer to kind is h = absurd (false≢true h)

-- what stands at the end of a connection, and agrees with what stands at its start
agreed : (from : End) (to : Option End) → may_connect (Some from) to ≡ true → (end : End) × ((to ≡ Some end) × (agrees from end ≡ true))
agreed from None h = absurd (false≢true h)
agreed from (Some end) h = (end, (refl, h))

step : (w : WiringValue) → IsWiring w → (c : Connection) → Contains w.connections c → (from : End) → end_at w.ends c.from ≡ Some from → (end : End) × ((end_at w.ends c.to ≡ Some end) × (agrees from end ≡ true))
step w is c member from at =
    agreed from (end_at w.ends c.to)
    (ap (λ o. may_connect o (end_at w.ends c.to)) (sym at) ∙ All-contains (λ d. may_connect (end_at w.ends d.from) (end_at w.ends d.to) ≡ true) w.connections c is.allowed member)

-- a route starts with a connection
first_step : (w : WiringValue) → IsWiring w → {from to : ℕ} → Route w.connections from to → (end : End) → end_at w.ends from ≡ Some end → (next : End) × (agrees end next ≡ true)
first_step w is (over c member) end at = let one = step w is c member end at in (one.0, one.1.1)
first_step w is (along c to member rest) end at = let one = step w is c member end at in (one.0, one.1.1)

-- a route leads to what accepts the kind in which its start asks
along_route : (w : WiringValue) → IsWiring w → {from to : ℕ} (kind : PortKind) → Route w.connections from to → (start : End) → end_at w.ends from ≡ Some start → asks start ≡ Some kind → accepts_at w.ends kind to ≡ true
along_route w is kind (over c member) start at is_kind =
    let one = step w is c member start at in
    ap (λ o. option_map_or (λ end. accepts end kind) o false) one.1.0 ∙ accepted start one.0 kind one.1.1 is_kind
along_route w is kind (along c to member rest) start at is_kind =
    let one = step w is c member start at in
    let next = first_step w is rest one.0 one.1.0 in
    along_route w is kind rest one.0 one.1.0 (asks_on one.0 next.0 kind (accepted start one.0 kind one.1.1 is_kind) next.1)

-- a port asks in its kind
port_asks : (end : Option End) (kind : PortKind) → option_and_then port_kind end ≡ Some kind → (start : End) × ((end ≡ Some start) × (asks start ≡ Some kind))
unfolding asks
port_asks None kind h = absurd (none-some kind h)
port_asks (Some (Port own)) kind h = (Port own, (refl, h))
port_asks (Some (Export own)) kind h = absurd (none-some kind h)
port_asks (Some Imp) kind h = absurd (none-some kind h)
port_asks (Some (Fifo size)) kind h = absurd (none-some kind h)
port_asks (Some Sequencer) kind h = absurd (none-some kind h)

pub targets_accept : (w : WiringValue) → IsWiring w → (port : ℕ) (kind : PortKind) → kind_at w.ends port ≡ Some kind → All (λ target. accepts_at w.ends kind target ≡ true) (targets_of w port)
unfolding targets_of targets_in
targets_accept w is port kind h = by w.order
  where
    start : (end : End) × ((end_at w.ends port ≡ Some end) × (asks end ≡ Some kind))
    start = port_asks (end_at w.ends port) kind h

    by : (order : Option (List ℕ)) → All (λ target. accepts_at w.ends kind target ≡ true) (option_map_or (λ order. filter (λ n. is_target_at w.ends n && reaches w.connections port n) order) order [])
    by None = All-nil (λ target. accepts_at w.ends kind target ≡ true)
    by (Some order) =
        All-weaker (λ n. (is_target_at w.ends n && reaches w.connections port n) ≡ true) (λ target. accepts_at w.ends kind target ≡ true)
        (λ n passes. along_route w is kind (route_of w.connections port n (and_parts (is_target_at w.ends n) (reaches w.connections port n) passes).1) start.0 start.1.0 start.1.1)
        (filter (λ n. is_target_at w.ends n && reaches w.connections port n) order)
        (filter_passes (λ n. is_target_at w.ends n && reaches w.connections port n) order)
