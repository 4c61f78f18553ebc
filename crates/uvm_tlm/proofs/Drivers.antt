-- The driver of a sequencer.
use Rattle.uvm_tlm.proofs.Common.{◌≡◌, ℕ, Bool, true, false, cond, not, eqb, List, [], ◌∷◌, ◌||◌, Option, Some, None, find, option_and_then, is_some, refl, sym, ap, ◌∙◌, list_any, option_map_or, eqb-true, false≢true, none-some, same_Some, fault_if, End, PortKind, Put, Get, Analysis, Seq, TooMany, port_kind, IsDriver, driven_from, WiringValue, IsWiring, IsPathOrder, driven_by, driver_in, end_at, fault_in, is_some_of, kind_at, port_fault, targets_in, targets_of, wire_fault}
use Rattle.uvm_tlm.proofs.Lists.{eqb-same}
use Rattle.uvm_tlm.proofs.Routes.{any_member}
use Rattle.uvm_tlm.proofs.Targets.{in_order}

some_of : (n : ℕ) (found : Option ℕ) → is_some_of n found ≡ true → found ≡ Some n
some_of n None h = absurd (false≢true h)
some_of n (Some m) h = ap (λ k. Some k) (eqb-true m n h)

-- the fault of a port that drives a sequencer goes by which port is the first
fault_of_driver : (kind : Option PortKind) (targets : List ℕ) (driver : ℕ → Option ℕ) (port sequencer : ℕ) → driven_by kind targets ≡ Some sequencer
    → port_fault kind targets driver port ≡ fault_if (not (is_some_of port (driver sequencer))) TooMany
fault_of_driver None targets driver port sequencer h = absurd (none-some sequencer h)
fault_of_driver (Some Put) targets driver port sequencer h = absurd (none-some sequencer h)
fault_of_driver (Some Get) targets driver port sequencer h = absurd (none-some sequencer h)
fault_of_driver (Some Analysis) targets driver port sequencer h = absurd (none-some sequencer h)
fault_of_driver (Some Seq) [] driver port sequencer h = absurd (none-some sequencer h)
fault_of_driver (Some Seq) (target ∷ []) driver port sequencer h = ap (λ s. fault_if (not (is_some_of port (driver s))) TooMany) (same_Some target sequencer h)
fault_of_driver (Some Seq) (target ∷ other ∷ targets) driver port sequencer h = absurd (none-some sequencer h)

sound_first : (b : Bool) → fault_if (not b) TooMany ≡ None → b ≡ true
sound_first true h = refl
sound_first false h = absurd (none-some TooMany (sym h))

-- what is found passes the test
found_passes : (test : ℕ → Bool) (xs : List ℕ) (n : ℕ) → find test xs ≡ Some n → test n ≡ true
found_passes test [] n h = absurd (none-some n h)
found_passes test (x ∷ xs) n h = by (test x) refl h (found_passes test xs n)
  where
    by : (b : Bool) → test x ≡ b → cond b (Some x) (find test xs) ≡ Some n → (find test xs ≡ Some n → test n ≡ true) → test n ≡ true
    by true passes h rest = ap test (sym (same_Some x n h)) ∙ passes
    by false fails h rest = rest h

-- and something is found where an element passes
found_somewhere : (test : ℕ → Bool) (xs : List ℕ) → list_any test xs ≡ true → (n : ℕ) × (find test xs ≡ Some n)
found_somewhere test [] h = absurd (false≢true h)
found_somewhere test (x ∷ xs) h = by (test x) h (found_somewhere test xs)
  where
    by : (b : Bool) → (b || list_any test xs) ≡ true → (list_any test xs ≡ true → (n : ℕ) × (find test xs ≡ Some n)) → (n : ℕ) × (cond b (Some x) (find test xs) ≡ Some n)
    by true h rest = (x, refl)
    by false h rest = rest h

known_kind : (ends : List (ℕ × End)) (port : ℕ) (targets : List ℕ) (sequencer : ℕ) → driven_by (kind_at ends port) targets ≡ Some sequencer → is_some (end_at ends port) ≡ true
known_kind ends port targets sequencer h = by (end_at ends port) h
  where
    by : (o : Option End) → driven_by (option_and_then port_kind o) targets ≡ Some sequencer → is_some o ≡ true
    by None h = absurd (none-some sequencer h)
    by (Some end) h = refl

-- the first port of a path order that drives a sequencer is its one driver
one_driver : (w : WiringValue) (order : List ℕ) (port sequencer : ℕ) → IsPathOrder order w.ends
    → driven_by (kind_at w.ends port) (targets_in w.ends w.connections order port) ≡ Some sequencer
    → (driver : ℕ) × ((driven_by (kind_at w.ends driver) (targets_in w.ends w.connections order driver) ≡ Some sequencer)
    × (fault_in w.ends w.connections order driver ≡ None)
    × ((other : ℕ) → driven_by (kind_at w.ends other) (targets_in w.ends w.connections order other) ≡ Some sequencer → fault_in w.ends w.connections order other ≡ None → other ≡ driver))
unfolding driver_in
one_driver w order port sequencer path drives =
    let driven : ℕ → Option ℕ = λ n. driven_by (kind_at w.ends n) (targets_in w.ends w.connections order n) in
    let test : ℕ → Bool = λ n. is_some_of sequencer (driven n) in
    let first = found_somewhere test order (any_member test order port (in_order order w.ends port path.whole (known_kind w.ends port (targets_in w.ends w.connections order port) sequencer drives)) (ap (is_some_of sequencer) drives ∙ eqb-same sequencer)) in
    let leads_there : driven first.0 ≡ Some sequencer = some_of sequencer (driven first.0) (found_passes test order first.0 first.1) in
    let faults : (n : ℕ) → driven n ≡ Some sequencer → fault_in w.ends w.connections order n ≡ fault_if (not (is_some_of n (Some first.0))) TooMany =
    λ n h. fault_of_driver (kind_at w.ends n) (targets_in w.ends w.connections order n) (driver_in w.ends w.connections order) n sequencer h
    ∙ ap (λ d. fault_if (not (is_some_of n d)) TooMany) first.1 in (
      first.0,
      (
        leads_there,
        faults first.0 leads_there ∙ ap (λ b. fault_if (not b) TooMany) (eqb-same first.0),
        λ other h sound. sym (eqb-true first.0 other (sound_first (eqb first.0 other) (sym (faults other h) ∙ sound))),
      ),
    )

nothing_driven : (kind : Option PortKind) → driven_by kind [] ≡ None
nothing_driven None = refl
nothing_driven (Some Put) = refl
nothing_driven (Some Get) = refl
nothing_driven (Some Analysis) = refl
nothing_driven (Some Seq) = refl

pub driver_of_closed : (w : WiringValue) → IsWiring w → (port sequencer : ℕ) → driven_from w port ≡ Some sequencer → (driver : ℕ) × IsDriver w sequencer driver
unfolding targets_of wire_fault
driver_of_closed w is port sequencer drives = by w.order refl drives
  where
    by : (o : Option (List ℕ)) → w.order ≡ o → driven_by (kind_at w.ends port) (option_map_or (λ order. targets_in w.ends w.connections order port) o []) ≡ Some sequencer → (driver : ℕ) × IsDriver w sequencer driver
    by None none h = absurd (none-some sequencer (sym (nothing_driven (kind_at w.ends port)) ∙ h))
    by (Some order) is_order h =
        let closed : (n : ℕ) → driven_from w n ≡ driven_by (kind_at w.ends n) (targets_in w.ends w.connections order n) = λ n. ap (λ o. driven_by (kind_at w.ends n) (option_map_or (λ order. targets_in w.ends w.connections order n) o [])) is_order in
        let fault : (n : ℕ) → wire_fault w n ≡ fault_in w.ends w.connections order n = λ n. ap (option_and_then (λ order. fault_in w.ends w.connections order n)) is_order in
        let one = one_driver w order port sequencer (is.ordered order is_order) h in (
          one.0,
          record {
            drives = closed one.0 ∙ one.1.0;
            sound = fault one.0 ∙ one.1.1;
            alone = λ other drives sound. one.1.2 other (sym (closed other) ∙ drives) (sym (fault other) ∙ sound);
          },
        )
