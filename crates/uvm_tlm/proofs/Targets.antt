-- The targets of a node, and the routes to them.
use Rattle.uvm_tlm.proofs.Common.{◌≡◌, ℕ, Bool, true, false, cond, ◌&&◌, eqb, nat_eq, List, [], ◌∷◌, All, Contains, Option, Some, None, is_some, filter, refl, sym, ap, subst, ◌∙◌, IsTrue, AllByRecursion, IsDistinct, option_map_or, and_from, and_parts, eqb-true, false≢true, All-contains, All-head, All-tail, filter_passes, any-filter_same, Contains-list_any, End, is_target, AreTargets, has, WiringValue, IsWiring, IsPathOrder, end_at, is_closed, is_target_at, reaches, targets_in, targets_of}
use Rattle.uvm_tlm.proofs.Lists.{eqb-same}
use Rattle.uvm_tlm.proofs.Routes.{any_member, found, route_of}

-- a filter keeps what differs from an element apart from it, and distinct elements distinct
apart-filter : (test : ℕ → Bool) (n : ℕ) (xs : List ℕ) → AllByRecursion (λ m. nat_eq n m ≡ false) xs → AllByRecursion (λ m. nat_eq n m ≡ false) (filter test xs)
apart-filter test n [] apart = tt
apart-filter test n (x ∷ xs) apart = by (test x) (apart-filter test n xs apart.1)
  where
    by : (b : Bool) → AllByRecursion (λ m. nat_eq n m ≡ false) (filter test xs) → AllByRecursion (λ m. nat_eq n m ≡ false) (cond b (x ∷ filter test xs) (filter test xs))
    by true rest = (apart.0, rest)
    by false rest = rest

distinct-filter : (test : ℕ → Bool) (xs : List ℕ) → IsDistinct nat_eq xs → IsDistinct nat_eq (filter test xs)
unfolding IsDistinct
distinct-filter test [] distinct = distinct
distinct-filter test (x ∷ xs) distinct = by (test x) (distinct-filter test xs distinct.1)
  where
    by : (b : Bool) → IsDistinct nat_eq (filter test xs) → IsDistinct nat_eq (cond b (x ∷ filter test xs) (filter test xs))
    by true rest = (apart-filter test x xs distinct.0, rest)
    by false rest = rest

contained : (nodes : List ℕ) (n : ℕ) → has nodes n ≡ true → Contains nodes n
contained nodes n h = Contains-list_any nat_eq eqb-true nodes n h

-- where something stands at a node, the order has it
pub in_order : (order : List ℕ) (ends : List (ℕ × End)) (n : ℕ) → All (λ e. Contains order e.0) ends → is_some (end_at ends n) ≡ true → Contains order n
in_order order [] n whole h = absurd (false≢true h)
in_order order (e ∷ ends) n whole h =
    by (nat_eq n e.0) refl h (in_order order ends n (All-tail (λ e. Contains order e.0) e ends whole))
  where
    by : (b : Bool) → nat_eq n e.0 ≡ b → is_some (cond b (Some e.1) (end_at ends n)) ≡ true → (is_some (end_at ends n) ≡ true → Contains order n) → Contains order n
    by true same h rest = subst (Contains order) (sym (eqb-true n e.0 same)) (All-head (λ e. Contains order e.0) e ends whole)
    by false other h rest = rest h

is_there : (end : Option End) → option_map_or is_target end false ≡ true → is_some end ≡ true
is_there None h = absurd (false≢true h)
is_there (Some end) h = refl

-- the targets of a node over a path order
targets_reached : (w : WiringValue) (order : List ℕ) (node : ℕ) → IsPathOrder order w.ends → AreTargets w node (targets_in w.ends w.connections order node)
unfolding targets_in
targets_reached w order node path =
    let test : ℕ → Bool = λ n. is_target_at w.ends n && reaches w.connections node n in
    record {
      distinct = distinct-filter test order path.distinct;
      reached = λ n. (
        λ member.
            let parts = and_parts (is_target_at w.ends n) (reaches w.connections node n) (All-contains (λ m. test m ≡ true) (filter test order) n (filter_passes test order) member) in
            (parts.0, route_of w.connections node n parts.1),
        λ both.
            contained (filter test order) n
            (any-filter_same (eqb n) test true
            (λ m same. ap test (sym (eqb-true n m same)) ∙ and_from (is_target_at w.ends n) (reaches w.connections node n) both.0 (found w.connections both.1)) order
            ∙ any_member (eqb n) order n (in_order order w.ends n path.whole (is_there (end_at w.ends n) both.0)) (eqb-same n)),
      );
    }

pub targets_of_closed : (w : WiringValue) → IsWiring w → IsTrue (is_closed w) → (node : ℕ) → AreTargets w node (targets_of w node)
unfolding targets_of
targets_of_closed w is closed node = by w.order refl closed
  where
    by : (o : Option (List ℕ)) → w.order ≡ o → IsTrue (is_some o) → AreTargets w node (option_map_or (λ order. targets_in w.ends w.connections order node) o [])
    by None none closed = absurd (false≢true closed)
    by (Some order) is_order closed = targets_reached w order node (is.ordered order is_order)
