-- Connections, with one more entry.
use Rattle.world_wiring.proofs.Common.{◌≡◌, ◌<◌, ◌&&◌, ◌||◌, ℕ, suc, Bool, true, false, List, [], ◌∷◌, ◌++◌, length, map, All, Option, Some, None, is_none, unwrap_or, refl, ap, sym, ◌∙◌, arith, length-append, ◌==◌, zero, nat_eq, ◌+◌, ◌-◌, ◌≤◌, IsPermutation, nat_tests, All-cons, All-head, All-tail, All-weaker, All-contains, get_or_default, length-range_with_len, get_or-range_with_len, IsPermutation-sym, All-permutation, IsDistinct-cons, IsDistinct-IsPermutation, list_any, AllByRecursion, IsDistinct, range_with_len, ForSome, numbers_of, path_order, AreInPathOrder, End, fault_if, Late, WiringValue, connections_among, with_end, end_at, is_closed, is_connected, late_fault, IsPathOrder, Who, Act, Outcome, Entry, Did, ScriptValue, stage_of, remaining_acts, head_of, rest_of, is_built, EachIsNext, RunStage, During, Phase, Connect, ends_connect, with_both, is_past_connect, StaysWired, ConnectFollowsBuild, runs_connect, is_connect_last, is_in_connect, has_nothing_left, is_at_check, IsAtNode, IsClosedPast, IsConnecting, IsClosing, closed_after, Contains}
use Rattle.uvm_tree.specs.Nodes.{Node}
use Rattle.uvm_object.specs.declared.entries.Entry.TheVariants as entry

-- a wiring that is closed stays so
pub closing-later : {script : ScriptValue} {history : List Entry} {entry : Entry} {closed : Bool} → StaysWired script history entry → IsClosing script history closed → IsClosing script (entry ∷ history) closed
closing-later stays c = record { wired = λ is. stays.stays (c.wired is) }

-- where an act is left something is
act-left : (a b c d : Bool) (left : List Act) (act : Act) (rest : List Act) → left ≡ act ∷ rest → a && (b && is_none (head_of left) && c && d) ≡ true → ⊥
act-left a b c d [] act rest e nothing = cc
act-left true true c d (other ∷ left) act rest e nothing = cc
act-left true false c d (other ∷ left) act rest e nothing = cc
act-left false b c d (other ∷ left) act rest e nothing = cc

-- and so where an act is performed
pub closing-next :
    {script : ScriptValue} {history : List Entry} {performer : Who} {outcome : Outcome} {act : Act} {closed : Bool}
    → remaining_acts script history ≡ act ∷ rest_of (remaining_acts script history) → IsClosing script history closed → IsClosing script (Did performer outcome act ∷ history) closed
closing-next {script} {history} {act = act} left c = record {
  wired = λ is.
      let w = c.wired is in
      record { built = w.built; quiet = λ past. absurd (act-left _ _ _ _ (remaining_acts script history) act (rest_of (remaining_acts script history)) left (w.quiet past)) };
}

-- an open wiring has no order yet
open-order : (w : WiringValue) (order : Option (List ℕ)) → w.order ≡ order → late_fault w ≡ None → order ≡ None
open-order w None is open_ = refl
open-order w (Some order) is open_ = let f = rw is at open_ in cc

-- one more node, with what can be connected there
pub connecting-more :
    {nodes : List Node} {wiring old : WiringValue} (new : WiringValue) (node : Node) (end : End) → late_fault old ≡ None → 0 < length nodes → IsConnecting nodes wiring old → new ≡ with_end (length nodes) end old
    → IsConnecting (nodes ++ node ∷ []) (with_end (length nodes) end wiring) new
connecting-more {nodes} {wiring} {old} new node end open_ some c is =
    let none = open-order old old.order refl open_ in
    let longer = length-append nodes (node ∷ []) in
    rw is (record {
      ends = ap (λ (ends : List (ℕ × End)). (length nodes, end) ∷ ends) c.ends;
      connections = c.connections;
      order = λ order e. cc;
      within = All-cons (IsAtNode (length (nodes ++ node ∷ []))) (length nodes, end) wiring.ends (some, omega (arith, longer)) (All-weaker (IsAtNode (length nodes)) (IsAtNode (length (nodes ++ node ∷ []))) (λ e w. (w.0, omega (arith, longer, w.1))) wiring.ends c.within);
    })

-- one more node that is a component
pub connecting-grown :
    {nodes : List Node} {wiring old : WiringValue} (node : Node) → late_fault old ≡ None → IsConnecting nodes wiring old → IsConnecting (nodes ++ node ∷ []) wiring old
connecting-grown {nodes} {wiring} {old} node open_ c =
    let none = open-order old old.order refl open_ in
    let longer = length-append nodes (node ∷ []) in
    record {
      ends = c.ends;
      connections = c.connections;
      order = λ order e. cc;
      within = All-weaker (IsAtNode (length nodes)) (IsAtNode (length (nodes ++ node ∷ []))) (λ e w. (w.0, omega (arith, longer, w.1))) wiring.ends c.within;
    }

-- two ends are connected
pub connecting-both :
    {nodes : List Node} {wiring old : WiringValue} (new : WiringValue) (from to : Option ℕ) → IsConnecting nodes wiring old → new ≡ with_both from to old → IsConnecting nodes (with_both from to wiring) new
connecting-both new (Some from) (Some to) c is = rw is (record {
  ends = c.ends;
  connections = λ j. connections_among (λ a b. ((a == from) && (b == to)) || is_connected (c.connections j) a b) (map (λ e. e.0) (c.ends j));
  order = c.order;
  within = c.within;
})
connecting-both new (Some from) None c is = rw is c
connecting-both new None to c is = rw is c

-- which leaves it open
pub both-closed : (wiring : WiringValue) (from to : Option ℕ) → is_closed (with_both from to wiring) ≡ is_closed wiring
both-closed wiring (Some from) (Some to) = refl
both-closed wiring (Some from) None = refl
both-closed wiring None to = refl

-- nothing can be connected at a new node
pub unused : {nodes : List Node} {wiring kept : WiringValue} → IsConnecting nodes wiring kept → end_at kept.ends (length nodes) ≡ None
unused {nodes} {wiring} {kept} c = rw c.ends (none-at wiring.ends (length nodes) c.within)
  where
    none-at : (ends : List (ℕ × End)) (count : ℕ) → All (IsAtNode count) ends → end_at ends count ≡ None
    none-at [] count within = refl
    none-at (e ∷ ends) count within =
        let w : IsAtNode count e = All-head (IsAtNode count) e ends within in
        let other : (count == e.0) ≡ false = grind (arith, nat_tests, w.1) in
        rw other (none-at ends count (All-tail (IsAtNode count) e ends within))

-- what is looked for while something is left finds the wiring open
pub building-open :
    {script : ScriptValue} {history : List Entry} (kept : WiringValue)
    → IsClosing script history (is_closed kept) → is_built history ≡ false → late_fault kept ≡ None
building-open {history = history} kept c built = if-closed (is_closed kept) refl
  where
    if-closed : (b : Bool) → is_closed kept ≡ b → fault_if b Late ≡ None
    if-closed true is = let w = c.wired is in let f : true ≡ false = sym w.built ∙ built in cc
    if-closed false is = refl

pub connectable-open :
    {script : ScriptValue} {history : List Entry} {act : Act} (kept : WiringValue)
    → remaining_acts script history ≡ act ∷ rest_of (remaining_acts script history) → IsClosing script history (is_closed kept) → is_past_connect history ≡ false → late_fault kept ≡ None
connectable-open {script} {history} {act} kept left c past = if-closed (is_closed kept) refl
  where
    if-closed : (b : Bool) → is_closed kept ≡ b → fault_if b Late ≡ None
    if-closed true is = absurd (act-left _ _ _ _ (remaining_acts script history) act (rest_of (remaining_acts script history)) left ((c.wired is).quiet past))
    if-closed false is = refl

-- numbers from one on differ from those below
above : (a b n : ℕ) → a < b → AllByRecursion (λ m. nat_eq a m ≡ false) (range_with_len b n)
above a b zero lt = tt
above a b (suc n) lt = (grind (arith, nat_tests, lt), above a (b + 1) n (omega arith))

IsDistinct-nil : IsDistinct nat_eq []
unfolding IsDistinct
IsDistinct-nil = tt

distinct-range : (a n : ℕ) → IsDistinct nat_eq (range_with_len a n)
distinct-range a zero = IsDistinct-nil
distinct-range a (suc n) = IsDistinct-cons nat_eq a (range_with_len (a + 1) n) (above a (a + 1) n (omega arith)) (distinct-range (a + 1) n)

nat_eq-flips : (m n : ℕ) → nat_eq m n ≡ nat_eq n m
nat_eq-flips m n = grind (arith, nat_tests)

-- each number of a range is in it
pub range-contains : (a n m : ℕ) → a ≤ m → m < a + n → Contains (range_with_len a n) m
range-contains a n m low high =
    let within : m - a < n = omega arith in
    let place : a + (m - a) ≡ m = omega arith in
    (m - a, rw length-range_with_len within, get_or-range_with_len a n (m - a) m within ∙ place)

-- a list contains its elements, and so does each permutation of it
all-contained : {A : Type 0} (xs : List A) → All (Contains xs) xs
all-contained xs = λ k d within. (k, within, get_or_default xs k _ _ within)

pub permutation-contains : {A : Type 0} (xs ys : List A) (x : A) → IsPermutation xs ys → Contains xs x → Contains ys x
permutation-contains xs ys x same in-xs = All-contains (Contains ys) xs x (All-permutation (Contains ys) ys xs (IsPermutation-sym xs ys same) (all-contained ys)) in-xs

-- each node stands in the path order once
pub order-distinct : (nodes : List Node) → AreInPathOrder nodes (path_order nodes) → IsDistinct nat_eq (path_order nodes)
order-distinct nodes order = IsDistinct-IsPermutation nat_eq nat_eq-flips (numbers_of nodes) (path_order nodes) order.whole (distinct-range 1 (length nodes - 1))

-- the path order of all nodes is one of those that can be connected
pub ends-ordered : {nodes : List Node} {wiring kept : WiringValue} → AreInPathOrder nodes (path_order nodes) → IsConnecting nodes wiring kept → IsPathOrder (path_order nodes) kept.ends
ends-ordered {nodes} {wiring} {kept} order c = record {
  distinct = order-distinct nodes order;
  whole = rw c.ends (All-weaker (IsAtNode (length nodes)) (λ e. Contains (path_order nodes) e.0) (λ e w. permutation-contains (numbers_of nodes) (path_order nodes) e.0 order.whole (range-contains 1 (length nodes - 1) e.0 w.0 (let h = w.1 in omega arith))) wiring.ends c.within);
}

-- the wiring as it is looked at
pub closed-is : {nodes : List Node} {wiring kept : WiringValue} → IsConnecting nodes wiring kept → record kept { order = Some (unwrap_or kept.order (path_order nodes)) } ≡ record wiring { order = Some (path_order nodes) }
closed-is {nodes} {wiring} {kept} c = rw (c.ends, c.connections, order-is kept.order c.order) refl
  where
    order-is : (order : Option (List ℕ)) → ForSome order (λ order. order ≡ path_order nodes) → unwrap_or order (path_order nodes) ≡ path_order nodes
    order-is None is = refl
    order-is (Some order) is = is order refl

pub connecting-closed : {nodes : List Node} {wiring kept : WiringValue} → IsConnecting nodes wiring kept → IsConnecting nodes wiring (record kept { order = Some (unwrap_or kept.order (path_order nodes)) })
connecting-closed {nodes} {wiring} c = rw (closed-is c) (record { ends = refl; connections = refl; order = λ order e. let same : path_order nodes ≡ order = cc in sym same; within = c.within })

-- where connect has nothing left to be done the wiring may be closed
in-is : (stage : RunStage) → runs_connect stage ≡ true → is_in_connect stage ≡ true
in-is (During Connect) runs = refl
in-is stage runs = cc

last-is : (stage : RunStage) → runs_connect stage ≡ true → is_connect_last stage ≡ true
last-is (During Connect) runs = refl
last-is stage runs = cc

both : (a b : Bool) → a && b ≡ true → (a ≡ true) × (b ≡ true)
both true b e = (refl, e)
both false b e = cc

pub closing-now : {script : ScriptValue} {history : List Entry} (closed : Bool) → ConnectFollowsBuild → EachIsNext script history → is_at_check script history ≡ true → IsClosing script history closed
closing-now {script} {history} closed follows each at_check =
    let b = both (runs_connect (stage_of history)) (has_nothing_left script history) at_check in
    let last = last-is (stage_of history) b.0 in
    record { wired = λ is. record { built = follows script history each (in-is (stage_of history) b.0); quiet = λ past. rw last b.1 } }

-- and so it may once connect ends
pub closing-after :
    {script : ScriptValue} {history : List Entry} (phase : Phase) (nodes : List Node) (wiring : WiringValue) → ConnectFollowsBuild → EachIsNext script (entry.End phase ∷ history) → StaysWired script history (entry.End phase) → IsClosing script history (is_closed wiring)
    → IsClosing script (entry.End phase ∷ history) (is_closed (closed_after phase nodes wiring))
closing-after {script} {history} Connect nodes wiring follows each stays c = record { wired = λ is. record { built = follows script (entry.End Connect ∷ history) each refl; quiet = λ past. cc } }
closing-after phase nodes wiring follows each stays c = closing-later stays c

pub past-after : (history : List Entry) (phase : Phase) (nodes : List Node) (wiring : WiringValue) → IsClosedPast (list_any ends_connect history) (is_closed wiring) → IsClosedPast (list_any ends_connect (entry.End phase ∷ history)) (is_closed (closed_after phase nodes wiring))
past-after history Connect nodes wiring c = record { is = λ past. refl }
past-after history phase nodes wiring c = record { is = c.is }

pub connecting-after : {nodes : List Node} {wiring kept : WiringValue} (phase : Phase) → IsConnecting nodes wiring kept → IsConnecting nodes wiring (closed_after phase nodes kept)
connecting-after Connect c = connecting-closed c
connecting-after phase c = c
