-- What goes through FIFOs, with one more entry.
use Rattle.world_services.proofs.Common.{◌≡◌, ℕ, suc, ◌<◌, ◌==◌, nat_eq, Bool, true, false, not, ◌&&◌, List, [], ◌∷◌, ◌++◌, length, map, drop, slice_get, Option, Some, None, is_some, option_map, option_and_then, unwrap_or, All, Contains, inl, refl, ap, sym, ◌∙◌, subst, arith, if◌then◌else◌, IsDistinct, option_or, lookup, drop-nil, nat_tests, All-nil, All-head, All-tail, All-contains, fault_if, first_given, Phase, same_phase, path_order, PortKind, Item, WiringValue, IsPathOrder, end_at, is_closed, targets_of, with_end, OutsideTask, NoPort, Passage, Entry, End, Passed, ScriptValue, FifoPort, nodes_of, ended_of, in_task, fifo_size, fifo_port_at, fifo_port_below, if_fifo, port_below, size_of, wiring_of, with_both, Request, FifoValue, new_fifo, Requester, answered_at, is_no_put, is_put, is_take, items_entered, items_left, next_passed, passage_in, passing_at, puts_asked, puts_waiting, fifo_state_at, fifo_state_of, fifo_state_with, takes_asked, takes_waiting, with_last, passing_refusal, Services, IsConnecting, AreAsked, AreFifoStates, ArePassed, AreToSettle, IsPassed, fifo_port_in, port_in, ServicesMatch, ChangesAt, ChangesEach, FifoMap, after_passage, passing_in, without_waits, closed-is, blocked, fewer-blocked, phase-ended, changed_if, has-passed, passing-is, state, asked-later, asked-more, fifo_state-ended, filter-none, filter-one, first-kept, first-none, length-append, Node}
use Rattle.world_wiring.proofs.Passed.{HasPassed}
use Rattle.uvm_tlm.specs.declared.ends.End as ends

-- a wiring that is closed is the one in which ports are looked at
pub closed-same : {nodes : List Node} {wiring kept : WiringValue} → IsConnecting nodes wiring kept → is_closed kept ≡ true → kept ≡ record wiring { order = Some (path_order nodes) }
closed-same {nodes} {wiring} {kept} c closed = ap (λ (order : Option (List ℕ)). record kept { order = order }) (sym (same kept.order closed)) ∙ closed-is c
  where
    same : (order : Option (List ℕ)) → is_some order ≡ true → Some (unwrap_or order (path_order nodes)) ≡ order
    same None e = cc
    same (Some order) e = refl

module _ {script : ScriptValue} {history : List Entry} {services : Services} (m : ServicesMatch script history services) where
  pub port-known : (kind : PortKind) (name : List ℕ) → is_closed services.wiring ≡ true → port_below history services.answer.performer kind name ≡ port_in services.tree.nodes services.wiring services.answer.performer kind name
  unfolding port_below
  port-known kind name closed = rw (closed-same m.connecting closed, m.tree) refl

  -- the FIFO port of a port is the one that the services know
  pub fifo_port-known : (kind : PortKind) (name : List ℕ) → is_closed services.wiring ≡ true → fifo_port_below history services.answer.performer kind name ≡ fifo_port_in services kind name
  unfolding fifo_port_below
  fifo_port-known kind name closed = rw (port-known kind name closed, closed-same m.connecting closed) refl

-- what is refused to them is refused
pub refusal-known : (stage : Option Phase) (known found : Bool) → (in_task stage ≡ true → known ≡ found) → passing_refusal stage known ≡ passing_refusal stage found
unfolding passing_refusal
refusal-known stage known found same = tested (in_task stage) same
  where
    tested : (b : Bool) → (b ≡ true → known ≡ found) → first_given (fault_if (not b) OutsideTask ∷ fault_if (not known) NoPort ∷ []) ≡ first_given (fault_if (not b) OutsideTask ∷ fault_if (not found) NoPort ∷ [])
    tested true same = rw (same refl) refl
    tested false same = refl

-- a FIFO port leads to a FIFO
pub fifo_port-sized : (wiring : WiringValue) (port : Option ℕ) (fifo_port : FifoPort) → option_and_then (fifo_port_at wiring) port ≡ Some fifo_port → fifo_size wiring fifo_port.fifo ≡ None → ⊥
fifo_port-sized wiring None fifo_port is none = cc
fifo_port-sized wiring (Some port) fifo_port is none = targeted (slice_get (targets_of wiring port) 0) is
  where
    sized : (target : ℕ) (size : Option ℕ) → fifo_size wiring target ≡ size → option_map (λ fifo. record { port = port; fifo = fifo }) (option_map (λ size. target) size) ≡ Some fifo_port → ⊥
    sized target None e is = cc
    sized target (Some size) e is =
        let same : record { port = port; fifo = target } ≡ fifo_port = cc in
        let fifo : target ≡ fifo_port.fifo = ap (λ (g : FifoPort). g.fifo) same in
        let none' : fifo_size wiring target ≡ None = rw fifo none in
        let absurd' : Some size ≡ None = sym e ∙ none' in
        cc

    targeted : (target : Option ℕ) → option_map (λ fifo. record { port = port; fifo = fifo }) (option_and_then (if_fifo wiring) target) ≡ Some fifo_port → ⊥
    targeted None is = cc
    targeted (Some target) is = sized target (fifo_size wiring target) refl is

-- where something stands what holds of each end holds
end-holds : (P : ℕ → Type 0) (ends : List (ℕ × ends.End)) (n : ℕ) → All (λ e. P e.0) ends → (end_at ends n ≡ None → ⊥) → P n
end-holds P [] n all there = absurd (there refl)
end-holds P (e ∷ ends) n all there = tested (nat_eq n e.0) refl (end-holds P ends n (All-tail (λ e. P e.0) e ends all))
  where
    tested : (b : Bool) → nat_eq n e.0 ≡ b → ((end_at ends n ≡ None → ⊥) → P n) → P n
    tested true is behind =
        let same : e.0 ≡ n = grind (arith, nat_tests) in
        subst P same (All-head (λ e. P e.0) e ends all)
    tested false is behind = behind (λ none. there (rw is none))

-- each FIFO stands in the path order
pub fifo-ordered : (order : List ℕ) (wiring : WiringValue) (n : ℕ) → IsPathOrder order wiring.ends → (fifo_size wiring n ≡ None → ⊥) → Contains order n
fifo-ordered order wiring n ordered sized = end-holds (Contains order) wiring.ends n ordered.whole (λ none. sized (rw none refl))

-- with one more entry
node-later :
    {count : ℕ} {size : Option ℕ} {entered : List Item} {left : ℕ} {puts : List (Request Item)} {puts_answered : List ℕ} {takes : List (Request Bool)} {takes_answered : List ℕ}
    → IsPassed count size entered left puts puts_answered takes takes_answered → IsPassed (suc count) size entered left puts puts_answered takes takes_answered
node-later p = record { few = p.few; are_puts = asked-later p.are_puts; are_takes = asked-later p.are_takes; no_item = p.no_item; no_put = p.no_put; no_take = p.no_take }

pub passed-later :
    {count : ℕ} {size : ℕ → Option ℕ} {entered : ℕ → List Item} {left : ℕ → ℕ} {puts : ℕ → List (Request Item)} {puts_answered : ℕ → List ℕ} {takes : ℕ → List (Request Bool)} {takes_answered : ℕ → List ℕ}
    → ArePassed count size entered left puts puts_answered takes takes_answered → ArePassed (suc count) size entered left puts puts_answered takes takes_answered
passed-later p = record { each = λ n. node-later (p.each n) }

module _ {count : ℕ} {size : Option ℕ} {entered : List Item} {left : ℕ} {puts : List (Request Item)} {puts_answered : List ℕ} {takes : List (Request Bool)} {takes_answered : List ℕ} (p : IsPassed count size entered left puts puts_answered takes takes_answered) where
  -- that asks for a put, a take or a peek at a FIFO
  pub node-put : (asked : Option (Request Item)) (about : Bool) (request : Request Item) → asked ≡ (if about then Some request else None) → request.requester.place ≡ count → (about ≡ true → size ≡ None → ⊥) → IsPassed (suc count) size entered left (with_last puts asked) puts_answered takes takes_answered
  node-put asked false request is at sized = rw is (node-later p)
  node-put asked true request is at sized = rw is (record { few = p.few; are_puts = asked-more request at p.are_puts; are_takes = asked-later p.are_takes; no_item = p.no_item; no_put = λ none. absurd (sized refl none); no_take = p.no_take })

  pub node-take : (asked : Option (Request Bool)) (about : Bool) (request : Request Bool) → asked ≡ (if about then Some request else None) → request.requester.place ≡ count → (about ≡ true → size ≡ None → ⊥) → IsPassed (suc count) size entered left puts puts_answered (with_last takes asked) takes_answered
  node-take asked false request is at sized = rw is (node-later p)
  node-take asked true request is at sized = rw is (record { few = p.few; are_puts = asked-later p.are_puts; are_takes = asked-more request at p.are_takes; no_item = p.no_item; no_put = p.no_put; no_take = λ none. absurd (sized refl none) })

  -- that puts or takes an item at once
  pub node-stored : (stored : Option Item) (about : Bool) (item : Item) → stored ≡ (if about then Some item else None) → (about ≡ true → size ≡ None → ⊥) → IsPassed (suc count) size (with_last entered stored) left puts puts_answered takes takes_answered
  node-stored stored false item is sized = rw is (node-later p)
  node-stored stored true item is sized = rw is (record { few = omega (arith, p.few, length-append entered (item ∷ [])); are_puts = asked-later p.are_puts; are_takes = asked-later p.are_takes; no_item = λ none. absurd (sized refl none); no_put = p.no_put; no_take = p.no_take })

  pub node-taken : (taken : Bool) → (taken ≡ true → left < length entered) → IsPassed (suc count) size entered (if taken then suc left else left) puts puts_answered takes takes_answered
  node-taken false there = node-later p
  node-taken true there = record { few = (let lt = there refl in omega (arith, lt)); are_puts = asked-later p.are_puts; are_takes = asked-later p.are_takes; no_item = p.no_item; no_put = p.no_put; no_take = p.no_take }

-- where nothing passes next, nothing passes anywhere
pub settled-all : (history : List Entry) {kept : List ℕ} → AreToSettle (passing_at history) (path_order (nodes_of history)) kept → next_passed history ≡ None → (n : ℕ) → passing_at history n ≡ None
unfolding next_passed
settled-all history u none n = tested (u.among n) refl
  where
    tested : (b : Bool) → u.among n ≡ b → passing_at history n ≡ None
    tested true is = All-contains (λ n. passing_at history n ≡ None) (path_order (nodes_of history)) n (first-none (passing_at history) (path_order (nodes_of history)) none) (u.held n is)
    tested false is = u.others n is

pub next-found : {passing : ℕ → Option (ℕ × Passage)} {order kept : List ℕ} → AreToSettle passing order kept → first_given (map passing kept) ≡ first_given (map passing order)
next-found {passing} {order} u = rw u.kept_are (first-kept passing u.among order u.others)

-- nothing is kept where nothing passes
pub fifos_to_settle-none : {passing : ℕ → Option (ℕ × Passage)} (order : List ℕ) → ((n : ℕ) → passing n ≡ None) → AreToSettle passing order []
fifos_to_settle-none order none = record { among = λ n. false; kept_are = sym (filter-none order); others = λ n e. none n; held = λ n e. cc }

-- or what passes passes at one FIFO
pub fifos_to_settle-one : {passing : ℕ → Option (ℕ × Passage)} (order : List ℕ) (fifo : ℕ) → IsDistinct nat_eq order → Contains order fifo → ((n : ℕ) → (fifo == n) ≡ false → passing n ≡ None) → AreToSettle passing order (fifo ∷ [])
fifos_to_settle-one order fifo distinct there none = record { among = nat_eq fifo; kept_are = sym (filter-one fifo order distinct there); others = none; held = λ n is. (let same : fifo ≡ n = grind (arith, nat_tests) in subst (Contains order) same there) }

-- a FIFO changes, and no other
pub fifo_states-changed : {at later : ℕ → Option (FifoValue Requester)} (fifo : ℕ) (change : FifoValue Requester → FifoValue Requester) {old new : FifoMap} → ((n : ℕ) → later n ≡ changed_if (fifo == n) change (at n)) → ChangesAt fifo change old new → AreFifoStates at old → AreFifoStates later new
fifo_states-changed fifo change changes c a = record { each = λ n. c n ∙ rw (a.each n) (sym (changes n)) }

pub passing-same : (history later : List Entry) (fifo : ℕ) (change : FifoValue Requester → FifoValue Requester) → ((n : ℕ) → fifo_state_at later n ≡ changed_if (fifo == n) change (fifo_state_at history n)) → ((n : ℕ) → passing_at history n ≡ None) → (n : ℕ) → (fifo == n) ≡ false → passing_at later n ≡ None
passing-same history later fifo change changes none n other =
    let same : fifo_state_at later n ≡ fifo_state_at history n = changes n ∙ rw other refl in
    ap (λ (fifo_state : Option (FifoValue Requester)). option_map (λ passage. (n, passage)) (option_and_then passage_in fifo_state)) same ∙ none n

-- what passes at a node passes to the services
pub passing-known : (history : List Entry) {kept : FifoMap} → AreFifoStates (fifo_state_at history) kept → passing_in kept ≡ passing_at history
passing-known history a = λ i n. ap (λ (fifo_state : Option (FifoValue Requester)). option_map (λ passage. (n, passage)) (option_and_then passage_in fifo_state)) (a.each n) i

pub next-known : {script : ScriptValue} {history : List Entry} {services : Services} → ServicesMatch script history services → first_given (map (passing_in services.fifo_states) services.fifos_to_settle.items) ≡ next_passed history
unfolding next_passed
next-known {history = history} {services} m = ap (λ (f : ℕ → Option (ℕ × Passage)). first_given (map f services.fifos_to_settle.items)) (passing-known history m.fifo_states) ∙ next-found m.fifos_to_settle

-- what is given first is given of one
first-some : {A : Type 0} (f : ℕ → Option A) (xs : List ℕ) (a : A) → first_given (map f xs) ≡ Some a → (n : ℕ) × (f n ≡ Some a)
first-some f [] a e = cc
first-some {A = A} f (x ∷ xs) a e = headed (f x) refl e (first-some f xs a)
  where
    headed : (given : Option A) → f x ≡ given → first_given (given ∷ map f xs) ≡ Some a → (first_given (map f xs) ≡ Some a → (n : ℕ) × (f n ≡ Some a)) → (n : ℕ) × (f n ≡ Some a)
    headed None is e behind = behind e
    headed (Some b) is e behind = (x, is ∙ e)

-- what passes next passes at its FIFO
pub next-passes : (history : List Entry) (fifo : ℕ) (passage : Passage) → next_passed history ≡ Some (fifo, passage) → option_and_then passage_in (fifo_state_at history fifo) ≡ Some passage
unfolding next_passed
next-passes history fifo passage e =
    let found = first-some (passing_at history) (path_order (nodes_of history)) (fifo, passage) e in
    passes found.0 (option_and_then passage_in (fifo_state_at history found.0)) refl found.1
  where
    passes : (n : ℕ) (given : Option Passage) → option_and_then passage_in (fifo_state_at history n) ≡ given → option_map {U = ℕ × Passage} (λ passage. (n, passage)) given ≡ Some (fifo, passage) → option_and_then passage_in (fifo_state_at history fifo) ≡ Some passage
    passes n None is e = cc
    passes n (Some other) is e =
        let pair : (n, other) ≡ (fifo, passage) = cc in
        let same : n ≡ fifo = ap (λ (p : ℕ × Passage). p.0) pair in
        let one : other ≡ passage = ap (λ (p : ℕ × Passage). p.1) pair in
        subst (λ (n : ℕ). option_and_then passage_in (fifo_state_at history n) ≡ Some passage) same (is ∙ ap (λ (p : Passage). Some p) one)

-- something passes at a FIFO
module _ (history : List Entry) (fifo : ℕ) (passage : Passage) (passed : ArePassed (length history) (fifo_size (wiring_of history)) (items_entered history) (items_left history) (puts_asked history) (answered_at is_put history) (takes_asked history) (answered_at is_no_put history)) (passes : option_and_then passage_in (fifo_state_at history fifo) ≡ Some passage) where
  sized : (size : Option ℕ) → option_and_then passage_in (option_map (fifo_state_of history fifo) size) ≡ Some passage → fifo_size (wiring_of history) fifo ≡ size
      → (size : ℕ) × (fifo_size (wiring_of history) fifo ≡ Some size) × (passage_in (fifo_state_of history fifo size) ≡ Some passage)
  sized None e is = cc
  sized (Some size) e is = (size, is, e)

  passed-fifo : (n : ℕ) → fifo ≡ n → (size : ℕ) × (fifo_size (wiring_of history) n ≡ Some size) × HasPassed (length history) size (items_entered history n) (if is_put passage.kind then items_entered history n ++ passage.item ∷ [] else items_entered history n)
      (items_left history n) (if is_take passage.kind then suc (items_left history n) else items_left history n) (puts_asked history n) (answered_at is_put history n) (if is_put passage.kind then passage.request ∷ answered_at is_put history n else answered_at is_put history n)
      (takes_asked history n) (answered_at is_no_put history n) (if is_no_put passage.kind then passage.request ∷ answered_at is_no_put history n else answered_at is_no_put history n) (ended_of history)
  passed-fifo n same =
      let s = sized (fifo_size (wiring_of history) fifo) passes refl in
      let here = subst (λ (n : ℕ). (fifo_size (wiring_of history) n ≡ Some s.0) × (passage_in (fifo_state_of history n s.0) ≡ Some passage)) same (s.1, s.2) in
      let p = passed.each n in (
        s.0,
        here.0,
        has-passed (length history) s.0 (items_entered history n) (items_left history n) (puts_asked history n) (answered_at is_put history n) (takes_asked history n) (answered_at is_no_put history n) (ended_of history) passage p.few p.are_puts p.are_takes
            (passing-is s.0 (drop (items_left history n) (items_entered history n)) (puts_waiting history n) (takes_waiting history n) passage here.1),
      )

  pub passed-changes : (n : ℕ) → fifo_state_at (Passed fifo passage ∷ history) n ≡ changed_if (fifo == n) after_passage (fifo_state_at history n)
  passed-changes n = tested (fifo == n) refl
    where
      tested : (b : Bool) → (fifo == n) ≡ b
          → state (fifo_size (wiring_of history) n) (if b && is_put passage.kind then items_entered history n ++ passage.item ∷ [] else items_entered history n) (if b && is_take passage.kind then suc (items_left history n) else items_left history n) (puts_asked history n)
          (if b && is_put passage.kind then passage.request ∷ answered_at is_put history n else answered_at is_put history n) (takes_asked history n) (if b && is_no_put passage.kind then passage.request ∷ answered_at is_no_put history n else answered_at is_no_put history n) (ended_of history)
          ≡ changed_if b after_passage (fifo_state_at history n)
      tested false is = refl
      tested true is =
          let same : fifo ≡ n = grind (arith, nat_tests) in
          let p = passed-fifo n same in
          rw p.1 p.2.fifo_state

  pub passed-more : ArePassed (suc (length history)) (fifo_size (wiring_of history)) (items_entered (Passed fifo passage ∷ history)) (items_left (Passed fifo passage ∷ history)) (puts_asked history) (answered_at is_put (Passed fifo passage ∷ history)) (takes_asked history) (answered_at is_no_put (Passed fifo passage ∷ history))
  passed-more = record { each = λ n. tested n (fifo == n) refl }
    where
      tested : (n : ℕ) (b : Bool) → (fifo == n) ≡ b
          → IsPassed (suc (length history)) (fifo_size (wiring_of history) n) (if b && is_put passage.kind then items_entered history n ++ passage.item ∷ [] else items_entered history n) (if b && is_take passage.kind then suc (items_left history n) else items_left history n) (puts_asked history n)
          (if b && is_put passage.kind then passage.request ∷ answered_at is_put history n else answered_at is_put history n) (takes_asked history n) (if b && is_no_put passage.kind then passage.request ∷ answered_at is_no_put history n else answered_at is_no_put history n)
      tested n false is = node-later (passed.each n)
      tested n true is =
          let same : fifo ≡ n = grind (arith, nat_tests) in
          let p = passed-fifo n same in
          record { few = p.2.few; are_puts = p.2.are_puts; are_takes = p.2.are_takes; no_item = λ none. absurd (some p.1 none); no_put = λ none. absurd (some p.1 none); no_take = λ none. absurd (some p.1 none) }
        where
          some : {given : Option ℕ} {size : ℕ} → given ≡ Some size → given ≡ None → ⊥
          some e none = let f = sym e ∙ none in cc

  -- elsewhere nothing passes that did not
  pub fifos_to_settle-passed : {kept : List ℕ} → AreToSettle (passing_at history) (path_order (nodes_of history)) kept → AreToSettle (passing_at (Passed fifo passage ∷ history)) (path_order (nodes_of history)) kept
  fifos_to_settle-passed u = record { among = u.among; kept_are = u.kept_are; others = λ n is. tested n (fifo == n) refl (u.others n is); held = u.held }
    where
      tested : (n : ℕ) (b : Bool) → (fifo == n) ≡ b → passing_at history n ≡ None → passing_at (Passed fifo passage ∷ history) n ≡ None
      tested n true is none =
          let same : fifo ≡ n = grind (arith, nat_tests) in
          let here : option_and_then passage_in (fifo_state_at history n) ≡ Some passage = subst (λ (n : ℕ). option_and_then passage_in (fifo_state_at history n) ≡ Some passage) same passes in
          let some : Some (n, passage) ≡ None = sym (ap (λ (given : Option Passage). option_map (λ passage. (n, passage)) given) here) ∙ none in
          cc
      tested n false is none = ap (λ (fifo_state : Option (FifoValue Requester)). option_map (λ passage. (n, passage)) (option_and_then passage_in fifo_state)) (passed-changes n ∙ rw is refl) ∙ none

-- what is connected makes no FIFO
pub both-sizes : (wiring : WiringValue) (from to : Option ℕ) (n : ℕ) → fifo_size (with_both from to wiring) n ≡ fifo_size wiring n
both-sizes wiring (Some from) (Some to) n = refl
both-sizes wiring (Some from) None n = refl
both-sizes wiring None to n = refl

pub node-sized :
    {count : ℕ} {size : Option ℕ} {entered : List Item} {left : ℕ} {puts : List (Request Item)} {puts_answered : List ℕ} {takes : List (Request Bool)} {takes_answered : List ℕ} (same : Option ℕ)
    → same ≡ size → IsPassed count size entered left puts puts_answered takes takes_answered → IsPassed (suc count) same entered left puts puts_answered takes takes_answered
node-sized same is p = rw is (node-later p)

pub fifos_to_settle-same : {passing later : ℕ → Option (ℕ × Passage)} {order kept : List ℕ} → ((n : ℕ) → later n ≡ passing n) → AreToSettle passing order kept → AreToSettle later order kept
fifos_to_settle-same same u = record { among = u.among; kept_are = u.kept_are; others = λ n is. same n ∙ u.others n is; held = u.held }

-- what is added at a node may be a FIFO
pub size-more : (count : ℕ) (end : ends.End) (wiring : WiringValue) (n : ℕ) → fifo_size (with_end count end wiring) n ≡ (if count == n then size_of end else fifo_size wiring n)
size-more count end wiring n = tested (nat_eq n count) refl
  where
    tested : (b : Bool) → nat_eq n count ≡ b → option_and_then size_of (if b then Some end else end_at wiring.ends n) ≡ (if count == n then size_of end else fifo_size wiring n)
    tested true is = let same : (count == n) ≡ true = grind (arith, nat_tests) in rw same refl
    tested false is = let other : (count == n) ≡ false = grind (arith, nat_tests) in rw other refl

-- which is empty
abbrev pub added_if : Bool → Option ℕ → Option (FifoValue Requester)
added_if about size = if about then option_map new_fifo size else None

module _ {count : ℕ} {size : Option ℕ} {entered : List Item} {left : ℕ} {puts : List (Request Item)} {puts_answered : List ℕ} {takes : List (Request Bool)} {takes_answered : List ℕ} (p : IsPassed count size entered left puts puts_answered takes takes_answered) where
  pub added-state : (about : Bool) (more now : Option ℕ) (ended : List Phase) → now ≡ (if about then more else size) → (about ≡ true → size ≡ None) → option_or (added_if about more) (state size entered left puts puts_answered takes takes_answered ended) ≡ state now entered left puts puts_answered takes takes_answered ended
  added-state false more now ended is new = rw is refl
  added-state true more now ended is new = rw (is, new refl, p.no_item (new refl), p.no_put (new refl), p.no_take (new refl), drop-nil {A = Item} left) (empty more)
    where
      empty : (more : Option ℕ) → option_or (added_if true more) None ≡ added_if true more
      empty None = refl
      empty (Some size) = refl

  pub added-node : (about : Bool) (more now : Option ℕ) → now ≡ (if about then more else size) → (about ≡ true → size ≡ None) → IsPassed (suc count) now entered left puts puts_answered takes takes_answered
  added-node false more now is new = node-sized now is p
  added-node true more now is new = record { few = p.few; are_puts = asked-later p.are_puts; are_takes = asked-later p.are_takes; no_item = λ e. p.no_item (new refl); no_put = λ e. p.no_put (new refl); no_take = λ e. p.no_take (new refl) }

pub added-none : (n : ℕ) (about : Bool) (more : Option ℕ) (fifo_state : Option (FifoValue Requester)) → (about ≡ true → fifo_state ≡ None) → option_map {U = ℕ × Passage} (λ passage. (n, passage)) (option_and_then passage_in fifo_state) ≡ None
    → option_map {U = ℕ × Passage} (λ passage. (n, passage)) (option_and_then passage_in (option_or (added_if about more) fifo_state)) ≡ None
added-none n false more fifo_state new none = none
added-none n true None fifo_state new none = rw (new refl) refl
added-none n true (Some size) fifo_state new none = rw (blocked size [] [] [] (inl refl) (inl refl)) refl

-- a FIFO's size makes its state
pub no-fifo_state : (history : List Entry) (n : ℕ) → fifo_size (wiring_of history) n ≡ None → fifo_state_at history n ≡ None
no-fifo_state history n none = ap (λ (size : Option ℕ). option_map (fifo_state_of history n) size) none

-- a phase ends: those who asked in it wait no more
ended-is : (history : List Entry) (phase : Phase) (n : ℕ) → fifo_state_at (End phase ∷ history) n ≡ option_map (without_waits phase) (fifo_state_at history n)
ended-is history phase n = phase-ended (fifo_size (wiring_of history) n) (items_entered history n) (items_left history n) (puts_asked history n) (answered_at is_put history n) (takes_asked history n) (answered_at is_no_put history n) (ended_of history) phase

pub fifo_states-ended : (history : List Entry) (phase : Phase) {old new : FifoMap} → ChangesEach (without_waits phase) old new → AreFifoStates (fifo_state_at history) old → AreFifoStates (fifo_state_at (End phase ∷ history)) new
fifo_states-ended history phase c a = record { each = λ n. c n ∙ ap (λ (fifo_state : Option (FifoValue Requester)). option_map (without_waits phase) fifo_state) (a.each n) ∙ sym (ended-is history phase n) }

-- so that nothing more passes
sized-ended :
    (n : ℕ) (phase : Phase) (size : Option ℕ) (items : List Item) (puts : List (Request Item)) (takes : List (Request Bool)) → option_map {U = ℕ × Passage} (λ passage. (n, passage)) (option_and_then passage_in (option_map (λ size. fifo_state_with size items puts takes) size)) ≡ None
    → option_map {U = ℕ × Passage} (λ passage. (n, passage)) (option_and_then passage_in (option_map (without_waits phase) (option_map (λ size. fifo_state_with size items puts takes) size))) ≡ None
sized-ended n phase None items puts takes none = refl
sized-ended n phase (Some size) items puts takes none =
    let still = fewer-blocked size items puts takes (λ request. not (same_phase request.requester.phase phase)) (λ request. not (same_phase request.requester.phase phase)) (blocked-at (passage_in (fifo_state_with size items puts takes)) none) in
    ap (λ (s : FifoValue Requester). option_map {U = ℕ × Passage} (λ passage. (n, passage)) (passage_in s)) (fifo_state-ended phase size items puts takes)
    ∙ ap (λ (passage : Option Passage). option_map {U = ℕ × Passage} (λ passage. (n, passage)) passage) still
  where
    blocked-at : (passage : Option Passage) → option_map {U = ℕ × Passage} (λ passage. (n, passage)) passage ≡ None → passage ≡ None
    blocked-at None e = refl
    blocked-at (Some passage) e = cc

pub fifos_to_settle-ended : (history : List Entry) (phase : Phase) {kept : List ℕ} → AreToSettle (passing_at history) (path_order (nodes_of history)) kept → AreToSettle (passing_at (End phase ∷ history)) (path_order (nodes_of history)) kept
fifos_to_settle-ended history phase u = record {
  among = u.among;
  kept_are = u.kept_are;
  others = λ n is.
      ap (λ (fifo_state : Option (FifoValue Requester)). option_map {U = ℕ × Passage} (λ passage. (n, passage)) (option_and_then passage_in fifo_state)) (ended-is history phase n)
      ∙ sized-ended n phase (fifo_size (wiring_of history) n) (drop (items_left history n) (items_entered history n)) (puts_waiting history n) (takes_waiting history n) (u.others n is);
  held = u.held;
}

-- before any entry
pub fifo_states-first : {kept : FifoMap} → kept.entries ≡ [] → AreFifoStates (fifo_state_at []) kept
fifo_states-first empty = record { each = λ n. ap (lookup (nat_eq n)) empty }

asked-first : {Payload : Type 0} → AreAsked {Payload = Payload} 0 [] []
asked-first {Payload} = record { apart = λ i j d lt within. absurd (omega (arith, within)); within = All-nil (λ (request : Request Payload). request.requester.place < 0); answered_within = All-nil (λ place. place < 0) }

pub passed-first : ArePassed 0 (fifo_size (wiring_of [])) (items_entered []) (items_left []) (puts_asked []) (answered_at is_put []) (takes_asked []) (answered_at is_no_put [])
passed-first = record { each = λ n. record { few = omega arith; are_puts = asked-first; are_takes = asked-first; no_item = λ e. refl; no_put = λ e. refl; no_take = λ e. refl } }
