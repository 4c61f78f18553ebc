-- Who waits at FIFOs, and who owns imps, are components.
use Rattle.bench_history.proofs.Common.{◌≡◌, ℕ, suc, zero, ◌<◌, ◌==◌, ◌⊎◌, inl, inr, nat_eq, Bool, true, false, not, ◌&&◌, List, [], ◌∷◌, ◌++◌, length, map, filter, Option, Some, None, option_map, option_and_then, IfSome, refl, arith, if◌then◌else◌, cons_option, list_any, nat_tests, All-nil, All-cons, All-head, All-tail, All-push, All-filter, All-weaker, filter_passes, first_given, Phase, same_phase, under_at, path_order, PortKind, Item, first_put, has_room, next_move, WiringValue, node_of, Who, Act, Add, Outcome, Done, Passage, Entry, ScriptValue, FifoPort, nodes_of, nodes_after, test_creation, act_phase, ended_of, wiring_of, wiring_after, with_both, end_of, fifo_size, is_imp_at, fifo_port_below, IsComponent, DueCall, written_to, call_in, is_open_to, with_last, request_by, request_at, answered_at, is_put, is_no_put, puts_asked, takes_asked, puts_waiting, takes_waiting, is_waiting, waiting_put, fifo_items, fifo_state_with, fifo_state_of, passage_by, passage_in, passing_at, next_passed, slice_get, length-append, All, Contains, filter_map, Node}
use Rattle.uvm_acts.specs.declared.acts.Who.TheVariants as who
use Rattle.uvm_acts.specs.declared.acts.Call.TheVariants as call
use Rattle.uvm_acts.specs.declared.acts.Act.TheVariants.{Connect}
use Rattle.bench_history.specs.Passing.{Request}

-- what holds of each element and of one more holds of all
last-holds : {A : Type 0} (P : A → Type 0) (xs : List A) (last : Option A) → All P xs → IfSome last P → All P (with_last xs last)
last-holds P xs None all holds = all
last-holds P xs (Some x) all holds = All-push P xs x all holds

cons-holds : {A : Type 0} (P : A → Type 0) (first : Option A) (xs : List A) → IfSome first P → All P xs → All P (cons_option first xs)
cons-holds P None xs holds all = all
cons-holds P (Some x) xs holds all = All-cons P x xs holds all

first-holds : {B : Type 0} (P : B → Type 0) (first : Option B) (others : List (Option B)) → IfSome first P → IfSome (first_given others) P → IfSome (first_given (first ∷ others)) P
first-holds P None others holds rest = rest
first-holds P (Some y) others holds rest = holds

pub given-holds : {A B : Type 0} (f : A → Option B) (P : B → Type 0) (xs : List A) → ((x : A) → IfSome (f x) P) → IfSome (first_given (map f xs)) P
given-holds f P [] each = tt
given-holds f P (x ∷ xs) each = first-holds P (f x) (map f xs) (each x) (given-holds f P xs each)

-- a request is its performer's
module _ {Payload : Type 0} (Q : Who → Phase → Type 0) where
  abbrev pub IsAskedBy : Request Payload → Type 0
  IsAskedBy request = Q request.requester.who request.requester.phase

  request-holds : (fifo : ℕ) (performer : Who) (place : ℕ) (wished : List ℕ × Payload) (phase : Option Phase) (fifo_port : Option FifoPort) → ((p : Phase) → phase ≡ Some p → Q performer p) → IfSome (request_by fifo performer place wished phase fifo_port) IsAskedBy
  request-holds fifo performer place wished None fifo_port holds = tt
  request-holds fifo performer place wished (Some phase) None holds = tt
  request-holds fifo performer place wished (Some phase) (Some fifo_port) holds = tested (fifo_port.fifo == fifo)
    where
      tested : (b : Bool) → IfSome (if b then Some (record { requester = record { place = place; who = performer; port = wished.0; phase = phase }; wish = wished.1 }) else None) IsAskedBy
      tested true = holds phase refl
      tested false = tt

  -- so that one more keeps each one that of a component or sequence
  pub asked-more :
      (before : List Entry) (fifo : ℕ) (performer : Who) (kind : PortKind) (wished : Option (List ℕ × Payload)) (asked : List (Request Payload)) → All IsAskedBy asked → (wished ≡ None) ⊎ ((p : Phase) → act_phase before ≡ Some p → Q performer p)
      → All IsAskedBy (with_last asked (option_and_then (request_at before fifo performer kind) wished))
  asked-more before fifo performer kind None asked all who = all
  asked-more before fifo performer kind (Some wished) asked all (inl none) = cc
  asked-more before fifo performer kind (Some wished) asked all (inr holds) =
      last-holds IsAskedBy asked (request_at before fifo performer kind wished) all (request-holds fifo performer (length before) wished (act_phase before) (fifo_port_below before performer kind wished.0) holds)

-- what passes is that of one that had asked
module _ (Q : Who → Phase → Type 0) where
  put-holds : (room : Bool) (puts : List (Request Item)) → All (IsAskedBy {Payload = Item} Q) puts → IfSome (option_map passage_by (if room then first_put (map waiting_put puts) else None)) (λ passage. Q passage.who passage.phase)
  put-holds true [] all = tt
  put-holds true (put ∷ puts) all = All-head (IsAskedBy {Payload = Item} Q) put puts all
  put-holds false puts all = tt

  passage-holds :
      (size : ℕ) (items : List Item) (puts : List (Request Item)) (takes : List (Request Bool)) → All (IsAskedBy {Payload = Item} Q) puts → All (IsAskedBy {Payload = Bool} Q) takes
      → IfSome (passage_in (fifo_state_with size items puts takes)) (λ passage. Q passage.who passage.phase)
  unfolding next_move
  passage-holds size items puts [] put_all take_all = put-holds (has_room (fifo_state_with size items puts [])) puts put_all
  passage-holds size [] puts (take ∷ takes) put_all take_all = put-holds (has_room (fifo_state_with size [] puts (take ∷ takes))) puts put_all
  passage-holds size (item ∷ items) puts (take ∷ takes) put_all take_all = All-head (IsAskedBy {Payload = Bool} Q) take takes take_all

  pub passing-holds :
      (history : List Entry) → ((fifo : ℕ) → All (IsAskedBy {Payload = Item} Q) (puts_waiting history fifo)) → ((fifo : ℕ) → All (IsAskedBy {Payload = Bool} Q) (takes_waiting history fifo))
      → IfSome (next_passed history) (λ passed. Q passed.1.who passed.1.phase)
  unfolding next_passed
  passing-holds history puts takes = given-holds (passing_at history) (λ (passed : ℕ × Passage). Q passed.1.who passed.1.phase) (path_order (nodes_of history)) (λ node. sized node (fifo_size (wiring_of history) node))
    where
      found : (node : ℕ) (passage : Option Passage) → IfSome passage (λ passage. Q passage.who passage.phase) → IfSome {T = ℕ × Passage} (option_map (λ (passage : Passage). (node, passage)) passage) (λ passed. Q passed.1.who passed.1.phase)
      found node None holds = tt
      found node (Some passage) holds = holds

      sized : (node : ℕ) (size : Option ℕ) → IfSome {T = ℕ × Passage} (option_map (λ (passage : Passage). (node, passage)) (option_and_then passage_in (option_map (fifo_state_of history node) size))) (λ passed. Q passed.1.who passed.1.phase)
      sized node None = tt
      sized node (Some size) = found node (passage_in (fifo_state_of history node size)) (passage-holds size (fifo_items history node) (puts_waiting history node) (takes_waiting history node) (puts node) (takes node))

-- what holds of all that was asked for holds of what waits
module _ (Q : Who → Phase → Type 0) (history : List Entry) (fifo : ℕ) where
  pub puts-wait : All (IsAskedBy {Payload = Item} Q) (puts_asked history fifo) → All (IsAskedBy {Payload = Item} Q) (puts_waiting history fifo)
  puts-wait all = All-filter (is_waiting (answered_at is_put history fifo) (ended_of history)) (IsAskedBy Q) (puts_asked history fifo) all

  pub takes-wait : All (IsAskedBy {Payload = Bool} Q) (takes_asked history fifo) → All (IsAskedBy {Payload = Bool} Q) (takes_waiting history fifo)
  takes-wait all = All-filter (is_waiting (answered_at is_no_put history fifo) (ended_of history)) (IsAskedBy Q) (takes_asked history fifo) all

-- its phase has not ended
waiting-open : {Payload : Type 0} (answered : List ℕ) (ended : List Phase) (asked : List (Request Payload)) → All (IsAskedBy (λ who phase. list_any (same_phase phase) ended ≡ false)) (filter (is_waiting answered ended) asked)
waiting-open answered ended asked =
    All-weaker (λ request. is_waiting answered ended request ≡ true) (IsAskedBy (λ who phase. list_any (same_phase phase) ended ≡ false))
    (λ request waits. second (not (list_any (nat_eq request.requester.place) answered)) (list_any (same_phase request.requester.phase) ended) waits) _ (filter_passes (is_waiting answered ended) asked)
  where
    second : (a b : Bool) → a && not b ≡ true → b ≡ false
    second true true e = cc
    second true false e = refl
    second false b e = cc

pub passing-open : (history : List Entry) → IfSome (next_passed history) (λ passed. list_any (same_phase passed.1.phase) (ended_of history) ≡ false)
passing-open history =
    passing-holds (λ who phase. list_any (same_phase phase) (ended_of history) ≡ false) history (λ fifo. waiting-open _ (ended_of history) (puts_asked history fifo)) (λ fifo. waiting-open _ (ended_of history) (takes_asked history fifo))

-- an imp stands at a node whose parent is one of some components
pub record IsOwned (nodes : List Node) (components : List ℕ) (node : ℕ) : Type 0 where
  pub below : node < length nodes
  pub owner : IfSome (under_at nodes node) (λ under. Contains components under.0)

-- a node is an imp that an act adds
pub record IsAdded (nodes : List Node) (performer : Who) (outcome : Outcome) (act : Act) (node : ℕ) : Type 0 where
  pub below : node < length (nodes_after nodes performer outcome act)
  pub under : IfSome (under_at (nodes_after nodes performer outcome act) node) (λ under. under.0 ≡ node_of performer)
  pub other : (script : ScriptValue) → act ≡ test_creation script → ⊥
  pub closed : (id home : ℕ) → is_open_to act (who.Sequence home id) ≡ false
  pub done : outcome ≡ Done

pub get-before : (xs ys : List Node) (k : ℕ) → k < length xs → slice_get (xs ++ ys) k ≡ slice_get xs k
get-before [] ys k lt = absurd (omega arith)
get-before (x ∷ xs) ys zero lt = refl
get-before (x ∷ xs) ys (suc k) lt = get-before xs ys k (omega arith)

get-behind : (xs : List Node) (x : Node) → slice_get (xs ++ x ∷ []) (length xs) ≡ Some x
get-behind [] x = refl
get-behind (y ∷ ys) x = get-behind ys x

both-ends : (from to : Option ℕ) (wiring : WiringValue) → (with_both from to wiring).ends ≡ wiring.ends
both-ends (Some from) (Some to) wiring = refl
both-ends (Some from) None wiring = refl
both-ends None to wiring = refl

pub imp-after :
    (nodes : List Node) (wiring : WiringValue) (performer : Who) (outcome : Outcome) (act : Act) (node : ℕ) → is_imp_at (wiring_after nodes wiring performer outcome act) node ≡ true
    → (is_imp_at wiring node ≡ true) ⊎ IsAdded nodes performer outcome act node
imp-after nodes wiring performer Done (Add name what) node is = tested (nat_eq node (length nodes)) refl is
  where
    tested : (same : Bool) → nat_eq node (length nodes) ≡ same → is_imp_at (record wiring { ends = (length nodes, end_of what) ∷ wiring.ends }) node ≡ true → (is_imp_at wiring node ≡ true) ⊎ IsAdded nodes performer Done (Add name what) node
    tested true e is =
        let at : node ≡ length nodes = grind (arith, nat_tests) in
        inr (rw at (record { below = simp length-append (omega arith); under = rw get-behind refl; other = λ script same. cc; closed = λ id home. refl; done = refl }))
    tested false e is = inl (rw e at is)
imp-after nodes wiring performer Done (Connect from to) node is = inl (rw both-ends at is)
imp-after nodes wiring performer outcome act node is = inl is

-- what is told to an imp's owner is told to a component
pub written-hold :
    (phase : Option Phase) (nodes : List Node) (components : List ℕ) (item : Item) (wiring : WiringValue) (outlets : List ℕ) → ((node : ℕ) → is_imp_at wiring node ≡ true → IsOwned nodes components node)
    → All (λ told. IsComponent components told.who) (filter_map (written_to phase nodes item) (filter (is_imp_at wiring) outlets))
written-hold phase nodes components item wiring outlets owned = each (filter (is_imp_at wiring) outlets) (filter_passes (is_imp_at wiring) outlets)
  where
    IsTold : DueCall → Type 0
    IsTold told = IsComponent components told.who

    told : (under : Option (ℕ × List ℕ)) → IfSome under (λ under. Contains components under.0) → IfSome (option_map (λ under. call_in phase (who.Node under.0) (call.Written under.1 item)) under) IsTold
    told None holds = tt
    told (Some under) holds = holds

    each : (imps : List ℕ) → All (λ node. is_imp_at wiring node ≡ true) imps → All IsTold (filter_map (written_to phase nodes item) imps)
    each [] all = All-nil _
    each (imp ∷ imps) all = cons-holds IsTold (written_to phase nodes item imp) (filter_map (written_to phase nodes item) imps) (told (under_at nodes imp) (owned imp (All-head (λ node. is_imp_at wiring node ≡ true) imp imps all)).owner) (each imps (All-tail (λ node. is_imp_at wiring node ≡ true) imp imps all))
