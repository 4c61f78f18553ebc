-- The sequencers on which sequences were started, who drives each, and who is granted what there.
use Rattle.bench_history.proofs.Common.{◌≡◌, ℕ, ◌==◌, suc, zero, Bool, true, false, List, [], ◌∷◌, ◌++◌, length, find, Option, Some, None, IsSome, IfSome, option_map, option_and_then, option_to_list, unwrap_or, refl, ap, sym, ◌∙◌, subst, arith, ◌⊎◌, inl, inr, if◌then◌else◌, option_map_or, nat_tests, All-nil, All-cons, All-weaker, OrderKeepsAll, Mode, numbered, child, node_at, node_of, Who, What, Call, Act, Add, Outcome, Done, Made, Started, Entry, Did, Locked, ScriptValue, EventTarget, Ended, created_name, ended_of, kind_of, nodes_of, test_creation, performer_of, stage_of, in_progress, node_below, asked_in, mode_at, mode_in, modes_of, StartRecord, starts_of, home_asked, if_sequencer, is_sequencer, sequences_of, start_by, Next, Exactly, Grant, Nothing, next_of, EachIsNext, IsAct, IsNext, ChosenAreThere, DriversAreThere, HasNotEnded, IsLiving, IsThere, LockersAreThere, AsksAreInPhase, is_going, Phase, slice_get, All, LockExcludes, Node, Start}
use Rattle.uvm_tree.specs.declared.nodes.NodeKind.TheVariants as kind
use Rattle.uvm_acts.specs.declared.acts.Who.TheVariants as who
use Rattle.uvm_acts.specs.declared.acts.What.TheVariants as what
use Rattle.bench_history.proofs.Awaiting.{IsAsking, asking-of}
use Rattle.bench_history.proofs.Phased.{phases_in_progress_are_open}
use Rattle.bench_history.proofs.Ended.{nothing-comes}
use Rattle.bench_history.proofs.Homes.{IsStarting, home-of, starting-next}
use Rattle.bench_history.proofs.Living.{numbered-holds}
use Rattle.bench_history.proofs.Performed.{grants_go_in_order, locks_go_in_order}
use Rattle.bench_history.proofs.Called.{chosen-holds, drivers-known, hands-known, locking-holds, performers_are_there, queue-living, requesters-known}

-- the mode of the sequencer at a node
abbrev found_in : List (ℕ × Mode) → ℕ → Option Mode
found_in modes node = option_map (λ found. found.1) (find (λ found. found.0 == node) modes)

-- one that is known stays
found-more : (more : Option (ℕ × Mode)) (modes : List (ℕ × Mode)) (node : ℕ) → IsSome (found_in modes node) → IsSome (found_in (option_to_list more ++ modes) node)
found-more None modes node known = known
found-more (Some one) modes node known = tested (one.0 == node)
  where
    tested : (b : Bool) → IsSome (option_map {U = Mode} (λ (found : ℕ × Mode). found.1) (if b then Some one else find (λ found. found.0 == node) modes))
    tested true = refl
    tested false = known

mode-more : (entry : Entry) (before : List Entry) (node : ℕ) → IsSome (mode_at before node) → IsSome (mode_at (entry ∷ before) node)
mode-more (Did performer outcome act) before node known = found-more (mode_in (nodes_of before) outcome act) (modes_of before) node known
mode-more entry before node known = known

-- a node of one more node is one of those that were there, or that one
get-last : (nodes : List Node) (last node : Node) (n : ℕ) → slice_get (nodes ++ last ∷ []) n ≡ Some node → (slice_get nodes n ≡ Some node) ⊎ ((n ≡ length nodes) × (last ≡ node))
get-last [] last node zero e = let same : last ≡ node = cc in inr (refl, same)
get-last [] last node (suc n) e = cc
get-last (first ∷ nodes) last node zero e = inl e
get-last (first ∷ nodes) last node (suc n) e = by (get-last nodes last node n e)
  where
    by : (slice_get nodes n ≡ Some node) ⊎ ((n ≡ length nodes) × (last ≡ node)) → (slice_get (first ∷ nodes) (suc n) ≡ Some node) ⊎ ((suc n ≡ suc (length nodes)) × (last ≡ node))
    by (inl was) = inl was
    by (inr new) = inr (ap suc new.0, new.1)

-- so a sequencer of the tree has a mode
abbrev HasMode : List Entry → Type 0
HasMode history = (n : ℕ) (node : Node) → slice_get (nodes_of history) n ≡ Some node → is_sequencer node.kind ≡ true → IsSome (mode_at history n)

first-found : (mode : Mode) (modes : List (ℕ × Mode)) (n : ℕ) → IsSome (found_in ((n, mode) ∷ modes) n)
first-found mode modes n = let itself : (n == n) ≡ true = grind (arith, nat_tests) in rw itself refl

module _ (before : List Entry) (known : HasMode before) where
  made-mode : (performer : Who) (type_name : List ℕ) (act : Act) → HasMode (Did performer (Made type_name) act ∷ before)
  made-mode performer type_name act n node at is = by (get-last (nodes_of before) (child (nodes_of before) (node_of performer) (created_name act) kind.Component) node n at)
    where
      by : (slice_get (nodes_of before) n ≡ Some node) ⊎ ((n ≡ length (nodes_of before)) × (child (nodes_of before) (node_of performer) (created_name act) kind.Component ≡ node)) → IsSome (mode_at before n)
      by (inl was) = known n node was is
      by (inr new) = let none : is_sequencer kind.Component ≡ true = ap (λ (one : Node). is_sequencer one.kind) new.1 ∙ is in cc

  added-mode : (performer : Who) (name : List ℕ) (adds : What) → HasMode (Did performer Done (Add name adds) ∷ before)
  added-mode performer name adds n node at is = by (get-last (nodes_of before) (child (nodes_of before) (node_of performer) name (kind_of adds)) node n at)
    where
      here : (one : What) → is_sequencer (kind_of one) ≡ true → IsSome (found_in (option_to_list (mode_in (nodes_of before) Done (Add name one)) ++ modes_of before) (length (nodes_of before)))
      here (what.Sequencer mode) is = first-found mode (modes_of before) (length (nodes_of before))
      here (what.Fifo size) is = cc
      here (what.Port kind) is = cc
      here (what.Export kind) is = cc
      here what.Imp is = cc

      by : (slice_get (nodes_of before) n ≡ Some node) ⊎ ((n ≡ length (nodes_of before)) × (child (nodes_of before) (node_of performer) name (kind_of adds) ≡ node)) → IsSome (mode_at (Did performer Done (Add name adds) ∷ before) n)
      by (inl was) = mode-more (Did performer Done (Add name adds)) before n (known n node was is)
      by (inr new) = rw new.0 (here adds (ap (λ (one : Node). is_sequencer one.kind) new.1 ∙ is))

  did-mode : (performer : Who) (outcome : Outcome) (act : Act) → HasMode (Did performer outcome act ∷ before)
  did-mode performer (Made type_name) act = made-mode performer type_name act
  did-mode performer Done (Add name what) = added-mode performer name what
  did-mode performer outcome act = λ n node at is. mode-more (Did performer outcome act) before n (known n node at is)

modes-are : (history : List Entry) → HasMode history
modes-are [] zero node at is = let none : is_sequencer kind.Component ≡ true = ap (λ (one : Option Node). option_map_or (λ (one : Node). is_sequencer one.kind) one true) at ∙ is in cc
modes-are [] (suc n) node at is = cc
modes-are (Did performer outcome act ∷ before) n node at is = did-mode before (modes-are before) performer outcome act n node at is
modes-are (entry ∷ before) n node at is = modes-are before n node at is

-- the sequencer that is asked for has one
sequencer-mode : (history : List Entry) (at home : ℕ) (found : Option Node) → node_at (nodes_of history) at ≡ found → (if option_map_or (λ n. is_sequencer n.kind) found false then Some at else None) ≡ Some home → IsSome (mode_at history home)
sequencer-mode history at home None is e = cc
sequencer-mode history at home (Some node) is e = tested (is_sequencer node.kind) refl e
  where
    tested : (b : Bool) → is_sequencer node.kind ≡ b → (if b then Some at else None) ≡ Some home → IsSome (mode_at history home)
    tested true passes e = let same : at ≡ home = cc in subst (λ (n : ℕ). IsSome (mode_at history n)) same (modes-are history at node is passes)
    tested false fails e = cc

found-mode : (history : List Entry) (found : Option ℕ) (home : ℕ) → option_and_then (if_sequencer (nodes_of history)) found ≡ Some home → IsSome (mode_at history home)
found-mode history None home e = cc
found-mode history (Some at) home e = sequencer-mode history at home (node_at (nodes_of history) at) refl e

-- each sequence was started on one
abbrev pub HasHome : List Entry → StartRecord → Type 0
HasHome history start_record = IsSome (mode_at history start_record.start.home)

pub begun-mode : (history : List Entry) (home : ℕ) (found : Option StartRecord) (id : ℕ) → numbered (starts_of history) id ≡ found → All (HasHome history) (starts_of history) → option_map (λ start_record. start_record.start.home) found ≡ Some home → IsSome (mode_at history home)
begun-mode history home None id is all e = cc
begun-mode history home (Some start_record) id is all e =
    let same : start_record.start.home ≡ home = cc in
    subst (λ (h : ℕ). IsSome (mode_at history h)) same (numbered-holds (HasHome history) (starts_of history) id start_record all is)

asked-mode : (history : List Entry) (performer : Who) (on : List (List ℕ)) (home : ℕ) → All (HasHome history) (starts_of history) → IsThere history performer → home_asked (nodes_of history) performer on ≡ Some home → IsSome (mode_at history home)
asked-mode history (who.Node node) on home homes there e = found-mode history (node_below (nodes_of history) (who.Node node) on) home e
asked-mode history (who.Sequence at id) [] home homes there e =
    let same : at ≡ home = cc in
    subst (λ (h : ℕ). IsSome (mode_at history h)) same (begun-mode history at (numbered (starts_of history) id) id refl homes there.home_is)
asked-mode history (who.Sequence at id) (name ∷ on) home homes there e = cc

started-mode :
    (script : ScriptValue) (before : List Entry) (performer : Who) (id : ℕ) (act : Act) → IsStarting script before performer id act → All (HasHome before) (starts_of before)
    → (act ≡ test_creation script) ⊎ IsThere before (performer_of before) → IsSome (mode_at before (start_by (nodes_of before) (sequences_of before) performer act).home)
started-mode script before performer id act s homes (inl opens) = let e : test_creation script ≡ Start s.begun.asked s.begun.name s.begun.on s.begun.priority = sym opens ∙ s.begun.starts in cc
started-mode script before performer id act s homes (inr there) =
    let b = s.begun in
    let h = home-of script before (performer_of before) b.asked b.name b.on b.priority b.may in
    let At : Who → Act → Type 0 = λ who act. IsSome (mode_at before (start_by (nodes_of before) (sequences_of before) who act).home) in
    let asked : IsSome (mode_at before (unwrap_or (home_asked (nodes_of before) (performer_of before) b.on) 0)) = rw h.1 (asked-mode before (performer_of before) b.on h.0 homes there h.1) in
    let by : At (performer_of before) (Start b.asked b.name b.on b.priority) = asked in
    subst (λ (who : Who). At who act) (sym s.performer_is) (subst (At (performer_of before)) (sym b.starts) by)

homes-weaker : (entry : Entry) (before : List Entry) → All (HasHome before) (starts_of before) → All (HasHome (entry ∷ before)) (starts_of before)
homes-weaker entry before homes = All-weaker (HasHome before) (HasHome (entry ∷ before)) (λ start_record. mode-more entry before start_record.start.home) (starts_of before) homes

module _ (keeps : OrderKeepsAll EventTarget (Option Call)) (excludes : LockExcludes) where
  homes-did : (script : ScriptValue) (before : List Entry) (performer : Who) (outcome : Outcome) (act : Act) → EachIsNext script before → IsNext script before (Did performer outcome act) → All (HasHome before) (starts_of before)
      → All (HasHome (Did performer outcome act ∷ before)) (starts_of (Did performer outcome act ∷ before))
  homes-did script before performer (Started id) act each next homes =
      let s = starting-next script before performer id act next in
      All-cons (HasHome (Did performer (Started id) act ∷ before)) _ (starts_of before)
      (mode-more (Did performer (Started id) act) before _ (started-mode script before performer id act s homes (performers_are_there keeps excludes script before act each s.is s.left)))
      (homes-weaker (Did performer (Started id) act) before homes)
  homes-did script before performer outcome act each next homes = homes-weaker (Did performer outcome act) before homes

  homes-more : (script : ScriptValue) (before : List Entry) (entry : Entry) → EachIsNext script before → IsNext script before entry → All (HasHome before) (starts_of before) → All (HasHome (entry ∷ before)) (starts_of (entry ∷ before))
  homes-more script before (Did performer outcome act) each next homes = homes-did script before performer outcome act each next homes
  homes-more script before entry each next homes = homes-weaker entry before homes

  homes-are : (script : ScriptValue) (history : List Entry) → EachIsNext script history → All (HasHome history) (starts_of history)
  homes-are script [] each = All-nil _
  homes-are script (entry ∷ before) each = homes-more script before entry each.1 each.0 (homes-are script before each.1)

  -- the phase in which a driver asked has not ended, unless it is idle
  acts-go : (script : ScriptValue) (history : List Entry) → IsAct (next_of script history) → stage_of history ≡ Ended → ⊥
  acts-go script history is ended = subst IsAct (nothing-comes script history ended) is

  asked-open : (script : ScriptValue) (history : List Entry) (node : ℕ) → EachIsNext script history → IsAsking history node → HasNotEnded (ended_of history) (asked_in history node)
  asked-open script history node each asks = subst (HasNotEnded (ended_of history)) (sym asks.1) (phases_in_progress_are_open script history asks.0 each asks.2)

  going-on : (history : List Entry) (node : ℕ) → IsAsking history node → is_going (asked_in history node) (in_progress (stage_of history)) ≡ true
  going-on history node asks = subst (λ (phase : Option Phase). is_going phase (in_progress (stage_of history)) ≡ true) (sym asks.1) asks.2

  -- and so it is where an act is next
  pub drivers_are_there : DriversAreThere
  drivers_are_there script history each is = record {
    homes = homes-are script history each;
    drivers = drivers-known keeps excludes script history each is;
    hands = hands-known keeps excludes script history each is;
    asks = λ node busy. asked-open script history node each (asking-of keeps excludes script history node each (acts-go script history is) busy);
  }

  pub asks_are_in_phase : AsksAreInPhase
  asks_are_in_phase script history each on = record {
    drivers = requesters-known keeps excludes script history each on;
    going = λ node busy. going-on history node (asking-of keeps excludes script history node each on busy);
  }

  -- who is granted a lock, or an item, lives
  goes-on : (script : ScriptValue) (history : List Entry) (next : Next) → next_of script history ≡ next → (Nothing ≡ next → ⊥) → stage_of history ≡ Ended → ⊥
  goes-on script history next is some ended = some (sym (nothing-comes script history ended) ∙ is)

  pub lockers_are_there : LockersAreThere
  lockers_are_there script history node id each is =
      let on = goes-on script history (Exactly (Locked node id)) is (λ e. cc) in
      let all = locking-holds keeps excludes (λ node id. IsLiving history id node) history (λ at. queue-living keeps excludes script history at each on) in
      subst (λ (led : Option (ℕ × ℕ)). IfSome led (λ led. IsLiving history led.1 led.0)) (locks_go_in_order script history node id is) all

  pub chosen_are_there : ChosenAreThere
  chosen_are_there script history node id drawn chosen word each is e =
      let on = goes-on script history (Grant node drawn chosen) is (λ e. cc) in
      let s = grants_go_in_order script history node drawn chosen is in
      chosen-holds keeps excludes (λ id. IsLiving history id node) history node id word (queue-living keeps excludes script history node each on) (ap (λ (f : Option ℕ → Option ℕ). f word) (sym s.chosen_is) ∙ e)
