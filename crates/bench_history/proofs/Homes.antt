-- The sequencers on which sequences were started are nodes of the tree.
use Rattle.bench_history.proofs.Common.{◌≡◌, ℕ, ◌<◌, Bool, true, false, List, [], ◌∷◌, length, Option, Some, None, is_none, is_some, not, option_map, option_and_then, unwrap_or, suc, zero, refl, ◌∙◌, sym, subst, arith, ◌⊎◌, inl, inr, if◌then◌else◌, option_map_or, All-nil, All-cons, All-weaker, first_given, fault_if, OrderKeepsAll, numbered, node_at, Who, Call, Act, Fatal, OutsideTask, OutOfRange, InvalidType, NoSequencer, TreeLimit, OverrideLoop, Outcome, Started, Entry, Did, ScriptValue, EventTarget, nodes_of, test_creation, remaining_acts, rest_of, performer_of, in_task, node_below, StartRecord, starts_of, home_asked, if_sequencer, is_sequencer, sequences_of, start_by, path_fault, Starting, starting_refusal, is_none_at_all, sequence_named, sequence_made, starting_now, next_of, IsAct, IsNext, EachIsNext, HomesAreNodes, IsBegun, IsThere, slice_get, LockExcludes, All, Node, Start}
use Rattle.uvm_acts.specs.declared.acts.Who.TheVariants as who
use Rattle.bench_history.proofs.Needed.{made-in}
use Rattle.bench_history.proofs.ActEntries.{is-act}
use Rattle.bench_history.proofs.Inversion.{comes}
use Rattle.bench_history.proofs.Grown.{nodes-more}
use Rattle.bench_history.proofs.Living.{numbered-holds}
use Rattle.bench_history.proofs.Called.{performers_are_there}

-- a sequence is started by the performer's next act
pub record IsStarting (script : ScriptValue) (history : List Entry) (performer : Who) (id : ℕ) (act : Act) : Type 0 where
  pub performer_is : performer ≡ performer_of history
  pub left : remaining_acts script history ≡ act ∷ rest_of (remaining_acts script history)
  pub begun : IsBegun script history id act
  pub is : IsAct (next_of script history)

pub starting-next : (script : ScriptValue) (before : List Entry) (performer : Who) (id : ℕ) (act : Act) → IsNext script before (Did performer (Started id) act) → IsStarting script before performer id act
starting-next script before performer id act next =
    let act_entry = comes script before (Did performer (Started id) act) next in
    record { performer_is = act_entry.performer_is; left = act_entry.left; begun = (made-in script before performer (Started id) act (λ none. none) next).1; is = is-act performer (Started id) act (next_of script before) next }

-- it has a sequencer, where nothing speaks against it
rest-not : (first : Option Fatal) (others : List (Option Fatal)) → first_given (first ∷ others) ≡ None → first_given others ≡ None
rest-not (Some fatal) others e = cc
rest-not None others e = e

first-not : (first : Option Fatal) (others : List (Option Fatal)) → first_given (first ∷ others) ≡ None → first ≡ None
first-not (Some fatal) others e = cc
first-not None others e = refl

has-home : (home : Option ℕ) → fault_if (is_none home) NoSequencer ≡ None → (node : ℕ) × (home ≡ Some node)
has-home None e = cc
has-home (Some node) e = (node, refl)

fourth-not : (first second third fourth fifth sixth : Option Fatal) → first_given (first ∷ second ∷ third ∷ fourth ∷ fifth ∷ sixth ∷ []) ≡ None → fourth ≡ None
fourth-not first second third fourth fifth sixth e =
    first-not fourth (fifth ∷ sixth ∷ [])
    (rest-not third (fourth ∷ fifth ∷ sixth ∷ []) (rest-not second (third ∷ fourth ∷ fifth ∷ sixth ∷ []) (rest-not first (second ∷ third ∷ fourth ∷ fifth ∷ sixth ∷ []) e)))

-- so that the sequencer that is asked for is there
home-in : (starting : Starting) → starting_refusal starting ≡ None → (node : ℕ) × (starting.home ≡ Some node)
unfolding starting_refusal
home-in starting e =
    has-home starting.home
    (fourth-not (fault_if (not (in_task starting.phase)) OutsideTask) (fault_if (is_none_at_all starting.priority) OutOfRange) (fault_if (is_none (sequence_named starting.types starting.type_name)) InvalidType)
    (fault_if (is_none starting.home) NoSequencer) (fault_if (is_some (path_fault starting.path)) TreeLimit) (fault_if (is_none (sequence_made starting)) OverrideLoop) e)

pub home-of : (script : ScriptValue) (history : List Entry) (performer : Who) (asked name : List ℕ) (on : List (List ℕ)) (priority : Option ℕ) → starting_refusal (starting_now script history performer asked name on priority) ≡ None → (node : ℕ) × (home_asked (nodes_of history) performer on ≡ Some node)
home-of script history performer asked name on priority e = home-in (starting_now script history performer asked name on priority) e

-- a sequencer is a node
get-within : (nodes : List Node) (k : ℕ) (node : Node) → slice_get nodes k ≡ Some node → k < length nodes
get-within [] k node e = cc
get-within (first ∷ nodes) zero node e = omega arith
get-within (first ∷ nodes) (suc k) node e = let low = get-within nodes k node e in omega (arith, low)

sequencer-within : (nodes : List Node) (at home : ℕ) (found : Option Node) → node_at nodes at ≡ found → (if option_map_or (λ n. is_sequencer n.kind) found false then Some at else None) ≡ Some home → home < length nodes
sequencer-within nodes at home None is e = cc
sequencer-within nodes at home (Some node) is e = tested (is_sequencer node.kind) e
  where
    tested : (b : Bool) → (if b then Some at else None) ≡ Some home → home < length nodes
    tested true e = let same : at ≡ home = cc in subst (λ (n : ℕ). n < length nodes) same (get-within nodes at node is)
    tested false e = cc

found-within : (nodes : List Node) (found : Option ℕ) (home : ℕ) → option_and_then (if_sequencer nodes) found ≡ Some home → home < length nodes
found-within nodes None home e = cc
found-within nodes (Some at) home e = sequencer-within nodes at home (node_at nodes at) refl e

begun-within : (n : ℕ) (begun : List StartRecord) (home : ℕ) (found : Option StartRecord) (id : ℕ) → numbered begun id ≡ found → All (λ start_record. start_record.start.home < n) begun → option_map (λ start_record. start_record.start.home) found ≡ Some home → home < n
begun-within n begun home None id is all e = cc
begun-within n begun home (Some start_record) id is all e =
    let same : start_record.start.home ≡ home = cc in
    subst (λ (h : ℕ). h < n) same (numbered-holds (λ (one : StartRecord). one.start.home < n) begun id start_record all is)

asked-within :
    (history : List Entry) (performer : Who) (on : List (List ℕ)) (home : ℕ) → All (λ start_record. start_record.start.home < length (nodes_of history)) (starts_of history) → IsThere history performer
    → home_asked (nodes_of history) performer on ≡ Some home → home < length (nodes_of history)
asked-within history (who.Node node) on home homes there e = found-within (nodes_of history) (node_below (nodes_of history) (who.Node node) on) home e
asked-within history (who.Sequence at id) [] home homes there e =
    let same : at ≡ home = cc in
    subst (λ (h : ℕ). h < length (nodes_of history)) same (begun-within (length (nodes_of history)) (starts_of history) at (numbered (starts_of history) id) id refl homes there.home_is)
asked-within history (who.Sequence at id) (name ∷ on) home homes there e = cc

homes-weaker : (entry : Entry) (before : List Entry) → All (λ start_record. start_record.start.home < length (nodes_of before)) (starts_of before) → All (λ start_record. start_record.start.home < length (nodes_of (entry ∷ before))) (starts_of before)
homes-weaker entry before homes =
    let more = nodes-more entry before in
    All-weaker (λ (start_record : StartRecord). start_record.start.home < length (nodes_of before)) (λ (start_record : StartRecord). start_record.start.home < length (nodes_of (entry ∷ before))) (λ start_record lt. omega (arith, more, lt)) (starts_of before) homes

started-home :
    (script : ScriptValue) (before : List Entry) (performer : Who) (id : ℕ) (act : Act) → IsStarting script before performer id act → All (λ start_record. start_record.start.home < length (nodes_of before)) (starts_of before)
    → (act ≡ test_creation script) ⊎ IsThere before (performer_of before) → (start_by (nodes_of before) (sequences_of before) performer act).home < length (nodes_of before)
started-home script before performer id act s homes (inl opens) = let e : test_creation script ≡ Start s.begun.asked s.begun.name s.begun.on s.begun.priority = sym opens ∙ s.begun.starts in cc
started-home script before performer id act s homes (inr there) =
    let b = s.begun in
    let h = home-of script before (performer_of before) b.asked b.name b.on b.priority b.may in
    let within = asked-within before (performer_of before) b.on h.0 homes there h.1 in
    let Low : ℕ → Type 0 = λ home. home < length (nodes_of before) in
    let asked : Low (unwrap_or (home_asked (nodes_of before) (performer_of before) b.on) 0) = rw h.1 within in
    let by : Low (start_by (nodes_of before) (sequences_of before) (performer_of before) (Start b.asked b.name b.on b.priority)).home = asked in
    let At : Who → Act → Type 0 = λ who act. Low (start_by (nodes_of before) (sequences_of before) who act).home in
    subst (λ (who : Who). At who act) (sym s.performer_is) (subst (At (performer_of before)) (sym b.starts) by)

module _ (keeps : OrderKeepsAll EventTarget (Option Call)) (excludes : LockExcludes) where
  new-home : (script : ScriptValue) (before : List Entry) (performer : Who) (id : ℕ) (act : Act) → EachIsNext script before → IsNext script before (Did performer (Started id) act) → All (λ start_record. start_record.start.home < length (nodes_of before)) (starts_of before)
      → (start_by (nodes_of before) (sequences_of before) performer act).home < length (nodes_of before)
  new-home script before performer id act each next homes =
      let s = starting-next script before performer id act next in
      started-home script before performer id act s homes (performers_are_there keeps excludes script before act each s.is s.left)

  homes-did : (script : ScriptValue) (before : List Entry) (performer : Who) (outcome : Outcome) (act : Act) → EachIsNext script before → IsNext script before (Did performer outcome act) → All (λ start_record. start_record.start.home < length (nodes_of before)) (starts_of before)
      → All (λ start_record. start_record.start.home < length (nodes_of (Did performer outcome act ∷ before))) (starts_of (Did performer outcome act ∷ before))
  homes-did script before performer (Started id) act each next homes =
      All-cons (λ (start_record : StartRecord). start_record.start.home < length (nodes_of (Did performer (Started id) act ∷ before))) _ (starts_of before) (new-home script before performer id act each next homes) (homes-weaker (Did performer (Started id) act) before homes)
  homes-did script before performer outcome act each next homes = homes-weaker (Did performer outcome act) before homes

  homes-more : (script : ScriptValue) (before : List Entry) (entry : Entry) → EachIsNext script before → IsNext script before entry → All (λ start_record. start_record.start.home < length (nodes_of before)) (starts_of before)
      → All (λ start_record. start_record.start.home < length (nodes_of (entry ∷ before))) (starts_of (entry ∷ before))
  homes-more script before (Did performer outcome act) each next homes = homes-did script before performer outcome act each next homes
  homes-more script before entry each next homes = homes-weaker entry before homes

  pub homes_are_nodes : HomesAreNodes
  homes_are_nodes script [] each = All-nil _
  homes_are_nodes script (entry ∷ before) each = homes-more script before entry each.1 each.0 (homes_are_nodes script before each.1)
