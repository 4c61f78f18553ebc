-- Where a phase ends that takes time, nothing is raised and nothing held back.
use Rattle.bench_history.proofs.Common.{◌≡◌, ◌<◌, ◌+◌, ℕ, zero, suc, nat_lt, Bool, true, false, not, ◌||◌, ◌==◌, List, [], ◌∷◌, ◌++◌, length, filter, find, sum_by, Option, Some, None, refl, sym, ap, ◌∙◌, arith, if◌then◌else◌, or-false, or_parts, or_right, list_any, option_map_or, nat_tests, All-nil, All-cons, All-head, All-tail, All-contains, All-contains_itself, sum_by-cons, list_any-append, slice_get_within, Phase, Build, EndOfElaboration, StartOfSimulation, Extract, Check, Report, Final, is_task, same_phase, add_fault, child, node_at, top, new_node, is_known, held_of, source_of, total, is_child, settled, standing, AreUnder, IsTree, PlacesStay, TotalIsSum, places, raised, dropped, with_drain, node_of, Who, Act, Add, RaiseObjection, DropObjection, SetDrain, Outcome, Done, Made, Entry, Did, Drained, End, ScriptValue, act_phase, created_name, in_task, is_of_phase, kind_of, nodes_of, now_of, is_kept, objections_of, stands, with_new, child_refusal, IsNext, EachIsNext, IsQuiet, QuietEnd, length-append, All, Contains, Connect, AreNodes, NodesGrow, released}
use Rattle.uvm_tree.specs.Nodes as tree
use Rattle.uvm_tree.specs.declared.nodes.NodeKind.TheVariants as kind
use Rattle.uvm_objection.specs.Nodes.{Node}
use Rattle.bench_history.proofs.Inversion.{comes}
use Rattle.bench_history.proofs.Treed.{no-fault, made-free, added-next}
use Rattle.bench_history.proofs.Olders.{older-each}

-- the nodes of the objection are those of the tree, by their numbers
pub record AreObjections (objections : List Node) (count : ℕ) : Type 0 where
  pub are_nodes : AreNodes objections
  pub all : length objections ≡ count
  pub known : (n : ℕ) → is_known n objections ≡ nat_lt n count

itself : (n : ℕ) → (n == n) ≡ true
itself n = grind (arith, nat_tests)

-- one more number
less-more : (n k : ℕ) (less last : Bool) → nat_lt n k ≡ less → (k == n) ≡ last → (less || last) ≡ nat_lt n (suc k)
less-more n k true last e f = let low : n < k = grind (arith, nat_tests, e) in sym (grind (arith, nat_tests, low))
less-more n k false true e f = sym (grind (arith, nat_tests, e, f))
less-more n k false false e f = sym (grind (arith, nat_tests, e, f))

-- a parent is there, where its child is not refused
parent-known : (nodes : List tree.Node) (parent : ℕ) (name : List ℕ) → child_refusal nodes parent name ≡ None → parent < length nodes
unfolding add_fault
parent-known nodes parent name free = by (node_at nodes parent) refl (no-fault (add_fault nodes parent name) free)
  where
    by : (found : Option tree.Node) → node_at nodes parent ≡ found → add_fault nodes parent name ≡ None → parent < length nodes
    by None is none = let wrong = rw is at none in cc
    by (Some node) is none = slice_get_within nodes parent node is

module _ (stay : PlacesStay) (grow : NodesGrow) where
  -- what changes no place keeps them
  kept : (nodes others : List Node) (count : ℕ) → places others ≡ places nodes → length others ≡ length nodes → AreNodes others → AreObjections nodes count → AreObjections others count
  kept nodes others count same long are was = record { are_nodes = are; all = long ∙ was.all; known = λ n. stay.known n nodes others same ∙ was.known n }

  same-length : (nodes others : List Node) → places others ≡ places nodes → length others ≡ length nodes
  same-length [] [] same = refl
  same-length [] (e ∷ others) same = cc
  same-length (e ∷ nodes) [] same = cc
  same-length (e ∷ nodes) (f ∷ others) same = ap suc (same-length nodes others cc)

  -- one more node
  added : (nodes : List Node) (count parent : ℕ) → parent < count → AreObjections nodes count → AreObjections (nodes ++ new_node (length nodes) parent ∷ []) (suc count)
  added nodes count parent low was =
      let last = was.all in
      let new : is_known (length nodes) nodes ≡ false = was.known (length nodes) ∙ (rw last (grind (arith, nat_tests))) in
      let old : is_known parent nodes ≡ true = was.known parent ∙ (grind (arith, nat_tests, low)) in
      record {
        are_nodes = ((grow.1 nodes was.are_nodes).added (length nodes) parent new old).nodes;
        all = let both = length-append nodes (new_node (length nodes) parent ∷ []) in omega (arith, both, last);
        known = λ n.
            list_any-append (λ (e : Node). e.node == n) nodes (new_node (length nodes) parent ∷ [])
            ∙ ap (λ b. is_known n nodes || b) (or-false (length nodes == n))
            ∙ rw (was.known n, last) (less-more n count (nat_lt n count) (count == n) refl refl);
      }

  -- with its drain time
  made : (nodes : List Node) (count parent drain : ℕ) → parent < count → AreObjections nodes count → AreObjections (with_new parent drain nodes) (suc count)
  made nodes count parent drain low was =
      let more = nodes ++ new_node (length nodes) parent ∷ [] in
      let new = added nodes count parent low was in
      let same = stay.with_drain (length nodes) drain more in
      kept more (with_drain (length nodes) drain more) (suc count) same (same-length more (with_drain (length nodes) drain more) same) ((grow.1 more new.are_nodes).with_drain (length nodes) drain).nodes new

  settled-kept : (time count : ℕ) (nodes changed : List Node) → places changed ≡ places nodes → AreNodes (settled time (total nodes) changed) → AreObjections nodes count → AreObjections (settled time (total nodes) changed) count
  settled-kept time count nodes changed same are was =
      let all = stay.settled time (total nodes) changed ∙ same in
      kept nodes (settled time (total nodes) changed) count all (same-length nodes (settled time (total nodes) changed) all) are was

  more-nodes : (nodes : List tree.Node) (one : tree.Node) → length (nodes ++ one ∷ []) ≡ suc (length nodes)
  more-nodes nodes one = let both = length-append nodes (one ∷ []) in omega (arith, both)

  grown : (nodes : List tree.Node) (one : tree.Node) (objections : List Node) → AreObjections objections (suc (length nodes)) → AreObjections objections (length (nodes ++ one ∷ []))
  grown nodes one objections was = rw (more-nodes nodes one) was

  -- whether it has changed or not
  either : (changed : Bool) {others nodes : List Node} {count : ℕ} → AreObjections others count → AreObjections nodes count → AreObjections (if changed then others else nodes) count
  either true new old = new
  either false new old = old

  objections-did :
      (phase : Phase) (script : ScriptValue) (before : List Entry) (performer : Who) (outcome : Outcome) (act : Act) → IsNext script before (Did performer outcome act) → AreObjections (objections_of script phase before) (length (nodes_of before))
      → AreObjections (objections_of script phase (Did performer outcome act ∷ before)) (length (nodes_of (Did performer outcome act ∷ before)))
  objections-did phase script before performer (Made type_name) act next was =
      let low = parent-known (nodes_of before) (node_of performer) (created_name act) (made-free script before performer type_name act next) in
      grown (nodes_of before) (child (nodes_of before) (node_of performer) (created_name act) kind.Component) _ (made (objections_of script phase before) (length (nodes_of before)) (node_of performer) _ low was)
  objections-did phase script before performer Done (Add name what) next was =
      let low = parent-known (nodes_of before) (node_of performer) name (added-next script before performer name what next) in
      grown (nodes_of before) (child (nodes_of before) (node_of performer) name (kind_of what)) _ (made (objections_of script phase before) (length (nodes_of before)) (node_of performer) _ low was)
  objections-did phase script before performer Done (RaiseObjection count) next was =
      either (is_of_phase phase (act_phase before)) (settled-kept (now_of before) _ (objections_of script phase before) (raised (node_of performer) count (objections_of script phase before)) (stay.raised (node_of performer) count (objections_of script phase before)) ((grow.1 (objections_of script phase before) was.are_nodes).raised (now_of before) (node_of performer) count).nodes was) was
  objections-did phase script before performer Done (DropObjection count) next was =
      either (is_of_phase phase (act_phase before)) (settled-kept (now_of before) _ (objections_of script phase before) (dropped (node_of performer) count (objections_of script phase before)) (stay.dropped (node_of performer) count (objections_of script phase before)) ((grow.1 (objections_of script phase before) was.are_nodes).dropped (now_of before) (node_of performer) count).nodes was) was
  objections-did phase script before performer Done (SetDrain ticks) next was =
      let same = stay.with_drain (node_of performer) ticks (objections_of script phase before) in
      either (is_of_phase phase (act_phase before) || not (in_task (act_phase before))) (kept (objections_of script phase before) (with_drain (node_of performer) ticks (objections_of script phase before)) _ same (same-length (objections_of script phase before) _ same) ((grow.1 (objections_of script phase before) was.are_nodes).with_drain (node_of performer) ticks).nodes was) was
  objections-did phase script before performer outcome act next was = was

  objections-more : (phase : Phase) (script : ScriptValue) (before : List Entry) (entry : Entry) → IsNext script before entry → AreObjections (objections_of script phase before) (length (nodes_of before)) → AreObjections (objections_of script phase (entry ∷ before)) (length (nodes_of (entry ∷ before)))
  objections-more phase script before (Did performer outcome act) next was = objections-did phase script before performer outcome act next was
  objections-more phase script before (Drained node origin) next was =
      either (same_phase origin.phase phase) (settled-kept (now_of before) _ (objections_of script phase before) (released node (objections_of script phase before)) (stay.released node (objections_of script phase before)) ((grow.1 (objections_of script phase before) was.are_nodes).released (now_of before) node).nodes was) was
  objections-more phase script before entry next was = was

  pub objections-are : (phase : Phase) (script : ScriptValue) (history : List Entry) → EachIsNext script history → AreObjections (objections_of script phase history) (length (nodes_of history))
  objections-are phase script [] each = record { are_nodes = grow.0; all = refl; known = λ n. one n (0 == n) refl }
    where
      one : (n : ℕ) (b : Bool) → (0 == n) ≡ b → is_known n (top ∷ []) ≡ nat_lt n 1
      one n true e = rw e (sym (grind (arith, nat_tests, e)))
      one n false e = rw e (sym (grind (arith, nat_tests, e)))
  objections-are phase script (entry ∷ before) each = objections-more phase script before entry each.0 (objections-are phase script before each.1)

-- a sum of none is one of nothings
sum-none : {X : Type 0} (f : X → ℕ) (p : X → Bool) (xs : List X) → sum_by f (filter p xs) ≡ 0 → All (λ x. p x ≡ true → f x ≡ 0) xs
sum-none f p [] e = All-nil (λ x. p x ≡ true → f x ≡ 0)
sum-none f p (x ∷ xs) e = tested (p x) refl e (sum-none f p xs)
  where
    tested : (b : Bool) → p x ≡ b → sum_by f (if b then x ∷ filter p xs else filter p xs) ≡ 0 → (sum_by f (filter p xs) ≡ 0 → All (λ x. p x ≡ true → f x ≡ 0) xs) → All (λ x. p x ≡ true → f x ≡ 0) (x ∷ xs)
    tested true is e more =
        let parts = sum_by-cons f x (filter p xs) in
        All-cons (λ x. p x ≡ true → f x ≡ 0) x xs (λ passes. omega (arith, parts, e)) (more (omega (arith, parts, e)))
    tested false is e more = All-cons (λ x. p x ≡ true → f x ≡ 0) x xs (λ passes. cc) (more e)

-- what is there and passes
any-there : {X : Type 0} (p : X → Bool) (xs : List X) (x : X) → p x ≡ true → Contains xs x → list_any p xs ≡ true
any-there p [] x passes has = absurd (omega (arith, has.1))
any-there p (y ∷ ys) x passes (zero, low, at) = let first : p y ≡ true = rw at passes in rw first refl
any-there p (y ∷ ys) x passes (suc k, low, at) = or_right (p y) (list_any p ys) (any-there p ys x passes (k, omega (arith, low), at))

abbrev IsZero : List Node → Node → Type 0
IsZero nodes e = (total nodes e.node ≡ 0) × (e.held ≡ 0)

module _ (sums : TotalIsSum) (nodes : List Node) (are : AreNodes nodes) where
  -- under a node of which the total is nothing each has that total, and holds nothing
  child-zero : (above : ℕ) → is_known above nodes ≡ true → total nodes above ≡ 0 → All (λ e. is_child above e ≡ true → IsZero nodes e) nodes
  child-zero above known nothing =
      let sum = sums nodes are above known in
      all nodes (sum-none (λ (e : Node). total nodes e.node + e.held) (is_child above) nodes (omega (arith, sum, nothing)))
    where
      all : (xs : List Node) → All (λ e. is_child above e ≡ true → total nodes e.node + e.held ≡ 0) xs → All (λ e. is_child above e ≡ true → IsZero nodes e) xs
      all [] none = All-nil (λ e. is_child above e ≡ true → IsZero nodes e)
      all (x ∷ xs) none =
          All-cons (λ e. is_child above e ≡ true → IsZero nodes e) x xs (λ under. let sum = All-head (λ e. is_child above e ≡ true → total nodes e.node + e.held ≡ 0) x xs none under in (omega (arith, sum), omega (arith, sum)))
          (all xs (All-tail (λ e. is_child above e ≡ true → total nodes e.node + e.held ≡ 0) x xs none))

  abbrev IsZeroAt : ℕ → Type 0
  IsZeroAt n = (is_known n nodes ≡ true) × (total nodes n ≡ 0)

  zero-under : (known : ℕ → Bool) → ((n : ℕ) → known n ≡ true → IsZeroAt n) → (e : Node) → Contains nodes e → option_map_or known e.parent false ≡ true → IsZero nodes e
  zero-under known zeros e there under = by e.parent refl under
    where
      by : (parent : Option ℕ) → e.parent ≡ parent → option_map_or known parent false ≡ true → IsZero nodes e
      by None is under = cc
      by (Some above) is under =
          let z = zeros above under in
          let child : is_child above e ≡ true = rw is (itself above) in
          All-contains (λ e. is_child above e ≡ true → IsZero nodes e) nodes e (child-zero above z.0 z.1) there child

  -- so from the top down
  all-zero : (known : ℕ → Bool) (rest : List Node) → AreUnder known (places rest) → ((n : ℕ) → known n ≡ true → IsZeroAt n) → All (Contains nodes) rest → All (IsZero nodes) rest
  all-zero known [] under zeros there = All-nil (IsZero nodes)
  all-zero known (e ∷ rest) under zeros there =
      let here = All-head (Contains nodes) e rest there in
      let z = zero-under known zeros e here under.0 in
      All-cons (IsZero nodes) e rest z (all-zero (λ node. (e.node == node) || known node) rest under.2 (λ n. by n z here (e.node == n) refl) (All-tail (Contains nodes) e rest there))
    where
      by : (n : ℕ) → IsZero nodes e → Contains nodes e → (b : Bool) → (e.node == n) ≡ b → (b || known n) ≡ true → IsZeroAt n
      by n z here true is or =
          let same : e.node ≡ n = grind (arith, nat_tests, is) in
          (any-there (λ (other : Node). other.node == n) nodes e is here, rw (← same) z.0)
      by n z here false is or = zeros n or

  tree-zero : (all : List Node) → IsTree (places all) → All (Contains nodes) all → total nodes 0 ≡ 0 → held_of 0 all ≡ 0 → All (IsZero nodes) all
  tree-zero [] tree there nothing held = absurd tree
  tree-zero (e ∷ rest) tree there nothing held =
      let first : (e.node == 0) ≡ true = rw tree.0 refl in
      let none : e.held ≡ 0 = rw first at held in
      let here = All-head (Contains nodes) e rest there in
      All-cons (IsZero nodes) e rest (rw tree.0 nothing, none) (all-zero (λ node. e.node == node) rest tree.3 (λ n is. by n here is) (All-tail (Contains nodes) e rest there))
    where
      by : (n : ℕ) → Contains nodes e → (e.node == n) ≡ true → IsZeroAt n
      by n here is =
          let same : e.node ≡ n = grind (arith, nat_tests, is) in
          let top : n ≡ 0 = sym same ∙ tree.0 in
          (any-there (λ (other : Node). other.node == n) nodes e is here, rw top nothing)

  -- at each node, be it one of them or not
  found-zero : (node : ℕ) (xs : List Node) → All (IsZero nodes) xs → is_known node xs ≡ true → total nodes node ≡ 0
  found-zero node [] all known = cc
  found-zero node (e ∷ xs) all known = tested (e.node == node) refl known (found-zero node xs (All-tail (IsZero nodes) e xs all))
    where
      tested : (b : Bool) → (e.node == node) ≡ b → (b || is_known node xs) ≡ true → (is_known node xs ≡ true → total nodes node ≡ 0) → total nodes node ≡ 0
      tested true is known more = let same : e.node ≡ node = grind (arith, nat_tests, is) in rw (← same) ((All-head (IsZero nodes) e xs all).0)
      tested false is known more = more known

  held-zero : (node : ℕ) (xs : List Node) → All (IsZero nodes) xs → held_of node xs ≡ 0
  held-zero node [] all = refl
  held-zero node (e ∷ xs) all = tested (e.node == node) (held-zero node xs (All-tail (IsZero nodes) e xs all))
    where
      tested : (b : Bool) → held_of node xs ≡ 0 → option_map_or (λ (e : Node). e.held) (if b then Some e else find (λ (e : Node). e.node == node) xs) 0 ≡ 0
      tested true rest = (All-head (IsZero nodes) e xs all).1
      tested false rest = rest

total-none : (node : ℕ) (xs : List Node) → is_known node xs ≡ false → total xs node ≡ 0
total-none node [] unknown = refl
total-none node (e ∷ xs) unknown = tested (e.node == node) refl unknown (total-none node xs)
  where
    tested : (b : Bool) → (e.node == node) ≡ b → (b || is_known node xs) ≡ false → (is_known node xs ≡ false → total xs node ≡ 0) → total (e ∷ xs) node ≡ 0
    tested true is unknown more = cc
    tested false is unknown more = rw is (more unknown)

source-none : (node : ℕ) (xs : List Node) → is_known node xs ≡ false → source_of node xs ≡ 0
source-none node [] unknown = refl
source-none node (e ∷ xs) unknown = tested (e.node == node) refl unknown (source-none node xs)
  where
    tested : (b : Bool) → (e.node == node) ≡ b → (b || is_known node xs) ≡ false → (is_known node xs ≡ false → source_of node xs ≡ 0) → source_of node (e ∷ xs) ≡ 0
    tested true is unknown more = cc
    tested false is unknown more = rw is (more unknown)

quiet-at : (sums : TotalIsSum) (nodes : List Node) → AreNodes nodes → standing nodes ≡ 0 → (node : ℕ) → IsQuiet nodes node
quiet-at sums nodes are none node =
    let nothing : total nodes 0 ≡ 0 = omega (arith, none) in
    let held : held_of 0 nodes ≡ 0 = omega (arith, none) in
    by (tree-zero sums nodes are nodes are.tree (All-contains_itself nodes) nothing held) (is_known node nodes) refl
  where
    by : All (IsZero nodes) nodes → (known : Bool) → is_known node nodes ≡ known → IsQuiet nodes node
    by all true is =
        let nothing = found-zero sums nodes are node nodes all is in
        let sum = sums nodes are node is in
        record { raised = omega (arith, sum, nothing); all = nothing; held = held-zero sums nodes are node nodes all }
    by all false is = record { raised = source-none node nodes is; all = total-none node nodes is; held = held-zero sums nodes are node nodes all }

-- where nothing keeps a phase that takes time, its own objection does not stand
own-quiet : (script : ScriptValue) (phase : Phase) (history : List Entry) → is_task phase ≡ true → is_kept script phase history ≡ false → stands (objections_of script phase history) ≡ false
unfolding is_kept
own-quiet script Build history task quiet = cc
own-quiet script Connect history task quiet = cc
own-quiet script EndOfElaboration history task quiet = cc
own-quiet script StartOfSimulation history task quiet = cc
own-quiet script Extract history task quiet = cc
own-quiet script Check history task quiet = cc
own-quiet script Report history task quiet = cc
own-quiet script Final history task quiet = cc
own-quiet script phase history task quiet = (or_parts (stands (objections_of script phase history)) _ quiet).0

-- so none stands where it ends
pub quiet_end : PlacesStay → NodesGrow → TotalIsSum → QuietEnd
quiet_end stay grow sums script later before phase node legal takes =
    let each = older-each script later (End phase ∷ before) legal.each in
    let ending = comes script before (End phase) each.0 in
    let quiet : stands (objections_of script phase before) ≡ false = own-quiet script phase before takes ending.quiet in
    let none : standing (objections_of script phase before) ≡ 0 = grind (arith, nat_tests, quiet) in
    quiet-at sums (objections_of script phase before) (objections-are stay grow phase script before each.1).are_nodes none node
