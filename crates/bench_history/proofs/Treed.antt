-- The nodes that a log comes to are those of a tree.
use Rattle.bench_history.proofs.Common.{◌≡◌, Bool, not, List, [], ◌∷◌, Option, Some, None, refl, ℕ, first_given, fault_if, Component, TreeFault, NameTaken, add_fault, node_of, Who, What, Act, Add, Fatal, CreatedAfterBuild, NotOpen, Outcome, Done, Made, Entry, Did, ScriptValue, created_name, is_built, kind_of, nodes_of, nodes_after, performer_of, addition_refusal, child_refusal, fatal_of, is_open_to, Effect, ComesTo, unless_refused, permitted_effect, IsNext, NodesAreATree, Node}
use Rattle.uvm_tree.specs.Nodes.{AreNodes, NodesGrow}
use Rattle.bench_history.proofs.Inversion.{comes}
use Rattle.bench_history.proofs.Needed.{comes-to, made-in}

-- where no child is refused nothing is wrong with it
pub no-fault : (fault : Option TreeFault) → fatal_of fault ≡ None → fault ≡ None
no-fault None e = refl
no-fault (Some NameTaken) e = cc
no-fault (Some fault) e = cc

-- an object that is made is a child that is not refused
pub made-free : (script : ScriptValue) (before : List Entry) (performer : Who) (type_name : List ℕ) (act : Act) → IsNext script before (Did performer (Made type_name) act) → child_refusal (nodes_of before) (node_of performer) (created_name act) ≡ None
made-free script before performer type_name act next = rw (comes script before (Did performer (Made type_name) act) next).performer_is (made-in script before performer (Made type_name) act (λ none. none) next).1.free

-- where an addition is not refused its child is not
second-not : (first second : Option Fatal) → first_given (first ∷ second ∷ []) ≡ None → second ≡ None
second-not (Some fatal) second e = cc
second-not None (Some fatal) e = cc
second-not None None e = refl

free-below : (built : Bool) (nodes : List Node) (parent : ℕ) (name : List ℕ) → addition_refusal built nodes parent name ≡ None → child_refusal nodes parent name ≡ None
unfolding addition_refusal
free-below built nodes parent name e = second-not (fault_if built CreatedAfterBuild) (child_refusal nodes parent name) e

-- an act that is done is not refused
does-of : (refusal : Option Fatal) (effect : Effect) → unless_refused refusal effect ≡ ComesTo Done → effect ≡ ComesTo Done
does-of None effect e = e
does-of (Some fatal) effect e = cc

not-refused : (refusal : Option Fatal) → unless_refused refusal (ComesTo Done) ≡ ComesTo Done → refusal ≡ None
not-refused None e = refl
not-refused (Some fatal) e = cc

pub added-next : (script : ScriptValue) (before : List Entry) (performer : Who) (name : List ℕ) (what : What) → IsNext script before (Did performer Done (Add name what)) → child_refusal (nodes_of before) (node_of performer) name ≡ None
added-next script before performer name what next =
    let who = performer_of before in
    rw (comes script before (Did performer Done (Add name what)) next).performer_is
    (free-below (is_built before) (nodes_of before) (node_of who) name
    (not-refused (addition_refusal (is_built before) (nodes_of before) (node_of who) name)
    (does-of (fault_if (not (is_open_to (Add name what) who)) NotOpen) (permitted_effect script before who (Add name what)) (comes-to script before performer Done (Add name what) (λ same. cc) (λ need makes. makes) next))))

module _ (grow : NodesGrow) where
  -- so that one more entry leaves a tree
  tree-did : (script : ScriptValue) (before : List Entry) (performer : Who) (outcome : Outcome) (act : Act) → IsNext script before (Did performer outcome act) → AreNodes (nodes_of before) → AreNodes (nodes_after (nodes_of before) performer outcome act)
  tree-did script before performer (Made type_name) act next are =
      grow.added (nodes_of before) (node_of performer) (created_name act) Component are
      (no-fault (add_fault (nodes_of before) (node_of performer) (created_name act)) (made-free script before performer type_name act next))
  tree-did script before performer Done (Add name what) next are =
      grow.added (nodes_of before) (node_of performer) name (kind_of what) are
      (no-fault (add_fault (nodes_of before) (node_of performer) name) (added-next script before performer name what next))
  tree-did script before performer outcome act next are = are

  tree-more : (script : ScriptValue) (before : List Entry) (entry : Entry) → IsNext script before entry → AreNodes (nodes_of before) → AreNodes (nodes_of (entry ∷ before))
  tree-more script before (Did performer outcome act) next are = tree-did script before performer outcome act next are
  tree-more script before entry next are = are

  pub nodes_are_a_tree : NodesAreATree
  nodes_are_a_tree script [] each = grow.begins
  nodes_are_a_tree script (entry ∷ before) each = tree-more script before entry each.0 (nodes_are_a_tree script before each.1)
