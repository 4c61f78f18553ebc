-- What the nodes t, t.b, t.a and t.a.x are, how walks go through them, why a node is not added to them, and what is told of each fault.
use Rattle.std.proofs.Common.{◌≡◌, ℕ, zero, suc, List, [], ◌∷◌, ◌++◌, Some, None, refl}
use Rattle.std.specs.Prelude.{codes, true, false, Option, map, replicate}
use Rattle.uvm_glob.specs.Orders.{PathOrder, down_cmp, up_cmp}
use Rattle.uvm_glob.specs.Paths.{path_fault, path_text, names_of}
use Rattle.uvm_tree.specs.declared.nodes.NodeKind.{NodeKind}
use Rattle.uvm_tree.specs.declared.nodes.NodeKind.TheVariants.{Component, Sequencer, Port, Imp}
use Rattle.uvm_tree.specs.declared.faults.TreeFault.TheVariants.{NoParent, NameTaken, TooDeep, Full, Memory}
use Rattle.uvm_tree.specs.Faults.{fault_text}
use Rattle.uvm_tree.specs.Nodes.{Node, top, child, node_at, number_at, parent_of, under_at, add_fault}
use Rattle.uvm_tree.specs.Cursors.{is_before, least, nodes_after}
use Rattle.uvm_tree.specs.Children.{all_children, is_named_before, without}
use Rattle.uvm_tree.specs.Sorted.{path_order}

-- the nodes with one more
abbrev with_child : ℕ → List ℕ → NodeKind → List Node → List Node
with_child parent name kind nodes = nodes ++ child nodes parent name kind ∷ []

-- added in this order
abbrev t : ℕ
t = 1

abbrev b : ℕ
b = 2

abbrev a : ℕ
a = 3

abbrev x : ℕ
x = 4

abbrev small : List Node
small = with_child a (codes "x") Port (with_child t (codes "a") Component (with_child t (codes "b") Sequencer (with_child 0 (codes "t") Component (top ∷ []))))

-- what they are

nodes-have-the-paths-of-their-names : map (λ node. path_text node.path) small ≡ codes "" ∷ codes "t" ∷ codes "t.b" ∷ codes "t.a" ∷ codes "t.a.x" ∷ []
nodes-have-the-paths-of-their-names = refl

nodes-have-the-kinds-that-they-were-added-with : map (λ node. node.kind) small ≡ Component ∷ Component ∷ Sequencer ∷ Component ∷ Port ∷ []
nodes-have-the-kinds-that-they-were-added-with = refl

nodes-have-the-parents-that-they-were-added-under : map parent_of small ≡ None ∷ Some 0 ∷ Some t ∷ Some t ∷ Some a ∷ []
nodes-have-the-parents-that-they-were-added-under = refl

node-has-a-name-under-its-parent : under_at small b ≡ Some (t, codes "b")
node-has-a-name-under-its-parent = refl

missing-node-is-nothing : node_at small 5 ≡ None
missing-node-is-nothing = refl

-- walks

abbrev next_in : PathOrder → Option ℕ → Option ℕ
next_in order after = least (is_before order small) (nodes_after order small after)

walk-down-goes-from-parents-to-children : map (next_in down_cmp) (None ∷ Some t ∷ Some a ∷ Some x ∷ Some b ∷ []) ≡ Some t ∷ Some a ∷ Some x ∷ Some b ∷ None ∷ []
walk-down-goes-from-parents-to-children = refl

walk-up-goes-from-children-to-parents : map (next_in up_cmp) (None ∷ Some x ∷ Some a ∷ Some b ∷ Some t ∷ []) ≡ Some x ∷ Some a ∷ Some b ∷ Some t ∷ None ∷ []
walk-up-goes-from-children-to-parents = refl

top-is-first-in-down-and-last-in-up : next_in down_cmp (Some 0) ∷ next_in up_cmp (Some 0) ∷ [] ≡ Some t ∷ None ∷ []
top-is-first-in-down-and-last-in-up = refl

no-walk-begins-at-a-missing-node : next_in down_cmp (Some 5) ∷ next_in up_cmp (Some 5) ∷ [] ≡ None ∷ None ∷ []
no-walk-begins-at-a-missing-node = refl

path-order-lists-the-nodes-in-down : path_order small ≡ t ∷ a ∷ x ∷ b ∷ []
unfolding path_order
path-order-lists-the-nodes-in-down = refl

parent-comes-before-its-child-in-down-alone : is_before down_cmp small a x ∷ is_before down_cmp small x a ∷ is_before up_cmp small x a ∷ is_before up_cmp small a a ∷ [] ≡ true ∷ false ∷ true ∷ false ∷ []
parent-comes-before-its-child-in-down-alone = refl

nodes-are-found-at-their-paths : map (λ text. number_at small (names_of text)) (codes "" ∷ codes "t" ∷ codes "t.a" ∷ codes "t.a.x" ∷ codes "u" ∷ []) ≡ Some 0 ∷ Some t ∷ Some a ∷ Some x ∷ None ∷ []
nodes-are-found-at-their-paths = refl

-- the child that comes next of some, and those that come one after another, at most as many as a number
abbrev next_of : List ℕ → Option ℕ
next_of left = least (is_named_before small) left

abbrev children_from : ℕ → List ℕ → List (Option ℕ)
children_from zero left = []
children_from (suc n) left = next_of left ∷ children_from n (without (next_of left) left)

children-come-in-the-order-of-their-names : children_from 3 (all_children small t).left ≡ Some a ∷ Some b ∷ None ∷ []
children-come-in-the-order-of-their-names = refl

top-has-one-child : children_from 2 (all_children small 0).left ≡ Some t ∷ None ∷ []
top-has-one-child = refl

node-a-has-one-child : children_from 2 (all_children small a).left ≡ Some x ∷ None ∷ []
node-a-has-one-child = refl

leaf-and-missing-node-have-no-child : next_of (all_children small b).left ∷ next_of (all_children small 5).left ∷ [] ≡ None ∷ None ∷ []
leaf-and-missing-node-have-no-child = refl

-- faults

name-of-a-child-is-taken : add_fault small t (codes "a") ≡ Some NameTaken
unfolding add_fault path_fault
name-of-a-child-is-taken = refl

missing-node-has-no-child : add_fault small 5 (codes "a") ≡ Some NoParent
unfolding add_fault path_fault
missing-node-has-no-child = refl

name-below-another-parent-is-free : add_fault small 0 (codes "a") ≡ None
unfolding add_fault path_fault
name-below-another-parent-is-free = refl

name-that-was-added-is-taken : add_fault (with_child 0 (codes "a") Imp small) 0 (codes "a") ≡ Some NameTaken
unfolding add_fault path_fault
name-that-was-added-is-taken = refl

-- the top, and a node at a path of so many names
abbrev deep : ℕ → List Node
deep names = top ∷ record { under = Some (0, codes "n"); path = replicate names (codes "n"); kind = Component } ∷ []

path-of-33-names-is-too-deep : add_fault (deep 31) 1 (codes "n") ∷ add_fault (deep 32) 1 (codes "n") ∷ [] ≡ None ∷ Some TooDeep ∷ []
unfolding add_fault path_fault
path-of-33-names-is-too-deep = refl

-- texts

no-parent-is-told : fault_text NoParent ≡ codes "no such parent"
no-parent-is-told = refl

taken-name-is-told : fault_text NameTaken ≡ codes "child name taken"
taken-name-is-told = refl

too-deep-is-told : fault_text TooDeep ≡ codes "too deep"
too-deep-is-told = refl

full-is-told : fault_text Full ≡ codes "too many nodes"
full-is-told = refl

memory-is-told : fault_text Memory ≡ codes "out of memory"
memory-is-told = refl
