-- The objections of a log with one more entry.
use Rattle.world_state.proofs.Common.{◌≡◌, ◌≤◌, ◌<◌, ◌||◌, ◌==◌, ℕ, suc, zero, Bool, true, false, nat_lt, List, [], ◌∷◌, ◌++◌, length, refl, ap, sym, ◌∙◌, arith, length-append, nat_tests, length-map, is_known, top, new_node, with_drain, places, AreNodes, PlacesStay, NodesGrow, GrowsBy, with_new, AreNumbered, IsObjecting}
use Rattle.uvm_objection.specs.Nodes as objection

-- the top alone
pub objecting-first : (kept : List objection.Node) → AreNodes (top ∷ []) → kept ≡ top ∷ [] → IsObjecting (top ∷ []) 1 0 kept
objecting-first kept nodes is = record { are = is; numbered = numbered; count_is = refl; are_nodes = nodes; few = omega arith }
  where
    numbered : AreNumbered (top ∷ []) 1
    numbered zero = refl
    numbered (suc node) = grind (arith, nat_tests)

-- one more entry that changes none
pub objecting-later : {nodes : List objection.Node} {count entries : ℕ} {kept : List objection.Node} → IsObjecting nodes count entries kept → IsObjecting nodes count (suc entries) kept
objecting-later o = record { are = o.are; numbered = o.numbered; count_is = o.count_is; are_nodes = o.are_nodes; few = omega (arith, o.few) }

known-more : (nodes : List objection.Node) (node other parent : ℕ) → is_known node (nodes ++ new_node other parent ∷ []) ≡ (is_known node nodes || (other == node))
known-more [] node other parent = or-false (other == node)
  where
    or-false : (b : Bool) → (b || false) ≡ b
    or-false true = refl
    or-false false = refl
known-more (e ∷ nodes) node other parent = tested (e.node == node) _ _ _ (known-more nodes node other parent)
  where
    tested : (b x y z : Bool) → x ≡ (y || z) → (b || x) ≡ ((b || y) || z)
    tested true x y z e = refl
    tested false x y z e = e

below-more : (node count : ℕ) → (nat_lt node count || (count == node)) ≡ nat_lt node (suc count)
below-more node count = grind (arith, nat_tests)

-- one more node
pub objecting-more :
    {nodes : List objection.Node} {count entries more : ℕ} {old : List objection.Node} (new : List objection.Node) (parent : ℕ) → NodesGrow → parent < count → IsObjecting nodes count entries old → more ≡ suc count
    → new ≡ nodes ++ new_node count parent ∷ []
    → IsObjecting (nodes ++ new_node (length nodes) parent ∷ []) more (suc entries) new
objecting-more {nodes} {count} new parent grow below o is added =
    let unknown : is_known count nodes ≡ false = o.numbered count ∙ grind (arith, nat_tests) in
    let above : is_known parent nodes ≡ true = o.numbered parent ∙ grind (arith, nat_tests, below) in
    let grown = (grow.1 nodes o.are_nodes).added count parent unknown above in
    rw (o.count_is, is) (record {
      are = added;
      numbered = λ node. known-more nodes node count parent ∙ ap (λ b. b || (count == node)) (o.numbered node) ∙ below-more node count;
      count_is = length-append nodes (new_node count parent ∷ []) ∙ omega (arith, o.count_is);
      are_nodes = grown.nodes;
      few = omega (arith, o.few, grown.most);
    })

-- with its drain time
pub objecting-made :
    {nodes : List objection.Node} {count entries more : ℕ} {old : List objection.Node} (new : List objection.Node) (parent drain : ℕ) → PlacesStay → NodesGrow → parent < count → IsObjecting nodes count entries old → more ≡ suc count
    → new ≡ with_drain count drain (nodes ++ new_node count parent ∷ []) → IsObjecting (with_new parent drain nodes) more (suc entries) new
objecting-made {nodes} {count} new parent drain stay grow below o is made =
    let whole = nodes ++ new_node (length nodes) parent ∷ [] in
    let added = objecting-more whole parent grow below o is (ap (λ (n : ℕ). nodes ++ new_node n parent ∷ []) o.count_is) in
    let same = stay.with_drain (length nodes) drain whole in
    let changed = (grow.1 whole added.are_nodes).with_drain (length nodes) drain in
    record {
      are = made ∙ ap (λ (n : ℕ). with_drain n drain (nodes ++ new_node n parent ∷ [])) (sym o.count_is);
      numbered = λ node. stay.known node whole (with_drain (length nodes) drain whole) same ∙ added.numbered node;
      count_is = length-map whole _ ∙ added.count_is;
      are_nodes = changed.nodes;
      few = omega (arith, added.few, changed.most);
    }

-- more is raised at a node, or some is dropped: the nodes stand where they stood
pub objecting-changed :
    {nodes : List objection.Node} {count entries : ℕ} {old : List objection.Node} (new : List objection.Node) (others : List objection.Node) → PlacesStay → places others ≡ places nodes
    → IsObjecting nodes count entries old → new ≡ others → (raised : ℕ) → raised ≤ 65535 → GrowsBy raised nodes others → IsObjecting others count (suc entries) new
objecting-changed {nodes} new others stay same o is raised low grown = record {
  are = is;
  numbered = λ node. stay.known node nodes others same ∙ o.numbered node;
  count_is = sym (length-map others _) ∙ ap length same ∙ length-map nodes _ ∙ o.count_is;
  are_nodes = grown.nodes;
  few = omega (arith, o.few, grown.most, low);
}

-- what has the same nodes is as good
pub objecting-same : {nodes : List objection.Node} {count entries : ℕ} {old : List objection.Node} (new : List objection.Node) → new ≡ old → IsObjecting nodes count entries old → IsObjecting nodes count entries new
objecting-same new same o = record { are = same ∙ o.are; numbered = o.numbered; count_is = o.count_is; are_nodes = o.are_nodes; few = o.few }
