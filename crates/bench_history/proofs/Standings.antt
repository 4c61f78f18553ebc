-- The components are the nodes of this kind.
use Rattle.bench_history.proofs.Common.{◌≡◌, ◌<◌, ℕ, suc, List, [], ◌∷◌, ◌++◌, length, Some, option_map, refl, ap, sym, ◌∙◌, inl, inr, arith, subst, cases_lt, All-nil, All-push, All-weaker, Contains-append_left, Contains-push, node_at, NodeKind, Act, Add, What, Who, Outcome, Made, Done, Entry, Did, nodes_of, components_of, kind_of, AreComponentNodes, ComponentsByKind, IsComponentNode, length-append, Node}
use Rattle.std.proofs.Common.{Contains}
use Rattle.uvm_tree.specs.declared.nodes.NodeKind.TheVariants as kind
use Rattle.uvm_acts.specs.declared.acts.What.TheVariants as what
use Rattle.bench_history.proofs.Asking.{get-before}
use Rattle.bench_history.proofs.Grown.{get-behind, nodes-more}

-- nodes are there at any time, the top among them
some-nodes : (history : List Entry) → 0 < length (nodes_of history)
some-nodes [] = omega arith
some-nodes (entry ∷ before) = let more = nodes-more entry before in omega (arith, more, some-nodes before)

module _ (nodes : List Node) (x : Node) where
  longer : length (nodes ++ x ∷ []) ≡ suc (length nodes)
  longer = omega (arith, length-append nodes (x ∷ []))

  kind-before : (n : ℕ) → n < length nodes → option_map (λ node. node.kind) (node_at (nodes ++ x ∷ []) n) ≡ option_map (λ node. node.kind) (node_at nodes n)
  kind-before n lt = ap (option_map (λ node. node.kind)) (get-before nodes (x ∷ []) n lt)

  kind-behind : option_map (λ node. node.kind) (node_at (nodes ++ x ∷ []) (length nodes)) ≡ Some x.kind
  kind-behind = ap (option_map (λ node. node.kind)) (get-behind nodes x)

  kept : (n : ℕ) → IsComponentNode nodes n → IsComponentNode (nodes ++ x ∷ []) n
  kept n is = (is.0, omega (arith, longer, is.1), kind-before n is.1 ∙ is.2)

  was : (n : ℕ) → n < length nodes → IsComponentNode (nodes ++ x ∷ []) n → IsComponentNode nodes n
  was n lt is = (is.0, lt, sym (kind-before n lt) ∙ is.2)

  -- one component more
  with-component : (components : List ℕ) → 0 < length nodes → x.kind ≡ kind.Component → AreComponentNodes nodes components → AreComponentNodes (nodes ++ x ∷ []) (components ++ length nodes ∷ [])
  with-component components some is a = record {
    each = All-push (IsComponentNode (nodes ++ x ∷ [])) components (length nodes) (All-weaker (IsComponentNode nodes) (IsComponentNode (nodes ++ x ∷ [])) kept components a.each) (some, omega (arith, longer), kind-behind ∙ ap (λ (k : NodeKind). Some k) is);
    whole = λ n one.
        elim (cases_lt n (length nodes)) [
          | inl lt ↦ Contains-append_left components (length nodes ∷ []) n (a.whole n (was n lt one))
          | inr ge ↦ (let same : length nodes ≡ n = omega (arith, longer, ge, one.1) in subst (λ (m : ℕ). Contains (components ++ length nodes ∷ []) m) same (Contains-push components (length nodes)))
        ];
  }

  -- or a node of another kind
  with-other : (components : List ℕ) → (x.kind ≡ kind.Component → ⊥) → AreComponentNodes nodes components → AreComponentNodes (nodes ++ x ∷ []) components
  with-other components other a = record {
    each = All-weaker (IsComponentNode nodes) (IsComponentNode (nodes ++ x ∷ [])) kept components a.each;
    whole = λ n one.
        elim (cases_lt n (length nodes)) [
          | inl lt ↦ a.whole n (was n lt one)
          | inr ge ↦ (let same : length nodes ≡ n = omega (arith, longer, ge, one.1) in absurd (other (let is : Some x.kind ≡ Some kind.Component = sym kind-behind ∙ ap (λ m. option_map (λ node. node.kind) (node_at (nodes ++ x ∷ []) m)) same ∙ one.2 in cc)))
        ];
  }

-- nothing that is added is a component
added-other : (added : What) → kind_of added ≡ kind.Component → ⊥
added-other (what.Sequencer mode) e = cc
added-other (what.Fifo size) e = cc
added-other (what.Port port) e = cc
added-other (what.Export port) e = cc
added-other what.Imp e = cc

by-act_entry : (before : List Entry) (performer : Who) (outcome : Outcome) (act : Act) → AreComponentNodes (nodes_of before) (components_of before) → AreComponentNodes (nodes_of (Did performer outcome act ∷ before)) (components_of (Did performer outcome act ∷ before))
by-act_entry before performer (Made type_name) act a = with-component (nodes_of before) _ (components_of before) (some-nodes before) refl a
by-act_entry before performer Done (Add name added) a = with-other (nodes_of before) _ (components_of before) (added-other added) a
by-act_entry before performer Done act a = a
by-act_entry before performer outcome act a = a

pub components_by_kind : ComponentsByKind
components_by_kind [] = record { each = All-nil (IsComponentNode (nodes_of [])); whole = λ n one. absurd (let low = one.0 in let high = one.1 in omega arith) }
components_by_kind (Did performer outcome act ∷ before) = by-act_entry before performer outcome act (components_by_kind before)
components_by_kind (entry ∷ before) = components_by_kind before
