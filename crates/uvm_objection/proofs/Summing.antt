-- The total of a node is its source with what its children pass up.
use Rattle.uvm_objection.proofs.Common.{◌≡◌, ℕ, ◌+◌, Bool, true, false, ◌||◌, ◌==◌, List, [], ◌∷◌, filter, Option, Some, None, refl, sym, ap, ◌∙◌, subst, sum_by, option_map_or, sum_by-cons, Node, is_known, source_of, total, is_child, places, IsNew, AreUnder, TotalIsSum, PositiveTotalHoldsNothing}
use Rattle.uvm_objection.proofs.Trees.{same_node, other_node, true_node}

-- what the children of a node pass up, by the totals of some nodes
abbrev brought : List Node → ℕ → List Node → ℕ
brought nodes node some = sum_by (λ child. total nodes child.node + child.held) (filter (is_child node) some)

absent : (node : ℕ) (nodes : List Node) → IsNew node (places nodes) → is_known node nodes ≡ true → ⊥
absent node [] new is = cc
absent node (e ∷ newer) new is = by_test (e.node == node) refl is (absent node newer new.1)
  where
    by_test : (b : Bool) → (e.node == node) ≡ b → (b || is_known node newer) ≡ true → (is_known node newer ≡ true → ⊥) → ⊥
    by_test true here is rest = new.0 (true_node e.node node here)
    by_test false here is rest = rest is

not_child : (above : Option ℕ) (known : ℕ → Bool) (node : ℕ) → option_map_or known above false ≡ true → (known node ≡ true → ⊥) → option_map_or (λ p. p == node) above false ≡ false
not_child None known node is never = refl
not_child (Some p) known node is never = by_test (p == node) refl
  where
    by_test : (b : Bool) → (p == node) ≡ b → b ≡ false
    by_test true same = absurd (never (ap known (sym (true_node p node same)) ∙ is))
    by_test false same = refl

brought_later : (e : Node) (nodes : List Node) (node : ℕ) (some : List Node) → IsNew e.node (places some) → brought (e ∷ nodes) node some ≡ brought nodes node some
brought_later e nodes node [] new = refl
brought_later e nodes node (f ∷ some) new = by_test (is_child node f) refl (brought_later e nodes node some new.1)
  where
    other : total (e ∷ nodes) f.node ≡ total nodes f.node
    other = rw (other_node e.node f.node (λ same. new.0 (sym same))) refl

    by_test : (b : Bool) → is_child node f ≡ b → brought (e ∷ nodes) node some ≡ brought nodes node some → brought (e ∷ nodes) node (f ∷ some) ≡ brought nodes node (f ∷ some)
    by_test true child rest =
        rw child
        (sum_by-cons (λ c. total (e ∷ nodes) c.node + c.held) f (filter (is_child node) some)
        ∙ ap (λ t. t + f.held + brought (e ∷ nodes) node some) other
        ∙ ap (λ n. total nodes f.node + f.held + n) rest
        ∙ sym (sum_by-cons (λ c. total nodes c.node + c.held) f (filter (is_child node) some)))
    by_test false child rest = rw child rest

sum_step : (e : Node) (newer : List Node) (node : ℕ) → is_child node e ≡ false → IsNew e.node (places newer) → is_known node (e ∷ newer) ≡ true → (is_known node newer ≡ true → total newer node ≡ source_of node newer + brought newer node newer) → total (e ∷ newer) node ≡ source_of node (e ∷ newer) + brought (e ∷ newer) node (e ∷ newer)
sum_step e newer node child new is rest = by_test (e.node == node) refl is
  where
    below : brought (e ∷ newer) node (e ∷ newer) ≡ brought newer node newer
    below = rw child (brought_later e newer node newer new)

    by_test : (b : Bool) → (e.node == node) ≡ b → (b || is_known node newer) ≡ true → total (e ∷ newer) node ≡ source_of node (e ∷ newer) + brought (e ∷ newer) node (e ∷ newer)
    by_test true here is = ap (λ k. total (e ∷ newer) k) (sym (true_node e.node node here)) ∙ own ∙ ap (λ n. e.source + n) (ap (λ k. brought newer k newer) (true_node e.node node here) ∙ sym below) ∙ ap (λ n. n + brought (e ∷ newer) node (e ∷ newer)) (rw here refl)
      where
        own : total (e ∷ newer) e.node ≡ e.source + brought newer e.node newer
        own = rw (same_node e.node) refl
    by_test false here is = (rw here (rest is)) ∙ ap (λ n. source_of node newer + n) (sym below) ∙ ap (λ n. n + brought (e ∷ newer) node (e ∷ newer)) (rw here refl)

sum_at : (known : ℕ → Bool) (nodes : List Node) → AreUnder known (places nodes) → ((k : ℕ) → known k ≡ true → IsNew k (places nodes)) → (node : ℕ) → is_known node nodes ≡ true → total nodes node ≡ source_of node nodes + brought nodes node nodes
sum_at known [] under low node is = cc
sum_at known (e ∷ newer) under low node is =
    let seen : ℕ → Bool = λ k. (e.node == k) || known k in
    sum_step e newer node (not_child e.parent known node under.0 (λ h. absent node (e ∷ newer) (low node h) is)) under.1 is (sum_at seen newer under.2 (λ k h. new_to (e.node == k) k refl h) node)
  where
    new_to : (b : Bool) (k : ℕ) → (e.node == k) ≡ b → (b || known k) ≡ true → IsNew k (places newer)
    new_to true k here h = let N : ℕ → Type 0 = λ n. IsNew n (places newer) in subst N (true_node e.node k here) under.1
    new_to false k here h = (low k h).1

pub total_is_sum : TotalIsSum
total_is_sum [] are node is = absurd are.tree
total_is_sum (e ∷ newer) are node is =
    let known : ℕ → Bool = λ k. e.node == k in
    let child : is_child node e ≡ false = ap (λ above. option_map_or (λ p. p == node) above false) are.tree.1 in
    let N : ℕ → Type 0 = λ n. IsNew n (places newer) in
    sum_step e newer node child are.tree.2 is (sum_at known newer are.tree.3 (λ k h. subst N (true_node e.node k h) are.tree.2) node)

pub positive_total_holds_nothing : PositiveTotalHoldsNothing
positive_total_holds_nothing nodes are node some = are.positive node some
