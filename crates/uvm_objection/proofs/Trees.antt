-- Nodes that stand once each, and no total of which is over that of the top.
use Rattle.uvm_objection.proofs.Common.{◌≡◌, ◌≢◌, ◌≤◌, ℕ, ◌+◌, Bool, true, false, ◌||◌, ◌==◌, List, [], ◌∷◌, Option, Some, None, refl, subst, arith, option_map_or, nat_tests, Entry, IsNew, AreUnder, IsTree, shape}
use Rattle.uvm_objection.proofs.Passed.{is_under, passed, when, AddUp}

-- a node is none of these
abbrev pub Differs : ℕ → List Entry → Type 0
Differs node [] = Unit {0}
Differs node (e ∷ newer) = (e.node ≢ node) × Differs node newer

-- each of these is another node
abbrev pub Distinct : List Entry → Type 0
Distinct [] = Unit {0}
Distinct (e ∷ newer) = Differs e.node newer × Distinct newer

pub same_node : (n : ℕ) → (n == n) ≡ true
same_node n = grind (arith, nat_tests)

pub other_node : (m n : ℕ) → m ≢ n → (m == n) ≡ false
other_node m n h = grind (arith, nat_tests)

pub true_node : (m n : ℕ) → (m == n) ≡ true → m ≡ n
true_node m n h = grind (arith, nat_tests)

pub differs_of : (k : ℕ) (es : List Entry) → IsNew k (shape es) → Differs k es
differs_of k [] apart = tt
differs_of k (e ∷ newer) apart = (apart.0, differs_of k newer apart.1)

distinct_under : (known : ℕ → Bool) (es : List Entry) → AreUnder known (shape es) → Distinct es
distinct_under known [] under = tt
distinct_under known (e ∷ newer) under =
    let seen : ℕ → Bool = λ node. (e.node == node) || known node in
    (differs_of e.node newer under.1, distinct_under seen newer under.2)

pub distinct_of : (es : List Entry) → IsTree (shape es) → Distinct es
distinct_of [] tree = absurd tree
distinct_of (e ∷ newer) tree =
    let seen : ℕ → Bool = λ node. e.node == node in
    (differs_of e.node newer tree.2, distinct_under seen newer tree.3)

-- no total is over a number
abbrev pub Under : ℕ → List Entry → Type 0
Under m [] = Unit {0}
Under m (e ∷ newer) = (e.total ≤ m) × Under m newer

own_part : (o : Option ℕ) (known : ℕ → Bool) (n m : ℕ) (rest : ℕ → ℕ) → option_map_or known o false ≡ true → ((k : ℕ) → known k ≡ true → when (option_map_or (λ above. above == k) o false) n + rest k ≤ m) → n ≤ m
own_part None known n m rest is low = cc
own_part (Some p) known n m rest is low = let own = rw (same_node p) at (low p is) in omega arith

rest_low : (b : Bool) (a r m : ℕ) → when b a + r ≤ m → r ≤ m
rest_low true a r m low = omega arith
rest_low false a r m low = omega arith

seen_low : (e : Entry) (newer : List Entry) (known : ℕ → Bool) (m k : ℕ) (b : Bool) → (e.node == k) ≡ b → ((b || known k) ≡ true) → passed newer e.node ≤ m → (known k ≡ true → passed (e ∷ newer) k ≤ m) → passed newer k ≤ m
seen_low e newer known m k true is seen own low =
    let Low : ℕ → Type 0 = λ n. passed newer n ≤ m in
    subst Low (true_node e.node k is) own
seen_low e newer known m k false is seen own low = rest_low (is_under e k) (e.total + e.held) (passed newer k) m (low seen)

under_from : (known : ℕ → Bool) (m : ℕ) (es : List Entry) → ((k : ℕ) → known k ≡ true → passed es k ≤ m) → AreUnder known (shape es) → AddUp es → Under m es
under_from known m [] low under kept = tt
under_from known m (e ∷ newer) low under kept =
    let both : e.total + e.held ≤ m = own_part e.parent known (e.total + e.held) m (passed newer) under.0 low in
    let is = kept.0 in
    let seen : ℕ → Bool = λ node. (e.node == node) || known node in
    (omega (arith, both), under_from seen m newer (λ k h. seen_low e newer known m k (e.node == k) refl h (omega (arith, both, is)) (low k)) under.2 kept.3)

pub under_top : (e : Entry) (newer : List Entry) → IsTree (shape (e ∷ newer)) → AddUp (e ∷ newer) → Under e.total (e ∷ newer)
under_top e newer tree kept =
    let is = kept.0 in
    let seen : ℕ → Bool = λ node. e.node == node in
    let Low : ℕ → Type 0 = λ n. passed newer n ≤ e.total in
    let own : passed newer e.node ≤ e.total = omega (arith, is) in
    (omega arith, under_from seen e.total newer (λ k h. subst Low (true_node e.node k h) own) tree.3 kept.3)
