-- Totals from scratch, and those that are kept.
use Rattle.uvm_objection.proofs.Common.{◌≡◌, ◌≢◌, ℕ, ◌+◌, Bool, true, false, List, [], ◌∷◌, map, filter, refl, sym, ap, ◌∙◌, arith, sum_by-cons, sum_by, Entry, Node, total, is_child, node_of, IsConsistent}
use Rattle.uvm_objection.proofs.Passed.{is_under, passed, AddUp}
use Rattle.uvm_objection.proofs.Trees.{Differs, Distinct, same_node, other_node}

-- the totals from scratch are those that are kept
abbrev pub Agree : List Node → List Entry → Type 0
Agree nodes [] = Unit {0}
Agree nodes (e ∷ newer) = (total nodes e.node ≡ e.total) × Agree nodes newer

pub own_total : (n : Node) (newer : List Node) → total (n ∷ newer) n.node ≡ n.source + sum_by (λ child. total newer child.node + child.held) (filter (is_child n.node) newer)
own_total n newer = rw (same_node n.node) refl

sum-test : (nodes : List Node) (k : ℕ) (e : Entry) (newer : List Entry) (b : Bool) → is_under e k ≡ b → total nodes e.node ≡ e.total → sum_by (λ child. total nodes child.node + child.held) (filter (is_child k) (map node_of newer)) ≡ passed newer k → sum_by (λ child. total nodes child.node + child.held) (filter (is_child k) (map node_of (e ∷ newer))) ≡ passed (e ∷ newer) k
sum-test nodes k e newer true b here rest =
    rw b (sum_by-cons (λ child. total nodes child.node + child.held) (node_of e) (filter (is_child k) (map node_of newer)) ∙ rw (here, rest) refl)
sum-test nodes k e newer false b here rest = rw b (rest ∙ omega arith)

-- what is passed up, from scratch
pub passed_sum : (nodes : List Node) (k : ℕ) (es : List Entry) → Agree nodes es → sum_by (λ child. total nodes child.node + child.held) (filter (is_child k) (map node_of es)) ≡ passed es k
passed_sum nodes k [] agree = refl
passed_sum nodes k (e ∷ newer) agree = sum-test nodes k e newer (is_under e k) refl agree.0 (passed_sum nodes k newer agree.1)

agree_later : (n : Node) (nodes : List Node) (es : List Entry) → Differs n.node es → Agree nodes es → Agree (n ∷ nodes) es
agree_later n nodes [] apart agree = tt
agree_later n nodes (e ∷ newer) apart agree =
    let differ : n.node ≢ e.node = λ h. apart.0 (sym h) in
    (rw (other_node n.node e.node differ) agree.0, agree_later n nodes newer apart.1 agree.1)

-- the total of a node before which all is kept
pub first_total : (e : Entry) (newer : List Entry) → Agree (map node_of newer) newer → total (map node_of (e ∷ newer)) e.node ≡ e.source + passed newer e.node
first_total e newer agree = own_total (node_of e) (map node_of newer) ∙ ap (λ n. e.source + n) (passed_sum (map node_of newer) e.node newer agree)

pub agree : (es : List Entry) → Distinct es → AddUp es → Agree (map node_of es) es
agree [] apart kept = tt
agree (e ∷ newer) apart kept =
    let rest = agree newer apart.1 kept.3 in
    (first_total e newer rest ∙ sym kept.0, agree_later (node_of e) (map node_of newer) newer apart.0 rest)

-- the totals that are kept add up, and totals that add up are those from scratch
pub add_up : (es : List Entry) → Distinct es → IsConsistent es → AddUp es
add_up [] apart kept = tt
add_up (e ∷ newer) apart kept =
    let rest = add_up newer apart.1 kept.3 in
    (kept.0 ∙ first_total e newer (agree newer apart.1 rest), kept.1, kept.2, rest)

pub kept_of : (es : List Entry) → Distinct es → AddUp es → IsConsistent es
kept_of [] apart sums = tt
kept_of (e ∷ newer) apart sums = (sums.0 ∙ sym (first_total e newer (agree newer apart.1 sums.3)), sums.1, sums.2, kept_of newer apart.1 sums.3)
