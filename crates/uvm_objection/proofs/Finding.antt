-- What is found of a node.
use Rattle.uvm_objection.proofs.Common.{◌≡◌, ℕ, Bool, nat_eq, true, false, ◌==◌, List, [], ◌∷◌, map, find, get_or, Some, None, refl, sym, ap, subst, ◌∙◌, get, Entry, Inside, Node, is_known, total, node_of, shape, IsObjection, place_in}
use Rattle.uvm_objection.proofs.Sums.{Agree, agree, add_up}
use Rattle.uvm_objection.proofs.Objecting.{entries_of}
use Rattle.uvm_objection.proofs.Trees.{Differs, distinct_of, other_node, true_node}
use Rattle.uvm_objection.proofs.Places.{find_at, not_top, none_there}
use Rattle.uvm_objection.proofs.Passing.{append-nil}

some_same : (e f : Entry) → Some f ≡ Some e → f ≡ e
some_same e f is = cc

found_test : (node : ℕ) (f : Entry) (newer : List Entry) (e : Entry) (b : Bool) → (f.node == node) ≡ b → find (λ g. g.node == node) (f ∷ newer) ≡ Some e → (find (λ g. g.node == node) newer ≡ Some e → find (λ g. g.node == node) (map node_of newer) ≡ Some (node_of e)) → find (λ g. g.node == node) (map node_of (f ∷ newer)) ≡ Some (node_of e)
found_test node f newer e true here is rest =
    let first = rw here at is in
    rw here (ap (λ g. Some (node_of g)) (some_same e f first))
found_test node f newer e false here is rest = let later = rw here at is in rw here (rest later)

pub found_node : (node : ℕ) (es : List Entry) (e : Entry) → find (λ f. f.node == node) es ≡ Some e → find (λ f. f.node == node) (map node_of es) ≡ Some (node_of e)
found_node node [] e is = cc
found_node node (f ∷ newer) e is = found_test node f newer e (f.node == node) refl is (found_node node newer e)

total_test : (node : ℕ) (nodes : List Node) (f : Entry) (newer : List Entry) (e : Entry) (b : Bool) → (f.node == node) ≡ b → total nodes f.node ≡ f.total → find (λ g. g.node == node) (f ∷ newer) ≡ Some e → (find (λ g. g.node == node) newer ≡ Some e → e.total ≡ total nodes node) → e.total ≡ total nodes node
total_test node nodes f newer e true here own is rest =
    let first = rw here at is in
    ap (λ g. g.total) (sym (some_same e f first)) ∙ sym own ∙ ap (total nodes) (sym (sym (true_node f.node node here)))
total_test node nodes f newer e false here own is rest = let later = rw here at is in rest later

found_total : (node : ℕ) (nodes : List Node) (es : List Entry) (e : Entry) → Agree nodes es → find (λ f. f.node == node) es ≡ Some e → e.total ≡ total nodes node
found_total node nodes [] e agree is = cc
found_total node nodes (f ∷ newer) e agree is = total_test node nodes f newer e (f.node == node) refl agree.0 is (found_total node nodes newer e agree.1)

pub found_kept : (o : Inside) (node : ℕ) (e : Entry) → IsObjection o → find (λ f. f.node == node) (entries_of o) ≡ Some e → e.total ≡ total (map node_of (entries_of o)) node
found_kept o node e kept is =
    found_total node (map node_of (entries_of o)) (entries_of o) e (let apart = distinct_of (entries_of o) kept.tree in agree (entries_of o) apart (add_up (entries_of o) apart kept.kept)) is

-- what stands at the place of a node, if it has one, and else the top
pub found_at : (o : Inside) (node place : ℕ) (e : Entry) → IsObjection o → Some place ≡ get nat_eq o.places node → e ≡ get_or o.entries.items place e → find (λ f. f.node == node) (entries_of o) ≡ Some e
found_at o node place e keeps given read =
    let is = sym (keeps.placed node) ∙ sym given in
    rw (not_top o.top o.entries.items keeps.tree node place is) (find_at node o.entries.items place e is read)

known_first : (node : ℕ) (f : Entry) (newer : List Entry) (b : Bool) → (f.node == node) ≡ b → is_known node (map node_of newer) ≡ false → is_known node (map node_of (f ∷ newer)) ≡ true → find (λ g. g.node == node) (f ∷ newer) ≡ Some f
known_first node f newer true here none known = rw here refl
known_first node f newer false here none known = let bad = rw (here, none) at known in cc

unknown_all : (node : ℕ) (es : List Entry) → Differs node es → is_known node (map node_of es) ≡ false
unknown_all node [] apart = refl
unknown_all node (e ∷ es) apart = rw (other_node e.node node apart.0) (unknown_all node es apart.1)

pub found_top : (o : Inside) (node : ℕ) → IsObjection o → None ≡ get nat_eq o.places node → is_known node (map node_of (entries_of o)) ≡ true → find (λ f. f.node == node) (entries_of o) ≡ Some o.top
found_top o node keeps given known =
    let none = sym (keeps.placed node) ∙ sym given in
    let N : List Entry → Type 0 = λ l. place_in node (shape l) ≡ None in
    known_first node o.top o.entries.items (o.top.node == node) refl (unknown_all node o.entries.items (none_there node o.entries.items [] (subst N (append-nil o.entries.items) none))) known
