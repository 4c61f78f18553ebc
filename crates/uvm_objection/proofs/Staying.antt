-- No call moves a node.
use Rattle.uvm_objection.proofs.Common.{◌≡◌, ℕ, Bool, true, false, ◌==◌, ◌+◌, ◌-◌, ◌||◌, List, [], ◌∷◌, Option, refl, ap, ◌∙◌, sym, if◌then◌else◌, list_any, map-append, Node, new_node, is_known, changed_at, settled, places, PlacesStay}

abbrev place_of : Node → ℕ × Option ℕ
place_of n = (n.node, n.parent)

stays : (b : Bool) (change : Node → Node) (e : Node) → ((n : Node) → place_of (change n) ≡ place_of n) → place_of (if b then change e else e) ≡ place_of e
stays true change e same = same e
stays false change e same = refl

changed_stay : (node : ℕ) (change : Node → Node) → ((n : Node) → place_of (change n) ≡ place_of n) → (nodes : List Node) → places (changed_at node change nodes) ≡ places nodes
changed_stay node change same [] = refl
changed_stay node change same (e ∷ newer) =
    ap (λ p. p ∷ places (changed_at node change newer)) (stays (node == e.node) change e same)
    ∙ ap (λ ps. place_of e ∷ ps) (changed_stay node change same newer)

settled_stay : (time : ℕ) (before : ℕ → ℕ) (nodes : List Node) → places (settled time before nodes) ≡ places nodes
settled_stay time before [] = refl
settled_stay time before (e ∷ newer) = ap (λ ps. (e.node, e.parent) ∷ ps) (settled_stay time before newer)

known_at : (node : ℕ) (nodes : List Node) → is_known node nodes ≡ list_any (λ (p : ℕ × Option ℕ). p.0 == node) (places nodes)
known_at node [] = refl
known_at node (e ∷ newer) = ap (λ b. (e.node == node) || b) (known_at node newer)

pub places_stay : PlacesStay
places_stay = record {
  added = λ node parent nodes. map-append place_of nodes (new_node node parent ∷ []);
  settled = settled_stay;
  raised = λ node count nodes. changed_stay node (λ e. record e { source = e.source + count }) (λ n. refl) nodes;
  dropped = λ node count nodes. changed_stay node (λ e. record e { source = e.source - count }) (λ n. refl) nodes;
  released = λ node nodes. changed_stay node (λ e. record e { held = 0; due = 0 }) (λ n. refl) nodes;
  with_drain = λ node drain nodes. changed_stay node (λ e. record e { drain = drain }) (λ n. refl) nodes;
  known = λ node nodes others same. known_at node others ∙ ap (list_any (λ (p : ℕ × Option ℕ). p.0 == node)) same ∙ sym (known_at node nodes);
}
