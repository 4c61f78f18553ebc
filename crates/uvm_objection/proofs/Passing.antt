-- A walk over some entries, the last first, that goes from each node to the place of its parent.
use Rattle.uvm_objection.proofs.Common.{◌≡◌, ◌≢◌, ◌<◌, ℕ, suc, Bool, true, false, ◌==◌, List, [], ◌∷◌, ◌++◌, length, Option, Some, None, get_or, refl, sym, ap, ◌∙◌, subst, arith, append_assoc, IsTrue, option_and_then, option_map_or, set, set-append_seam, get_or-append_seam, same_Some, Change, Entry, Walk, IsTree, place_in, start_of, walked, Walked, entry_after, walk_after, is_at, CanWalk, CanStep, shape}
use Rattle.uvm_objection.proofs.Trees.{Differs, Distinct, distinct_of, same_node, other_node, true_node}
use Rattle.uvm_objection.proofs.Places.{HasPlace, has_place, none_there, place_within, parent_before, top_nowhere}

-- the walk passed all entries but some in front
record IsPassed (c : Change) (was entries : List Entry) (place : ℕ) (w : Walk) : Type 0 where
  front : List Entry
  newer : List Entry
  parts : was ≡ front ++ newer
  here : length front ≡ place
  is : entries ≡ front ++ (walked c newer).entries
  walk : w ≡ (walked c newer).walk

-- the walk is at the entry at a place
pub record IsAt (c : Change) (was entries : List Entry) (place : ℕ) (w : Walk) : Type 0 where
  pub front : List Entry
  pub entry : Entry
  pub newer : List Entry
  pub parts : was ≡ front ++ entry ∷ newer
  pub here : length front ≡ place
  pub is : entries ≡ front ++ entry ∷ (walked c newer).entries
  pub walk : w ≡ (walked c newer).walk
  pub at : IsTrue (is_at w entry)

-- the walk comes to a place next, or passed all entries
abbrev pub Comes : Change → List Entry → List Entry → Option ℕ → Walk → Type 0
Comes c was entries None w = (entries ≡ (walked c was).entries) × (w ≡ (walked c was).walk)
Comes c was entries (Some place) w = IsAt c was entries place w

pub append-nil : (xs : List Entry) → xs ≡ xs ++ []
append-nil [] = refl
append-nil (x ∷ xs) = ap (λ ys. x ∷ ys) (append-nil xs)

-- entries to none of which the walk comes
abbrev Away : Walk → List Entry → Type 0
Away w [] = Unit {0}
Away w (e ∷ es) = (is_at w e ≡ false) × Away w es

away_test : (w : Walk) (e : Entry) (at : Option ℕ) → w.at ≡ at → ((node : ℕ) → at ≡ Some node → e.node ≢ node) → is_at w e ≡ false
away_test w e None is apart = rw is refl
away_test w e (Some node) is apart = rw is (other_node node e.node (λ same. apart node refl (sym same)))

away : (w : Walk) (es : List Entry) → ((node : ℕ) → w.at ≡ Some node → Differs node es) → Away w es
away w [] apart = tt
away w (e ∷ es) apart = (away_test w e w.at refl (λ node is. (apart node is).0), away w es (λ node is. (apart node is).1))

-- the walk leaves them, and is left by them
step_away : (c : Change) (e : Entry) (below : Walked) (entries : List Entry) (w : Walk) → below ≡ record { entries = entries; walk = w } → is_at w e ≡ false → (let next : Walked = record { entries = entry_after c below.walk e ∷ below.entries; walk = walk_after c below.walk e } in next) ≡ record { entries = e ∷ entries; walk = w }
step_away c e below entries w is other = rw (is, other) refl

walked_away : (c : Change) (es newer : List Entry) → Away (walked c newer).walk es → walked c (es ++ newer) ≡ record { entries = es ++ (walked c newer).entries; walk = (walked c newer).walk }
walked_away c [] newer apart = refl
walked_away c (e ∷ es) newer apart = step_away c e (walked c (es ++ newer)) (es ++ (walked c newer).entries) (walked c newer).walk (walked_away c es newer apart.1) apart.0

-- the place to which the walk comes next
abbrev pub place_next : List Entry → Walk → Option ℕ
place_next was w = option_and_then (λ node. place_in node (shape was)) w.at

none_next : (was : List Entry) (w : Walk) (node : ℕ) → place_next was w ≡ None → w.at ≡ Some node → place_in node (shape was) ≡ None
none_next was w node none is = rw is at none

-- the node at which it is
record HasNode (was : List Entry) (w : Walk) (place : ℕ) : Type 0 where
  node : ℕ
  is : w.at ≡ Some node
  there : place_in node (shape was) ≡ Some place

node_next : (was : List Entry) (w : Walk) (place : ℕ) (at : Option ℕ) → w.at ≡ at → option_and_then (λ node. place_in node (shape was)) at ≡ Some place → HasNode was w place
node_next was w place None is next = cc
node_next was w place (Some node) is next = record { node = node; is = is; there = next }

at_node : (w : Walk) (e : Entry) (node : ℕ) → w.at ≡ Some node → e.node ≡ node → IsTrue (is_at w e)
at_node w e node is same = rw (is, same) (same_node node)

-- it passes the entries behind the node to which it comes next
behind : (c : Change) (w : Walk) (node place : ℕ) (front newer : List Entry) → w.at ≡ Some node → w ≡ (walked c newer).walk → (found : HasPlace node front place) → walked c (found.newer ++ newer) ≡ record { entries = found.newer ++ (walked c newer).entries; walk = (walked c newer).walk }
behind c w node place front newer is walk found =
    let A : Walk → Type 0 = λ v. Away v found.newer in
    let D : ℕ → Type 0 = λ k. Differs k found.newer in
    walked_away c found.newer newer (subst A walk (away w found.newer (λ other at. subst D (same_Some node other (sym is ∙ at)) found.apart)))

seam : (xs front newer ys : List Entry) (e : Entry) → xs ≡ front ++ e ∷ newer → xs ++ ys ≡ front ++ e ∷ (newer ++ ys)
seam xs front newer ys e is = ap (λ l. l ++ ys) is ∙ append_assoc front (e ∷ newer) ys

-- it comes to a place
come_to : (c : Change) (was entries : List Entry) (n : ℕ) (w : Walk) (place node : ℕ) (so_far : IsPassed c was entries n w) → w.at ≡ Some node → HasPlace node so_far.front place → IsAt c was entries place w
come_to c was entries n w place node so_far is found =
    let all : walked c (found.newer ++ so_far.newer) ≡ record { entries = found.newer ++ (walked c so_far.newer).entries; walk = (walked c so_far.newer).walk } = behind c w node place so_far.front so_far.newer is so_far.walk found in
    record {
      front = found.front;
      entry = found.entry;
      newer = found.newer ++ so_far.newer;
      parts = so_far.parts ∙ seam so_far.front found.front found.newer so_far.newer found.entry found.parts;
      here = found.here;
      is =
          so_far.is
          ∙ seam so_far.front found.front found.newer (walked c so_far.newer).entries found.entry found.parts
          ∙ ap (λ (v : Walked). found.front ++ found.entry ∷ v.entries) (sym all);
      walk = so_far.walk ∙ ap (λ (v : Walked). v.walk) (sym all);
      at = at_node w found.entry node is found.is;
    }

-- it comes to the place where the node stands, or has passed all
come : (c : Change) (was entries : List Entry) (n : ℕ) (w : Walk) (next : Option ℕ) → IsPassed c was entries n w → Distinct was → next ≡ place_next was w → ((place : ℕ) → next ≡ Some place → place < n) → Comes c was entries next w
come c was entries n w None so_far apart next low =
    let N : List Entry → Type 0 = λ l. place_next l w ≡ None in
    let none = subst N so_far.parts (sym next) in
    let A : Walk → Type 0 = λ v. Away v so_far.front in
    let gone = subst A so_far.walk (away w so_far.front (λ node is. none_there node so_far.front so_far.newer (none_next (so_far.front ++ so_far.newer) w node none is))) in
    let all = ap (walked c) so_far.parts ∙ walked_away c so_far.front so_far.newer gone in
    (so_far.is ∙ sym (ap (λ (v : Walked). v.entries) all), so_far.walk ∙ sym (ap (λ (v : Walked). v.walk) all))
come c was entries n w (Some place) so_far apart next low =
    let node = node_next was w place w.at refl (sym next) in
    let here = so_far.here in
    let under = low place refl in
    let D : List Entry → Type 0 = Distinct in
    let P : List Entry → Type 0 = λ l. place_in node.node (shape l) ≡ Some place in
    come_to c was entries n w place node.node so_far node.is (has_place node.node so_far.front so_far.newer place (subst D so_far.parts apart) (subst P so_far.parts node.there) (omega (arith, here, under)))

-- as a table has it
pub next_of : (table : ℕ → Option ℕ) (was : List Entry) → ((node : ℕ) → table node ≡ place_in node (shape was)) → (w : Walk) (next : Option ℕ) → next ≡ option_and_then table w.at → next ≡ place_next was w
next_of table was placed w next is = is ∙ same w.at
  where
    same : (at : Option ℕ) → option_and_then table at ≡ option_and_then (λ node. place_in node (shape was)) at
    same None = refl
    same (Some node) = placed node

-- the start
pub starts : (c : Change) (was : List Entry) (next : Option ℕ) → Distinct was → next ≡ place_next was (start_of c) → Comes c was was next (start_of c)
starts c was next apart is =
    come c was was (length was) (start_of c) next (record { front = was; newer = []; parts = append-nil was; here = refl; is = append-nil was; walk = refl }) apart is (λ place some. place_within c.node was place (sym is ∙ some))

read_at : (front newer now : List Entry) (x e : Entry) (n : ℕ) → now ≡ front ++ x ∷ newer → length front ≡ n → e ≡ get_or now n e → e ≡ x
read_at front newer now x e n is here read = read ∙ rw (is, ← here) (get_or-append_seam front x newer e)

write_at : (front newer now : List Entry) (x e : Entry) (n : ℕ) → now ≡ front ++ x ∷ newer → length front ≡ n → set now n e ≡ front ++ e ∷ newer
write_at front newer now x e n is here = rw (is, ← here) (set-append_seam front x newer e)

can_later : (c : Change) (front newer : List Entry) → CanWalk c (front ++ newer) → CanWalk c newer
can_later c [] newer can = can
can_later c (e ∷ front) newer can = can_later c front newer can.0

pub can_next : (c : Change) (was entries : List Entry) (n : ℕ) (w : Walk) (e : Entry) → IsAt c was entries n w → CanWalk c was → e ≡ get_or entries n e → IsTrue (is_at w e) → CanStep c w e
can_next c was entries n w e here can read at =
    let same = read_at here.front (walked c here.newer).entries entries here.entry e n here.is here.here read in
    let Can : List Entry → Type 0 = CanWalk c in
    let now = can_later c here.front (here.entry ∷ here.newer) (subst Can here.parts can) in
    let Here : Walk → Type 0 = λ v. IsTrue (is_at v here.entry) → CanStep c v here.entry in
    let There : Entry → Type 0 = λ f. IsTrue (is_at w f) → CanStep c w f in
    subst There (sym same) (subst Here (sym here.walk) now.1) at

one_passed : (c : Change) (was entries : List Entry) (n : ℕ) (w w' : Walk) (e e' : Entry) → IsAt c was entries n w → e ≡ get_or entries n e → e' ≡ entry_after c w e → w' ≡ walk_after c w e → IsPassed c was (set entries n e') n w'
one_passed c was entries n w w' e e' at read entry_is walk_is =
    let same = read_at at.front (walked c at.newer).entries entries at.entry e n at.is at.here read in
    record {
      front = at.front;
      newer = at.entry ∷ at.newer;
      parts = at.parts;
      here = at.here;
      is =
          write_at at.front (walked c at.newer).entries entries at.entry e' n at.is at.here
          ∙ ap (λ f. at.front ++ f ∷ (walked c at.newer).entries) (entry_is ∙ ap (λ v. entry_after c v e) at.walk ∙ ap (λ f. entry_after c (walked c at.newer).walk f) same);
      walk = walk_is ∙ ap (λ v. walk_after c v e) at.walk ∙ ap (λ f. walk_after c (walked c at.newer).walk f) same;
    }

-- it goes to the place of the parent, which is before its own
goes_up : (c : Change) (w : Walk) (e : Entry) → IsTrue (is_at w e) → (walk_after c w e).at ≡ e.parent
goes_up c w e at = let yes : is_at w e ≡ true = at in rw yes refl

before_own : (top : Entry) (was : List Entry) → IsTree (shape (top ∷ was)) → (front newer : List Entry) (e : Entry) (w : Walk) (place : ℕ) → was ≡ front ++ e ∷ newer → w.at ≡ e.parent → place_next was w ≡ Some place → place < length front
before_own top was tree front newer e w place parts up next =
    let node = node_next was w place w.at refl next in
    let T : List Entry → Type 0 = λ l. IsTree (shape (top ∷ l)) in
    let P : List Entry → Type 0 = λ l. place_in node.node (shape l) ≡ Some place in
    let whole = subst T parts tree in
    let known : ℕ → Bool = λ k. top.node == k in
    let none = λ (yes : (top.node == node.node) ≡ true). top_nowhere top (front ++ e ∷ newer) whole node.node (true_node top.node node.node yes) in
    parent_before known front newer e node.node place whole.3 (sym up ∙ node.is) (subst P parts node.there) none

module _ (top : Entry) (c : Change) (was entries : List Entry) (n : ℕ) (w w' : Walk) (e e' : Entry) (next : Option ℕ) (tree : IsTree (shape (top ∷ was))) (at : IsAt c was entries n w) (read : e ≡ get_or entries n e) (entry_is : e' ≡ entry_after c w e) (walk_is : w' ≡ walk_after c w e) (is : next ≡ place_next was w') where
  pub lower : (place : ℕ) → next ≡ Some place → place < n
  lower place some =
      let same = read_at at.front (walked c at.newer).entries entries at.entry e n at.is at.here read in
      let up = ap (λ (v : Walk). v.at) (walk_is ∙ ap (walk_after c w) same) ∙ goes_up c w at.entry at.at in
      let low = before_own top was tree at.front at.newer at.entry w' place at.parts up (sym is ∙ some) in
      let here = at.here in
      omega (arith, low, here)

  pub comes_next : Comes c was (set entries n e') next w'
  comes_next = come c was (set entries n e') n w' next (one_passed c was entries n w w' e e' at read entry_is walk_is) (distinct_of (top ∷ was) tree).1 is lower

-- so the measure gets smaller
pub shorter : (next : Option ℕ) (n : ℕ) → ((place : ℕ) → next ≡ Some place → place < n) → option_map_or suc next 0 < suc n
shorter None n low = omega arith
shorter (Some place) n low = let less = low place refl in omega (arith, less)
