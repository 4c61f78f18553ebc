-- Where nodes stand.
use Rattle.uvm_objection.proofs.Common.{◌≡◌, ◌≢◌, ◌<◌, ℕ, suc, Bool, true, false, cond, ◌||◌, ◌==◌, if◌then◌else◌, get_or, find, List, [], ◌∷◌, ◌++◌, length, Option, Some, None, option_map, refl, sym, ap, ◌∙◌, subst, arith, same_Some, Entry, AreUnder, IsTree, place_in, shape}
use Rattle.uvm_objection.proofs.Trees.{differs_of, Differs, Distinct, same_node, other_node, true_node}

-- a node that stands nowhere has no place
pub nowhere : (node : ℕ) (es : List Entry) → Differs node es → place_in node (shape es) ≡ None
nowhere node [] apart = refl
nowhere node (e ∷ es) apart = rw (other_node e.node node apart.0) (ap (option_map suc) (nowhere node es apart.1))

-- a place behind another is one more
record IsOneMore (place : Option ℕ) (n : ℕ) : Type 0 where
  before : ℕ
  is : n ≡ suc before
  there : place ≡ Some before

one_more : (place : Option ℕ) (n : ℕ) → option_map suc place ≡ Some n → IsOneMore place n
one_more None n is = cc
one_more (Some m) n is = record { before = m; is = sym (same_Some (suc m) n is); there = refl }

none_more : (place : Option ℕ) → option_map suc place ≡ None → place ≡ None
none_more None is = refl
none_more (Some m) is = cc

-- none of some entries is the node that stands in none of them
nowhere-test : (node : ℕ) (e : Entry) (es rest : List Entry) (b : Bool) → (e.node == node) ≡ b → place_in node (shape (e ∷ es ++ rest)) ≡ None → (place_in node (shape (es ++ rest)) ≡ None → Differs node es) → Differs node (e ∷ es)
nowhere-test node e es rest true here none later = let bad = rw here at none in cc
nowhere-test node e es rest false here none later =
    let other : e.node ≢ node = λ same. let yes : (e.node == node) ≡ true = rw same (same_node node) in let both = sym yes ∙ here in cc in
    (other, later (none_more _ (rw here at none)))

pub none_there : (node : ℕ) (es rest : List Entry) → place_in node (shape (es ++ rest)) ≡ None → Differs node es
none_there node [] rest none = tt
none_there node (e ∷ es) rest none = nowhere-test node e es rest (e.node == node) refl none (none_there node es rest)

-- the entry of a node, those before it, and those behind it, among which the node is not
pub record HasPlace (node : ℕ) (es : List Entry) (place : ℕ) : Type 0 where
  pub front : List Entry
  pub entry : Entry
  pub newer : List Entry
  pub parts : es ≡ front ++ entry ∷ newer
  pub here : length front ≡ place
  pub is : entry.node ≡ node
  pub apart : Differs node newer

differs_front : (node : ℕ) (es rest : List Entry) → Differs node (es ++ rest) → Differs node es
differs_front node [] rest apart = tt
differs_front node (e ∷ es) rest apart = (apart.0, differs_front node es rest apart.1)

-- its place behind one more in front
place_later : (node : ℕ) (e : Entry) (es : List Entry) (before place : ℕ) → HasPlace node es before → place ≡ suc before → HasPlace node (e ∷ es) place
place_later node e es before place found one = record {
  front = e ∷ found.front;
  entry = found.entry;
  newer = found.newer;
  parts = ap (λ l. e ∷ l) found.parts;
  here = ap suc found.here ∙ sym one;
  is = found.is;
  apart = found.apart;
}

place-test : (node : ℕ) (e : Entry) (es rest : List Entry) (place : ℕ) (b : Bool) → (e.node == node) ≡ b → Distinct (e ∷ es ++ rest) → place_in node (shape (e ∷ es ++ rest)) ≡ Some place → place < suc (length es) → ((n : ℕ) → place_in node (shape (es ++ rest)) ≡ Some n → n < length es → HasPlace node es n) → HasPlace node (e ∷ es) place
place-test node e es rest place true here apart is within later =
    let same = true_node e.node node here in
    let D : ℕ → Type 0 = λ n. Differs n es in
    record { front = []; entry = e; newer = es; parts = refl; here = same_Some 0 place (rw here at is); is = same; apart = subst D same (differs_front e.node es rest apart.0) }
place-test node e es rest place false here apart is within later =
    let more = one_more (place_in node (shape (es ++ rest))) place (rw here at is) in
    let one = more.is in
    place_later node e es more.before place (later more.before more.there (omega (arith, one))) one

pub has_place : (node : ℕ) (es rest : List Entry) (place : ℕ) → Distinct (es ++ rest) → place_in node (shape (es ++ rest)) ≡ Some place → place < length es → HasPlace node es place
has_place node [] rest place apart is within = absurd (omega (arith, within))
has_place node (e ∷ es) rest place apart is within = place-test node e es rest place (e.node == node) refl apart is within (λ n. has_place node es rest n apart.1)

-- a place is among the entries
within-test : (node : ℕ) (e : Entry) (es : List Entry) (place : ℕ) (b : Bool) → (e.node == node) ≡ b → place_in node (shape (e ∷ es)) ≡ Some place → ((n : ℕ) → place_in node (shape es) ≡ Some n → n < length es) → place < suc (length es)
within-test node e es place true here is later = let first = same_Some 0 place (rw here at is) in omega (arith, first)
within-test node e es place false here is later =
    let more = one_more (place_in node (shape es)) place (rw here at is) in
    let one = more.is in
    let low = later more.before more.there in
    omega (arith, one, low)

pub place_within : (node : ℕ) (es : List Entry) (place : ℕ) → place_in node (shape es) ≡ Some place → place < length es
place_within node [] place is = cc
place_within node (e ∷ es) place is = within-test node e es place (e.node == node) refl is (place_within node es)

-- what stands at the place of a node
find-test : (node : ℕ) (f : Entry) (es : List Entry) (place : ℕ) (e : Entry) (b : Bool) → (f.node == node) ≡ b → place_in node (shape (f ∷ es)) ≡ Some place → e ≡ get_or (f ∷ es) place e → ((n : ℕ) → place_in node (shape es) ≡ Some n → e ≡ get_or es n e → find (λ g. g.node == node) es ≡ Some e) → find (λ g. g.node == node) (f ∷ es) ≡ Some e
find-test node f es place e true here is read later =
    let first : e ≡ f = read ∙ ap (λ n. get_or (f ∷ es) n e) (sym (same_Some 0 place (rw here at is))) in
    rw here (ap (λ g. Some g) (sym first))
find-test node f es place e false here is read later =
    let more = one_more (place_in node (shape es)) place (rw here at is) in
    rw here (later more.before more.there (read ∙ ap (λ n. get_or (f ∷ es) n e) more.is))

pub find_at : (node : ℕ) (es : List Entry) (place : ℕ) (e : Entry) → place_in node (shape es) ≡ Some place → e ≡ get_or es place e → find (λ g. g.node == node) es ≡ Some e
find_at node [] place e is read = cc
find_at node (f ∷ es) place e is read = find-test node f es place e (f.node == node) refl is read (λ n. find_at node es n e)

-- the top has none
pub top_nowhere : (top : Entry) (es : List Entry) → IsTree (shape (top ∷ es)) → (node : ℕ) → top.node ≡ node → place_in node (shape es) ≡ None
top_nowhere top es tree node same =
    let N : ℕ → Type 0 = λ n. place_in n (shape es) ≡ None in subst N same (nowhere top.node es (differs_of top.node es tree.2))

pub not_top : (top : Entry) (es : List Entry) → IsTree (shape (top ∷ es)) → (node place : ℕ) → place_in node (shape es) ≡ Some place → (top.node == node) ≡ false
not_top top es tree node place is = other_node top.node node (λ same. let bad = sym is ∙ top_nowhere top es tree node same in cc)

-- the place of one more
map_cond : (b : Bool) (n : ℕ) (place : Option ℕ) → cond b (Some (suc n)) (option_map suc place) ≡ option_map suc (cond b (Some n) place)
map_cond true n place = refl
map_cond false n place = refl

first-push : (b : Bool) → cond b (Some 0) None ≡ (let place : Option ℕ = if b then Some 0 else option_map suc None in place)
first-push true = refl
first-push false = refl

push-test : (node q : ℕ) (new e : Entry) (es : List Entry) (b : Bool) → (e.node == q) ≡ b → e.node ≢ node → cond (node == q) (Some (length es)) (place_in q (shape es)) ≡ place_in q (shape (es ++ new ∷ [])) → cond (node == q) (Some (suc (length es))) (place_in q (shape (e ∷ es))) ≡ place_in q (shape (e ∷ es ++ new ∷ []))
push-test node q new e es true here apart later =
    let other = other_node node q (λ same. apart (true_node e.node q here ∙ sym same)) in
    rw (here, other) refl
push-test node q new e es false here apart later =
    rw here (map_cond (node == q) (length es) (place_in q (shape es)) ∙ ap (option_map suc) later)

pub place_push : (node q : ℕ) (new : Entry) (es : List Entry) → new.node ≡ node → Differs node es → cond (node == q) (Some (length es)) (place_in q (shape es)) ≡ place_in q (shape (es ++ new ∷ []))
place_push node q new [] is apart = rw is (first-push (node == q))
place_push node q new (e ∷ es) is apart = push-test node q new e es (e.node == q) refl apart.0 (place_push node q new es is apart.1)

-- a parent stands before its children
before-test : (known : ℕ → Bool) (f : Entry) (front newer : List Entry) (e : Entry) (parent place : ℕ) (b : Bool) → (f.node == parent) ≡ b → place_in parent (shape (f ∷ front ++ e ∷ newer)) ≡ Some place → (known parent ≡ true → place_in parent (shape (f ∷ front ++ e ∷ newer)) ≡ None)
    → ((n : ℕ) → place_in parent (shape (front ++ e ∷ newer)) ≡ Some n → ((b || known parent) ≡ true → place_in parent (shape (front ++ e ∷ newer)) ≡ None) → n < length front) → place < suc (length front)
before-test known f front newer e parent place true here is none later = let first = same_Some 0 place (rw here at is) in omega (arith, first)
before-test known f front newer e parent place false here is none later =
    let more = one_more (place_in parent (shape (front ++ e ∷ newer))) place (rw here at is) in
    let one = more.is in
    let low = later more.before more.there (λ yes. none_more _ (rw here at (none yes))) in
    omega (arith, one, low)

pub parent_before : (known : ℕ → Bool) (front newer : List Entry) (e : Entry) (parent place : ℕ) → AreUnder known (shape (front ++ e ∷ newer)) → e.parent ≡ Some parent → place_in parent (shape (front ++ e ∷ newer)) ≡ Some place → (known parent ≡ true → place_in parent (shape (front ++ e ∷ newer)) ≡ None) → place < length front
parent_before known [] newer e parent place under above is none =
    let yes : known parent ≡ true = rw above at under.0 in
    let bad = sym is ∙ none yes in cc
parent_before known (f ∷ front) newer e parent place under above is none =
    let seen : ℕ → Bool = λ node. (f.node == node) || known node in
    before-test known f front newer e parent place (f.node == parent) refl is none (λ n found nowhere. parent_before seen front newer e parent n under.2 above found nowhere)
