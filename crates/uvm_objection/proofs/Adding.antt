-- One more node.
use Rattle.uvm_objection.proofs.Common.{◌≡◌, ◌≢◌, ℕ, ◌+◌, Bool, true, false, cond, nat_eq, ◌||◌, ◌==◌, List, [], ◌∷◌, ◌++◌, length, map, Some, refl, sym, ap, ◌∙◌, subst, arith, nat_tests, get, Entry, Inside, is_known, node_of, IsConsistent, Fits, IsObjection, shape, IsNew, AreUnder, IsTree, place_in}
use Rattle.uvm_objection.proofs.Passed.{is_under, passed, when, AddUp}
use Rattle.uvm_objection.proofs.Trees.{Differs, distinct_of}
use Rattle.uvm_objection.proofs.Places.{place_push}
use Rattle.uvm_objection.proofs.Sums.{add_up, kept_of}

-- an entry of a node at which nothing was raised yet
abbrev pub new_entry : ℕ → ℕ → Entry
new_entry node parent = record { node = node; parent = Some parent; source = 0; drain = 0; held = 0; due = 0; total = 0 }

nothing : (b : Bool) → when b (0 + 0) + 0 ≡ 0
nothing true = refl
nothing false = refl

passed_push : (node parent k : ℕ) (es : List Entry) → passed (es ++ new_entry node parent ∷ []) k ≡ passed es k
passed_push node parent k [] = nothing (is_under (new_entry node parent) k)
passed_push node parent k (e ∷ newer) = ap (λ n. when (is_under e k) (e.total + e.held) + n) (passed_push node parent k newer)

pub kept_push : (node parent : ℕ) (es : List Entry) → AddUp es → AddUp (es ++ new_entry node parent ∷ [])
kept_push node parent [] kept = (refl, λ h. refl, λ h. refl, tt)
kept_push node parent (e ∷ newer) kept =
    (kept.0 ∙ ap (λ n. e.source + n) (sym (passed_push node parent e.node newer)), kept.1, kept.2, kept_push node parent newer kept.3)

fits_push : (node parent : ℕ) (es : List Entry) → Fits es → Fits (es ++ new_entry node parent ∷ [])
fits_push node parent [] fits = (omega arith, omega arith, omega arith, tt)
fits_push node parent (e ∷ newer) fits = (fits.0, fits.1, fits.2, fits_push node parent newer fits.3)

or_false : (a b : Bool) → (a || b) ≡ false → (a ≡ false) × (b ≡ false)
or_false true b h = let h' = h in cc
or_false false b h = (refl, h)

not_same : (m n : ℕ) → (m == n) ≡ false → n ≢ m
not_same m n h = λ same. let yes : (m == n) ≡ true = equal m n same in let both : true ≡ false = sym yes ∙ h in cc
  where
    equal : (m n : ℕ) → n ≡ m → (m == n) ≡ true
    equal m n same = grind (arith, nat_tests)

new_push : (k node parent : ℕ) (es : List Entry) → node ≢ k → IsNew k (shape es) → IsNew k (shape (es ++ new_entry node parent ∷ []))
new_push k node parent [] differ apart = (differ, tt)
new_push k node parent (e ∷ newer) differ apart = (apart.0, new_push k node parent newer differ apart.1)

moved : (a b c : Bool) → (a || (b || c)) ≡ true → ((b || a) || c) ≡ true
moved true true c h = refl
moved true false c h = refl
moved false true c h = refl
moved false false c h = h

or_none : (a : Bool) → (a || false) ≡ true → a ≡ true
or_none true h = refl
or_none false h = h

under_push : (known : ℕ → Bool) (node parent : ℕ) (es : List Entry) → AreUnder known (shape es) → is_known node (map node_of es) ≡ false → (known parent || is_known parent (map node_of es)) ≡ true → AreUnder known (shape (es ++ new_entry node parent ∷ []))
under_push known node parent [] under unknown above = (or_none (known parent) above, tt, tt)
under_push known node parent (e ∷ newer) under unknown above =
    let parts = or_false (e.node == node) (is_known node (map node_of newer)) unknown in
    let seen : ℕ → Bool = λ k. (e.node == k) || known k in
    (under.0, new_push e.node node parent newer (not_same e.node node parts.0) under.1, under_push seen node parent newer under.2 parts.1 (moved (known parent) (e.node == parent) (is_known parent (map node_of newer)) above))

pub tree_push : (node parent : ℕ) (es : List Entry) → IsTree (shape es) → is_known node (map node_of es) ≡ false → is_known parent (map node_of es) ≡ true → IsTree (shape (es ++ new_entry node parent ∷ []))
tree_push node parent [] tree unknown above = absurd tree
tree_push node parent (e ∷ newer) tree unknown above =
    let parts = or_false (e.node == node) (is_known node (map node_of newer)) unknown in
    let known : ℕ → Bool = λ k. e.node == k in
    (tree.0, tree.1, new_push e.node node parent newer (not_same e.node node parts.0) tree.2, under_push known node parent newer tree.3 parts.1 above)

-- more room
pub roomier : (o next : Inside) → IsObjection o → next.top ≡ o.top → next.entries.items ≡ o.entries.items → ((node : ℕ) → get nat_eq next.places node ≡ get nat_eq o.places node) → IsObjection next
roomier o next keeps top entries places =
    let all : next.top ∷ next.entries.items ≡ o.top ∷ o.entries.items = ap (λ e. e ∷ next.entries.items) top ∙ ap (λ l. o.top ∷ l) entries in
    let T : List Entry → Type 0 = λ l. IsTree (shape l) in
    let K : List Entry → Type 0 = IsConsistent in
    let F : List Entry → Type 0 = Fits in
    record {
      tree = subst T (sym all) keeps.tree;
      placed = λ node. places node ∙ keeps.placed node ∙ ap (λ l. place_in node (shape l)) (sym entries);
      kept = subst K (sym all) keeps.kept;
      fits = subst F (sym all) keeps.fits;
    }

-- one more
differs_known : (node : ℕ) (es : List Entry) → is_known node (map node_of es) ≡ false → Differs node es
differs_known node [] unknown = tt
differs_known node (e ∷ newer) unknown =
    let parts = or_false (e.node == node) (is_known node (map node_of newer)) unknown in
    (λ same. not_same e.node node parts.0 (sym same), differs_known node newer parts.1)

pub added : (o next : Inside) (node parent : ℕ) (new : Entry) → IsObjection o → is_known node (map node_of (o.top ∷ o.entries.items)) ≡ false → is_known parent (map node_of (o.top ∷ o.entries.items)) ≡ true → new ≡ new_entry node parent → next.top ≡ o.top → next.entries.items ≡ o.entries.items ++ new ∷ [] → ((q : ℕ) → get nat_eq next.places q ≡ cond (nat_eq node q) (Some (length o.entries.items)) (get nat_eq o.places q)) → IsObjection next
added o next node parent new keeps unknown above made same is places =
    let es = o.top ∷ o.entries.items in
    let more = es ++ new_entry node parent ∷ [] in
    let all : next.top ∷ next.entries.items ≡ more = ap (λ e. e ∷ next.entries.items) same ∙ ap (λ l. o.top ∷ l) (is ∙ ap (λ e. o.entries.items ++ e ∷ []) made) in
    let T : List Entry → Type 0 = λ l. IsTree (shape l) in
    let K : List Entry → Type 0 = IsConsistent in
    let F : List Entry → Type 0 = Fits in
    let tree = tree_push node parent es keeps.tree unknown above in
    record {
      tree = subst T (sym all) tree;
      placed = λ q.
          places q
          ∙ ap (cond (nat_eq node q) (Some (length o.entries.items))) (keeps.placed q)
          ∙ place_push node q new o.entries.items (ap (λ e. e.node) made) (differs_known node es unknown).1
          ∙ ap (λ l. place_in q (shape l)) (sym is);
      kept = subst K (sym all) (kept_of more (distinct_of more tree) (kept_push node parent es (add_up es (distinct_of es keeps.tree) keeps.kept)));
      fits = subst F (sym all) (fits_push node parent es keeps.fits);
    }
