-- Who is held, and at which paths, after each change.
use Rattle.bench_kernel.proofs.Common.{◌≡◌, ◌∙◌, ◌<◌, ◌++◌, ℕ, zero, suc, Bool, false, List, [], ◌∷◌, length, get_or, Result, refl, ap, arith, All-cons, All-head, All-tail, All-weaker, All-permutation, Contains-permutation, IsPermutation-map, IsPermutation-sym, IsPermutation-trans, IsDistinct-cons, IsDistinct-tail, IsDistinct-IsPermutation, All, Contains, IsPermutation, keys_of, AllocError, path_at, View, Says, same_who, Who, Call, Act, Entry, ScriptValue, nodes_of, NodesStay, IsAsked, AreAllHeld, AreHeld, WasMade, types_made}
use Rattle.uvm_tree.specs.Nodes as declared
use Rattle.bench_kernel.proofs.Custody.{AreAllHeld-more}
use Rattle.bench_kernel.proofs.Lists.{recursion-from_All}
use Rattle.bench_kernel.proofs.Lives.{same_who-flips}

-- who is asked is held as before
keys-asked : {O : Type 0} (view : O → View) (name : O → List ℕ) (says : O → Says) (who : Who) (call : Call) (answer : Result (List Act) AllocError) (old new : List (Who × O)) → IsAsked view name says who call answer old new
    → IsPermutation (keys_of old) (keys_of new)
keys-asked {O} view name says who call answer old new asked =
    let by-key : Who × O → Who = λ seat. seat.0 in
    IsPermutation-trans (keys_of old) (who ∷ keys_of asked.others) (keys_of new)
    (IsPermutation-sym (who ∷ keys_of asked.others) (keys_of old) (IsPermutation-map by-key ((who, asked.before) ∷ asked.others) old asked.was))
    (IsPermutation-map by-key ((who, asked.after) ∷ asked.others) new asked.is)

module _ {O : Type 0} (name : O → List ℕ) where
  -- the types that a log says
  abbrev HasType : ScriptValue → List Entry → Who × O → Type 0
  HasType script history seat = Contains (types_made script history) (seat.0, name seat.1)

  -- no component or sequence was made
  pub AreHeld-later : (done more : Bool) (script : ScriptValue) (history later : List Entry) (leaving left : List Who) (held : List (Who × O)) → ((who : Who) → WasMade history who → WasMade later who) → types_made script later ≡ types_made script history
      → (more ≡ false → AreAllHeld later left (keys_of held)) → AreHeld name done script history leaving held → AreHeld name more script later left held
  AreHeld-later done more script history later leaving left held made types whole were = record {
    distinct = were.distinct;
    made = All-weaker (WasMade history) (WasMade later) made (keys_of held) were.made;
    named = rw types were.named;
    whole = whole;
  }

  -- an object was asked
  pub AreHeld-asked : (view : O → View) (says : O → Says) (who : Who) (call : Call) (answer : Result (List Act) AllocError) (old new : List (Who × O)) (done : Bool) (script : ScriptValue) (history : List Entry) (leaving : List Who)
      → IsAsked view name says who call answer old new → AreHeld name done script history leaving old → AreHeld name done script history leaving new
  AreHeld-asked view says who call answer old new done script history leaving asked were =
      let keys = keys-asked view name says who call answer old new asked in
      let named : All (HasType script history) ((who, asked.before) ∷ asked.others) =
      All-permutation (HasType script history) old ((who, asked.before) ∷ asked.others) (IsPermutation-sym ((who, asked.before) ∷ asked.others) old asked.was) were.named in
      record {
        distinct = IsDistinct-IsPermutation same_who same_who-flips (keys_of old) (keys_of new) keys were.distinct;
        made = All-permutation (WasMade history) (keys_of old) (keys_of new) keys were.made;
        named =
            All-permutation (HasType script history) ((who, asked.after) ∷ asked.others) new asked.is
            (All-cons (HasType script history) (who, asked.after) asked.others (rw asked.same_name (All-head (HasType script history) (who, asked.before) asked.others named))
            (All-tail (HasType script history) (who, asked.before) asked.others named));
        whole = λ on. AreAllHeld-more history leaving (keys_of old) (keys_of new) (λ other there. Contains-permutation (keys_of old) (keys_of new) other keys there) (were.whole on);
      }

  -- a component or sequence was made, and the object was supplied
  pub AreHeld-come : (script : ScriptValue) (history later : List Entry) (leaving left : List Who) (held new : List (Who × O)) (done more : Bool) (who : Who) (object : O) → IsPermutation ((who, object) ∷ held) new → WasMade later who
      → ((other : Who) → WasMade history other → WasMade later other) → ((other : Who) → WasMade history other → same_who who other ≡ false) → types_made script later ≡ (who, name object) ∷ types_made script history
      → (more ≡ false → AreAllHeld later left (keys_of new)) → AreHeld name done script history leaving held → AreHeld name more script later left new
  AreHeld-come script history later leaving left held new done more who object same made others apart types whole were =
      let keys : IsPermutation (who ∷ keys_of held) (keys_of new) = IsPermutation-map (λ (seat : Who × O). seat.0) ((who, object) ∷ held) new same in
      record {
        distinct =
            IsDistinct-IsPermutation same_who same_who-flips (who ∷ keys_of held) (keys_of new) keys
            (IsDistinct-cons same_who who (keys_of held)
            (recursion-from_All (λ other. same_who who other ≡ false) (keys_of held) (All-weaker (WasMade history) (λ other. same_who who other ≡ false) apart (keys_of held) were.made))
            were.distinct);
        made = All-permutation (WasMade later) (who ∷ keys_of held) (keys_of new) keys (All-cons (WasMade later) who (keys_of held) made (All-weaker (WasMade history) (WasMade later) others (keys_of held) were.made));
        named =
            rw types
            (All-permutation (λ (seat : Who × O). Contains ((who, name object) ∷ types_made script history) (seat.0, name seat.1)) ((who, object) ∷ held) new same
            (All-cons (λ (seat : Who × O). Contains ((who, name object) ∷ types_made script history) (seat.0, name seat.1)) (who, object) held (0, omega arith, refl)
            (All-weaker (HasType script history) (λ (seat : Who × O). Contains ((who, name object) ∷ types_made script history) (seat.0, name seat.1)) (λ seat there. (suc there.0, omega (arith, there.1), there.2)) held were.named)));
        whole = whole;
      }

  -- one was given back
  pub AreHeld-less : (script : ScriptValue) (history : List Entry) (leaving left : List Who) (held new : List (Who × O)) (back : Who × O) (done more : Bool) → IsPermutation (back ∷ new) held
      → (more ≡ false → AreAllHeld history left (keys_of new)) → AreHeld name done script history leaving held → AreHeld name more script history left new
  AreHeld-less script history leaving left held new back done more same whole were =
      let keys : IsPermutation (keys_of held) (back.0 ∷ keys_of new) = IsPermutation-map (λ (seat : Who × O). seat.0) held (back ∷ new) (IsPermutation-sym (back ∷ new) held same) in
      record {
        distinct = IsDistinct-tail same_who back.0 (keys_of new) (IsDistinct-IsPermutation same_who same_who-flips (keys_of held) (back.0 ∷ keys_of new) keys were.distinct);
        made = All-tail (WasMade history) back.0 (keys_of new) (All-permutation (WasMade history) (keys_of held) (back.0 ∷ keys_of new) keys were.made);
        named = All-tail (HasType script history) back new (All-permutation (HasType script history) held (back ∷ new) (IsPermutation-sym (back ∷ new) held same) were.named);
        whole = whole;
      }

-- a node keeps its path where others are added
path_at-more : (nodes more : List declared.Node) (node : ℕ) → node < length nodes → path_at (nodes ++ more) node ≡ path_at nodes node
path_at-more (first ∷ nodes) more zero below = refl
path_at-more (first ∷ nodes) more (suc node) below = path_at-more nodes more node (omega (arith, below))
path_at-more [] more node below = absurd (omega (arith, below))

-- each sits at the path of its node
abbrev pub Sits : List Entry → List (List ℕ) × ℕ → Type 0
Sits history place = path_at (nodes_of history) place.1 ≡ place.0

-- so each keeps its place after an entry
pub placed-later : NodesStay → (entry : Entry) (history : List Entry) (paths : List (List (List ℕ) × ℕ)) → All (λ (place : List (List ℕ) × ℕ). place.1 < length (nodes_of history)) paths → All (Sits history) paths → All (Sits (entry ∷ history)) paths
placed-later nodes entry history paths below placed k d h =
    let grown = nodes entry history in
    let place = get_or paths k d in
    ap (λ n. path_at n place.1) grown.1 ∙ path_at-more (nodes_of history) grown.0 place.1 (below k d h) ∙ placed k d h
