-- Who is to be held after an entry.
use Rattle.bench_kernel.proofs.Common.{◌≡◌, ◌≢◌, ◌∙◌, ◌<◌, ◌≤◌, ◌+◌, ℕ, zero, suc, Bool, true, false, ◌==◌, List, [], ◌∷◌, length, get_or, Option, Some, None, option_map, inl, inr, refl, sym, ap, subst, arith, if◌then◌else◌, nat_tests, length-append, All-contains, All-head, All-nil, All-push, All-tail, All-weaker, Contains-append_left, Contains-get_or, Contains-push, Contains-permutation, same_Some, All, Contains, IsPermutation, numbered, life_of, same_who, Who, Node, Sequence, Act, Outcome, Made, Started, Entry, Did, ScriptValue, components_of, is_over, nodes_of, StartRecord, all_begun, starts_of, leaving_of, sequences_of, start_by, EachIsNext, next_of, AreLeaving, HasBegun, HasGrown, IsLiving, IsLivingSequence, IsMadeBy, LivingLived, number_of, made_who, AreAllHeld, AreToldNext, HasEnded, WasMade, types_made, LogLaws, ◌⊎◌}
use Rattle.uvm_object.specs.declared.entries.Entry.TheVariants.{Over}
use Rattle.bench_history.specs.declared.needs.Need as declared
use Rattle.bench_history.specs.Cases.{Need}
use Rattle.bench_kernel.proofs.Numbers.{eq-apart}

-- one that has a number is one of those that are numbered
numbered-within : {X : Type 0} (xs : List X) (n : ℕ) (x : X) → numbered xs n ≡ Some x → n ≤ length xs
numbered-within [] n x e = cc
numbered-within (y ∷ older) n x e = tested (n == length (y ∷ older)) refl e (numbered-within older n x)
  where
    tested : (same : Bool) → (n == length (y ∷ older)) ≡ same → (if same then Some y else numbered older n) ≡ Some x → (numbered older n ≡ Some x → n ≤ length older) → n ≤ length (y ∷ older)
    tested true is found within = grind (arith, nat_tests)
    tested false is found within = let low = within found in omega (arith, low)

-- a sequence that lives was started
living-number : (history : List Entry) (id home : ℕ) → IsLiving history id home → id ≤ length (starts_of history)
living-number history id home living = go (numbered (starts_of history) id) refl living.home_is
  where
    go : (found : Option StartRecord) → numbered (starts_of history) id ≡ found → option_map (λ start_record. start_record.start.home) found ≡ Some home → id ≤ length (starts_of history)
    go None is home_is = cc
    go (Some start_record) is home_is = numbered-within (starts_of history) id start_record is

-- where no sequence is started each that lives lived before
pub living-stays : LivingLived → (entry : Entry) (history : List Entry) → starts_of (entry ∷ history) ≡ starts_of history → (id home : ℕ) → IsLiving (entry ∷ history) id home → IsLiving history id home
living-stays lived entry history same id home living =
    lived entry history id home (subst (λ (begun : List StartRecord). id ≤ length begun) same (living-number (entry ∷ history) id home living)) living

-- where one is, it is that one that lives besides
pub living-more : LivingLived → (history : List Entry) (performer : Who) (act : Act) (new id home : ℕ) → new ≡ suc (length (starts_of history)) → IsLiving (Did performer (Started new) act ∷ history) id home
    → IsLiving history id home ⊎ (Sequence home id ≡ Sequence (start_by (nodes_of history) (sequences_of history) performer act).home new)
living-more lived history performer act new id home number living = go (id == suc (length (starts_of history))) refl
  where
    entry : Entry
    entry = Did performer (Started new) act

    place : ℕ
    place = (start_by (nodes_of history) (sequences_of history) performer act).home

    go : (same : Bool) → (id == suc (length (starts_of history))) ≡ same → IsLiving history id home ⊎ (Sequence home id ≡ Sequence (start_by (nodes_of history) (sequences_of history) performer act).home new)
    go true is =
        let id_is : id ≡ new = grind (arith, nat_tests, is, number) in
        let at : Some (start_by (nodes_of history) (sequences_of history) performer act).home ≡ Some home = rw is at living.home_is in
        let home_is : home ≡ (start_by (nodes_of history) (sequences_of history) performer act).home = sym (same_Some (start_by (nodes_of history) (sequences_of history) performer act).home home at) in
        inr (ap (Sequence home) id_is ∙ ap (λ h. Sequence h new) home_is)
    go false is =
        let within : id ≤ suc (length (starts_of history)) = living-number (Did performer (Started new) act ∷ history) id home living in
        let low : id ≤ length (starts_of history) = grind (arith, nat_tests, is, within) in
        inl (lived (Did performer (Started new) act) history id home low living)

-- each that was started has a number of those
pub all-numbered : (begun : List StartRecord) → All (λ who. number_of who ≤ length begun) (all_begun begun)
all-numbered [] = All-nil (λ who. number_of who ≤ 0)
all-numbered (start_record ∷ older) =
    All-push (λ who. number_of who ≤ length (start_record ∷ older)) (all_begun older) (Sequence start_record.start.home (length (start_record ∷ older)))
    (All-weaker (λ who. number_of who ≤ length older) (λ who. number_of who ≤ length (start_record ∷ older)) (λ who low. omega (arith, low)) (all_begun older) (all-numbered older))
    (omega arith)

-- where no component was made and no sequence started, who was made is who had been
pub WasMade-same : (history later : List Entry) → components_of later ≡ components_of history → starts_of later ≡ starts_of history → (who : Who) → WasMade history who → WasMade later who
WasMade-same history later components begun (Node node) made = subst (λ nodes. Contains nodes node) (sym components) made
WasMade-same history later components begun (Sequence home id) made = subst (λ (begun : List StartRecord). Contains (all_begun begun) (Sequence home id)) (sym begun) made

-- and the types are those that were made
pub types-same : (script : ScriptValue) (entry : Entry) (history : List Entry) → components_of (entry ∷ history) ≡ components_of history → starts_of (entry ∷ history) ≡ starts_of history
    → types_made script (entry ∷ history) ≡ types_made script history
types-same script (Did performer (Made type_name) act) history components begun =
    let counts : length (components_of history) + length (length (nodes_of history) ∷ []) ≡ length (components_of history) = sym (length-append (components_of history) (length (nodes_of history) ∷ [])) ∙ ap length components in
    absurd (omega (arith, counts))
types-same script (Did performer (Started id) act) history components begun =
    let counts : suc (length (starts_of history)) ≡ length (starts_of history) = ap (λ (b : List StartRecord). length b) begun in
    absurd (omega (arith, counts))
types-same script (Did performer outcome act) history components begun = refl
types-same script entry history components begun = refl

-- after the end of a run no component or sequence is to be told
over-tells-none : (entry : Entry) (history : List Entry) → is_over (entry ∷ history) ≡ true → leaving_of (entry ∷ history) ≡ []
over-tells-none (Over reason) history over = refl
over-tells-none entry history over = cc

-- who is to be told after an entry
pub told-next : (history : List Entry) (entry : Entry) → AreLeaving history entry → AreToldNext (entry ∷ history) (leaving_of (entry ∷ history))
told-next history entry leave = record {
  have_ended = λ k d h. ended (get_or (leaving_of (entry ∷ history)) k d) (leave.lived k d h) (leave.gone k d h);
  rising = leave.rising;
  over = over-tells-none entry history;
}
  where
    ended : (who : Who) → IsLivingSequence history who → (IsLivingSequence (entry ∷ history) who → ⊥) → HasEnded (entry ∷ history) who
    ended (Node node) lived gone = lived
    ended (Sequence home id) lived gone = gone

-- and after one was told
pub told-less : (history : List Entry) (who : Who) (others leaving : List Who) → leaving ≡ who ∷ others → AreToldNext history leaving → AreToldNext history others
told-less history who others leaving is told =
    let were : AreToldNext history (who ∷ others) = subst (AreToldNext history) is told in
    record {
      have_ended = All-tail (HasEnded history) who others were.have_ended;
      rising = were.rising.1;
      over = λ over. let bad = were.over over in cc;
    }

-- more are held
pub AreAllHeld-more : (history : List Entry) (leaving held more : List Who) → ((who : Who) → Contains held who → Contains more who) → AreAllHeld history leaving held → AreAllHeld history leaving more
AreAllHeld-more history leaving held more keeps were = record {
  components = All-weaker (λ node. Contains held (Node node)) (λ node. Contains more (Node node)) (λ node there. keeps (Node node) there) (components_of history) were.components;
  living = λ id home living. keeps (Sequence home id) (were.living id home living);
  ended = All-weaker (Contains held) (Contains more) keeps leaving were.ended;
}

-- those that leave lived, so they are held
leavers-held : (history : List Entry) (leaving left held : List Who) → All (IsLivingSequence history) left → AreAllHeld history leaving held → All (Contains held) left
leavers-held history leaving left held lived were = All-weaker (IsLivingSequence history) (Contains held) (λ who. go who) left lived
  where
    go : (who : Who) → IsLivingSequence history who → Contains held who
    go (Node node) living = absurd living
    go (Sequence home id) living = were.living id home living

-- an entry that makes no component or sequence
pub AreAllHeld-later : LivingLived → (entry : Entry) (history : List Entry) (leaving held : List Who) → components_of (entry ∷ history) ≡ components_of history → starts_of (entry ∷ history) ≡ starts_of history → AreLeaving history entry
    → AreAllHeld history leaving held → AreAllHeld (entry ∷ history) (leaving_of (entry ∷ history)) held
AreAllHeld-later lived entry history leaving held components begun leave were = record {
  components = subst (All (λ node. Contains held (Node node))) (sym components) were.components;
  living = λ id home living. were.living id home (living-stays lived entry history begun id home living);
  ended = leavers-held history leaving (leaving_of (entry ∷ history)) held leave.lived were;
}

-- a new component or sequence, and what follows for those who were there
pub record HasCome (script : ScriptValue) (history : List Entry) (entry : Entry) (type_name : List ℕ) (who : Who) : Type 0 where
  pub made : WasMade (entry ∷ history) who
  pub others : (other : Who) → WasMade history other → WasMade (entry ∷ history) other
  pub apart : (other : Who) → WasMade history other → same_who who other ≡ false
  pub unasked : life_of who history ≡ []
  pub types : types_made script (entry ∷ history) ≡ (who, type_name) ∷ types_made script history
  pub components : All (λ node. Contains (components_of history) node ⊎ (Node node ≡ who)) (components_of (entry ∷ history))
  pub living : (id home : ℕ) → IsLiving (entry ∷ history) id home → IsLiving history id home ⊎ (Sequence home id ≡ who)

-- an entry that makes a component or sequence, who is held from then on
pub AreAllHeld-come : (script : ScriptValue) (entry : Entry) (history : List Entry) (leaving held more : List Who) (type_name : List ℕ) (who : Who) → ((other : Who) → Contains held other → Contains more other) → Contains more who → AreLeaving history entry
    → HasCome script history entry type_name who → AreAllHeld history leaving held → AreAllHeld (entry ∷ history) (leaving_of (entry ∷ history)) more
AreAllHeld-come script entry history leaving held more type_name who keeps there leave come were = record {
  components = All-weaker (λ node. Contains (components_of history) node ⊎ (Node node ≡ who)) (λ node. Contains more (Node node)) component (components_of (entry ∷ history)) come.components;
  living = λ id home living. sequence id home (come.living id home living);
  ended = All-weaker (Contains held) (Contains more) keeps (leaving_of (entry ∷ history)) (leavers-held history leaving (leaving_of (entry ∷ history)) held leave.lived were);
}
  where
    component : (node : ℕ) → Contains (components_of history) node ⊎ (Node node ≡ who) → Contains more (Node node)
    component node (inl was) = keeps (Node node) (All-contains (λ node. Contains held (Node node)) (components_of history) node were.components was)
    component node (inr new) = subst (Contains more) (sym new) there

    sequence : (id home : ℕ) → IsLiving history id home ⊎ (Sequence home id ≡ who) → Contains more (Sequence home id)
    sequence id home (inl lived) = keeps (Sequence home id) (were.living id home lived)
    sequence id home (inr new) = subst (Contains more) (sym new) there

-- who else was there still is when one was taken out
other-there : (who other : Who) (rest : List Who) → other ≢ who → Contains (who ∷ rest) other → Contains rest other
other-there who other rest apart there = go there.0 there.1 there.2
  where
    go : (k : ℕ) → k < length (who ∷ rest) → get_or (who ∷ rest) k other ≡ other → Contains rest other
    go zero within is = absurd (apart (sym is))
    go (suc k) within is = (k, omega (arith, within), is)

-- one that has ended was told, and is held no longer
pub AreAllHeld-told : (history : List Entry) (who : Who) (others held rest leaving : List Who) → leaving ≡ who ∷ others → IsPermutation held (who ∷ rest) → AreToldNext history leaving → AreAllHeld history leaving held
    → AreAllHeld history others rest
AreAllHeld-told history (Node node) others held rest leaving is same told were =
    absurd (All-head (HasEnded history) (Node node) others (subst (All (HasEnded history)) is told.have_ended))
AreAllHeld-told history (Sequence home id) others held rest leaving is same told were =
    let all : AreAllHeld history (Sequence home id ∷ others) held = subst (λ l. AreAllHeld history l held) is were in
    let tells : AreToldNext history (Sequence home id ∷ others) = subst (AreToldNext history) is told in
    let ended : IsLiving history id home → ⊥ = All-head (HasEnded history) (Sequence home id) others tells.have_ended in
    let still : (other : Who) → other ≢ Sequence home id → Contains held other → Contains rest other =
    λ other apart there. other-there (Sequence home id) other rest apart (Contains-permutation held (Sequence home id ∷ rest) other same there) in
    let held_still = All-tail (Contains held) (Sequence home id) others all.ended in
    record {
      components = All-weaker (λ node. Contains held (Node node)) (λ node. Contains rest (Node node)) (λ node there. still (Node node) (λ e. cc) there) (components_of history) all.components;
      living = λ other there living. still (Sequence there other) (λ e. ended (subst (IsLivingSequence history) e living)) (all.living other there living);
      ended = λ k d h. still (get_or others k d) (λ e. let more = tells.rising.0 k d h in let same_number = ap number_of e in omega (arith, more, same_number)) (held_still k d h);
    }

-- what the laws say of a new component or sequence
module _ (laws : LogLaws) (script : ScriptValue) (history : List Entry) (each : EachIsNext script history) where
  -- a component that was made is no new node
  component-apart : (node : ℕ) (other : Who) → node ≡ length (nodes_of history) → WasMade history other → same_who (Node node) other ≡ false
  component-apart node (Node other) new made =
      let below = All-contains (λ n. n < length (nodes_of history)) (components_of history) other (laws.components script history each) made in
      eq-apart node other (λ e. omega (arith, e, below, new))
  component-apart node (Sequence home id) new made = refl

  component-come : (need : declared.Need) (type_name : List ℕ) (performer : Who) (act : Act) → type_name ≡ need.type_name → HasGrown history need.path (Did performer (Made type_name) act)
      → HasCome script history (Did performer (Made type_name) act) need.type_name (Node (length (nodes_of history)))
  component-come need type_name performer act type_is grown =
      let node : ℕ = length (nodes_of history) in
      record {
        made = Contains-push (components_of history) node;
        others = others;
        apart = λ other made. component-apart node other refl made;
        unasked = laws.unasked_nodes script history node each (omega arith);
        types = ap (λ n. (Node node, n) ∷ types_made script history) type_is;
        components =
            All-push (λ n. Contains (components_of history) n ⊎ (Node n ≡ Node node)) (components_of history) node (λ k d h. inl (Contains-get_or (components_of history) k d h)) (inr refl);
        living = λ id home living. inl (living-stays laws.lived (Did performer (Made type_name) act) history grown.starts_none id home living);
      }
    where
      others : (other : Who) → WasMade history other → WasMade (Did performer (Made type_name) act ∷ history) other
      others (Node other) made = Contains-append_left (components_of history) (length (nodes_of history) ∷ []) other made
      others (Sequence home id) made = made

  -- nor is a sequence that was started the new one
  sequence-apart : (id home : ℕ) (other : Who) → id ≡ suc (length (starts_of history)) → WasMade history other → same_who (Sequence home id) other ≡ false
  sequence-apart id home (Node other) new made = refl
  sequence-apart id home (Sequence there other) new made =
      let below : other ≤ length (starts_of history) = All-contains (λ who. number_of who ≤ length (starts_of history)) (all_begun (starts_of history)) (Sequence there other) (all-numbered (starts_of history)) made in
      rw (eq-apart id other (λ e. omega (arith, e, below, new))) refl

  sequence-come : (need : declared.Need) (id : ℕ) (performer : Who) (act : Act) → next_of script history ≡ Need need (Started id) performer act → HasBegun history id performer act (Did performer (Started id) act)
      → HasCome script history (Did performer (Started id) act) need.type_name (Sequence (start_by (nodes_of history) (sequences_of history) performer act).home id)
  sequence-come need id performer act needs begun =
      let home : ℕ = (start_by (nodes_of history) (sequences_of history) performer act).home in
      record {
        made = subst (λ all. Contains all (Sequence home id)) (sym begun.all) (Contains-push (all_begun (starts_of history)) (Sequence home id));
        others = others;
        apart = λ other made. sequence-apart id home other begun.number made;
        unasked = laws.unasked_sequences script history id home each (let number = begun.number in omega (arith, number));
        types = rw needs refl;
        components = λ k d h. inl (Contains-get_or (components_of history) k d h);
        living = λ other there living. living-more laws.lived history performer act id other there begun.number living;
      }
    where
      others : (other : Who) → WasMade history other → WasMade (Did performer (Started id) act ∷ history) other
      others (Node other) made = made
      others (Sequence there other) made =
          subst (λ all. Contains all (Sequence there other)) (sym begun.all)
          (Contains-append_left (all_begun (starts_of history)) (Sequence (start_by (nodes_of history) (sequences_of history) performer act).home id ∷ []) (Sequence there other) made)

  -- the type that is made is that of the need
  type-wanted : (need : declared.Need) (type_name : List ℕ) (performer : Who) (act : Act) → next_of script history ≡ Need need (Made type_name) performer act → type_name ≡ need.type_name
  type-wanted need type_name performer act needs =
      let wanted = laws.wanted script history (rw needs refl) in
      let is = sym needs ∙ wanted.2.next in
      let need_is : need ≡ wanted.2.need = cc in
      let made_is : Made type_name ≡ wanted.2.made = cc in
      let makes : IsMadeBy script history wanted.2.need (Made type_name) wanted.0 = subst (λ made. IsMadeBy script history wanted.2.need made wanted.0) (sym made_is) wanted.2.makes in
      makes.type_is ∙ ap (λ (n : declared.Need). n.type_name) (sym need_is)

  pub has-come : (need : declared.Need) (made : Outcome) (performer : Who) (act : Act) (who : Who) → next_of script history ≡ Need need made performer act → made_who history (Need need made performer act) ≡ Some who
      → HasCome script history (Did performer made act) need.type_name who
  has-come need (Made type_name) performer act who needs is =
      subst (HasCome script history (Did performer (Made type_name) act) need.type_name) (same_Some (Node (length (nodes_of history))) who is)
      (component-come need type_name performer act (type-wanted need type_name performer act needs) (laws.made script history need (Made type_name) performer act needs))
  has-come need (Started id) performer act who needs is =
      subst (HasCome script history (Did performer (Started id) act) need.type_name) (same_Some (Sequence (start_by (nodes_of history) (sequences_of history) performer act).home id) who is)
      (sequence-come need id performer act needs (laws.made script history need (Started id) performer act needs))
  has-come need made performer act who needs is = cc
