-- How what is said of the objects of a run stays true.
use Rattle.bench_run.proofs.Common.{◌≡◌, ◌≢◌, ◌∙◌, ℕ, zero, suc, true, false, List, [], ◌∷◌, length, ◌<◌, get_or, Option, Some, None, Result, Ok, Bor, IsSome, inl, inr, refl, sym, ap, subst, arith, nat_tests, All-cons, All-head, All-tail, All-weaker, All-nil, All-permutation, IsPermutation-sym, IsPermutation-map, IsDistinct-head, IsDistinct-IsPermutation, same_Some, ◌==◌, ◌&&◌, ◌⊎◌, All, Contains, Shared, AllocError, AllByRecursion, IsDistinct, keys_of, option_map_or, Origin, Who, Node, Sequence, Call, Act, NoObject, Refused, Entry, Did, Heard, Exchange, SameSays, Says, View, exchanged_in, life_of, same_who, ScriptValue, Next, Exactly, Answer, Grant, Nothing, Allows, EachIsNext, declined_in, made_in, need_in, next_of, CoreValue, core_after, IsAsked, KernelValue, WasMade, needed_type, open_need, types_made, wanted_in, IsMadeNew, MadeAreNew, OthersMakeNobody, IsBack, IsMoved, IsSameLog, IsSupplied, IsWaiting, WasGiven, IsDeclined, AreKept, AreMade, HasLived, HaveLived, IsFilled, IsGiven, IsHonestBetween, IsKept, IsUnknown, MayGive, IfSome, Bool, Need}
use Rattle.bench_history.specs.declared.needs.Need as declared

-- what a call of a closure gave for the name of a type, it may give
pub may-give : {F O : Type 0} (closure : Shared F (Bor (List ℕ) × Unit {0}) (Result (Option O) AllocError)) (make : F) (shown : Bor (List ℕ)) (result : Result (Option O) AllocError) (type_name : List ℕ) (given : Option O)
    → closure.post make (shown, tt) result → shown.now ≡ type_name → result ≡ Ok given → MayGive closure make type_name given
may-give closure make shown result type_name given met shows is = record { shown = shown; shows = shows; says = record { met = subst (closure.post make (shown, tt)) is met } }

-- two that are one
same_who-true : (who other : Who) → same_who who other ≡ true → who ≡ other
same_who-true (Node node) (Node other) same = ap Node (grind (arith, nat_tests, same))
same_who-true (Sequence home id) (Sequence there other) same = both (id == other) refl same
  where
    both : (is : Bool) → (id == other) ≡ is → (is && (home == there)) ≡ true → Sequence home id ≡ Sequence there other
    both true is same =
        let one : id ≡ other = grind (arith, nat_tests, is) in
        let two : home ≡ there = grind (arith, nat_tests, same) in
        cc
    both false is same = cc
same_who-true (Node node) (Sequence there other) same = cc
same_who-true (Sequence home id) (Node other) same = cc

pub same_who-self : (who : Who) → same_who who who ≡ true
same_who-self (Node node) = grind (arith, nat_tests)
same_who-self (Sequence home id) =
    let one : (id == id) ≡ true = grind (arith, nat_tests) in
    let two : (home == home) ≡ true = grind (arith, nat_tests) in
    rw (one, two) refl

same_who-flips : (who other : Who) → same_who who other ≡ same_who other who
same_who-flips (Node node) (Node other) = grind (arith, nat_tests)
same_who-flips (Sequence home id) (Sequence there other) =
    let one : (id == other) ≡ (other == id) = grind (arith, nat_tests) in
    let two : (home == there) ≡ (there == home) = grind (arith, nat_tests) in
    rw (one, two) refl
same_who-flips (Node node) (Sequence there other) = refl
same_who-flips (Sequence home id) (Node other) = refl

-- what holds of each key holds of the key of each
All-keys : {O : Type 0} (P : Who → Type 0) (held : List (Who × O)) → AllByRecursion P (keys_of held) → All (λ (seat : Who × O). P seat.0) held
All-keys P [] all = All-nil (λ seat. P seat.0)
All-keys P (seat ∷ held) all = All-cons (λ seat. P seat.0) seat held all.0 (All-keys P held all.1)

-- who was heard has one exchange more, and every other as many as before
pub heard-same : (performer : Who) (call : Call) (origin : Option Origin) (acts : List Act) (history : List Entry)
    → life_of performer (Heard performer origin call acts ∷ history) ≡ (call, acts) ∷ life_of performer history
heard-same performer call origin acts history = rw (same_who-self performer) refl

heard-other : (performer other : Who) (call : Call) (origin : Option Origin) (acts : List Act) (history : List Entry) → same_who performer other ≡ false
    → life_of other (Heard performer origin call acts ∷ history) ≡ life_of other history
heard-other performer other call origin acts history apart = rw apart refl

silent-same : (who : Who) (entry : Entry) (history : List Entry) → exchanged_in who entry ≡ [] → life_of who (entry ∷ history) ≡ life_of who history
silent-same who entry history silent = rw silent refl

-- what holds of each by recursion holds of each
pub All-from_recursion : {X : Type 0} (P : X → Type 0) (xs : List X) → AllByRecursion P xs → All P xs
All-from_recursion P [] all = All-nil P
All-from_recursion P (x ∷ xs) all = All-cons P x xs all.0 (All-from_recursion P xs all.1)

-- who is named with a type is named
pub contains-key : (types : List (Who × List ℕ)) (made : Who × List ℕ) → Contains types made → Contains (keys_of types) made.0
contains-key [] made there = let low = there.1 in absurd (omega (arith, low))
contains-key (first ∷ types) made there = go (contains-key types made) there.0 there.1 there.2
  where
    go : (Contains types made → Contains (keys_of types) made.0) → (k : ℕ) → k < length (first ∷ types) → get_or (first ∷ types) k made ≡ made → Contains (keys_of (first ∷ types)) made.0
    go rest zero within is = (0, omega arith, ap (λ (m : Who × List ℕ). m.0) is)
    go rest (suc k) within is = let there = rest (k, omega (arith, within), is) in (suc there.0, omega (arith, there.1), there.2)

-- an entry that is not an answer asks no component or sequence
silent-made : (script : ScriptValue) (entry : Entry) (history : List Entry) → ((who : Who) → exchanged_in who entry ≡ []) → AreMade script history → AreMade script (entry ∷ history)
silent-made script (Heard performer origin call acts) history silent made = absurd (let bad = rw (same_who-self performer) at (silent performer) in cc)
silent-made script entry history silent made = made

-- one more exchange
more-honest : (says others : Says) (first before after : View) (call : Call) (acts : List Act) (life : List Exchange) → SameSays says others → says before call acts after
    → IsHonestBetween others first before life → IsHonestBetween others first after ((call, acts) ∷ life)
more-honest says others first before after call acts life same said honest =
    record { earlier = before ∷ honest.earlier; begins = honest.begins; honest = ((same before call acts after).0 said, honest.honest) }

SameSays-chain : (says others last : Says) → SameSays says others → SameSays others last → SameSays says last
SameSays-chain says others last same more before call acts after =
    ((λ s. (more before call acts after).0 ((same before call acts after).0 s)), (λ s. (same before call acts after).1 ((more before call acts after).1 s)))

-- the entry of an object that was needed is not an answer
made-silent : (comes : Next) (entry : Entry) (who : Who) → made_in comes ≡ Some entry → exchanged_in who entry ≡ []
made-silent (Need need made performer act) entry who is = subst (λ (e : Entry). exchanged_in who e ≡ []) (same_Some (Did performer made act) entry is) refl
made-silent (Exactly expected) entry who is = cc
made-silent (Answer hearer call origin) entry who is = cc
made-silent (Grant sequencer drawn chosen) entry who is = cc
made-silent Nothing entry who is = cc

made-allowed : (comes : Next) (entry : Entry) → made_in comes ≡ Some entry → Allows comes entry
made-allowed (Need need made performer act) entry is = inl (sym (same_Some (Did performer made act) entry is))
made-allowed (Exactly expected) entry is = cc
made-allowed (Answer hearer call origin) entry is = cc
made-allowed (Grant sequencer drawn chosen) entry is = cc
made-allowed Nothing entry is = cc

declined-allowed : (comes : Next) (entry : Entry) → declined_in comes ≡ Some entry → Allows comes entry
declined-allowed (Need need made performer act) entry is = inr (sym (same_Some (Did performer (Refused NoObject) act) entry is))
declined-allowed (Exactly expected) entry is = cc
declined-allowed (Answer hearer call origin) entry is = cc
declined-allowed (Grant sequencer drawn chosen) entry is = cc
declined-allowed Nothing entry is = cc

declined-types : (comes : Next) (entry : Entry) (script : ScriptValue) (history : List Entry) → declined_in comes ≡ Some entry → types_made script (entry ∷ history) ≡ types_made script history
declined-types (Need need made performer act) entry script history is =
    subst (λ (e : Entry). types_made script (e ∷ history) ≡ types_made script history) (same_Some (Did performer (Refused NoObject) act) entry is) refl
declined-types (Exactly expected) entry script history is = cc
declined-types (Answer hearer call origin) entry script history is = cc
declined-types (Grant sequencer drawn chosen) entry script history is = cc
declined-types Nothing entry script history is = cc

declined-silent : (comes : Next) (entry : Entry) (who : Who) → declined_in comes ≡ Some entry → exchanged_in who entry ≡ []
declined-silent (Need need made performer act) entry who is = subst (λ (e : Entry). exchanged_in who e ≡ []) (same_Some (Did performer (Refused NoObject) act) entry is) refl
declined-silent (Exactly expected) entry who is = cc
declined-silent (Answer hearer call origin) entry who is = cc
declined-silent (Grant sequencer drawn chosen) entry who is = cc
declined-silent Nothing entry who is = cc

-- no component or sequence is held before the first entry
nobody-held : {O : Type 0} (held : List (Who × O)) → All (WasMade []) (keys_of held) → held ≡ []
nobody-held [] made = refl
nobody-held (seat ∷ held) made = absurd (nobody seat.0 (All-head (WasMade []) seat.0 (keys_of held) made))
  where
    nobody : (who : Who) → WasMade [] who → ⊥
    nobody (Node node) there = let low = there.1 in absurd (omega (arith, low))
    nobody (Sequence home id) there = let low = there.1 in absurd (omega (arith, low))

module _ {O : Type 0} (view : O → View) (name : O → List ℕ) (says : O → Says) (Makes : List ℕ → Option O → Type 0) where
  abbrev Lived : ScriptValue → List Entry → Who → Type 0
  Lived = HasLived view name says Makes

  abbrev Stays : ScriptValue → List Entry → Who × O → Type 0
  Stays = IsKept view name says Makes

  -- who has lived has one entry later, if it was asked nothing in it
  lived-later : (script : ScriptValue) (entry : Entry) (history : List Entry) (who : Who) → ((made : Who × List ℕ) → Contains (types_made script history) made → Contains (types_made script (entry ∷ history)) made)
      → life_of who (entry ∷ history) ≡ life_of who history → Lived script history who → Lived script (entry ∷ history) who
  lived-later script entry history who stays same lived =
      record {
        type_name = lived.type_name;
        made = stays (who, lived.type_name) lived.made;
        object = lived.object;
        given = lived.given;
        last = lived.last;
        honest = subst (IsHonestBetween (says lived.object) (view lived.object) lived.last) (sym same) lived.honest;
      }

  kept-later : (script : ScriptValue) (entry : Entry) (history : List Entry) (seat : Who × O) → ((made : Who × List ℕ) → Contains (types_made script history) made → Contains (types_made script (entry ∷ history)) made)
      → life_of seat.0 (entry ∷ history) ≡ life_of seat.0 history → Stays script history seat → Stays script (entry ∷ history) seat
  kept-later script entry history seat stays same kept =
      record {
        type_name = kept.type_name;
        made = stays (seat.0, kept.type_name) kept.made;
        object = kept.object;
        given = kept.given;
        same_says = kept.same_says;
        honest = subst (IsHonestBetween (says kept.object) (view kept.object) (view seat.1)) (sym same) kept.honest;
      }

  -- who is held has lived
  kept-lived : (script : ScriptValue) (history : List Entry) (seat : Who × O) → Stays script history seat → Lived script history seat.0
  kept-lived script history seat kept =
      record { type_name = kept.type_name; made = kept.made; object = kept.object; given = kept.given; last = view seat.1; honest = kept.honest }

  -- who is asked is none of the others
  others-differ : (who : Who) (call : Call) (acts : List Act) (old new : List (Who × O)) (asked : IsAsked view name says who call (Ok acts) old new) → IsDistinct same_who (keys_of old)
      → All (λ (seat : Who × O). same_who who seat.0 ≡ false) asked.others
  others-differ who call acts old new asked distinct =
      All-keys (λ other. same_who who other ≡ false) asked.others
      (IsDistinct-head same_who who (keys_of asked.others)
      (IsDistinct-IsPermutation same_who same_who-flips (keys_of old) (who ∷ keys_of asked.others)
      (IsPermutation-map (λ (seat : Who × O). seat.0) old ((who, asked.before) ∷ asked.others) (IsPermutation-sym ((who, asked.before) ∷ asked.others) old asked.was)) distinct))

  -- nothing was made and no component or sequence lived
  pub begins : (kernel : KernelValue O) → kernel.core.history ≡ [] → All (WasMade kernel.core.history) (keys_of kernel.held) → AreKept view name says Makes kernel
  begins kernel none made =
      let held : kernel.held ≡ [] = nobody-held kernel.held (subst (λ history. All (WasMade history) (keys_of kernel.held)) none made) in
      record {
        each = rw none tt;
        lived = rw none (record { filled = tt; asked = tt; lived = All-nil (Lived kernel.core.script []) });
        kept = rw held (All-nil (Stays kernel.core.script kernel.core.history));
      }

  -- one who has ended is given back
  pub kept-back : (who : Who) (object : O) (old new : KernelValue O) → IsBack view name says who object old new → AreKept view name says Makes old → AreKept view name says Makes new
  kept-back who object old new back kept =
      subst (AreKept view name says Makes) (sym back.is)
      (record {
        each = kept.each;
        lived = kept.lived;
        kept = All-tail (Stays old.core.script old.core.history) (who, object) new.held
            (All-permutation (Stays old.core.script old.core.history) old.held ((who, object) ∷ new.held) (IsPermutation-sym ((who, object) ∷ new.held) old.held back.held) kept.kept);
      })

  -- an entry that is not an answer, and makes no component or sequence
  silent-kept : (script : ScriptValue) (entry : Entry) (history : List Entry) (held : List (Who × O)) → ((who : Who) → exchanged_in who entry ≡ []) → types_made script (entry ∷ history) ≡ types_made script history
      → Allows (next_of script history) entry → IsFilled view name says Makes (next_of script history) entry → EachIsNext script history
      → HaveLived view name says Makes script history → All (Stays script history) held
      → EachIsNext script (entry ∷ history) × HaveLived view name says Makes script (entry ∷ history) × All (Stays script (entry ∷ history)) held
  silent-kept script entry history held silent types allowed filled each lived kept =
      let stays : (made : Who × List ℕ) → Contains (types_made script history) made → Contains (types_made script (entry ∷ history)) made = λ made there. subst (λ all. Contains all made) (sym types) there in (
        (allowed, each),
        record {
          filled = (filled, lived.filled);
          asked = silent-made script entry history silent lived.asked;
          lived = subst (λ (all : List (Who × List ℕ)). All (Lived script (entry ∷ history)) (keys_of all)) (sym types)
              (All-weaker (Lived script history) (Lived script (entry ∷ history)) (λ who was. lived-later script entry history who stays (silent-same who entry history (silent who)) was) (keys_of (types_made script history)) lived.lived);
        },
        All-weaker (Stays script history) (Stays script (entry ∷ history)) (λ seat was. kept-later script entry history seat stays (silent-same seat.0 entry history (silent seat.0)) was) held kept,
      )

  -- the answer of a component or sequence
  heard-kept : (script : ScriptValue) (performer : Who) (call : Call) (origin : Option Origin) (acts : List Act) (history : List Entry) (old new : List (Who × O)) → IsAsked view name says performer call (Ok acts) old new
      → IsDistinct same_who (keys_of old) → Allows (next_of script history) (Heard performer origin call acts) → IsFilled view name says Makes (next_of script history) (Heard performer origin call acts) → EachIsNext script history
      → HaveLived view name says Makes script history → All (Stays script history) old
      → EachIsNext script (Heard performer origin call acts ∷ history) × HaveLived view name says Makes script (Heard performer origin call acts ∷ history) × All (Stays script (Heard performer origin call acts ∷ history)) new
  heard-kept script performer call origin acts history old new asked distinct allowed filled each lived kept = (
    (allowed, each),
    record {
      filled = (filled, lived.filled);
      asked = (contains-key (types_made script history) (performer, was.type_name) was.made, lived.asked);
      lived = All-weaker (Lived script history) (Lived script after) (λ who was. by-who who (same_who performer who) refl was) (keys_of (types_made script history)) lived.lived;
    },
    All-permutation (Stays script after) ((performer, asked.after) ∷ asked.others) new asked.is
        (All-cons (Stays script after) (performer, asked.after) asked.others performed
        (λ k d h. other (get_or asked.others k d) (apart k d h) (rest k d h))),
  )
    where
      after : List Entry
      after = Heard performer origin call acts ∷ history

      stays : (made : Who × List ℕ) → Contains (types_made script history) made → Contains (types_made script after) made
      stays made there = there

      were : All (Stays script history) ((performer, asked.before) ∷ asked.others)
      were = All-permutation (Stays script history) old ((performer, asked.before) ∷ asked.others) (IsPermutation-sym ((performer, asked.before) ∷ asked.others) old asked.was) kept

      rest : All (Stays script history) asked.others
      rest = All-tail (Stays script history) (performer, asked.before) asked.others were

      apart : All (λ (seat : Who × O). same_who performer seat.0 ≡ false) asked.others
      apart = others-differ performer call acts old new asked distinct

      other : (seat : Who × O) → same_who performer seat.0 ≡ false → Stays script history seat → Stays script after seat
      other seat differs was = kept-later script (Heard performer origin call acts) history seat stays (heard-other performer seat.0 call origin acts history differs) was

      was : Stays script history (performer, asked.before)
      was = All-head (Stays script history) (performer, asked.before) asked.others were

      performed : Stays script after (performer, asked.after)
      performed = record {
        type_name = was.type_name;
        made = was.made;
        object = was.object;
        given = was.given;
        same_says = SameSays-chain (says asked.after) (says asked.before) (says was.object) asked.same_says was.same_says;
        honest = subst (IsHonestBetween (says was.object) (view was.object) (view asked.after)) (sym (heard-same performer call origin acts history))
            (more-honest (says asked.before) (says was.object) (view was.object) (view asked.before) (view asked.after) call acts (life_of performer history) was.same_says asked.said was.honest);
      }

      by-who : (who : Who) (same : Bool) → same_who performer who ≡ same → Lived script history who → Lived script after who
      by-who who true is lived = subst (Lived script after) (same_who-true performer who is) (kept-lived script after (performer, asked.after) performed)
      by-who who false is lived = lived-later script (Heard performer origin call acts) history who stays (heard-other performer who call origin acts history is) lived

  unneeded-filled : (comes : Next) (entry : Entry) → need_in comes ≡ None → IsFilled view name says Makes comes entry
  unneeded-filled (Need need made performer act) entry none = cc
  unneeded-filled (Exactly expected) entry none = tt
  unneeded-filled (Answer hearer call origin) entry none = tt
  unneeded-filled (Grant sequencer drawn chosen) entry none = tt
  unneeded-filled Nothing entry none = tt

  -- an entry for which no object was needed
  pub kept-moved : OthersMakeNobody → (old new : KernelValue O) → IsMoved view name says old new → IsDistinct same_who (keys_of old.held) → AreKept view name says Makes old → AreKept view name says Makes new
  kept-moved law old new moved distinct kept =
      let all = go moved.entry new.held moved.given moved.next (unneeded-filled (next_of old.core.script old.core.history) moved.entry moved.unneeded) (law old.core.script old.core.history moved.entry moved.unneeded moved.next) in
      subst (AreKept view name says Makes) (sym moved.is) (record { each = all.0; lived = all.1; kept = all.2 })
    where
      go : (entry : Entry) (held : List (Who × O)) → WasGiven view name says entry old.held held → Allows (next_of old.core.script old.core.history) entry → IsFilled view name says Makes (next_of old.core.script old.core.history) entry
          → types_made old.core.script (entry ∷ old.core.history) ≡ types_made old.core.script old.core.history
          → EachIsNext old.core.script (entry ∷ old.core.history) × HaveLived view name says Makes old.core.script (entry ∷ old.core.history) × All (Stays old.core.script (entry ∷ old.core.history)) held
      go (Heard performer origin call acts) held given allowed filled types =
          heard-kept old.core.script performer call origin acts old.core.history old.held held given distinct allowed filled kept.each kept.lived kept.kept
      go entry held given allowed filled types =
          silent-kept old.core.script entry old.core.history held (λ who. refl) types allowed filled kept.each kept.lived (subst (All (Stays old.core.script old.core.history)) (sym given) kept.kept)

  -- an object was needed and declined, since none is given for its type
  pub kept-declined : (old new : KernelValue O) → IfSome (declined_in (next_of old.core.script old.core.history)) (λ entry. new ≡ record old { core = core_after entry old.core }) → IsSome (declined_in (next_of old.core.script old.core.history))
      → open_need old ≡ need_in (next_of old.core.script old.core.history) → IsUnknown view name says Makes (wanted_in old) → AreKept view name says Makes old → AreKept view name says Makes new
  kept-declined old new becomes one asked unknown kept = go (declined_in (next_of old.core.script old.core.history)) refl becomes one
    where
      wanted : wanted_in old ≡ needed_type old.core.script old.core.history
      wanted = ap (λ (need : Option declared.Need). option_map_or (λ need. need.type_name) need []) asked

      filled : (comes : Next) (entry : Entry) → declined_in comes ≡ Some entry → IsUnknown view name says Makes (option_map_or (λ need. need.type_name) (need_in comes) []) → IsFilled view name says Makes comes entry
      filled (Need need made performer act) entry is none = inr (sym (same_Some (Did performer (Refused NoObject) act) entry is), none)
      filled (Exactly expected) entry is none = tt
      filled (Answer hearer call origin) entry is none = tt
      filled (Grant sequencer drawn chosen) entry is none = tt
      filled Nothing entry is none = tt

      go : (declined : Option Entry) → declined_in (next_of old.core.script old.core.history) ≡ declined → IfSome declined (λ entry. new ≡ record old { core = core_after entry old.core }) → IsSome declined → AreKept view name says Makes new
      go None is becomes one = let bad = one in cc
      go (Some entry) is becomes one =
          let all = silent-kept old.core.script entry old.core.history old.held (λ who. declined-silent (next_of old.core.script old.core.history) entry who is) (declined-types (next_of old.core.script old.core.history) entry old.core.script old.core.history is)
          (declined-allowed (next_of old.core.script old.core.history) entry is)
          (filled (next_of old.core.script old.core.history) entry is (subst (IsUnknown view name says Makes) wanted unknown)) kept.each kept.lived kept.kept in
          subst (AreKept view name says Makes) (sym becomes) (record { each = all.0; lived = all.1; kept = all.2 })

  -- an object was needed and supplied
  pub kept-supplied : MadeAreNew → (object : O) (old new : KernelValue O) → IsSupplied view name says object old new → open_need old ≡ need_in (next_of old.core.script old.core.history) → Makes (wanted_in old) (Some object)
      → AreKept view name says Makes old → AreKept view name says Makes new
  kept-supplied law object old new supplied asked gives kept =
      subst (AreKept view name says Makes) (sym supplied.is)
      (record {
        each = (made-allowed (next_of script history) entry supplied.next, kept.each);
        lived = record {
          filled = (filled (next_of script history) supplied.next given, kept.lived.filled);
          asked = silent-made script entry history (λ who. made-silent (next_of script history) entry who supplied.next) kept.lived.asked;
          lived = subst (λ (all : List (Who × List ℕ)). All (Lived script after) (keys_of all)) (sym come.types)
              (All-cons (Lived script after) supplied.who (keys_of (types_made script history)) (kept-lived script after (supplied.who, object) newcomer)
              (All-weaker (Lived script history) (Lived script after) (λ who was. lived-later script entry history who stays (same who) was) (keys_of (types_made script history)) kept.lived.lived));
        };
        kept = All-permutation (Stays script after) ((supplied.who, object) ∷ old.held) new.held supplied.held
            (All-cons (Stays script after) (supplied.who, object) old.held newcomer
            (All-weaker (Stays script history) (Stays script after) (λ seat was. kept-later script entry history seat stays (same seat.0) was) old.held kept.kept));
      })
    where
      script : ScriptValue
      script = old.core.script

      history : List Entry
      history = old.core.history

      entry : Entry
      entry = supplied.entry

      after : List Entry
      after = entry ∷ history

      come : IsMadeNew script history entry supplied.who
      come = law script history entry supplied.who kept.each supplied.next supplied.made

      wanted : wanted_in old ≡ needed_type script history
      wanted = ap (λ (need : Option declared.Need). option_map_or (λ need. need.type_name) need []) asked

      given : IsGiven view name says Makes (needed_type script history) object
      given = subst (λ type_name. IsGiven view name says Makes type_name object) wanted (record { gives = gives; named = supplied.fits })

      same : (who : Who) → life_of who after ≡ life_of who history
      same who = silent-same who entry history (made-silent (next_of script history) entry who supplied.next)

      stays : (made : Who × List ℕ) → Contains (types_made script history) made → Contains (types_made script after) made
      stays made there = subst (λ all. Contains all made) (sym come.types) (suc there.0, omega (arith, there.1), there.2)

      newcomer : Stays script after (supplied.who, object)
      newcomer = record {
        type_name = needed_type script history;
        made = subst (λ all. Contains all (supplied.who, needed_type script history)) (sym come.types) (0, omega arith, refl);
        object = object;
        given = given;
        same_says = λ before call acts next. ((λ s. s), (λ s. s));
        honest = subst (IsHonestBetween (says object) (view object) (view object)) (sym (same supplied.who ∙ come.unasked)) (record { earlier = []; begins = refl; honest = tt });
      }

      filled : (comes : Next) → made_in comes ≡ Some entry → IsGiven view name says Makes (option_map_or (λ need. need.type_name) (need_in comes) []) object → IsFilled view name says Makes comes entry
      filled (Need need made performer act) is given = inl (sym (same_Some (Did performer made act) entry is), object, given)
      filled (Exactly expected) is given = tt
      filled (Answer hearer call origin) is given = tt
      filled (Grant sequencer drawn chosen) is given = tt
      filled Nothing is given = tt

  -- an object was needed, and one is given: it was supplied, or it is of another type, and was declined
  pub kept-filled : MadeAreNew → (object : O) (old new : KernelValue O) → open_need old ≡ need_in (next_of old.core.script old.core.history) → Makes (wanted_in old) (Some object)
      → IsSupplied view name says object old new ⊎ ((name object ≢ wanted_in old) × IsDeclined old new) → AreKept view name says Makes old → AreKept view name says Makes new
  kept-filled law object old new asked gives (inl supplied) kept = kept-supplied law object old new supplied asked gives kept
  kept-filled law object old new asked gives (inr declined) kept =
      kept-declined old new declined.1.becomes declined.1.one asked (record { given = Some object; gives = gives; none = declined.0 }) kept

  -- what a kernel waits for changes nothing of its objects
  pub kept-waiting : (old new : KernelValue O) → IsWaiting view name says old new → AreKept view name says Makes old → AreKept view name says Makes new
  kept-waiting old new waiting kept = subst (AreKept view name says Makes) (sym waiting.is) (record { each = kept.each; lived = kept.lived; kept = kept.kept })

  -- and it waits for what comes next
  pub waits-for-next : (old new : KernelValue O) → IsWaiting view name says old new → old.failed ≡ false → open_need new ≡ need_in (next_of new.core.script new.core.history)
  waits-for-next old new waiting going =
      subst (λ (k : KernelValue O). open_need k ≡ need_in (next_of k.core.script k.core.history)) (sym waiting.is) (rw going (sym waiting.next))

  -- the log is the same
  pub lived-same : (old new : CoreValue) → IsSameLog old new → HaveLived view name says Makes old.script old.history → HaveLived view name says Makes new.script new.history
  lived-same old new same lived =
      subst (λ script. HaveLived view name says Makes script new.history) (sym same.script) (subst (HaveLived view name says Makes old.script) (sym same.history) lived)

  -- nothing was needed yet
  pub none-lived : (script : ScriptValue) → HaveLived view name says Makes script []
  none-lived script = record { filled = tt; asked = tt; lived = All-nil (Lived script []) }
