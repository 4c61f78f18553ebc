-- What stays true of a kernel.
use Rattle.bench_kernel.proofs.Common.{◌≡◌, ◌≢◌, ◌∙◌, ◌<◌, ℕ, suc, Bool, true, false, List, [], ◌∷◌, length, Option, Some, None, Ok, Result, inl, inr, refl, sym, ap, subst, arith, All-contains, All-head, All-nil, All-weaker, Contains-permutation, IsPermutation-map, IsPermutation-sym, All, Contains, IsDistinct, IsPermutation, keys_of, AllocError, Origin, View, Says, IsHonestNow, exchanged_in, life_of, same_who, Who, Node, Sequence, Call, Act, Outcome, Refused, Entry, Heard, Did, NoObject, ScriptValue, nodes_of, components_of, is_over, starts_of, leaving_of, Next, Answer, next_of, IsNext, IsLiving, IsMachines, IsSomething, IsThere, NothingAfterOver, made_who, CoreValue, Needed, core_after, Good, IsAsked, LogLaws, all_held, Taken, paths_in, AreSeated, AreToldNext, HasEnded, IsKernel, KernelValue, WasMade, is_done, types_made, who_held, IsSameLog, Need, Nothing}
use Rattle.bench_history.specs.Cases as next
use Rattle.bench_history.specs.Next as coming
use Rattle.bench_kernel.proofs.Custody.{AreAllHeld-come, AreAllHeld-later, AreAllHeld-told, WasMade-same, has-come, told-less, told-next, types-same}
use Rattle.bench_kernel.proofs.Held.{AreHeld-asked, AreHeld-come, AreHeld-later, AreHeld-less, Sits}
use Rattle.bench_kernel.proofs.Lives.{LiveHonestly-heard, LiveHonestly-unanswered, LiveHonestly-silent, LiveHonestly-more, LiveHonestly-less}
use Rattle.bench_kernel.proofs.Sitting.{components-hold}

-- where something comes the run is not over
pub on-where-some : NothingAfterOver → (script : ScriptValue) (history : List Entry) (comes : Next) → next_of script history ≡ comes → IsSomething comes → is_over history ≡ false
on-where-some over script history comes is some = go (is_over history) refl
  where
    go : (b : Bool) → is_over history ≡ b → is_over history ≡ false
    go false e = e
    go true e = absurd (subst IsSomething (sym is ∙ over script history e) some)

-- a run that has a component or sequence to tell goes on
on-where-told : (history : List Entry) (who : Who) (others leaving : List Who) → leaving ≡ who ∷ others → AreToldNext history leaving → is_over history ≡ false
on-where-told history who others leaving is told = go (is_over history) refl
  where
    go : (b : Bool) → is_over history ≡ b → is_over history ≡ false
    go false e = e
    go true e = let bad = sym is ∙ told.over e in cc

module _ {O : Type 0} (view : O → View) (name : O → List ℕ) (says : O → Says) where
  -- an object gave no answer
  pub kept-unanswered : (kernel : KernelValue O) (held : List (Who × O)) (core : CoreValue) (performer asking : Who) (call : Call) (answer : Result (List Act) AllocError) → asking ≡ performer → kernel.failed ≡ false
      → IsSameLog kernel.core core → IsAsked view name says performer call answer kernel.held held → IsKernel view name says kernel
      → IsKernel view name says (record { core = core; held = held; failed = true; unknown = Some asking })
  kept-unanswered kernel held core performer asking call answer same_who going same_log asked kept =
      let same = same_log.history in
      rw same_who (record {
        each = rw (same, same_log.script) kept.each;
        honest = rw same (LiveHonestly-unanswered view name says performer call answer kernel.held held kernel.core.history asked (rw (kept.known going) at (kept.honest)));
        custody =
            rw (same, same_log.script)
            (AreHeld-later name (is_done kernel) true kernel.core.script kernel.core.history kernel.core.history kernel.core.leaving core.leaving held (λ who made. made) refl (λ on. cc)
            (AreHeld-asked name view says performer call answer kernel.held held (is_done kernel) kernel.core.script kernel.core.history kernel.core.leaving asked kept.custody));
        good = λ h. cc;
        comes = λ h. cc;
        told = λ h. cc;
        known = λ h. cc;
      })

  -- the machine asks for an object
  pub kept-needed : (kernel : KernelValue O) (need : Need) → coming.need_in (next_of kernel.core.script kernel.core.history) ≡ Some need → IsKernel view name says kernel
      → IsKernel view name says (record kernel { core = record kernel.core { standing = Needed need } })
  kept-needed kernel need comes kept = record {
    each = kept.each;
    honest = kept.honest;
    custody = kept.custody;
    good = kept.good;
    comes = λ going. comes;
    told = kept.told;
    known = kept.known;
  }

  -- the machine has failed
  pub kept-failed : (kernel : KernelValue O) (core : CoreValue) → IsSameLog kernel.core core → IsKernel view name says kernel → IsKernel view name says (record kernel { core = core; failed = true })
  kept-failed kernel core same kept = record {
    each = rw (same.history, same.script) kept.each;
    honest = rw same.history kept.honest;
    custody =
        rw (same.history, same.script)
        (AreHeld-later name (is_done kernel) true kernel.core.script kernel.core.history kernel.core.history kernel.core.leaving core.leaving kernel.held (λ who made. made) refl (λ on. cc) kept.custody);
    good = λ going. cc;
    comes = λ going. cc;
    told = λ going. cc;
    known = λ going. cc;
  }

  -- an object was given back once the kernel was done
  pub kept-given : (kernel : KernelValue O) (held : List (Who × O)) (back : Who × O) → is_done kernel ≡ true → IsPermutation (back ∷ held) kernel.held → IsKernel view name says kernel
      → IsKernel view name says (record kernel { held = held })
  kept-given kernel held back done same kept = record {
    each = kept.each;
    honest = LiveHonestly-less view name says kernel.held held back kernel.core.history kernel.unknown same kept.honest;
    custody =
        AreHeld-less name kernel.core.script kernel.core.history kernel.core.leaving kernel.core.leaving kernel.held held back (is_done kernel) (is_done kernel) same
        (λ on. let bad : true ≡ false = sym done ∙ on in cc) kept.custody;
    good = kept.good;
    comes = kept.comes;
    told = kept.told;
    known = kept.known;
  }

  -- the first of those that are to be told has ended, and is held
  pub leaver-ended : (kernel : KernelValue O) (who : Who) (others : List Who) → kernel.core.leaving ≡ who ∷ others → kernel.failed ≡ false → IsKernel view name says kernel → HasEnded kernel.core.history who
  leaver-ended kernel who others is going kept = All-head (HasEnded kernel.core.history) who others (subst (All (HasEnded kernel.core.history)) is (kept.told going).have_ended)

  pub leaver-held : (kernel : KernelValue O) (who : Who) (others : List Who) → kernel.core.leaving ≡ who ∷ others → kernel.failed ≡ false → IsKernel view name says kernel → Contains (who_held kernel) who
  leaver-held kernel who others is going kept =
      let on : is_over kernel.core.history ≡ false = on-where-told kernel.core.history who others kernel.core.leaving is (kept.told going) in
      let whole = kept.custody.whole (rw (going, on) refl) in
      All-head (Contains (who_held kernel)) who others (subst (All (Contains (who_held kernel))) is whole.ended)

  -- and is given back
  pub kept-told : (kernel : KernelValue O) (who : Who) (others : List Who) (object : O) (held : List (Who × O)) → kernel.core.leaving ≡ who ∷ others → kernel.failed ≡ false → IsPermutation ((who, object) ∷ held) kernel.held → IsKernel view name says kernel
      → IsKernel view name says (record kernel { core = record kernel.core { leaving = others }; held = held })
  kept-told kernel who others object held is going same kept =
      let history = kernel.core.history in
      let keys : IsPermutation (keys_of kernel.held) (who ∷ keys_of held) =
      IsPermutation-map (λ (seat : Who × O). seat.0) kernel.held ((who, object) ∷ held) (IsPermutation-sym ((who, object) ∷ held) kernel.held same) in
      record {
        each = kept.each;
        honest = LiveHonestly-less view name says kernel.held held (who, object) history kernel.unknown same kept.honest;
        custody =
            AreHeld-less name kernel.core.script history kernel.core.leaving others kernel.held held (who, object) (is_done kernel) (is_done kernel) same
            (λ on. AreAllHeld-told history who others (keys_of kernel.held) (keys_of held) kernel.core.leaving is keys (kept.told going) (kept.custody.whole on)) kept.custody;
        good = kept.good;
        comes = kept.comes;
        told = λ h. told-less history who others kernel.core.leaving is (kept.told going);
        known = kept.known;
      }

module _ (laws : LogLaws) {O : Type 0} (view : O → View) (name : O → List ℕ) (says : O → Says) where
  -- the components that are held are nodes
  pub below : (kernel : KernelValue O) (taken : List (Taken O)) (sequences : List (Who × O)) → kernel.held ≡ all_held taken sequences → IsKernel view name says kernel
      → All (λ (place : List (List ℕ) × ℕ). place.1 < length (nodes_of kernel.core.history)) (paths_in taken)
  below kernel taken sequences is kept =
      let made : All (WasMade kernel.core.history) (keys_of (all_held taken sequences)) = subst (λ (held : List (Who × O)). All (WasMade kernel.core.history) (keys_of held)) is kept.custody.made in
      All-weaker (λ (place : List (List ℕ) × ℕ). WasMade kernel.core.history (Node place.1)) (λ place. place.1 < length (nodes_of kernel.core.history))
      (λ place there. All-contains (λ node. node < length (nodes_of kernel.core.history)) (components_of kernel.core.history) place.1 (laws.components kernel.core.script kernel.core.history kept.each) there)
      (paths_in taken) (components-hold (WasMade kernel.core.history) taken sequences made)

  -- an entry that makes no component or sequence, of which no life tells
  kept-later : (kernel : KernelValue O) (entry : Entry) → kernel.failed ≡ false → is_over kernel.core.history ≡ false → IsNext kernel.core.script kernel.core.history entry → ((hearer : Who) → exchanged_in hearer entry ≡ [])
      → components_of (entry ∷ kernel.core.history) ≡ components_of kernel.core.history → starts_of (entry ∷ kernel.core.history) ≡ starts_of kernel.core.history → IsKernel view name says kernel
      → IsKernel view name says (record kernel { core = core_after entry kernel.core })
  kept-later kernel entry going on comes silent components begun kept =
      let script = kernel.core.script in
      let history = kernel.core.history in
      let leave = laws.leavers script history entry kept.each comes in
      record {
        each = (comes, kept.each);
        honest = LiveHonestly-silent view name says entry history kernel.held kernel.unknown silent kept.honest;
        custody =
            AreHeld-later name (is_done kernel) (is_done (record kernel { core = core_after entry kernel.core })) script history (entry ∷ history) kernel.core.leaving (leaving_of (entry ∷ history)) kernel.held
            (WasMade-same history (entry ∷ history) components begun) (types-same script entry history components begun)
            (λ more. AreAllHeld-later laws.lived entry history kernel.core.leaving (who_held kernel) components begun leave (kept.custody.whole (rw (going, on) refl))) kept.custody;
        good = kept.good;
        comes = λ h. tt;
        told = λ h. told-next history entry leave;
        known = kept.known;
      }

  -- the machine made an entry
  pub kept-moved : (kernel : KernelValue O) (entry : Entry) → IsNext kernel.core.script kernel.core.history entry → IsSomething (next_of kernel.core.script kernel.core.history) → IsMachines kernel.core.history entry
      → kernel.failed ≡ false → IsKernel view name says kernel → IsKernel view name says (record kernel { core = core_after entry kernel.core })
  kept-moved kernel entry next something machines going kept =
      let on : is_over kernel.core.history ≡ false = on-where-some laws.over kernel.core.script kernel.core.history (next_of kernel.core.script kernel.core.history) refl something in
      kept-later kernel entry going on next machines.silent machines.keeps machines.starts_none kept

  -- a needed object was declined
  pub kept-declined : (kernel : KernelValue O) (need : Need) (made : Outcome) (performer : Who) (act : Act) → next_of kernel.core.script kernel.core.history ≡ next.Need need made performer act → kernel.failed ≡ false
      → IsKernel view name says kernel → IsKernel view name says (record kernel { core = core_after (Did performer (Refused NoObject) act) kernel.core })
  kept-declined kernel need made performer act needs going kept =
      let on : is_over kernel.core.history ≡ false = on-where-some laws.over kernel.core.script kernel.core.history (next.Need need made performer act) needs tt in
      kept-later kernel (Did performer (Refused NoObject) act) going on (rw needs (inr refl)) (λ hearer. refl) refl refl kept

  -- who is asked is held
  pub asked-held : (kernel : KernelValue O) (performer : Who) (call : Call) (origin : Option Origin) → next_of kernel.core.script kernel.core.history ≡ Answer performer call origin → kernel.failed ≡ false
      → IsThere kernel.core.history performer → IsKernel view name says kernel → Contains (who_held kernel) performer
  asked-held kernel (Node node) call origin answers going there kept =
      let on : is_over kernel.core.history ≡ false = on-where-some laws.over kernel.core.script kernel.core.history (Answer (Node node) call origin) answers tt in
      All-contains (λ node. Contains (who_held kernel) (Node node)) (components_of kernel.core.history) node (kept.custody.whole (rw (going, on) refl)).components there
  asked-held kernel (Sequence home id) call origin answers going there kept =
      let on : is_over kernel.core.history ≡ false = on-where-some laws.over kernel.core.script kernel.core.history (Answer (Sequence home id) call origin) answers tt in
      (kept.custody.whole (rw (going, on) refl)).living id home there

  -- an object answered
  pub kept-heard : (kernel : KernelValue O) (core : CoreValue) (held : List (Who × O)) (performer : Who) (call : Call) (origin : Option Origin) (acts : List Act)
      → next_of kernel.core.script kernel.core.history ≡ next.Answer performer call origin → kernel.failed ≡ false → core ≡ core_after (Heard performer origin call acts) kernel.core
      → IsAsked view name says performer call (Ok acts) kernel.held held → IsKernel view name says kernel
      → IsKernel view name says (record { core = core; held = held; failed = false; unknown = None })
  kept-heard kernel core held performer call origin acts answers going is asked kept =
      let script = kernel.core.script in
      let history = kernel.core.history in
      let entry : Entry = Heard performer origin call acts in
      let on : is_over history ≡ false = on-where-some laws.over script history (Answer performer call origin) answers tt in
      let comes : IsNext script history (Heard performer origin call acts) = rw answers (acts, refl) in
      let leave = laws.leavers script history (Heard performer origin call acts) kept.each comes in
      let were = AreHeld-asked name view says performer call (Ok acts) kernel.held held (is_done kernel) script history kernel.core.leaving asked kept.custody in
      rw is (record {
        each = (comes, kept.each);
        honest = LiveHonestly-heard view name says performer call origin acts kernel.held held history asked kept.custody.distinct (rw (kept.known going) at (kept.honest));
        custody =
            AreHeld-later name (is_done kernel) false script history (Heard performer origin call acts ∷ history) kernel.core.leaving (leaving_of (Heard performer origin call acts ∷ history)) held
            (WasMade-same history (Heard performer origin call acts ∷ history) refl refl) refl
            (λ more. AreAllHeld-later laws.lived (Heard performer origin call acts) history kernel.core.leaving (keys_of held) refl refl leave (were.whole (rw (going, on) refl))) were;
        good = λ h. kept.good going;
        comes = λ h. tt;
        told = λ h. told-next history (Heard performer origin call acts) leave;
        known = λ h. refl;
      })

  -- a needed object was taken
  pub kept-supplied : (kernel : KernelValue O) (held : List (Who × O)) (object : O) (need : Need) (made : Outcome) (performer : Who) (act : Act) (who : Who) → next_of kernel.core.script kernel.core.history ≡ next.Need need made performer act
      → made_who kernel.core.history (next.Need need made performer act) ≡ Some who → kernel.failed ≡ false → name object ≡ need.type_name → IsPermutation ((who, object) ∷ kernel.held) held → IsKernel view name says kernel
      → IsKernel view name says (record kernel { core = core_after (Did performer made act) kernel.core; held = held })
  kept-supplied kernel held object need made performer act who needs who_is going fits same kept =
      let script = kernel.core.script in
      let history = kernel.core.history in
      let entry : Entry = Did performer made act in
      let on : is_over history ≡ false = on-where-some laws.over script history (next.Need need made performer act) needs tt in
      let comes : IsNext script history (Did performer made act) = rw needs (inl refl) in
      let leave = laws.leavers script history (Did performer made act) kept.each comes in
      let come = has-come laws script history kept.each need made performer act who needs who_is in
      let keys : IsPermutation (who ∷ who_held kernel) (keys_of held) = IsPermutation-map (λ (seat : Who × O). seat.0) ((who, object) ∷ kernel.held) held same in
      record {
        each = (comes, kept.each);
        honest =
            LiveHonestly-silent view name says (Did performer made act) history held kernel.unknown (λ hearer. refl)
            (LiveHonestly-more view name says kernel.held held history who object kernel.unknown same come.unasked kept.honest);
        custody =
            AreHeld-come name script history (Did performer made act ∷ history) kernel.core.leaving (leaving_of (Did performer made act ∷ history)) kernel.held held (is_done kernel) (is_done (record kernel { core = core_after (Did performer made act) kernel.core; held = held })) who object same
            come.made come.others come.apart (come.types ∙ ap (λ type_name. (who, type_name) ∷ types_made script history) (sym fits))
            (λ more.
            AreAllHeld-come script (Did performer made act) history kernel.core.leaving (who_held kernel) (keys_of held) need.type_name who
            (λ other there. Contains-permutation (who ∷ who_held kernel) (keys_of held) other keys (suc there.0, omega (arith, there.1), there.2))
            (Contains-permutation (who ∷ who_held kernel) (keys_of held) who keys (0, omega arith, refl)) leave come (kept.custody.whole (rw (going, on) refl))) kept.custody;
        good = kept.good;
        comes = λ h. tt;
        told = λ h. told-next history (Did performer made act) leave;
        known = kept.known;
      }

-- none is held twice
IsDistinct-nil : IsDistinct same_who []
unfolding IsDistinct
IsDistinct-nil = tt

-- no sequence lives before the first entry
none-lives : (id home : ℕ) → IsLiving [] id home → ⊥
none-lives id home living = let bad = living.home_is in cc

module _ {O : Type 0} (view : O → View) (name : O → List ℕ) (says : O → Says) where
  -- a new kernel
  pub kept-new : (script : ScriptValue) (core : CoreValue) (taken : List (Taken O)) (sequences : List (Who × O)) (count : ℕ) → core ≡ record { script = script; history = []; standing = Nothing; health = Good; leaving = [] } → taken ≡ [] → sequences ≡ [] → count ≡ 0
      → IsKernel view name says (record { core = core; held = all_held taken sequences; failed = false; unknown = None }) × AreSeated core.history (paths_in taken) count sequences
  kept-new script core taken sequences count begun none nobody zero =
      rw (begun, none, nobody, zero) (
        record {
          each = tt;
          honest = All-nil (λ (seat : Who × O). None ≢ Some seat.0 → IsHonestNow (says seat.1) (view seat.1) (life_of seat.0 []));
          custody = record {
            distinct = IsDistinct-nil;
            made = All-nil (WasMade []);
            named = All-nil (λ (seat : Who × O). Contains (types_made script []) (seat.0, name seat.1));
            whole = λ on. record {
              components = All-nil (λ node. Contains [] (Node node));
              living = λ id home living. absurd (none-lives id home living);
              ended = All-nil (Contains []);
            };
          };
          good = λ going. refl;
          comes = λ going. tt;
          told = λ going. record { have_ended = All-nil (HasEnded []); rising = tt; over = λ over. refl };
          known = λ going. refl;
        },
        record { placed = All-nil (Sits []); rising = tt; started = refl },
      )
