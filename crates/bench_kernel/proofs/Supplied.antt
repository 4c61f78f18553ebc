-- What becomes of an object that is needed.
use Rattle.bench_kernel.proofs.Common.{◌≡◌, ◌∙◌, ◌<◌, ℕ, Bool, true, false, List, ◌∷◌, length, Option, Some, None, refl, ap, if◌then◌else◌, same_Some, All, IsPermutation, View, Says, Who, Act, Outcome, Refused, Entry, Did, NoObject, ScriptValue, next_of, declined_in, made_in, nodes_of, starts_of, made_who, IsAskedNext, CoreValue, Standing, Needed, Asked, core_after, need_of, AreSeated, KernelValue, IsKernel, open_need, wanted_in, LogLaws, IsFree, IsSeated, Taken, paths_in, SequenceSeatsValue, IsSupplied, IsSome, IfSome, Need, Nothing}
use Rattle.bench_history.specs.Cases as next
use Rattle.bench_history.specs.Next as coming
use Rattle.bench_kernel.proofs.Preserved.{kept-declined, kept-supplied}
use Rattle.bench_kernel.proofs.Seated.{free-for, seated-come, seated-later}

-- a kernel that needs an object has not failed
going-by : (failed : Bool) (need : Option Need) → IsSome (if failed then None else need) → failed ≡ false
going-by true need some = cc
going-by false need some = refl

pub going-where-needed : {O : Type 0} (kernel : KernelValue O) → IsSome (open_need kernel) → kernel.failed ≡ false
going-where-needed kernel some = going-by kernel.failed (need_of kernel.core.standing) some

-- what stands is what is needed next
need-comes : (standing : Standing) (need : Need) (comes : next.Next) → need_of standing ≡ Some need → IsAskedNext standing comes → coming.need_in comes ≡ Some need
need-comes Nothing need comes e c = cc
need-comes (Needed other) need comes e c = c ∙ e
need-comes (Asked performer call origin) need comes e c = cc

-- the one entry
made-one : (made : Option Entry) → IsSome made → (entry : Entry) × (made ≡ Some entry)
made-one None some = cc
made-one (Some entry) some = (entry, refl)

-- a need is one thing, and what is made of it another
pub record IsNeeded (script : ScriptValue) (history : List Entry) (need : Need) : Type 0 where
  pub made : Outcome
  pub performer : Who
  pub act : Act
  pub next_is : next_of script history ≡ next.Need need made performer act

needed-by : (comes : next.Next) (script : ScriptValue) (history : List Entry) (need : Need) → next_of script history ≡ comes → coming.need_in comes ≡ Some need → IsNeeded script history need
needed-by (next.Exactly entry) script history need is wants = cc
needed-by (next.Answer performer call origin) script history need is wants = cc
needed-by (next.Need other made performer act) script history need is wants =
    record { made = made; performer = performer; act = act; next_is = is ∙ ap (λ n. next.Need n made performer act) (same_Some other need wants) }
needed-by (next.Grant sequencer drawn chosen) script history need is wants = cc
needed-by next.Nothing script history need is wants = cc

-- a kernel that needs an object does so for an act
pub needed-now : {O : Type 0} (kernel : KernelValue O) (need : Need) → need_of kernel.core.standing ≡ Some need → IsAskedNext kernel.core.standing (next_of kernel.core.script kernel.core.history) → IsNeeded kernel.core.script kernel.core.history need
needed-now kernel need standing comes =
    needed-by (next_of kernel.core.script kernel.core.history) kernel.core.script kernel.core.history need refl (need-comes kernel.core.standing need (next_of kernel.core.script kernel.core.history) standing comes)

module _ {O : Type 0} (view : O → View) (name : O → List ℕ) (says : O → Says) where
  -- the object is held for who was made
  pub is-supplied : (kernel : KernelValue O) (new : CoreValue) (held : List (Who × O)) (object : O) (who : Who) → name object ≡ wanted_in kernel → made_who kernel.core.history (next_of kernel.core.script kernel.core.history) ≡ Some who
      → IsSome (made_in (next_of kernel.core.script kernel.core.history)) → IfSome (made_in (next_of kernel.core.script kernel.core.history)) (λ entry. new ≡ core_after entry kernel.core)
      → IsPermutation ((who, object) ∷ kernel.held) held → IsSupplied view name says object kernel (record kernel { core = new; held = held })
  is-supplied kernel new held object who fits who_is one e same =
      let found = made-one (made_in (next_of kernel.core.script kernel.core.history)) one in
      record {
        entry = found.0;
        next = found.1;
        fits = fits;
        who = who;
        made = who_is;
        held = same;
        is = rw (let made = rw found.1 at e in made) refl;
      }

module _ (laws : LogLaws) {O : Type 0} (view : O → View) (name : O → List ℕ) (says : O → Says) where
  declines-by : (comes : next.Next) (kernel : KernelValue O) (new : CoreValue) (paths : List (List (List ℕ) × ℕ)) (count : ℕ) (sequences : List (Who × O)) → next_of kernel.core.script kernel.core.history ≡ comes → kernel.failed ≡ false → IsSome (declined_in comes)
      → IfSome (declined_in comes) (λ entry. new ≡ core_after entry kernel.core) → All (λ (place : List (List ℕ) × ℕ). place.1 < length (nodes_of kernel.core.history)) paths
      → IsKernel view name says kernel × AreSeated kernel.core.history paths count sequences → IsKernel view name says (record kernel { core = new }) × AreSeated new.history paths count sequences
  declines-by (next.Exactly entry) kernel new paths count sequences is going some e under kept = cc
  declines-by (next.Answer performer call origin) kernel new paths count sequences is going some e under kept = cc
  declines-by (next.Need need made performer act) kernel new paths count sequences is going some e under kept =
      rw e (
        kept-declined laws view name says kernel need made performer act is going kept.0,
        seated-later laws kernel.core.history (Did performer (Refused NoObject) act) paths count sequences refl under kept.1,
      )
  declines-by (next.Grant sequencer drawn chosen) kernel new paths count sequences is going some e under kept = cc
  declines-by next.Nothing kernel new paths count sequences is going some e under kept = cc

  -- it was declined
  pub kept-declines : (kernel : KernelValue O) (new : CoreValue) (paths : List (List (List ℕ) × ℕ)) (count : ℕ) (sequences : List (Who × O)) → kernel.failed ≡ false → IsSome (declined_in (next_of kernel.core.script kernel.core.history))
      → IfSome (declined_in (next_of kernel.core.script kernel.core.history)) (λ entry. new ≡ core_after entry kernel.core) → All (λ (place : List (List ℕ) × ℕ). place.1 < length (nodes_of kernel.core.history)) paths
      → IsKernel view name says kernel × AreSeated kernel.core.history paths count sequences → IsKernel view name says (record kernel { core = new }) × AreSeated new.history paths count sequences
  kept-declines kernel new paths count sequences going some e under kept = declines-by (next_of kernel.core.script kernel.core.history) kernel new paths count sequences refl going some e under kept

  -- it was taken
  pub kept-supplies : (kernel : KernelValue O) (new : CoreValue) (held : List (Who × O)) (old taken : List (Taken O)) (were are : SequenceSeatsValue O) (object : O) (need : Need) (who : Who) (path : List (List ℕ)) → need_of kernel.core.standing ≡ Some need
      → made_who kernel.core.history (next_of kernel.core.script kernel.core.history) ≡ Some who → IfSome (made_in (next_of kernel.core.script kernel.core.history)) (λ entry. new ≡ core_after entry kernel.core) → kernel.failed ≡ false → name object ≡ need.type_name
      → IsPermutation ((who, object) ∷ kernel.held) held → path ≡ need.path → IsSeated who path object old taken were are → All (λ (place : List (List ℕ) × ℕ). place.1 < length (nodes_of kernel.core.history)) (paths_in old)
      → IsKernel view name says kernel × AreSeated kernel.core.history (paths_in old) were.count were.held → IsKernel view name says (record kernel { core = new; held = held }) × AreSeated new.history (paths_in taken) are.count are.held
  kept-supplies kernel new held old taken were are object need who path standing who_is e going fits same path_is seats under kept =
      let needed = needed-now kernel need standing (kept.0.comes going) in
      let entry : Entry = Did needed.performer needed.made needed.act in
      let is : new ≡ core_after (Did needed.performer needed.made needed.act) kernel.core = rw needed.next_is at e in
      let who_made : made_who kernel.core.history (next.Need need needed.made needed.performer needed.act) ≡ Some who = rw needed.next_is at who_is in
      rw is (
        kept-supplied laws view name says kernel held object need needed.made needed.performer needed.act who needed.next_is who_made going fits same kept.0,
        seated-come laws kernel.core.history need needed.made needed.performer needed.act who path object old taken were are kernel.core.script needed.next_is who_made path_is seats under kept.1,
      )

  -- there is a seat for it
  pub free-now : (kernel : KernelValue O) (need : Need) (who : Who) (taken : List (Taken O)) (sequences : SequenceSeatsValue O) → need_of kernel.core.standing ≡ Some need → made_who kernel.core.history (next_of kernel.core.script kernel.core.history) ≡ Some who
      → kernel.failed ≡ false → sequences.count ≡ length (starts_of kernel.core.history) → All (λ (place : List (List ℕ) × ℕ). place.1 < length (nodes_of kernel.core.history)) (paths_in taken) → IsKernel view name says kernel → IsFree who taken sequences
  free-now kernel need who taken sequences standing who_is going started under kept =
      let needed = needed-now kernel need standing (kept.comes going) in
      free-for laws kernel.core.history need needed.made needed.performer needed.act who taken sequences kernel.core.script needed.next_is (rw needed.next_is at who_is) started under
