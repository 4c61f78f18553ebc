-- What is given back once a kernel is done: the sequences first, and then the components.
use Rattle.bench_kernel.proofs.Common.{◌≡◌, ◌++◌, ℕ, true, Bool, List, [], ◌∷◌, Option, Some, None, IsPermutation-middle, IsPermutation-sym, IsPermutation, keys_of, View, Says, Who, Entry, nodes_of, CoreValue, AreSeated, IsKernel, KernelValue, is_done, IsFirstBack, all_held, IsTakenOut, Taken, held_in, paths_in, IfSome, IfNone}
use Rattle.bench_kernel.proofs.Preserved.{kept-given}
use Rattle.bench_kernel.proofs.Seated.{seated-first, seated-out}
use Rattle.bench_kernel.proofs.Sitting.{first-component, out-held}

module _ {O : Type 0} where
  -- the first of the sequences was held
  pub first-held : (taken : List (Taken O)) (back : Who × O) (old new : List (Who × O)) → old ≡ back ∷ new → IsPermutation (back ∷ all_held taken new) (all_held taken old)
  first-held taken back old new is = rw is (IsPermutation-sym (held_in taken ++ back ∷ new) (back ∷ (held_in taken ++ new)) (IsPermutation-middle (held_in taken) back new))

  -- and so was the first of the components, where there are no sequences
  pub given-held : (old new : List (Taken O)) (sequences still : List (Who × O)) (back : Option (Who × O)) → still ≡ sequences → IfSome back (λ b. IsTakenOut b old new) → IfSome back (λ b. IsPermutation (b ∷ all_held new still) (all_held old sequences))
  given-held old new sequences still None is out = tt
  given-held old new sequences still (Some back) is out = rw is (out-held back old new sequences out)

  pub given-first : (history : List Entry) (old new : List (Taken O)) (count : ℕ) (sequences still : List (Who × O)) (back : Option (Who × O)) → sequences ≡ [] → still ≡ sequences → IfSome back (λ b. IsTakenOut b old new) → AreSeated history (paths_in old) count sequences
      → IfSome back (λ b. IsFirstBack (nodes_of history) b.0 (keys_of (all_held new still)))
  given-first history old new count sequences still None none is out seated = tt
  given-first history old new count sequences still (Some back) none is out seated = rw is (first-component (nodes_of history) back old new sequences none out seated.placed)

module _ {O : Type 0} (view : O → View) (name : O → List ℕ) (says : O → Says) (core : CoreValue) (failed : Bool) (unknown : Option Who) where
  abbrev kernel : List (Taken O) → List (Who × O) → KernelValue O
  kernel taken sequences = record { core = core; held = all_held taken sequences; failed = failed; unknown = unknown }

  -- a sequence was given back
  pub gives-sequence : (taken : List (Taken O)) (count less : ℕ) (old new : List (Who × O)) (back : Who × O) → is_done (kernel taken old) ≡ true → less ≡ count → old ≡ back ∷ new
      → IsKernel view name says (kernel taken old) × AreSeated core.history (paths_in taken) count old → IsKernel view name says (kernel taken new) × AreSeated core.history (paths_in taken) less new
  gives-sequence taken count less old new back done count_is is kept = (
    kept-given view name says (kernel taken old) (all_held taken new) back done (first-held taken back old new is) kept.0,
    seated-first core.history (paths_in taken) count less back old new count_is is kept.1,
  )

  -- a component was, if any was held
  pub gives-component : (old new : List (Taken O)) (count same : ℕ) (sequences still : List (Who × O)) (back : Option (Who × O)) → is_done (kernel old sequences) ≡ true → same ≡ count → still ≡ sequences → IfSome back (λ b. IsTakenOut b old new) → IfNone back (new ≡ old)
      → IsKernel view name says (kernel old sequences) × AreSeated core.history (paths_in old) count sequences → IsKernel view name says (kernel new still) × AreSeated core.history (paths_in new) same still
  gives-component old new count same sequences still None done count_is still_is out unchanged kept = rw (count_is, still_is, unchanged) kept
  gives-component old new count same sequences still (Some back) done count_is still_is out unchanged kept = (
    rw still_is (kept-given view name says (kernel old sequences) (all_held new sequences) back done (out-held back old new sequences out) kept.0),
    seated-out core.history old new count same back sequences still count_is still_is out kept.1,
  )
