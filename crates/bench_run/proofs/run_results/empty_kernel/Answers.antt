use Rattle.bench_run.proofs.Common.{◌≡◌, true, false, ◌||◌, if◌then◌else◌, refl, is_over, KernelValue, abandoned, is_done, Bool}
use Rattle.bench_run.proofs.run_results.empty_kernel.Goals as goal

or-true : (failed : Bool) → (failed || true) ≡ true
or-true true = refl
or-true false = refl

-- a kernel that was abandoned gives back
abandoned-done : {O : Type 0} (kernel : KernelValue O) → is_done (abandoned kernel) ≡ true
abandoned-done kernel = by-end (is_over kernel.core.history) refl where
  by-end : (over : Bool) → is_over kernel.core.history ≡ over → is_done (if over then kernel else record kernel { failed = true }) ≡ true
  by-end true is = rw is (or-true kernel.failed)
  by-end false is = refl

pub give_all_back-requires : goal.give_all_back-requires
give_all_back-requires g c = rw c.abandon.ensures (abandoned-done c.args.kernel.now)
