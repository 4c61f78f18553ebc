use Rattle.std.proofs.Common.{ap, map, ◌∙◌, List, ℕ}
use Rattle.uvm_glob.specs.Lists.{first_given}
use Rattle.world_wiring.specs.FifoStates.{passing_in}
use Rattle.world_services.proofs.Passages.{next-known}
use Rattle.world_views.proofs.next.next_passed.Goals as goal

pub returns : goal.returns
returns c =
    let m = c.services-services.ensures in
    let kept = ap (λ (fifos : List ℕ). first_given (map (passing_in c.services-services.result.now.fifo_states) fifos)) c.as_slice.ensures.value in
    (c.first_passing.ensures ∙ kept ∙ next-known m)
