use Rattle.world_wiring.proofs.Common.{◌≡◌, ◌∷◌, suc, ℕ, drop, ap, sym, ◌∙◌, add-one, drop-cons}
use Rattle.world_wiring.proofs.Stored.{store-one}
use Rattle.world_wiring.proofs.stores.store_all.Goals as goal

-- one more has it
pub loop-target-preserved : goal.loop-target-preserved
loop-target-preserved c =
    let targets = c.args.targets.now in
    let at = c.loop-target.target-index in
    let target = c.target-item.result in
    let here : drop at targets ≡ target ∷ drop (suc at) targets = drop-cons targets at target c.loop-target-test.true ∙ ap (λ (t : ℕ). t ∷ drop (suc at) targets) (sym c.target-item.is) in
    rw add-one (store-one c.args.item targets at target (drop (suc at) targets) c.in_ok-put_at_once.field-0 c.args.fifo_states.now c.loop-target.fifo_states c.put_at_once.new.fifo_states c.requires here c.loop-target.invariant c.in_ok-put_at_once.ensures.value c.in_ok-put_at_once.ensures.after)
