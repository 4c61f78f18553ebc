use Rattle.world_sequencing.proofs.Common.{◌≡◌, ◌∷◌, ◌++◌, ◌+◌, [], ℕ, take, ap, sym, ◌∙◌, add-one, take-suc, take_all, Who}
use Rattle.world_sequencing.proofs.Ending.{ended-more, ended-none}
use Rattle.world_sequencing.proofs.ends.finish_all.Goals as goal

pub loop-who-init : goal.loop-who-init
loop-who-init c = ended-none c.args.sequences.now

pub loop-who-preserved : goal.loop-who-preserved
loop-who-preserved c =
    let leaving = c.args.leaving.now in
    let i = c.loop-who.who-index in
    let who = c.who-item.result in
    let more : take (i + 1) leaving ≡ take i leaving ++ who ∷ [] = ap (λ (n : ℕ). take n leaving) (add-one i) ∙ take-suc leaving i who c.loop-who-test.true ∙ ap (λ (one : Who). take i leaving ++ one ∷ []) (sym c.who-item.is) in
    rw (more, c.finish.ensures) (ended-more c.steps_change_alone.ensures (take i leaving) who c.loop-who.invariant)

pub returns : goal.returns
returns c = rw (take_all c.loop-who.who-index c.args.leaving.now c.loop-who-test.false) at c.loop-who.invariant
