use Rattle.world_state.proofs.Common.{◌≡◌, ◌++◌, ◌∷◌, List, Some, suc, drop, refl, ap, sym, ◌∙◌, add-one, drop-cons, in_order, Object, DueCall, event_in, Event, if_told, is_told}
use Rattle.world_state.proofs.Lists.{drop-past}
use Rattle.world_state.proofs.Written.{living-one}
use Rattle.world_state.proofs.events.tell_each.Goals as goal

pub loop-number-init : goal.loop-number-init
loop-number-init c = λ caused is. (caused, is, refl)

-- one more call is due
pub loop-number-preserved : goal.loop-number-preserved
loop-number-preserved c = λ caused is.
    let p = c.loop-number.invariant caused is in
    let calls = c.args.calls.now in
    let at = c.loop-number.number in
    let told = c.index-calls-number.result in
    let here : drop at calls ≡ told ∷ drop (suc at) calls = drop-cons calls at told c.loop-number-test.true ∙ ap (λ (t : DueCall). t ∷ drop (suc at) calls) (sym c.index-calls-number.is) in
    let test = is_told c.args.sequences.now.steps in
    let event : List Event = if_told (test told.who) (event_in told.phase c.args.time (record { place = c.args.place; number = at }) (Object told.who) (Some told.call)) in
    (event ++ p.0, rw (c.is_told.ensures, c.in_ok-cause.ensures) at (c.in_ok-tell_if.ensures p.0 p.1), rw add-one (living-one test c.args.time c.args.place at (drop at calls) (drop (suc at) calls) told p.0 _ here p.2))

pub returns : goal.returns
returns c = λ caused is.
    let p = c.loop-number.invariant caused is in
    let whole = rw (drop-past c.args.calls.now c.loop-number.number c.loop-number-test.false) at p.2 in
    p.1 ∙ ap (λ (events : List Event). in_order events) whole
