use Rattle.bench_world.proofs.Common.{◌∙◌, refl, sym, subst, Heard, Answer, MayAnswer, WorldValue}
use Rattle.bench_world.proofs.Going.{entered}
use Rattle.bench_world.proofs.Pendings.{call-waits}
use Rattle.bench_world.proofs.worlds.World.heard.Goals as goal

pub invariant_of-self-2 : goal.invariant_of-self-2
invariant_of-self-2 c =
    let asked = c.in-Some.pending_call in
    let is = call-waits c.self.inside.pending asked (sym c.take_call.ensures.value ∙ c.in-Some.is) in
    let may = subst (λ (world : WorldValue). MayAnswer world world.standing) (sym c.self.view_is) c.requires in
    let r = rw is at may in
    let entries = rw c.in_ok-entry.ensures at c.in_ok-push.ensures.ok in
    rw c.take_call.ensures.after (
    entered (λ _. Answer asked.who asked.call asked.origin) (Heard asked.who asked.origin asked.call c.args.acts) c.self.invariant r.sound r.room r.next (_, refl) entries c.in_ok-push.ensures.limit (λ m. c.clear.ensures.items)
    (rw (c.next_place-place.ensures, c.copy.ensures) at (c.hear.ensures c.args.acts (sym c.len-count.ensures)))
    )
