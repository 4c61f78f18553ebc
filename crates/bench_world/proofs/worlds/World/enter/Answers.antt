use Rattle.bench_world.proofs.Common.{◌≡◌, ◌≤◌, ◌∷◌, ◌^◌, ℕ, refl, arith, rules, Exactly, CanEnter, entry_of, KernelEntry, Fatal, Services, Begin, End, Time, Locked, Drained, Note, Over}
use Rattle.uvm_object.specs.declared.entries.Entry.TheVariants as entry
use Rattle.bench_world.proofs.Going.{due-here, entered, short}
use Rattle.bench_world.proofs.worlds.World.enter.Goals as goal

pub enter-requires-clause-next : goal.enter-requires-clause-next
enter-requires-clause-next c =
    let r = rw (← c.self.view_is) at c.requires in
    rw c.next_place-place.ensures (due-here (λ _. Exactly (entry_of c.args.kernel_entry)) c.self.invariant r.sound r.next)

-- the services can take it in
can-enter : (kernel_entry : KernelEntry) (services : Services) → ((time : ℕ) → kernel_entry ≡ Time time → time ≤ 10 ^ 18) → ((fatal : Fatal) (node : ℕ) → CanEnter (Note fatal node) services) → CanEnter kernel_entry services
can-enter (Begin phase) services low few = tt
can-enter (End phase) services low few = tt
can-enter (Time time) services low few = low time refl
can-enter (Locked sequencer id) services low few = tt
can-enter (Drained node origin) services low few = tt
can-enter (Note fatal node) services low few = few fatal node
can-enter (Over reason) services low few = tt

pub enter-requires-clause-can : goal.enter-requires-clause-can
enter-requires-clause-can c =
    let r = rw (← c.self.view_is) at c.requires in
    let most = short c.self.inside.script in
    let few : (fatal : Fatal) (node : ℕ) → CanEnter (Note fatal node) c.self.inside.services = λ fatal node. search (rules, most) in
    can-enter c.args.kernel_entry _ (λ time is.
    let low = c.time_stays_within_its_limit.ensures c.self.inside.script (entry.Time time ∷ c.self.inside.log.entries) (rw (r.next, is) refl, c.self.invariant.1.legal.each) in
    let limit = c.time_limit-limit.ensures.limit in
    let bound = c.time_limit-limit.ensures.most in
    omega (arith, low, limit, bound)) few

pub invariant_of-self-2 : goal.invariant_of-self-2
invariant_of-self-2 c =
    let r = rw (← c.self.view_is) at c.requires in
    let entries = rw c.in_ok-entry.ensures.entry at c.in_ok-push.ensures.ok in
    entered (λ _. Exactly (entry_of c.args.kernel_entry)) (entry_of c.args.kernel_entry) c.self.invariant r.sound r.room r.next refl entries c.in_ok-push.ensures.limit (λ m. c.in_ok-entry.ensures.leaving c.self.inside.script c.self.inside.log.entries m) (rw c.next_place-place.ensures at c.in_ok-entry.ensures.goes_on)
