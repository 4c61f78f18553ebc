use Rattle.uvm_objection.proofs.Common.{◌≡◌, ◌<◌, ℕ, suc, nat_eq, Option, ◌∷◌, refl, sym, subst, get, option_and_then, option_map_or, Walk, start_of}
use Rattle.uvm_objection.proofs.Trees.{distinct_of}
use Rattle.uvm_objection.proofs.Passing.{Comes, starts, can_next, comes_next, lower, next_of, shorter}
use Rattle.uvm_objection.proofs.walks.Walk.over.Goals as goal

pub loop-next-init : goal.loop-next-init
loop-next-init c =
    let was = c.args.entries.now.items in
    let At : Walk → Type 0 = λ w. Comes c.args.change.now was was c.place-next.result w in
    let N : Walk → Type 0 = λ w. c.place-next.result ≡ option_and_then (get nat_eq c.args.places.now) w.at in
    let start = c.start-walk.ensures in
    let next = next_of (get nat_eq c.args.places.now) was c.requires.placed (start_of c.args.change.now) c.place-next.result (subst N start c.place-next.ensures) in
    (subst At (sym start) (starts c.args.change.now was c.place-next.result (distinct_of (c.args.top.now ∷ was) c.requires.tree).1 next), refl, refl)

pub step-requires : goal.step-requires
step-requires c =
    let At : Option ℕ → Type 0 = λ next. Comes c.args.change.now c.args.entries.now.items c.loop-next.entries.items next c.loop-next.walk in
    can_next _ _ _ _ _ _ (subst At c.in-Some.is c.loop-next.invariant.0) (c.requires.walk.0) c.index_mut.ensures.value

pub loop-next-smaller : goal.loop-next-smaller
loop-next-smaller c =
    let was = c.args.entries.now.items in
    let At : Option ℕ → Type 0 = λ next. Comes c.args.change.now was c.loop-next.entries.items next c.loop-next.walk in
    let next = next_of (get nat_eq c.args.places.now) was c.requires.placed c.step.new.self c.place-next-in-Some.result c.place-next-in-Some.ensures in
    let low = lower c.args.top.now c.args.change.now was c.loop-next.entries.items c.in-Some.place c.loop-next.walk c.step.new.self c.index_mut.result.now c.step.new.entry c.place-next-in-Some.result
    c.requires.tree (subst At c.in-Some.is c.loop-next.invariant.0) c.index_mut.ensures.value c.step.ensures.entry c.step.ensures.walk next in
    let Less : Option ℕ → Type 0 = λ before. option_map_or suc c.place-next-in-Some.result 0 < option_map_or suc before 0 in
    subst Less (sym c.in-Some.is) (shorter c.place-next-in-Some.result c.in-Some.place low)

pub loop-next-preserved : goal.loop-next-preserved
loop-next-preserved c =
    let was = c.args.entries.now.items in
    let At : Option ℕ → Type 0 = λ next. Comes c.args.change.now was c.loop-next.entries.items next c.loop-next.walk in
    let next = next_of (get nat_eq c.args.places.now) was c.requires.placed c.step.new.self c.place-next-in-Some.result c.place-next-in-Some.ensures in
    let comes = comes_next c.args.top.now c.args.change.now was c.loop-next.entries.items c.in-Some.place c.loop-next.walk c.step.new.self c.index_mut.result.now c.step.new.entry c.place-next-in-Some.result
    c.requires.tree (subst At c.in-Some.is c.loop-next.invariant.0) c.index_mut.ensures.value c.step.ensures.entry c.step.ensures.walk next in
    (comes, c.loop-next.invariant.1, c.loop-next.invariant.2)
