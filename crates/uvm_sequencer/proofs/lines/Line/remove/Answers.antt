use Rattle.uvm_sequencer.proofs.Common.{◌≡◌, ◌<◌, ◌+◌, ◌-◌, ◌∙◌, ap, sym, refl, drop, length, arith, copy_within, remove, length-drop}
use Rattle.uvm_sequencer.proofs.Slots.{removed-before, removed-behind}
use Rattle.uvm_sequencer.proofs.lines.Line.remove.Goals as goal

-- those behind it were moved
pub returns-then-len-at-clause-items : goal.returns-then-len-at-clause-items
returns-then-len-at-clause-items c =
    let l = c.self.inside in
    ap (drop l.free) c.remove.ensures.items
    ∙ removed-behind l.slots.items l.free c.args.place (l.free + c.args.place) refl c.self.invariant
    ∙ ap (λ xs. remove xs c.args.place) c.self.view_is

-- those before it were
pub returns-clause-items : goal.returns-clause-items
returns-clause-items c =
    let l = c.self.inside in
    let size : length c.args.self.now ≡ length l.slots.items - l.free = ap length (sym c.self.view_is) ∙ length-drop l.free l.slots.items in
    let within : l.free + c.args.place < length l.slots.items = omega (arith, size, c.requires, c.self.invariant) in
    let moved : c.copy_within.new.self.items ≡ copy_within l.slots.items l.free (l.free + c.args.place) (l.free + 1) = c.copy_within.ensures.items in
    c.close-self-inside.ensures.items
    ∙ ap (drop (l.free + 1)) moved
    ∙ removed-before l.slots.items l.free c.args.place (l.free + c.args.place) (l.free + 1) refl refl within
    ∙ ap (λ xs. remove xs c.args.place) c.self.view_is
