use Rattle.uvm_sequencer.proofs.Common.{◌≡◌, Bool, true, false, IsTrue, length, refl, sym, ◌↔◌, list_all, is_item}
use Rattle.uvm_sequencer.proofs.Marks.{items-only}
use Rattle.uvm_sequencer.proofs.queues.Queue.are_items.Goals as goal

-- by what the set of marks answers
told : (b items : Bool) (P : Type 0) → (IsTrue b ↔ P) → (P → items ≡ true) → ((P → ⊥) → items ≡ false) → b ≡ items
told true items P is each other = sym (each (is.0 refl))
told false items P is each other = sym (other (λ p. let wrong : false ≡ true = is.1 p in cc))

pub returns : goal.returns
returns c =
    let are = items-only c.self.inside.locks.keys c.self.inside.requests c.self.invariant.locks in
    rw (← c.self.view_is) (told c.is_empty.result (list_all is_item c.self.inside.requests) (length c.self.inside.locks.keys ≡ 0) c.is_empty.ensures are.0 are.1)
