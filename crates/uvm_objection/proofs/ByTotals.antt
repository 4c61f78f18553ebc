-- What stands at a node once all are settled.
use Rattle.uvm_objection.proofs.Common.{◌≡◌, ℕ, Bool, true, false, ◌==◌, List, [], ◌∷◌, refl, ap, ◌∙◌, arith, nat_tests, Node, total, begins, held_after, due_after, settled, GoesByTotals, SettledGoByTotals}
use Rattle.uvm_objection.proofs.Trees.{true_node}
use Rattle.uvm_objection.proofs.Sums.{own_total}

no_drain : (t : ℕ) → begins t 0 0 ≡ false
no_drain t = grind (arith, nat_tests)

first_or_later : (time : ℕ) (before : ℕ → ℕ) (e : Node) (newer : List Node) (node : ℕ) (b : Bool) → (e.node == node) ≡ b → GoesByTotals time before newer (settled time before newer) node → GoesByTotals time before (e ∷ newer) (settled time before (e ∷ newer)) node
first_or_later time before e newer node true here rest =
    let below = settled time before newer in
    let is = true_node e.node node here in
    record {
      source = rw here refl;
      drain = rw here refl;
      held = rw here (ap (λ k. held_after (before k) (total (e ∷ below) e.node) e.drain e.held) is ∙ ap (λ t. held_after (before node) t e.drain e.held) (own_total e below));
      due = rw here (ap (λ k. due_after time (before k) (total (e ∷ below) e.node) e.drain e.due) is ∙ ap (λ t. due_after time (before node) t e.drain e.due) (own_total e below));
    }
first_or_later time before e newer node false here rest = record {
  source = rw here rest.source;
  drain = rw here rest.drain;
  held = rw here rest.held;
  due = rw here rest.due;
}

pub settled_go_by_totals : SettledGoByTotals
settled_go_by_totals time before [] node = record { source = refl; drain = refl; held = rw (no_drain (before node)) refl; due = rw (no_drain (before node)) refl }
settled_go_by_totals time before (e ∷ newer) node = first_or_later time before e newer node (e.node == node) refl (settled_go_by_totals time before newer node)
