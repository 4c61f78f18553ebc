use Rattle.uvm_tree.proofs.Common.{◌≡◌, ◌∷◌, ◌<◌, ◌≤◌, ℕ, arith, length, vec_capacity, List, subst, sym, AreFamilies, Node, AreNodes, AreSound, most_nodes, path_at}
use Rattle.uvm_tree.proofs.trees.Tree.reserve.Goals as goal

-- the room stays what it was
pub invariant_of-self : goal.invariant_of-self
invariant_of-self c =
    let kept = c.self.inside in
    let same = sym c.reserve.ensures.items in
    let more = c.reserve.ensures.capacity in
    record {
      nodes = subst (λ (nodes : List Node). AreNodes (kept.top ∷ nodes)) same c.self.invariant.nodes;
      sound = subst (λ (nodes : List Node). AreSound (kept.top ∷ nodes)) same c.self.invariant.sound;
      families = subst (λ (nodes : List Node). AreFamilies (kept.top ∷ nodes) kept.families.items) same c.self.invariant.families;
      few = subst (λ (nodes : List Node). length nodes ≤ most_nodes) same c.self.invariant.few;
      room = λ room is. let was = c.self.invariant.room room is in (
        subst (λ (nodes : List Node). room.path ≡ path_at (kept.top ∷ nodes) room.parent) same was.0,
        subst (λ (nodes : List Node). length nodes < vec_capacity c.reserve.new.self) same (omega (arith, was.1, more)),
        was.2,
      );
    }

-- also where there is room in the one list and none in the other
pub invariant_of-self-in_err-reserve-2 : goal.invariant_of-self-in_err-reserve-2
invariant_of-self-in_err-reserve-2 c =
    let kept = c.self.inside in
    let same = sym c.reserve.ensures.items in
    let more = c.reserve.ensures.capacity in
    let same_order = sym c.reserve-2.ensures.items in
    let more_order = c.reserve-2.ensures.capacity in
    record {
      nodes = subst (λ (nodes : List Node). AreNodes (kept.top ∷ nodes)) same c.self.invariant.nodes;
      sound = subst (λ (nodes : List Node). AreSound (kept.top ∷ nodes)) same c.self.invariant.sound;
      families = subst (λ (order : List ℕ). AreFamilies (kept.top ∷ c.reserve.new.self.items) order) same_order (subst (λ (nodes : List Node). AreFamilies (kept.top ∷ nodes) kept.families.items) same c.self.invariant.families);
      few = subst (λ (nodes : List Node). length nodes ≤ most_nodes) same c.self.invariant.few;
      room = λ room is. let was = c.self.invariant.room room is in (
        subst (λ (nodes : List Node). room.path ≡ path_at (kept.top ∷ nodes) room.parent) same was.0,
        subst (λ (nodes : List Node). length nodes < vec_capacity c.reserve.new.self) same (omega (arith, was.1, more)),
        subst (λ (order : List ℕ). length order < vec_capacity c.reserve-2.new.self) same_order (omega (arith, was.2, more_order)),
      );
    }
