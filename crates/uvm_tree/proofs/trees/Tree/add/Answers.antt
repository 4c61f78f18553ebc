use Rattle.uvm_tree.proofs.Common.{rules, ◌≡◌, ◌∷◌, ◌++◌, ◌∙◌, ap, sym, subst, arith, length, [], None, Some, Ok, List, ℕ, true, false, common_steps, insert, IsPartitionPoint, Place, is_in_front, Node, AreSound, TreeValue, add_fault, child, path_at}
use Rattle.uvm_tree.proofs.Added.{families_grow}
use Rattle.uvm_tree.proofs.Grown.{added}
use Rattle.uvm_tree.proofs.Sound.{sound-added}
use Rattle.uvm_tree.proofs.trees.Tree.add.Goals as goal

pub invariant_of-self : goal.invariant_of-self
unfolding add_fault
invariant_of-self c =
    let kept = c.self.inside in
    let nodes : List Node = kept.top ∷ kept.nodes.items in
    let new : List Node = kept.top ∷ c.push-node.new.nodes.items in
    let same : nodes ≡ c.args.self.now.nodes = ap (λ (v : TreeValue). v.nodes) c.self.view_is ∙ c.reserve.ensures.nodes in
    let free : add_fault nodes c.args.parent c.args.name ≡ None =
    ap (λ (l : List Node). add_fault l c.args.parent c.args.name) same ∙ sym c.fault.ensures ∙ c.in_default.is in
    let room : kept.room ≡ Some c.in-Some-take.room = sym c.take.ensures.value ∙ c.in-Some-take.is in
    let above : c.in-Some-take.room.parent ≡ c.args.parent = grind (arith, common_steps) in
    let path : c.child-path.result ≡ path_at nodes c.args.parent ++ c.args.name ∷ [] =
    c.child-path.ensures ∙ ap (λ (l : List (List ℕ)). l ++ c.args.name ∷ []) ((c.self.invariant.room c.in-Some-take.room room).0 ∙ ap (path_at nodes) above) in
    let grown : new ≡ nodes ++ child nodes c.args.parent c.args.name c.args.kind ∷ [] = rw (← path) (ap (λ (l : List Node). kept.top ∷ l) c.push-node.ensures.added) in
    let are = added nodes new c.args.parent c.args.name c.args.kind (Ok 0) c.self.invariant.nodes free grown tt in
    let number : c.push-node.result ≡ length nodes = omega (arith, c.push-node.ensures.number) in
    let order : c.insert.new.families.items ≡ insert kept.families.items c.place_of-place.result (length nodes) = c.insert.ensures ∙ ap (insert kept.families.items c.place_of-place.result) number in
    let place : Place = (c.args.parent, c.args.name) in
    let by_nodes = subst (λ (l : List Node). IsPartitionPoint (λ n. is_in_front (kept.top ∷ l) place n ≡ true) (λ n. is_in_front (kept.top ∷ l) place n ≡ false) c.as_slice-2.result.now c.place_of-place.result) c.as_slice.ensures.value c.place_of-place.ensures.parts in
    let parts = subst (λ (order : List ℕ). IsPartitionPoint (λ n. is_in_front nodes place n ≡ true) (λ n. is_in_front nodes place n ≡ false) order c.place_of-place.result) c.as_slice-2.ensures.value by_nodes in
    let families = families_grow nodes kept.families.items c.self.invariant.nodes c.self.invariant.families c.args.parent c.args.name c.args.kind free c.place_of-place.result parts in
    record {
      nodes = are.0;
      sound = subst AreSound (sym grown) (sound-added nodes c.args.parent c.args.name c.args.kind free c.self.invariant.sound);
      families = rw (grown, order) families;
      few = omega (arith, are.1);
      room = search rules;
    }
