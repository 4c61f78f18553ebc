use Rattle.uvm_tree.proofs.Common.{rules, ◌≡◌, ◌∷◌, ◌++◌, ◌+◌, ◌∙◌, [], length, sym, ap, subst, take, arith, length_push, take_all, YieldsList-turn, YieldsList-end, YieldsList-from_slice_split, split_callee, split_done, split_rest, between_dots, AreNodes, TreeValue, number_at, path_at, ◌==◌, append-nil}
use Rattle.uvm_tree.proofs.Finding.{found-at, none-whole, number-is, one-further}
use Rattle.uvm_tree.proofs.trees.Tree.descend.Goals as goal

pub loop-name-init : goal.loop-name-init
loop-name-init c = (c.requires, sym (append-nil (path_at c.args.self.now.nodes c.args.node)))

pub child_of-requires : goal.child_of-requires
child_of-requires c = c.loop-name.invariant.0

pub returns-in_err-node-clause-node : goal.returns-in_err-node-clause-node
returns-in_err-node-clause-node c =
    let nodes = c.args.self.now.nodes in
    let base = path_at nodes c.args.node in
    let all = between_dots c.args.text.now in
    let k = length c.loop-name.yielded in
    let gives = c.into_iter-name-iterator.ensures.into_iter_gives in
    let t = YieldsList-turn (YieldsList-from_slice_split _ (λ b. b == 46) c.args.text.now (ap split_rest gives ∙ c.split-name-items.ensures.rest) (ap split_done gives ∙ c.split-name-items.ensures.done) (ap split_callee gives ∙ c.split-name-items.ensures.closure) (λ x b q h. search rules)) c.loop-name.yielded _ c.loop-name.yielded_by _ _ c.in-Some.name c.in-Some.is c.next.ensures.steps in
    let further = one-further base (path_at nodes c.loop-name.node) all k c.in-Some.name.now c.loop-name.invariant.1 t.0 t.1 in
    c.from_residual.ensures ∙ sym (none-whole nodes c.child_of.ensures.nodes base all (k + 1) (ap (number_at nodes) further ∙ sym c.child_of.ensures.child ∙ c.in_err-node.was))

pub loop-name-preserved : goal.loop-name-preserved
loop-name-preserved c =
    let nodes = c.args.self.now.nodes in
    let base = path_at nodes c.args.node in
    let all = between_dots c.args.text.now in
    let k = length c.loop-name.yielded in
    let gives = c.into_iter-name-iterator.ensures.into_iter_gives in
    let t = YieldsList-turn (YieldsList-from_slice_split _ (λ b. b == 46) c.args.text.now (ap split_rest gives ∙ c.split-name-items.ensures.rest) (ap split_done gives ∙ c.split-name-items.ensures.done) (ap split_callee gives ∙ c.split-name-items.ensures.closure) (λ x b q h. search rules)) c.loop-name.yielded _ c.loop-name.yielded_by _ _ c.in-Some.name c.in-Some.is c.next.ensures.steps in
    let further = one-further base (path_at nodes c.loop-name.node) all k c.in-Some.name.now c.loop-name.invariant.1 t.0 t.1 in
    let found = found-at nodes c.child_of.ensures.nodes c.in_ok-node.node (path_at nodes c.loop-name.node ++ c.in-Some.name.now ∷ []) (sym c.child_of.ensures.child ∙ c.in_ok-node.was) in
    (found.0, found.1 ∙ sym further ∙ ap (λ n. base ++ take n all) (sym (length_push c.loop-name.yielded c.in-Some.name)))

pub returns-clause-node : goal.returns-clause-node
returns-clause-node c =
    let nodes = c.args.self.now.nodes in
    let base = path_at nodes c.args.node in
    let all = between_dots c.args.text.now in
    let gives = c.into_iter-name-iterator.ensures.into_iter_gives in
    let t = YieldsList-end (YieldsList-from_slice_split _ (λ b. b == 46) c.args.text.now (ap split_rest gives ∙ c.split-name-items.ensures.rest) (ap split_done gives ∙ c.split-name-items.ensures.done) (ap split_callee gives ∙ c.split-name-items.ensures.closure) (λ x b q h. search rules)) c.loop-name.yielded _ c.loop-name.yielded_by _ _ c.in-None.is c.next.ensures.steps in
    let whole : path_at nodes c.loop-name.node ≡ base ++ all = c.loop-name.invariant.1 ∙ ap (λ names. base ++ names) (ap (λ n. take n all) t.1 ∙ take_all (length all) all (omega arith)) in
    sym (number-is nodes (subst (λ (v : TreeValue). AreNodes v.nodes) c.self.view_is c.self.invariant.nodes) c.loop-name.node (base ++ all) c.loop-name.invariant.0 whole)
