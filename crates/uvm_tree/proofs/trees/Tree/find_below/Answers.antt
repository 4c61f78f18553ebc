use Rattle.uvm_tree.proofs.Common.{◌≡◌, ◌≢◌, ◌∷◌, Some, ◌++◌, ◌∙◌, [], List, ℕ, length, refl, sym, ap, arith, eqb-true, eqb-false, between_dots, names_of, number_at, path_at, append-nil}
use Rattle.uvm_tree.proofs.Finding.{number-is}
use Rattle.uvm_tree.proofs.Paths.{Names}
use Rattle.uvm_tree.proofs.Sound.{found_sound}
use Rattle.uvm_tree.proofs.trees.Tree.find_below.Goals as goal

no-names : (text : List ℕ) → length text ≡ 0 → names_of text ≡ []
no-names [] e = refl
no-names (b ∷ text) e = absurd (omega arith)

some-names : (text : List ℕ) → length text ≢ 0 → names_of text ≡ between_dots text
some-names [] some = absurd (some refl)
some-names (b ∷ text) some = refl

pub returns-then-is_empty-clause-node : goal.returns-then-is_empty-clause-node
returns-then-is_empty-clause-node c =
    let nodes = c.args.self.now.nodes in
    let none : c.args.path.now ≡ [] = sym c.as_bytes-text.ensures.names ∙ no-names c.as_bytes-text.result.now (eqb-true (length c.as_bytes-text.result.now) 0 (sym c.is_empty.ensures ∙ c.if-is_empty.true)) in
    let whole : path_at nodes c.args.node ++ c.args.path.now ≡ path_at nodes c.args.node = ap (λ (p : Names). path_at nodes c.args.node ++ p) none ∙ append-nil (path_at nodes c.args.node) in
    sym (number-is nodes c.node_or_top-node.ensures.nodes c.node_or_top-node.result (path_at nodes c.args.node ++ c.args.path.now) c.node_or_top-node.ensures.inside (c.node_or_top-node.ensures.path ∙ sym whole))

pub returns-clause-node : goal.returns-clause-node
returns-clause-node c =
    let nodes = c.args.self.now.nodes in
    let some = eqb-false (length c.as_bytes-text.result.now) 0 (sym c.is_empty.ensures ∙ c.if-is_empty.false) in
    let names : between_dots c.as_bytes-text.result.now ≡ c.args.path.now = sym (some-names c.as_bytes-text.result.now some) ∙ c.as_bytes-text.ensures.names in
    c.descend.ensures.node ∙ (λ i. number_at nodes (c.node_or_top-node.ensures.path i ++ names i))

pub returns-then-is_empty-clause-sound : goal.returns-then-is_empty-clause-sound
returns-then-is_empty-clause-sound c =
    found_sound c.args.self.now.nodes c.node_or_top-node.ensures.nodes c.node_or_top-node.ensures.sound (path_at c.args.self.now.nodes c.args.node ++ c.args.path.now) (Some c.node_or_top-node.result) (returns-then-is_empty-clause-node c)

pub returns-clause-sound : goal.returns-clause-sound
returns-clause-sound c =
    found_sound c.args.self.now.nodes c.node_or_top-node.ensures.nodes c.node_or_top-node.ensures.sound (path_at c.args.self.now.nodes c.args.node ++ c.args.path.now) c.descend.result (returns-clause-node c)
