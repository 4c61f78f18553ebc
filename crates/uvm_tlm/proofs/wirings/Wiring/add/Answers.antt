use Rattle.uvm_tlm.proofs.Common.{◌≡◌, ◌∷◌, nat_eq, reverse, Some, None, is_some, option_map, cond, refl, ap, sym, subst, ◌∙◌, or_right, keys, has, nodes_of, value_of, IsWiring, end_at, with_end}
use Rattle.uvm_tlm.proofs.Wired.{added, for_none, nothing_found, reverse-push, seen-more}
use Rattle.uvm_tlm.proofs.wirings.Wiring.add.Goals as goal

pub invariant_of-self-2 : goal.invariant_of-self-2
invariant_of-self-2 c =
    let inside = c.self.inside in
    let turned : reverse c.add_end.new.ends.entries ≡ (c.args.node, c.args.end) ∷ reverse inside.ends.entries =
    ap reverse c.in_ok-add_end.ensures.added ∙ reverse-push inside.ends.entries (c.args.node, c.args.end) in
    let unclosed : inside.closed ≡ None = nothing_found (λ found. keys found.order) inside.closed (ap (λ v. is_some v.order) c.self.view_is ∙ sym c.is_closed.ensures ∙ c.if-is_closed.false) in
    let unknown : end_at (reverse inside.ends.entries) c.args.node ≡ None = ap (λ v. end_at v.ends c.args.node) c.self.view_is ∙ c.requires in
    let grown = seen-more inside (record inside { ends = c.add_end.new.ends }) c.args.node c.args.end turned refl refl unknown c.self.invariant.among in
    record {
      is_wiring = subst IsWiring (sym grown) (added (value_of inside) c.args.node c.args.end (ap (option_map (λ found. keys found.order)) unclosed) unknown c.self.invariant.is_wiring);
      among = λ from to h.
          let there = c.self.invariant.among from to h in
          rw turned (or_right _ (has (nodes_of inside) from) there.0, or_right _ (has (nodes_of inside) to) there.1);
      ends_found = λ n. c.in_ok-add_end.ensures.found n ∙ ap (cond (nat_eq n c.args.node) (Some c.args.end)) (c.self.invariant.ends_found n) ∙ ap (λ ends. end_at ends n) (sym turned);
      targets_found = for_none _ inside.closed unclosed;
      drivers_found = for_none _ inside.closed unclosed;
    }

pub returns-clause-added : goal.returns-clause-added
returns-clause-added c =
    let inside = c.self.inside in
    let turned : reverse c.add_end.new.ends.entries ≡ (c.args.node, c.args.end) ∷ reverse inside.ends.entries =
    ap reverse c.in_ok-add_end.ensures.added ∙ reverse-push inside.ends.entries (c.args.node, c.args.end) in
    let unknown : end_at (reverse inside.ends.entries) c.args.node ≡ None = ap (λ v. end_at v.ends c.args.node) c.self.view_is ∙ c.requires in
    seen-more inside (record inside { ends = c.add_end.new.ends }) c.args.node c.args.end turned refl refl unknown c.self.invariant.among ∙ ap (with_end c.args.node c.args.end) c.self.view_is
