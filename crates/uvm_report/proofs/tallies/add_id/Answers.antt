use Rattle.uvm_report.proofs.Common.{◌≡◌, nat_eq, unwrap_or, ◌∙◌, arith, rules, lookup, pointwise}
use Rattle.uvm_report.proofs.Counted.{number-le-all, with_id-insert}
use Rattle.uvm_report.proofs.tallies.add_id.Goals as goal

pub overflow_add-number : goal.overflow_add-number
overflow_add-number c =
    let within = number-le-all c.args.id.now c.args.ids.now.entries in
    let is : c.unwrap_or-number.result ≡ unwrap_or (lookup (pointwise nat_eq c.args.id.now) c.args.ids.now.entries) 0 = search rules in
    omega (arith, within, is)

pub returns-clause-ok : goal.returns-clause-ok
returns-clause-ok c =
    let is : c.unwrap_or-number.result ≡ unwrap_or (lookup (pointwise nat_eq c.args.id.now) c.args.ids.now.entries) 0 = search rules in
    c.in_ok-insert.ensures.entries ∙ rw is (with_id-insert c.args.id.now c.args.ids.now.entries)
