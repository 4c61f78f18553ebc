use Rattle.uvm_tlm.proofs.Common.{nat_eq, Some, cond, ap, ◌∙◌, get, insert_entry-new}
use Rattle.uvm_tlm.proofs.Lists.{eqb-flip}
use Rattle.uvm_tlm.proofs.wirings.add_end.Goals as goal

pub returns-clause-added : goal.returns-clause-added
returns-clause-added c = c.in_ok-insert.ensures.entries ∙ insert_entry-new nat_eq c.args.ends.now c.args.node c.args.end c.requires

pub returns-clause-found : goal.returns-clause-found
returns-clause-found c n = c.in_ok-insert.ensures.updates.0 n ∙ ap (λ b. cond b (Some c.args.end) (get nat_eq c.args.ends.now n)) (eqb-flip c.args.node n)
