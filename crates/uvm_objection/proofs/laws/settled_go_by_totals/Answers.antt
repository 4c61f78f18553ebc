use Rattle.uvm_objection.proofs.ByTotals.{settled_go_by_totals}
use Rattle.uvm_objection.proofs.laws.settled_go_by_totals.Goals as goal

pub returns : goal.returns
returns c = settled_go_by_totals
