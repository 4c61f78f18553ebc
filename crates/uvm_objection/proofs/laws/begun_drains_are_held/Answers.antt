use Rattle.uvm_objection.proofs.Beginning.{begun_drains_are_held}
use Rattle.uvm_objection.proofs.laws.begun_drains_are_held.Goals as goal

pub returns : goal.returns
returns c = begun_drains_are_held
