use Rattle.uvm_tree.proofs.Leasts.{least_is_least as proved}
use Rattle.uvm_tree.proofs.laws.least_is_least.Goals as goal

pub returns : goal.returns
returns c = proved
