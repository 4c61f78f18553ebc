use Rattle.uvm_report.proofs.Commanded.{new_gives_nothing}
use Rattle.uvm_report.proofs.laws.new_gives_nothing.Goals as goal

pub returns : goal.returns
returns c = new_gives_nothing
