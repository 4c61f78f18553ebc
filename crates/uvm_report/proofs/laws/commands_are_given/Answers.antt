use Rattle.uvm_report.proofs.Commanded.{commands_are_given}
use Rattle.uvm_report.proofs.laws.commands_are_given.Goals as goal

pub returns : goal.returns
returns c = commands_are_given
