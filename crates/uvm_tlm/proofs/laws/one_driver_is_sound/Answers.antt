use Rattle.uvm_tlm.proofs.Drivers.{driver_of_closed}
use Rattle.uvm_tlm.proofs.laws.one_driver_is_sound.Goals as goal

pub returns : goal.returns
returns c = driver_of_closed
