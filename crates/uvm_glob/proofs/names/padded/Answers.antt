use Rattle.uvm_glob.proofs.Common.{drop-replicate}
use Rattle.uvm_glob.proofs.names.padded.Goals as goal

-- what follows the bytes is what is left of the zeros
pub returns : goal.returns
returns g c = rw (c.copy_from_slice.ensures.after, drop-replicate)
