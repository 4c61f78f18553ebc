use Rattle.uvm_glob.proofs.Common.{◌≡◌, true, list_all, is_glob_byte}
use Rattle.uvm_glob.proofs.Bytes.{dotted_bytes}
use Rattle.uvm_glob.proofs.globs.Glob.under.Goals as goal

-- both texts have the bytes of a glob
pub invariant_of-result : goal.invariant_of-result
invariant_of-result c =
    let good : list_all is_glob_byte c.as_slice.result.now ≡ true = rw c.as_slice.ensures.value c.glob.invariant in
    rw c.in_ok-dotted.ensures (dotted_bytes c.text.result.now c.as_slice.result.now c.text.ensures.bytes good)
