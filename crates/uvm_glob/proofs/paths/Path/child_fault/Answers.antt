use Rattle.uvm_glob.proofs.Common.{◌∙◌, sym, arith}
use Rattle.uvm_glob.proofs.PathTexts.{text-short}
use Rattle.uvm_glob.proofs.ChildTexts.{name-short, child-fault}
use Rattle.uvm_glob.proofs.paths.Path.child_fault.Goals as goal

pub size_fault-requires-clause-front_short : goal.size_fault-requires-clause-front_short
size_fault-requires-clause-front_short c = rw c.as_slice.ensures.value (text-short _ c.self.invariant)

pub size_fault-requires-clause-back_short : goal.size_fault-requires-clause-back_short
size_fault-requires-clause-back_short c = rw c.as_bytes.ensures.value (omega (arith, name-short _ c.as_bytes.ensures.name))

pub returns : goal.returns
returns c =
    rw (← c.self.view_is) (rw (c.as_slice.ensures.value, c.as_bytes.ensures.value) at c.size_fault.ensures ∙ sym (child-fault _ _ c.self.invariant c.as_bytes.ensures.name))
