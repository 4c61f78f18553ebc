use Rattle.uvm_glob.proofs.Common.{◌∙◌, sym, arith}
use Rattle.uvm_glob.proofs.PathTexts.{text-short}
use Rattle.uvm_glob.proofs.ChildTexts.{name-short, child-fault, child-names}
use Rattle.uvm_glob.proofs.rooms.ChildRoom.child.Goals as goal

pub size_fault-requires-clause-front_short : goal.size_fault-requires-clause-front_short
size_fault-requires-clause-front_short c = rw c.as_slice.ensures.value (text-short _ c.self.invariant.0)

pub size_fault-requires-clause-back_short : goal.size_fault-requires-clause-back_short
size_fault-requires-clause-back_short c =
    rw c.as_bytes-back.ensures.value (omega (arith, name-short _ c.as_bytes-back.ensures.name))

pub extended-requires-clause-name : goal.extended-requires-clause-name
extended-requires-clause-name c = rw c.as_bytes-back.ensures.value (name-short _ c.as_bytes-back.ensures.name)

pub returns-in-Some-clause-err : goal.returns-in-Some-clause-err
returns-in-Some-clause-err c =
    rw (← c.self.view_is) (child-fault _ _ c.self.invariant.0 c.as_bytes-back.ensures.name ∙ sym (rw (c.as_slice.ensures.value, c.as_bytes-back.ensures.value) at c.in-Some.ensures))

pub invariant_of-result : goal.invariant_of-result
invariant_of-result c =
    let good = c.as_bytes-back.ensures.name in
    let fine = child-fault _ _ c.self.invariant.0 good ∙ sym (rw (c.as_slice.ensures.value, c.as_bytes-back.ensures.value) at c.in-None.ensures) in
    rw (c.extended.ensures, c.as_bytes-back.ensures.value, child-names _ _ c.self.invariant.0 good fine) fine

pub returns-in-None-clause-ok : goal.returns-in-None-clause-ok
returns-in-None-clause-ok c =
    let good = c.as_bytes-back.ensures.name in
    let fine = child-fault _ _ c.self.invariant.0 good ∙ sym (rw (c.as_slice.ensures.value, c.as_bytes-back.ensures.value) at c.in-None.ensures) in
    rw (← c.self.view_is, c.extended.ensures, c.as_bytes-back.ensures.value) (fine, child-names _ _ c.self.invariant.0 good fine)
