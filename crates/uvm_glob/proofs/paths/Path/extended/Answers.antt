use Rattle.uvm_glob.proofs.Common.{err_from_is_err_and}
use Rattle.uvm_glob.proofs.PathTexts.{text-short, names_of-dotted, fault-refused, fault-none}
use Rattle.uvm_glob.proofs.paths.Path.extended.Goals as goal

pub size_fault-requires-clause-front_short : goal.size_fault-requires-clause-front_short
size_fault-requires-clause-front_short c = rw c.as_slice-front.ensures.value (text-short _ c.self.invariant)

pub size_fault-requires-clause-back_short : goal.size_fault-requires-clause-back_short
size_fault-requires-clause-back_short c = text-short _ c.requires

pub returns-in-Some-clause-err : goal.returns-in-Some-clause-err
returns-in-Some-clause-err c =
    rw (← c.self.view_is) (fault-refused c.self.inside.text.items c.args.back.now _ c.self.invariant c.requires (rw c.as_slice-front.ensures.value at c.in-Some.ensures))

pub returns-in_err-dotted-in-None-clause-err : goal.returns-in_err-dotted-in-None-clause-err
returns-in_err-dotted-in-None-clause-err c =
    let p = err_from_is_err_and c.from_residual.result c.from_residual.ensures.1 in
    rw (p.1, p.2, ← c.self.view_is) (fault-none c.self.inside.text.items c.args.back.now c.self.invariant c.requires (rw c.as_slice-front.ensures.value at c.in-None.ensures))

pub invariant_of-result : goal.invariant_of-result
invariant_of-result c =
    let none = fault-none c.self.inside.text.items c.args.back.now c.self.invariant c.requires (rw c.as_slice-front.ensures.value at c.in-None.ensures) in
    rw (c.in_ok-dotted-in-None.ensures, c.as_slice-front.ensures.value, names_of-dotted c.self.inside.text.items c.args.back.now c.self.invariant c.requires none) none

pub returns-in_ok-dotted-in-None-clause-ok : goal.returns-in_ok-dotted-in-None-clause-ok
returns-in_ok-dotted-in-None-clause-ok c =
    let none = fault-none c.self.inside.text.items c.args.back.now c.self.invariant c.requires (rw c.as_slice-front.ensures.value at c.in-None.ensures) in
    rw (← c.self.view_is, c.in_ok-dotted-in-None.ensures, c.as_slice-front.ensures.value) (none, names_of-dotted c.self.inside.text.items c.args.back.now c.self.invariant c.requires none)
