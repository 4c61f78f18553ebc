use Rattle.uvm_glob.proofs.Common.{arith, ◌≤◌, length, err_from_is_err_and, most_names, names_of}
use Rattle.uvm_glob.proofs.PathTexts.{names-few, text-short, names_of-dotted, fault-refused, fault-none}
use Rattle.uvm_glob.proofs.paths.Path.extend.Goals as goal

pub size_fault_at-requires-clause-depth : goal.size_fault_at-requires-clause-depth
size_fault_at-requires-clause-depth c = rw (c.as_slice.ensures.value, c.self.view_is) c.requires.depth

pub size_fault_at-requires-clause-few : goal.size_fault_at-requires-clause-few
size_fault_at-requires-clause-few c =
    let few : length (names_of c.self.inside.text.items) ≤ most_names = names-few _ c.self.invariant in
    let depth = rw (← c.self.view_is) at c.requires.depth in
    rw depth (grind (arith, few))

pub size_fault_at-requires-clause-front_short : goal.size_fault_at-requires-clause-front_short
size_fault_at-requires-clause-front_short c = rw c.as_slice.ensures.value (text-short _ c.self.invariant)

pub size_fault_at-requires-clause-back_short : goal.size_fault_at-requires-clause-back_short
size_fault_at-requires-clause-back_short c = text-short _ c.requires.back

pub returns-in-Some-clause-fault : goal.returns-in-Some-clause-fault
returns-in-Some-clause-fault c =
    rw (← c.self.view_is) (fault-refused c.self.inside.text.items c.args.back.now _ c.self.invariant c.requires.back (rw c.as_slice.ensures.value at c.in-Some.ensures))

pub returns-in_err-go_on-clause-fault : goal.returns-in_err-go_on-clause-fault
returns-in_err-go_on-clause-fault c =
    let p = err_from_is_err_and c.from_residual.result c.from_residual.ensures.1 in
    rw (p.1, p.2, ← c.self.view_is) (fault-none c.self.inside.text.items c.args.back.now c.self.invariant c.requires.back (rw c.as_slice.ensures.value at c.in_default.ensures))

pub invariant_of-self-2 : goal.invariant_of-self-2
invariant_of-self-2 c =
    let none = fault-none c.self.inside.text.items c.args.back.now c.self.invariant c.requires.back (rw c.as_slice.ensures.value at c.in_default.ensures) in
    rw (c.in_ok-go_on.ensures.ok, names_of-dotted c.self.inside.text.items c.args.back.now c.self.invariant c.requires.back none) none

pub returns-clause-ok : goal.returns-clause-ok
returns-clause-ok c =
    let none = fault-none c.self.inside.text.items c.args.back.now c.self.invariant c.requires.back (rw c.as_slice.ensures.value at c.in_default.ensures) in
    rw (← c.self.view_is, c.in_ok-go_on.ensures.ok) (names_of-dotted c.self.inside.text.items c.args.back.now c.self.invariant c.requires.back none)

pub returns-clause-fits : goal.returns-clause-fits
returns-clause-fits c =
    rw (← c.self.view_is) (fault-none c.self.inside.text.items c.args.back.now c.self.invariant c.requires.back (rw c.as_slice.ensures.value at c.in_default.ensures))
