use Rattle.uvm_glob.proofs.Common.{sym}
use Rattle.uvm_glob.proofs.PathTexts.{names_of-parsed, refusal-path}
use Rattle.uvm_glob.proofs.paths.Path.parse.Goals as goal

pub returns-in-Some-clause-err : goal.returns-in-Some-clause-err
returns-in-Some-clause-err c = refusal-path _ _ c.in-Some.ensures

pub invariant_of-result : goal.invariant_of-result
invariant_of-result c =
    let path = sym c.in-None.ensures in
    rw (c.in_ok-from_slice-in-None.ensures.items, names_of-parsed c.args.text.now path) path

pub returns-in_ok-from_slice-in-None-clause-ok : goal.returns-in_ok-from_slice-in-None-clause-ok
returns-in_ok-from_slice-in-None-clause-ok c =
    let path = sym c.in-None.ensures in
    rw c.in_ok-from_slice-in-None.ensures.items (path, names_of-parsed c.args.text.now path)
