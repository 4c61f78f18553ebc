use Rattle.uvm_glob.proofs.PathTexts.{names_of-name, fault-name}
use Rattle.uvm_glob.proofs.paths.Path.child.Goals as goal

pub extended-requires : goal.extended-requires
extended-requires c =
    rw (c.as_bytes.ensures.value, names_of-name _ c.as_bytes.ensures.name) (fault-name _ c.as_bytes.ensures.name)

pub returns-clause-ok : goal.returns-clause-ok
returns-clause-ok c = rw (c.as_bytes.ensures.value, names_of-name _ c.as_bytes.ensures.name) at c.extended.ensures.ok

pub returns-clause-err : goal.returns-clause-err
returns-clause-err c = rw (c.as_bytes.ensures.value, names_of-name _ c.as_bytes.ensures.name) at c.extended.ensures.err
