use Rattle.uvm_glob.proofs.PathTexts.{names_of-name, fault-name}
use Rattle.uvm_glob.proofs.paths.Path.push_at.Goals as goal

pub extend-requires-clause-back : goal.extend-requires-clause-back
extend-requires-clause-back c =
    rw (c.as_bytes.ensures.value, names_of-name _ c.as_bytes.ensures.name) (fault-name _ c.as_bytes.ensures.name)

pub returns-clause-ok : goal.returns-clause-ok
returns-clause-ok c = rw (c.as_bytes.ensures.value, names_of-name _ c.as_bytes.ensures.name) at c.extend.ensures.ok

pub returns-clause-fits : goal.returns-clause-fits
returns-clause-fits c = rw (c.as_bytes.ensures.value, names_of-name _ c.as_bytes.ensures.name) at c.extend.ensures.fits

pub returns-clause-fault : goal.returns-clause-fault
returns-clause-fault c = rw (c.as_bytes.ensures.value, names_of-name _ c.as_bytes.ensures.name) at c.extend.ensures.fault
