use Rattle.script_jobs.proofs.Common.{ℕ, List, ◌++◌, subst, HasWritten, codes}
use Rattle.script_jobs.proofs.verdicts.RefusalDisplay.fmt.Goals as goal

pub returns-in-UnknownTest-clause-writes : goal.returns-in-UnknownTest-clause-writes
returns-in-UnknownTest-clause-writes g c plain done =
    let written = λ (label : List ℕ). HasWritten g.W.Write.write_str_gives c.args.f.now (codes "test " ++ (c.in-UnknownTest.name ++ (codes " is not declared in 'type' (" ++ (label ++ codes ")")))) c.write.new.self in
    rw c.in-UnknownTest.is (subst written c.label-fault.ensures (c.write.ensures.writes plain done))

pub returns-in-UnknownType-clause-writes : goal.returns-in-UnknownType-clause-writes
returns-in-UnknownType-clause-writes g c plain done = rw c.in-UnknownType.is (c.write-in-UnknownType.ensures.writes plain done)

pub returns-in-NoObject-clause-writes : goal.returns-in-NoObject-clause-writes
returns-in-NoObject-clause-writes g c plain done = rw c.in-NoObject.is (c.write-in-NoObject.ensures.writes plain done)
