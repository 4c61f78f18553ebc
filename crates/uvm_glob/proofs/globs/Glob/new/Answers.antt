use Rattle.uvm_glob.proofs.Common.{sym}
use Rattle.uvm_glob.proofs.PathTexts.{refusal-glob}
use Rattle.uvm_glob.proofs.Bytes.{glob_bytes}
use Rattle.uvm_glob.proofs.globs.Glob.new.Goals as goal

pub invariant_of-result : goal.invariant_of-result
invariant_of-result c = rw c.in_ok-from_slice-in-None.ensures.items (glob_bytes _ (sym c.in-None.ensures))

pub returns-in-Some-clause-err : goal.returns-in-Some-clause-err
returns-in-Some-clause-err c = refusal-glob _ _ c.in-Some.ensures
