use Rattle.uvm_sequences.proofs.Common.{sym, subst, SequencesValue, AreStarted}
use Rattle.uvm_sequences.proofs.Unders.{positive-priority}
use Rattle.uvm_sequences.proofs.starts.Sequences.priority.Goals as goal

pub returns-clause-positive : goal.returns-clause-positive
returns-clause-positive c =
    let P : SequencesValue → Type 0 = λ v. AreStarted v.started in
    positive-priority c.args.self.now.started c.args.id _ (subst P c.self.view_is c.self.invariant) (sym c.in_ok-sequence.ensures.start)
