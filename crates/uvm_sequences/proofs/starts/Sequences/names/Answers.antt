use Rattle.uvm_sequences.proofs.Common.{◌∙◌, subst, SequencesValue, AreStarted}
use Rattle.uvm_sequences.proofs.Living.{names-parent}
use Rattle.uvm_sequences.proofs.starts.Sequences.names.Goals as goal

pub loop-next-preserved : goal.loop-next-preserved
loop-next-preserved c =
    let P : SequencesValue → Type 0 = λ v. AreStarted v.started in
    let are : AreStarted c.args.self.now.started = subst P c.self.view_is c.self.invariant in
    rw (c.in_ok-push_some.ensures, c.name.ensures, c.parent-next.ensures.parent) (names-parent c.args.self.now.started c.in-Some.at c.loop-next.names.items are ∙ rw c.in-Some.is at c.loop-next.invariant)
