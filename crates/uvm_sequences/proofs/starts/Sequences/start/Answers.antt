use Rattle.uvm_sequences.proofs.Common.{sym, subst, IsSome, ForSome, SequencesValue, numbered}
use Rattle.uvm_sequences.proofs.Steps.{started-push}
use Rattle.uvm_sequences.proofs.starts.Sequences.start.Goals as goal

pub invariant_of-self-2 : goal.invariant_of-self-2
invariant_of-self-2 c =
    let P : SequencesValue → Type 0 = λ v. ForSome c.args.parent (λ parent. IsSome (numbered v.started parent)) in
    rw c.in_ok-push.ensures.items (started-push c.self.inside.sequences.items _ c.self.invariant (subst P (sym c.self.view_is) c.requires.parent) c.requires.priority)
