use Rattle.uvm_sequences.proofs.Common.{◌∙◌, ◌<◌, ◌≤◌, sym, subst, arith, SequencesValue, AreStarted}
use Rattle.uvm_sequences.proofs.Unders.{under-parent, under-none, under-same}
use Rattle.uvm_sequences.proofs.starts.Sequences.is_under.Goals as goal

pub loop-at-preserved : goal.loop-at-preserved
loop-at-preserved c =
    let newer : c.args.above < c.loop-at.at = omega arith in
    c.loop-at.invariant ∙ under-parent c.args.self.now.started c.loop-at.at c.args.above c.in-Some.parent newer c.in-Some.ensures.older (sym c.in-Some.ensures.parent)

pub returns-in-None : goal.returns-in-None
returns-in-None c =
    let newer : c.args.above < c.loop-at.at = omega arith in
    sym (c.loop-at.invariant ∙ under-none c.args.self.now.started c.loop-at.at c.args.above newer (sym c.in-None.ensures.parent))

pub returns : goal.returns
returns c =
    let P : SequencesValue → Type 0 = λ v. AreStarted v.started in
    let old : c.loop-at.at ≤ c.args.above = omega arith in
    c.eq.ensures ∙ sym (c.loop-at.invariant ∙ under-same c.args.self.now.started c.loop-at.at c.args.above (subst P c.self.view_is c.self.invariant) old)
