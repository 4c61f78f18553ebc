use Rattle.uvm_sequences.proofs.Common.{◌≡◌, ◌∙◌, sym, ap, subst, Option, IfSome, ◌<◌, ℕ, option_and_then, SequencesValue, Start, parent_of, starts_of}
use Rattle.uvm_sequences.proofs.Unders.{parent-older}
use Rattle.uvm_sequences.proofs.starts.Sequences.parent.Goals as goal

pub returns-clause-older : goal.returns-clause-older
returns-clause-older c =
    let P : Option ℕ → Type 0 = λ o. IfSome o (λ parent. parent < c.args.id) in
    let kept = starts_of c.self.inside.sequences.items in
    let same : kept ≡ c.args.self.now.started = ap (λ (v : SequencesValue). v.started) c.self.view_is in
    let is : parent_of kept c.args.id ≡ c.in_ok-sequence.field-0.now.parent = ap (λ l. parent_of l c.args.id) same ∙ ap (option_and_then (λ (s : Start). s.parent)) (sym c.in_ok-sequence.ensures.start) in
    subst P is (parent-older kept c.args.id c.self.invariant)
