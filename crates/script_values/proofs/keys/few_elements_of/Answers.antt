use Rattle.script_values.proofs.Common.{refl}
use Rattle.script_values.proofs.Elements.{few-items_view, many-items_view}
use Rattle.script_values.proofs.keys.few_elements_of.Goals as goal

pub returns-then-elements-most-clause-elements : goal.returns-then-elements-most-clause-elements
returns-then-elements-most-clause-elements c =
    let many = many-items_view c.in_ok-elements.elements.now c.args.most c.if-elements-most.true in
    rw (c.in_ok-elements.ensures, many) refl

pub returns-clause-elements : goal.returns-clause-elements
returns-clause-elements c =
    let few = few-items_view c.in_ok-elements.elements.now c.args.most c.if-elements-most.false in
    rw (c.in_ok-elements.ensures, few) refl
