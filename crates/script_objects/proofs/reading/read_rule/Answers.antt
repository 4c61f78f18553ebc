use Rattle.script_objects.proofs.Common.{◌∙◌, ap, sym, rules, items_view, view, HasLinesFault, HasRuleFault, IsKey, OrMemory, are_answers}
use Rattle.script_objects.proofs.FirstFaults.{each-list, each-text, or-memory, rule-fault}
use Rattle.script_objects.proofs.reading.read_rule.Goals as goal

-- each value is an array of texts, or a text
pub read_each-requires : goal.read_each-requires
read_each-requires c =
    each-list c.in-Some.values.now (ap are_answers (sym c.in-Some.ensures.some.0) ∙ c.in-Some.ensures.some.1) (sym c.begins_with_array-once.ensures.value ∙ c.if-once.true)

pub read_only-requires : goal.read_only-requires
read_only-requires c =
    each-text c.in-Some.values.now (ap are_answers (sym c.in-Some.ensures.some.0) ∙ c.in-Some.ensures.some.1) (sym c.begins_with_array-once.ensures.value ∙ c.if-once.false)

-- the first fault of a text is that of the rule
pub returns-in_err-answers-clause-err : goal.returns-in_err-answers-clause-err
returns-in_err-answers-clause-err c =
    let key : IsKey c.args.call.now c.in-Ok.read.1 = record { some = c.in-Ok.ensures.calls; lacks = c.in-Ok.ensures.item } in
    let told : OrMemory (HasRuleFault (c.args.call.now, view c.args.value.now)) c.in_err-answers.field-0.0 =
    or-memory (HasLinesFault c.in-Ok.read.1 (items_view c.in-Some.values.now)) (HasRuleFault (c.args.call.now, view c.args.value.now)) c.in_err-answers.field-0.0
    (λ fault bad. rule-fault c.args.call.now (view c.args.value.now) (items_view c.in-Some.values.now) c.in-Ok.read.1 fault c.in-Some.ensures.some.0 c.in-Some.ensures.some.1 key bad)
    c.in_err-answers.ensures.err in
    search (rules, told, c.from_residual.ensures)

pub returns-in_err-answers-2-clause-err : goal.returns-in_err-answers-2-clause-err
returns-in_err-answers-2-clause-err c =
    let key : IsKey c.args.call.now c.in-Ok.read.1 = record { some = c.in-Ok.ensures.calls; lacks = c.in-Ok.ensures.item } in
    let told : OrMemory (HasRuleFault (c.args.call.now, view c.args.value.now)) c.in_err-answers-2.field-0.0 =
    or-memory (HasLinesFault c.in-Ok.read.1 (items_view c.in-Some.values.now)) (HasRuleFault (c.args.call.now, view c.args.value.now)) c.in_err-answers-2.field-0.0
    (λ fault bad. rule-fault c.args.call.now (view c.args.value.now) (items_view c.in-Some.values.now) c.in-Ok.read.1 fault c.in-Some.ensures.some.0 c.in-Some.ensures.some.1 key bad)
    c.in_err-answers-2.ensures.err in
    search (rules, told, c.from_residual-in_err-answers-2.ensures)
