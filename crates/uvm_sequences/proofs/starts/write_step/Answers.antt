use Rattle.uvm_sequences.proofs.Common.{◌≡◌, ◌∙◌, sym, arith, refl, None, ◌<◌, ◌≤◌, length, rules, place_in}
use Rattle.uvm_sequences.proofs.Steps.{written-none, written-past, written-step, written-start}
use Rattle.uvm_sequences.proofs.starts.write_step.Goals as goal

pub returns-in_default-clause-steps : goal.returns-in_default-clause-steps
returns-in_default-clause-steps c =
    let place : place_in c.args.id ≡ None = sym c.place_of.ensures ∙ grind arith in
    written-none c.args.sequences.now.items c.args.id c.args.step place

pub returns-then-place-len-clause-steps : goal.returns-then-place-len-clause-steps
returns-then-place-len-clause-steps c =
    let within : c.in-Some.place < length c.args.sequences.now.items = search rules in
    written-step c.args.sequences.now.items c.args.id c.in-Some.place (record c.index_mut-sequence.result.now { step = c.args.step }) (sym c.place_of.ensures ∙ c.in-Some.is) within

pub returns-then-place-len-clause-started : goal.returns-then-place-len-clause-started
returns-then-place-len-clause-started c =
    written-start c.args.sequences.now.items c.in-Some.place (record c.index_mut-sequence.result.now { step = c.args.step }) c.index_mut-sequence.result.now c.index_mut-sequence.ensures.value refl

pub returns-else-place-len-clause-steps : goal.returns-else-place-len-clause-steps
returns-else-place-len-clause-steps c =
    let past : length c.args.sequences.now.items ≤ c.in-Some.place = search rules in
    written-past c.args.sequences.now.items c.args.id c.in-Some.place c.args.step (sym c.place_of.ensures ∙ c.in-Some.is) past
