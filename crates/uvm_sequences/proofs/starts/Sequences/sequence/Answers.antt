use Rattle.uvm_sequences.proofs.Common.{◌≡◌, ◌∙◌, sym, ap, arith, Some, None, option_copied, option_map, option_and_then, slice_get, common_steps, gets, place_in, start_of, Sequence}
use Rattle.uvm_sequences.proofs.Numbers.{numbered-kept}
use Rattle.uvm_sequences.proofs.starts.Sequences.sequence.Goals as goal

pub returns-in-None-clause-start : goal.returns-in-None-clause-start
returns-in-None-clause-start c =
    let place : place_in c.args.id ≡ None = sym c.place_of.ensures ∙ c.in-None.is in
    rw (← c.self.view_is) (ap (λ o. option_map start_of (option_and_then (slice_get c.self.inside.sequences.items) o)) (sym place) ∙ numbered-kept _ c.self.inside.sequences.items c.args.id)

pub returns-in-None-clause-step : goal.returns-in-None-clause-step
returns-in-None-clause-step c =
    let place : place_in c.args.id ≡ None = sym c.place_of.ensures ∙ c.in-None.is in
    rw (← c.self.view_is) (ap (λ o. option_map (λ (s : Sequence). s.step) (option_and_then (slice_get c.self.inside.sequences.items) o)) (sym place) ∙ numbered-kept _ c.self.inside.sequences.items c.args.id)

pub returns-in-Some-clause-start : goal.returns-in-Some-clause-start
returns-in-Some-clause-start c =
    let place : place_in c.args.id ≡ Some c.in-Some.place = sym c.place_of.ensures ∙ c.in-Some.is in
    let read : option_copied c.get.result ≡ slice_get c.deref.result.now c.in-Some.place = grind (arith, common_steps, gets) in
    rw (← c.self.view_is)
    (ap (option_map start_of) (read ∙ ap (λ l. slice_get l c.in-Some.place) c.deref.ensures.value)
    ∙ ap (λ o. option_map start_of (option_and_then (slice_get c.self.inside.sequences.items) o)) (sym place) ∙ numbered-kept _ c.self.inside.sequences.items c.args.id)

pub returns-in-Some-clause-step : goal.returns-in-Some-clause-step
returns-in-Some-clause-step c =
    let place : place_in c.args.id ≡ Some c.in-Some.place = sym c.place_of.ensures ∙ c.in-Some.is in
    let read : option_copied c.get.result ≡ slice_get c.deref.result.now c.in-Some.place = grind (arith, common_steps, gets) in
    rw (← c.self.view_is)
    (ap (option_map (λ (s : Sequence). s.step)) (read ∙ ap (λ l. slice_get l c.in-Some.place) c.deref.ensures.value)
    ∙ ap (λ o. option_map (λ (s : Sequence). s.step) (option_and_then (slice_get c.self.inside.sequences.items) o)) (sym place) ∙ numbered-kept _ c.self.inside.sequences.items c.args.id)
