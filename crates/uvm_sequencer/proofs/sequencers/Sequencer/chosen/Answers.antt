use Rattle.uvm_sequencer.proofs.Common.{◌≡◌, ◌∙◌, ◌+◌, ◌<◌, sym, ap, subst, true, IsSome, length, drop, refl, arith, slice_get, option_and_then, IsSomeAnd, SequencerValue, candidates_at, choice, contenders, candidates, is_item}
use Rattle.uvm_sequencer.proofs.Taking.{within-some}
use Rattle.uvm_sequencer.proofs.Contenders.{not-none}
use Rattle.uvm_sequencer.proofs.Granting.{choice-item}
use Rattle.uvm_sequencer.proofs.Passing.{contenders-behind, get-behind, ready-chosen}
use Rattle.uvm_sequencer.proofs.sequencers.Sequencer.chosen.Goals as goal

pub chosen-requires-clause-all : goal.chosen-requires-clause-all
chosen-requires-clause-all c = λ are_all.
    let s = c.args.self.now in
    let Q : SequencerValue → Type 0 = λ v. contenders v.mode (candidates c.args.sequences.now.started s.holders (drop c.args.known s.queue)) ≡ drop c.args.known s.queue in
    rw (c.choices-choices.ensures.sequences, c.choices-choices.ensures.holders, c.choices-choices.ensures.queue)
    (subst Q (sym c.self.view_is) (contenders-behind s.mode c.args.sequences.now.started s.holders s.queue c.args.known (sym c.are_all_contenders.ensures ∙ are_all)))

pub unreachable-requires : goal.unreachable-requires
unreachable-requires c =
    let s = c.args.self.now in
    let found : option_and_then (slice_get c.choices-choices.result.queue.now) c.chosen.result ≡ choice s.mode (candidates_at c.args.sequences.now.started s) c.args.word =
    c.chosen.ensures ∙ rw (c.choices-choices.ensures.sequences, c.choices-choices.ensures.holders, c.choices-choices.ensures.candidates)
    (ap (λ (v : SequencerValue). choice v.mode (candidates_at c.args.sequences.now.started s) c.args.word) c.self.view_is) in
    let some = ready-chosen c.args.sequences.now.started s c.choices-choices.result.queue.now c.args.word c.choices-choices.ensures.candidates c.choices-choices.ensures.priorities c.requires.ready in
    not-none c.choices-choices.result.queue.now c.chosen.result _ found some c.in_default.is

-- the one that stands there is the one that is chosen of the whole queue
there : (c : goal.In-Some) → slice_get c.args.self.now.queue (c.args.known + c.in-Some.place) ≡ choice c.args.self.now.mode (candidates_at c.args.sequences.now.started c.args.self.now) c.args.word
there c =
    let s = c.args.self.now in
    sym (get-behind s.queue c.args.known c.in-Some.place (c.args.known + c.in-Some.place) refl)
    ∙ ap (λ l. slice_get l c.in-Some.place) (sym c.choices-choices.ensures.queue)
    ∙ ap (option_and_then (slice_get c.choices-choices.result.queue.now)) (sym c.in-Some.is)
    ∙ c.chosen.ensures
    ∙ rw (c.choices-choices.ensures.sequences, c.choices-choices.ensures.holders, c.choices-choices.ensures.candidates)
    (ap (λ (v : SequencerValue). choice v.mode (candidates_at c.args.sequences.now.started s) c.args.word) c.self.view_is)

some : (c : goal.In-Some) → IsSome (choice c.args.self.now.mode (candidates_at c.args.sequences.now.started c.args.self.now) c.args.word)
some c = ready-chosen c.args.sequences.now.started c.args.self.now c.choices-choices.result.queue.now c.args.word c.choices-choices.ensures.candidates c.choices-choices.ensures.priorities c.requires.ready

item : (c : goal.In-Some) → IsSomeAnd (slice_get c.args.self.now.queue (c.args.known + c.in-Some.place)) (λ request. is_item request ≡ true)
item c = subst (λ found. IsSomeAnd found (λ request. is_item request ≡ true)) (sym (there c)) (choice-item c.args.sequences.now.started c.args.self.now c.args.word (some c))

pub overflow_add-result : goal.overflow_add-result
overflow_add-result c =
    let within : c.args.known + c.in-Some.place < length c.args.self.now.queue = within-some c.args.self.now.queue (c.args.known + c.in-Some.place) (λ request. is_item request ≡ true) (item c) in
    omega (arith, within, c.choices-choices.ensures.small)

pub returns-clause-value : goal.returns-clause-value
returns-clause-value c = there c

pub returns-clause-item : goal.returns-clause-item
returns-clause-item c = item c
