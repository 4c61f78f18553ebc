use Rattle.uvm_sequencer.proofs.Common.{◌≡◌, ◌∙◌, ◌≤◌, ◌+◌, ap, sym, not, drop, length, arith, position_or_len, prefix_len-le-length, Request, is_blocked, SequencerValue, length-drop}
use Rattle.uvm_sequencer.proofs.Passing.{passed-more, passed-next}
use Rattle.uvm_sequencer.proofs.sequencers.Sequencer.passed.Goals as goal

-- how many stand there behind those that are known
counted : (c : goal.After-count_passed) → c.count_passed.result ≡ position_or_len (λ (request : Request). not (is_blocked c.args.sequences.now.started c.args.self.now.holders request.seq)) (drop c.args.known c.args.self.now.queue)
counted c =
    let queue : c.self.inside.queue ≡ c.args.self.now.queue = ap (λ (v : SequencerValue). v.queue) c.self.view_is in
    let holders = ap (λ (v : SequencerValue). v.holders) c.self.view_is in
    c.count_passed.ensures
    ∙ ap (λ l. position_or_len (λ (request : Request). not (is_blocked c.args.sequences.now.started l request.seq)) c.behind-rest.result.now) holders
    ∙ ap (λ l. position_or_len (λ (request : Request). not (is_blocked c.args.sequences.now.started c.args.self.now.holders request.seq)) l) (c.behind-rest.ensures.value ∙ ap (drop c.args.known) queue)

within : (c : goal.After-count_passed) → c.args.known + c.count_passed.result ≤ length c.args.self.now.queue
within c =
    let few = prefix_len-le-length (λ (request : Request). not (not (is_blocked c.args.sequences.now.started c.args.self.now.holders request.seq))) (drop c.args.known c.args.self.now.queue) in
    let size = length-drop c.args.known c.args.self.now.queue in
    let is = counted c in
    omega (arith, few, size, is, c.requires.within)

pub overflow_add-result : goal.overflow_add-result
overflow_add-result c =
    let few = within c in
    let size : length c.args.self.now.queue ≡ length c.self.inside.queue = ap (λ (v : SequencerValue). length v.queue) (sym c.self.view_is) in
    omega (arith, few, size, c.behind-rest.ensures.small)

pub returns-clause-passed : goal.returns-clause-passed
returns-clause-passed c = record {
  within = within c;
  blocked = passed-more c.args.sequences.now.started c.args.self.now.holders c.args.self.now.queue c.args.known (c.args.known + c.count_passed.result) (ap (λ n. c.args.known + n) (counted c)) c.requires.blocked;
}

pub returns-clause-next : goal.returns-clause-next
returns-clause-next c = passed-next c.args.sequences.now.started c.args.self.now.holders c.args.self.now.queue c.args.known (c.args.known + c.count_passed.result) (ap (λ n. c.args.known + n) (counted c))
