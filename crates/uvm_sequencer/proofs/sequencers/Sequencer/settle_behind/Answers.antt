use Rattle.uvm_sequencer.proofs.Common.{◌≡◌, ◌∙◌, sym, ap, Some, slice_get, option_and_then, leading_lock, lock_in, SequencerValue, lock_at}
use Rattle.uvm_sequencer.proofs.Waiting.{room-to-grant, room-granted}
use Rattle.uvm_sequencer.proofs.sequencers.Sequencer.settle_behind.Goals as goal

pub push-requires : goal.push-requires
push-requires c =
    let lead : leading_lock c.args.sequences.now.started c.self.inside.holders.list c.self.inside.queue ≡ Some c.in_ok-seq.seq =
    ap (lock_at c.args.sequences.now.started) c.self.view_is ∙ sym c.leading-place.ensures ∙ ap (λ (v : SequencerValue). option_and_then lock_in (slice_get v.queue c.leading-place.result)) (sym c.self.view_is)
    ∙ sym c.take_lock.ensures.value ∙ c.in_ok-seq.was in
    room-to-grant c.args.sequences.now.started c.self.inside.holders.list c.self.inside.queue c.in_ok-seq.seq lead c.self.inside.holders.spare c.self.invariant.room

pub invariant_of-self-2 : goal.invariant_of-self-2
invariant_of-self-2 c =
    let lead : leading_lock c.args.sequences.now.started c.self.inside.holders.list c.self.inside.queue ≡ Some c.in_ok-seq.seq =
    ap (lock_at c.args.sequences.now.started) c.self.view_is ∙ sym c.leading-place.ensures ∙ ap (λ (v : SequencerValue). option_and_then lock_in (slice_get v.queue c.leading-place.result)) (sym c.self.view_is)
    ∙ sym c.take_lock.ensures.value ∙ c.in_ok-seq.was in
    record {
      room = rw c.in_ok-seq.ensures.after
          (room-granted c.args.sequences.now.started c.self.inside.holders.list c.self.inside.queue c.in_ok-seq.seq lead c.self.inside.holders.spare c.push.new.self.spare c.self.invariant.room c.push.ensures.spare);
    }
