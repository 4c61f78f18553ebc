use Rattle.std.proofs.Common.{◌∙◌}
use Rattle.bench_replay.proofs.Repeats.{repeated}
use Rattle.bench_replay.proofs.replays.repeat.Goals as goal

-- the kernel made the entry by itself
pub returns-in-Ok-Moved-clause-ok : goal.returns-in-Ok-Moved-clause-ok
returns-in-Ok-Moved-clause-ok c =
    repeated c.args.core.now c.loop-core.core c.next.new.self c.args.entry.now c.word_of.result c.loop-core.words c.next.new.words c.requires.settled c.requires.next c.loop-core.invariant.0
    (c.loop-core.invariant.1 ∙ c.new-words.ensures) c.word_of.ensures (rw c.in-Ok-Moved.field-0-is at (c.in-Ok-Moved.ensures.turn)) (rw c.in-Ok-Moved.field-0-is at (c.in-Ok-Moved.ensures.words))
