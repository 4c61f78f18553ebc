use Rattle.std.proofs.Common.{◌∙◌}
use Rattle.bench_waves.proofs.waves.lock_of.Goals as goal

-- by the key of the sequencer
pub returns-in-Holder : goal.returns-in-Holder
returns-in-Holder c = λ log locks. rw c.in-Holder.is (c.copied.ensures ∙ c.get.ensures.value ∙ locks c.in-Holder.node)
