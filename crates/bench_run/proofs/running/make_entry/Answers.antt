use Rattle.bench_run.proofs.Common.{◌≡◌, ◌∙◌}
use Rattle.bench_run.proofs.Goings.{told-more}
use Rattle.bench_run.proofs.Lives.{kept-back, kept-moved}
use Rattle.bench_run.proofs.running.make_entry.Goals as goal

-- the kernel made the entry by itself
pub returns-in-Ok-Moved-clause-objects : goal.returns-in-Ok-Moved-clause-objects
returns-in-Ok-Moved-clause-objects g c = λ kept.
    let step = rw c.in-Ok-Moved.field-0-is at (c.in-Ok-Moved.ensures.step) in
    kept-moved g.O.UvmObject.view g.O.UvmObject.name g.O.UvmObject.says _ c.others_make_nobody.ensures c.loop-kernel.kernel c.step.new.self step.1 c.live-held.ensures.distinct (c.loop-kernel.invariant.objects kept)

-- one who has ended is given back
pub loop-kernel-preserved-in-Ok-Back : goal.loop-kernel-preserved-in-Ok-Back
loop-kernel-preserved-in-Ok-Back g c =
    let step = rw c.in-Ok-Back.field-0-is at (c.in-Ok-Back.ensures.step) in
    let words : c.step.new.words ≡ c.loop-kernel.words = rw c.in-Ok-Back.field-0-is at (c.in-Ok-Back.ensures.words) in
    record {
      told = told-more g.O.UvmObject.view g.O.UvmObject.name g.O.UvmObject.says c.in-Ok-Back.field-0-0 c.in-Ok-Back.field-0-1 c.args.kernel.now c.loop-kernel.kernel c.step.new.self c.loop-kernel.invariant.told step.1;
      words = words ∙ c.loop-kernel.invariant.words;
      objects = λ kept. kept-back g.O.UvmObject.view g.O.UvmObject.name g.O.UvmObject.says _ c.in-Ok-Back.field-0-0 c.in-Ok-Back.field-0-1 c.loop-kernel.kernel c.step.new.self step.1 (c.loop-kernel.invariant.objects kept);
    }
