use Rattle.std.proofs.Common.{◌∙◌, ap, refl}
use Rattle.bench_core.specs.Cores.{CoreValue}
use Rattle.bench_run.specs.Running.{Grows}
use Rattle.script_legal.proofs.Repeated.{text-grown}
use Rattle.script_legal.proofs.repeats.repeat.Goals as goal

-- one more entry, whose text stands in front of what is left
pub loop-core-preserved : goal.loop-core-preserved
loop-core-preserved c =
    let inv = c.loop-core.invariant in
    let grown : Grows c.loop-core.core c.make_entry-made.new.core = c.in-Ok-true.ensures.made c.in-Ok-true.field-0-test in
    let good = ap (λ (core : CoreValue). core.health) grown.is ∙ inv.good in
    let script = c.in-Ok-true.ensures.script ∙ inv.script in
    record {
      good = good;
      script = script;
      text = text-grown c.args.core.now.script c.loop-core.core c.make_entry-made.new.core c.args.text.now c.loop-core.left.now c.last_text.new.out.items c.in-Some.rest.now grown script (rw good refl)
          (rw c.clear.ensures.items at c.in_ok-last_text-in-Ok-true.ensures.ok) (rw c.as_slice.ensures.value at c.in-Some.ensures) inv.text;
    }
