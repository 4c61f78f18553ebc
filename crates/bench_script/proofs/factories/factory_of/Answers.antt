use Rattle.std.proofs.Common.{◌∙◌, take, reverse, sym, ap}
use Rattle.uvm_glob.specs.Paths.{path_text}
use Rattle.uvm_factory.specs.Steps.{after_override}
use Rattle.uvm_factory.specs.Overrides.{type_step}
use Rattle.bench_script.proofs.factories.factory_of.Goals as goal

-- no override was given
pub loop-given-init : goal.loop-given-init
loop-given-init c = (
  c.in_ok-register_all.ensures.types ∙ c.types.ensures.types,
  λ type_id path. c.in_ok-register_all.ensures.steps type_id path ∙ c.new-factory.ensures.steps type_id path ∙ sym (c.none_given_no_step.ensures type_id (path_text path)),
)

-- one more override
pub loop-given-preserved : goal.loop-given-preserved
loop-given-preserved c = (
  c.in_ok-apply.ensures.types ∙ c.loop-given.invariant.0,
  λ type_id path.
      c.in_ok-apply.ensures.steps type_id path
      ∙ ap (after_override c.given-item.result type_id (path_text path)) (c.loop-given.invariant.1 type_id path)
      ∙ ap (λ o. after_override o type_id (path_text path) (type_step (reverse (take c.loop-given.given-index c.overrides-overrides.result.now)) type_id (path_text path))) c.given-item.is
      ∙ sym (c.steps_are_given_in_order.ensures c.overrides-overrides.result.now c.loop-given.given-index c.given-item.result type_id (path_text path) c.loop-given-test.true),
)
