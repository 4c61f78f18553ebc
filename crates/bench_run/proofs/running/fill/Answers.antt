use Rattle.bench_run.proofs.Common.{◌≡◌, ◌∙◌, [], None, Some, Ok, ap, on_ok_weaker, option_map_or, wanted_in}
use Rattle.bench_history.specs.declared.needs.Need.{Need}
use Rattle.bench_run.proofs.Lives.{kept-declined, kept-filled, may-give}
use Rattle.bench_run.proofs.running.fill.Goals as goal

-- what was given is supplied, or of another type
pub returns-in-Ok-Some-clause-objects : goal.returns-in-Ok-Some-clause-objects
returns-in-Ok-Some-clause-objects g c =
    let wanted : c.in-Some.need.now.type_name ≡ wanted_in c.args.kernel.now = ap (λ need. option_map_or (λ (n : Need). n.type_name) need []) c.in-Some.ensures in
    on_ok_weaker c.supply.result
    (kept-filled g.O.UvmObject.view g.O.UvmObject.name g.O.UvmObject.says _ c.made_are_new.ensures c.in-Ok-Some.object c.args.kernel.now c.supply.new.kernel c.requires.asked
    (may-give g.F.Fn c.args.make.now _ _ _ (Some c.in-Ok-Some.object) c.make.ensures wanted (c.in-Ok-Some.is ∙ ap Ok c.in-Ok-Some.field-0-is))) c.supply.ensures.filled

-- nothing is given
pub returns-in-Ok-None-clause-objects : goal.returns-in-Ok-None-clause-objects
returns-in-Ok-None-clause-objects g c =
    let wanted : c.in-Some.need.now.type_name ≡ wanted_in c.args.kernel.now = ap (λ need. option_map_or (λ (n : Need). n.type_name) need []) c.in-Some.ensures in
    kept-declined g.O.UvmObject.view g.O.UvmObject.name g.O.UvmObject.says _ c.args.kernel.now c.decline.new.self c.decline.ensures.entry c.decline.ensures.one c.requires.asked
    (record { given = None; gives = may-give g.F.Fn c.args.make.now _ _ _ None c.make.ensures wanted (c.in-Ok-None.is ∙ ap Ok c.in-Ok-None.field-0-is); none = tt })
