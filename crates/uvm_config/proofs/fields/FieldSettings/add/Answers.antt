use Rattle.std.proofs.Common.{◌∙◌, map, sym, ap}
use Rattle.std.proofs.lemmas.Result.{on_ok_weaker}
use Rattle.uvm_config.specs.Fields.{field_setting, field_answer}
use Rattle.uvm_config.proofs.OneField.{field_answer-put, field_answer-stays}
use Rattle.uvm_config.proofs.fields.FieldSettings.add.Goals as goal

-- the one with its scope is stronger
pub returns-then-not-gives_way-clause-answers : goal.returns-then-not-gives_way-clause-answers
returns-then-not-gives_way-clause-answers c = λ text.
    rw (← c.self.view_is) (field_answer-stays c.self.inside.settings.entries c.args.scope c.args.resource (sym c.gives_way.ensures ∙ c.if-not-gives_way.true) text)

-- it is not
pub returns-clause-answers : goal.returns-clause-answers
returns-clause-answers c =
    let gives = sym c.gives_way.ensures ∙ c.if-not-gives_way.false in
    on_ok_weaker c.put_last.result
    (λ put text.
    ap (λ settings. field_answer (map field_setting settings) text) put
    ∙ rw (← c.self.view_is) (field_answer-put c.self.inside.settings.entries c.args.scope c.args.resource gives text))
    c.put_last.ensures.ok
