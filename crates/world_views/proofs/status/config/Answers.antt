use Rattle.std.proofs.Common.{◌≡◌, Option, Some, None, option_map, refl, ap, ◌∙◌}
use Rattle.uvm_glob.specs.Paths.{path_text}
use Rattle.uvm_config.specs.Answers.{Setting, answer_of, strongest, strongest_answer}
use Rattle.bench_history.specs.Configuration.{settings_of}
use Rattle.world_views.proofs.status.config.Goals as goal

-- the value of what a setting answers is the setting's
answer-value : (found : Option Setting) → option_map (λ answer. answer.value) (option_map answer_of found) ≡ option_map (λ setting. setting.value) found
answer-value None = refl
answer-value (Some setting) = refl

pub returns : goal.returns
unfolding strongest_answer
returns c =
    c.get.ensures
    ∙ ap (option_map (λ answer. answer.value)) (c.services.ensures.settings.answers c.args.path.now c.args.field.now)
    ∙ answer-value (strongest (settings_of c.args.world.now.script c.args.world.now.history) (path_text c.args.path.now) c.args.field.now)
