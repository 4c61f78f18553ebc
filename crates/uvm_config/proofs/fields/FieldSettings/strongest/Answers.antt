use Rattle.std.proofs.Common.{◌∙◌, sym}
use Rattle.uvm_glob.specs.Paths.{path_text}
use Rattle.uvm_config.proofs.OneField.{field_answer-all}
use Rattle.uvm_config.proofs.fields.FieldSettings.strongest.Goals as goal

pub loop-scope-init : goal.loop-scope-init
loop-scope-init c =
    let all = c.into_iter-scope-iterator.ensures.into_iter_gives ∙ c.iter-scope-items.ensures.rest in
    rw (all, ← c.self.view_is) (sym (field_answer-all c.self.inside.settings.entries (path_text c.args.path.now)))
