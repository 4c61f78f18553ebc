use Rattle.uvm_glob.proofs.Common.{◌+◌, ◌∙◌, sym, ap}
use Rattle.uvm_glob.proofs.PathTexts.{length-names_of}
use Rattle.uvm_glob.proofs.paths.count_names.Goals as goal

pub returns-else-is_empty-clause-count : goal.returns-else-is_empty-clause-count
returns-else-is_empty-clause-count c =
    ap (λ n. n + 1) c.count_dots.ensures.count ∙ sym (length-names_of c.args.text.now (sym c.is_empty.ensures ∙ c.if-is_empty.false))
