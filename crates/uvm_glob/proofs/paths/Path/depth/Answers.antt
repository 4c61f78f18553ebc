use Rattle.uvm_glob.proofs.PathTexts.{names-few}
use Rattle.uvm_glob.proofs.paths.Path.depth.Goals as goal

-- a path has few names
pub returns-clause-limit : goal.returns-clause-limit
returns-clause-limit c = rw (c.count_names.ensures.count, c.as_slice.ensures.value) (names-few _ c.self.invariant)
