use Rattle.std.proofs.Common.{◌≡◌}
use Rattle.uvm_glob.specs.Paths.{path_text}
use Rattle.uvm_factory.specs.Standing.{placed_at}
use Rattle.uvm_factory.proofs.standing.first_matching.Given as goal

-- the first is among those that are left
abbrev pub invariant-loop-scope : goal.invariant-loop-scope
invariant-loop-scope l = placed_at l.scope-iterator (path_text l.path) ≡ placed_at l.instances.entries (path_text l.path)
