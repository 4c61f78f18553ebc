use Rattle.std.proofs.Common.{◌≡◌, ℕ, List, take, reverse}
use Rattle.uvm_glob.specs.Paths.{path_text}
use Rattle.uvm_factory.specs.Observed.{types_of, step_at}
use Rattle.uvm_factory.specs.Overrides.{type_step}
use Rattle.bench_script.proofs.factories.factory_of.Given as goal

-- the factory gives what the overrides so far give
abbrev pub invariant-loop-given : goal.invariant-loop-given
invariant-loop-given l =
    (types_of l.factory ≡ l.script.types)
    × ((type_id : ℕ) (path : List (List ℕ)) → step_at l.factory type_id path ≡ type_step (reverse (take l.given-index l.overrides)) type_id (path_text path))
