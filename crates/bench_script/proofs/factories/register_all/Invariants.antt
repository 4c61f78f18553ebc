use Rattle.std.proofs.Common.{◌≡◌, ℕ, List, take, drop}
use Rattle.uvm_factory.specs.Observed.{types_of, step_at}
use Rattle.script_tables.specs.Rows.{CanRegister}
use Rattle.bench_script.proofs.factories.register_all.Given as goal

-- the types so far are registered, and the others can be
abbrev pub invariant-loop-name : goal.invariant-loop-name
invariant-loop-name l =
    (types_of l.factory ≡ take l.name-index l.types)
    × CanRegister (types_of l.factory) (drop l.name-index l.types)
    × ((type_id : ℕ) (path : List (List ℕ)) → step_at l.factory type_id path ≡ step_at l.fn.factory type_id path)
