-- The factory of a script.
use Rattle.std.specs.Prelude.{◌≡◌, ℕ, List, reverse}
use Rattle.uvm_glob.specs.Paths.{path_text}
use Rattle.uvm_factory.specs.Overrides.{type_step}
use Rattle.uvm_factory.specs.Observed.{Representation, types_of, step_at}
use Rattle.bench_script.specs.Scripts.{ScriptValue}

-- the factory has the types of the script; at each path, the overrides of the script decide which override applies to a type
pub record IsFactoryOf (script : ScriptValue) (kept : Representation) : Type 0 where
  pub types : types_of kept ≡ script.types
  pub steps : (type_id : ℕ) (path : List (List ℕ)) → step_at kept type_id path ≡ type_step (reverse script.overrides) type_id (path_text path)
