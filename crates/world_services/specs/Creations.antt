-- What creations of components and starts of sequences depend on, taken from the services.
use Rattle.std.specs.Prelude.{◌≡◌, ℕ, List, Option, Some, None}
use Rattle.uvm_factory.specs.declared.overrides.Override.{Override}
use Rattle.uvm_factory.specs.Faults.{Types}
use Rattle.uvm_acts.specs.Acts.{node_of}
use Rattle.uvm_acts.specs.declared.acts.Who.{Who}
use Rattle.uvm_acts.specs.declared.acts.Act.{Act}
use Rattle.uvm_object.specs.declared.fatals.Fatal.{Fatal}
use Rattle.uvm_acts.specs.declared.acts.Act.TheVariants.{Start}
use Rattle.uvm_object.specs.declared.fatals.Fatal.TheVariants.{OverrideLoop, TreeLimit}
use Rattle.world_services.specs.declared.creations.CreationError.{CreationError}
use Rattle.world_services.specs.declared.creations.CreationError.TheVariants.{Refused, Memory}
use Rattle.world_services.specs.declared.services.Services.{Services}
use Rattle.bench_history.specs.Sequences.{home_asked, sequence_path}
use Rattle.bench_history.specs.Refusals.{Creation, Starting}

-- what a creation by a performer depends on, taken from the services
abbrev pub creation_in : Types → List Override → Services → Who → List ℕ → List ℕ → Creation
creation_in types overrides services performer type_name name =
    record { built = services.built; types = types; overrides = overrides; nodes = services.tree.nodes; parent = node_of performer; type_name = type_name; name = name }

-- a creation may run out of memory instead of this refusal, or of none: of all refusals, only that of an override loop is checked after the
-- allocations
abbrev pub MayRunOut : Option Fatal → Type 0
MayRunOut None = Unit {0}
MayRunOut (Some OverrideLoop) = Unit {0}
MayRunOut (Some fatal) = ⊥

-- a start may run out of memory instead of this refusal, or of none: only those of its path and of an override loop are checked after an allocation
abbrev pub MayRunOutEarly : Option Fatal → Type 0
MayRunOutEarly None = Unit {0}
MayRunOutEarly (Some TreeLimit) = Unit {0}
MayRunOutEarly (Some OverrideLoop) = Unit {0}
MayRunOutEarly (Some fatal) = ⊥

-- out of memory may be reported in place of this rejection or of none: `MayRunOutEarly` for a start, otherwise `MayRunOut`
abbrev pub MayRunOutFor : Act → Option Fatal → Type 0
MayRunOutFor (Start type_name name on priority) refusal = MayRunOutEarly refusal
MayRunOutFor act refusal = MayRunOut refusal

-- what a start by a performer depends on, taken from the services
abbrev pub starting_in : Types → List Override → Services → Who → List ℕ → List ℕ → List (List ℕ) → Option ℕ → Starting
starting_in types overrides services performer type_name name on priority = record {
  phase = services.answer.phase;
  types = types;
  overrides = overrides;
  type_name = type_name;
  home = home_asked services.tree.nodes performer on;
  path = sequence_path services.tree.nodes services.sequences.started performer on name;
  priority = priority;
}

-- why a component is not created: the refusal, or out of memory if `MayRunOut` allows it
abbrev pub IsCreationError : Option Fatal → CreationError → Type 0
IsCreationError refusal (Refused fatal) = refusal ≡ Some fatal
IsCreationError refusal Memory = MayRunOut refusal

-- why a sequence is not started: the refusal, or out of memory if `MayRunOutEarly` allows it
abbrev pub IsUnstarted : Option Fatal → CreationError → Type 0
IsUnstarted refusal (Refused fatal) = refusal ≡ Some fatal
IsUnstarted refusal Memory = MayRunOutEarly refusal

-- why an action creates no object, if so: its refusal, or out of memory if `MayRunOutFor` allows it
abbrev pub IsUnmade : Act → Option Fatal → Option CreationError → Type 0
IsUnmade act refusal None = refusal ≡ None
IsUnmade act refusal (Some (Refused fatal)) = refusal ≡ Some fatal
IsUnmade act refusal (Some Memory) = MayRunOutFor act refusal
