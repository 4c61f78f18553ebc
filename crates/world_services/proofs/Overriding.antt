-- One more override.
use Rattle.world_services.proofs.Common.{◌≡◌, ℕ, List, ◌∷◌, ap, ◌∙◌, sym, path_text, Override, Types, types_of, step_at, after_override, StepsAreGiven, IsFactory, Representation}

-- the factory gives what one more override gives
pub factory-more : {types : Types} {overrides : List Override} {old new : Representation} (o : Override) → StepsAreGiven → types_of new ≡ types_of old → ((type_id : ℕ) (path : List (List ℕ)) → step_at new type_id path ≡ after_override o type_id (path_text path) (step_at old type_id path)) → IsFactory types overrides old → IsFactory types (o ∷ overrides) new
factory-more {types} {overrides} o given same steps f = record {
  types_are = same ∙ f.types_are;
  steps = λ type_id path. steps type_id path ∙ ap (after_override o type_id (path_text path)) (f.steps type_id path) ∙ sym (given o overrides type_id (path_text path));
}
