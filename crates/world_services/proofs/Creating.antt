-- What an act comes to that makes an object.
use Rattle.world_services.proofs.Common.{◌≡◌, ℕ, List, Option, Some, None, Result, Ok, Err, IfOk, IfErr, refl, ap, sym, ◌∙◌, subst, result_err, Override, Types, Create, Outcome, Made, Started, Fatal, Need, Creation, Starting, creation_refusal, starting_refusal, Needs, creation_effect, needed_object, needed_sequence, starting_effect, unless_refused, refusal_in, CreationError, Memory, IsFactory, IsCreationError, IsUnmade, IsUnstarted, MayRunOut, MayRunOutEarly, Representation}
use Rattle.uvm_acts.specs.declared.acts.Act.TheVariants.{Start}
use Rattle.world_services.specs.declared.creations.CreationError.TheVariants.{Refused}

-- what becomes of such an act is refused for the cause for which it is
refused-why : (refusal : Option Fatal) (need : Need) (made : Outcome) → refusal ≡ refusal_in (unless_refused refusal (Needs need made))
refused-why None need made = refl
refused-why (Some fatal) need made = refl

-- why nothing is created
module _ {factory : Representation} (types : Types) (overrides : List Override) (known : IsFactory types overrides factory) where
  pub creation_error-why :
      (creation : Types → List Override → Creation) (type_name name : List ℕ) (result : Result Need CreationError)
      → IfOk result (λ need. (types : Types) (overrides : List Override) → IsFactory types overrides factory → creation_effect (creation types overrides) ≡ Needs need (Made need.type_name))
      → IfErr result (λ fault. (types : Types) (overrides : List Override) → IsFactory types overrides factory → IsCreationError (creation_refusal (creation types overrides)) fault)
      → IsUnmade (Create type_name name) (refusal_in (creation_effect (creation types overrides))) (result_err result)
  creation_error-why creation type_name name (Ok need) ok err = ap refusal_in (ok types overrides known)
  creation_error-why creation type_name name (Err (Refused fatal)) ok err = sym (refused-why (creation_refusal (creation types overrides)) (needed_object (creation types overrides)) (Made (needed_object (creation types overrides)).type_name)) ∙ err types overrides known
  creation_error-why creation type_name name (Err Memory) ok err = subst MayRunOut (refused-why (creation_refusal (creation types overrides)) (needed_object (creation types overrides)) (Made (needed_object (creation types overrides)).type_name)) (err types overrides known)

  -- and why nothing is started
  pub unstarted-why :
      (starting : Types → List Override → Starting) (count : ℕ) (type_name name : List ℕ) (on : List (List ℕ)) (priority : Option ℕ) (result : Result (Need × ℕ) CreationError)
      → IfOk result (λ found. (types : Types) (overrides : List Override) → IsFactory types overrides factory → (starting_refusal (starting types overrides) ≡ None) × (needed_sequence (starting types overrides) ≡ found.0))
      → IfErr result (λ fault. (types : Types) (overrides : List Override) → IsFactory types overrides factory → IsUnstarted (starting_refusal (starting types overrides)) fault)
      → IsUnmade (Start type_name name on priority) (refusal_in (starting_effect count (starting types overrides))) (result_err result)
  unstarted-why starting count type_name name on priority (Ok found) ok err = sym (refused-why (starting_refusal (starting types overrides)) (needed_sequence (starting types overrides)) (Started _)) ∙ (ok types overrides known).0
  unstarted-why starting count type_name name on priority (Err (Refused fatal)) ok err = sym (refused-why (starting_refusal (starting types overrides)) (needed_sequence (starting types overrides)) (Started _)) ∙ err types overrides known
  unstarted-why starting count type_name name on priority (Err Memory) ok err = subst MayRunOutEarly (refused-why (starting_refusal (starting types overrides)) (needed_sequence (starting types overrides)) (Started _)) (err types overrides known)
