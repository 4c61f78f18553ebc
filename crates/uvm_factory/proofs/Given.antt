-- What one more override does to the step of a type.
use Rattle.std.proofs.Common.{◌≡◌, ℕ, ◌+◌, ◌<◌, Bool, true, false, not, List, [], ◌∷◌, ◌++◌, length, take, reverse, get_or, filter, Option, Some, None, option_map, option_and_then, ◌==◌, ◌&&◌, if◌then◌else◌, unwrap_or, refl, ap, ◌∙◌}
use Rattle.std.specs.List.{filter_map, cons_option}
use Rattle.std.specs.Option.{option_or}
use Rattle.std.proofs.Math.Bool.{and-false}
use Rattle.std.proofs.lemmas.List.{take_more, reverse-append}
use Rattle.uvm_glob.specs.Globs.{matches}
use Rattle.uvm_factory.specs.declared.overrides.OverrideStep.TheVariants.{ByInstance, ByType}
use Rattle.uvm_factory.specs.declared.overrides.Override.{Override}
use Rattle.uvm_factory.specs.declared.overrides.Override.TheVariants.{Instance, Whole}
use Rattle.uvm_factory.specs.Steps.{next_type, after_instance, after_type, after_override, is_by_instance, takes_effect}
use Rattle.uvm_glob.specs.Lists.{newest}
use Rattle.uvm_factory.specs.Overrides.{oldest, in_force, step_from, instance_of, type_of, type_step, NoneGivenNoStep, StepsAreGiven, StepsAreGivenInOrder, StepsReplace, replacing}

-- no override gives no step
-- a step leads to the type that takes the place
by-step : (by_instance : Option ℕ) (by_type : Option (ℕ × Bool)) (type_id : ℕ) → next_type type_id (step_from by_instance by_type) ≡ option_and_then (λ new. if new == type_id then None else Some new) (option_or by_instance (option_map (λ o. o.0) by_type))
by-step (Some new) by_type type_id = refl
by-step None (Some o) type_id = refl
by-step None None type_id = refl

pub steps_replace : StepsReplace
unfolding type_step replacing
steps_replace overrides text type_id = by-step (oldest (filter_map (instance_of type_id text) overrides)) (in_force (filter_map (type_of type_id) overrides)) type_id

pub step-none : (type_id : ℕ) (text : List ℕ) → type_step [] type_id text ≡ None
unfolding type_step
step-none type_id text = refl

-- one more instance override
instance_more : (new : ℕ) (first : Option ℕ) (by_type : Option (ℕ × Bool)) → step_from (Some (unwrap_or first new)) by_type ≡ (if not (is_by_instance (step_from first by_type)) && true then Some (ByInstance new) else step_from first by_type)
instance_more new None None = refl
instance_more new None (Some o) = refl
instance_more new (Some old) by_type = refl

-- a list has an override in force
some_in_force : (x : ℕ × Bool) (xs : List (ℕ × Bool)) → (o : ℕ × Bool) × (in_force (x ∷ xs) ≡ Some o)
some_in_force x xs = by (newest (filter (λ o. o.1) (x ∷ xs)))
  where
    by : (found : Option (ℕ × Bool)) → (o : ℕ × Bool) × (option_or found (oldest (x ∷ xs)) ≡ Some o)
    by None = (unwrap_or (oldest xs) x, refl)
    by (Some o) = (o, refl)

-- one more type override
replacing_more : (new : ℕ) (first : Option ℕ) (by_type : Option (ℕ × Bool)) → step_from first (Some (new, true)) ≡ (if takes_effect true (step_from first by_type) then Some (ByType new) else step_from first by_type)
replacing_more new None None = refl
replacing_more new None (Some o) = refl
replacing_more new (Some old) by_type = refl

kept_more : (new : ℕ) (first : Option ℕ) (o : ℕ × Bool) → step_from first (Some o) ≡ (if takes_effect false (step_from first (Some o)) then Some (ByType new) else step_from first (Some o))
kept_more new None o = refl
kept_more new (Some old) o = refl

first_more : (new : ℕ) (first : Option ℕ) → step_from first (Some (new, false)) ≡ (if takes_effect false (step_from first None) then Some (ByType new) else step_from first None)
first_more new None = refl
first_more new (Some old) = refl

giving_more : (new : ℕ) (first : Option ℕ) (types : List (ℕ × Bool)) → step_from first (in_force ((new, false) ∷ types)) ≡ (if takes_effect false (step_from first (in_force types)) then Some (ByType new) else step_from first (in_force types))
giving_more new first [] = first_more new first
giving_more new first (x ∷ xs) =
    let o = some_in_force x xs in
    rw o.1 (kept_more new first o.0)

type_more : (replace : Bool) (new : ℕ) (first : Option ℕ) (types : List (ℕ × Bool)) → step_from first (in_force ((new, replace) ∷ types)) ≡ (if takes_effect replace (step_from first (in_force types)) then Some (ByType new) else step_from first (in_force types))
type_more true new first types = replacing_more new first (in_force types)
type_more false new first types = giving_more new first types

-- the two tests of an instance override, each of which passes or fails
instance_tests : (this fits : Bool) (new : ℕ) (rest : List ℕ) (by_type : Option (ℕ × Bool)) → step_from (oldest (cons_option (if this && fits then Some new else None) rest)) by_type ≡ (if this && not (is_by_instance (step_from (oldest rest) by_type)) && fits then Some (ByInstance new) else step_from (oldest rest) by_type)
instance_tests false fits new rest by_type = refl
instance_tests true false new rest by_type = rw and-false
instance_tests true true new rest by_type = instance_more new (oldest rest) by_type

type_tests : (this replace : Bool) (new : ℕ) (first : Option ℕ) (types : List (ℕ × Bool)) → step_from first (in_force (cons_option (if this then Some (new, replace) else None) types)) ≡ (if this && takes_effect replace (step_from first (in_force types)) then Some (ByType new) else step_from first (in_force types))
type_tests false replace new first types = refl
type_tests true replace new first types = type_more replace new first types

-- the step after one more override
pub step-given : (o : Override) (older : List Override) (type_id : ℕ) (text : List ℕ) → type_step (o ∷ older) type_id text ≡ after_override o type_id text (type_step older type_id text)
unfolding type_step after_instance after_type
step-given (Instance original new scope) older type_id text =
    instance_tests (original == type_id) (matches scope text) new (filter_map (instance_of type_id text) older) (in_force (filter_map (type_of type_id) older))
step-given (Whole original new replace) older type_id text =
    type_tests (original == type_id) replace new (oldest (filter_map (instance_of type_id text) older)) (filter_map (type_of type_id) older)

-- the same where the overrides are kept in the order in which they were given
pub step-push : (os : List Override) (o : Override) (type_id : ℕ) (text : List ℕ) → type_step (reverse (os ++ o ∷ [])) type_id text ≡ after_override o type_id text (type_step (reverse os) type_id text)
step-push os o type_id text = ap (λ l. type_step l type_id text) (reverse-append os (o ∷ [])) ∙ step-given o (reverse os) type_id text

pub step-more : (os : List Override) (i : ℕ) (d : Override) (type_id : ℕ) (text : List ℕ) → i < length os → type_step (reverse (take (i + 1) os)) type_id text ≡ after_override (get_or os i d) type_id text (type_step (reverse (take i os)) type_id text)
step-more os i d type_id text within =
    ap (λ l. type_step (reverse l) type_id text) (take_more os i d within) ∙ step-push (take i os) (get_or os i d) type_id text

pub none_given_no_step : NoneGivenNoStep
none_given_no_step type_id text = step-none type_id text

pub steps_are_given : StepsAreGiven
steps_are_given o older type_id text = step-given o older type_id text

pub steps_are_given_in_order : StepsAreGivenInOrder
steps_are_given_in_order overrides i d type_id text within = step-more overrides i d type_id text within
