-- Where a row ends.
use Rattle.std.proofs.Common.{◌≡◌, ◌≤◌, ℕ, zero, suc, Option, Some, None, MatchOption, IsSome, refl, arith}
use Rattle.std.specs.Option.{option_map_or}
use Rattle.uvm_factory.specs.Steps.{made, type_after, MadeIsEnd}

-- what the end of a row says of the types on the way
abbrev Says : (ℕ → Option ℕ) → ℕ → ℕ → Option ℕ → Type 0
Says next left type_id end = MatchOption end (IsSome (type_after next (suc left) type_id)) (λ last. (steps : ℕ) × (steps ≤ left) × (type_after next steps type_id ≡ Some last) × (next last ≡ None))

-- one step earlier
later : (next : ℕ → Option ℕ) (left type_id to : ℕ) → next type_id ≡ Some to → (end : Option ℕ) → Says next left to end → Says next (suc left) type_id end
later next left type_id to step None told = rw step told
later next left type_id to step (Some last) told = (suc told.0, omega (arith, told.1), rw step told.2, told.3)

at_zero : (next : ℕ → Option ℕ) (type_id : ℕ) (step : Option ℕ) → next type_id ≡ step → Says next zero type_id (option_map_or (λ _. None) step (Some type_id))
at_zero next type_id None e = (0, omega arith, refl, e)
at_zero next type_id (Some to) e = rw e refl

at_more : (next : ℕ → Option ℕ) (left type_id : ℕ) → ((to : ℕ) → Says next left to (made next left to)) → (step : Option ℕ) → next type_id ≡ step → Says next (suc left) type_id (option_map_or (made next left) step (Some type_id))
at_more next left type_id each None e = (0, omega arith, refl, e)
at_more next left type_id each (Some to) e = later next left type_id to e (made next left to) (each to)

pub made_is_end : MadeIsEnd
unfolding made
made_is_end next zero type_id = at_zero next type_id (next type_id) refl
made_is_end next (suc left) type_id = at_more next left type_id (made_is_end next left) (next type_id) refl
