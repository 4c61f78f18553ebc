-- The number of due calls of each owner.
use Rattle.std.specs.Prelude.{◌≡◌, ℕ, zero, suc, Bool, true, List, [], ◌∷◌, length, filter, map, Option, None, Some, option_map, unwrap_or}
use Rattle.std.specs.HashMap.{get}
use Rattle.uvm_phase.specs.declared.agendas.Due.{Due}
use Rattle.uvm_phase.specs.declared.owners.Owners.{Owners}

-- the owners of some calls, one for each call
abbrev pub owners_of : {O N : Type 0} → List (Due O N) → List O
owners_of dues = map (λ due. due.owner) dues

-- how often an owner occurs in a list of owners
abbrev pub times : {O : Type 0} → (O → O → Bool) → O → List O → ℕ
times same owner owners = length (filter (λ other. same other owner) owners)

-- a number, or `None` for 0
abbrev pub counted : ℕ → Option ℕ
counted zero = None
counted (suc n) = Some (suc n)

-- the count that is kept for an owner, if there is one
abbrev pub kept_count : {O : Type 0} → (O → O → Bool) → Owners O → O → Option ℕ
kept_count same owners owner = option_map (λ owned. owned.count) (get same owners.counts owner)

-- the count that is kept for an owner, 0 if there is none
abbrev pub count_at : {O : Type 0} → (O → O → Bool) → Owners O → O → ℕ
count_at same owners owner = unwrap_or (kept_count same owners owner) 0

-- if the counts are complete, the count kept for each owner is how often it occurs, and an owner that does not occur has none
abbrev pub CountsEach : {O : Type 0} → (O → O → Bool) → Owners O → List O → Type 0
CountsEach {O} same kept owners = kept.complete ≡ true → (owner : O) → kept_count same kept owner ≡ counted (times same owner owners)

-- the list has an element at this index, and the element passes a test
abbrev pub HasAt : {X : Type 0} → (X → Bool) → List X → ℕ → Type 0
HasAt test [] place = ⊥
HasAt test (x ∷ xs) zero = test x ≡ true
HasAt test (x ∷ xs) (suc place) = HasAt test xs place
