-- The calls that are due, in the order in which they come due.
use Rattle.std.specs.Prelude.{◌≡◌, ◌+◌, ℕ, Bool, false, ◌&&◌, ◌||◌, ◌==◌, nat_lt, List, [], ◌∷◌, length, AllPairs, IsPermutation, if◌then◌else◌}
use Rattle.uvm_phase.specs.declared.agendas.Cause.{Cause}
use Rattle.uvm_phase.specs.declared.agendas.Due.{Due}

-- whether two causes are the same
abbrev pub same_cause : Cause → Cause → Bool
same_cause a b = (a.place == b.place) && (a.number == b.number)

-- whether one call comes due before another: by time, then by the place of the cause, then by its number
unfoldable pub is_due_before : {O N : Type 0} → Due O N → Due O N → Bool
is_due_before a b =
    nat_lt a.time b.time
    || ((a.time == b.time) && (nat_lt a.cause.place b.cause.place || ((a.cause.place == b.cause.place) && nat_lt a.cause.number b.cause.number)))

-- the calls with one more, inserted before the first call that comes due after it
abbrev pub insert_due : {O N : Type 0} → Due O N → List (Due O N) → List (Due O N)
insert_due due [] = due ∷ []
insert_due due (other ∷ others) = if is_due_before due other then due ∷ other ∷ others else other ∷ insert_due due others

-- a list of calls in the order in which they come due; of calls with the same time and cause, the last of the list comes first
abbrev pub in_order : {O N : Type 0} → List (Due O N) → List (Due O N)
in_order [] = []
in_order (due ∷ dues) = insert_due due (in_order dues)

-- no call comes due before one that precedes it
abbrev pub IsInOrder : {O N : Type 0} → List (Due O N) → Type 0
IsInOrder dues = AllPairs (λ due later. is_due_before later due ≡ false) dues

-- an agenda as contracts see it: its calls in their order, and the number of further calls for which capacity is reserved
pub record AgendaValue (O N : Type 0) : Type 0 where
  pub dues : List (Due O N)
  pub spare : ℕ

-- how many calls an agenda can hold before it allocates memory
abbrev pub capacity_of : {O N : Type 0} → AgendaValue O N → ℕ
capacity_of agenda = length agenda.dues + agenda.spare

-- the order has the same calls as the list, each as often, and they are in order
pub record IsOrderOf {O N : Type 0} (dues : List (Due O N)) : Type 0 where
  pub same : IsPermutation dues (in_order dues)
  pub ordered : IsInOrder (in_order dues)
