-- Laws of the order in which calls come due, for the users of an agenda.
use Rattle.std.specs.Prelude.{◌≡◌, Bool, false, not, List, drop, filter, AllPairs, Option, IfSome, slice_get, IsPermutation}
use Rattle.uvm_phase.specs.declared.agendas.Due.{Due}
use Rattle.uvm_phase.specs.Dues.{same_cause, in_order}

-- the order has the same calls as the list, each as often
abbrev pub OrderKeepsAll : (O N : Type 0) → Type 0
OrderKeepsAll O N = (dues : List (Due O N)) → IsPermutation dues (in_order dues)

-- filtering the order of a list gives the order of the filtered list
abbrev pub OrderKeepsFilters : (O N : Type 0) → Type 0
OrderKeepsFilters O N = (p : Due O N → Bool) (dues : List (Due O N)) → filter p (in_order dues) ≡ in_order (filter p dues)

-- the order without its first call, if no two calls have the same cause: it is the order of the list without the call of that cause
abbrev pub OrderLosesFirst : (O N : Type 0) → Type 0
OrderLosesFirst O N =
    (known dues left : List (Due O N)) (taken : Option (Due O N))
    → AllPairs (λ due other. same_cause due.cause other.cause ≡ false) known
    → dues ≡ in_order known → taken ≡ slice_get dues 0 → left ≡ drop 1 dues
    → IfSome taken (λ due. left ≡ in_order (filter (λ other. not (same_cause other.cause due.cause)) known))
