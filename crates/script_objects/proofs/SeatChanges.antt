-- When two components or sequences are the same, as the map of seats tests it, and what changes at one of them.
use Rattle.script_objects.proofs.Common.{◌≡◌, ◌∙◌, ℕ, Bool, ◌==◌, List, Result, Ok, Err, OnOk, option_map, refl, sym, subst, arith, lookup, nat_tests, Who, Node, Sequence, same_who, TypeValue, ScriptedValue, ChangesAt, ◌&&◌, Option, Some, if◌then◌else◌}
use Rattle.uvm_acts.specs.contracts.acts.WhoPartialEq.TheImpl as who_eq

one-other : (one other : Who) → (who_eq.ghosts).eq one other ≡ same_who one other
one-other (Node a) (Node b) = grind (arith, nat_tests)
one-other (Sequence home id) (Sequence there other) = grind (arith, nat_tests)
one-other (Node a) (Sequence there other) = refl
one-other (Sequence home id) (Node b) = refl

-- the two tests are one
pub same : (who_eq.ghosts).eq ≡ same_who
same = λ i one other. one-other one other i

-- what a map has at each key, by the test, is what the seats have
abbrev pub Changes : (Who → Who → Bool) → Who → Option ScriptedValue → List (Who × ScriptedValue) → List (Who × ScriptedValue) → Type 0
Changes test who object old new = (other : Who) → lookup (test other) new ≡ (if test who other then object else lookup (test other) old)

pub changes_at : {A E : Type 0} (result : Result A E) (answers : List TypeValue) (who : Who) (object : (Who → Who → Bool) → Option ScriptedValue) (old new : List (Who × ScriptedValue)) → OnOk result (Changes (who_eq.ghosts).eq who (object (who_eq.ghosts).eq) old new)
    → OnOk result (ChangesAt who (object same_who) (record { answers = answers; held = old }) (record { answers = answers; held = new }))
changes_at (Ok value) answers who object old new changes =
    record { answers = refl; objects = subst (λ (test : Who → Who → Bool). Changes test who (object test) old new) same changes }
changes_at (Err error) answers who object old new changes = tt
