-- Where sequences stand: whose children they are, what they are called, and at which step they are.
use Rattle.std.proofs.Common.{◌≡◌, ℕ, List, [], ◌∷◌, Some, None, refl}
use Rattle.std.specs.Prelude.{Bool, true, false, Option, is_some, option_map, option_and_then, codes}
use Rattle.uvm_sequences.specs.declared.starts.SeqStep.{SeqStep}
use Rattle.uvm_sequences.specs.declared.starts.SeqStep.TheVariants.{PreStart, Body, PostStart}
use Rattle.uvm_sequences.specs.Sequences.{Start, is_under, name_at, names_of, numbered, parent_of, step_after, step_at, with_step}

-- a sequence 1, its child 2, the child 3 of that, and another sequence 4
abbrev start : Option ℕ → Start
start parent = record { home = 0; parent = parent; name = codes "s"; priority = 100 }

abbrev four : List Start
four = start None ∷ start (Some 2) ∷ start (Some 1) ∷ start None ∷ []

abbrev all_live : List (Option SeqStep)
all_live = Some PreStart ∷ Some PreStart ∷ Some PreStart ∷ Some PreStart ∷ []

-- after the second ended
abbrev second_ended : List (Option SeqStep)
second_ended = with_step 2 None all_live

abbrev is_live : List (Option SeqStep) → ℕ → Bool
is_live steps id = is_some (step_at steps id)

-- the step to which a sequence comes next
abbrev next_step : List (Option SeqStep) → ℕ → Option SeqStep
next_step steps id = option_and_then step_after (step_at steps id)

names-go-from-the-root-sequence-down : names_of (record { home = 0; parent = Some 1; name = codes "b"; priority = 100 } ∷ record { home = 0; parent = None; name = codes "a"; priority = 100 } ∷ []) 2 ≡ codes "a" ∷ codes "b" ∷ []
names-go-from-the-root-sequence-down = refl

a-sequence-is-under-itself : is_under four 1 1 ≡ true
a-sequence-is-under-itself = refl

a-grandchild-is-under-its-root : is_under four 3 1 ≡ true
a-grandchild-is-under-its-root = refl

a-root-is-not-under-its-grandchild : is_under four 1 3 ≡ false
a-root-is-not-under-its-grandchild = refl

another-sequence-is-not-under-the-root : is_under four 4 1 ≡ false
another-sequence-is-not-under-the-root = refl

a-child-has-its-parent : parent_of four 3 ≡ Some 2
a-child-has-its-parent = refl

a-root-has-no-parent : parent_of four 1 ≡ None
a-root-has-no-parent = refl

a-sequence-that-was-started-lives : is_live all_live 2 ≡ true
a-sequence-that-was-started-lives = refl

a-sequence-that-ended-does-not-live : is_live second_ended 2 ≡ false
a-sequence-that-ended-does-not-live = refl

the-child-of-one-that-ended-lives-on : is_live second_ended 3 ≡ true
the-child-of-one-that-ended-lives-on = refl

a-sequence-keeps-its-home : option_map (λ s. s.home) (numbered four 2) ≡ Some 0
a-sequence-keeps-its-home = refl

a-sequence-keeps-its-priority : option_map (λ s. s.priority) (numbered four 2) ≡ Some 100
a-sequence-keeps-its-priority = refl

a-sequence-keeps-its-name : name_at four 2 ≡ Some (codes "s")
a-sequence-keeps-its-name = refl

abbrev two_live : List (Option SeqStep)
two_live = Some PreStart ∷ Some PreStart ∷ []

the-body-comes-first : next_step two_live 1 ≡ Some Body
the-body-comes-first = refl

abbrev in_body : List (Option SeqStep)
in_body = with_step 1 (Some Body) two_live

what-is-behind-the-body-comes-next : next_step in_body 1 ≡ Some PostStart
what-is-behind-the-body-comes-next = refl

abbrev behind : List (Option SeqStep)
behind = with_step 1 (Some PostStart) in_body

nothing-comes-after-that : next_step behind 1 ≡ None
nothing-comes-after-that = refl

a-sequence-stays-in-its-last-step : step_at behind 1 ≡ Some PostStart
a-sequence-stays-in-its-last-step = refl

a-sequence-that-ended-is-at-no-step : step_at (with_step 1 None behind) 1 ≡ None
a-sequence-that-ended-is-at-no-step = refl

another-sequence-stays-at-its-step : step_at (with_step 1 None behind) 2 ≡ Some PreStart
another-sequence-stays-at-its-step = refl
