-- Which type is made where overrides lead from one to another, which step a type meets, and why types are refused.
use Rattle.std.proofs.Common.{◌≡◌, ℕ, List, [], ◌∷◌, Some, None, refl}
use Rattle.std.specs.Prelude.{codes, true, false, Option, Ok, Err, map, slice_get, reverse}
use Rattle.uvm_glob.specs.Globs.{matches}
use Rattle.uvm_factory.specs.declared.types.Kind.TheVariants.{Component, Sequence}
use Rattle.uvm_factory.specs.declared.overrides.Override.{Override}
use Rattle.uvm_factory.specs.declared.overrides.Override.TheVariants.{Instance, Whole}
use Rattle.uvm_factory.specs.declared.overrides.OverrideStep.{OverrideStep}
use Rattle.uvm_factory.specs.declared.overrides.OverrideStep.TheVariants.{ByInstance, ByType}
use Rattle.uvm_factory.specs.declared.faults.FactoryFault.TheVariants.{Known, NoType, KindDiffers, Full, Memory}
use Rattle.uvm_factory.specs.declared.faults.Unmade.TheVariants as unmade
use Rattle.uvm_factory.specs.Faults.{Types, type_named, register_fault, override_fault, fault_text, unmade_text}
use Rattle.uvm_factory.specs.Representation.{types_of, step_at, resolved}
use Rattle.uvm_factory.specs.Steps.{made}
use Rattle.uvm_factory.specs.Overrides.{type_step, replacing, made_type}

-- the components A, B, C and D, and the sequence S
abbrev letters : Types
letters = (codes "A", Component) ∷ (codes "B", Component) ∷ (codes "C", Component) ∷ (codes "D", Component) ∷ (codes "S", Sequence) ∷ []

-- their numbers, and that of a type which is not there
abbrev a : ℕ
a = 0

abbrev b : ℕ
b = 1

abbrev c : ℕ
c = 2

abbrev d : ℕ
d = 3

abbrev s : ℕ
s = 4

abbrev missing : ℕ
missing = 5

-- the type that is made for A at a path, after overrides in the order in which they were given
abbrev made_for_a : List Override → List ℕ → Option ℕ
made_for_a overrides text = made_type (reverse overrides) 5 text a

first-matching-instance-override-prevails : made_for_a (Instance a b (codes "*") ∷ Instance a c (codes "uvm_test_top.x") ∷ []) (codes "uvm_test_top.x") ≡ Some b
unfolding matches type_step made replacing
first-matching-instance-override-prevails = refl

instance-override-goes-before-a-type-override : made_for_a (Instance a b (codes "y") ∷ Instance a c (codes "*") ∷ Whole a d true ∷ []) (codes "x") ≡ Some c
unfolding matches type_step made replacing
instance-override-goes-before-a-type-override = refl

-- A by B, B by C, and B by D below the test
abbrev again : List Override
again = Whole a b false ∷ Whole b c false ∷ Instance b d (codes "uvm_test_top.*") ∷ []

overriding-type-is-looked-up-again-at-the-same-path : made_for_a again (codes "uvm_test_top.x") ≡ Some d
unfolding matches type_step made replacing
overriding-type-is-looked-up-again-at-the-same-path = refl

instance-override-does-not-reach-another-path : made_for_a again (codes "uvm_test_top") ≡ Some c
unfolding matches type_step made replacing
instance-override-does-not-reach-another-path = refl

earlier-type-override-stays : made_for_a (Whole a b false ∷ Whole a c false ∷ []) (codes "uvm_test_top") ≡ Some b
unfolding matches type_step made replacing
earlier-type-override-stays = refl

replacing-type-override-takes-its-place : made_for_a (Whole a b false ∷ Whole a c true ∷ []) (codes "uvm_test_top") ≡ Some c
unfolding matches type_step made replacing
replacing-type-override-takes-its-place = refl

type-override-alone-holds : made_for_a (Whole a c false ∷ []) (codes "uvm_test_top") ≡ Some c
unfolding matches type_step made replacing
type-override-alone-holds = refl

overrides-that-lead-back-are-a-loop : made_for_a (Whole a b false ∷ Whole b a false ∷ []) (codes "uvm_test_top") ≡ None
unfolding matches type_step made replacing
overrides-that-lead-back-are-a-loop = refl

type-that-overrides-itself-is-made : made_for_a (Whole a a false ∷ []) (codes "uvm_test_top") ≡ Some a
unfolding matches type_step made replacing
type-that-overrides-itself-is-made = refl

-- A by B, and by C below x
abbrev elsewhere : List Override
elsewhere = Whole a b false ∷ Instance a c (codes "x.*") ∷ []

instance-override-is-made-where-it-matches-alone : map (made_for_a elsewhere) (codes "x" ∷ codes "x.y" ∷ []) ≡ Some b ∷ Some c ∷ []
unfolding matches type_step made replacing
instance-override-is-made-where-it-matches-alone = refl

-- the step of a type at a path after these
abbrev step : ℕ → List ℕ → Option OverrideStep
step type_id text = type_step (reverse elsewhere) type_id text

type-override-is-a-step-elsewhere : step a (codes "x") ≡ Some (ByType b)
unfolding matches type_step
type-override-is-a-step-elsewhere = refl

instance-override-is-a-step-where-it-matches : step a (codes "x.y") ≡ Some (ByInstance c)
unfolding matches type_step
instance-override-is-a-step-where-it-matches = refl

type-that-is-not-overridden-has-no-step : step b (codes "x.y") ≡ None
unfolding matches type_step
type-that-is-not-overridden-has-no-step = refl

-- where a type is asked for that is not registered

missing-type-is-not-made : resolved (record { types = letters; standings = [] }) [] missing ≡ Err unmade.NoType
unfolding types_of step_at made
missing-type-is-not-made = refl

registered-type-is-made : resolved (record { types = letters; standings = [] }) [] s ≡ Ok s
unfolding types_of step_at made
registered-type-is-made = refl

-- how types are found

types-are-found-by-their-names : map (type_named letters) (codes "A" ∷ codes "D" ∷ codes "S" ∷ codes "E" ∷ []) ≡ Some a ∷ Some d ∷ Some s ∷ None ∷ []
types-are-found-by-their-names = refl

types-have-names-and-kinds : map (slice_get letters) (a ∷ d ∷ s ∷ missing ∷ []) ≡ Some (codes "A", Component) ∷ Some (codes "D", Component) ∷ Some (codes "S", Sequence) ∷ None ∷ []
types-have-names-and-kinds = refl

-- why a type is refused

registered-name-is-known : register_fault letters (codes "A") ≡ Some Known
registered-name-is-known = refl

new-name-is-registered : register_fault letters (codes "E") ≡ None
new-name-is-registered = refl

components-override-one-another : override_fault letters a b ≡ None
components-override-one-another = refl

type-may-override-itself : override_fault letters a a ≡ None
type-may-override-itself = refl

sequence-does-not-override-a-component : override_fault letters a s ≡ Some KindDiffers
sequence-does-not-override-a-component = refl

component-does-not-override-a-sequence : override_fault letters s a ≡ Some KindDiffers
component-does-not-override-a-sequence = refl

missing-type-overrides-nothing : override_fault letters a missing ≡ Some NoType
missing-type-overrides-nothing = refl

missing-type-is-not-overridden : override_fault letters missing a ≡ Some NoType
missing-type-is-not-overridden = refl

missing-type-does-not-override-itself : override_fault letters missing missing ≡ Some NoType
missing-type-does-not-override-itself = refl

-- texts

known-is-told : fault_text Known ≡ codes "type known"
known-is-told = refl

no-type-is-told : fault_text NoType ≡ codes "no such type"
no-type-is-told = refl

different-kinds-are-told : fault_text KindDiffers ≡ codes "types of two kinds"
different-kinds-are-told = refl

full-is-told : fault_text Full ≡ codes "too many types"
full-is-told = refl

memory-is-told : fault_text Memory ≡ codes "out of memory"
memory-is-told = refl

unmade-for-a-missing-type-is-told : unmade_text unmade.NoType ≡ codes "no such type"
unmade-for-a-missing-type-is-told = refl

unmade-for-a-loop-is-told : unmade_text unmade.Loop ≡ codes "override loop"
unmade-for-a-loop-is-told = refl
