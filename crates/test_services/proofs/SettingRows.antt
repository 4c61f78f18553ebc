-- Which setting answers at a path and a field, and what is told of each fault.
use Rattle.std.proofs.Common.{◌≡◌, ℕ, List, [], ◌∷◌, Some, None, refl}
use Rattle.std.specs.Prelude.{codes, pos, ℤ, Bool, true, false, Option, reverse}
use Rattle.uvm_glob.specs.Globs.{matches}
use Rattle.uvm_config.specs.declared.faults.ConfigFault.TheVariants.{Full, Memory}
use Rattle.uvm_config.specs.ChosenValue.{precedence_of}
use Rattle.uvm_config.specs.Answers.{Setting, strongest, strongest_answer, config_answer}
use Rattle.uvm_config.specs.Faults.{fault_text}

-- a value of the field `f`, set by a component at a depth, while phase build runs or at another time
abbrev set : ℕ → Bool → List ℕ → ℕ → Setting
set depth building scope value = record { scope = scope; field = codes "f"; precedence = precedence_of building depth; value = pos value }

abbrev env : List ℕ
env = codes "uvm_test_top.env"

-- the answer there at a field, after settings in the order in which they were set
abbrev answer : List Setting → List ℕ → Option ℤ
answer settings field = config_answer (reverse settings) env field

setter-nearest-to-the-top-prevails-while-build-runs : answer (set 1 true env 2 ∷ set 2 true env 3 ∷ []) (codes "f") ≡ Some (pos 2)
unfolding matches precedence_of strongest strongest_answer
setter-nearest-to-the-top-prevails-while-build-runs = refl

-- three settings of build
abbrev built : List Setting
built = set 0 true (codes "*") 1 ∷ set 1 true env 2 ∷ set 2 true env 3 ∷ []

top-prevails-while-build-runs : answer built (codes "f") ≡ Some (pos 1)
unfolding matches precedence_of strongest strongest_answer
top-prevails-while-build-runs = refl

-- the same and one that was set later
abbrev connected : List Setting
connected = set 0 true (codes "*") 1 ∷ set 1 true env 2 ∷ set 2 true env 3 ∷ set 2 false env 4 ∷ []

last-setting-prevails-after-build : answer connected (codes "f") ≡ Some (pos 4)
unfolding matches precedence_of strongest strongest_answer
last-setting-prevails-after-build = refl

field-that-was-not-set-has-no-answer : answer connected (codes "g") ≡ None
unfolding matches precedence_of strongest strongest_answer
field-that-was-not-set-has-no-answer = refl

full-is-told : fault_text Full ≡ codes "too many settings"
full-is-told = refl

memory-is-told : fault_text Memory ≡ codes "out of memory"
memory-is-told = refl
