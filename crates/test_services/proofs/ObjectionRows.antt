-- What is raised, dropped and drained at a test under the top, and at an env under the test.
use Rattle.std.proofs.Common.{◌≡◌, ℕ, List, [], ◌∷◌, refl}
use Rattle.std.specs.Prelude.{codes}
use Rattle.uvm_objection.specs.declared.objections.Due.{Due}
use Rattle.uvm_objection.specs.Faults.{fault_text}
use Rattle.uvm_objection.specs.Nodes.{Node, top, new_node, source_of, held_of, due_of, raised, dropped, released, with_drain}
use Rattle.uvm_objection.specs.Totals.{total, settled, drains_begun, drains_ended}

abbrev test : ℕ
test = 1

abbrev env : ℕ
env = 2

abbrev bench : List Node
bench = top ∷ new_node test 0 ∷ new_node env test ∷ []

-- the nodes after a raise, after a drop at a time, and after the drain of a node
abbrev raise : ℕ → ℕ → List Node → List Node
raise node count nodes = settled 0 (total nodes) (raised node count nodes)

abbrev drop : ℕ → ℕ → ℕ → List Node → List Node
drop node count time nodes = settled time (total nodes) (dropped node count nodes)

abbrev drain : ℕ → List Node → List Node
drain node nodes = settled (due_of node nodes) (total nodes) (released node nodes)

abbrev no_drain : List Due
no_drain = []

abbrev drain_of : ℕ → ℕ → List Due
drain_of node time = record { node = node; at = time } ∷ []

-- A raise ends a drain, and the net change goes up.

abbrev raised_by_three : List Node
raised_by_three = raise env 3 (with_drain env 4 bench)

abbrev dropped_by_three : List Node
dropped_by_three = drop env 3 7 raised_by_three

drop-to-zero-begins-a-drain : drains_begun raised_by_three dropped_by_three ≡ drain_of env 11
drop-to-zero-begins-a-drain = refl

what-drains-is-held-and-stays-above : held_of env dropped_by_three ∷ total dropped_by_three env ∷ total dropped_by_three 0 ∷ [] ≡ 3 ∷ 0 ∷ 3 ∷ []
what-drains-is-held-and-stays-above = refl

abbrev raised_again : List Node
raised_again = raise env 1 dropped_by_three

raise-ends-the-drain : drains_ended dropped_by_three raised_again ≡ env ∷ []
raise-ends-the-drain = refl

net-change-goes-up : held_of env raised_again ∷ total raised_again env ∷ total raised_again test ∷ total raised_again 0 ∷ [] ≡ 0 ∷ 1 ∷ 1 ∷ 1 ∷ []
net-change-goes-up = refl

source-is-what-was-raised-less-what-was-dropped : source_of env raised_again ≡ 1
source-is-what-was-raised-less-what-was-dropped = refl

-- A raise below a node ends its drain, and one of zero does not.

abbrev test_raised : List Node
test_raised = raise test 2 (with_drain test 5 bench)

abbrev test_dropped : List Node
test_dropped = drop test 2 10 test_raised

drain-of-the-test-begins : drains_begun test_raised test_dropped ≡ drain_of test 15
drain-of-the-test-begins = refl

abbrev raised_by_zero : List Node
raised_by_zero = raise env 0 test_dropped

raise-of-zero-ends-no-drain : drains_ended test_dropped raised_by_zero ≡ []
raise-of-zero-ends-no-drain = refl

raise-of-zero-changes-no-count : held_of test raised_by_zero ∷ total raised_by_zero 0 ∷ [] ≡ 2 ∷ 2 ∷ []
raise-of-zero-changes-no-count = refl

abbrev raised_below : List Node
raised_below = raise env 6 raised_by_zero

raise-below-ends-the-drain : drains_ended raised_by_zero raised_below ≡ test ∷ []
raise-below-ends-the-drain = refl

raise-below-goes-up-alone : held_of test raised_below ∷ total raised_below test ∷ total raised_below 0 ∷ [] ≡ 0 ∷ 6 ∷ 6 ∷ []
raise-below-goes-up-alone = refl

raise-below-is-not-raised-above : source_of test raised_below ≡ 0
raise-below-is-not-raised-above = refl

-- What was held goes up through two levels. The drain of env is due at 11, and another drain time that is set later does not
-- change that; the drain of the test counts from there.

abbrev both_drain : List Node
both_drain = with_drain test 5 (with_drain env 4 bench)

abbrev env_drains : List Node
env_drains = with_drain env 9 (drop env 3 7 (raise env 3 both_drain))

abbrev test_drains : List Node
test_drains = drain env env_drains

drain-above-counts-from-when-the-one-below-was-due : drains_begun env_drains test_drains ≡ drain_of test 16
drain-above-counts-from-when-the-one-below-was-due = refl

what-was-held-is-held-above : held_of env test_drains ∷ held_of test test_drains ∷ total test_drains test ∷ total test_drains 0 ∷ [] ≡ 0 ∷ 3 ∷ 0 ∷ 3 ∷ []
what-was-held-is-held-above = refl

abbrev none_drains : List Node
none_drains = drain test test_drains

last-drain-begins-no-other : drains_begun test_drains none_drains ≡ no_drain
last-drain-begins-no-other = refl

nothing-is-held-after-the-last-drain : held_of test none_drains ∷ total none_drains 0 ∷ [] ≡ 0 ∷ 0 ∷ []
nothing-is-held-after-the-last-drain = refl

-- A drain time of zero passes up at once.

abbrev raised_without_drain : List Node
raised_without_drain = raise env 2 bench

abbrev dropped_without_drain : List Node
dropped_without_drain = drop env 2 5 raised_without_drain

no-drain-begins-without-a-drain-time : drains_begun raised_without_drain dropped_without_drain ≡ no_drain
no-drain-begins-without-a-drain-time = refl

drop-without-a-drain-time-passes-up-at-once : held_of env dropped_without_drain ∷ total dropped_without_drain test ∷ total dropped_without_drain 0 ∷ [] ≡ 0 ∷ 0 ∷ 0 ∷ []
drop-without-a-drain-time-passes-up-at-once = refl

below-zero-is-told : fault_text ≡ codes "objection dropped below zero"
below-zero-is-told = refl
