-- The order in which objects are returned.
use Rattle.std.specs.Prelude.{◌≡◌, ◌<◌, false, List, All}
use Rattle.uvm_glob.specs.Orders.{down_cmp}
use Rattle.uvm_tree.specs.Nodes as declared
use Rattle.uvm_tree.specs.Cursors.{is_before}
use Rattle.uvm_acts.specs.declared.acts.Who.{Who}
use Rattle.uvm_acts.specs.declared.acts.Who.TheVariants.{Node, Sequence}

-- one object may be returned before another: a sequence before one with a greater number and before each component, and a component before
-- one that does not precede it in pre-order
abbrev pub GoesBefore : List declared.Node → Who → Who → Type 0
GoesBefore nodes (Sequence home id) (Sequence there other) = id < other
GoesBefore nodes (Sequence home id) (Node other) = Unit {0}
GoesBefore nodes (Node node) (Node other) = is_before down_cmp nodes other node ≡ false
GoesBefore nodes (Node node) (Sequence home id) = ⊥

-- an object may be returned before each of the others
abbrev pub IsFirstBack : List declared.Node → Who → List Who → Type 0
IsFirstBack nodes who others = All (GoesBefore nodes who) others
