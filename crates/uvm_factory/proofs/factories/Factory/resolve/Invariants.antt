use Rattle.std.proofs.Common.{◌≡◌, length}
use Rattle.uvm_factory.specs.Representation.{next_at, types_of}
use Rattle.uvm_factory.specs.Steps.{made}
use Rattle.uvm_factory.proofs.factories.Factory.resolve.Given as goal

-- the row ends where it ends from here, with the steps that are left
abbrev pub invariant-loop-next : goal.invariant-loop-next
invariant-loop-next l = made (next_at l.self l.path) l.left l.type_id ≡ made (next_at l.self l.path) (length (types_of l.self)) l.fn.asked

abbrev pub decreases-loop-next : goal.decreases-loop-next
decreases-loop-next l = l.left
