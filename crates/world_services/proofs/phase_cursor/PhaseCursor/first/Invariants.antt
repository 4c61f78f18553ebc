use Rattle.world_services.proofs.Common.{order_of}
use Rattle.world_services.proofs.Walking.{IsNextOf, left_from}
use Rattle.world_services.proofs.phase_cursor.PhaseCursor.first.Given as goal

-- no component that waits comes before the node that is next
abbrev pub invariant-loop-next : goal.invariant-loop-next
invariant-loop-next l = IsNextOf (order_of l.direction) l.tree.nodes l.self l.next

-- and fewer come after it
abbrev pub decreases-loop-next : goal.decreases-loop-next
decreases-loop-next l = left_from (order_of l.direction) l.tree.nodes l.next
