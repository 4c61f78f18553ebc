use Rattle.uvm_tree.specs.Cursors.{OrdersNodes, node_cmp}
use Rattle.bench_history.specs.History.{phase_order, next_call, nodes_of}
use Rattle.world_services.proofs.Rounding.{called-alike, phase-direction, phase_cursor-of}
use Rattle.world_services.proofs.Walking.{first-called}
use Rattle.world_views.proofs.next.next_call.Goals as goal
use Rattle.std.proofs.Common.{sym}

pub returns : goal.returns
unfolding next_call
returns c =
    let m = c.services-services.ensures in
    let phase = c.args.phase in
    let history = c.args.world.now.history in
    let tree = rw m.tree at c.first.ensures.nodes in
    let direction = phase-direction phase in
    let orders : OrdersNodes (nodes_of history) (node_cmp (phase_order phase) (nodes_of history)) = rw direction.1 at (c.nodes_are_ordered.ensures (nodes_of history) tree direction.0) in
    let first = rw m.tree at c.first.ensures.first in
    let phase_cursors = phase_cursor-of phase (λ sort same. called-alike sort phase history (sym same)) m.phase_cursors in
    first-called (phase_order phase) phase_cursors.1 (c.components_by_kind.ensures history) c.first.result orders c.least_is_least.ensures c.one_is_least.ensures first
