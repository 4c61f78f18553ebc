use Rattle.bench_world.proofs.Common.{wiring_of, IsConnecting, ends-ordered}
use Rattle.bench_world.proofs.Closed.{world-closed}
use Rattle.bench_world.proofs.worlds.World.next_unsound.Goals as goal

pub close_wiring-requires : goal.close_wiring-requires
close_wiring-requires c =
    let r = rw (← c.self.view_is) at c.requires in
    let m = c.self.invariant.1.services_match r.sound in
    let services = c.self.inside.services in
    let connecting : IsConnecting services.tree.nodes (wiring_of c.self.inside.log.entries) services.wiring = rw m.tree m.connecting in
    ends-ordered {nodes = services.tree.nodes} {wiring = wiring_of c.self.inside.log.entries} {kept = services.wiring} (c.path_order_is_in_order.ensures services.tree.nodes) connecting

pub invariant_of-self : goal.invariant_of-self
invariant_of-self c =
    let r = rw (← c.self.view_is) at c.requires in
    rw c.in-Ok.ensures.ok (world-closed c.self.invariant c.connect_follows_build.ensures r.at_check)

pub invariant_of-self-in-Err : goal.invariant_of-self-in-Err
invariant_of-self-in-Err c = rw c.in-Err.ensures.err c.self.invariant
