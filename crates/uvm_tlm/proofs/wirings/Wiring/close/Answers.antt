use Rattle.uvm_tlm.proofs.Common.{◌≡◌, ℕ, nat_eq, reverse, ap, sym, subst, ◌∙◌, get, keys, connections_of, nodes_of, value_of, list_of, IsPathOrder, driver_in, targets_in}
use Rattle.uvm_tlm.specs.Wirings.{is_connected}
use Rattle.uvm_tlm.proofs.Listed.{driver-same, listed, targets-same}
use Rattle.uvm_tlm.proofs.Wired.{closed, for_some}
use Rattle.uvm_tlm.proofs.wirings.Wiring.close.Goals as goal

pub invariant_of-self : goal.invariant_of-self
invariant_of-self c =
    let inside = c.self.inside in
    let order : keys c.in_ok-order.order ≡ c.args.order.now = c.in_ok-order.ensures in
    let whole : IsPathOrder (keys c.in_ok-order.order) (value_of inside).ends =
    subst (λ v. IsPathOrder (keys c.in_ok-order.order) v.ends) (sym c.self.view_is) (subst (λ l. IsPathOrder l c.args.self.now.ends) (sym order) c.requires) in
    let graph : c.in_ok-graph.graph ≡ record { ends = reverse inside.ends.entries; connections = inside.connections.items } =
    c.in_ok-graph.ensures ∙ ap (λ l. record { ends = reverse inside.ends.entries; connections = l }) c.as_slice.ensures.value in
    let same : (from to : ℕ) → is_connected inside.connections.items from to ≡ is_connected (connections_of inside) from to =
    λ from to. sym (listed (is_connected inside.connections.items) (nodes_of inside) c.self.invariant.among from to) in
    record {
      is_wiring = closed (value_of inside) (keys c.in_ok-order.order) whole c.self.invariant.is_wiring;
      among = c.self.invariant.among;
      ends_found = c.self.invariant.ends_found;
      targets_found = for_some (λ found. (n : ℕ) → list_of found.targets n ≡ targets_in (reverse inside.ends.entries) (connections_of inside) (keys found.order) n) _
          (λ n. c.in_ok-targets.ensures n ∙ ap (λ g. targets_in g.ends g.connections c.args.order.now n) graph ∙ targets-same inside.connections.items (connections_of inside) same (reverse inside.ends.entries) c.args.order.now n ∙ ap (λ l. targets_in (reverse inside.ends.entries) (connections_of inside) l n) (sym order));
      drivers_found = for_some (λ found. (n : ℕ) → get nat_eq found.drivers n ≡ driver_in (reverse inside.ends.entries) (connections_of inside) (keys found.order) n) _
          (λ n. c.in_ok-drivers.ensures n ∙ ap (λ g. driver_in g.ends g.connections c.args.order.now n) graph ∙ driver-same inside.connections.items (connections_of inside) same (reverse inside.ends.entries) c.args.order.now n ∙ ap (λ l. driver_in (reverse inside.ends.entries) (connections_of inside) l n) (sym order));
    }
