use Rattle.uvm_tlm.proofs.Common.{◌≡◌, None, reverse, rules, ap, sym, subst, ◌∙◌, keys, value_of, IsWiring, connect_fault, with_connection}
use Rattle.uvm_tlm.specs.Wirings.{is_connected}
use Rattle.uvm_tlm.proofs.Wired.{between-more, connected, for_none, nothing_found, seen-again, seen-connected, unfaulted}
use Rattle.uvm_tlm.proofs.wirings.Wiring.connect.Goals as goal

pub invariant_of-self-2 : goal.invariant_of-self-2
invariant_of-self-2 c =
    let inside = c.self.inside in
    let none : connect_fault (value_of inside) c.args.from c.args.to ≡ None = ap (λ w. connect_fault w c.args.from c.args.to) c.self.view_is ∙ search rules in
    let open_ = unfaulted (value_of inside) c.args.from c.args.to none in
    let unclosed : inside.closed ≡ None = nothing_found (λ found. keys found.order) inside.closed open_.0 in
    let view = seen-connected inside c.add_connection.new.connections.items c.args.from c.args.to c.in_ok-add_connection.ensures.added c.self.invariant.among in
    record {
      is_wiring = subst IsWiring (sym view) (connected (value_of inside) c.args.from c.args.to open_.1 c.self.invariant.is_wiring);
      among = between-more (reverse inside.ends.entries) inside.connections.items c.add_connection.new.connections.items c.args.from c.args.to c.in_ok-add_connection.ensures.added open_.1 c.self.invariant.among;
      ends_found = c.self.invariant.ends_found;
      targets_found = for_none _ inside.closed unclosed;
      drivers_found = for_none _ inside.closed unclosed;
    }

pub returns-clause-added : goal.returns-clause-added
returns-clause-added c =
    seen-connected c.self.inside c.add_connection.new.connections.items c.args.from c.args.to c.in_ok-add_connection.ensures.added c.self.invariant.among ∙ ap (with_connection c.args.from c.args.to) c.self.view_is

pub returns-clause-again : goal.returns-clause-again
returns-clause-again c there =
    seen-again c.self.inside c.add_connection.new.connections.items c.args.from c.args.to c.in_ok-add_connection.ensures.added c.self.invariant.among (ap (λ w. is_connected w.connections c.args.from c.args.to) c.self.view_is ∙ there) ∙ c.self.view_is
