use Rattle.uvm_tlm.proofs.Common.{◌≡◌, ◌≤◌, ℕ, Bool, true, false, nat_eq, Some, find, cond, length, ap, sym, ◌∙◌, arith, get, take_all, driven_by, driver_in, is_some_of, kind_at, targets_in}
use Rattle.uvm_tlm.proofs.Noted.{driven_known, driver_noted, driver_stays, none_from, nothing_driven}
use Rattle.uvm_tlm.proofs.graphs.Graph.drivers.Goals as goal
use Rattle.uvm_tlm.proofs.graphs.Graph.drivers.Goals.{in-Some+then-not-contains_key+in_ok-insert, in-Some+else-not-contains_key, in_default}

pub loop-port-preserved : goal.loop-port-preserved
loop-port-preserved c n =
    let graph = c.args.self.now in
    let order = c.args.order.now in
    let test : ℕ → ℕ → Bool = λ m port. is_some_of m (driven_by (kind_at graph.ends port) (targets_in graph.ends graph.connections order port)) in
    let driven : driven_by (kind_at graph.ends c.port-item.result) (targets_in graph.ends graph.connections order c.port-item.result) ≡ c.driven_by.result =
    sym (c.driven_by.ensures ∙ ap (λ k. driven_by k c.list.result.now) c.port_kind.ensures ∙ ap (driven_by (kind_at graph.ends c.port-item.result)) (c.list.ensures ∙ c.requires c.port-item.result)) in
    elim c.match-driven_by.branch [
      | in-Some+then-not-contains_key+in_ok-insert w ↦
          ap (λ m. get nat_eq m n) w.drivers-is
          ∙ driver_noted (test n) order c.loop-port.port-index c.port-item.result (get nat_eq c.loop-port.drivers n) (get nat_eq w.insert.new.self n) c.loop-port-test.true c.port-item.is
          (w.in_ok-insert.ensures.updates.0 n ∙ ap (λ o. cond (is_some_of n o) (Some c.port-item.result) (get nat_eq c.loop-port.drivers n)) (sym (driven ∙ w.in-Some.is)))
          (λ passes. none_from _ (driven_known (get nat_eq c.loop-port.drivers) w.in-Some.sequencer n _ false (driven ∙ w.in-Some.is) (sym w.contains_key.ensures ∙ w.if-not-contains_key.true) passes))
          (c.loop-port.invariant n)
      | in-Some+else-not-contains_key w ↦
          ap (λ m. get nat_eq m n) w.drivers-is
          ∙ driver_stays (test n) order c.loop-port.port-index c.port-item.result (get nat_eq c.loop-port.drivers n) c.loop-port-test.true c.port-item.is
          (λ passes. driven_known (get nat_eq c.loop-port.drivers) w.in-Some.sequencer n _ true (driven ∙ w.in-Some.is) (sym w.contains_key.ensures ∙ w.if-not-contains_key.false) passes)
          (c.loop-port.invariant n)
      | in_default w ↦
          ap (λ m. get nat_eq m n) w.drivers-is
          ∙ driver_stays (test n) order c.loop-port.port-index c.port-item.result (get nat_eq c.loop-port.drivers n) c.loop-port-test.true c.port-item.is
          (λ passes. nothing_driven n _ _ (driven ∙ w.in_default.is) passes)
          (c.loop-port.invariant n)
    ]

pub returns : goal.returns
unfolding driver_in
returns c n =
    let all : length c.args.order.now ≤ c.loop-port.port-index = omega arith in
    c.loop-port.invariant n ∙ ap (find _) (take_all c.loop-port.port-index c.args.order.now all)
