use Rattle.std.proofs.Common.{rules, ◌≡◌, ◌∙◌, ap}
use Rattle.uvm_objection.specs.Nodes.{raised}
use Rattle.uvm_objection.specs.Totals.{total}
use Rattle.uvm_objection.specs.Laws.{places, PlacesStay}
use Rattle.test_services.proofs.objections.Bench.raise.Goals as goal

pub invariant_of-self : goal.invariant_of-self
invariant_of-self g c =
    let before = c.args.self.now.objection.nodes in
    let node = c.node-node.result in
    let laws : PlacesStay = c.places_stay.ensures in
    let stay : places c.raise.new.self.nodes ≡ places before = ap places (c.raise.ensures.nodes 0) ∙ laws.settled 0 (total before) (raised node c.args.count before) ∙ laws.raised node c.args.count before in
    record {
      top_known = laws.known 0 before c.raise.new.self.nodes stay ∙ search rules;
      test_known = laws.known c.args.self.now.test before c.raise.new.self.nodes stay ∙ search rules;
      env_known = laws.known c.args.self.now.env before c.raise.new.self.nodes stay ∙ search rules;
    }
