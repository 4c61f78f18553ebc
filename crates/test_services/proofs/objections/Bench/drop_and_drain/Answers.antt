use Rattle.std.proofs.Common.{lit<, ◌≡◌, ◌∷◌, [], ◌∙◌, ap, subst, List, arith}
use Rattle.std.proofs.lemmas.Grind.{common_steps}
use Rattle.std.specs.Prelude.{All}
use Rattle.std.specs.Option.{option_to_list}
use Rattle.uvm_objection.specs.Nodes.{due_of}
use Rattle.uvm_objection.specs.declared.objections.Due.{Due}
use Rattle.uvm_objection.specs.Totals.{drains_begun}
use Rattle.uvm_objection.specs.Laws.{IsHeldUntilDue}
use Rattle.test_services.proofs.objections.Bench.drop_and_drain.Goals as goal

pub drained-requires-clause-limit : goal.drained-requires-clause-limit
drained-requires-clause-limit g c =
    let earlier = c.args.self.now.objection.nodes in
    let nodes = c.drop.new.self.nodes in
    let due = c.in-Ok-Some.due in
    let began : drains_begun earlier nodes ≡ due ∷ [] = c.in-Ok-Some.ensures.began ∙ ap option_to_list c.in-Ok-Some.field-0-is in
    let each : List Due → Type 0 = λ drains. All (IsHeldUntilDue nodes) drains in
    let held : All (IsHeldUntilDue nodes) (due ∷ []) = subst each began (c.begun_drains_are_held.ensures earlier nodes c.total-total.ensures.nodes) in
    let due_at : due_of due.node nodes ≡ due.at = (held 0 due (lit< tt)).due in
    grind (arith, common_steps, due_at)
