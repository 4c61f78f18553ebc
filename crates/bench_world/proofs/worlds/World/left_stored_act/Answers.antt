use Rattle.bench_world.proofs.Common.{◌∙◌, sym, head-left, acts-first, acts-settled, acts-some}
use Rattle.bench_world.proofs.worlds.World.left_stored_act.Goals as goal

pub returns-in-Ok-Some-clause-next : goal.returns-in-Ok-Some-clause-next
returns-in-Ok-Some-clause-next c =
    let head = sym c.in-Ok-Some.ensures ∙ c.in-Ok-Some.field-0-is in
    record {
      sound = c.requires.sound;
      room = c.requires.room;
      settled = acts-settled c.acts_go_in_order.ensures c.args.self.now.script c.args.self.now.history c.requires.next;
      left = head-left _ _ head;
      next = acts-first c.acts_go_in_order.ensures c.args.self.now.script c.args.self.now.history c.in-Ok-Some.stored_act c.requires.next head;
    }

pub unreachable-requires : goal.unreachable-requires
unreachable-requires c = acts-some c.acts_go_in_order.ensures c.args.self.now.script c.args.self.now.history c.requires.next (sym c.in-Ok-None.ensures ∙ c.in-Ok-None.field-0-is)
