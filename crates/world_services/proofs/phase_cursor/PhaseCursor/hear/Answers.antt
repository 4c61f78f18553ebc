use Rattle.world_services.proofs.Common.{◌≡◌, ◌==◌, false, length, refl, rules, filter_same}
use Rattle.world_services.proofs.Waiting.{last-kept}
use Rattle.world_services.proofs.phase_cursor.PhaseCursor.hear.Goals as goal

pub returns-else-is_empty : goal.returns-else-is_empty
returns-else-is_empty c =
    let some : false ≡ (length c.args.self.now.late.items == 0) = search rules in
    record {
      direction = refl;
      last = last-kept c.args.node c.args.self.now.late.items c.args.self.now.last some;
      late = filter_same _ _ _ (λ x b f' k. search rules) _ _ c.retain.ensures.filtered;
    }
