use Rattle.script_objects.proofs.Common.{option_map, lookup, object_after}
use Rattle.script_objects.proofs.SeatChanges.{changes_at}
use Rattle.script_objects.proofs.seats.ScriptedSeats.hear.Goals as goal

-- the map changes at one key
pub returns-clause-after : goal.returns-clause-after
returns-clause-after c =
    rw (← c.self.view_is)
    (changes_at c.hear_at.result c.self.inside.answers.now c.args.who.now (λ test. option_map (object_after c.args.call.now) (lookup (test c.args.who.now) c.self.inside.objects.entries)) c.self.inside.objects.entries c.hear_at.new.objects.entries c.hear_at.ensures.after)
