use Rattle.script_objects.proofs.Common.{Some}
use Rattle.script_objects.proofs.SeatChanges.{changes_at}
use Rattle.script_objects.proofs.seats.ScriptedSeats.insert_new.Goals as goal

-- the map has one key more
pub returns-clause-ok : goal.returns-clause-ok
returns-clause-ok c =
    rw (← c.self.view_is, ← c.in_ok-object.ensures)
    (changes_at c.insert_at.result c.self.inside.answers.now c.args.who (λ test. Some c.in_ok-object.object) c.self.inside.objects.entries c.insert_at.new.objects.entries c.insert_at.ensures.ok)
