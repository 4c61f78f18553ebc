use Rattle.uvm_phase.proofs.Common.{◌≡◌, ◌<◌, ◌∙◌, ◌^◌, ◌+◌, rules, length, arith, refl, Due, insert_due, owners_of}
use Rattle.uvm_phase.proofs.Owning.{count-le, counted-inserted}
use Rattle.uvm_phase.proofs.Places.{inserted-in-order}
use Rattle.uvm_phase.proofs.agendas.Agenda.due.Goals as goal

pub add-requires : goal.add-requires
add-requires g c = λ complete.
    let items = c.self.inside.dues.items in
    let counts = c.make_room.ensures.counts (owners_of items) c.self.invariant.1 in
    let le = count-le g.O.PartialEq.eq c.make_room.new.owners c.args.owner items counts complete in
    let fits : length items + 1 < 2 ^ 64 = search rules in
    omega (arith, le, fits)

pub invariant_of-self-2 : goal.invariant_of-self-2
invariant_of-self-2 g c =
    let items = c.self.inside.dues.items in
    let due : Due g.row.O.Denot g.row.N.Denot = record { time = c.args.time; cause = c.args.cause; phase = c.args.phase; owner = c.args.owner; notice = c.args.notice } in
    let is : c.insert.new.self.items ≡ insert_due due items = c.in_ok-insert.ensures.items ∙ c.place_of-place.ensures.place ∙ rw c.make_room.ensures.items refl in
    let counts = c.make_room.ensures.counts (owners_of items) c.self.invariant.1 in (
      inserted-in-order due items c.insert.new.self.items c.self.invariant.0 is,
      counted-inserted g.O.PartialEq.eq c.add.new.self due items c.insert.new.self.items is (c.add.ensures.counts (owners_of items) counts),
    )
