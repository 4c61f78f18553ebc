use Rattle.uvm_glob.proofs.PathTexts.{text-short}
use Rattle.uvm_glob.proofs.rooms.ChildRoom.new.Goals as goal

pub with_room-requires : goal.with_room-requires
with_room-requires c = rw c.as_slice-text.ensures.value (text-short _ c.parent.invariant)
