-- How an entry stores a transfer.
use Rattle.uvm_object.specs.declared.entries.Passage.{Passage}
use Rattle.uvm_object.specs.declared.entries.CompactPassage.{CompactPassage}
use Rattle.uvm_object.specs.declared.entries.CompactPassage.TheVariants.{Short, Whole}

-- the transfer that an entry stores in compact form
abbrev pub passage_of : CompactPassage → Passage
passage_of (Short box) =
    let p = box.value in
    record { kind = p.kind; who = p.who; port = p.port; item = p.item; request = p.request; phase = p.phase }
passage_of (Whole box) = box.value
