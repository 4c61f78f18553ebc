-- What an entry of a log says of the answers that were free when it was made.
use Rattle.std.specs.Prelude.{Bool, true, false, List, []}
use Rattle.uvm_acts.specs.declared.acts.Act.{Act}
use Rattle.uvm_object.specs.declared.entries.Entry.{Entry}
use Rattle.uvm_object.specs.declared.entries.Entry.TheVariants.{Did, Heard}
use Rattle.uvm_object.specs.declared.entries.Outcome.TheVariants.{Refused}
use Rattle.uvm_object.specs.declared.fatals.Fatal.TheVariants.{NoObject}

-- the actions of the answer, if the entry is a call
abbrev pub acts_in : Entry → List Act
acts_in (Heard who origin call acts) = acts
acts_in entry = []

-- the entry is an action whose object was declined
abbrev pub is_declined : Entry → Bool
is_declined (Did who (Refused NoObject) act) = true
is_declined entry = false
