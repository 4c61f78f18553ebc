-- The texts of the errors, and whether an error rejects a call.
use Rattle.std.specs.Prelude.{ℕ, List, Option, Some, None, Result, Ok, Err, codes}
use Rattle.uvm_sequencer.specs.declared.faults.SeqFault.{SeqFault}
use Rattle.uvm_sequencer.specs.declared.faults.SeqFault.TheVariants.{NoDriver, Twice, NothingOut, NotGranted, NotHeld, Memory}

-- the text of each error
abbrev pub fault_text : SeqFault → List ℕ
fault_text NoDriver = codes "no driver"
fault_text Twice = codes "asked twice"
fault_text NothingOut = codes "nothing out"
fault_text NotGranted = codes "not granted"
fault_text NotHeld = codes "not held"
fault_text Memory = codes "out of memory"

-- the error that rejects a call; none for `Memory`, which says nothing about the call
abbrev pub refusal : SeqFault → Option SeqFault
refusal NoDriver = Some NoDriver
refusal Twice = Some Twice
refusal NothingOut = Some NothingOut
refusal NotGranted = Some NotGranted
refusal NotHeld = Some NotHeld
refusal Memory = None

-- the value if it is given, otherwise an error
abbrev pub or_fault : {T : Type 0} → Option T → SeqFault → Result T SeqFault
or_fault None fault = Err fault
or_fault (Some value) fault = Ok value
