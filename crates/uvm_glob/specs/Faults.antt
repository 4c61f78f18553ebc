-- The errors of texts that are not names, paths or globs.
use Rattle.std.specs.Prelude.{ℕ, Bool, true, false, List, Option, Some, None, Result, Ok, Err, codes}
use Rattle.uvm_glob.specs.declared.faults.PathFault.{PathFault}
use Rattle.uvm_glob.specs.declared.faults.PathFault.TheVariants.{Empty, TooLong, BadByte, TooDeep, Memory}

-- the error that a text has, given the error of a call: none for `Memory`, since the text is then valid
abbrev pub refusal : PathFault → Option PathFault
refusal Empty = Some Empty
refusal TooLong = Some TooLong
refusal BadByte = Some BadByte
refusal TooDeep = Some TooDeep
refusal Memory = None

-- the error if the condition holds, otherwise none
abbrev pub fault_if : {E : Type 0} → Bool → E → Option E
fault_if true fault = Some fault
fault_if false fault = None

-- the value if there is no error, otherwise the error
abbrev pub unless : {T E : Type 0} → Option E → T → Result T E
unless None value = Ok value
unless (Some fault) value = Err fault

-- the message of each error
abbrev pub fault_text : PathFault → List ℕ
fault_text Empty = codes "an empty name"
fault_text TooLong = codes "too long"
fault_text BadByte = codes "a byte that may not stand there"
fault_text TooDeep = codes "more than 32 names"
fault_text Memory = codes "out of memory"
