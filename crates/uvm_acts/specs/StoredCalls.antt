-- How a call is stored.
use Rattle.std.specs.Prelude.{Bool, true, false, Option, Some, None, if◌then◌else◌}
use Rattle.uvm_acts.specs.declared.acts.Call.{Call}
use Rattle.uvm_acts.specs.declared.acts.Call.TheVariants as call
use Rattle.uvm_acts.specs.declared.stored_calls.CompactCall.{CompactCall}
use Rattle.uvm_acts.specs.declared.stored_calls.CompactCall.TheVariants.{Nothing, Phase, Wake, PreStart, Body, PostStart, Grant, Done, Responded, Held, Stored, TryStored, NoneTaken, NoItem, AtPort, Finished, Whole}

-- whether the compact form stores a call
abbrev pub is_call : CompactCall → Bool
is_call Nothing = false
is_call compact = true

-- the call that a compact form stores, if it stores one; otherwise the value is arbitrary
abbrev pub stored_call : CompactCall → Call
stored_call Nothing = call.Held
stored_call (Phase phase) = call.Phase phase
stored_call (Wake tag) = call.Wake tag
stored_call PreStart = call.PreStart
stored_call Body = call.Body
stored_call PostStart = call.PostStart
stored_call Grant = call.Grant
stored_call Done = call.ItemDone None
stored_call (Responded item) = call.ItemDone (Some item.value)
stored_call Held = call.Held
stored_call (Stored port) = call.Stored port
stored_call (TryStored stored port) = call.TryStored port stored
stored_call (NoneTaken port) = call.TryTaken port None
stored_call (NoItem port) = call.NextItem port None
stored_call (AtPort box) = box.value
stored_call (Finished box) = call.Finished box.value.name box.value.id
stored_call (Whole box) = box.value

-- the call that the target of an event receives, if it receives one
abbrev pub noticed_call : CompactCall → Option Call
noticed_call compact = if is_call compact then Some (stored_call compact) else None

-- whether a call has neither a name nor an item, so that storing it allocates no memory
abbrev pub is_of_numbers : Call → Bool
is_of_numbers (call.Phase phase) = true
is_of_numbers (call.Wake tag) = true
is_of_numbers call.PreStart = true
is_of_numbers call.Body = true
is_of_numbers call.PostStart = true
is_of_numbers call.Grant = true
is_of_numbers (call.ItemDone None) = true
is_of_numbers call.Held = true
is_of_numbers other = false
