-- Calls with an item through a port.
use Rattle.std.specs.Prelude.{ℕ, List, Some}
use Rattle.uvm_acts.specs.declared.acts.Call.{Call}
use Rattle.uvm_acts.specs.declared.acts.Call.TheVariants as call
use Rattle.uvm_acts.specs.declared.stored_calls.PortNews.{PortNews}
use Rattle.uvm_acts.specs.declared.stored_calls.PortNews.TheVariants.{Taken, TryTaken, Peeked, Written, NextItem}
use Rattle.uvm_tlm.specs.declared.items.Item.{Item}

-- the call of this kind with this item through this port or imp
abbrev pub call_at : List ℕ → PortNews → Item → Call
call_at port Taken item = call.Taken port item
call_at port TryTaken item = call.TryTaken port (Some item)
call_at port Peeked item = call.Peeked port item
call_at port Written item = call.Written port item
call_at port NextItem item = call.NextItem port (Some item)
