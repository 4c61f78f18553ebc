-- Actions with an item through a port.
use Rattle.std.specs.Prelude.{ℕ, List, Some}
use Rattle.uvm_acts.specs.declared.acts.Act.{Act}
use Rattle.uvm_acts.specs.declared.acts.Act.TheVariants as act
use Rattle.uvm_acts.specs.declared.port_acts.StoredPortAct.{StoredPortAct}
use Rattle.uvm_acts.specs.declared.port_acts.StoredPortAct.TheVariants.{Put, TryPut, Write, Respond}
use Rattle.uvm_tlm.specs.declared.items.Item.{Item}

-- the action of this kind with this item through this port
abbrev pub act_at : List ℕ → StoredPortAct → Item → Act
act_at port Put item = act.Put port item
act_at port TryPut item = act.TryPut port item
act_at port Write item = act.Write port item
act_at port Respond item = act.ItemDone port (Some item)
