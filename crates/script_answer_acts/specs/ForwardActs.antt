-- The forward actions: the actions that pass on the item of the call.
use Rattle.std.specs.Prelude.{ℕ, List, ◌++◌, Some, codes}
use Rattle.uvm_tlm.specs.declared.items.Item.{Item}
use Rattle.uvm_acts.specs.declared.acts.Act.{Act}
use Rattle.uvm_acts.specs.declared.acts.Act.TheVariants as act
use Rattle.script_answer_acts.specs.Sound.{IsName}
use Rattle.script_answer_acts.specs.declared.forward_acts.ForwardAct.{ForwardAct}
use Rattle.script_answer_acts.specs.declared.forward_acts.ForwardAct.TheVariants as forward_act

-- the text of a forward action up to its item, without the blank before the item
abbrev pub forward_act_stem : ForwardAct → List ℕ
forward_act_stem (forward_act.Put port) = codes "put " ++ port
forward_act_stem (forward_act.TryPut port) = codes "try_put " ++ port
forward_act_stem (forward_act.Write port) = codes "write " ++ port
forward_act_stem (forward_act.ItemDone port) = codes "item_done " ++ port
forward_act_stem forward_act.Send = codes "send"

-- the action that a forward action results in for this item
abbrev pub forwarded : ForwardAct → Item → Act
forwarded (forward_act.Put port) item = act.Put port item
forwarded (forward_act.TryPut port) item = act.TryPut port item
forwarded (forward_act.Write port) item = act.Write port item
forwarded (forward_act.ItemDone port) item = act.ItemDone port (Some item)
forwarded forward_act.Send item = act.Send item

-- the port of the forward action has a valid name; `send` has no port
abbrev pub HasName : ForwardAct → Type 0
HasName (forward_act.Put port) = IsName port
HasName (forward_act.TryPut port) = IsName port
HasName (forward_act.Write port) = IsName port
HasName (forward_act.ItemDone port) = IsName port
HasName forward_act.Send = Unit {0}
