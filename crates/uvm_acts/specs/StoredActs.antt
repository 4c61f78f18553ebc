-- An action of an answer: how it is stored and how it is borrowed.
use Rattle.std.specs.Prelude.{Bool, true, false, None}
use Rattle.uvm_acts.specs.declared.acts.Act.{Act}
use Rattle.uvm_acts.specs.declared.acts.Act.TheVariants as act
use Rattle.uvm_acts.specs.declared.stored_acts.CompactAct.{CompactAct}
use Rattle.uvm_acts.specs.declared.stored_acts.CompactAct.TheVariants.{Request, Lock, Grab, Unlock, EndStep, RaiseObjection, DropObjection, SetDrain, Wait, Send, Take, TryTake, Peek, Ask, Done, AtPort, StartChild, Whole}
use Rattle.uvm_acts.specs.declared.stored_acts.Lent.{Lent}
use Rattle.uvm_acts.specs.declared.stored_acts.Lent.TheVariants as lent

-- the action that a compact form stores
abbrev pub held_act : CompactAct → Act
held_act (Request priority) = act.Request priority
held_act Lock = act.Lock
held_act Grab = act.Grab
held_act Unlock = act.Unlock
held_act EndStep = act.EndStep
held_act (RaiseObjection count) = act.RaiseObjection count
held_act (DropObjection count) = act.DropObjection count
held_act (SetDrain ticks) = act.SetDrain ticks
held_act (Wait tag ticks) = act.Wait ticks tag
held_act (Send item) = act.Send item.value
held_act (Take port) = act.Take port
held_act (TryTake port) = act.TryTake port
held_act (Peek port) = act.Peek port
held_act (Ask how port) = act.Ask port how
held_act (Done port) = act.ItemDone port None
held_act (AtPort stored_act) = stored_act.value
held_act (StartChild stored_act) = stored_act.value
held_act (Whole stored_act) = stored_act.value

-- whether an action holds only numbers or nothing, so that storing it allocates no memory
abbrev pub is_of_numbers : Act → Bool
is_of_numbers (act.Request priority) = true
is_of_numbers act.Lock = true
is_of_numbers act.Grab = true
is_of_numbers act.Unlock = true
is_of_numbers act.EndStep = true
is_of_numbers (act.RaiseObjection count) = true
is_of_numbers (act.DropObjection count) = true
is_of_numbers (act.SetDrain ticks) = true
is_of_numbers (act.Wait ticks tag) = true
is_of_numbers other = false

-- the action to which an `ActRef` refers
abbrev pub act_ref : Lent → Act
act_ref (lent.Made stored_act) = stored_act
act_ref (lent.Whole stored_act) = stored_act.now
