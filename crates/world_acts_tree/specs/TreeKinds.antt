-- The actions on the tree, the factory, fields, reports and objections, and waits.
use Rattle.uvm_acts.specs.declared.acts.Act.{Act}
use Rattle.uvm_acts.specs.declared.acts.Act.TheVariants.{Create, Add, Set, Get, OverrideType, OverrideInst, Connect, Report, Verbosity, Actions, Severity, RaiseObjection, DropObjection, SetDrain, Wait}

-- an action on the tree, the factory, fields, reports or objections, or a wait
abbrev pub IsTreeAct : Act → Type 0
IsTreeAct (Create type_name name) = Unit {0}
IsTreeAct (Add name what) = Unit {0}
IsTreeAct (Set glob field value) = Unit {0}
IsTreeAct (Get field) = Unit {0}
IsTreeAct (OverrideType original new replace) = Unit {0}
IsTreeAct (OverrideInst original new glob) = Unit {0}
IsTreeAct (Connect from to) = Unit {0}
IsTreeAct (Report report) = Unit {0}
IsTreeAct (Verbosity which level) = Unit {0}
IsTreeAct (Actions which actions) = Unit {0}
IsTreeAct (Severity from id to) = Unit {0}
IsTreeAct (RaiseObjection count) = Unit {0}
IsTreeAct (DropObjection count) = Unit {0}
IsTreeAct (SetDrain ticks) = Unit {0}
IsTreeAct (Wait ticks tag) = Unit {0}
IsTreeAct act = ⊥
