-- The actions of drivers and of sequences at sequencers.
use Rattle.uvm_acts.specs.declared.acts.Act.{Act}
use Rattle.uvm_acts.specs.declared.acts.Act.TheVariants.{Ask, ItemDone, Start, Request, Lock, Grab, Unlock, Send, EndStep}

-- an action of a driver at a sequencer, a start of a sequence, or an action of a sequence
abbrev pub IsSequencerAct : Act → Type 0
IsSequencerAct (Ask port how) = Unit {0}
IsSequencerAct (ItemDone port response) = Unit {0}
IsSequencerAct (Start type_name name on priority) = Unit {0}
IsSequencerAct (Request priority) = Unit {0}
IsSequencerAct Lock = Unit {0}
IsSequencerAct Grab = Unit {0}
IsSequencerAct Unlock = Unit {0}
IsSequencerAct (Send item) = Unit {0}
IsSequencerAct EndStep = Unit {0}
IsSequencerAct act = ⊥
