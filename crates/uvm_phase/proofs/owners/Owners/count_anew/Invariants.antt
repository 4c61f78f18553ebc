use Rattle.uvm_phase.proofs.Common.{length, take, CountsEach, owners_of}
use Rattle.uvm_phase.proofs.owners.Owners.count_anew.Given as goal

-- those so far are counted
abbrev pub invariant-loop-due : goal.invariant-loop-due
invariant-loop-due g l =
    (goal.iterator-loop-due g).can_next l.due-iterator ×
    (goal.iterator-loop-due g).is_finite l.due-iterator ×
    CountsEach g.O.PartialEq.eq l.self (owners_of (take (length l.yielded) l.dues.items))
