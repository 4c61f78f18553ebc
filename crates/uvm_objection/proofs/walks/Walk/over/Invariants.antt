use Rattle.uvm_objection.proofs.Common.{◌≡◌, suc, vec_capacity, vec_len, option_map_or}
use Rattle.uvm_objection.proofs.Passing.{Comes}
use Rattle.uvm_objection.proofs.walks.Walk.over.Given as goal

-- the walk has come to the place that is next
abbrev pub invariant-loop-next : goal.invariant-loop-next
invariant-loop-next l =
    Comes l.fn.change l.fn.entries.items l.entries.items l.next l.walk × (vec_capacity l.entries ≡ vec_capacity l.fn.entries) × (vec_len l.entries ≡ vec_len l.fn.entries)

-- a parent stands before its children
abbrev pub decreases-loop-next : goal.decreases-loop-next
decreases-loop-next l = option_map_or suc l.next 0
