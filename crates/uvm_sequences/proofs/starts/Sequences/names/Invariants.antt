use Rattle.uvm_sequences.proofs.Common.{◌≡◌, suc, ◌++◌, Some, filter_map, option_map_or, name_at}
use Rattle.uvm_sequences.proofs.Living.{lineage}
use Rattle.uvm_sequences.proofs.starts.Sequences.names.Given as goal

-- the names so far, and those of who is next and of its ancestors
abbrev pub invariant-loop-next : goal.invariant-loop-next
invariant-loop-next l = l.names.items ++ filter_map (name_at l.self.started) (lineage l.self.started l.next) ≡ filter_map (name_at l.self.started) (lineage l.self.started (Some l.fn.id))

-- a parent has a smaller number
abbrev pub decreases-loop-next : goal.decreases-loop-next
decreases-loop-next l = option_map_or suc l.next 0
