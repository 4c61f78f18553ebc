use Rattle.world_sequencing.proofs.Common.{◌≡◌, ◌+◌, ◌++◌, length, take}
use Rattle.world_sequencing.proofs.start_records.path_below.Given as goal

-- the names so far, and how many they are
abbrev pub invariant-loop-parent : goal.invariant-loop-parent
invariant-loop-parent l = (l.below ≡ l.path ++ take l.parent-index l.names) × (l.depth ≡ length l.path + l.parent-index)
